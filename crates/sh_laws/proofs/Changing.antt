-- What a turn changes.
use Rattle.std.proofs.Common.{◌≡◌, ℕ, ◌<◌, List, [], ◌∷◌, ◌++◌, Bool, true, false, ◌||◌, Option, Some, None, refl, sym, ap, ◌∙◌, subst, arith}
use Rattle.sh_exec.specs.Turns.{turn}
use Rattle.sh_exec.specs.Tasks.{pid_of}
use Rattle.sh_exec.specs.declared.task.Task.{Task}
use Rattle.sh_laws.specs.Forking.{UnmadeReachNothing, after_child}
use Rattle.sh_laws.proofs.RequestChanges.{forking_changes, forking_grows}
use Rattle.sh_laws.proofs.RequestLists.{changes_reached, reaches_as_before}
use Rattle.sh_laws.proofs.Reaching.{forking_reaches}
use Rattle.sh_laws.proofs.Unmade.{unmade_stay, unmade_stay_forking}
use Rattle.sh_exec_machine.specs.Forking.{fork_of}
use Rattle.sh_exec_turns.specs.Groups.{behind_fork_by, given_terminal, leader}
use Rattle.sh_kernel_descriptors.specs.Machine.{MachineState}
use Rattle.sh_kernel_processes.specs.Processes.{next_pid}
use Rattle.sh_kernel.specs.Calls.{after_set_group}
use Rattle.sh_kernel.specs.Laws.{ChangesOnlyReached, OnlyGrows, ReachesNoMore, opens, sends}
use Rattle.sh_kernel.specs.Requests.{Request, SetAction, after_request, after_requests}
use Rattle.sh_kernel.specs.State.{KernelState}
use Rattle.sh_kernel.proofs.Frames.{requests_change}
use Rattle.sh_kernel.proofs.Growing.{grows_then, requests_grow}
use Rattle.sh_kernel_machine.proofs.Lists.{or_left, or_right}
use Rattle.sh_kernel.proofs.Reached.{changes_then, lists_grow, reach_no_more, reaches_then}
use Rattle.sh_stock.specs.Asking.{Meaning}
use Rattle.sh_laws.specs.Requests.{ByRequests, ChangesByRequests, after_all, directory_of, number_of, opens_by, sends_by}
use Rattle.sh_laws.proofs.Lists.{by_then, fork_by, opens_append, own_more}
use Rattle.sh_laws.proofs.Processes.{turn_keeps}
use Rattle.sh_laws.proofs.TurnRequests.{IsForked, IsKept, after_making, set_requests}
use Rattle.sh_kernel_processes.specs.declared.member.SignalAction.{SignalAction}
use Rattle.sh_signal.specs.declared.signal.Signal.{Signal}

both_false : (a b : Bool) → a ≡ false → b ≡ false → (a || b) ≡ false
both_false a b h k = ap (λ (x : Bool). x || b) h ∙ k

sends_append : (s : KernelState) (rs more : List (ℕ × Request)) → sends_by s (rs ++ more) ≡ (sends_by s rs || sends_by (after_all s rs) more)
sends_append s [] more = refl
sends_append s (r ∷ rs) more =
    ap (λ (b : Bool). sends s r.0 r.1 || b) (sends_append (after_request s r.0 r.1) rs more) ∙ or_assoc (sends s r.0 r.1) (sends_by (after_request s r.0 r.1) rs) (sends_by (after_all s (r ∷ rs)) more)
  where
    or_assoc : (a b c : Bool) → (a || (b || c)) ≡ ((a || b) || c)
    or_assoc true b c = refl
    or_assoc false b c = refl

-- groups, and signals that a new process ignores, change nothing that it has open
given_machine : (is_foreground : Bool) (others : List ℕ) (child : ℕ) (s : KernelState) → (given_terminal is_foreground others child s).machine ≡ s.machine
given_machine true [] child s = refl
given_machine true (first ∷ more) child s = refl
given_machine false others child s = refl

-- what a process does with signals is no part of the machine
set_machine : (own : List (Signal × SignalAction)) (child : ℕ) (s : KernelState) → (after_requests s child (set_requests own)).machine ≡ s.machine
set_machine [] child s = refl
set_machine (own ∷ others) child s = set_machine others child (after_request s child (SetAction own.0 own.1))

own_machine : (own : List (Signal × SignalAction)) (child : Option ℕ) (s : KernelState) → (after_child s child (set_requests own)).machine ≡ s.machine
own_machine own None s = refl
own_machine own (Some child) s = set_machine own child s

behind_machine : (control : Bool) (pid : ℕ) (is_foreground : Bool) (others : List ℕ) (child : Option ℕ) (s : KernelState)
    → (behind_fork_by control pid is_foreground others child s).machine ≡ s.machine
behind_machine true pid is_foreground others None s = refl
behind_machine true pid is_foreground others (Some child) s = given_machine is_foreground others child (after_set_group s child (leader others child))
behind_machine false pid true others child s = refl
behind_machine false pid false others None s = refl
behind_machine false pid false others (Some child) s = refl

-- what isn't quiet was told
told : (a b : Bool) → (a ≡ false → b ≡ false) → b ≡ true → a ≡ true
told true b quiet h = refl
told false b quiet h = let none = quiet refl in absurd (cc)

-- what is true along a turn: the files that may have changed are among those that its requests opened; and if a signal was sent, one of the
-- requests sent it
record Along (s : KernelState) (pid : ℕ) (directory : List ℕ) (made : Option ℕ) (t : KernelState) : Type 0 where
  asked : ByRequests pid made directory s t
  op : ℕ → Bool
  within : (node : ℕ) → opens_by s asked.0 node ≡ false → op node ≡ false
  sent : Bool
  quiet : sends_by s asked.0 ≡ false → sent ≡ false
  changes : ChangesOnlyReached pid sent op s.machine t.machine
  less : ReachesNoMore pid op s.machine t.machine
  grows : OnlyGrows s.machine t.machine
  unmade : UnmadeReachNothing t.machine

abbrev of_process : ℕ → Request → ℕ × Request
of_process pid r = (pid, r)

module _ (s : KernelState) (pid : ℕ) (directory : List ℕ) (born : pid < next_pid s.machine.processes) where
  still_born : (t : KernelState) → OnlyGrows s.machine t.machine → pid < next_pid t.machine.processes
  still_born t grows = omega (arith, born, grows.processes)

  one_within : (t : KernelState) (rs : List (ℕ × Request)) (r : Request) (op : ℕ → Bool) → t ≡ after_all s rs → ((node : ℕ) → opens_by s rs node ≡ false → op node ≡ false)
      → (node : ℕ) → opens_by s (rs ++ of_process pid r ∷ []) node ≡ false → (op node || opens t.machine r node) ≡ false
  one_within t rs r op is within node h =
      let x = of_process pid r in
      let two = sym (opens_append s rs (x ∷ []) node) ∙ h in
      let last = or_right (opens_by s rs node) (opens_by (after_all s rs) (x ∷ []) node) two in
      both_false (op node) (opens t.machine r node) (within node (or_left (opens_by s rs node) (opens_by (after_all s rs) (x ∷ []) node) two))
      (subst (λ (u : KernelState). opens u.machine r node ≡ false) (sym is) (or_left (opens (after_all s rs).machine r node) false last))

  one_quiet : (t : KernelState) (rs : List (ℕ × Request)) (r : Request) (sent : Bool) → t ≡ after_all s rs → (sends_by s rs ≡ false → sent ≡ false) → sends_by s (rs ++ of_process pid r ∷ []) ≡ false → (sent || sends t pid r) ≡ false
  one_quiet t rs r sent is quiet h =
      let x = of_process pid r in
      let two = sym (sends_append s rs (x ∷ [])) ∙ h in
      let last = or_right (sends_by s rs) (sends_by (after_all s rs) (x ∷ [])) two in
      both_false sent (sends t pid r) (quiet (or_left (sends_by s rs) (sends_by (after_all s rs) (x ∷ [])) two)) (subst (λ (u : KernelState). sends u pid r ≡ false) (sym is) (or_left (sends (after_all s rs) pid r) false last))

  one_along : (made : Option ℕ) → IsKept directory pid (Along s pid directory made)
  one_along made t r f a =
      let u = after_request t pid r in
      record {
        asked = own_more pid directory made s t r f a.asked;
        op = λ node. a.op node || opens t.machine r node;
        within = one_within t a.asked.0 r a.op a.asked.1.1 a.within;
        sent = a.sent || sends t pid r;
        quiet = one_quiet t a.asked.0 r a.sent a.asked.1.1 a.quiet;
        changes = changes_then pid a.sent (sends t pid r) a.op (opens t.machine r) s.machine t.machine u.machine a.grows a.less a.changes (requests_change t pid r);
        less = reaches_then pid a.op (opens t.machine r) s.machine t.machine u.machine a.grows a.less (reach_no_more t pid r);
        grows = grows_then s.machine t.machine u.machine a.grows (requests_grow t pid r);
        unmade = unmade_stay t pid r (still_born t a.grows) a.unmade;
      }

  forks_along : IsForked pid (Along s pid directory)
  forks_along t before writes own control is_foreground others a =
      let f = fork_of t pid before writes in
      let u = after_making t pid before writes own control is_foreground others in
      let set = after_child f.after f.child (set_requests own) in
      let same : u.machine ≡ f.after.machine = behind_machine control pid is_foreground others f.child set ∙ own_machine own f.child f.after in
      let more = fork_by pid directory t before writes own control is_foreground others in
      let changes = subst (λ (m : MachineState). ChangesOnlyReached pid false (λ node. false) t.machine m) (sym same) (forking_changes t pid before writes a.unmade) in
      let less = subst (λ (m : MachineState). ReachesNoMore pid (λ node. false) t.machine m) (sym same) (forking_reaches t pid before writes a.unmade) in
      let grows = subst (λ (m : MachineState). OnlyGrows t.machine m) (sym same) (forking_grows t pid before writes) in
      record {
        asked = by_then pid directory f.child s t u a.asked more;
        op = λ node. a.op node || false;
        within = λ node h. both_false (a.op node) false (a.within node (or_left (opens_by s a.asked.0 node) (opens_by (after_all s a.asked.0) more.0 node) (sym (opens_append s a.asked.0 more.0 node) ∙ h))) refl;
        sent = a.sent || false;
        quiet = λ h. both_false a.sent false (a.quiet (or_left (sends_by s a.asked.0) (sends_by (after_all s a.asked.0) more.0) (sym (sends_append s a.asked.0 more.0) ∙ h))) refl;
        changes = changes_then pid a.sent false a.op (λ node. false) s.machine t.machine u.machine a.grows a.less a.changes changes;
        less = reaches_then pid a.op (λ node. false) s.machine t.machine u.machine a.grows a.less less;
        grows = grows_then s.machine t.machine u.machine a.grows grows;
        unmade = subst (λ (m : MachineState). UnmadeReachNothing m) (sym same) (unmade_stay_forking t pid before writes (still_born t a.grows) a.unmade);
      }

  start_along : UnmadeReachNothing s.machine → Along s pid directory None s
  start_along none = record {
    asked = ([], (tt, refl));
    op = λ node. false;
    within = λ node h. refl;
    sent = false;
    quiet = λ h. refl;
    changes = changes_reached s pid [] (λ node. refl) refl;
    less = reaches_as_before s pid [] (λ node. refl);
    grows = lists_grow s pid [];
    unmade = none;
  }

  of_along : (made : Option ℕ) (t : KernelState) → Along s pid directory made t → ChangesByRequests pid made directory s t
  of_along made t a =
      let c = a.changes in
      record {
        requests = a.asked.0;
        of_process = a.asked.1.0;
        after = a.asked.1.1;
        changes = record {
          pipes = λ pipe within h none. c.pipes pipe within h (λ sent. none (told (sends_by s a.asked.0) a.sent a.quiet sent));
          files = λ node within h unopened. c.files node within h (a.within node unopened);
          descriptions = c.descriptions;
          descriptors = λ q n born alive. c.descriptors q n born (λ sent. alive (told (sends_by s a.asked.0) a.sent a.quiet sent));
          processes = λ q n born none. c.processes q n born (a.quiet none);
          makers = c.makers;
          ended = c.ended;
        };
        reaches = record {
          pipes = a.less.pipes;
          files = λ node h unopened. a.less.files node h (a.within node unopened);
          descriptions = a.less.descriptions;
          others = a.less.others;
        };
        grows = a.grows;
        unmade = a.unmade;
      }

pub turns_change : {S : Type 0} (m : Meaning S) (s : KernelState) (task : Task S) → pid_of task < next_pid s.machine.processes → UnmadeReachNothing s.machine
    → let t = turn m s task in ChangesByRequests (pid_of task) (number_of t.child) (directory_of task) s t.machine
turns_change m s task born none =
    let pid = pid_of task in
    let directory = directory_of task in
    let t = turn m s task in
    of_along s pid directory born (number_of t.child) t.machine
    (turn_keeps m directory pid (Along s pid directory) (one_along s pid directory born) (forks_along s pid directory born) s task refl refl (start_along s pid directory born none))
