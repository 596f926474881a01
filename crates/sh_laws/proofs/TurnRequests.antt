-- Lists of requests, and what a process does by them.
use Rattle.std.proofs.Common.{ℕ, List, [], ◌∷◌, ◌++◌, Bool, true, false, Option, Some, None, Result, Ok, Err, refl, sym, subst}
use Rattle.std.specs.Prelude.{◌&&◌, not, if◌then◌else◌, is_some}
use Rattle.sh_exec_parts.specs.declared.redirection.Action.{Action}
use Rattle.sh_exec_parts.specs.declared.redirection.Action.TheVariants as action
use Rattle.sh_exec_parts.specs.declared.redirection.Redirection.{Redirection}
use Rattle.sh_exec_machine.specs.Forking.{Forked, fork_of}
use Rattle.sh_exec_machine.specs.Redirecting.{is_itself, action_outcome, redirection_outcome}
use Rattle.sh_exec_machine.specs.Transfers.{give_bytes, take_bytes}
use Rattle.sh_exec_machine.specs.Undoing.{after_redirections}
use Rattle.sh_exec_machine.specs.declared.undone.Undone.{Undone}
use Rattle.sh_exec_machine.specs.declared.undone.Undone.TheVariants as undone
use Rattle.sh_laws.specs.Forking.{after_child, behind_fork, dropping, end_aside, in_child, laying, moving, new_process, taking_up, with_fork}
use Rattle.sh_laws.specs.Redirecting.{back_after, keeping, placing, placing_by, redirecting, redirecting_to}
use Rattle.sh_laws.specs.Undoing.{undoing, undoing_one}
use Rattle.sh_laws.proofs.Forking.{forked_is}
use Rattle.sh_laws.proofs.Redirecting.{giving_is, redirecting_is, taking_is}
use Rattle.sh_laws.proofs.Undoing.{undoing_is}
use Rattle.sh_kernel_descriptors.specs.declared.descriptor.DescriptorRef.{DescriptorRef}
use Rattle.sh_kernel_descriptors.specs.declared.fault.KernelFault.{KernelFault}
use Rattle.sh_kernel.specs.Calls.{set_aside_call}
use Rattle.sh_builtin_shell.specs.Shells.{own_group}
use Rattle.sh_kernel.specs.Requests.{Request, Fork, Read, SetAction, SetAside, SetForeground, SetGroup, Write, after_request, after_requests}
use Rattle.sh_kernel_processes.specs.declared.member.SignalAction.{SignalAction}
use Rattle.sh_kernel_processes.specs.declared.member.SignalAction.TheVariants.{Ignored}
use Rattle.sh_signal.specs.declared.signal.Signal.{Signal}
use Rattle.sh_signal.specs.declared.signal.Signal.TheVariants.{Interrupt, Quit}
use Rattle.sh_exec_turns.specs.Groups.{behind_fork_by, given_terminal, leader}
use Rattle.sh_kernel.specs.State.{KernelState}
use Rattle.sh_laws.specs.Requests.{IsFrom}

abbrev pub IsKept : List ℕ → ℕ → (KernelState → Type 0) → Type 0
IsKept directory pid P = (s : KernelState) (r : Request) → IsFrom directory r → P s → P (after_request s pid r)

-- a process that ignores INT and QUIT from now on
abbrev pub ignoring_requests : List Request
ignoring_requests = SetAction Interrupt Ignored ∷ SetAction Quit Ignored ∷ []

-- what a process does with some signals from now on
abbrev pub set_requests : List (Signal × SignalAction) → List Request
set_requests [] = []
set_requests (own ∷ others) = SetAction own.0 own.1 ∷ set_requests others

-- a process makes another one, which may do other things with signals, come into a group, or be to ignore some signals
abbrev pub after_making : KernelState → ℕ → (before : Option ℕ) → (writes : Bool) → (own : List (Signal × SignalAction)) → (control is_foreground : Bool) → (others : List ℕ) → KernelState
after_making s pid before writes own control is_foreground others =
    let f = fork_of s pid before writes in behind_fork_by control pid is_foreground others f.child (after_child f.after f.child (set_requests own))

-- what is kept where a process makes another one, whose number is told
abbrev pub IsForked : ℕ → (Option ℕ → KernelState → Type 0) → Type 0
IsForked pid P =
    (s : KernelState) (before : Option ℕ) (writes : Bool) (own : List (Signal × SignalAction)) (control is_foreground : Bool) (others : List ℕ) → P None s
    → P (fork_of s pid before writes).child (after_making s pid before writes own control is_foreground others)

module _ (directory : List ℕ) where
  abbrev pub ListFrom : List Request → Type 0
  ListFrom [] = Unit {0}
  ListFrom (r ∷ rs) = IsFrom directory r × ListFrom rs

  all_append : (xs ys : List Request) → ListFrom xs → ListFrom ys → ListFrom (xs ++ ys)
  all_append [] ys a b = b
  all_append (x ∷ xs) ys a b = (a.0, all_append xs ys a.1 b)

  setting_from : (own : List (Signal × SignalAction)) → ListFrom (set_requests own)
  setting_from [] = tt
  setting_from (own ∷ others) = (tt, setting_from others)

  laying_from : (writes : Bool) → ListFrom (laying writes)
  laying_from false = tt
  laying_from true = (tt, (tt, tt))

  taking_up_from : (before : Option ℕ) → ListFrom (taking_up before)
  taking_up_from None = tt
  taking_up_from (Some aside) = (tt, tt)

  with_fork_from : (before : Option ℕ) (writes : Bool) → ListFrom (with_fork before writes)
  with_fork_from before writes = all_append (laying writes ++ taking_up before) (Fork ∷ []) (all_append (laying writes) (taking_up before) (laying_from writes) (taking_up_from before)) (tt, tt)

  moving_from : (b : Bool) (from to : ℕ) → ListFrom (moving b from to)
  moving_from false from to = tt
  moving_from true from to = (tt, (tt, tt))

  in_child_from : (before : Option ℕ) (writes : Bool) → ListFrom (in_child before writes)
  in_child_from before writes = all_append (moving (is_some before) 10 0) (moving writes 11 1) (moving_from (is_some before) 10 0) (moving_from writes 11 1)

  dropping_from : (child aside : Option ℕ) → ListFrom (dropping child aside)
  dropping_from (Some child) aside = tt
  dropping_from None None = tt
  dropping_from None (Some aside) = (tt, tt)

  behind_fork_from : (child aside : Option ℕ) → ListFrom (behind_fork child aside)
  behind_fork_from child aside = (tt, (tt, dropping_from child aside))

  one_from : (stay : Bool) (u : Undone) → ListFrom (undoing_one stay u)
  one_from false (undone.Restore aside number) = (tt, tt)
  one_from false (undone.Close number) = (tt, tt)
  one_from true (undone.Restore aside number) = (tt, (tt, tt))
  one_from true (undone.Close number) = tt

  undoing_from : (stay : Bool) (us : List Undone) → ListFrom (undoing stay us)
  undoing_from stay [] = tt
  undoing_from stay (u ∷ us) = all_append (undoing stay us) (undoing_one stay u) (undoing_from stay us) (one_from stay u)

  placing_from : (number : ℕ) (word : List ℕ) (a : Action) → ListFrom (placing_by directory number word a)
  placing_from number word (action.Open how append) = (refl, tt)
  placing_from number word (action.Duplicate None) = tt
  placing_from number word (action.Duplicate (Some from)) = (tt, tt)
  placing_from number word action.Close = (tt, tt)
  placing_from number word (action.Here bytes) = (tt, tt)

  back_from : (aside number : ℕ) (answer : Result (Unit {0}) KernelFault) → ListFrom (back_after aside number answer)
  back_from aside number (Ok t) = tt
  back_from aside number (Err f) = (tt, tt)

  keeping_from : (s : KernelState) (pid number : ℕ) (r : Redirection) (answer : Result ℕ KernelFault) → ListFrom (keeping s pid directory number r answer)
  keeping_from s pid number r (Ok aside) =
      all_append (placing directory number r) (back_after aside number (action_outcome s pid directory number r).answer) (placing_from number r.word r.action) (back_from aside number (action_outcome s pid directory number r).answer)
  keeping_from s pid number r (Err f) = placing_from number r.word r.action

  redirecting_from : (keeps : Bool) (s : KernelState) (pid : ℕ) (r : Redirection) (o : Option ℕ) → ListFrom (redirecting_to keeps s pid directory r o)
  redirecting_from keeps s pid r None = tt
  redirecting_from keeps s pid r (Some number) = at (keeps && not (is_itself number r.action))
    where
      at : (b : Bool) → ListFrom (if b then SetAside number ∷ keeping (set_aside_call s pid number).after pid directory number r (set_aside_call s pid number).answer else placing directory number r)
      at true = (tt, keeping_from (set_aside_call s pid number).after pid number r (set_aside_call s pid number).answer)
      at false = placing_from number r.word r.action

  module _ (pid : ℕ) (P : KernelState → Type 0) (kept : IsKept directory pid P) where
    pub list_keeps : (rs : List Request) → ListFrom rs → (s : KernelState) → P s → P (after_requests s pid rs)
    list_keeps [] a s p = p
    list_keeps (r ∷ rs) a s p = list_keeps rs a.1 (after_request s pid r) (kept s r a.0 p)

    pub redirect_keeps : (keeps : Bool) (s : KernelState) (r : Redirection) → P s → P (redirection_outcome keeps s pid directory r).after
    redirect_keeps keeps s r p = subst P (sym (redirecting_is keeps s pid directory r)) (list_keeps (redirecting keeps s pid directory r) (redirecting_from keeps s pid r r.number) s p)

    pub undo_keeps : (stay : Bool) (us : List Undone) (s : KernelState) → P s → P (after_redirections stay pid us s)
    undo_keeps stay us s p = subst P (sym (undoing_is stay pid us s)) (list_keeps (undoing stay us) (undoing_from stay us) s p)

    pub take_keeps : (s : KernelState) (name : DescriptorRef) (count : ℕ) → P s → P (take_bytes s pid name count).after
    take_keeps s name count p = subst P (sym (taking_is s pid name count)) (kept s (Read name count) tt p)

    pub give_keeps : (s : KernelState) (number : ℕ) (bytes : List ℕ) → P s → P (give_bytes s pid number bytes).after
    give_keeps s number bytes p = subst P (sym (giving_is s pid number bytes)) (kept s (Write number bytes) tt p)

  -- what is kept by the requests of a process and of the one that it makes, whose number it is told
  module _ (pid : ℕ) (P : Option ℕ → KernelState → Type 0) (kept : (made : Option ℕ) → IsKept directory pid (P made))
      (born : (s : KernelState) (child : ℕ) → P None s → P (Some child) s) (inside : (child : ℕ) → IsKept directory child (P (Some child))) where
    child_keeps : (s : KernelState) (child : Option ℕ) (rs : List Request) → ListFrom rs → P None s → P child (after_child s child rs)
    child_keeps s None rs a p = p
    child_keeps s (Some child) rs a p = list_keeps child (P (Some child)) (inside child) rs a s (born s child p)

    made_keeps : (s : KernelState) (before : Option ℕ) (writes : Bool) → P None s → P (fork_of s pid before writes).child (fork_of s pid before writes).after
    made_keeps s before writes p =
        let child = new_process s pid before writes in
        let first = list_keeps pid (P None) (kept None) (with_fork before writes) (with_fork_from before writes) s p in
        let with_child = child_keeps (after_requests s pid (with_fork before writes)) child (in_child before writes) (in_child_from before writes) first in
        let all = list_keeps pid (P child) (kept child) (behind_fork child (end_aside s pid writes)) (behind_fork_from child (end_aside s pid writes)) (after_child (after_requests s pid (with_fork before writes)) child (in_child before writes)) with_child in
        subst (λ (f : Forked). P f.child f.after) (sym (forked_is s pid before writes)) all

    given_keeps : (is_foreground : Bool) (others : List ℕ) (child : ℕ) (s : KernelState) → P (Some child) s → P (Some child) (given_terminal is_foreground others child s)
    given_keeps true [] child s p = kept (Some child) s (SetForeground child) tt p
    given_keeps true (first ∷ more) child s p = p
    given_keeps false others child s p = p

    behind_keeps : (control is_foreground : Bool) (others : List ℕ) (child : Option ℕ) (s : KernelState) → P child s → P child (behind_fork_by control pid is_foreground others child s)
    behind_keeps true is_foreground others None s p = kept None s (SetForeground (own_group s pid)) tt p
    behind_keeps true is_foreground others (Some child) s p =
        let group = leader others child in
        given_keeps is_foreground others child (after_request s pid (SetGroup child group)) (kept (Some child) s (SetGroup child group) tt p)
    behind_keeps false true others child s p = p
    behind_keeps false false others None s p = p
    behind_keeps false false others (Some child) s p = list_keeps child (P (Some child)) (inside child) ignoring_requests (tt, (tt, tt)) s p

    own_keeps : (s : KernelState) (child : Option ℕ) (own : List (Signal × SignalAction)) → P child s → P child (after_child s child (set_requests own))
    own_keeps s None own p = p
    own_keeps s (Some child) own p = list_keeps child (P (Some child)) (inside child) (set_requests own) (setting_from own) s p

    pub fork_keeps : IsForked pid P
    fork_keeps s before writes own control is_foreground others p =
        let f = fork_of s pid before writes in
        behind_keeps control is_foreground others f.child (after_child f.after f.child (set_requests own)) (own_keeps f.after f.child own (made_keeps s before writes p))
