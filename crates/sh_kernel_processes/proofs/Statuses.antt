-- Signals, and the end of a process, change only the status of processes that live.
use Rattle.std.proofs.Common.{◌≡◌, ℕ, zero, suc, ◌-◌, ◌==◌, List, [], ◌∷◌, length, Bool, true, false, not, cond, Option, Some, None, slice_get, slice_set, refl, sym, ap, subst, ◌∙◌, option_map, nat_le}
use Rattle.std.specs.Prelude.{find}
use Rattle.std.proofs.lemmas.Bool.{eqb-true}
use Rattle.sh_kernel_processes.specs.Processes.{has_ended, is_ended, is_live, is_living, parent_at, process_at, status_at, with_status, with_status_of}
use Rattle.sh_kernel_processes.specs.declared.process.Process.{Process}
use Rattle.sh_kernel_processes.specs.declared.process.Status.{Status}
use Rattle.sh_kernel_processes.specs.declared.process.Status.TheVariants.{Running, Stopped, Exited, Signaled}
use Rattle.sh_kernel_processes.specs.Delivery.{action_of, after_action, after_continuing, after_default, after_delivery, after_each_kept, after_keeping, after_kept, after_kept_by, after_signal, after_signal_by, is_same, may_stop, running_again, with_kept}
use Rattle.sh_kernel_processes.specs.Groups.{ProcessTable, is_orphaned, member_at}
use Rattle.sh_kernel_processes.specs.Laws.{EndsChangeOnlyStatuses, OnlyStatuses, SignalsChangeOnlyStatuses}
use Rattle.sh_kernel_processes.specs.Sending.{after_end, after_hang_up, after_hang_up_by, after_hang_ups, after_notice, after_notice_to, after_orphaning, after_receipt, after_receipt_by, after_send, after_signal_to, after_signal_to_each, groups_at_risk, is_abandoned, is_news, is_reached, pids_of, with_exit}
use Rattle.sh_kernel_processes.specs.Sets.{has}
use Rattle.sh_kernel_processes.specs.declared.delivery.Recipient.{Recipient}
use Rattle.sh_kernel_processes.specs.declared.member.Member.{Member}
use Rattle.sh_kernel_processes.specs.declared.member.SignalAction.{SignalAction}
use Rattle.sh_kernel_processes.specs.declared.member.SignalAction.TheVariants.{Default, Ignored, Caught}
use Rattle.sh_kernel_processes.specs.declared.set.SignalSet.{SignalSet}
use Rattle.sh_kernel_processes.specs.declared.target.SignalTarget.{SignalTarget}
use Rattle.sh_kernel_processes.specs.declared.target.SignalTarget.TheVariants as target
use Rattle.sh_signal.specs.Signals.{default_of, number_of, signals}
use Rattle.sh_signal.specs.declared.signal.DefaultAction.{DefaultAction}
use Rattle.sh_signal.specs.declared.signal.DefaultAction.TheVariants as default
use Rattle.sh_signal.specs.declared.signal.Signal.{Signal}
use Rattle.sh_signal.specs.declared.signal.Signal.TheVariants.{Child, Continue, Hangup, Kill}

pub statuses_same : (ps : List Process) → OnlyStatuses ps ps
statuses_same ps = record { count = refl; makers = λ _. refl; ended = λ _ _. refl }

pub statuses_then : (a b c : List Process) → OnlyStatuses a b → OnlyStatuses b c → OnlyStatuses a c
statuses_then a b c f g = record {
  count = g.count ∙ f.count;
  makers = λ pid. g.makers pid ∙ f.makers pid;
  ended = λ pid h. g.ended pid (ap is_ended (f.ended pid h) ∙ h) ∙ f.ended pid h;
}

-- ---- a process in the place of one with its maker
length_set : (ps : List Process) (i : ℕ) (x : Process) → length (slice_set ps i x) ≡ length ps
length_set [] i x = refl
length_set (y ∷ ps) zero x = refl
length_set (y ∷ ps) (suc i) x = ap (λ k. suc k) (length_set ps i x)

set_maker : (ps : List Process) (i j : ℕ) (p x : Process) → slice_get ps i ≡ Some p → x.maker ≡ p.maker → option_map (λ (z : Process). z.maker) (slice_get (slice_set ps i x) j) ≡ option_map (λ (z : Process). z.maker) (slice_get ps j)
set_maker [] i j p x h e = refl
set_maker (y ∷ ps) zero zero p x h e = let same : p ≡ y = cc in ap (λ (k : ℕ). Some k) (e ∙ ap (λ (z : Process). z.maker) same)
set_maker (y ∷ ps) zero (suc j) p x h e = refl
set_maker (y ∷ ps) (suc i) zero p x h e = refl
set_maker (y ∷ ps) (suc i) (suc j) p x h e = set_maker ps i j p x h e

set_ended : (ps : List Process) (i j : ℕ) (p x : Process) → slice_get ps i ≡ Some p → (is_living p ≡ false → x ≡ p) → is_ended (slice_get ps j) ≡ true → slice_get (slice_set ps i x) j ≡ slice_get ps j
set_ended [] i j p x h e t = refl
set_ended (y ∷ ps) zero zero p x h e t =
    let same : p ≡ y = cc in
    ap (λ (z : Process). Some z) (e (ap is_living same ∙ of_not (is_living y) t) ∙ same)
  where
    of_not : (b : Bool) → not b ≡ true → b ≡ false
    of_not true h = absurd (cc)
    of_not false h = refl
set_ended (y ∷ ps) zero (suc j) p x h e t = refl
set_ended (y ∷ ps) (suc i) zero p x h e t = refl
set_ended (y ∷ ps) (suc i) (suc j) p x h e t = set_ended ps i j p x h e t

place_of : (ps : List Process) (pid : ℕ) (p : Process) → process_at ps pid ≡ Some p → slice_get ps (pid - 100) ≡ Some p
place_of ps pid p h = of_test (nat_le 100 pid) h
  where
    of_test : (b : Bool) → cond b (slice_get ps (pid - 100)) None ≡ Some p → slice_get ps (pid - 100) ≡ Some p
    of_test true h = h
    of_test false h = absurd (cc)

at_maker : (ps : List Process) (i q : ℕ) (p x : Process) → slice_get ps i ≡ Some p → x.maker ≡ p.maker → option_map (λ (z : Process). z.maker) (process_at (slice_set ps i x) q) ≡ option_map (λ (z : Process). z.maker) (process_at ps q)
at_maker ps i q p x h e =
    elim (nat_le 100 q) as (λ b. option_map (λ (z : Process). z.maker) (cond b (slice_get (slice_set ps i x) (q - 100)) None) ≡ option_map (λ (z : Process). z.maker) (cond b (slice_get ps (q - 100)) None)) [ true ↦ set_maker ps i (q - 100) p x h e | false ↦ refl ]

at_ended : (ps : List Process) (i q : ℕ) (p x : Process) → slice_get ps i ≡ Some p → (is_living p ≡ false → x ≡ p) → has_ended ps q ≡ true → process_at (slice_set ps i x) q ≡ process_at ps q
at_ended ps i q p x h e ended = of_test (nat_le 100 q) ended
  where
    of_test : (b : Bool) → is_ended (cond b (slice_get ps (q - 100)) None) ≡ true → cond b (slice_get (slice_set ps i x) (q - 100)) None ≡ cond b (slice_get ps (q - 100)) None
    of_test true t = set_ended ps i (q - 100) p x h e t
    of_test false t = refl

-- a process gets a status, its own where it has ended
pub status_changes : (ps : List Process) (pid : ℕ) (status : Status) → ((p : Process) → process_at ps pid ≡ Some p → is_living p ≡ false → status ≡ p.status) → OnlyStatuses ps (with_status ps pid status)
status_changes ps pid status same = of_process (process_at ps pid) refl
  where
    of_process : (o : Option Process) → process_at ps pid ≡ o → OnlyStatuses ps (with_status_of ps pid status o)
    of_process None is = statuses_same ps
    of_process (Some p) is = record {
      count = length_set ps (pid - 100) (record p { status = status });
      makers = λ q. at_maker ps (pid - 100) q p (record p { status = status }) (place_of ps pid p is) refl;
      ended = λ q h. at_ended ps (pid - 100) q p (record p { status = status }) (place_of ps pid p is) (λ over. ap (λ (s : Status). record p { status = s }) (same p is over)) h;
    }

-- ---- a signal leaves a process its number
default_pid : (orphaned : Bool) (r : Recipient) (signal : Signal) (does : DefaultAction) → (after_default orphaned r signal does).member.pid ≡ r.member.pid
default_pid orphaned r signal default.End = refl
default_pid orphaned r signal default.Ignore = refl
default_pid orphaned r signal default.Continue = refl
default_pid orphaned r signal default.Stop =
    elim (may_stop orphaned signal) as (λ b. (cond b (record r { status = Stopped (number_of signal) }) r).member.pid ≡ r.member.pid) [ true ↦ refl | false ↦ refl ]

action_pid : (orphaned : Bool) (r : Recipient) (signal : Signal) (action : SignalAction) → (after_action orphaned r signal action).member.pid ≡ r.member.pid
action_pid orphaned r signal Default = default_pid orphaned r signal (default_of signal)
action_pid orphaned r signal Ignored = refl
action_pid orphaned r signal Caught = refl

delivery_pid : (orphaned : Bool) (r : Recipient) (signal : Signal) → (after_delivery orphaned r signal).member.pid ≡ r.member.pid
delivery_pid orphaned r signal = action_pid orphaned r signal (action_of r.member signal)

kept_by_pid : (orphaned : Bool) (r : Recipient) (signal : Signal) (status : Status) → (after_kept_by orphaned r signal status).member.pid ≡ r.member.pid
kept_by_pid orphaned r signal Running = delivery_pid orphaned r signal
kept_by_pid orphaned r signal (Stopped by_signal) = refl
kept_by_pid orphaned r signal (Exited status) = refl
kept_by_pid orphaned r signal (Signaled by_signal) = refl

kept_pid : (orphaned : Bool) (kept : SignalSet) (r : Recipient) (signal : Signal) → (after_kept orphaned kept r signal).member.pid ≡ r.member.pid
kept_pid orphaned kept r signal =
    elim (has kept signal) as (λ b. (cond b (after_kept_by orphaned r signal r.status) r).member.pid ≡ r.member.pid) [ true ↦ kept_by_pid orphaned r signal r.status | false ↦ refl ]

each_kept_pid : (orphaned : Bool) (kept : SignalSet) (all : List Signal) (r : Recipient) → (after_each_kept orphaned kept all r).member.pid ≡ r.member.pid
each_kept_pid orphaned kept [] r = refl
each_kept_pid orphaned kept (signal ∷ others) r = each_kept_pid orphaned kept others (after_kept orphaned kept r signal) ∙ kept_pid orphaned kept r signal

continuing_pid : (orphaned : Bool) (r : Recipient) → (after_continuing orphaned r).member.pid ≡ r.member.pid
continuing_pid orphaned r =
    each_kept_pid orphaned r.member.kept signals (after_delivery orphaned (running_again r) Continue) ∙ delivery_pid orphaned (running_again r) Continue

keeping_pid : (orphaned : Bool) (r : Recipient) (signal : Signal) (does : DefaultAction) → (after_keeping orphaned r signal does).member.pid ≡ r.member.pid
keeping_pid orphaned r signal default.End =
    elim (is_same signal Kill) as (λ b. (cond b (record r { status = Signaled (number_of Kill) }) (with_kept r signal)).member.pid ≡ r.member.pid) [ true ↦ refl | false ↦ refl ]
keeping_pid orphaned r signal default.Ignore = refl
keeping_pid orphaned r signal default.Continue = continuing_pid orphaned r
keeping_pid orphaned r signal default.Stop = refl

signal_by_pid : (orphaned : Bool) (r : Recipient) (signal : Signal) (status : Status) → (after_signal_by orphaned r signal status).member.pid ≡ r.member.pid
signal_by_pid orphaned r signal Running = delivery_pid orphaned r signal
signal_by_pid orphaned r signal (Stopped by_signal) = keeping_pid orphaned r signal (default_of signal)
signal_by_pid orphaned r signal (Exited status) = refl
signal_by_pid orphaned r signal (Signaled by_signal) = refl

pub signal_pid : (orphaned : Bool) (r : Recipient) (signal : Signal) → (after_signal orphaned r signal).member.pid ≡ r.member.pid
signal_pid orphaned r signal = signal_by_pid orphaned r signal r.status

-- ---- a signal does nothing to a process that has ended
ended_by : (orphaned : Bool) (r : Recipient) (signal : Signal) (status : Status) → is_live status ≡ false → after_signal_by orphaned r signal status ≡ r
ended_by orphaned r signal Running h = absurd (cc)
ended_by orphaned r signal (Stopped by_signal) h = absurd (cc)
ended_by orphaned r signal (Exited status) h = refl
ended_by orphaned r signal (Signaled by_signal) h = refl

pub signal_ended : (orphaned : Bool) (r : Recipient) (signal : Signal) → is_live r.status ≡ false → after_signal orphaned r signal ≡ r
signal_ended orphaned r signal h = ended_by orphaned r signal r.status h

-- ---- one signal
pub member_pid : (members : List Member) (pid : ℕ) (m : Member) → member_at members pid ≡ Some m → m.pid ≡ pid
member_pid [] pid m h = absurd (cc)
member_pid (x ∷ members) pid m h = of_test (member_pid members pid m) (x.pid == pid) refl h
  where
    of_test : (member_at members pid ≡ Some m → m.pid ≡ pid) → (b : Bool) → (x.pid == pid) ≡ b → cond b (Some x) (member_at members pid) ≡ Some m → m.pid ≡ pid
    of_test rest true t h = let same : x ≡ m = cc in ap (λ (z : Member). z.pid) (sym same) ∙ eqb-true x.pid pid t
    of_test rest false t h = rest h

recipient_changes : (ps : List Process) (pid : ℕ) (p : Process) → process_at ps pid ≡ Some p → (r : Recipient) → r.member.pid ≡ pid → (is_living p ≡ false → r.status ≡ p.status) → OnlyStatuses ps (with_status ps r.member.pid r.status)
recipient_changes ps pid p is r own same =
    subst (λ (k : ℕ). OnlyStatuses ps (with_status ps k r.status)) (sym own) (status_changes ps pid r.status (λ p' is' over. of_same p' is' over))
  where
    of_same : (p' : Process) → process_at ps pid ≡ Some p' → is_living p' ≡ false → r.status ≡ p'.status
    of_same p' is' over = let e : p ≡ p' = cc in same (ap is_living e ∙ over) ∙ ap (λ (z : Process). z.status) e

receipt_changes : (t : ProcessTable) (signal : Signal) (pid : ℕ) → OnlyStatuses t.processes (after_receipt t signal pid).processes
unfolding after_receipt
receipt_changes t signal pid = of_process (process_at t.processes pid) refl (member_at t.members pid) refl
  where
    of_process : (o : Option Process) → process_at t.processes pid ≡ o → (m : Option Member) → member_at t.members pid ≡ m → OnlyStatuses t.processes (after_receipt_by t signal (option_map (λ (z : Process). z.status) o) m).processes
    of_process None is m at = statuses_same t.processes
    of_process (Some p) is None at = statuses_same t.processes
    of_process (Some p) is (Some m) at =
        let orphaned = is_orphaned t m.group in
        let r : Recipient = record { status = p.status; member = m } in
        recipient_changes t.processes pid p is (after_signal orphaned r signal) (signal_pid orphaned r signal ∙ member_pid t.members pid m at) (λ over. ap (λ (z : Recipient). z.status) (signal_ended orphaned r signal over))

notice_changes : (t : ProcessTable) (pid : ℕ) (before : Option Status) → OnlyStatuses t.processes (after_notice t pid before).processes
unfolding after_notice
notice_changes t pid before =
    elim (is_news before (status_at t.processes pid)) as (λ b. OnlyStatuses t.processes (cond b (after_notice_to t (parent_at t.processes pid)) t).processes) [
      | true ↦ of_parent (parent_at t.processes pid)
      | false ↦ statuses_same t.processes
    ]
  where
    of_parent : (o : Option ℕ) → OnlyStatuses t.processes (after_notice_to t o).processes
    of_parent None = statuses_same t.processes
    of_parent (Some parent) = receipt_changes t Child parent

signal_changes : (t : ProcessTable) (signal : Signal) (pid : ℕ) → OnlyStatuses t.processes (after_signal_to t signal pid).processes
unfolding after_signal_to
signal_changes t signal pid =
    statuses_then t.processes (after_receipt t signal pid).processes _ (receipt_changes t signal pid) (notice_changes (after_receipt t signal pid) pid (status_at t.processes pid))

-- ---- several signals
each_changes : (t : ProcessTable) (to : SignalTarget) (signal : Signal) (pids : List ℕ) → OnlyStatuses t.processes (after_signal_to_each t to signal pids).processes
each_changes t to signal [] = statuses_same t.processes
each_changes t to signal (pid ∷ pids) =
    elim (is_reached to (member_at t.members pid)) as (λ b. OnlyStatuses t.processes (after_signal_to_each (cond b (after_signal_to t signal pid) t) to signal pids).processes) [
      | true ↦ statuses_then t.processes (after_signal_to t signal pid).processes _ (signal_changes t signal pid) (each_changes (after_signal_to t signal pid) to signal pids)
      | false ↦ each_changes t to signal pids
    ]

hang_up_changes : (t : ProcessTable) (pids : List ℕ) (group : ℕ) → OnlyStatuses t.processes (after_hang_up t pids group).processes
unfolding after_hang_up
hang_up_changes t pids group =
    let to = target.Group group in
    statuses_then t.processes (after_signal_to_each t to Hangup pids).processes _ (each_changes t to Hangup pids) (each_changes (after_signal_to_each t to Hangup pids) to Continue pids)

hang_ups_change : (t : ProcessTable) (pids at_risk at_most : List ℕ) → OnlyStatuses t.processes (after_hang_ups t pids at_risk at_most).processes
hang_ups_change t pids at_risk [] = statuses_same t.processes
hang_ups_change t pids at_risk (one ∷ at_most) =
    elim (find (is_abandoned t) at_risk) as (λ o. OnlyStatuses t.processes (after_hang_up_by t o (λ group. after_hang_ups (after_hang_up t pids group) pids at_risk at_most)).processes) [
      | None ↦ statuses_same t.processes
      | Some group ↦ statuses_then t.processes (after_hang_up t pids group).processes _ (hang_up_changes t pids group) (hang_ups_change (after_hang_up t pids group) pids at_risk at_most)
    ]

orphaning_changes : (t : ProcessTable) (pids at_risk : List ℕ) → OnlyStatuses t.processes (after_orphaning t pids at_risk).processes
unfolding after_orphaning
orphaning_changes t pids at_risk = hang_ups_change t pids at_risk at_risk

-- ---- the calls
pub signals_change : SignalsChangeOnlyStatuses
unfolding after_send
signals_change t to signal =
    let pids = pids_of t.members in
    let sent = after_signal_to_each t to signal pids in
    statuses_then t.processes sent.processes _ (each_changes t to signal pids) (orphaning_changes sent pids (groups_at_risk t))

exit_changes : (t : ProcessTable) (pid status : ℕ) → has_ended t.processes pid ≡ false → OnlyStatuses t.processes (with_exit t pid status).processes
exit_changes t pid status lives =
    let ps = with_status t.processes pid (Exited status) in
    statuses_then t.processes ps _ (status_changes t.processes pid (Exited status) never) (notice_changes (record t { processes = ps }) pid (status_at t.processes pid))
  where
    never : (p : Process) → process_at t.processes pid ≡ Some p → is_living p ≡ false → Exited status ≡ p.status
    never p is over = let ended : has_ended t.processes pid ≡ true = ap is_ended is ∙ ap not over in absurd (cc)

pub ends_change : EndsChangeOnlyStatuses
unfolding after_end
ends_change t pid status lives =
    statuses_then t.processes (with_exit t pid status).processes _ (exit_changes t pid status lives) (orphaning_changes (with_exit t pid status) (pids_of t.members) (groups_at_risk t))
