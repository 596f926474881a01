-- The end of a process stops no process: of the others only those that were stopped can have changed.
use Rattle.std.proofs.Common.{◌≡◌, ℕ, zero, suc, ◌-◌, List, [], ◌∷◌, filter, Bool, true, false, cond, ◌&&◌, ◌||◌, Option, Some, None, slice_get, slice_set, refl, sym, ap, subst, ◌∙◌, option_map, nat_le}
use Rattle.std.specs.Prelude.{find}
use Rattle.sh_kernel_processes.specs.Processes.{process_at, status_at, with_status, with_status_of, parent_at, is_running}
use Rattle.sh_kernel_processes.specs.declared.process.Process.{Process}
use Rattle.sh_kernel_processes.specs.declared.process.Status.{Status}
use Rattle.sh_kernel_processes.specs.declared.process.Status.TheVariants.{Running, Stopped, Exited, Signaled}
use Rattle.sh_kernel_processes.proofs.Statuses.{member_pid, signal_pid}
use Rattle.sh_kernel_processes.specs.Delivery.{action_of, after_action, after_default, after_signal}
use Rattle.sh_kernel_processes.specs.Groups.{ProcessTable, is_orphaned, is_stopped, member_at}
use Rattle.sh_kernel_processes.specs.Sending.{after_end, after_hang_up, after_hang_up_by, after_hang_ups, after_notice, after_notice_to, after_orphaning, after_receipt, after_receipt_by, after_signal_to, after_signal_to_each, groups_at_risk, is_abandoned, is_news, is_reached, pids_of, with_exit}
use Rattle.sh_kernel_processes.specs.declared.member.Member.{Member}
use Rattle.sh_kernel_processes.specs.declared.member.SignalAction.{SignalAction}
use Rattle.sh_kernel_processes.specs.declared.member.SignalAction.TheVariants.{Default, Ignored, Caught}
use Rattle.sh_kernel_processes.specs.declared.target.SignalTarget.{SignalTarget}
use Rattle.sh_kernel_processes.specs.declared.target.SignalTarget.TheVariants as target
use Rattle.sh_signal.specs.Signals.{default_of}
use Rattle.sh_signal.specs.declared.signal.DefaultAction.{DefaultAction}
use Rattle.sh_signal.specs.declared.signal.DefaultAction.TheVariants as default
use Rattle.sh_signal.specs.declared.signal.Signal.{Signal}
use Rattle.sh_signal.specs.declared.signal.Signal.TheVariants.{Child, Continue, Hangup}
use Rattle.sh_kernel.specs.Changes.{Changes, changed, has_gone_on, is_change, is_stopped_at, next_moment, with_changes_in}

-- no process has stopped
pub record NoneStops (old new : List Process) : Type 0 where
  pub still : (pid : ℕ) → is_stopped (status_at old pid) ≡ false → is_stopped (status_at new pid) ≡ false

none_same : (ps : List Process) → NoneStops ps ps
none_same ps = record { still = λ pid h. h }

none_then : (a b c : List Process) → NoneStops a b → NoneStops b c → NoneStops a c
none_then a b c f g = record { still = λ pid h. g.still pid (f.still pid h) }

-- ---- a process that gets a status
set_still : (ps : List Process) (i j : ℕ) (p x : Process) → slice_get ps i ≡ Some p → (is_stopped (Some p.status) ≡ false → is_stopped (Some x.status) ≡ false)
    → is_stopped (option_map (λ (z : Process). z.status) (slice_get ps j)) ≡ false → is_stopped (option_map (λ (z : Process). z.status) (slice_get (slice_set ps i x) j)) ≡ false
set_still [] i j p x is f h = h
set_still (y ∷ ps) zero zero p x is f h =
    let same : p ≡ y = cc in
    f (ap (λ (z : Process). is_stopped (Some z.status)) same ∙ h)
set_still (y ∷ ps) zero (suc j) p x is f h = h
set_still (y ∷ ps) (suc i) zero p x is f h = h
set_still (y ∷ ps) (suc i) (suc j) p x is f h = set_still ps i j p x is f h

place_of : (ps : List Process) (pid : ℕ) (p : Process) → process_at ps pid ≡ Some p → slice_get ps (pid - 100) ≡ Some p
place_of ps pid p h = of_test (nat_le 100 pid) h
  where
    of_test : (b : Bool) → cond b (slice_get ps (pid - 100)) None ≡ Some p → slice_get ps (pid - 100) ≡ Some p
    of_test true h = h
    of_test false h = absurd (cc)

at_still : (ps : List Process) (i pid : ℕ) (p x : Process) → slice_get ps i ≡ Some p → (is_stopped (Some p.status) ≡ false → is_stopped (Some x.status) ≡ false)
    → is_stopped (status_at ps pid) ≡ false → is_stopped (status_at (slice_set ps i x) pid) ≡ false
at_still ps i pid p x is f h = of_test (nat_le 100 pid) h
  where
    of_test : (b : Bool) → is_stopped (option_map (λ (z : Process). z.status) (cond b (slice_get ps (pid - 100)) None)) ≡ false
        → is_stopped (option_map (λ (z : Process). z.status) (cond b (slice_get (slice_set ps i x) (pid - 100)) None)) ≡ false
    of_test true t = set_still ps i (pid - 100) p x is f t
    of_test false t = t

status_stops_none : (ps : List Process) (pid : ℕ) (status : Status) → ((p : Process) → process_at ps pid ≡ Some p → is_stopped (Some p.status) ≡ false → is_stopped (Some status) ≡ false) → NoneStops ps (with_status ps pid status)
status_stops_none ps pid status f = of_process (process_at ps pid) refl
  where
    of_process : (o : Option Process) → process_at ps pid ≡ o → NoneStops ps (with_status_of ps pid status o)
    of_process None is = none_same ps
    of_process (Some p) is = record { still = λ q h. at_still ps (pid - 100) q p (record p { status = status }) (place_of ps pid p is) (f p is) h }

-- ---- one signal that stops nothing
abbrev stops : DefaultAction → Bool
stops default.End = false
stops default.Ignore = false
stops default.Continue = false
stops default.Stop = true

-- a process that runs goes on running, or ends
default_still : (orphaned : Bool) (m : Member) (signal : Signal) (does : DefaultAction) → stops does ≡ false → is_stopped (Some (after_default orphaned (record { status = Running; member = m }) signal does).status) ≡ false
default_still orphaned m signal default.End never = refl
default_still orphaned m signal default.Ignore never = refl
default_still orphaned m signal default.Continue never = refl
default_still orphaned m signal default.Stop never = absurd (cc)

action_still : (orphaned : Bool) (m : Member) (signal : Signal) (action : SignalAction) → stops (default_of signal) ≡ false → is_stopped (Some (after_action orphaned (record { status = Running; member = m }) signal action).status) ≡ false
action_still orphaned m signal Default never = default_still orphaned m signal (default_of signal) never
action_still orphaned m signal Ignored never = refl
action_still orphaned m signal Caught never = refl

signal_still : (orphaned : Bool) (status : Status) (m : Member) (signal : Signal) → stops (default_of signal) ≡ false → is_stopped (Some status) ≡ false → is_stopped (Some (after_signal orphaned (record { status = status; member = m }) signal).status) ≡ false
signal_still orphaned Running m signal never h = action_still orphaned m signal (action_of m signal) never
signal_still orphaned (Stopped by_signal) m signal never h = absurd (cc)
signal_still orphaned (Exited code) m signal never h = refl
signal_still orphaned (Signaled by_signal) m signal never h = refl

receipt_stops_none : (t : ProcessTable) (signal : Signal) (pid : ℕ) → stops (default_of signal) ≡ false → NoneStops t.processes (after_receipt t signal pid).processes
unfolding after_receipt
receipt_stops_none t signal pid never = of_process (process_at t.processes pid) refl (member_at t.members pid) refl
  where
    of_status : (p : Process) → process_at t.processes pid ≡ Some p → (number : ℕ) (status : Status) → number ≡ pid → (is_stopped (Some p.status) ≡ false → is_stopped (Some status) ≡ false) → NoneStops t.processes (with_status t.processes number status)
    of_status p is number status own f =
        subst (λ (k : ℕ). NoneStops t.processes (with_status t.processes k status)) (sym own) (status_stops_none t.processes pid status (λ p' is' h. let e : p ≡ p' = cc in f (ap (λ (z : Process). is_stopped (Some z.status)) e ∙ h)))

    of_process : (o : Option Process) → process_at t.processes pid ≡ o → (m : Option Member) → member_at t.members pid ≡ m → NoneStops t.processes (after_receipt_by t signal (option_map (λ (z : Process). z.status) o) m).processes
    of_process None is m at = none_same t.processes
    of_process (Some p) is None at = none_same t.processes
    of_process (Some p) is (Some m) at =
        let orphaned = is_orphaned t m.group in
        of_status p is (after_signal orphaned (record { status = p.status; member = m }) signal).member.pid (after_signal orphaned (record { status = p.status; member = m }) signal).status
        (signal_pid orphaned (record { status = p.status; member = m }) signal ∙ member_pid t.members pid m at) (λ h. signal_still orphaned p.status m signal never h)

notice_stops_none : (t : ProcessTable) (pid : ℕ) (before : Option Status) → NoneStops t.processes (after_notice t pid before).processes
unfolding after_notice
notice_stops_none t pid before =
    elim (is_news before (status_at t.processes pid)) as (λ b. NoneStops t.processes (cond b (after_notice_to t (parent_at t.processes pid)) t).processes) [
      | true ↦ of_parent (parent_at t.processes pid)
      | false ↦ none_same t.processes
    ]
  where
    of_parent : (o : Option ℕ) → NoneStops t.processes (after_notice_to t o).processes
    of_parent None = none_same t.processes
    of_parent (Some parent) = receipt_stops_none t Child parent refl

signal_stops_none : (t : ProcessTable) (signal : Signal) (pid : ℕ) → stops (default_of signal) ≡ false → NoneStops t.processes (after_signal_to t signal pid).processes
unfolding after_signal_to
signal_stops_none t signal pid never =
    none_then t.processes (after_receipt t signal pid).processes _ (receipt_stops_none t signal pid never) (notice_stops_none (after_receipt t signal pid) pid (status_at t.processes pid))

-- ---- several
each_stops_none : (t : ProcessTable) (to : SignalTarget) (signal : Signal) (pids : List ℕ) → stops (default_of signal) ≡ false → NoneStops t.processes (after_signal_to_each t to signal pids).processes
each_stops_none t to signal [] never = none_same t.processes
each_stops_none t to signal (pid ∷ pids) never =
    elim (is_reached to (member_at t.members pid)) as (λ b. NoneStops t.processes (after_signal_to_each (cond b (after_signal_to t signal pid) t) to signal pids).processes) [
      | true ↦ none_then t.processes (after_signal_to t signal pid).processes _ (signal_stops_none t signal pid never) (each_stops_none (after_signal_to t signal pid) to signal pids never)
      | false ↦ each_stops_none t to signal pids never
    ]

hang_up_stops_none : (t : ProcessTable) (pids : List ℕ) (group : ℕ) → NoneStops t.processes (after_hang_up t pids group).processes
unfolding after_hang_up
hang_up_stops_none t pids group =
    let to = target.Group group in
    none_then t.processes (after_signal_to_each t to Hangup pids).processes _ (each_stops_none t to Hangup pids refl) (each_stops_none (after_signal_to_each t to Hangup pids) to Continue pids refl)

hang_ups_stop_none : (t : ProcessTable) (pids at_risk at_most : List ℕ) → NoneStops t.processes (after_hang_ups t pids at_risk at_most).processes
hang_ups_stop_none t pids at_risk [] = none_same t.processes
hang_ups_stop_none t pids at_risk (one ∷ at_most) =
    elim (find (is_abandoned t) at_risk) as (λ o. NoneStops t.processes (after_hang_up_by t o (λ group. after_hang_ups (after_hang_up t pids group) pids at_risk at_most)).processes) [
      | None ↦ none_same t.processes
      | Some group ↦ none_then t.processes (after_hang_up t pids group).processes _ (hang_up_stops_none t pids group) (hang_ups_stop_none (after_hang_up t pids group) pids at_risk at_most)
    ]

orphaning_stops_none : (t : ProcessTable) (pids at_risk : List ℕ) → NoneStops t.processes (after_orphaning t pids at_risk).processes
unfolding after_orphaning
orphaning_stops_none t pids at_risk = hang_ups_stop_none t pids at_risk at_risk

end_stops_none : (t : ProcessTable) (pid status : ℕ) → NoneStops t.processes (after_end t pid status).processes
unfolding after_end
end_stops_none t pid status =
    let ps = with_status t.processes pid (Exited status) in
    none_then t.processes ps _ (status_stops_none t.processes pid (Exited status) (λ p is h. refl))
    (none_then ps (with_exit t pid status).processes _ (notice_stops_none (record t { processes = ps }) pid (status_at t.processes pid)) (orphaning_stops_none (with_exit t pid status) (pids_of t.members) (groups_at_risk t)))

-- ---- so only what was stopped can have changed
no_change : (before after : Option Status) → is_stopped before ≡ false → is_stopped after ≡ false → is_change before after ≡ false
no_change before after b a =
    ap (λ (x : Bool). (is_running before && x) || (is_stopped before && has_gone_on after)) a
    ∙ ap (λ (x : Bool). (is_running before && false) || (x && has_gone_on after)) b
    ∙ of_running (is_running before)
  where
    of_running : (x : Bool) → ((x && false) || false) ≡ false
    of_running true = refl
    of_running false = refl

changes_of_stopped : (before after : List Process) (moment : ℕ) (pids moments : List ℕ) → NoneStops before after → with_changes_in before after moment (filter (is_stopped_at before) pids) moments ≡ with_changes_in before after moment pids moments
changes_of_stopped before after moment [] moments none = refl
changes_of_stopped before after moment (pid ∷ pids) moments none =
    of_test (λ noted. changes_of_stopped before after moment pids noted none) (is_stopped_at before pid) refl
  where
    noted_by : Bool → List ℕ
    noted_by b = cond b (slice_set moments (pid - 100) moment) moments

    of_test : ((noted : List ℕ) → with_changes_in before after moment (filter (is_stopped_at before) pids) noted ≡ with_changes_in before after moment pids noted) → (b : Bool) → is_stopped_at before pid ≡ b
        → with_changes_in before after moment (cond b (pid ∷ filter (is_stopped_at before) pids) (filter (is_stopped_at before) pids)) moments ≡ with_changes_in before after moment pids (noted_by (is_change (status_at before pid) (status_at after pid)))
    of_test rest true is = rest (noted_by (is_change (status_at before pid) (status_at after pid)))
    of_test rest false is = rest moments ∙ ap (λ (b : Bool). with_changes_in before after moment pids (noted_by b)) (sym (no_change (status_at before pid) (status_at after pid) is (none.still pid is)))

pub end_changes_stopped : (c : Changes) (t : ProcessTable) (pid status : ℕ) → changed c t.processes (after_end t pid status).processes (filter (is_stopped_at t.processes) (pids_of t.members)) ≡ changed c t.processes (after_end t pid status).processes (pids_of t.members)
unfolding changed
end_changes_stopped c t pid status =
    ap (λ (moments : List ℕ). let moment = next_moment c.clock in let r : Changes = record { clock = moment; moments = moments } in r) (changes_of_stopped t.processes (after_end t pid status).processes (next_moment c.clock) (pids_of t.members) c.moments (end_stops_none t pid status))
