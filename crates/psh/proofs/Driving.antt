-- Runs by lines of events: a world that is given each line's events so often.
use Rattle.sh_base.specs.Memory.{no_memory}
use Rattle.std.proofs.Common.{◌≡◌, ◌≢◌, ◌⊎◌, ⊎_elim, inl, inr, Result, Ok, Err, OnOk, OnErr, ℕ, zero, suc, ◌+◌, add-one, ◌<◌, ◌≤◌, List, [], ◌∷◌, ◌++◌, append_assoc, length, length-append, take, take_all, get_or, replicate, zero-add, add_assoc, refl, sym, ap, ◌∙◌, arith}
use Rattle.sh_stock.specs.Asking.{Meaning}
use Rattle.sh_world.specs.World.{WorldKept, WorldStands, shown_of}
use Rattle.sh_exec.specs.State.{State, run, start, step, terminal_of}
use Rattle.sh_files.specs.Nodes.{FileMap}
use Rattle.sh_exec.specs.declared.event.Event.{Event}
use Rattle.sh_exec.specs.declared.settings.Settings.{Settings}
use Rattle.psh_common.specs.Events.{Outcome, each_event, events_of}
use Rattle.psh_common.specs.declared.events.EventFault.{EventFault}
use Rattle.psh_common.specs.declared.events.EventFault.TheVariants.{BadEvent, NoMemory}
use Rattle.psh.specs.Serving.{ShowsSome, nothing_shown, some_shown}
use Rattle.psh_common.specs.declared.events.Turns.{Turns}

-- ---- runs one behind another
pub run-append : {S : Type 0} (m : Meaning S) (s : State S) (es fs : List Event) → run m s (es ++ fs) ≡ run m (run m s es) fs
run-append m s [] fs = refl
run-append m s (e ∷ es) fs = run-append m (step m s e) es fs

-- an event once more
pub run-once_more : {S : Type 0} (m : Meaning S) (s : State S) (k : ℕ) (e : Event) → run m s (replicate (suc k) e) ≡ step m (run m s (replicate k e)) e
run-once_more m s zero e = refl
run-once_more m s (suc k) e = run-once_more m (step m s e) k e

pub run-times_more : {S : Type 0} (m : Meaning S) (s : State S) (k : ℕ) (e : Event) → run m s (replicate (k + 1) e) ≡ step m (run m s (replicate k e)) e
run-times_more m s k e = ap (λ n. run m s (replicate n e)) (add-one k) ∙ run-once_more m s k e

-- ---- lines one behind another
each_event-more : (all : List Turns) (i : ℕ) (d : Turns) → i < length all → each_event (take (suc i) all) ≡ each_event (take i all) ++ replicate (get_or all i d).times (get_or all i d).event
each_event-more [] i d h = absurd (omega arith)
each_event-more (t ∷ all) zero d h = append_none (replicate t.times t.event)
  where
    append_none : (xs : List Event) → xs ++ [] ≡ xs
    append_none [] = refl
    append_none (x ∷ xs) = ap (λ ys. x ∷ ys) (append_none xs)
each_event-more (t ∷ all) (suc i) d h =
    let l : i < length all = omega arith in
    ap (λ xs. replicate t.times t.event ++ xs) (each_event-more all i d l)
    ∙ sym (append_assoc (replicate t.times t.event) (each_event (take i all)) (replicate (get_or all i d).times (get_or all i d).event))

-- the run of one line more
pub run-line_more : {S : Type 0} (m : Meaning S) (s : State S) (all : List Turns) (i : ℕ) (d : Turns) → i < length all
    → run m s (each_event (take (suc i) all)) ≡ run m (run m s (each_event (take i all))) (replicate (get_or all i d).times (get_or all i d).event)
run-line_more m s all i d h =
    ap (run m s) (each_event-more all i d h) ∙ run-append m s (each_event (take i all)) (replicate (get_or all i d).times (get_or all i d).event)

pub run-turns_more : {S : Type 0} (m : Meaning S) (s : State S) (all : List Turns) (i : ℕ) (d : Turns) → i < length all
    → run m s (each_event (take (i + 1) all)) ≡ run m (run m s (each_event (take i all))) (replicate (get_or all i d).times (get_or all i d).event)
run-turns_more m s all i d h = ap (λ n. run m s (each_event (take n all))) (add-one i) ∙ run-line_more m s all i d h

-- ---- some of the events
take-past : {A : Type 0} (xs ys : List A) (k : ℕ) → take (length xs + k) (xs ++ ys) ≡ xs ++ take k ys
take-past [] ys k = ap (λ n. take n ys) (zero-add k)
take-past (x ∷ xs) ys k =
    let e : length (x ∷ xs) + k ≡ suc (length xs + k) = omega arith in
    ap (λ n. take n (x ∷ (xs ++ ys))) e ∙ ap (λ zs. x ∷ zs) (take-past xs ys k)

take-replicate : {A : Type 0} (j n : ℕ) (e : A) (ys : List A) → j ≤ n → take j (replicate n e ++ ys) ≡ replicate j e
take-replicate zero n e ys h = refl
take-replicate (suc j) zero e ys h = absurd (omega arith)
take-replicate (suc j) (suc n) e ys h = let l : j ≤ n = omega arith in ap (λ zs. e ∷ zs) (take-replicate j n e ys l)

pub take-each_event : (all : List Turns) (i : ℕ) (d : Turns) (j : ℕ) → i < length all → j < (get_or all i d).times
    → take (length (each_event (take i all)) + j) (each_event all) ≡ each_event (take i all) ++ replicate j (get_or all i d).event
take-each_event [] i d j h l = absurd (omega arith)
take-each_event (t ∷ all) zero d j h l =
    let k : j ≤ t.times = omega arith in
    ap (λ n. take n (replicate t.times t.event ++ each_event all)) (zero-add j) ∙ take-replicate j t.times t.event (each_event all) k
take-each_event (t ∷ all) (suc i) d j h l =
    let k : i < length all = omega arith in
    let first : List Event = replicate t.times t.event in
    let n : length (first ++ each_event (take i all)) + j ≡ length first + (length (each_event (take i all)) + j) =
    ap (λ n. n + j) (length-append first (each_event (take i all))) ∙ add_assoc (length first) (length (each_event (take i all))) j
    in
    ap (λ n. take n (first ++ each_event all)) n
    ∙ take-past first (each_event all) (length (each_event (take i all)) + j)
    ∙ ap (λ xs. first ++ xs) (take-each_event all i d j k l)
    ∙ sym (append_assoc first (each_event (take i all)) (replicate j (get_or all i d).event))

-- the run that stops in a line
pub run-within_line : {S : Type 0} (m : Meaning S) (s : State S) (all : List Turns) (i : ℕ) (d : Turns) (j : ℕ) → i < length all → j < (get_or all i d).times
    → run m (run m s (each_event (take i all))) (replicate j (get_or all i d).event) ≡ run m s (take (length (each_event (take i all)) + j) (each_event all))
run-within_line m s all i d j h l =
    sym (run-append m s (each_event (take i all)) (replicate j (get_or all i d).event)) ∙ ap (run m s) (sym (take-each_event all i d j h l))

-- what is shown of some of the events
pub shows_some : {S : Type 0} (m : Meaning S) (files : FileMap) (settings : Settings) (all : List Turns) (old new : List ℕ)
    → ((new ≡ old) ⊎ ((j : ℕ) × (new ≡ old ++ terminal_of (run m (start files settings) (take j (each_event all)))))) → ShowsSome m files settings all old new
shows_some m files settings all old new h = ⊎_elim (λ e. nothing_shown e) (λ p. some_shown p.0 p.1) h

-- what is shown of all of them
pub shows_all : {S : Type 0} (m : Meaning S) (s : State S) (all : List Event) (old new : List ℕ) → ((new ≡ old) ⊎ (new ≡ old ++ terminal_of (run m s all)))
    → (new ≡ old) ⊎ ((j : ℕ) × (new ≡ old ++ terminal_of (run m s (take j all))))
shows_all m s all old new h =
    let past : length all ≤ length all = omega arith in
    ⊎_elim (λ e. inl e) (λ e. inr (length all, rw (take_all _ _ past) e)) h

-- what is shown of some of them, or nothing
shown_or_kept : {A E : Type 0} (r : Result A E) (old new text : List ℕ) → OnOk r (new ≡ old ++ text) → OnErr r (new ≡ old) → (new ≡ old) ⊎ (new ≡ old ++ text)
shown_or_kept (Ok x) old new text shown kept = inr shown
shown_or_kept (Err e) old new text shown kept = inl kept

pub shows_part : {S A E : Type 0} (m : Meaning S) (r : Result A E) (s : State S) (all : List Event) (old new text : List ℕ) → OnOk r (new ≡ old ++ text) → OnErr r (new ≡ old)
    → ((j : ℕ) × (text ≡ terminal_of (run m s (take j all)))) → (new ≡ old) ⊎ ((j : ℕ) × (new ≡ old ++ terminal_of (run m s (take j all))))
shows_part m r s all old new text shown kept part =
    ⊎_elim (λ e. inl e) (λ e. inr (part.0, e ∙ ap (λ xs. old ++ xs) part.1)) (shown_or_kept r old new text shown kept)

-- ---- a world that stands at a state shows its terminal
pub shown_of-stands : {S : Type 0} (w : WorldKept S) (s : State S) → WorldStands w s → shown_of w ≡ terminal_of s
shown_of-stands w s h =
    ap (λ n. take n w.kernel.terminal.bytes) h.shown
    ∙ take_all (length w.kernel.terminal.bytes) w.kernel.terminal.bytes (omega arith)
    ∙ h.parts.machine.terminal.bytes

-- ---- events that are refused
pub refused_by : (bytes : List ℕ) (fault : EventFault) (line : ℕ) → fault ≡ BadEvent line → (fault ≢ NoMemory no_memory → events_of bytes ≡ Err fault) → events_of bytes ≡ Err (BadEvent line)
refused_by bytes fault line e h = let refused : EventFault → Outcome = λ x. Err x in h (λ n. cc) ∙ ap refused e

-- what holds anyway holds where there is an error
pub on_err : {A E P : Type 0} (r : Result A E) → P → OnErr r P
on_err (Ok x) p = tt
on_err (Err e) p = p
