-- Where two schedules part, as far as they have turns in common.
use Rattle.std.proofs.Common.{◌≡◌, ◌≢◌, ◌⊎◌, inl, inr, ℕ, zero, suc, ◌+◌, ◌-◌, ◌<◌, ◌≤◌, List, [], ◌∷◌, length, Bool, true, false, Option, Some, None, refl, sym, ap, ◌∙◌, subst, arith, if◌then◌else◌, slice_get}
use Rattle.sh_exec.specs.declared.event.Event.{Event}
use Rattle.sh_exec.specs.declared.event.Event.TheVariants.{Run, Next, Key}
use Rattle.sh_exec.specs.State.{State}
use Rattle.sh_schedules_outcomes.specs.World.{WorldKept, WorldStands}
use Rattle.sh_schedules_outcomes.specs.Schedules.{AreTurns, IsTurn, Machine, end_of}
use Rattle.sh_schedules.specs.Parting.{DoesPart, is_same_turn, mover, parting, parting_by}

-- a world has taken so many turns that both have in common, and they part where what is left of them parts
pub record StandsHere {S : Type 0} (world : WorldKept S) (w : Machine (State S)) (s : State S) (common : ℕ) (es fs first second : List Event) : Type 0 where
  pub now : State S
  pub stands : WorldStands world now
  pub parts : parting w s 0 first second ≡ parting w now common es fs

pub stands_first : {S : Type 0} (world : WorldKept S) (w : Machine (State S)) (s : State S) (first second : List Event) → WorldStands world s → StandsHere world w s 0 first second first second
stands_first world w s first second h = record { now = s; stands = h; parts = refl }

-- ---- the next turn: it is the same, it isn't, there is none
pub goes_on : {A : Type 0} (w : Machine A) (s : A) (common : ℕ) (e f : Event) (es fs : List Event) → is_same_turn e f ≡ true →
    parting w s common (e ∷ es) (f ∷ fs) ≡ parting w (w.step s e) (common + 1) es fs
unfolding parting
goes_on w s common e f es fs same = ap (λ (b : Bool). if b then parting w (w.step s e) (common + 1) es fs else parting_by common (mover w s e) (mover w s f)) same

pub parts_here : {A : Type 0} (w : Machine A) (s : A) (common : ℕ) (e f : Event) (es fs : List Event) → is_same_turn e f ≡ false →
    parting w s common (e ∷ es) (f ∷ fs) ≡ parting_by common (mover w s e) (mover w s f)
unfolding parting
parts_here w s common e f es fs other = ap (λ (b : Bool). if b then parting w (w.step s e) (common + 1) es fs else parting_by common (mover w s e) (mover w s f)) other

pub parts_nowhere : {A : Type 0} (w : Machine A) (s : A) (common : ℕ) (fs : List Event) → parting w s common [] fs ≡ None
unfolding parting
parts_nowhere w s common fs = refl

pub parts_never : {A : Type 0} (w : Machine A) (s : A) (common : ℕ) (e : Event) (es : List Event) → parting w s common (e ∷ es) [] ≡ None
unfolding parting
parts_never w s common e es = refl

-- ---- what follows of a place where a world stands
pub parts_no_more : {S : Type 0} (world : WorldKept S) (w : Machine (State S)) (s : State S) (common : ℕ) (es fs first second : List Event) → StandsHere world w s common es fs first second
    → length es ≡ 0 → None ≡ parting w s 0 first second
parts_no_more world w s common [] fs first second h none = sym (h.parts ∙ parts_nowhere w h.now common fs)
parts_no_more world w s common (e ∷ es) fs first second h none = absurd (omega arith)

pub parts_not_here : {S : Type 0} (world : WorldKept S) (w : Machine (State S)) (s : State S) (common : ℕ) (es fs first second : List Event) (e : Event) (es' : List Event)
    → StandsHere world w s common es fs first second → es ≡ e ∷ es' → length fs ≡ 0 → None ≡ parting w s 0 first second
parts_not_here world w s common es [] first second e es' h is none =
    sym (h.parts ∙ ap (λ (xs : List Event). parting w h.now common xs []) is ∙ parts_never w h.now common e es')
parts_not_here world w s common es (f ∷ fs) first second e es' h is none = absurd (omega arith)

pub parts_now : {S : Type 0} (world : WorldKept S) (w : Machine (State S)) (s : State S) (common : ℕ) (es fs first second : List Event) (e f : Event) (es' fs' : List Event)
    → (h : StandsHere world w s common es fs first second) → es ≡ e ∷ es' → fs ≡ f ∷ fs' → is_same_turn e f ≡ false
    → parting_by common (mover w h.now e) (mover w h.now f) ≡ parting w s 0 first second
parts_now world w s common es fs first second e f es' fs' h one other differ =
    sym (h.parts ∙ ap (λ (xs : List Event). parting w h.now common xs fs) one ∙ ap (λ (xs : List Event). parting w h.now common (e ∷ es') xs) other ∙ parts_here w h.now common e f es' fs' differ)

pub parts_later : {S : Type 0} (world next : WorldKept S) (w : Machine (State S)) (s : State S) (common : ℕ) (es fs first second : List Event) (e f : Event) (es' fs' : List Event)
    → (h : StandsHere world w s common es fs first second) → es ≡ e ∷ es' → fs ≡ f ∷ fs' → is_same_turn e f ≡ true → WorldStands next (w.step h.now e)
    → StandsHere next w s (common + 1) es' fs' first second
parts_later world next w s common es fs first second e f es' fs' h one other same stands = record {
  now = w.step h.now e;
  stands = stands;
  parts =
      h.parts ∙ ap (λ (xs : List Event). parting w h.now common xs fs) one ∙ ap (λ (xs : List Event). parting w h.now common (e ∷ es') xs) other
      ∙ goes_on w h.now common e f es' fs' same;
}

-- ---- two different schedules part
-- a schedule is over: no process can take a turn, or there were as many turns as may be
abbrev IsOver : {A : Type 0} → Machine A → ℕ → A → List Event → Type 0
IsOver w n s es = (w.runnable (end_of w s es) ≡ []) ⊎ (length es ≡ n)

within : (pids : List ℕ) (place : ℕ) → place < length pids → (pid : ℕ) × (slice_get pids place ≡ Some pid)
within [] place h = absurd (omega arith)
within (p ∷ ps) zero h = (p, refl)
within (p ∷ ps) (suc i) h = within ps i (omega arith)

moves : {A : Type 0} (w : Machine A) (s : A) (e : Event) → IsTurn w s e → (pid : ℕ) × (mover w s e ≡ Some pid)
moves w s (Run place) h = within (w.runnable s) place h
moves w s Next h = absurd h
moves w s (Key byte) h = absurd h

same_event : {A : Type 0} (w : Machine A) (s : A) (e f : Event) → IsTurn w s e → is_same_turn e f ≡ true → e ≡ f
same_event w s (Run place) (Run other) h same = let e : place ≡ other = grind (same, arith) in ap Run e
same_event w s (Run place) Next h same = cc
same_event w s (Run place) (Key byte) h same = cc
same_event w s Next f h same = absurd h
same_event w s (Key byte) f h same = absurd h

none_left : {A : Type 0} (w : Machine A) (n : ℕ) (s : A) (e : Event) (es : List Event) → IsOver w n s [] → IsTurn w s e → length (e ∷ es) ≤ n → ⊥
none_left w n s (Run place) es (inl none) turn few = let no : length (w.runnable s) ≡ 0 = ap length none in omega arith
none_left w n s Next es (inl none) turn few = turn
none_left w n s (Key byte) es (inl none) turn few = turn
none_left w n s e es (inr all) turn few = omega arith

part_here : {A : Type 0} (w : Machine A) (s : A) (common : ℕ) (e f : Event) (es fs : List Event) → is_same_turn e f ≡ false → IsTurn w s e → IsTurn w s f → DoesPart w s common (e ∷ es) (f ∷ fs)
part_here w s common e f es fs other one two =
    let first = moves w s e one in
    let second = moves w s f two in (
      record { common = common; first = first.0; second = second.0 },
      parts_here w s common e f es fs other ∙ ap (λ (p : Option ℕ). parting_by common p (mover w s f)) first.1 ∙ ap (λ (p : Option ℕ). parting_by common (Some first.0) p) second.1,
    )

still_over : {A : Type 0} (w : Machine A) (n : ℕ) (s : A) (e : Event) (es : List Event) → IsOver w n s (e ∷ es) → IsOver w (n - 1) (w.step s e) es
still_over w n s e es (inl none) = inl none
still_over w n s e es (inr all) = inr (omega arith)

part_by : {A : Type 0} (w : Machine A) (s : A) (common : ℕ) (e f : Event) (es fs : List Event) → IsTurn w s e → IsTurn w s f → (e ≡ f → DoesPart w (w.step s e) (common + 1) es fs)
    → (b : Bool) → is_same_turn e f ≡ b → DoesPart w s common (e ∷ es) (f ∷ fs)
part_by w s common e f es fs one two rest false is = part_here w s common e f es fs is one two
part_by w s common e f es fs one two rest true is = let behind = rest (same_event w s e f one is) in (behind.0, goes_on w s common e f es fs is ∙ behind.1)

pub part_somewhere : {A : Type 0} (w : Machine A) (n : ℕ) (s : A) (common : ℕ) (es fs : List Event) → AreTurns w s es → AreTurns w s fs → length es ≤ n → length fs ≤ n → IsOver w n s es
    → IsOver w n s fs → es ≢ fs → DoesPart w s common es fs
part_somewhere w n s common [] [] t u l m o p differ = absurd (differ refl)
part_somewhere w n s common [] (f ∷ fs) t u l m o p differ = absurd (none_left w n s f fs o u.0 m)
part_somewhere w n s common (e ∷ es) [] t u l m o p differ = absurd (none_left w n s e es p t.0 l)
part_somewhere w n s common (e ∷ es) (f ∷ fs) t u l m o p differ =
    part_by w s common e f es fs t.0 u.0
    (λ same.
    part_somewhere w (n - 1) (w.step s e) (common + 1) es fs t.1 (subst (λ (x : Event). AreTurns w (w.step s x) fs) (sym same) u.1) (omega arith) (omega arith)
    (still_over w n s e es o) (subst (λ (x : Event). IsOver w (n - 1) (w.step s x) fs) (sym same) (still_over w n s f fs p))
    (λ one. differ (ap (λ (x : Event). x ∷ es) same ∙ ap (λ (xs : List Event). f ∷ xs) one)))
    (is_same_turn e f) refl
