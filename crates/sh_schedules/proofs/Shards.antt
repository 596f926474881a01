-- Marks of events, and what of a list of schedules is meant.
use Rattle.std.proofs.Common.{◌≡◌, ℕ, zero, suc, ◌-◌, ◌<◌, ◌≤◌, inl, inr, Bool, true, false, nat_eq, Option, List, [], ◌∷◌, ◌++◌, length, refl, sym, ap, ◌∙◌, subst, arith, if◌then◌else◌, length-append}
use Rattle.std.proofs.lemmas.List.{length-map}
use Rattle.sh_exec.specs.declared.event.Event.{Event}
use Rattle.sh_exec.specs.declared.event.Event.TheVariants.{Run, Next, Key}
use Rattle.sh_schedules_outcomes.specs.Schedules.{Machine, cost, end_of, last_place}
use Rattle.sh_schedules_outcomes.specs.Choices.{In, begun, begun_by, choices, of_choices, schedules}
use Rattle.sh_schedules.specs.Paths.{event_of, events_of, spare, through, to_try}
use Rattle.sh_schedules.specs.Shards.{grown, is_dealt, is_first_by, mark_after, marked, may_reach, next_mark, reaching, those, with_next, with_place}
use Rattle.sh_schedules.specs.declared.path.Turn.{Turn}
use Rattle.sh_schedules.specs.declared.shard.Mark.{Mark}
use Rattle.sh_schedules.specs.declared.shard.Shard.{Shard}

-- ---- marks
pub marked_append : {A : Type 0} (w : Machine A) (mark : Mark) (s : A) (es fs : List Event) → marked w mark s (es ++ fs) ≡ marked w (marked w mark s es) (end_of w s es) fs
marked_append w mark s [] fs = refl
marked_append w mark s (e ∷ es) fs = marked_append w (mark_after w mark s e) (w.step s e) es fs

same_by : (b : Bool) (mark new : Mark) → b ≡ true → (if b then mark else new) ≡ mark
same_by true mark new e = refl
same_by false mark new e = cc

-- a mark to which no turn counts stays
stays : (mark : Mark) (is_first : Bool) (place : ℕ) → nat_eq mark.strays 0 ≡ true → next_mark mark is_first place ≡ mark
stays mark is_first place e = same_by (nat_eq mark.strays 0) mark (grown mark is_first place) e

stays_after : {A : Type 0} (w : Machine A) (mark : Mark) (s : A) (e : Event) → nat_eq mark.strays 0 ≡ true → mark_after w mark s e ≡ mark
stays_after w mark s (Run place) is = stays mark (is_first_by (last_place w s) place) place is
stays_after w mark s Next is = refl
stays_after w mark s (Key byte) is = refl

pub fixed : {A : Type 0} (w : Machine A) (mark : Mark) (s : A) (es : List Event) → nat_eq mark.strays 0 ≡ true → marked w mark s es ≡ mark
fixed w mark s [] is = refl
fixed w mark s (e ∷ es) is =
    ap (λ (m : Mark). marked w m (w.step s e) es) (stays_after w mark s e is) ∙ fixed w mark (w.step s e) es is

not_dealt_by : (b c : Bool) → (if b then c else true) ≡ false → (b ≡ true) × (c ≡ false)
not_dealt_by true c e = (refl, e)
not_dealt_by false c e = cc

-- what can't reach a shard doesn't
pub out_of_reach : {A : Type 0} (w : Machine A) (shard : Shard) (mark : Mark) (s : A) (es : List Event) →
    may_reach shard mark ≡ false → is_dealt shard (marked w mark s es).key ≡ false
out_of_reach w shard mark s es not =
    let is = not_dealt_by (nat_eq mark.strays 0) (is_dealt shard mark.key) not in
    ap (λ (m : Mark). is_dealt shard m.key) (fixed w mark s es is.0) ∙ is.1

-- ---- those that are meant
in_next : (b : Bool) (es : List Event) (rest : List (List Event)) (x : List Event) → In (with_next b es rest) x → In (es ∷ rest) x
in_next true es rest x h = h
in_next false es rest x h = inr h

pub those_among : (mine : List Event → Bool) (all : List (List Event)) (x : List Event) → In (those mine all) x → In all x
those_among mine [] x h = h
those_among mine (es ∷ rest) x h =
    elim (in_next (mine es) es (those mine rest) x h) [ inl e ↦ inl e | inr there ↦ inr (those_among mine rest x there) ]

has_next : (b : Bool) (es : List Event) (rest : List (List Event)) → b ≡ true → In (with_next b es rest) es
has_next true es rest e = inl refl
has_next false es rest e = cc

keeps_next : (b : Bool) (es : List Event) (rest : List (List Event)) (x : List Event) → In rest x → In (with_next b es rest) x
keeps_next true es rest x h = inr h
keeps_next false es rest x h = h

pub among_those : (mine : List Event → Bool) (all : List (List Event)) (x : List Event) → In all x → mine x ≡ true → In (those mine all) x
among_those mine [] x h is = absurd h
among_those mine (es ∷ rest) x (inl e) is =
    subst (In (with_next (mine es) es (those mine rest))) e (has_next (mine es) es (those mine rest) (ap mine e ∙ is))
among_those mine (es ∷ rest) x (inr h) is = keeps_next (mine es) es (those mine rest) x (among_those mine rest x h is)

next_append : (b : Bool) (es : List Event) (xs ys : List (List Event)) → with_next b es xs ++ ys ≡ with_next b es (xs ++ ys)
next_append true es xs ys = refl
next_append false es xs ys = refl

pub those_append : (mine : List Event → Bool) (xs ys : List (List Event)) → those mine (xs ++ ys) ≡ those mine xs ++ those mine ys
those_append mine [] ys = refl
those_append mine (x ∷ xs) ys = ap (with_next (mine x) x) (those_append mine xs ys) ∙ sym (next_append (mine x) x (those mine xs) (those mine ys))

next_begun : (p : ℕ) (b : Bool) (es : List Event) (rest : List (List Event)) → begun p (with_next b es rest) ≡ with_next b (Run p ∷ es) (begun p rest)
next_begun p true es rest = refl
next_begun p false es rest = refl

pub those_begun : (mine : List Event → Bool) (p : ℕ) (xs : List (List Event)) → those mine (begun p xs) ≡ begun p (those (λ es. mine (Run p ∷ es)) xs)
those_begun mine p [] = refl
those_begun mine p (x ∷ xs) =
    ap (with_next (mine (Run p ∷ x)) (Run p ∷ x)) (those_begun mine p xs) ∙ sym (next_begun p (mine (Run p ∷ x)) x (those (λ es. mine (Run p ∷ es)) xs))

none_by : (b : Bool) (es : List Event) (rest : List (List Event)) → b ≡ false → rest ≡ [] → with_next b es rest ≡ []
none_by true es rest e none = cc
none_by false es rest e none = none

none_begun : (mine : List Event → Bool) (p : ℕ) (xs : List (List Event)) → ((es : List Event) → mine (Run p ∷ es) ≡ false) → those mine (begun p xs) ≡ []
none_begun mine p [] not = refl
none_begun mine p (x ∷ xs) not = none_by (mine (Run p ∷ x)) (Run p ∷ x) (those mine (begun p xs)) (not x) (none_begun mine p xs not)

next_same : (mine : List Event → Bool) (f : ℕ → List (List Event)) (b : Bool) (p : ℕ) (ps kept : List ℕ) → (b ≡ false → (es : List Event) → mine (Run p ∷ es) ≡ false) →
    those mine (begun_by f kept) ≡ those mine (begun_by f ps) → those mine (begun_by f (with_place b p kept)) ≡ those mine (begun_by f (p ∷ ps))
next_same mine f true p ps kept not same =
    those_append mine (begun p (f p)) (begun_by f kept) ∙ ap (λ xs. those mine (begun p (f p)) ++ xs) same ∙ sym (those_append mine (begun p (f p)) (begun_by f ps))
next_same mine f false p ps kept not same =
    same ∙ ap (λ xs. xs ++ those mine (begun_by f ps)) (sym (none_begun mine p (f p) (not refl))) ∙ sym (those_append mine (begun p (f p)) (begun_by f ps))

-- no schedule of the shard begins at a place that is left out
pub same_reached : (mine : List Event → Bool) (shard : Shard) (mark : Mark) (here : Option ℕ) (f : ℕ → List (List Event)) (places : List ℕ) →
    ((p : ℕ) → may_reach shard (next_mark mark (is_first_by here p) p) ≡ false → (es : List Event) → mine (Run p ∷ es) ≡ false) →
    those mine (begun_by f (reaching shard mark here places)) ≡ those mine (begun_by f places)
same_reached mine shard mark here f [] not = refl
same_reached mine shard mark here f (p ∷ ps) not =
    next_same mine f (may_reach shard (next_mark mark (is_first_by here p) p)) p ps (reaching shard mark here ps) (not p) (same_reached mine shard mark here f ps not)

-- a turn at the first of the choices, with those of the others that reach the shard, leaves as much of the shard to be tried
pub down_those : {A : Type 0} (w : Machine A) (k n : ℕ) (s : A) (mine : List Event → Bool) (shard : Shard) (mark : Mark) (here : Option ℕ) (path : List Turn) (turn : Turn) (others : List ℕ) →
    length path < n → choices w (spare w k s (events_of path)) (end_of w s (events_of path)) ≡ turn.place ∷ others → turn.others.items ≡ reaching shard mark here others →
    ((p : ℕ) → may_reach shard (next_mark mark (is_first_by here p) p) ≡ false → (es : List Event) → mine (events_of path ++ Run p ∷ es) ≡ false) →
    those mine (to_try w k n s (path ++ turn ∷ [])) ≡ those mine (to_try w k n s path)
unfolding to_try schedules
down_those w k zero s mine shard mark here path turn others short is kept not = absurd (omega arith)
down_those w k (suc n) s mine shard mark here [] turn others short is kept not =
    let f : ℕ → List (List Event) = λ place. schedules w (k - cost w s (Run place)) n (w.step s (Run place)) in
    those_append mine (begun turn.place (f turn.place)) (begun_by f turn.others.items)
    ∙ ap (λ ps. those mine (begun turn.place (f turn.place)) ++ those mine (begun_by f ps)) kept
    ∙ ap (λ xs. those mine (begun turn.place (f turn.place)) ++ xs) (same_reached mine shard mark here f others not)
    ∙ sym (those_append mine (begun turn.place (f turn.place)) (begun_by f others))
    ∙ sym (ap (λ ps. those mine (of_choices f ps)) is)
down_those w k (suc n) s mine shard mark here (c ∷ cs) turn others short is kept not =
    let below = down_those w (k - cost w s (event_of c)) n (w.step s (event_of c)) (λ es. mine (event_of c ∷ es)) shard mark here cs turn others (omega arith) is kept not in
    let behind = through w k n s c.others.items in
    let old = to_try w (k - cost w s (event_of c)) n (w.step s (event_of c)) cs in
    let new = to_try w (k - cost w s (event_of c)) n (w.step s (event_of c)) (cs ++ turn ∷ []) in
    those_append mine (begun c.place new) behind
    ∙ ap (λ xs. xs ++ those mine behind) (those_begun mine c.place new ∙ ap (begun c.place) below ∙ sym (those_begun mine c.place old))
    ∙ sym (those_append mine (begun c.place old) behind)

-- ---- how many are left
long_begun : (place : ℕ) (all : List (List Event)) → length (begun place all) ≡ length all
long_begun place all = length-map all (λ es. Run place ∷ es)

fewer_by : (b : Bool) (f : ℕ → List (List Event)) (place : ℕ) (some all : List ℕ) → length (begun_by f some) ≤ length (begun_by f all) →
    length (begun_by f (with_place b place some)) ≤ length (begun_by f (place ∷ all))
fewer_by true f place some all few =
    let one = length-append (begun place (f place)) (begun_by f some) in
    let two = length-append (begun place (f place)) (begun_by f all) in
    omega arith
fewer_by false f place some all few =
    let two = length-append (begun place (f place)) (begun_by f all) in
    omega arith

fewer_reached : (f : ℕ → List (List Event)) (shard : Shard) (mark : Mark) (here : Option ℕ) (places : List ℕ) →
    length (begun_by f (reaching shard mark here places)) ≤ length (begun_by f places)
fewer_reached f shard mark here [] = omega arith
fewer_reached f shard mark here (p ∷ ps) =
    fewer_by (may_reach shard (next_mark mark (is_first_by here p) p)) f p (reaching shard mark here ps) ps (fewer_reached f shard mark here ps)

-- a turn at the first of the choices, with some of the others, leaves no more of all schedules to be tried
pub down_fewer : {A : Type 0} (w : Machine A) (k n : ℕ) (s : A) (shard : Shard) (mark : Mark) (here : Option ℕ) (path : List Turn) (turn : Turn) (others : List ℕ) →
    length path < n → choices w (spare w k s (events_of path)) (end_of w s (events_of path)) ≡ turn.place ∷ others → turn.others.items ≡ reaching shard mark here others →
    length (to_try w k n s (path ++ turn ∷ [])) ≤ length (to_try w k n s path)
unfolding to_try schedules
down_fewer w k zero s shard mark here path turn others short is kept = absurd (omega arith)
down_fewer w k (suc n) s shard mark here [] turn others short is kept =
    let f : ℕ → List (List Event) = λ place. schedules w (k - cost w s (Run place)) n (w.step s (Run place)) in
    let first = begun turn.place (f turn.place) in
    let new_is = ap (λ ps. length (first ++ begun_by f ps)) kept in
    let old_is = ap (λ ps. length (of_choices f ps)) is in
    let one = length-append first (begun_by f (reaching shard mark here others)) in
    let two = length-append first (begun_by f others) in
    let fewer = fewer_reached f shard mark here others in
    omega (arith, new_is, old_is, one, two, fewer)
down_fewer w k (suc n) s shard mark here (c ∷ cs) turn others short is kept =
    let below = down_fewer w (k - cost w s (event_of c)) n (w.step s (event_of c)) shard mark here cs turn others (omega arith) is kept in
    let back = through w k n s c.others.items in
    let old = to_try w (k - cost w s (event_of c)) n (w.step s (event_of c)) cs in
    let new = to_try w (k - cost w s (event_of c)) n (w.step s (event_of c)) (cs ++ turn ∷ []) in
    let one = length-append (begun c.place new) back in
    let two = length-append (begun c.place old) back in
    let three = long_begun c.place new in
    let four = long_begun c.place old in
    omega (arith, below, one, two, three, four)
