-- Each schedule is of just one of the shards.
use Rattle.std.proofs.Common.{◌≡◌, ℕ, zero, suc, ◌+◌, ◌-◌, ◌%◌, ◌<◌, ◌≤◌, Bool, true, false, nat_eq, List, [], ◌∷◌, length, refl, sym, ap, ◌∙◌, arith, inl, inr}
use Rattle.std.proofs.lemmas.Bool.{eqb-true, eqb-false}
use Rattle.std.proofs.lemmas.Nat.{mod_below}
use Rattle.sh_exec.specs.declared.event.Event.{Event}
use Rattle.sh_schedules_outcomes.specs.Schedules.{IsSchedule, Machine}
use Rattle.sh_schedules_outcomes.specs.Choices.{In, schedules}
use Rattle.sh_schedules.specs.Shards.{first_mark, is_dealt, is_of_shard, marked, numbers_up_to, shard_at, shard_of, those, with_next}
use Rattle.sh_schedules_outcomes.proofs.Orders.{complete}
use Rattle.sh_schedules.proofs.Shards.{among_those}

-- how many shards there are
count_is : (before last : ℕ) → before ≤ last → before + (last - before) + 1 ≡ suc last
count_is before last h = omega arith

-- to which shard a number is dealt
pub dealt_is : (key before last : ℕ) → before ≤ last → is_dealt (shard_at before last) key ≡ nat_eq (key % suc last) before
dealt_is key before last h = ap (λ (count : ℕ). nat_eq (key % count) before) (count_is before last h)

pub same_number : (n : ℕ) (b : Bool) → nat_eq n n ≡ b → b ≡ true
same_number n true e = refl
same_number n false e = absurd (eqb-false n n e refl)

pub of_one : {A : Type 0} (w : Machine A) (k n last : ℕ) (s : A) (es : List Event) → IsSchedule w k n s es →
    (before : ℕ) × (before ≤ last) × In (shard_of w (shard_at before last) k n s) es
of_one w k n last s es is =
    let key = (marked w first_mark s es).key in
    let before = key % suc last in
    let less = mod_below key (suc last) (omega arith) in
    let within : before ≤ last = omega arith in (
      before,
      within,
      among_those (is_of_shard w (shard_at before last) s) (schedules w k n s) es (complete w k n s es is)
          (dealt_is key before last within ∙ same_number before (nat_eq before before) refl),
    )

mine_by : (b : Bool) (mine : List Event → Bool) (es : List Event) (rest : List (List Event)) (x : List Event) → mine es ≡ b →
    (In rest x → mine x ≡ true) → In (with_next b es rest) x → mine x ≡ true
mine_by true mine es rest x is below (inl e) = ap mine (sym e) ∙ is
mine_by true mine es rest x is below (inr h) = below h
mine_by false mine es rest x is below h = below h

-- what is among those that are meant is meant
pub is_mine : (mine : List Event → Bool) (all : List (List Event)) (x : List Event) → In (those mine all) x → mine x ≡ true
is_mine mine [] x h = absurd h
is_mine mine (es ∷ rest) x h = mine_by (mine es) mine es (those mine rest) x refl (is_mine mine rest x) h

pub of_no_other : {A : Type 0} (w : Machine A) (k n last before other : ℕ) (s : A) (es : List Event) → before ≤ last → other ≤ last →
    In (shard_of w (shard_at before last) k n s) es → In (shard_of w (shard_at other last) k n s) es → before ≡ other
of_no_other w k n last before other s es h g one two =
    let key = (marked w first_mark s es).key in
    let first = is_mine (is_of_shard w (shard_at before last) s) (schedules w k n s) es one in
    let second = is_mine (is_of_shard w (shard_at other last) s) (schedules w k n s) es two in
    sym (eqb-true (key % suc last) before (sym (dealt_is key before last h) ∙ first)) ∙ eqb-true (key % suc last) other (sym (dealt_is key other last g) ∙ second)

-- ---- numbers
abbrev one_by : Bool → ℕ
one_by true = 1
one_by false = 0

length_next : (b : Bool) (es : List Event) (rest : List (List Event)) → length (with_next b es rest) ≡ one_by b + length rest
length_next true es rest = omega arith
length_next false es rest = omega arith

none_here : (number here : ℕ) (b : Bool) → nat_eq number here ≡ b → here < number → one_by b ≡ 0
none_here number here true e less = let same = eqb-true number here e in absurd (omega arith)
none_here number here false e less = refl

one_here : (number here : ℕ) (b : Bool) → nat_eq number here ≡ b → number ≡ here → one_by b ≡ 1
one_here number here true e same = refl
one_here number here false e same = absurd (eqb-false number here e same)

-- none of the shards up to this one has the number
none_yet : (number last : ℕ) → last < number → numbers_up_to (λ i. one_by (nat_eq number i)) last ≡ 0
none_yet number zero less = none_here number 0 (nat_eq number 0) refl less
none_yet number (suc last) less =
    let here = none_here number (suc last) (nat_eq number (suc last)) refl less in
    let before = none_yet number last (omega arith) in
    omega arith

just_by : (number last sum : ℕ) (b : Bool) → nat_eq number (suc last) ≡ b → number ≤ suc last → (number ≤ last → sum ≡ 1) → (last < number → sum ≡ 0) → one_by b + sum ≡ 1
just_by number last sum true e within below none =
    let same = eqb-true number (suc last) e in
    let zero_is = none (omega arith) in
    omega arith
just_by number last sum false e within below none =
    let differ = eqb-false number (suc last) e in
    let less : number ≤ last = omega arith in
    let one = below less in
    omega arith

-- just one of them has it
just_one : (number last : ℕ) → number ≤ last → numbers_up_to (λ i. one_by (nat_eq number i)) last ≡ 1
just_one number zero within = one_here number 0 (nat_eq number 0) refl (omega arith)
just_one number (suc last) within =
    just_by number last (numbers_up_to (λ i. one_by (nat_eq number i)) last) (nat_eq number (suc last)) refl within (just_one number last) (none_yet number last)

sum_zero : (last : ℕ) → numbers_up_to (λ i. 0) last ≡ 0
sum_zero zero = refl
sum_zero (suc last) = let rest = sum_zero last in omega arith

sum_add : (f g : ℕ → ℕ) (last : ℕ) → numbers_up_to (λ i. f i + g i) last ≡ numbers_up_to f last + numbers_up_to g last
sum_add f g zero = refl
sum_add f g (suc last) = let rest = sum_add f g last in omega arith

sum_same : (f g : ℕ → ℕ) (last : ℕ) → ((i : ℕ) → i ≤ last → f i ≡ g i) → numbers_up_to f last ≡ numbers_up_to g last
sum_same f g zero same = same 0 (omega arith)
sum_same f g (suc last) same =
    let here = same (suc last) (omega arith) in
    let rest = sum_same f g last (λ i within. same i (omega arith)) in
    omega arith

-- where a number tells which are meant, each is counted once
sum_those : (mine : ℕ → List Event → Bool) (number : List Event → ℕ) (last : ℕ) → ((i : ℕ) (es : List Event) → i ≤ last → mine i es ≡ nat_eq (number es) i) →
    ((es : List Event) → number es ≤ last) → (all : List (List Event)) → numbers_up_to (λ i. length (those (mine i) all)) last ≡ length all
sum_those mine number last told within [] = sum_zero last
sum_those mine number last told within (es ∷ rest) =
    let below = sum_those mine number last told within rest in
    let one = just_one (number es) last (within es) in
    let parts =
    sum_same (λ i. length (those (mine i) (es ∷ rest))) (λ i. one_by (nat_eq (number es) i) + length (those (mine i) rest)) last
    (λ i small. length_next (mine i es) es (those (mine i) rest) ∙ ap (λ (b : Bool). one_by b + length (those (mine i) rest)) (told i es small)) in
    let added = sum_add (λ i. one_by (nat_eq (number es) i)) (λ i. length (those (mine i) rest)) last in
    omega arith

pub numbers_add : {A : Type 0} (w : Machine A) (k n last : ℕ) (s : A) →
    numbers_up_to (λ before. length (shard_of w (shard_at before last) k n s)) last ≡ length (schedules w k n s)
numbers_add w k n last s =
    sum_those (λ before. is_of_shard w (shard_at before last) s) (λ es. (marked w first_mark s es).key % suc last) last
    (λ before es within. dealt_is (marked w first_mark s es).key before last within)
    (λ es. let less = mod_below (marked w first_mark s es).key (suc last) (omega arith) in omega arith) (schedules w k n s)
