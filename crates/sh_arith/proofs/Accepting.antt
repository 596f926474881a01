-- The tokens that C's grammar names are those of the grammar's terminals.
use Rattle.std.proofs.Common.{◌≡◌, ℕ, zero, suc, ◌-◌, ◌<◌, ◌≤◌, Bool, true, false, List, [], ◌∷◌, refl, sym, ap, ◌∙◌, subst, ⊎_elim, Some, length, arith, rules}
use Rattle.std.specs.Prelude.{slice_get, get_or, nat_eq, nat_le, ◌&&◌, ◌||◌}
use Rattle.std.proofs.lemmas.Bool.{and_parts, cases_lt, leb-true}
use Rattle.std.proofs.lemmas.List.{get_or_past}
use Rattle.sh_grammar.specs.declared.Token.{Token}
use Rattle.sh_grammar.specs.Passes.{all_below, implies}
use Rattle.sh_arith_grammar.specs.declared.operators.Role.{Role}
use Rattle.sh_arith_grammar.specs.declared.operators.Role.TheVariants as role
use Rattle.sh_arith_grammar.specs.Classes.{class_of, roles}
use Rattle.sh_arith_grammar.specs.Grammar.{arithmetic, arithmetic_grammar}
use Rattle.sh_arith_grammar.specs.Precedence.{Sign, Position, Before, Between, Deciding, Choosing, Assigning, Grouping, FromLeft, FromRight, Level, level, levels}
use Rattle.sh_arith_grammar.specs.Roles.{role_of}
use Rattle.sh_arith_grammar.proofs.Computed.{below_at, then_true}
use Rattle.sh_arith.specs.Written.{IsOperator, is_listed}
use Rattle.sh_arith.proofs.Constructing.{Accepts}

abbrev code : Role → ℕ
code role.Number = 0
code role.Name = 1
code role.Operator = 2
code role.Logic = 3
code role.Question = 4
code role.Colon = 5
code role.Assign = 6
code role.Opening = 7
code role.Closing = 8
code role.Nothing = 9

same_code : (r : Role) → nat_eq (code r) (code r) ≡ true
same_code role.Number = refl
same_code role.Name = refl
same_code role.Operator = refl
same_code role.Logic = refl
same_code role.Question = refl
same_code role.Colon = refl
same_code role.Assign = refl
same_code role.Opening = refl
same_code role.Closing = refl
same_code role.Nothing = refl

abbrev role_at : Role → ℕ → ℕ → Bool
role_at r k c = implies (nat_eq (code (role_of c)) (code r)) (arithmetic_grammar.accepts k c)

roles_long : length roles ≡ 39
unfolding roles
roles_long = refl

past_is_nothing : (c : ℕ) → 39 ≤ c → role_of c ≡ role.Nothing
unfolding role_of
past_is_nothing c l = get_or_past roles c role.Nothing (omega (arith, l, roles_long))

role_accepted : (r : Role) (k : ℕ) → all_below (role_at r k) 39 ≡ true → nat_eq 9 (code r) ≡ false → (t : Token) → role_of t.class ≡ r → Accepts k t
role_accepted r k h n t e =
    ⊎_elim (λ (l : t.class < 39). then_true _ _ (below_at (role_at r k) 39 t.class h l) (subst (λ q. nat_eq (code q) (code r) ≡ true) (sym e) (same_code r)))
    (λ (l : 39 ≤ t.class).
    let p : nat_eq (code role.Nothing) (code r) ≡ true = subst (λ q. nat_eq (code q) (code r) ≡ true) (sym e ∙ past_is_nothing t.class l) (same_code r) in
    absurd (cc))
    (cases_lt t.class 39)

pub number_accepted : (t : Token) → role_of t.class ≡ role.Number → Accepts 0 t
unfolding arithmetic_grammar arithmetic role_of roles
number_accepted t e = role_accepted role.Number 0 refl refl t e

pub name_accepted : (t : Token) → role_of t.class ≡ role.Name → Accepts 1 t
unfolding arithmetic_grammar arithmetic role_of roles
name_accepted t e = role_accepted role.Name 1 refl refl t e

pub colon_accepted : (t : Token) → role_of t.class ≡ role.Colon → Accepts 15 t
unfolding arithmetic_grammar arithmetic role_of roles
colon_accepted t e = role_accepted role.Colon 15 refl refl t e

pub opening_accepted : (t : Token) → role_of t.class ≡ role.Opening → Accepts 16 t
unfolding arithmetic_grammar arithmetic role_of roles
opening_accepted t e = role_accepted role.Opening 16 refl refl t e

pub closing_accepted : (t : Token) → role_of t.class ≡ role.Closing → Accepts 17 t
unfolding arithmetic_grammar arithmetic role_of roles
closing_accepted t e = role_accepted role.Closing 17 refl refl t e

-- ---- operators

found : (xs : List Level) (i : ℕ) (l d : Level) → slice_get xs i ≡ Some l → get_or xs i d ≡ l
found [] i l d e = absurd (cc)
found (x ∷ xs) zero l d e = cc
found (x ∷ xs) (suc i) l d e = found xs i l d e

bounded : (xs : List Level) (i : ℕ) (l : Level) → slice_get xs i ≡ Some l → i < length xs
bounded [] i l e = absurd (cc)
bounded (x ∷ xs) zero l e = omega arith
bounded (x ∷ xs) (suc i) l e = let k = bounded xs i l e in omega (arith, k)

abbrev at_level : ℕ → Level
at_level i = get_or levels i (level Before FromRight [])

pub few : (i : ℕ) (p : Position) (g : Grouping) (t : Token) → IsOperator i p g t → i < 13
few i p g t o = bounded levels i (level p g o.signs) o.there

abbrev all_signs : ℕ → List Sign → Bool
all_signs k [] = true
all_signs k (s ∷ signs) = arithmetic_grammar.accepts k (class_of s.spelling) && all_signs k signs

either_way : (b : Bool) (A : Type 0) → (b ≡ true → A) → (b ≡ false → A) → A
either_way true A f g = f refl
either_way false A f g = g refl

listed_accepted : (k c : ℕ) (signs : List Sign) → all_signs k signs ≡ true → is_listed c signs ≡ true → arithmetic_grammar.accepts k c ≡ true
listed_accepted k c [] h g = absurd (cc)
listed_accepted k c (s ∷ signs) h g =
    let both = and_parts (arithmetic_grammar.accepts k (class_of s.spelling)) (all_signs k signs) h in
    either_way (nat_eq (class_of s.spelling) c) _
    (λ d. let e : class_of s.spelling ≡ c = search (rules, d) in subst (λ x. arithmetic_grammar.accepts k x ≡ true) e both.0)
    (λ d. listed_accepted k c signs both.1 (subst (λ b. (b || is_listed c signs) ≡ true) d g))

abbrev signs_at : ℕ → Bool
signs_at i = all_signs (14 - i) (at_level i).signs

all_signed : all_below signs_at 13 ≡ true
unfolding arithmetic_grammar arithmetic
all_signed = refl

pub operator_accepted : (i : ℕ) (p : Position) (g : Grouping) (t : Token) → IsOperator i p g t → Accepts (14 - i) t
operator_accepted i p g t o =
    let e : at_level i ≡ level p g o.signs = found levels i (level p g o.signs) (level Before FromRight []) o.there in
    listed_accepted (14 - i) t.class o.signs (subst (λ l. all_signs (14 - i) l.signs ≡ true) e (below_at signs_at 13 i all_signed (few i p g t o))) o.listed

abbrev place : Position → ℕ
place Before = 0
place Between = 1
place Deciding = 2
place Choosing = 3
place Assigning = 4

same_place : (p : Position) → nat_eq (place p) (place p) ≡ true
same_place Before = refl
same_place Between = refl
same_place Deciding = refl
same_place Choosing = refl
same_place Assigning = refl

abbrev place_at : Position → ℕ → ℕ → ℕ → Bool
place_at p low high i = implies (nat_eq (place (at_level i).position) (place p)) (nat_le low i && nat_le i high)

ranged : (p : Position) (low high : ℕ) → all_below (place_at p low high) 13 ≡ true → (i : ℕ) (g : Grouping) (t : Token) → IsOperator i p g t → (low ≤ i) × (i ≤ high)
ranged p low high h i g t o =
    let e : at_level i ≡ level p g o.signs = found levels i (level p g o.signs) (level Before FromRight []) o.there in
    let b = then_true _ _ (below_at (place_at p low high) 13 i h (few i p g t o)) (subst (λ l. nat_eq (place l.position) (place p) ≡ true) (sym e) (same_place p)) in
    let c = and_parts (nat_le low i) (nat_le i high) b in
    (leb-true low i c.0, leb-true i high c.1)

pub before_range : (i : ℕ) (g : Grouping) (t : Token) → IsOperator i Before g t → (12 ≤ i) × (i ≤ 12)
before_range = ranged Before 12 12 refl

pub between_range : (i : ℕ) (g : Grouping) (t : Token) → IsOperator i Between g t → (4 ≤ i) × (i ≤ 11)
between_range = ranged Between 4 11 refl

pub deciding_range : (i : ℕ) (g : Grouping) (t : Token) → IsOperator i Deciding g t → (2 ≤ i) × (i ≤ 3)
deciding_range = ranged Deciding 2 3 refl

pub choosing_range : (i : ℕ) (g : Grouping) (t : Token) → IsOperator i Choosing g t → (1 ≤ i) × (i ≤ 1)
choosing_range = ranged Choosing 1 1 refl

pub assigning_range : (i : ℕ) (g : Grouping) (t : Token) → IsOperator i Assigning g t → (0 ≤ i) × (i ≤ 0)
assigning_range = ranged Assigning 0 0 refl

abbrev is_left : Grouping → Bool
is_left FromLeft = true
is_left FromRight = false

abbrev left_at : ℕ → Bool
left_at i = implies (nat_le 2 i && nat_le i 11) (is_left (at_level i).grouping)

all_left : all_below left_at 13 ≡ true
all_left = refl

left_is : (g : Grouping) → is_left g ≡ true → FromLeft ≡ g
left_is FromLeft h = refl
left_is FromRight h = absurd (cc)

both_true : (a b : Bool) → a ≡ true → b ≡ true → (a && b) ≡ true
both_true a b e f = ap (λ x. x && b) e ∙ f

pub groups_left : (i : ℕ) (p : Position) (g : Grouping) (t : Token) → 2 ≤ i → i ≤ 11 → IsOperator i p g t → FromLeft ≡ g
groups_left i p g t k l o =
    let e : at_level i ≡ level p g o.signs = found levels i (level p g o.signs) (level Before FromRight []) o.there in
    let a : nat_le 2 i ≡ true = search (rules, k) in
    let b : nat_le i 11 ≡ true = search (rules, l) in
    left_is g (subst (λ x. is_left x.grouping ≡ true) e (then_true _ _ (below_at left_at 13 i all_left (few i p g t o)) (both_true (nat_le 2 i) (nat_le i 11) a b)))

pub choice_groups_right : (g : Grouping) (t : Token) → IsOperator 1 Choosing g t → FromRight ≡ g
choice_groups_right g t o = ap (λ l. l.grouping) (found levels 1 (level Choosing g o.signs) (level Before FromRight []) o.there)
