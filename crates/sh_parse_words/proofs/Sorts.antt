-- What sort of value each symbol has, and what sort each kind of production makes of which.
use Rattle.std.proofs.Common.{◌≡◌, refl, sym, subst, ℕ, nat_eq, Bool, true, false, ◌&&◌, ◌||◌, List, [], ◌∷◌, get_or, Option, Some, None, is_some, option_map, option_and_then}
use Rattle.std.specs.Option.{option_zip}
use Rattle.std.proofs.lemmas.Bool.{eqb-true}
use Rattle.sh_syntax.specs.declared.tree.Compound.{Compound}
use Rattle.sh_syntax.specs.declared.tree.Name.{Name}
use Rattle.sh_syntax.specs.declared.tree.Word.{Word}
use Rattle.sh_parse_actions.specs.declared.kind.Item.{Item}
use Rattle.sh_parse_actions.specs.declared.kind.Item.TheVariants as item
use Rattle.sh_parse_actions.specs.declared.kind.Kind.{Kind}
use Rattle.sh_parse_actions.specs.declared.kind.Kind.TheVariants.{Nothing, One, Two, Three}
use Rattle.sh_parse_actions.specs.declared.kind.Unary.{Unary}
use Rattle.sh_parse_actions.specs.declared.kind.Unary.TheVariants as one
use Rattle.sh_parse_actions.specs.declared.kind.Binary.{Binary}
use Rattle.sh_parse_actions.specs.declared.kind.Binary.TheVariants as two
use Rattle.sh_parse_actions.specs.declared.kind.Ternary.{Ternary}
use Rattle.sh_parse_actions.specs.declared.kind.Ternary.TheVariants as three
use Rattle.sh_parse_actions.specs.declared.leaf.Leaf.{Leaf}
use Rattle.sh_parse_actions.specs.declared.leaf.Leaf.TheVariants as leaf
use Rattle.sh_parse_actions.specs.declared.value.Parameters.{Parameters}
use Rattle.sh_parse_actions.specs.declared.value.Values.{Values}
use Rattle.sh_parse_actions.specs.declared.value.Value.{Value}
use Rattle.sh_parse_actions.specs.declared.value.Value.TheVariants as value
use Rattle.sh_parse_actions.specs.Actions.{production_value, made_for, made_named, made_one, made_redirect, made_three, made_two}
use Rattle.sh_parse_actions.specs.Values.{leaf_target, and_or_in, body_in, case_items_in, command_in, commands_in, compound_list_in, else_in, form_in, item_body_in, item_end_in, item_in, items_in, leaf_in, list_in, loop_in, name_in, number_in, parameters_in, patterns_in, pipeline_in, pipelines_in, redirect_in, redirects_in, tail_in, target_in, values_in, word_in}
use Rattle.sh_parse_words.proofs.Bools.{left_true, right_true, or_true, second_true}

-- sorts by number: a value is of a sort where it has a part of that sort

abbrev pub leaf_redirects : Option Leaf → Bool
leaf_redirects (Some (leaf.Redirection operator)) = true
leaf_redirects (Some (leaf.HereDocument operator body)) = true
leaf_redirects (Some leaf.Operator) = false
leaf_redirects (Some (leaf.Number digits)) = false
leaf_redirects (Some (leaf.Word word)) = false
leaf_redirects (Some (leaf.Name word name)) = false
leaf_redirects (Some (leaf.Assignment word name parts)) = false
leaf_redirects None = false

abbrev pub tests : Value → List Bool
tests v =
    (true) ∷
    (is_some (word_in v)) ∷
    (is_some (name_in v) && is_some (word_in v)) ∷
    (is_some (number_in v)) ∷
    (leaf_redirects (leaf_in v)) ∷
    (is_some (loop_in v)) ∷
    (is_some (item_in item.Assignment v)) ∷
    (is_some (redirect_in v)) ∷
    (is_some (redirects_in v)) ∷
    (is_some (items_in v)) ∷
    (is_some (body_in v) || is_some (items_in v)) ∷
    (is_some (command_in v)) ∷
    (is_some (commands_in v)) ∷
    (is_some (pipeline_in v)) ∷
    (is_some (pipelines_in v)) ∷
    (is_some (and_or_in v)) ∷
    (is_some (tail_in v)) ∷
    (is_some (list_in v)) ∷
    (is_some (compound_list_in v)) ∷
    (is_some (form_in v)) ∷
    (is_some (else_in v)) ∷
    (is_some (values_in v)) ∷
    (is_some (parameters_in v) || is_some (values_in v)) ∷
    (is_some (patterns_in v)) ∷
    (is_some (case_items_in v)) ∷
    (is_some (item_end_in v)) ∷
    (is_some (item_body_in v)) ∷ []

abbrev pub Has : ℕ → Value → Type 0
Has n v = get_or (tests v) n false ≡ true

abbrev pub good : ℕ → Option Value → Bool
good n None = false
good n (Some v) = get_or (tests v) n false

abbrev pub Good : ℕ → Option Value → Type 0
Good n o = good n o ≡ true

-- what each kind takes, and what it makes, where the production's symbol is of the sort head

abbrev pub takes_one : Unary → ℕ → ℕ
takes_one one.Same head = head
takes_one (one.Separated separator) head = 17
takes_one one.Else head = 18
takes_one (one.Parameters is_separated) head = 18
takes_one one.LastValue head = 18
takes_one one.Group head = 18
takes_one one.Subshell head = 18
takes_one one.EmptyItem head = 25
takes_one one.Break head = 24

abbrev pub makes_one : Unary → ℕ → ℕ
makes_one one.Same head = head
makes_one (one.Separated separator) head = 16
makes_one one.Else head = 20
makes_one (one.Parameters is_separated) head = 22
makes_one one.LastValue head = 21
makes_one one.Group head = 19
makes_one one.Subshell head = 19
makes_one one.EmptyItem head = 26
makes_one one.Break head = 25

abbrev pub item_sort : Item → ℕ
item_sort item.Word = 1
item_sort item.Assignment = 6
item_sort item.Redirect = 7

abbrev pub first_of_two : Binary → ℕ
first_of_two two.List = 15
first_of_two two.CompoundList = 15
first_of_two two.AndOr = 13
first_of_two (two.Connected connector) = 13
first_of_two (two.Pipeline is_negated) = 11
first_of_two two.Piped = 11
first_of_two two.Compound = 19
first_of_two two.Body = 19
first_of_two two.Named = 2
first_of_two (two.Simple kind) = item_sort kind
first_of_two (two.Items kind) = item_sort kind
first_of_two two.Redirects = 7
first_of_two two.Redirect = 4
first_of_two two.For = 2
first_of_two two.Value = 1
first_of_two two.Case = 1
first_of_two two.Patterns = 1

abbrev pub second_of_two : Binary → ℕ
second_of_two two.List = 16
second_of_two two.CompoundList = 16
second_of_two two.AndOr = 14
second_of_two (two.Connected connector) = 14
second_of_two (two.Pipeline is_negated) = 12
second_of_two two.Piped = 12
second_of_two two.Compound = 8
second_of_two two.Body = 8
second_of_two two.Named = 10
second_of_two (two.Simple kind) = 9
second_of_two (two.Items kind) = 9
second_of_two two.Redirects = 8
second_of_two two.Redirect = 1
second_of_two two.For = 22
second_of_two two.Value = 21
second_of_two two.Case = 24
second_of_two two.Patterns = 23

abbrev pub makes_two : Binary → ℕ
makes_two two.List = 17
makes_two two.CompoundList = 18
makes_two two.AndOr = 15
makes_two (two.Connected connector) = 14
makes_two (two.Pipeline is_negated) = 13
makes_two two.Piped = 12
makes_two two.Compound = 11
makes_two two.Body = 10
makes_two two.Named = 11
makes_two (two.Simple kind) = 11
makes_two (two.Items kind) = 9
makes_two two.Redirects = 8
makes_two two.Redirect = 7
makes_two two.For = 19
makes_two two.Value = 21
makes_two two.Case = 19
makes_two two.Patterns = 23

abbrev pub first_of_three : Ternary → ℕ
first_of_three three.Redirect = 3
first_of_three three.If = 18
first_of_three three.ElseIf = 18
first_of_three three.Loop = 5
first_of_three (three.CaseItem has_parenthesis) = 1
first_of_three three.ItemList = 15

abbrev pub second_of_three : Ternary → ℕ
second_of_three three.Redirect = 4
second_of_three three.If = 18
second_of_three three.ElseIf = 18
second_of_three three.Loop = 18
second_of_three (three.CaseItem has_parenthesis) = 23
second_of_three three.ItemList = 16

abbrev pub third_of_three : Ternary → ℕ
third_of_three three.Redirect = 1
third_of_three three.If = 20
third_of_three three.ElseIf = 20
third_of_three three.Loop = 18
third_of_three (three.CaseItem has_parenthesis) = 26
third_of_three three.ItemList = 25

abbrev pub makes_three : Ternary → ℕ
makes_three three.Redirect = 7
makes_three three.If = 19
makes_three three.ElseIf = 20
makes_three three.Loop = 19
makes_three (three.CaseItem has_parenthesis) = 24
makes_three three.ItemList = 26

-- what is made of parts that are there

map_good : {A : Type 0} (f : A → Value) (o : Option A) (n : ℕ) → is_some o ≡ true → ((x : A) → Has n (f x)) → Good n (option_map f o)
map_good f None n h g = absurd (cc)
map_good f (Some x) n h g = g x

then_good : {A : Type 0} (f : A → Option Value) (o : Option A) (n : ℕ) → is_some o ≡ true → ((x : A) → Good n (f x)) → Good n (option_and_then f o)
then_good f None n h g = absurd (cc)
then_good f (Some x) n h g = g x

zip_some : {A B : Type 0} (a : Option A) (b : Option B) → is_some a ≡ true → is_some b ≡ true → is_some (option_zip a b) ≡ true
zip_some None b h k = absurd (cc)
zip_some (Some x) None h k = absurd (cc)
zip_some (Some x) (Some y) h k = refl

map_some : {A B : Type 0} (f : A → B) (o : Option A) → is_some o ≡ true → is_some (option_map f o) ≡ true
map_some f None h = absurd (cc)
map_some f (Some x) h = refl

redirect_some : (o : Option Leaf) (w : Word) → leaf_redirects o ≡ true → is_some (option_and_then (leaf_target w) o) ≡ true
redirect_some (Some (leaf.Redirection operator)) w h = refl
redirect_some (Some (leaf.HereDocument operator body)) w h = refl
redirect_some (Some leaf.Operator) w h = absurd (cc)
redirect_some (Some (leaf.Number digits)) w h = absurd (cc)
redirect_some (Some (leaf.Word word)) w h = absurd (cc)
redirect_some (Some (leaf.Name word name)) w h = absurd (cc)
redirect_some (Some (leaf.Assignment word name parts)) w h = absurd (cc)
redirect_some None w h = absurd (cc)

target_some : (a : Value) (w : Word) → leaf_redirects (leaf_in a) ≡ true → is_some (target_in a w) ≡ true
unfolding target_in
target_some a w h = redirect_some (leaf_in a) w h

item_some : (kind : Item) (a : Value) → Has (item_sort kind) a → is_some (item_in kind a) ≡ true
unfolding item_in
item_some item.Word a h = map_some _ (word_in a) h
item_some item.Assignment a h = h
item_some item.Redirect a h = map_some _ (redirect_in a) h

redirect_good : (number : Option (List ℕ)) (a : Value) (w : Word) → Has 4 a → Good 7 (made_redirect number a w)
unfolding redirect_in
redirect_good number a w h = map_good _ (target_in a w) 7 (target_some a w h) (λ t. refl)

named_good : (o : Option Compound) (a b : Value) → is_some (name_in a) ≡ true → is_some (word_in a) ≡ true → (is_some o || is_some (items_in b)) ≡ true
    → Good 11 (made_named o a b)
unfolding command_in
named_good (Some body) a b n w h = map_good _ (name_in a) 11 n (λ name. refl)
named_good None a b n w h = map_good _ (option_zip (item_in item.Word a) (items_in b)) 11 (zip_some _ _ (item_some item.Word a w) h) (λ p. refl)

for_good : (o : Option Parameters) (values : Option Values) (name : Name) → (is_some o || is_some values) ≡ true → Good 19 (made_for o values name)
unfolding form_in
for_good (Some p) values name h = refl
for_good None values name h = map_good _ values 19 h (λ v. refl)

-- each kind

pub one_good : (kind : Unary) (head : ℕ) (a : Value) → Has (takes_one kind head) a → Good (makes_one kind head) (made_one kind a)
unfolding tail_in else_in parameters_in values_in form_in item_body_in item_end_in
one_good one.Same head a h = h
one_good (one.Separated separator) head a h = map_good _ (list_in a) 16 h (λ x. refl)
one_good one.Else head a h = map_good _ (compound_list_in a) 20 h (λ x. refl)
one_good (one.Parameters is_separated) head a h = map_good _ (compound_list_in a) 22 h (λ x. refl)
one_good one.LastValue head a h = map_good _ (compound_list_in a) 21 h (λ x. refl)
one_good one.Group head a h = map_good _ (compound_list_in a) 19 h (λ x. refl)
one_good one.Subshell head a h = map_good _ (compound_list_in a) 19 h (λ x. refl)
one_good one.EmptyItem head a h = map_good _ (item_end_in a) 26 h (λ x. refl)
one_good one.Break head a h = map_good _ (case_items_in a) 25 h (λ x. refl)

pub two_good : (kind : Binary) (a b : Value) → Has (first_of_two kind) a → Has (second_of_two kind) b → Good (makes_two kind) (made_two kind a b)
unfolding list_in compound_list_in and_or_in pipelines_in pipeline_in commands_in command_in body_in items_in redirects_in redirect_in form_in values_in patterns_in
two_good two.List a b h k = map_good _ (option_zip (and_or_in a) (tail_in b)) 17 (zip_some _ _ h k) (λ p. refl)
two_good two.CompoundList a b h k = map_good _ (option_zip (and_or_in a) (tail_in b)) 18 (zip_some _ _ h k) (λ p. refl)
two_good two.AndOr a b h k = map_good _ (option_zip (pipeline_in a) (pipelines_in b)) 15 (zip_some _ _ h k) (λ p. refl)
two_good (two.Connected connector) a b h k = map_good _ (option_zip (pipeline_in a) (pipelines_in b)) 14 (zip_some _ _ h k) (λ p. refl)
two_good (two.Pipeline is_negated) a b h k = map_good _ (option_zip (command_in a) (commands_in b)) 13 (zip_some _ _ h k) (λ p. refl)
two_good two.Piped a b h k = map_good _ (option_zip (command_in a) (commands_in b)) 12 (zip_some _ _ h k) (λ p. refl)
two_good two.Compound a b h k = map_good _ (option_zip (form_in a) (redirects_in b)) 11 (zip_some _ _ h k) (λ p. refl)
two_good two.Body a b h k = map_good _ (option_zip (form_in a) (redirects_in b)) 10 (zip_some _ _ h k) (λ p. refl)
two_good two.Named a b h k = named_good (body_in b) a b (left_true _ _ h) (right_true _ _ h) k
two_good (two.Simple kind) a b h k = map_good _ (option_zip (item_in kind a) (items_in b)) 11 (zip_some _ _ (item_some kind a h) k) (λ p. refl)
two_good (two.Items kind) a b h k = map_good _ (option_zip (item_in kind a) (items_in b)) 9 (zip_some _ _ (item_some kind a h) k) (λ p. refl)
two_good two.Redirects a b h k = map_good _ (option_zip (redirect_in a) (redirects_in b)) 8 (zip_some _ _ h k) (λ p. refl)
two_good two.Redirect a b h k = then_good _ (word_in b) 7 k (λ w. redirect_good None a w h)
two_good two.For a b h k = then_good _ (name_in a) 19 (left_true _ _ h) (λ name. for_good (parameters_in b) (values_in b) name k)
two_good two.Value a b h k = map_good _ (option_zip (word_in a) (values_in b)) 21 (zip_some _ _ h k) (λ p. refl)
two_good two.Case a b h k = map_good _ (option_zip (word_in a) (case_items_in b)) 19 (zip_some _ _ h k) (λ p. refl)
two_good two.Patterns a b h k = map_good _ (option_zip (word_in a) (patterns_in b)) 23 (zip_some _ _ h k) (λ p. refl)

pub three_good : (kind : Ternary) (a b c : Value) → Has (first_of_three kind) a → Has (second_of_three kind) b → Has (third_of_three kind) c
    → Good (makes_three kind) (made_three kind a b c)
unfolding form_in else_in case_items_in item_body_in
three_good three.Redirect a b c h k l = then_good _ (option_zip (number_in a) (word_in c)) 7 (zip_some _ _ h l) (λ p. redirect_good (Some p.0) b p.1 k)
three_good three.If a b c h k l =
    map_good _ (option_zip (option_zip (compound_list_in a) (compound_list_in b)) (else_in c)) 19 (zip_some _ _ (zip_some _ _ h k) l) (λ p. refl)
three_good three.ElseIf a b c h k l =
    map_good _ (option_zip (option_zip (compound_list_in a) (compound_list_in b)) (else_in c)) 20 (zip_some _ _ (zip_some _ _ h k) l) (λ p. refl)
three_good three.Loop a b c h k l =
    map_good _ (option_zip (option_zip (loop_in a) (compound_list_in b)) (compound_list_in c)) 19 (zip_some _ _ (zip_some _ _ h k) l) (λ p. refl)
three_good (three.CaseItem has_parenthesis) a b c h k l =
    map_good _ (option_zip (option_zip (word_in a) (patterns_in b)) (item_body_in c)) 24 (zip_some _ _ (zip_some _ _ h k) l) (λ p. refl)
three_good three.ItemList a b c h k l =
    map_good _ (option_zip (option_zip (and_or_in a) (tail_in b)) (item_end_in c)) 26 (zip_some _ _ (zip_some _ _ h k) l) (λ p. refl)

-- a sort may stand where another is asked for

abbrev pub serves : ℕ → ℕ → Bool
serves a b = nat_eq a b || ((nat_eq a 9 && nat_eq b 10) || (nat_eq a 21 && nat_eq b 22))

same_has : (a b : ℕ) (v : Value) → nat_eq a b ≡ true → Has a v → Has b v
same_has a b v e h = subst (λ (n : ℕ). Has n v) (eqb-true a b e) h

items_has : (a b : ℕ) (v : Value) → (nat_eq a 9 && nat_eq b 10) ≡ true → Has a v → Has b v
items_has a b v e h =
    let i : Has 9 v = same_has a 9 v (left_true _ _ e) h in
    let n : Has 10 v = second_true (is_some (body_in v)) (is_some (items_in v)) i in
    subst (λ (n : ℕ). Has n v) (sym (eqb-true b 10 (right_true (nat_eq a 9) _ e))) n

values_has : (a b : ℕ) (v : Value) → (nat_eq a 21 && nat_eq b 22) ≡ true → Has a v → Has b v
values_has a b v e h =
    let i : Has 21 v = same_has a 21 v (left_true _ _ e) h in
    let n : Has 22 v = second_true (is_some (parameters_in v)) (is_some (values_in v)) i in
    subst (λ (n : ℕ). Has n v) (sym (eqb-true b 22 (right_true (nat_eq a 21) _ e))) n

pub serves_has : (a b : ℕ) (v : Value) → serves a b ≡ true → Has a v → Has b v
serves_has a b v e h =
    or_true (Has b v) _ _ e (λ i. same_has a b v i h) (λ j. or_true (Has b v) _ _ j (λ i. items_has a b v i h) (λ i. values_has a b v i h))

serves_good : (a b : ℕ) (o : Option Value) → serves a b ≡ true → Good a o → Good b o
serves_good a b None e h = absurd (cc)
serves_good a b (Some v) e h = serves_has a b v e h

-- a production of a kind, by the sorts of the symbols that matter and of its head

abbrev pub checked_one : Unary → List ℕ → ℕ → Bool
checked_one kind (a ∷ []) head = serves a (takes_one kind head) && serves (makes_one kind head) head
checked_one kind [] head = false
checked_one kind (a ∷ b ∷ sorts) head = false

abbrev pub checked_two : Binary → List ℕ → ℕ → Bool
checked_two kind (a ∷ b ∷ []) head = serves a (first_of_two kind) && (serves b (second_of_two kind) && serves (makes_two kind) head)
checked_two kind [] head = false
checked_two kind (a ∷ []) head = false
checked_two kind (a ∷ b ∷ c ∷ sorts) head = false

abbrev pub checked_three : Ternary → List ℕ → ℕ → Bool
checked_three kind (a ∷ b ∷ c ∷ []) head =
    serves a (first_of_three kind) && (serves b (second_of_three kind) && (serves c (third_of_three kind) && serves (makes_three kind) head))
checked_three kind [] head = false
checked_three kind (a ∷ []) head = false
checked_three kind (a ∷ b ∷ []) head = false
checked_three kind (a ∷ b ∷ c ∷ d ∷ sorts) head = false

abbrev pub checked : Kind → List ℕ → ℕ → Bool
checked Nothing sorts head = get_or (tests value.Nothing) head false
checked (One kind) sorts head = checked_one kind sorts head
checked (Two kind) sorts head = checked_two kind sorts head
checked (Three kind) sorts head = checked_three kind sorts head

abbrev pub AllHave : List ℕ → List Value → Type 0
AllHave [] [] = Unit {0}
AllHave (s ∷ sorts) (v ∷ vs) = Has s v × AllHave sorts vs
AllHave [] (v ∷ vs) = ⊥
AllHave (s ∷ sorts) [] = ⊥

one_checked : (kind : Unary) (sorts : List ℕ) (vs : List Value) (head : ℕ) → checked_one kind sorts head ≡ true → AllHave sorts vs → Good head (production_value (One kind) vs)
one_checked kind (s ∷ []) (a ∷ []) head e (h, t) =
    serves_good _ head _ (right_true (serves s (takes_one kind head)) _ e)
    (one_good kind head a (serves_has s (takes_one kind head) a (left_true _ _ e) h))
one_checked kind (s ∷ []) [] head e h = absurd h
one_checked kind (s ∷ []) (a ∷ b ∷ vs) head e h = absurd (h.1)
one_checked kind [] vs head e h = absurd (cc)
one_checked kind (s ∷ r ∷ sorts) vs head e h = absurd (cc)

two_checked : (kind : Binary) (sorts : List ℕ) (vs : List Value) (head : ℕ) → checked_two kind sorts head ≡ true → AllHave sorts vs → Good head (production_value (Two kind) vs)
two_checked kind (s ∷ r ∷ []) (a ∷ b ∷ []) head e (h, (k, t)) =
    let f = right_true (serves s (first_of_two kind)) _ e in
    serves_good _ head _ (right_true (serves r (second_of_two kind)) _ f)
    (two_good kind a b (serves_has s (first_of_two kind) a (left_true _ _ e) h) (serves_has r (second_of_two kind) b (left_true _ _ f) k))
two_checked kind (s ∷ r ∷ []) [] head e h = absurd h
two_checked kind (s ∷ r ∷ []) (a ∷ []) head e h = absurd (h.1)
two_checked kind (s ∷ r ∷ []) (a ∷ b ∷ c ∷ vs) head e h = absurd (h.1.1)
two_checked kind [] vs head e h = absurd (cc)
two_checked kind (s ∷ []) vs head e h = absurd (cc)
two_checked kind (s ∷ r ∷ q ∷ sorts) vs head e h = absurd (cc)

three_checked : (kind : Ternary) (sorts : List ℕ) (vs : List Value) (head : ℕ) → checked_three kind sorts head ≡ true → AllHave sorts vs → Good head (production_value (Three kind) vs)
three_checked kind (s ∷ r ∷ q ∷ []) (a ∷ b ∷ c ∷ []) head e (h, (k, (l, t))) =
    let f = right_true (serves s (first_of_three kind)) _ e in
    let g = right_true (serves r (second_of_three kind)) _ f in
    serves_good _ head _ (right_true (serves q (third_of_three kind)) _ g)
    (three_good kind a b c (serves_has s (first_of_three kind) a (left_true _ _ e) h) (serves_has r (second_of_three kind) b (left_true _ _ f) k)
    (serves_has q (third_of_three kind) c (left_true _ _ g) l))
three_checked kind (s ∷ r ∷ q ∷ []) [] head e h = absurd h
three_checked kind (s ∷ r ∷ q ∷ []) (a ∷ []) head e h = absurd (h.1)
three_checked kind (s ∷ r ∷ q ∷ []) (a ∷ b ∷ []) head e h = absurd (h.1.1)
three_checked kind (s ∷ r ∷ q ∷ []) (a ∷ b ∷ c ∷ d ∷ vs) head e h = absurd (h.1.1.1)
three_checked kind [] vs head e h = absurd (cc)
three_checked kind (s ∷ []) vs head e h = absurd (cc)
three_checked kind (s ∷ r ∷ []) vs head e h = absurd (cc)
three_checked kind (s ∷ r ∷ q ∷ p ∷ sorts) vs head e h = absurd (cc)

pub checked_good : (kind : Kind) (sorts : List ℕ) (vs : List Value) (head : ℕ) → checked kind sorts head ≡ true → AllHave sorts vs → Good head (production_value kind vs)
checked_good Nothing sorts vs head e h = e
checked_good (One kind) sorts vs head e h = one_checked kind sorts vs head e h
checked_good (Two kind) sorts vs head e h = two_checked kind sorts vs head e h
checked_good (Three kind) sorts vs head e h = three_checked kind sorts vs head e h
