-- What a token is to the tree fits its class.
use Rattle.std.proofs.Common.{◌≡◌, refl, sym, subst, ℕ, suc, nat_eq, Bool, true, false, ◌&&◌, ◌||◌, List, [], ◌∷◌, take, drop, codes, Option, Some, None, Result, Ok, Err, if◌then◌else◌}
use Rattle.std.specs.List.{list_any, list_all}
use Rattle.std.specs.Str.{bytes_eq}
use Rattle.std.proofs.lemmas.Slice.Eq.{bytes_eq-Decides}
use Rattle.sh_base.specs.declared.span.Span.{Span}
use Rattle.sh_token_grammar.specs.declared.class.TokenClass.{TokenClass}
use Rattle.sh_token_grammar.specs.declared.class.TokenClass.TheVariants as class
use Rattle.sh_token_grammar.specs.Classes.{class_number, special_names, is_special_name, control_class, conditional_class, loop_class, or_else, reserved_class, word_class, class_of_text}
use Rattle.sh_base.specs.Names.{is_name}
use Rattle.sh_token_grammar.specs.Shell.{names}
use Rattle.sh_token_pieces.specs.declared.piece.Piece.{Piece}
use Rattle.sh_token_pieces.specs.declared.operator.Operator.{Operator}
use Rattle.sh_token_pieces.specs.TokenClasses.{class_of_operator, class_of_word, literal_prefix, is_byte, assigns, equals_place, is_name_before}
use Rattle.sh_token.specs.declared.token.TokenKind.{TokenKind}
use Rattle.sh_syntax.specs.declared.tree.Parts.{Parts}
use Rattle.sh_syntax.specs.declared.tree.Word.{Word}
use Rattle.sh_parse_actions.specs.declared.leaf.Leaf.{Leaf}
use Rattle.sh_parse_actions.specs.declared.leaf.Leaf.TheVariants as leaf
use Rattle.sh_parse_words.specs.Fitting.{fits, other_words, is_one_of}
use Rattle.sh_parse_words.specs.declared.fault.PartFault.{PartFault}
use Rattle.sh_parse_leaves.specs.Inputs.{class_of_kind}
use Rattle.sh_parse_leaves.specs.Results.{and_then}
use Rattle.sh_parse_leaves.specs.Words.{Reader, parts_in, within}
use Rattle.sh_parse_leaves.specs.Sources.{text_between, behind_pieces}
use Rattle.sh_parse_leaves.specs.Leaves.{operator_leaf, name_size, assignment_leaf, plain_leaf, leaf_by, word_leaf, leaf_of}

-- a name's class is one of names, and that of another text one of other words
abbrev kin : Bool → List TokenClass
kin named = if named then names else other_words

abbrev Akin : List ℕ → TokenClass → Type 0
Akin text c = is_one_of (kin (is_name text)) (class_number c) ≡ true

abbrev AkinSome : List ℕ → Option TokenClass → Type 0
AkinSome text None = Unit {0}
AkinSome text (Some c) = Akin text c

same : (x y : List ℕ) → bytes_eq x y ≡ true → x ≡ y
same x y e = (bytes_eq-Decides x y).0 e

one_word : (text w : List ℕ) (c : TokenClass) (rest : Option TokenClass) (b : Bool) → bytes_eq text w ≡ b → Akin w c → AkinSome text rest → AkinSome text (if b then Some c else rest)
one_word text w c rest true e k h = subst (λ x. Akin x c) (sym (same text w e)) k
one_word text w c rest false e k h = h

word : (text w : List ℕ) (c : TokenClass) (rest : Option TokenClass) → Akin w c → AkinSome text rest → AkinSome text (if bytes_eq text w then Some c else rest)
word text w c rest k h = one_word text w c rest (bytes_eq text w) refl k h

control_akin : (text : List ℕ) → AkinSome text (control_class text)
control_akin text =
    word text (codes "!") class.Bang _ refl (word text (codes "{") class.LeftBrace _ refl (word text (codes "}") class.RightBrace _ refl
    (word text (codes "case") class.Case _ refl (word text (codes "esac") class.Esac None refl tt))))

conditional_akin : (text : List ℕ) → AkinSome text (conditional_class text)
conditional_akin text =
    word text (codes "if") class.If _ refl (word text (codes "then") class.Then _ refl (word text (codes "elif") class.Elif _ refl
    (word text (codes "else") class.Else _ refl (word text (codes "fi") class.Fi None refl tt))))

loop_akin : (text : List ℕ) → AkinSome text (loop_class text)
loop_akin text =
    word text (codes "while") class.While _ refl (word text (codes "until") class.Until _ refl (word text (codes "do") class.Do _ refl
    (word text (codes "done") class.Done _ refl (word text (codes "for") class.For _ refl (word text (codes "in") class.In None refl tt)))))

else_akin : (text : List ℕ) (o p : Option TokenClass) → AkinSome text o → AkinSome text p → AkinSome text (or_else o p)
else_akin text None p h k = k
else_akin text (Some c) p h k = h

reserved_akin : (text : List ℕ) → AkinSome text (reserved_class text)
reserved_akin text =
    else_akin text (control_class text) (or_else (conditional_class text) (loop_class text)) (control_akin text)
    (else_akin text (conditional_class text) (loop_class text) (conditional_akin text) (loop_akin text))

-- a special built-in's name is a name
head_name : (w : List ℕ) (ws : List (List ℕ)) → list_all is_name (w ∷ ws) ≡ true → is_name w ≡ true
head_name w ws h = go (is_name w) (list_all is_name ws) h
  where
    go : (a b : Bool) → (a && b) ≡ true → a ≡ true
    go true b e = refl
    go false b e = absurd (cc)

tail_names : (w : List ℕ) (ws : List (List ℕ)) → list_all is_name (w ∷ ws) ≡ true → list_all is_name ws ≡ true
tail_names w ws h = go (is_name w) (list_all is_name ws) h
  where
    go : (a b : Bool) → (a && b) ≡ true → b ≡ true
    go true b e = e
    go false b e = absurd (cc)

any_next : (text w : List ℕ) (others b : Bool) → bytes_eq w text ≡ b → is_name w ≡ true → (others ≡ true → is_name text ≡ true) → (b || others) ≡ true → is_name text ≡ true
any_next text w others true e n more h = subst (λ x. is_name x ≡ true) (same w text e) n
any_next text w others false e n more h = more h

any_name : (text : List ℕ) (ws : List (List ℕ)) → list_all is_name ws ≡ true → list_any (λ t. bytes_eq t text) ws ≡ true → is_name text ≡ true
any_name text [] a h = absurd (cc)
any_name text (w ∷ ws) a h =
    any_next text w (list_any (λ t. bytes_eq t text) ws) (bytes_eq w text) refl (head_name w ws a) (λ x. any_name text ws (tail_names w ws a) x) h

special_name : (text : List ℕ) → is_special_name text ≡ true → is_name text ≡ true
special_name text h = any_name text special_names refl h

plain_akin : (text : List ℕ) (special named : Bool) → is_special_name text ≡ special → is_name text ≡ named
    → is_one_of (kin named) (class_number (if special then class.SpecialName else if named then class.Name else class.Other)) ≡ true
plain_akin text true true s n = refl
plain_akin text false true s n = refl
plain_akin text false false s n = refl
plain_akin text true false s n = let x : is_name text ≡ true = special_name text s in absurd (cc)

class_akin : (text : List ℕ) (o : Option TokenClass) → AkinSome text o → Akin text (word_class text o)
class_akin text (Some c) h = h
class_akin text None h = plain_akin text (is_special_name text) (is_name text) refl refl

text_akin : (text : List ℕ) → Akin text (class_of_text text)
text_akin text = class_akin text (reserved_class text) (reserved_akin text)

-- a word
not_assigned : (prefix : List ℕ) (o : Option ℕ) (b : Bool) → is_name_before prefix o ≡ b → (if b then o else None) ≡ None → b ≡ false
not_assigned prefix o false e h = refl
not_assigned prefix None true e h = absurd (cc)
not_assigned prefix (Some k) true e h = absurd (cc)

assigned : (o : Option ℕ) (size : ℕ) (b : Bool) → (if b then o else None) ≡ Some size → b ≡ true
assigned o size true h = refl
assigned o size false h = absurd (cc)

plain_by : (text : List ℕ) (w : Word) (bytes named : Bool) → is_name text ≡ named
    → fits (class_number (if bytes then class_of_text text else class.Other)) (if bytes && named then leaf.Name w text else leaf.Word w) ≡ true
plain_by text w true true n = subst (λ b. is_one_of (kin b) (class_number (class_of_text text)) ≡ true) n (text_akin text)
plain_by text w true false n = subst (λ b. is_one_of (kin b) (class_number (class_of_text text)) ≡ true) n (text_akin text)
plain_by text w false named n = refl

abbrev class_by : List ℕ → Bool → Bool → TokenClass
class_by text bytes assigned = if bytes then (if assigned then class.Assignment else class_of_text text) else if assigned then class.Assignment else class.Other

plain_fits : (text : List ℕ) (w : Word) (bytes named assigned : Bool) → is_name text ≡ named → assigned ≡ false
    → fits (class_number (class_by text bytes assigned)) (if bytes && named then leaf.Name w text else leaf.Word w) ≡ true
plain_fits text w bytes named false n a = plain_by text w bytes named n
plain_fits text w bytes named true n a = absurd (cc)

assignment_fits : (text : List ℕ) (bytes assigned : Bool) → assigned ≡ true
    → nat_eq (class_number (class_by text bytes assigned)) (class_number class.Assignment) ≡ true
assignment_fits text true true a = refl
assignment_fits text false true a = refl
assignment_fits text bytes false a = absurd (cc)

plain_leaf_fits : (ms : List Piece) (parts : Parts) (source : List ℕ) → assigns (literal_prefix ms) ≡ false
    → fits (class_number (class_of_word false ms)) (plain_leaf ms (literal_prefix ms) parts source) ≡ true
unfolding plain_leaf
plain_leaf_fits ms parts source a = plain_fits (literal_prefix ms) _ (list_all is_byte ms) (is_name (literal_prefix ms)) (assigns (literal_prefix ms)) refl a

assignment_leaf_fits : (ms : List Piece) (size : ℕ) (value : Parts) (source : List ℕ) → assigns (literal_prefix ms) ≡ true
    → fits (class_number (class_of_word false ms)) (assignment_leaf (literal_prefix ms) size value source) ≡ true
unfolding assignment_leaf
assignment_leaf_fits ms size value source a = assignment_fits (literal_prefix ms) (list_all is_byte ms) (assigns (literal_prefix ms)) a

-- what comes before has a value, where a value is made of it
pub record Made {A B : Type 0} (o : Result A PartFault) (f : A → Result B PartFault) (y : B) : Type 0 where
  pub value : A
  pub is : o ≡ Ok value
  pub gives : f value ≡ Ok y

pub made_of : {A B : Type 0} (o : Result A PartFault) (f : A → Result B PartFault) (y : B) → and_then o f ≡ Ok y → Made o f y
made_of (Ok x) f y h = record { value = x; is = refl; gives = h }
made_of (Err e) f y h = absurd (cc)

-- a value, and no fault
abbrev pub given : {A : Type 0} → A → Result A PartFault
given x = Ok x

pub ok_same : {A : Type 0} (x y : A) → given x ≡ given y → x ≡ y
ok_same x y h = cc

made_fits : (number : ℕ) (found : Result Parts PartFault) (make : Parts → Leaf) (l : Leaf) → ((p : Parts) → fits number (make p) ≡ true)
    → and_then found (λ p. given (make p)) ≡ Ok l → fits number l ≡ true
made_fits number (Ok p) make l f h = subst (λ x. fits number x ≡ true) (ok_same (make p) l h) (f p)
made_fits number (Err e) make l f h = absurd (cc)

word_fits : (read : Reader) (left : ℕ) (text : List ℕ) (ms : List Piece) (span : Span) (size : Option ℕ) (l : Leaf) → name_size (literal_prefix ms) ≡ size
    → leaf_by (within read left text) ms span (literal_prefix ms) size ≡ Ok l → fits (class_number (class_of_word false ms)) l ≡ true
word_fits read left text ms span None l e h =
    made_fits (class_number (class_of_word false ms)) (parts_in read left text ms (drop span.start text))
    (λ p. plain_leaf ms (literal_prefix ms) p (text_between text span.start span.«end»)) l
    (λ p. plain_leaf_fits ms p (text_between text span.start span.«end») (not_assigned (literal_prefix ms) (equals_place (literal_prefix ms)) (assigns (literal_prefix ms)) refl e)) h
word_fits read left text ms span (Some size) l e h =
    made_fits (class_number (class_of_word false ms)) (parts_in read left text (drop (suc size) ms) (behind_pieces (take (suc size) ms) (drop span.start text)))
    (λ p. assignment_leaf (literal_prefix ms) size p (text_between text span.start span.«end»)) l
    (λ p. assignment_leaf_fits ms size p (text_between text span.start span.«end») (assigned (equals_place (literal_prefix ms)) size (assigns (literal_prefix ms)) e)) h

word_leaf_fits : (read : Reader) (left : ℕ) (text : List ℕ) (ms : List Piece) (span : Span) (l : Leaf)
    → word_leaf read left text ms span ≡ Ok l → fits (class_number (class_of_word false ms)) l ≡ true
unfolding word_leaf
word_leaf_fits read left text ms span l h = word_fits read left text ms span (name_size (literal_prefix ms)) l refl h

operator_fits : (o : Operator) → fits (class_number (class_of_operator o)) (operator_leaf o) ≡ true
operator_fits Operator.And = refl
operator_fits Operator.Semicolon = refl
operator_fits Operator.Pipe = refl
operator_fits Operator.Less = refl
operator_fits Operator.Great = refl
operator_fits Operator.LeftParenthesis = refl
operator_fits Operator.RightParenthesis = refl
operator_fits Operator.Newline = refl
operator_fits Operator.AndIf = refl
operator_fits Operator.OrIf = refl
operator_fits Operator.DoubleSemicolon = refl
operator_fits Operator.DoubleLess = refl
operator_fits Operator.DoubleGreat = refl
operator_fits Operator.LessAnd = refl
operator_fits Operator.GreatAnd = refl
operator_fits Operator.LessGreat = refl
operator_fits Operator.DoubleLessDash = refl
operator_fits Operator.Clobber = refl

pub leaf_fits : (read : Reader) (left : ℕ) (text : List ℕ) (kind : TokenKind) (span : Span) (l : Leaf) → (kind ≡ TokenKind.End → ⊥)
    → leaf_of read left text kind span ≡ Ok l → fits (class_number (class_of_kind kind)) l ≡ true
leaf_fits read left text (TokenKind.Operator o) span l n h = subst (λ x. fits (class_number (class_of_operator o)) x ≡ true) (ok_same _ l h) (operator_fits o)
leaf_fits read left text TokenKind.Number span l n h = subst (λ x. fits (class_number TokenClass.Number) x ≡ true) (ok_same _ l h) refl
leaf_fits read left text (TokenKind.Word ms) span l n h = word_leaf_fits read left text ms span l h
leaf_fits read left text TokenKind.End span l n h = absurd (n refl)
