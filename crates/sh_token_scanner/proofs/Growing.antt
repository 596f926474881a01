-- The byte-wise growth of an operator is that of its text.
use Rattle.std.proofs.Common.{◌≡◌, ℕ, Bool, true, false, nat_eq, [], ◌∷◌, ◌++◌, Some, None, refl, sym, ap, ◌∙◌, cond, eqb-true}
use Rattle.std.specs.Str.{bytes_eq}
use Rattle.sh_token_scanner.proofs.Tests.{and_false}
use Rattle.sh_token_pieces.specs.declared.operator.Operator.{Operator}
use Rattle.sh_token_pieces.specs.declared.operator.Operator.TheVariants.{And, Semicolon, Pipe, Less, Great, LeftParenthesis, RightParenthesis, Newline, AndIf, OrIf, DoubleSemicolon, DoubleLess, DoubleGreat, LessAnd, GreatAnd, LessGreat, DoubleLessDash, Clobber}
use Rattle.sh_token_pieces.specs.Operators.{operator_text}
use Rattle.sh_token_pieces.specs.Growth.{longer_operator, may_grow}
use Rattle.sh_token_pieces.specs.Pieces.{is_right_parenthesis, is_newline}
use Rattle.sh_token_pieces.specs.TokenClasses.{class_of_operator}
use Rattle.sh_token_grammar.specs.Levels.{begins_compound}

-- operators
chosen : (b c : ℕ) (q p : Operator) (x : Bool) → nat_eq b c ≡ x → cond x (Some q) None ≡ Some p → (b ≡ c) × (q ≡ p)
chosen b c q p true g h = (eqb-true b c g, cc)
chosen b c q p false g h = absurd (cc)

only : (o p : Operator) (b c : ℕ) (q : Operator) → operator_text q ≡ operator_text o ++ c ∷ [] → cond (nat_eq b c) (Some q) None ≡ Some p → operator_text p ≡ operator_text o ++ b ∷ []
only o p b c q t h =
    let x = chosen b c q p (nat_eq b c) refl h in
    ap operator_text (sym x.1) ∙ (t ∙ ap (λ y. operator_text o ++ y ∷ []) (sym x.0))

three : (o p : Operator) (b c d f : ℕ) (q r s : Operator) → operator_text q ≡ operator_text o ++ c ∷ [] → operator_text r ≡ operator_text o ++ d ∷ [] → operator_text s ≡ operator_text o ++ f ∷ []
    → cond (nat_eq b c) (Some q) (cond (nat_eq b d) (Some r) (cond (nat_eq b f) (Some s) None)) ≡ Some p → operator_text p ≡ operator_text o ++ b ∷ []
three o p b c d f q r s t u v = first (nat_eq b c) refl
  where
    first : (x : Bool) → nat_eq b c ≡ x → cond x (Some q) (cond (nat_eq b d) (Some r) (cond (nat_eq b f) (Some s) None)) ≡ Some p → operator_text p ≡ operator_text o ++ b ∷ []
    first true g h = let i : q ≡ p = cc in ap operator_text (sym i) ∙ (t ∙ ap (λ y. operator_text o ++ y ∷ []) (sym (eqb-true b c g)))
    first false g h = second (nat_eq b d) refl h
      where
        second : (x : Bool) → nat_eq b d ≡ x → cond x (Some r) (cond (nat_eq b f) (Some s) None) ≡ Some p → operator_text p ≡ operator_text o ++ b ∷ []
        second true g h = let i : r ≡ p = cc in ap operator_text (sym i) ∙ (u ∙ ap (λ y. operator_text o ++ y ∷ []) (sym (eqb-true b d g)))
        second false g h = only o p b f s v h

pub grown_text : (o p : Operator) (b : ℕ) → longer_operator o b ≡ Some p → operator_text p ≡ operator_text o ++ b ∷ []
grown_text And p b h = only And p b 38 AndIf refl h
grown_text Semicolon p b h = only Semicolon p b 59 DoubleSemicolon refl h
grown_text Pipe p b h = only Pipe p b 124 OrIf refl h
grown_text Less p b h = three Less p b 60 38 62 DoubleLess LessAnd LessGreat refl refl refl h
grown_text Great p b h = three Great p b 62 38 124 DoubleGreat GreatAnd Clobber refl refl refl h
grown_text DoubleLess p b h = only DoubleLess p b 45 DoubleLessDash refl h
grown_text LeftParenthesis p b h = absurd (cc)
grown_text RightParenthesis p b h = absurd (cc)
grown_text Newline p b h = absurd (cc)
grown_text AndIf p b h = absurd (cc)
grown_text OrIf p b h = absurd (cc)
grown_text DoubleSemicolon p b h = absurd (cc)
grown_text DoubleGreat p b h = absurd (cc)
grown_text LessAnd p b h = absurd (cc)
grown_text GreatAnd p b h = absurd (cc)
grown_text LessGreat p b h = absurd (cc)
grown_text DoubleLessDash p b h = absurd (cc)
grown_text Clobber p b h = absurd (cc)

-- what grows is no `)`, nor is what grew
pub growing_no_right : (o : Operator) → may_grow o ≡ true → is_right_parenthesis o ≡ false
growing_no_right And h = refl
growing_no_right Semicolon h = refl
growing_no_right Pipe h = refl
growing_no_right Less h = refl
growing_no_right Great h = refl
growing_no_right LeftParenthesis h = absurd (cc)
growing_no_right RightParenthesis h = absurd (cc)
growing_no_right Newline h = absurd (cc)
growing_no_right AndIf h = absurd (cc)
growing_no_right OrIf h = absurd (cc)
growing_no_right DoubleSemicolon h = absurd (cc)
growing_no_right DoubleLess h = refl
growing_no_right DoubleGreat h = absurd (cc)
growing_no_right LessAnd h = absurd (cc)
growing_no_right GreatAnd h = absurd (cc)
growing_no_right LessGreat h = absurd (cc)
growing_no_right DoubleLessDash h = absurd (cc)
growing_no_right Clobber h = absurd (cc)

pub growing_no_newline : (o : Operator) → may_grow o ≡ true → is_newline o ≡ false
growing_no_newline And h = refl
growing_no_newline Semicolon h = refl
growing_no_newline Pipe h = refl
growing_no_newline Less h = refl
growing_no_newline Great h = refl
growing_no_newline LeftParenthesis h = absurd (cc)
growing_no_newline RightParenthesis h = absurd (cc)
growing_no_newline Newline h = absurd (cc)
growing_no_newline AndIf h = absurd (cc)
growing_no_newline OrIf h = absurd (cc)
growing_no_newline DoubleSemicolon h = absurd (cc)
growing_no_newline DoubleLess h = refl
growing_no_newline DoubleGreat h = absurd (cc)
growing_no_newline LessAnd h = absurd (cc)
growing_no_newline GreatAnd h = absurd (cc)
growing_no_newline LessGreat h = absurd (cc)
growing_no_newline DoubleLessDash h = absurd (cc)
growing_no_newline Clobber h = absurd (cc)

pub growing_begins_none : (o : Operator) → may_grow o ≡ true → begins_compound (class_of_operator o) ≡ false
growing_begins_none And h = refl
growing_begins_none Semicolon h = refl
growing_begins_none Pipe h = refl
growing_begins_none Less h = refl
growing_begins_none Great h = refl
growing_begins_none LeftParenthesis h = absurd (cc)
growing_begins_none RightParenthesis h = absurd (cc)
growing_begins_none Newline h = absurd (cc)
growing_begins_none AndIf h = absurd (cc)
growing_begins_none OrIf h = absurd (cc)
growing_begins_none DoubleSemicolon h = absurd (cc)
growing_begins_none DoubleLess h = refl
growing_begins_none DoubleGreat h = absurd (cc)
growing_begins_none LessAnd h = absurd (cc)
growing_begins_none GreatAnd h = absurd (cc)
growing_begins_none LessGreat h = absurd (cc)
growing_begins_none DoubleLessDash h = absurd (cc)
growing_begins_none Clobber h = absurd (cc)

-- an operator with a byte more is none of one byte
longer : (o : Operator) (b c : ℕ) → may_grow o ≡ true → bytes_eq (operator_text o ++ b ∷ []) (c ∷ []) ≡ false
longer And b c h = and_false (nat_eq 38 c)
longer Semicolon b c h = and_false (nat_eq 59 c)
longer Pipe b c h = and_false (nat_eq 124 c)
longer Less b c h = and_false (nat_eq 60 c)
longer Great b c h = and_false (nat_eq 62 c)
longer LeftParenthesis b c h = absurd (cc)
longer RightParenthesis b c h = absurd (cc)
longer Newline b c h = absurd (cc)
longer AndIf b c h = absurd (cc)
longer OrIf b c h = absurd (cc)
longer DoubleSemicolon b c h = absurd (cc)
longer DoubleLess b c h = and_false (nat_eq 60 c)
longer DoubleGreat b c h = absurd (cc)
longer LessAnd b c h = absurd (cc)
longer GreatAnd b c h = absurd (cc)
longer LessGreat b c h = absurd (cc)
longer DoubleLessDash b c h = absurd (cc)
longer Clobber b c h = absurd (cc)

pub grown_no_right : (o p : Operator) (b : ℕ) → may_grow o ≡ true → longer_operator o b ≡ Some p → is_right_parenthesis p ≡ false
grown_no_right o p b g h = ap (λ t. bytes_eq t (41 ∷ [])) (grown_text o p b h) ∙ longer o b 41 g

pub grown_no_newline : (o p : Operator) (b : ℕ) → may_grow o ≡ true → longer_operator o b ≡ Some p → is_newline p ≡ false
grown_no_newline o p b g h = ap (λ t. bytes_eq t (10 ∷ [])) (grown_text o p b h) ∙ longer o b 10 g
