-- What single bytes are (XCU 2.2, 2.3, 2.5, 2.6).
use Rattle.std.specs.Prelude.{◌≡◌, ℕ, Bool, true, ◌||◌, nat_eq, List, [], ◌∷◌, not}
use Rattle.std.specs.Char.{is_ascii_digit}
use Rattle.sh_base.specs.Names.{begins_name}

-- each byte passes the test
abbrev pub AllAre : (ℕ → Bool) → List ℕ → Type 0
AllAre f [] = Unit {0}
AllAre f (b ∷ bs) = (f b ≡ true) × AllAre f bs

-- space, tab
abbrev pub is_blank : ℕ → Bool
is_blank b = nat_eq b 32 || nat_eq b 9

-- the first bytes of operators: & ; | < > ( ) newline
abbrev pub is_operator_byte : ℕ → Bool
is_operator_byte b =
    nat_eq b 38 || (nat_eq b 59 || (nat_eq b 124 || (nat_eq b 60 || (nat_eq b 62 || (nat_eq b 40 || (nat_eq b 41 || nat_eq b 10))))))

-- what ends a word where it isn't quoted
abbrev pub is_end : ℕ → Bool
is_end b = is_blank b || is_operator_byte b

-- what begins a redirection operator: < >
abbrev pub is_redirection : ℕ → Bool
is_redirection b = nat_eq b 60 || nat_eq b 62

-- the special parameters other than # (XCU 2.5.2): @ * ? - $ !
abbrev pub is_special : ℕ → Bool
is_special b = nat_eq b 64 || (nat_eq b 42 || (nat_eq b 63 || (nat_eq b 45 || (nat_eq b 36 || nat_eq b 33))))

-- a parameter that one byte after a `$` names: a special parameter, or a digit
abbrev pub is_short_parameter : ℕ → Bool
is_short_parameter b = is_special b || (nat_eq b 35 || is_ascii_digit b)

-- what makes an expansion of a `$` before it (XCU 2.6): a parameter, { or (
abbrev pub is_form : ℕ → Bool
is_form b = begins_name b || (is_short_parameter b || (nat_eq b 123 || nat_eq b 40))

-- the operators of a parameter expansion that may come after a colon: - = ? +
abbrev pub is_word_operator : ℕ → Bool
is_word_operator b = nat_eq b 45 || (nat_eq b 61 || (nat_eq b 63 || nat_eq b 43))

abbrev pub is_no_quote : ℕ → Bool
is_no_quote b = not (nat_eq b 39)

abbrev pub is_no_newline : ℕ → Bool
is_no_newline b = not (nat_eq b 10)

-- what a backslash quotes also where it doesn't quote every byte: $ ` \
abbrev pub is_quoted_escape : ℕ → Bool
is_quoted_escape b = nat_eq b 36 || (nat_eq b 96 || nat_eq b 92)
