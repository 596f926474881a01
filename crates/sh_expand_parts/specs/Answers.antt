-- The text that a command substitution gives (XCU 2.6.3): the bytes that its commands wrote without NUL, then
-- without the newlines at the end.
use Rattle.std.specs.Prelude.{ℕ, Bool, List, [], ◌∷◌, ◌==◌, not, if◌then◌else◌}
use Rattle.std.specs.List.{filter}

abbrev pub is_kept : ℕ → Bool
is_kept b = not (b == 0)

abbrev pub before_end : ℕ → List ℕ → List ℕ
before_end b [] = if b == 10 then [] else b ∷ []
before_end b (c ∷ cs) = b ∷ c ∷ cs

-- without the newlines at the end
abbrev pub without_end_newlines : List ℕ → List ℕ
without_end_newlines [] = []
without_end_newlines (b ∷ bs) = before_end b (without_end_newlines bs)

abbrev pub answer_text : List ℕ → List ℕ
answer_text answer = without_end_newlines (filter is_kept answer)
