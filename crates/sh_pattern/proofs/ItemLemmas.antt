-- Bracket lists read in place.
use Rattle.std.proofs.Common.{◌≡◌, ℕ, zero, suc, ◌+◌, ◌-◌, ◌<◌, List, [], ◌∷◌, Bool, true, false, ◌||◌, drop, take, map, length, get_or, refl, sym, ap, ◌∙◌, arith, add-one, if◌then◌else◌}
use Rattle.std.specs.Prelude.{Option, Some, None, option_map}
use Rattle.std.proofs.Math.Seq.{drop-cons}
use Rattle.std.proofs.lemmas.List.{drop-drop, take_all, length-drop}
use Rattle.sh_pattern.specs.declared.pattern_byte.PatternByte.{PatternByte}
use Rattle.sh_pattern.specs.Items.{is_bare, byte_of, class_of, class_item, item_of_class, name_length, plain_item, item_of, skip_of, item_has, closing, some_has}

pub drop_at : {A : Type 0} (xs : List A) (k : ℕ) (d : A) → k < length xs → drop k xs ≡ get_or xs k d ∷ drop (k + 1) xs
drop_at xs k d h = rw add-one (drop-cons xs k d h)

-- one map after another
twice : (f g h : ℕ → ℕ) (o : Option ℕ) → ((n : ℕ) → f (g n) ≡ h n) → option_map f (option_map g o) ≡ option_map h o
twice f g h None e = refl
twice f g h (Some n) e = ap Some (e n)

same : (h : ℕ → ℕ) (o : Option ℕ) → ((n : ℕ) → n ≡ h n) → o ≡ option_map h o
same h None e = refl
same h (Some n) e = ap Some (e n)

pub closing-skip : (k : ℕ) (ms : List PatternByte) → closing k ms ≡ option_map (λ n. k + n) (closing 0 (drop k ms))
closing-skip zero ms = same (λ n. 0 + n) (closing 0 ms) (λ n. omega arith)
closing-skip (suc k) [] = refl
closing-skip (suc k) (m ∷ ms) = ap (option_map suc) (closing-skip k ms) ∙ twice suc (λ n. k + n) (λ n. suc k + n) (closing 0 (drop k ms)) (λ n. omega arith)

pub some_has-skip : (k : ℕ) (ms : List PatternByte) (b : ℕ) → some_has k ms b ≡ some_has 0 (drop k ms) b
some_has-skip zero ms b = refl
some_has-skip (suc k) [] b = refl
some_has-skip (suc k) (m ∷ ms) b = some_has-skip k ms b

at_false : {A : Type 0} (c : Bool) (x y : A) → c ≡ false → (if c then x else y) ≡ y
at_false true x y h = absurd (cc)
at_false false x y h = refl

at_true : {A : Type 0} (c : Bool) (x y : A) → c ≡ true → (if c then x else y) ≡ x
at_true true x y h = refl
at_true false x y h = absurd (cc)

pub close_on : (marks : List PatternByte) (at : ℕ) (m : PatternByte) (behind : List PatternByte) (s : ℕ) → drop at marks ≡ m ∷ drop (at + 1) marks → behind ≡ drop (at + 1) marks → s ≡ skip_of m behind → is_bare 93 m ≡ false
    → option_map (λ n. at + n) (closing 0 (drop at marks)) ≡ option_map (λ n. at + 1 + s + n) (closing 0 (drop (at + 1 + s) marks))
close_on marks at m behind s d b e h =
    ap (λ x. option_map (λ n. at + n) (closing 0 x)) (d ∙ ap (λ x. m ∷ x) (sym b))
    ∙ ap (option_map (λ n. at + n)) (at_false (is_bare 93 m) (Some 0) (option_map suc (closing (skip_of m behind) behind)) h)
    ∙ ap (λ k. option_map (λ n. at + n) (option_map suc (closing k behind))) (sym e)
    ∙ ap (λ o. option_map (λ n. at + n) (option_map suc o)) (closing-skip s behind)
    ∙ ap (option_map (λ n. at + n)) (twice suc (λ n. s + n) (λ n. suc (s + n)) (closing 0 (drop s behind)) (λ n. refl))
    ∙ twice (λ n. at + n) (λ n. suc (s + n)) (λ n. at + 1 + s + n) (closing 0 (drop s behind)) (λ n. omega arith)
    ∙ ap (λ x. option_map (λ n. at + 1 + s + n) (closing 0 x)) (ap (drop s) b ∙ drop-drop s (at + 1) marks)

pub has_on : (marks : List PatternByte) (at : ℕ) (m : PatternByte) (behind : List PatternByte) (s b : ℕ) → drop at marks ≡ m ∷ drop (at + 1) marks → behind ≡ drop (at + 1) marks → s ≡ skip_of m behind → is_bare 93 m ≡ false → item_has (item_of m behind) b ≡ false
    → some_has 0 (drop at marks) b ≡ some_has 0 (drop (at + 1 + s) marks) b
has_on marks at m behind s b d c e h i =
    ap (λ x. some_has 0 x b) (d ∙ ap (λ x. m ∷ x) (sym c))
    ∙ at_false (is_bare 93 m) false (item_has (item_of m behind) b || some_has (skip_of m behind) behind b) h
    ∙ ap (λ x. x || some_has (skip_of m behind) behind b) i
    ∙ ap (λ k. some_has k behind b) (sym e)
    ∙ some_has-skip s behind b
    ∙ ap (λ x. some_has 0 x b) (ap (drop s) c ∙ drop-drop s (at + 1) marks)

-- a class behind a `[`
pub named_is : (m : PatternByte) (behind : List PatternByte) (n j : ℕ) → is_bare 91 m ≡ true → Some n ≡ name_length behind → j ≡ n → item_of_class (class_of (map byte_of (take j (drop 1 behind)))) ≡ item_of m behind
named_is m behind n j h e i =
    ap (λ k. item_of_class (class_of (map byte_of (take k (drop 1 behind))))) i
    ∙ ap (λ o. class_item o m behind) e
    ∙ sym (at_true (is_bare 91 m) (class_item (name_length behind) m behind) (plain_item m behind) h)

pub behind_is : (p : List PatternByte) (i : ℕ) → take (length p - i) (drop i p) ≡ drop i p
behind_is p i = take_all (length p - i) (drop i p) (omega (arith, length-drop i p))
