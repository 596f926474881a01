-- The first NUL of a text, found piece by piece; and what is said where there is one.
use Rattle.std.proofs.Common.{◌≡◌, ℕ, zero, suc, ◌+◌, ◌<◌, ◌≤◌, Bool, true, false, nat_eq, nat_lt, List, [], ◌∷◌, length, take, drop, Some, None, Result, Ok, Err, refl, sym, ap, ◌∙◌, cond, if◌then◌else◌, arith}
use Rattle.std.specs.Option.{option_map}
use Rattle.std.specs.List.{position_from}
use Rattle.std.proofs.lemmas.Iterator.Adapters.{position_from-zero}
use Rattle.sh_parse.specs.Reading.{Answer, nul_in, before_nul, Answers}
use Rattle.sh_parse.specs.declared.Reading.{Reading}
use Rattle.sh_parse.specs.declared.ParseFault.{ParseFault}
use Rattle.sh_parse.specs.declared.ParseFault.TheVariants.{Refused, Unclosed, BadSubstitution, TooDeep, NoMemory}
use Rattle.sh_parse.specs.Turns.{fault_with_nul, fault_in}

by_from : (xs : List ℕ) → nul_in xs ≡ position_from (λ b. nat_eq b 0) 0 xs
by_from xs = position_from-zero (λ b. nat_eq b 0) xs

shift : (k i : ℕ) (xs : List ℕ) → position_from (λ b. nat_eq b 0) (k + i) xs ≡ option_map (λ m. k + m) (position_from (λ b. nat_eq b 0) i xs)
shift k i [] = refl
shift k i (x ∷ xs) =
    let z : (k + i) + 1 ≡ k + (i + 1) = omega arith in
    go (nat_eq x 0) (ap (λ n. position_from (λ b. nat_eq b 0) n xs) z ∙ shift k (i + 1) xs)
  where
    go : (c : Bool) → position_from (λ b. nat_eq b 0) ((k + i) + 1) xs ≡ option_map (λ m. k + m) (position_from (λ b. nat_eq b 0) (i + 1) xs)
        → cond c (Some (k + i)) (position_from (λ b. nat_eq b 0) ((k + i) + 1) xs) ≡ option_map (λ m. k + m) (cond c (Some i) (position_from (λ b. nat_eq b 0) (i + 1) xs))
    go true h = refl
    go false h = h

behind : (i n : ℕ) (xs : List ℕ) → position_from (λ b. nat_eq b 0) i (take n xs) ≡ None → n ≤ length xs
    → position_from (λ b. nat_eq b 0) i xs ≡ position_from (λ b. nat_eq b 0) (i + n) (drop n xs)
behind i zero xs h l = let z : i ≡ i + 0 = omega arith in ap (λ m. position_from (λ b. nat_eq b 0) m xs) z
behind i (suc n) [] h l = absurd (omega (l, arith))
behind i (suc n) (x ∷ xs) h l =
    let z : (i + 1) + n ≡ i + suc n = omega arith in
    go (nat_eq x 0) h (λ g. behind (i + 1) n xs g (omega (l, arith)) ∙ ap (λ m. position_from (λ b. nat_eq b 0) m (drop n xs)) z)
  where
    go : (c : Bool) → cond c (Some i) (position_from (λ b. nat_eq b 0) (i + 1) (take n xs)) ≡ None
        → (position_from (λ b. nat_eq b 0) (i + 1) (take n xs) ≡ None → position_from (λ b. nat_eq b 0) (i + 1) xs ≡ position_from (λ b. nat_eq b 0) (i + suc n) (drop n xs))
        → cond c (Some i) (position_from (λ b. nat_eq b 0) (i + 1) xs) ≡ position_from (λ b. nat_eq b 0) (i + suc n) (drop n xs)
    go true h f = absurd (cc)
    go false h f = f h

in_prefix : (i n j : ℕ) (xs : List ℕ) → position_from (λ b. nat_eq b 0) i (take n xs) ≡ Some j → position_from (λ b. nat_eq b 0) i xs ≡ Some j
in_prefix i zero j xs h = absurd (cc)
in_prefix i (suc n) j [] h = absurd (cc)
in_prefix i (suc n) j (x ∷ xs) h = go (nat_eq x 0) h (λ g. in_prefix (i + 1) n j xs g)
  where
    go : (c : Bool) → cond c (Some i) (position_from (λ b. nat_eq b 0) (i + 1) (take n xs)) ≡ Some j
        → (position_from (λ b. nat_eq b 0) (i + 1) (take n xs) ≡ Some j → position_from (λ b. nat_eq b 0) (i + 1) xs ≡ Some j)
        → cond c (Some i) (position_from (λ b. nat_eq b 0) (i + 1) xs) ≡ Some j
    go true h f = h
    go false h f = f h

small : (i j : ℕ) (xs : List ℕ) → position_from (λ b. nat_eq b 0) i xs ≡ Some j → j < i + length xs
small i j [] h = absurd (cc)
small i j (x ∷ xs) h = go (nat_eq x 0) h (λ g. small (i + 1) j xs g)
  where
    go : (c : Bool) → cond c (Some i) (position_from (λ b. nat_eq b 0) (i + 1) xs) ≡ Some j
        → (position_from (λ b. nat_eq b 0) (i + 1) xs ≡ Some j → j < (i + 1) + length xs) → j < i + suc (length xs)
    go true h f = let z : i ≡ j = cc in omega (z, arith)
    go false h f = let z = f h in omega (z, arith)

pub nul_within : (j : ℕ) (xs : List ℕ) → nul_in xs ≡ Some j → j < length xs
nul_within j xs h = let z = small 0 j xs (sym (by_from xs) ∙ h) in omega (z, arith)

take_take : (n m : ℕ) (xs : List ℕ) → n ≤ m → take n (take m xs) ≡ take n xs
take_take zero m xs l = refl
take_take (suc n) zero xs l = absurd (omega (l, arith))
take_take (suc n) (suc m) [] l = refl
take_take (suc n) (suc m) (x ∷ xs) l = ap (λ z. x ∷ z) (take_take n m xs (omega (l, arith)))

taken_size : (n : ℕ) (xs : List ℕ) → n ≤ length xs → n ≤ length (take n xs)
taken_size zero xs l = omega arith
taken_size (suc n) [] l = absurd (omega (l, arith))
taken_size (suc n) (x ∷ xs) l = let z = taken_size n xs (omega (l, arith)) in omega (z, arith)

-- a NUL before a place stands before a later one too
pub nul_stays : (from to j : ℕ) (text : List ℕ) → nul_in (take from text) ≡ Some j → from ≤ to → nul_in (take to text) ≡ Some j
nul_stays from to j text h l =
    let prefix = take to text in
    let same : take from prefix ≡ take from text = take_take from to text l in
    by_from prefix ∙ in_prefix 0 from j prefix (sym (by_from (take from prefix)) ∙ (ap (λ z. nul_in z) same ∙ h))

-- else it is among the bytes between
pub nul_follows : (from to : ℕ) (text : List ℕ) → nul_in (take from text) ≡ None → from ≤ to → to ≤ length text
    → nul_in (take to text) ≡ option_map (λ m. from + m) (nul_in (drop from (take to text)))
nul_follows from to text h l k =
    let prefix = take to text in
    let same : take from prefix ≡ take from text = take_take from to text l in
    let size : to ≤ length prefix = taken_size to text k in
    let z : 0 + from ≡ from + 0 = omega arith in
    by_from prefix
    ∙ (behind 0 from prefix (sym (by_from (take from prefix)) ∙ (ap (λ z. nul_in z) same ∙ h)) (omega (l, size, arith))
    ∙ (ap (λ m. position_from (λ b. nat_eq b 0) m (drop from prefix)) z
    ∙ (shift from 0 (drop from prefix) ∙ ap (option_map (λ m. from + m)) (sym (by_from (drop from prefix))))))

-- what the tokens say, where a NUL stands before its end
pub nul_answers : (answer : Result Reading ParseFault) (nul used : ℕ) (known : Answer) → Answers answer known → Answers (Err (fault_with_nul (fault_in answer) nul used)) (before_nul nul used known)
nul_answers (Ok r) nul used known h = ap (before_nul nul used) h
nul_answers (Err (NoMemory _)) nul used known h = tt
nul_answers (Err (Refused at before)) nul used known h = go (nat_lt at nul) (ap (before_nul nul used) h)
  where
    go : (c : Bool) → before_nul nul used known ≡ (if c then Err (Refused at before) else Err (Refused nul used))
        → Answers (Err (if c then Refused at before else Refused nul used)) (before_nul nul used known)
    go true e = e
    go false e = e
nul_answers (Err (Unclosed at)) nul used known h = go (nat_lt at nul) (ap (before_nul nul used) h)
  where
    go : (c : Bool) → before_nul nul used known ≡ (if c then Err (Unclosed at) else Err (Refused nul used))
        → Answers (Err (if c then Unclosed at else Refused nul used)) (before_nul nul used known)
    go true e = e
    go false e = e
nul_answers (Err (BadSubstitution at before)) nul used known h = go (nat_lt at nul) (ap (before_nul nul used) h)
  where
    go : (c : Bool) → before_nul nul used known ≡ (if c then Err (BadSubstitution at before) else Err (Refused nul used))
        → Answers (Err (if c then BadSubstitution at before else Refused nul used)) (before_nul nul used known)
    go true e = e
    go false e = e
nul_answers (Err (TooDeep at before)) nul used known h = go (nat_lt at nul) (ap (before_nul nul used) h)
  where
    go : (c : Bool) → before_nul nul used known ≡ (if c then Err (TooDeep at before) else Err (Refused nul used))
        → Answers (Err (if c then TooDeep at before else Refused nul used)) (before_nul nul used known)
    go true e = e
    go false e = e
