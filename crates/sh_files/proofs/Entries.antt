-- The lines of an image, one after the other.
use Rattle.sh_base.specs.Memory.{no_memory}
use Rattle.std.proofs.Common.{◌≡◌, ℕ, suc, zero, ◌+◌, ◌<◌, List, [], ◌∷◌, length, take, drop, Option, Some, None, Bool, true, false, Result, Ok, Err, IfErr, codes, refl, sym, ap, ◌∙◌, arith}
use Rattle.std.specs.Prelude.{◌==◌, if◌then◌else◌, option_map}
use Rattle.std.specs.List.{position}
use Rattle.std.specs.Str.{bytes_eq}
use Rattle.std.proofs.lemmas.List.Quantifiers.{position-Some}
use Rattle.sh_files.specs.Nodes.{FileMap}
use Rattle.sh_files_image.specs.Fields.{line_of}
use Rattle.sh_files.specs.Image.{behind_entry, by_line, files_at_end, entries, entry}
use Rattle.sh_files_image.specs.declared.image_fault.FaultKind.{FaultKind}
use Rattle.sh_files_image.specs.declared.image_fault.FaultKind.TheVariants.{NoMemory, Trailing, Truncated}
use Rattle.sh_files.specs.declared.image.Stop.{Stop}

entries_behind : (files : FileMap) (k : ℕ) (bs : List ℕ) → entries files k bs ≡ entries files 0 (drop k bs)
entries_behind files zero [] = refl
entries_behind files (suc k) [] = refl
entries_behind files zero (b ∷ bs) = refl
entries_behind files (suc k) (b ∷ bs) = entries_behind files k bs

abbrev newline : ℕ → Bool
newline b = b == 10

abbrev split_at : List ℕ → ℕ → List ℕ × List ℕ
split_at xs i = (take i xs, drop (i + 1) xs)

none_left : (n : ℕ) → drop {A = ℕ} n [] ≡ []
none_left zero = refl
none_left (suc n) = refl

drop_more : (i n : ℕ) (xs : List ℕ) → drop (i + n) xs ≡ drop n (drop i xs)
drop_more zero n xs = let z : 0 + n ≡ n = omega arith in ap (λ k. drop k xs) z
drop_more (suc i) n [] = none_left (suc i + n) ∙ sym (none_left n)
drop_more (suc i) n (x ∷ xs) = let z : suc i + n ≡ suc (i + n) = omega arith in ap (λ k. drop k (x ∷ xs)) z ∙ drop_more i n xs

long_take : (i : ℕ) (xs : List ℕ) → i < length xs → length (take i xs) ≡ i
long_take zero xs h = refl
long_take (suc i) [] h = absurd (omega arith)
long_take (suc i) (x ∷ xs) h = ap suc (long_take i xs (omega arith))

left_over : (o : Option ℕ) (b : ℕ) (bs : List ℕ) (p : List ℕ × List ℕ) (used : ℕ) → position newline (b ∷ bs) ≡ o → Some p ≡ option_map (split_at (b ∷ bs)) o → drop (length p.0 + used) bs ≡ drop used p.1
left_over None b bs p used e h = cc
left_over (Some i) b bs p used e h =
    let q : p ≡ split_at (b ∷ bs) i = cc in
    let n = long_take i (b ∷ bs) (position-Some newline (b ∷ bs) i 0 e).0 in
    let one : i + 1 ≡ suc i = omega arith in
    ap (λ (x : List ℕ × List ℕ). drop (length x.0 + used) bs) q
    ∙ ap (λ k. drop (k + used) bs) n
    ∙ drop_more i used bs
    ∙ ap (λ k. drop used (drop k (b ∷ bs))) (sym one)
    ∙ ap (λ (x : List ℕ × List ℕ). drop used x.1) (sym q)

abbrev next : List ℕ → FileMap → ℕ → Result FileMap Stop
next bs after used = entries after used bs

-- a line that adds something
pub next_line : (files after : FileMap) (rest : List ℕ) (p : List ℕ × List ℕ) (used : ℕ) → Some p ≡ line_of rest → bytes_eq p.0 (codes "end") ≡ false → entry files p.0 p.1 ≡ Ok (after, used) → entries files 0 rest ≡ entries after 0 (drop used p.1)
next_line files after [] p used h e g = cc
next_line files after (b ∷ bs) p used h e g =
    ap (λ (o : Option (List ℕ × List ℕ)). by_line files (b ∷ bs) o (next bs)) (sym h)
    ∙ ap (λ t. if t then files_at_end files p.1 else behind_entry (length (b ∷ bs)) (length p.0) (entry files p.0 p.1) (next bs)) e
    ∙ ap (λ (r : Result (FileMap × ℕ) FaultKind). behind_entry (length (b ∷ bs)) (length p.0) r (next bs)) g
    ∙ entries_behind after (length p.0 + used) bs
    ∙ ap (entries after 0) (left_over (position newline (b ∷ bs)) b bs p used refl h)

-- a line in which something is wrong
pub bad_line : (files : FileMap) (rest : List ℕ) (p : List ℕ × List ℕ) (kind : FaultKind) → Some p ≡ line_of rest → bytes_eq p.0 (codes "end") ≡ false → entry files p.0 p.1 ≡ Err kind → entries files 0 rest ≡ Err (record { kind = kind; left = length rest })
bad_line files [] p kind h e g = cc
bad_line files (b ∷ bs) p kind h e g =
    ap (λ (o : Option (List ℕ × List ℕ)). by_line files (b ∷ bs) o (next bs)) (sym h)
    ∙ ap (λ t. if t then files_at_end files p.1 else behind_entry (length (b ∷ bs)) (length p.0) (entry files p.0 p.1) (next bs)) e
    ∙ ap (λ (r : Result (FileMap × ℕ) FaultKind). behind_entry (length (b ∷ bs)) (length p.0) r (next bs)) g

-- the last line
pub last_line : (files : FileMap) (rest : List ℕ) (p : List ℕ × List ℕ) → Some p ≡ line_of rest → bytes_eq p.0 (codes "end") ≡ true → entries files 0 rest ≡ files_at_end files p.1
last_line files [] p h e = cc
last_line files (b ∷ bs) p h e =
    ap (λ (o : Option (List ℕ × List ℕ)). by_line files (b ∷ bs) o (next bs)) (sym h)
    ∙ ap (λ t. if t then files_at_end files p.1 else behind_entry (length (b ∷ bs)) (length p.0) (entry files p.0 p.1) (next bs)) e

-- no whole line is left
pub no_line : (files : FileMap) (rest : List ℕ) → None ≡ line_of rest → entries files 0 rest ≡ Err (record { kind = Truncated; left = length rest })
no_line files [] h = refl
no_line files (b ∷ bs) h = ap (λ (o : Option (List ℕ × List ℕ)). by_line files (b ∷ bs) o (next bs)) (sym h)

pub trailing : (files : FileMap) (after : List ℕ) → (after ≡ [] → ⊥) → files_at_end files after ≡ Err (record { kind = Trailing; left = length after })
trailing files [] h = absurd (h refl)
trailing files (b ∷ bs) h = refl

pub at_end : (files : FileMap) (after : List ℕ) → after ≡ [] → files_at_end files after ≡ Ok files
at_end files [] h = refl
at_end files (b ∷ bs) h = absurd (cc)

-- what follows the last line is refused
pub refused_end : {A : Type 0} (r : Result A Stop) (files : FileMap) (rest : List ℕ) (p : List ℕ × List ℕ) (all : Result FileMap Stop) → all ≡ entries files 0 rest → Some p ≡ line_of rest → bytes_eq p.0 (codes "end") ≡ true → IfErr r (λ stop. (stop ≡ record { kind = Trailing; left = length p.1 }) × (p.1 ≡ [] → ⊥)) → IfErr r (λ stop. (stop.kind ≡ NoMemory no_memory → ⊥) → all ≡ Err stop)
refused_end (Ok a) files rest p all e h is t = t
refused_end (Err stop) files rest p all e h is t =
    λ _. e ∙ last_line files rest p h is ∙ trailing files p.1 t.1 ∙ ap (λ (s : Stop). Err s) (sym t.0)
