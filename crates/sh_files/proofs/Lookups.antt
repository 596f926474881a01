-- Look-ups in files to which a node was added.
use Rattle.std.proofs.Common.{◌≡◌, ℕ, suc, zero, ◌+◌, ◌<◌, List, [], ◌∷◌, ◌++◌, T, Bool, true, false, cond, length, take, Some, None, Option, refl, sym, ap, ◌∙◌, arith, length-append}
use Rattle.std.specs.Prelude.{slice_get}
use Rattle.std.specs.Option.{option_and_then}
use Rattle.std.specs.Ordering.{eq_by_cmp, is_eq, ordering_then}
use Rattle.std.specs.declared.cmp.Ordering.{Ordering}
use Rattle.std.specs.declared.cmp.Ordering.TheVariants.{Less, Equal, Greater}
use Rattle.std.specs.Cmp.{tied_itself}
use Rattle.std.specs.FinMap as map
use Rattle.std.proofs.lemmas.Cmp.{nat_cmp_total}
use Rattle.std.specs.FinMap.Entries.{below_all}
use Rattle.sh_files_image.specs.Places.{Entries}
use Rattle.sh_files_image.specs.declared.node.Node.{Node}
use Rattle.sh_files_image.proofs.Places.{Rises, laws, left, less, order, right, same_path}
use Rattle.sh_files.specs.Nodes.{FileMap, node_at, with_new}

abbrev pub is : List ℕ → List ℕ → Bool
is q p = eq_by_cmp order q p

equal : (r : Ordering) → is_eq r ≡ true → r ≡ Equal
equal Less h = cc
equal Equal h = refl
equal Greater h = cc

pub is_same : (q p : List ℕ) → is q p ≡ true → q ≡ p
is_same q p h = same_path q p (equal (order q p) h)

pub is_itself : (p : List ℕ) → is p p ≡ true
is_itself p = ap is_eq (tied_itself laws p)

-- ---- lists of nodes
pub get_last : (nodes : List Node) (node : Node) → slice_get (nodes ++ node ∷ []) (length nodes) ≡ Some node
get_last [] node = refl
get_last (n ∷ nodes) node = get_last nodes node

pub get_prefix : (nodes more : List Node) (n : ℕ) → n < length nodes → slice_get (nodes ++ more) n ≡ slice_get nodes n
get_prefix [] more n h = absurd (omega arith)
get_prefix (x ∷ nodes) more zero h = refl
get_prefix (x ∷ nodes) more (suc n) h = get_prefix nodes more n (omega arith)

pub get_within : (nodes : List Node) (n : ℕ) → n < length nodes → (node : Node) × (slice_get nodes n ≡ Some node)
get_within [] n h = absurd (omega arith)
get_within (x ∷ nodes) zero h = (x, refl)
get_within (x ∷ nodes) (suc n) h = get_within nodes n (omega arith)

-- ---- a node was added
pub number_new : (files : FileMap) (p : List ℕ) (node : Node) (q : List ℕ) → map.get (with_new files p node).paths q ≡ cond (is q p) (Some (length files.nodes)) (map.get files.paths q)
number_new files p node q = map.get-insert laws files.paths p (length files.nodes) q

abbrev pub Numbered : FileMap → Type 0
Numbered files = (path : List ℕ) (n : ℕ) → map.get files.paths path ≡ Some n → n < length files.nodes

pub node_new : (files : FileMap) (p : List ℕ) (node : Node) → node_at (with_new files p node) p ≡ Some node
node_new files p node =
    ap (option_and_then (slice_get (files.nodes ++ node ∷ []))) (number_new files p node p ∙ ap (λ b. cond b (Some (length files.nodes)) (map.get files.paths p)) (is_itself p))
    ∙ get_last files.nodes node

pub node_other : (files : FileMap) (p : List ℕ) (node : Node) (q : List ℕ) → Numbered files → is q p ≡ false → node_at (with_new files p node) q ≡ node_at files q
node_other files p node q fits h =
    ap (option_and_then (slice_get (files.nodes ++ node ∷ []))) (number_new files p node q ∙ ap (λ b. cond b (Some (length files.nodes)) (map.get files.paths q)) h)
    ∙ at (map.get files.paths q) refl
  where
    at : (o : Option ℕ) → map.get files.paths q ≡ o → option_and_then (slice_get (files.nodes ++ node ∷ [])) o ≡ option_and_then (slice_get files.nodes) o
    at None e = refl
    at (Some n) e = get_prefix files.nodes (node ∷ []) n (fits q n e)

pub numbered_new : (files : FileMap) (p : List ℕ) (node : Node) → Numbered files → Numbered (with_new files p node)
numbered_new files p node fits q n e =
    let more : length (files.nodes ++ node ∷ []) ≡ length files.nodes + 1 = length-append files.nodes (node ∷ []) in
    let f : cond (is q p) (Some (length files.nodes)) (map.get files.paths q) ≡ Some n = sym (number_new files p node q) ∙ e in
    elim (is q p) as (λ b. cond b (Some (length files.nodes)) (map.get files.paths q) ≡ Some n → n < length (files.nodes ++ node ∷ [])) [
      | true ↦ λ g. let same : length files.nodes ≡ n = cc in omega arith
      | false ↦ λ g. let l = fits q n g in omega arith
    ] f

-- ---- lists in order
pub first_found : (e : List ℕ × ℕ) (es : Entries) → map.find order e.0 (e ∷ es) ≡ Some e.1
first_found e es = ap (λ b. cond b (Some e.1) (map.find order e.0 es)) (is_itself e.0)

pub not_first : (q : List ℕ) (e : List ℕ × ℕ) (es : Entries) → is q e.0 ≡ false → map.find order q (e ∷ es) ≡ map.find order q es
not_first q e es h = ap (λ b. cond b (Some e.1) (map.find order q es)) h

missing_below : (q : List ℕ) (es : Entries) → T (below_all order q es) → map.find order q es ≡ None
missing_below q [] h = refl
missing_below q (e ∷ es) h = not_first q e es (ap is_eq (less _ (left _ _ h))) ∙ missing_below q es (right _ _ h)

-- the first path isn't among the others
pub first_once : (e : List ℕ × ℕ) (es : Entries) → Rises (e ∷ es) → map.find order e.0 es ≡ None
first_once e es h = missing_below e.0 es (left _ _ h)

lower : (q x : List ℕ) (es : Entries) → order q x ≡ Less → T (below_all order x es) → map.find order q es ≡ None
lower q x [] l h = refl
lower q x (e ∷ es) l h = not_first q e es (ap is_eq (laws.trans q x e.0 l (less _ (left _ _ h)))) ∙ lower q x es l (right _ _ h)

-- what comes before the first path isn't there
pub before_first : (q : List ℕ) (e : List ℕ × ℕ) (es : Entries) → order q e.0 ≡ Less → Rises (e ∷ es) → map.find order q (e ∷ es) ≡ None
before_first q e es l h = not_first q e es (ap is_eq l) ∙ lower q e.0 es l (left _ _ h)

-- a prefix comes before the whole
pub prefix_before : (k : ℕ) (xs : List ℕ) → k < length xs → order (take k xs) xs ≡ Less
prefix_before zero [] h = absurd (omega arith)
prefix_before zero (x ∷ xs) h = refl
prefix_before (suc k) [] h = absurd (omega arith)
prefix_before (suc k) (x ∷ xs) h =
    ap (λ r. ordering_then r (order (take k xs) xs)) (tied_itself nat_cmp_total x) ∙ prefix_before k xs (omega arith)
