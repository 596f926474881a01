-- The ends of pipes, by the entries that descriptors name and by the numbers of their descriptions.
use Rattle.std.proofs.Common.{◌≡◌, ℕ, List, [], ◌∷◌, Bool, false, ◌||◌, ◌==◌, Option, Some, None, slice_get, refl, ap, ◌∙◌, inl, inr, arith}
use Rattle.std.specs.List.{list_any}
use Rattle.std.specs.Ordering.{is_eq, nat_cmp}
use Rattle.std.specs.Option.{option_map, option_map_or}
use Rattle.slab.specs.Slab.{Slab}
use Rattle.sh_kernel_descriptors.specs.Descriptors as names
use Rattle.sh_kernel_descriptors.specs.Counts as counts
use Rattle.sh_kernel_descriptors.specs.Kept.{Among, Linked, description_at, listed}
use Rattle.sh_kernel_descriptors.specs.declared.description.Description.{Description}
use Rattle.sh_kernel_descriptors.specs.declared.description.Target.{Target}
use Rattle.sh_kernel_descriptors.specs.declared.kept.Entry.{Entry}
use Rattle.sh_kernel_descriptors.specs.declared.kept.Held.{Held}

-- each of these descriptors names an entry that has the description of its number
abbrev pub Alike : List Held → Slab Entry → List Description → Type 0
Alike hs entries es = (h : Held) → Among h hs → description_at entries h.key ≡ slice_get es h.descriptor.description

pub later : (h : Held) (hs : List Held) (entries : Slab Entry) (es : List Description) → Alike (h ∷ hs) entries es → Alike hs entries es
later h hs entries es same g a = same g (inr a)

fused : (test : Target → Bool) (o : Option Description) → option_map_or (λ t. test t) (option_map (λ d. d.target) o) false ≡ option_map_or (λ e. test e.target) o false
fused test None = refl
fused test (Some d) = refl

pub reader : (entries : Slab Entry) (es : List Description) (pipe : ℕ) (h : Held) → description_at entries h.key ≡ slice_get es h.descriptor.description → counts.is_reader entries pipe h ≡ names.is_reader es pipe h.descriptor
reader entries es pipe h same = fused (λ t. names.reads_from pipe t) (description_at entries h.key) ∙ ap (λ o. option_map_or (λ e. names.reads_from pipe e.target) o false) same

pub writer : (entries : Slab Entry) (es : List Description) (pipe : ℕ) (h : Held) → description_at entries h.key ≡ slice_get es h.descriptor.description → counts.is_writer entries pipe h ≡ names.is_writer es pipe h.descriptor
writer entries es pipe h same = fused (λ t. names.writes_to pipe t) (description_at entries h.key) ∙ ap (λ o. option_map_or (λ e. names.writes_to pipe e.target) o false) same

readers_of : (hs : List Held) (entries : Slab Entry) (es : List Description) (pipe : ℕ) → Alike hs entries es → list_any (counts.is_reader entries pipe) hs ≡ names.has_reader (listed hs) es pipe
readers_of [] entries es pipe same = refl
readers_of (h ∷ hs) entries es pipe same =
    let rest = readers_of hs entries es pipe (later h hs entries es same) in
    let first = reader entries es pipe h (same h (inl refl)) in
    ap (λ b. b || list_any (counts.is_reader entries pipe) hs) first ∙ ap (λ b. names.is_reader es pipe h.descriptor || b) rest

pub readers : (hs : List Held) (entries : Slab Entry) (es : List Description) (pipe : ℕ) → Linked hs entries es → list_any (counts.is_reader entries pipe) hs ≡ names.has_reader (listed hs) es pipe
readers hs entries es pipe linked = readers_of hs entries es pipe linked.descriptions

writers_of : (hs : List Held) (entries : Slab Entry) (es : List Description) (pipe : ℕ) → Alike hs entries es → list_any (counts.is_writer entries pipe) hs ≡ names.has_writer (listed hs) es pipe
writers_of [] entries es pipe same = refl
writers_of (h ∷ hs) entries es pipe same =
    let rest = writers_of hs entries es pipe (later h hs entries es same) in
    let first = writer entries es pipe h (same h (inl refl)) in
    ap (λ b. b || list_any (counts.is_writer entries pipe) hs) first ∙ ap (λ b. names.is_writer es pipe h.descriptor || b) rest

pub writers : (hs : List Held) (entries : Slab Entry) (es : List Description) (pipe : ℕ) → Linked hs entries es → list_any (counts.is_writer entries pipe) hs ≡ names.has_writer (listed hs) es pipe
writers hs entries es pipe linked = writers_of hs entries es pipe linked.descriptions

pub same_number : (p q : ℕ) → is_eq (nat_cmp p q) ≡ (p == q)
same_number p q = grind arith
