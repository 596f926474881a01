-- Descriptors are closed one after another, and a pipe goes with the last that refers to one of its ends.
use Rattle.std.proofs.Common.{◌≡◌, ◌⊎◌, ℕ, zero, suc, ◌+◌, List, [], ◌∷◌, ◌++◌, Bool, true, false, ◌&&◌, ◌||◌, ◌==◌, cond, Option, Some, None, not, nat_le, slice_get, refl, sym, ap, ◌∙◌, inl, inr, arith, subst, append_assoc, filter, is_none, slice_set}
use Rattle.std.proofs.lemmas.Bool.{eqb-true}
use Rattle.std.specs.List.{list_any}
use Rattle.std.specs.Option.{option_and_then, option_map, option_map_or}
use Rattle.slab.specs.Slab.{HasRoomFor, Slab, get}
use Rattle.sh_pipe.specs.Pipe.{PipeState}
use Rattle.sh_kernel_descriptors.specs.Closings as closings
use Rattle.sh_kernel_descriptors.specs.Closings.{Pipes}
use Rattle.sh_kernel_descriptors.specs.Counts as counts
use Rattle.sh_kernel_descriptors.specs.Counts.{closes, ending, ending_pipe, held_left, is_last, is_pipe, lowered, released, stays, takes}
use Rattle.sh_kernel_descriptors.specs.Descriptors as names
use Rattle.sh_kernel_descriptors.specs.Gone.{Gone, is_closed_end, is_end}
use Rattle.sh_kernel_descriptors.specs.Kept.{Among, IsCounted, IsPaired, Linked, NoneOf, PipesAgree, count_of, listed, named, other_at, pipe_kept, pipe_made, target_at}
use Rattle.sh_kernel_descriptors.specs.declared.descriptor.Closing.{Closing}
use Rattle.sh_kernel_descriptors.specs.declared.descriptor.Closing.TheVariants.{Named, Asides, All}
use Rattle.sh_kernel_descriptors.specs.declared.descriptor.Descriptor.{Descriptor}
use Rattle.sh_kernel_descriptors.specs.declared.description.Description.{Description}
use Rattle.sh_kernel_descriptors.specs.declared.description.Target.{Target}
use Rattle.sh_kernel_descriptors.specs.declared.description.Target.TheVariants.{File, Terminal, Null, ReadEnd, WriteEnd}
use Rattle.sh_kernel_descriptors.specs.declared.kept.Entry.{Entry}
use Rattle.sh_kernel_descriptors.specs.declared.kept.Held.{Held}
use Rattle.sh_kernel_descriptors.proofs.Ends.{Alike, reader, writer, writers, readers}
use Rattle.sh_kernel_descriptors.proofs.Giving.{among_append, counted_same, in_front, in_rest, linked_within, stands}
use Rattle.sh_kernel_descriptors.proofs.Leaving.{counted_left, is_named, linked_left, named_append}
use Rattle.sh_kernel_descriptors.proofs.Places.{apart, other_place}
use Rattle.sh_kernel_descriptors.proofs.Pairs.{any_true, named_among, paired_left, read_there, reads, writes, written_there}

pub nil_right : (xs : List Held) → xs ++ [] ≡ xs
nil_right [] = refl
nil_right (x ∷ xs) = ap (λ ys. x ∷ ys) (nil_right xs)

-- ---- some descriptor of a list
any_append : (f : Held → Bool) (xs ys : List Held) → list_any f (xs ++ ys) ≡ (list_any f xs || list_any f ys)
any_append f [] ys = refl
any_append f (x ∷ xs) ys = ap (λ b. f x || b) (any_append f xs ys) ∙ either (f x)
  where
    either : (b : Bool) → (b || (list_any f xs || list_any f ys)) ≡ ((b || list_any f xs) || list_any f ys)
    either true = refl
    either false = refl

-- one that stands between
any_mid : (f : Held → Bool) (xs ys : List Held) (h : Held) → list_any f ((xs ++ h ∷ []) ++ ys) ≡ (f h || list_any f (xs ++ ys))
any_mid f xs ys h =
    any_append f (xs ++ h ∷ []) ys ∙ ap (λ b. b || list_any f ys) (any_append f xs (h ∷ [])) ∙ turn (list_any f xs) (f h) (list_any f ys) ∙ ap (λ b. f h || b) (sym (any_append f xs ys))
  where
    turn : (a b c : Bool) → ((a || (b || false)) || c) ≡ (b || (a || c))
    turn true true c = refl
    turn true false c = refl
    turn false true c = refl
    turn false false c = refl

any_witness : (f : Held → Bool) (hs : List Held) → list_any f hs ≡ true → (g : Held) × Among g hs × (f g ≡ true)
any_witness f [] e = absurd (cc)
any_witness f (h ∷ hs) e = of_test (f h) refl (any_witness f hs) e
  where
    of_test : (b : Bool) → f h ≡ b → (list_any f hs ≡ true → (g : Held) × Among g hs × (f g ≡ true)) → (b || list_any f hs) ≡ true → (g : Held) × Among g (h ∷ hs) × (f g ≡ true)
    of_test true t r s = (h, inl refl, t)
    of_test false t r s = let w = r s in (w.0, inr w.1, w.2)

any_either : (f a b : Held → Bool) (hs : List Held) → ((h : Held) → Among h hs → f h ≡ (a h || b h)) → list_any f hs ≡ (list_any a hs || list_any b hs)
any_either f a b [] same = refl
any_either f a b (h ∷ hs) same =
    ap (λ x. x || list_any f hs) (same h (inl refl)) ∙ ap (λ x. (a h || b h) || x) (any_either f a b hs (λ g i. same g (inr i))) ∙ turn (a h) (b h) (list_any a hs) (list_any b hs)
  where
    turn : (w x y z : Bool) → ((w || x) || (y || z)) ≡ ((w || y) || (x || z))
    turn true x y z = refl
    turn false true true z = refl
    turn false true false z = refl
    turn false false y z = refl

-- ---- the last descriptor of an end
none_above : (n : ℕ) → nat_le (suc (suc n)) 1 ≡ false
none_above n = grind arith

count_is : (o : Option Entry) (n : ℕ) → option_map (λ e. e.count) o ≡ Some (suc n) → is_last o ≡ nat_le (suc n) 1
count_is None n e = absurd (cc)
count_is (Some x) n e = let c : x.count ≡ suc n = cc in ap (λ m. nat_le m 1) c

-- of these descriptors the test holds where the same key is named
last_one : (o : Option Entry) (h : Held) (hs : List Held) (f : Held → Bool) → ((g : Held) → f g ≡ true → g.key ≡ h.key) → ((g : Held) → g.key ≡ h.key → f g ≡ true) → option_map (λ e. e.count) o ≡ Some (suc (named h.key hs)) → is_last o ≡ not (list_any f hs)
last_one o h hs f alone there c = of_any (list_any f hs) refl ∙ refl
  where
    more : (g : Held) → Among g hs → g.key ≡ h.key → is_last o ≡ false
    more g a e =
        let n = is_named g hs a in
        let t : named h.key hs ≡ suc n.0 = ap (λ k. named k hs) (sym e) ∙ n.1 in
        count_is o (suc n.0) (c ∙ ap (λ m. Some (suc m)) t) ∙ none_above n.0

    none : (n : ℕ) → named h.key hs ≡ n → list_any f hs ≡ false → is_last o ≡ true
    none zero t e = count_is o zero (c ∙ ap (λ m. Some (suc m)) t)
    none (suc n) t e =
        let g = named_among h.key hs n t in
        let s : true ≡ false = sym (any_true f hs g.0 g.1 (there g.0 g.2)) ∙ e in absurd (cc)

    of_any : (b : Bool) → list_any f hs ≡ b → is_last o ≡ not (list_any f hs)
    of_any true e = let g = any_witness f hs e in more g.0 g.1 (alone g.0 g.2) ∙ ap (λ b. not b) (sym e)
    of_any false e = none (named h.key hs) refl e ∙ ap (λ b. not b) (sym e)

-- ---- the pipe that goes with a descriptor
is_pipe_of : (p : ℕ) (t : Target) → (names.reads_from p t || names.writes_to p t) ≡ is_pipe p (closings.pipe_of t)
is_pipe_of p (File node) = refl
is_pipe_of p Terminal = refl
is_pipe_of p Null = refl
is_pipe_of p (ReadEnd q) = of_test (q == p)
  where
    of_test : (b : Bool) → (b || false) ≡ b
    of_test true = refl
    of_test false = refl
is_pipe_of p (WriteEnd q) = refl

end_is_pipe : (es : List Description) (p k : ℕ) → (option_map_or (λ e. names.reads_from p e.target) (slice_get es k) false || option_map_or (λ e. names.writes_to p e.target) (slice_get es k) false) ≡ is_pipe p (closings.pipe_at es k)
end_is_pipe es p k = of_found (slice_get es k)
  where
    of_found : (o : Option Description) → (option_map_or (λ e. names.reads_from p e.target) o false || option_map_or (λ e. names.writes_to p e.target) o false) ≡ is_pipe p (option_and_then (λ e. closings.pipe_of e.target) o)
    of_found None = refl
    of_found (Some d) = is_pipe_of p d.target

chosen : (p q : ℕ) (last is_open : Bool) (b : Bool) → (q == p) ≡ b → is_pipe p (ending_pipe last is_open q) ≡ (b && (last && not is_open))
chosen p q true true true e = refl
chosen p q true true false e = refl
chosen p q true false true e = e
chosen p q true false false e = e
chosen p q false is_open true e = refl
chosen p q false is_open false e = refl

morgan : (a b : Bool) → (not a && not b) ≡ not (a || b)
morgan true b = refl
morgan false b = refl

module _ (made : ℕ) (h : Held) (hs : List Held) (entries : Slab Entry) (es : List Description) (p : ℕ) (pair : IsPaired made entries) (counted : IsCounted entries (h ∷ hs)) (linked : Linked (h ∷ hs) entries es) where
  alike : Alike (h ∷ hs) entries es
  alike = linked.descriptions

  count : option_map (λ e. e.count) (get entries h.key) ≡ Some (suc (named h.key hs))
  count = counted h.key ∙ ap (λ b. count_of (cond b (suc (named h.key hs)) (named h.key hs))) (let t : (h.key == h.key) ≡ true = grind arith in t)

  both : list_any (is_end es p) hs ≡ (list_any (counts.is_reader entries p) hs || list_any (counts.is_writer entries p) hs)
  both = any_either (is_end es p) (counts.is_reader entries p) (counts.is_writer entries p) hs
      (λ g a. ap (λ b. b || names.is_writer es p g.descriptor) (sym (reader entries es p g (alike g (inr a)))) ∙ ap (λ b. counts.is_reader entries p g || b) (sym (writer entries es p g (alike g (inr a)))))

  here : is_end es p h ≡ (counts.is_reader entries p h || counts.is_writer entries p h)
  here = ap (λ b. b || names.is_writer es p h.descriptor) (sym (reader entries es p h (alike h (inl refl)))) ∙ ap (λ b. counts.is_reader entries p h || b) (sym (writer entries es p h (alike h (inl refl))))

  same_key : (h.key == h.key) ≡ true
  same_key = grind arith

  -- an end to read from
  last_read : target_at entries h.key ≡ Some (ReadEnd p) → is_last (get entries h.key) ≡ not (list_any (counts.is_reader entries p) hs)
  last_read at = last_one (get entries h.key) h hs (counts.is_reader entries p)
      (λ g t. pair.reads p g.key h.key (other_at entries g.key) (other_at entries h.key) (read_there p (get entries g.key) t) (read_there p (get entries h.key) here))
      (λ g e. ap (λ k. counts.is_read_end p (target_at entries k)) e ∙ here) count
    where
      here : counts.is_read_end p (target_at entries h.key) ≡ true
      here = ap (λ t. counts.is_read_end p t) at ∙ (let t : (p == p) ≡ true = grind arith in t)

  open_written : target_at entries h.key ≡ Some (ReadEnd p) → counts.is_write_end p (counts.other_target entries h.key) ≡ list_any (counts.is_writer entries p) hs
  open_written at =
      writes made (h ∷ hs) entries es p h.key pair counted linked at ∙ sym (writers (h ∷ hs) entries es p linked) ∙ ap (λ b. b || list_any (counts.is_writer entries p) hs) (ap (λ t. counts.is_write_end p t) at)

  -- an end to write to
  last_written : target_at entries h.key ≡ Some (WriteEnd p) → is_last (get entries h.key) ≡ not (list_any (counts.is_writer entries p) hs)
  last_written at = last_one (get entries h.key) h hs (counts.is_writer entries p)
      (λ g t. pair.writes p g.key h.key (other_at entries g.key) (other_at entries h.key) (written_there p (get entries g.key) t) (written_there p (get entries h.key) here))
      (λ g e. ap (λ k. counts.is_write_end p (target_at entries k)) e ∙ here) count
    where
      here : counts.is_write_end p (target_at entries h.key) ≡ true
      here = ap (λ t. counts.is_write_end p t) at ∙ (let t : (p == p) ≡ true = grind arith in t)

  open_read : target_at entries h.key ≡ Some (WriteEnd p) → counts.is_read_end p (counts.other_target entries h.key) ≡ list_any (counts.is_reader entries p) hs
  open_read at =
      reads made (h ∷ hs) entries es p h.key pair counted linked at ∙ sym (readers (h ∷ hs) entries es p linked) ∙ ap (λ b. b || list_any (counts.is_reader entries p) hs) (ap (λ t. counts.is_read_end p t) at)

  swap : (a b : Bool) → (b || a) ≡ (a || b)
  swap true true = refl
  swap true false = refl
  swap false true = refl
  swap false false = refl

  of_reads : target_at entries h.key ≡ Some (ReadEnd p) → (is_last (get entries h.key) && not (counts.is_write_end p (counts.other_target entries h.key))) ≡ not (list_any (is_end es p) hs)
  of_reads at =
      ap (λ b. b && not (counts.is_write_end p (counts.other_target entries h.key))) (last_read at) ∙ ap (λ b. not (list_any (counts.is_reader entries p) hs) && not b) (open_written at)
      ∙ morgan (list_any (counts.is_reader entries p) hs) (list_any (counts.is_writer entries p) hs) ∙ ap (λ b. not b) (sym both)

  of_writes : target_at entries h.key ≡ Some (WriteEnd p) → (is_last (get entries h.key) && not (counts.is_read_end p (counts.other_target entries h.key))) ≡ not (list_any (is_end es p) hs)
  of_writes at =
      ap (λ b. b && not (counts.is_read_end p (counts.other_target entries h.key))) (last_written at) ∙ ap (λ b. not (list_any (counts.is_writer entries p) hs) && not b) (open_read at)
      ∙ morgan (list_any (counts.is_writer entries p) hs) (list_any (counts.is_reader entries p) hs) ∙ ap (λ b. not b) (swap (list_any (counts.is_reader entries p) hs) (list_any (counts.is_writer entries p) hs) ∙ sym both)

  -- where the descriptor isn't of this pipe nothing is said
  of_number : (last is_open : Bool) (q : ℕ) (b : Bool) → (q == p) ≡ b → (b ≡ true → (last && not is_open) ≡ not (list_any (is_end es p) hs)) → is_pipe p (ending_pipe last is_open q) ≡ (b && not (list_any (is_end es p) hs))
  of_number last is_open q true e f = chosen p q last is_open true e ∙ f refl
  of_number last is_open q false e f = chosen p q last is_open false e

  of_target : (t : Option Target) → target_at entries h.key ≡ t
      → is_pipe p (counts.ending_of (is_last (get entries h.key)) (counts.other_target entries h.key) t) ≡ ((counts.is_read_end p t || counts.is_write_end p t) && not (list_any (is_end es p) hs))
  of_target None at = refl
  of_target (Some (File n)) at = refl
  of_target (Some Terminal) at = refl
  of_target (Some Null) at = refl
  of_target (Some (ReadEnd q)) at =
      of_number (is_last (get entries h.key)) (counts.is_write_end q (counts.other_target entries h.key)) q (q == p) refl (λ e. let s : q ≡ p = eqb-true q p e in rw s (of_reads (at ∙ ap (λ k. Some (ReadEnd k)) s)))
      ∙ ap (λ b. b && not (list_any (is_end es p) hs)) (swap (q == p) false)
  of_target (Some (WriteEnd q)) at =
      of_number (is_last (get entries h.key)) (counts.is_read_end q (counts.other_target entries h.key)) q (q == p) refl (λ e. let s : q ≡ p = eqb-true q p e in rw s (of_writes (at ∙ ap (λ k. Some (WriteEnd k)) s)))

  pub ends_right : is_pipe p (ending entries h.key) ≡ (is_end es p h && not (list_any (is_end es p) hs))
  ends_right = of_target (target_at entries h.key) refl ∙ ap (λ b. b && not (list_any (is_end es p) hs)) (sym here)

-- ---- from one to the next
settle : {X : Type 0} (before goes here others : Bool) (o o' o2 : Option X) → o' ≡ cond (before && not (here || others)) None o → o2 ≡ cond (goes && (here && not others)) None o'
    → o2 ≡ cond ((before || (goes && here)) && not (cond goes others (here || others))) None o
settle true true true true o o' o2 e f = f ∙ e
settle true true true false o o' o2 e f = f
settle true true false true o o' o2 e f = f ∙ e
settle true true false false o o' o2 e f = f ∙ e
settle true false true true o o' o2 e f = f ∙ e
settle true false true false o o' o2 e f = f ∙ e
settle true false false true o o' o2 e f = f ∙ e
settle true false false false o o' o2 e f = f ∙ e
settle false true true true o o' o2 e f = f ∙ e
settle false true true false o o' o2 e f = f
settle false true false true o o' o2 e f = f ∙ e
settle false true false false o o' o2 e f = f ∙ e
settle false false true true o o' o2 e f = f ∙ e
settle false false true false o o' o2 e f = f ∙ e
settle false false false true o o' o2 e f = f ∙ e
settle false false false false o o' o2 e f = f ∙ e

released_last : (pid : ℕ) (closing : Closing) (k : ℕ) (hs : List Held) (h : Held) (o : Option Entry) → released pid closing k (hs ++ h ∷ []) o ≡ cond (closes pid closing k h) (lowered (released pid closing k hs o)) (released pid closing k hs o)
released_last pid closing k [] h o = refl
released_last pid closing k (x ∷ hs) h o = released_last pid closing k hs h (cond (closes pid closing k x) (lowered o) o)

left_last : (pid : ℕ) (closing : Closing) (hs : List Held) (h : Held) → held_left pid closing (hs ++ h ∷ []) ≡ held_left pid closing hs ++ cond (closings.goes pid closing h.descriptor) [] (h ∷ [])
left_last pid closing [] h = of_test (closings.goes pid closing h.descriptor)
  where
    of_test : (b : Bool) → cond (not b) (h ∷ []) [] ≡ cond b [] (h ∷ [])
    of_test true = refl
    of_test false = refl
left_last pid closing (x ∷ hs) h = of_test (stays pid closing x) (left_last pid closing hs h)
  where
    of_test : (b : Bool) → held_left pid closing (hs ++ h ∷ []) ≡ held_left pid closing hs ++ cond (closings.goes pid closing h.descriptor) [] (h ∷ [])
        → cond b (x ∷ held_left pid closing (hs ++ h ∷ [])) (held_left pid closing (hs ++ h ∷ [])) ≡ cond b (x ∷ held_left pid closing hs) (held_left pid closing hs) ++ cond (closings.goes pid closing h.descriptor) [] (h ∷ [])
    of_test true e = ap (λ xs. x ∷ xs) e
    of_test false e = e

-- one of the list stands between the others, or in front of them
mid_named : (xs ys : List Held) (h : Held) (k : ℕ) → named k ((xs ++ h ∷ []) ++ ys) ≡ named k (h ∷ (xs ++ ys))
mid_named xs ys h k = of_test (h.key == k) (named_append k (xs ++ h ∷ []) ys) (named_append k xs (h ∷ [])) (named_append k xs ys)
  where
    of_test : (b : Bool) → named k ((xs ++ h ∷ []) ++ ys) ≡ named k (xs ++ h ∷ []) + named k ys → named k (xs ++ h ∷ []) ≡ named k xs + cond b 1 0 → named k (xs ++ ys) ≡ named k xs + named k ys
        → named k ((xs ++ h ∷ []) ++ ys) ≡ cond b (suc (named k (xs ++ ys))) (named k (xs ++ ys))
    of_test true e f g = omega (arith, e, f, g)
    of_test false e f g = omega (arith, e, f, g)

mid_among : (xs ys : List Held) (h g : Held) → Among g (h ∷ (xs ++ ys)) → Among g ((xs ++ h ∷ []) ++ ys)
mid_among xs ys h g (inl e) = in_front (xs ++ h ∷ []) ys g (in_rest xs (h ∷ []) g (inl e))
mid_among xs ys h g (inr a) = of_side (among_append xs ys g a)
  where
    of_side : Among g xs ⊎ Among g ys → Among g ((xs ++ h ∷ []) ++ ys)
    of_side (inl b) = in_front (xs ++ h ∷ []) ys g (in_front xs (h ∷ []) g b)
    of_side (inr b) = in_rest (xs ++ h ∷ []) ys g b

last_named : (xs ys : List Held) (h : Held) (k : ℕ) → named k (xs ++ (ys ++ h ∷ [])) ≡ named k ((xs ++ h ∷ []) ++ ys)
last_named xs ys h k = of_test (h.key == k) (named_append k xs (ys ++ h ∷ [])) (named_append k ys (h ∷ [])) (named_append k (xs ++ h ∷ []) ys) (named_append k xs (h ∷ []))
  where
    of_test : (b : Bool) → named k (xs ++ (ys ++ h ∷ [])) ≡ named k xs + named k (ys ++ h ∷ []) → named k (ys ++ h ∷ []) ≡ named k ys + cond b 1 0
        → named k ((xs ++ h ∷ []) ++ ys) ≡ named k (xs ++ h ∷ []) + named k ys → named k (xs ++ h ∷ []) ≡ named k xs + cond b 1 0 → named k (xs ++ (ys ++ h ∷ [])) ≡ named k ((xs ++ h ∷ []) ++ ys)
    of_test true e f g i = omega (arith, e, f, g, i)
    of_test false e f g i = omega (arith, e, f, g, i)

last_among : (xs ys : List Held) (h g : Held) → Among g ((xs ++ h ∷ []) ++ ys) → Among g (xs ++ (ys ++ h ∷ []))
last_among xs ys h g a = of_side (among_append (xs ++ h ∷ []) ys g a)
  where
    of_front : Among g xs ⊎ Among g (h ∷ []) → Among g (xs ++ (ys ++ h ∷ []))
    of_front (inl b) = in_front xs (ys ++ h ∷ []) g b
    of_front (inr b) = in_rest xs (ys ++ h ∷ []) g (in_rest ys (h ∷ []) g b)

    of_side : Among g (xs ++ h ∷ []) ⊎ Among g ys → Among g (xs ++ (ys ++ h ∷ []))
    of_side (inl b) = of_front (among_append xs (h ∷ []) g b)
    of_side (inr b) = in_rest xs (ys ++ h ∷ []) g (in_front ys (h ∷ []) g b)

pub gone_more : (pid : ℕ) (closing : Closing) (front : List Held) (h : Held) (e0 e1 e2 : Slab Entry) (p0 p1 p2 : List (ℕ × PipeState)) → Gone pid closing front e0 e1 p0 p1
    → ((k : ℕ) → get e2 k ≡ cond (closes pid closing k h) (lowered (get e1 k)) (get e1 k)) → ((p : ℕ) → pipe_kept p2 p ≡ cond (takes pid closing e1 p h) None (pipe_kept p1 p)) → ((n : ℕ) → HasRoomFor e1 n → HasRoomFor e2 n)
    → Gone pid closing (front ++ h ∷ []) e0 e2 p0 p2
gone_more pid closing front h e0 e1 e2 p0 p1 p2 g at went room = record {
  at = λ k. at k ∙ ap (λ o. cond (closes pid closing k h) (lowered o) o) (g.at k) ∙ sym (released_last pid closing k front h (get e0 k));
  room = λ n r. room n (g.room n r);
  left = later_left;
}
  where
    later_left : (more : List Held) (made : ℕ) (es : List Description) → IsPaired made e0 → IsCounted e0 (more ++ (front ++ h ∷ [])) → Linked (more ++ (front ++ h ∷ [])) e0 es → (p : ℕ)
        → pipe_kept p2 p ≡ cond (list_any (is_closed_end pid closing es p) (front ++ h ∷ []) && not (list_any (is_end es p) (more ++ held_left pid closing (front ++ h ∷ [])))) None (pipe_kept p0 p)
    later_left more made es pair c l p =
        settle before goes here others (pipe_kept p0 p) (pipe_kept p1 p) (pipe_kept p2 p)
        (g.left (more ++ h ∷ []) made es pair c' l' p ∙ ap (λ b. cond (before && not b) None (pipe_kept p0 p)) (any_mid (is_end es p) more left h))
        (went p ∙ ap (λ b. cond (goes && b) None (pipe_kept p1 p)) (ends_right made h (more ++ left) e1 es p (paired_left pid closing front e0 e1 g.at made pair) c2 l2))
        ∙ ap (λ b. cond (b && not (cond goes others (here || others))) None (pipe_kept p0 p)) (sym closed)
        ∙ ap (λ b. cond (list_any (is_closed_end pid closing es p) (front ++ h ∷ []) && not b) None (pipe_kept p0 p)) (sym ends)
      where
        left : List Held
        left = held_left pid closing front

        before : Bool
        before = list_any (is_closed_end pid closing es p) front

        goes : Bool
        goes = closings.goes pid closing h.descriptor

        here : Bool
        here = is_end es p h

        others : Bool
        others = list_any (is_end es p) (more ++ left)

        c' : IsCounted e0 ((more ++ h ∷ []) ++ front)
        c' = counted_same (more ++ (front ++ h ∷ [])) ((more ++ h ∷ []) ++ front) e0 (λ k. last_named more front h k) c

        l' : Linked ((more ++ h ∷ []) ++ front) e0 es
        l' = linked_within (more ++ (front ++ h ∷ [])) ((more ++ h ∷ []) ++ front) e0 es (λ i a. stands i (more ++ (front ++ h ∷ [])) (last_among more front h i a)) l

        c2 : IsCounted e1 (h ∷ (more ++ left))
        c2 = counted_same ((more ++ h ∷ []) ++ left) (h ∷ (more ++ left)) e1 (λ k. mid_named more left h k) (counted_left pid closing front left e0 e1 refl g.at (more ++ h ∷ []) c')

        l2 : Linked (h ∷ (more ++ left)) e1 es
        l2 =
            linked_within ((more ++ h ∷ []) ++ left) (h ∷ (more ++ left)) e1 es (λ i a. stands i ((more ++ h ∷ []) ++ left) (mid_among more left h i a))
            (linked_left pid closing front left e0 e1 refl g.at (more ++ h ∷ []) es c' l')

        or_none : (b : Bool) → (b || false) ≡ b
        or_none true = refl
        or_none false = refl

        swap : (a b : Bool) → (a || (b || false)) ≡ (b || a)
        swap true true = refl
        swap true false = refl
        swap false true = refl
        swap false false = refl

        closed : list_any (is_closed_end pid closing es p) (front ++ h ∷ []) ≡ (before || (goes && here))
        closed =
            any_append (is_closed_end pid closing es p) front (h ∷ [])
            ∙ ap (λ b. before || b) (or_none (is_closed_end pid closing es p h) ∙ ap (λ b. goes && b) (sym (end_is_pipe es p h.descriptor.description)))

        of_goes : (b : Bool) → list_any (is_end es p) (more ++ (left ++ cond b [] (h ∷ []))) ≡ cond b others (here || others)
        of_goes true = ap (λ xs. list_any (is_end es p) (more ++ xs)) (nil_right left)
        of_goes false = ap (λ xs. list_any (is_end es p) xs) (sym (append_assoc more left (h ∷ []))) ∙ any_append (is_end es p) (more ++ left) (h ∷ []) ∙ swap others here

        ends : list_any (is_end es p) (more ++ held_left pid closing (front ++ h ∷ [])) ≡ cond goes others (here || others)
        ends = ap (λ xs. list_any (is_end es p) (more ++ xs)) (left_last pid closing front h) ∙ of_goes goes

-- ---- the loop
-- the front was gone through, the rest not yet
pub record Left (pid : ℕ) (closing : Closing) (rest whole : List Held) (old new : Slab Entry) (pipes pipes' : List (ℕ × PipeState)) : Type 0 where
  pub front : List Held
  pub is : front ++ rest ≡ whole
  pub gone : Gone pid closing front old new pipes pipes'

pub begins : (pid : ℕ) (closing : Closing) (whole : List Held) (entries : Slab Entry) (pipes : List (ℕ × PipeState)) → Left pid closing whole whole entries entries pipes pipes
begins pid closing whole entries pipes = record { front = []; is = refl; gone = record { at = λ k. refl; room = λ n r. r; left = λ more made es pair c l p. refl } }

pub goes_on : (pid : ℕ) (closing : Closing) (h : Held) (rest others whole : List Held) (e0 e1 e2 : Slab Entry) (p0 p1 p2 : List (ℕ × PipeState)) → rest ≡ h ∷ others
    → ((k : ℕ) → get e2 k ≡ cond (closes pid closing k h) (lowered (get e1 k)) (get e1 k)) → ((p : ℕ) → pipe_kept p2 p ≡ cond (takes pid closing e1 p h) None (pipe_kept p1 p)) → ((n : ℕ) → HasRoomFor e1 n → HasRoomFor e2 n)
    → Left pid closing rest whole e0 e1 p0 p1 → Left pid closing others whole e0 e2 p0 p2
goes_on pid closing h rest others whole e0 e1 e2 p0 p1 p2 e at went room l = record {
  front = l.front ++ h ∷ [];
  is = append_assoc l.front (h ∷ []) others ∙ ap (λ xs. l.front ++ xs) (sym e) ∙ l.is;
  gone = gone_more pid closing l.front h e0 e1 e2 p0 p1 p2 l.gone at went room;
}

pub ends : (pid : ℕ) (closing : Closing) (rest whole : List Held) (e0 e1 : Slab Entry) (p0 p1 : List (ℕ × PipeState)) → rest ≡ [] → Left pid closing rest whole e0 e1 p0 p1 → Gone pid closing whole e0 e1 p0 p1
ends pid closing rest whole e0 e1 p0 p1 e l = subst (λ xs. Gone pid closing xs e0 e1 p0 p1) (sym (nil_right l.front) ∙ ap (λ xs. l.front ++ xs) (sym e) ∙ l.is) l.gone

-- ---- what the definitions leave
pub any_listed : (f : Descriptor → Bool) (hs : List Held) → list_any f (listed hs) ≡ list_any (λ h. f h.descriptor) hs
any_listed f [] = refl
any_listed f (h ∷ hs) = ap (λ b. f h.descriptor || b) (any_listed f hs)

any_filtered : (test f : Held → Bool) (hs : List Held) → list_any (λ h. test h && f h) hs ≡ list_any f (filter test hs)
any_filtered test f [] = refl
any_filtered test f (h ∷ hs) = of_test (test h) (any_filtered test f hs)
  where
    of_test : (b : Bool) → list_any (λ g. test g && f g) hs ≡ list_any f (filter test hs) → ((b && f h) || list_any (λ g. test g && f g) hs) ≡ list_any f (cond b (h ∷ filter test hs) (filter test hs))
    of_test true e = ap (λ x. f h || x) e
    of_test false e = e

others_stay : (pid : ℕ) (closing : Closing) (d : Descriptor) → (d.pid == pid) ≡ false → closings.goes pid closing d ≡ false
others_stay pid (Named name) d e = ap (λ b. b && names.is_called name d) e
others_stay pid Asides d e = ap (λ b. b && is_none d.number) e
others_stay pid All d e = e

pub none_closed : (pid : ℕ) (closing : Closing) (es : List Description) (p : ℕ) (more : List Held) → NoneOf pid more → list_any (is_closed_end pid closing es p) more ≡ false
none_closed pid closing es p [] n = refl
none_closed pid closing es p (h ∷ more) n =
    ap (λ b. (b && is_pipe p (closings.pipe_at es h.descriptor.description)) || list_any (is_closed_end pid closing es p) more) (others_stay pid closing h.descriptor n.0) ∙ none_closed pid closing es p more n.1

all_stay : (pid : ℕ) (closing : Closing) (es : List Description) (p : ℕ) (more : List Held) → NoneOf pid more → list_any (λ h. stays pid closing h && is_end es p h) more ≡ list_any (is_end es p) more
all_stay pid closing es p [] n = refl
all_stay pid closing es p (h ∷ more) n =
    ap (λ b. (not b && is_end es p h) || list_any (λ g. stays pid closing g && is_end es p g) more) (others_stay pid closing h.descriptor n.0) ∙ ap (λ b. is_end es p h || b) (all_stay pid closing es p more n.1)

abbrev pub closed_end : ℕ → Closing → List Description → ℕ → Descriptor → Bool
closed_end pid closing es p d = closings.goes pid closing d && is_pipe p (closings.pipe_at es d.description)

none_there : {X : Type 0} (xs : List (Option X)) (p : ℕ) → option_and_then (λ slot. slot) (slice_get (slice_set xs p None) p) ≡ None
none_there [] p = refl
none_there (x ∷ xs) zero = refl
none_there (x ∷ xs) (suc p) = none_there xs p

one_goes : (pid : ℕ) (closing : Closing) (ds : List Descriptor) (es : List Description) (ps : Pipes) (p : ℕ) (d : Descriptor) → pipe_made (closings.let_go_of pid closing ds es ps d) p ≡ cond (closed_end pid closing es p d && not (closings.is_held pid closing ds es p)) None (pipe_made ps p)
one_goes pid closing ds es ps p d = of_goes (closings.goes pid closing d)
  where
    of_held : (q : ℕ) (same held : Bool) → (q == p) ≡ same → closings.is_held pid closing ds es q ≡ held → pipe_made (cond held ps (slice_set ps q None)) p ≡ cond (same && not (closings.is_held pid closing ds es p)) None (pipe_made ps p)
    of_held q false true e f = refl
    of_held q false false e f = ap (λ slot. option_and_then (λ s. s) slot) (other_place ps q p None (apart q p e))
    of_held q true true e f = let t : q ≡ p = eqb-true q p e in ap (λ b. cond (not b) None (pipe_made ps p)) (sym f ∙ ap (λ r. closings.is_held pid closing ds es r) t)
    of_held q true false e f =
        let t : q ≡ p = eqb-true q p e in
        ap (λ r. pipe_made (slice_set ps r None) p) t ∙ none_there ps p ∙ ap (λ b. cond (not b) None (pipe_made ps p)) (sym f ∙ ap (λ r. closings.is_held pid closing ds es r) t)

    of_pipe : (o : Option ℕ) → pipe_made (closings.let_go pid closing ds es ps o) p ≡ cond (is_pipe p o && not (closings.is_held pid closing ds es p)) None (pipe_made ps p)
    of_pipe None = refl
    of_pipe (Some q) = of_held q (q == p) (closings.is_held pid closing ds es q) refl refl

    of_goes : (b : Bool) → pipe_made (cond b (closings.let_go pid closing ds es ps (closings.pipe_at es d.description)) ps) p ≡ cond ((b && is_pipe p (closings.pipe_at es d.description)) && not (closings.is_held pid closing ds es p)) None (pipe_made ps p)
    of_goes true = of_pipe (closings.pipe_at es d.description)
    of_goes false = refl

pub made_left : (pid : ℕ) (closing : Closing) (ds gone : List Descriptor) (es : List Description) (ps : Pipes) (p : ℕ) → pipe_made (closings.let_go_each pid closing ds es ps gone) p ≡ cond (list_any (closed_end pid closing es p) gone && not (closings.is_held pid closing ds es p)) None (pipe_made ps p)
made_left pid closing ds [] es ps p = refl
made_left pid closing ds (d ∷ gone) es ps p =
    made_left pid closing ds gone es (closings.let_go_of pid closing ds es ps d) p
    ∙ ap (λ o. cond (list_any (closed_end pid closing es p) gone && not (closings.is_held pid closing ds es p)) None o) (one_goes pid closing ds es ps p d)
    ∙ twice (list_any (closed_end pid closing es p) gone) (closed_end pid closing es p d) (closings.is_held pid closing ds es p) (pipe_made ps p)
  where
    twice : {X : Type 0} (a b h : Bool) (o : Option X) → cond (a && not h) None (cond (b && not h) None o) ≡ cond ((b || a) && not h) None o
    twice true true true o = refl
    twice true true false o = refl
    twice true false true o = refl
    twice true false false o = refl
    twice false true true o = refl
    twice false true false o = refl
    twice false false true o = refl
    twice false false false o = refl

pub pipes_gone : (pid : ℕ) (closing : Closing) (hs : List Held) (e0 e1 : Slab Entry) (p0 p1 : List (ℕ × PipeState)) → Gone pid closing hs e0 e1 p0 p1 → (more : List Held) (made : ℕ) (es : List Description) (ps : Pipes) → NoneOf pid more
    → IsPaired made e0 → IsCounted e0 (more ++ hs) → Linked (more ++ hs) e0 es → PipesAgree p0 ps → PipesAgree p1 (closings.pipes_left pid closing (listed (more ++ hs)) es ps)
pipes_gone pid closing hs e0 e1 p0 p1 g more made es ps n pair c l agree p =
    g.left more made es pair c l p
    ∙ ap (λ o. cond (list_any (is_closed_end pid closing es p) hs && not (list_any (is_end es p) (more ++ held_left pid closing hs))) None o) (agree p)
    ∙ ap (λ b. cond (b && not (list_any (is_end es p) (more ++ held_left pid closing hs))) None (pipe_made ps p)) (sym closed)
    ∙ ap (λ b. cond (list_any (closed_end pid closing es p) (listed (more ++ hs)) && not b) None (pipe_made ps p)) (sym held)
    ∙ sym (made_left pid closing (listed (more ++ hs)) (listed (more ++ hs)) es ps p)
  where
    closed : list_any (closed_end pid closing es p) (listed (more ++ hs)) ≡ list_any (is_closed_end pid closing es p) hs
    closed =
        any_listed (closed_end pid closing es p) (more ++ hs) ∙ any_append (is_closed_end pid closing es p) more hs
        ∙ ap (λ b. b || list_any (is_closed_end pid closing es p) hs) (none_closed pid closing es p more n)

    held : closings.is_held pid closing (listed (more ++ hs)) es p ≡ list_any (is_end es p) (more ++ held_left pid closing hs)
    held =
        any_listed (closings.holds pid closing es p) (more ++ hs) ∙ any_append (λ h. stays pid closing h && is_end es p h) more hs
        ∙ ap (λ b. b || list_any (λ h. stays pid closing h && is_end es p h) hs) (all_stay pid closing es p more n)
        ∙ ap (λ b. list_any (is_end es p) more || b) (any_filtered (stays pid closing) (is_end es p) hs)
        ∙ sym (any_append (is_end es p) more (held_left pid closing hs))

-- descriptors of other processes stay
pub left_behind : (pid : ℕ) (closing : Closing) (more hs : List Held) → NoneOf pid more → closings.descriptors_left pid closing (listed (more ++ hs)) ≡ listed more ++ closings.descriptors_left pid closing (listed hs)
left_behind pid closing [] hs n = refl
left_behind pid closing (h ∷ more) hs n =
    ap (λ b. cond (not b) (h.descriptor ∷ closings.descriptors_left pid closing (listed (more ++ hs))) (closings.descriptors_left pid closing (listed (more ++ hs)))) (others_stay pid closing h.descriptor n.0)
    ∙ ap (λ ds. h.descriptor ∷ ds) (left_behind pid closing more hs n.1)
