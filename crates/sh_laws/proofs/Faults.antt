-- The first fault of a text's tokens stands in the token that has it, or in the bodies behind that.
use Rattle.std.proofs.Common.{◌≡◌, ℕ, ◌-◌, ◌^◌, ◌<◌, ◌≤◌, Bool, List, [], ◌∷◌, ◌++◌, length, Err, sym, subst, arith}
use Rattle.sh_parse_documents.specs.declared.item.Item.{Item}
use Rattle.sh_parse_documents.specs.Waiting.{nothing, due_at}
use Rattle.sh_parse_documents.specs.Stream.{items_of, waiting_behind}
use Rattle.sh_parse_words.specs.declared.fault.PartFault.{PartFault}
use Rattle.sh_parse_words.specs.declared.fault.PartFault.TheVariants as fault
use Rattle.sh_parse_commands.specs.Defined.{Judge, opened, leaf_at, bodies_at, HasFault, refused, too_deep, in_word, in_body, FirstFault}
use Rattle.sh_parse_commands.specs.Documents.{bodies_of}
use Rattle.sh_parse_leaves.specs.Leaves.{leaf_of}
use Rattle.sh_parse_leaves.specs.Words.{Reader}
use Rattle.sh_parse.proofs.Faults.{ReadsIn}
use Rattle.sh_parse.specs.Insides.{AreInside}
use Rattle.sh_parse.proofs.Insides.{inside_of}
use Rattle.sh_laws.specs.Standing.{Stands}
use Rattle.sh_laws.proofs.Bodies.{bodies_stand}
use Rattle.sh_laws.proofs.Words.{faults_stand}

within : (a b c d : ℕ) (f : PartFault) → c ≤ a → b ≤ d → Stands a b f → Stands c d f
within a b c d (fault.BadSubstitution at) l m h = let x : a ≤ at = h.0 in let y : at < b = h.1 in (omega (x, l, arith), omega (y, m, arith))
within a b c d (fault.TooDeep at) l m h = let x : a ≤ at = h.0 in let y : at < b = h.1 in (omega (x, l, arith), omega (y, m, arith))
within a b c d (fault.Refused at) l m h = let x : a ≤ at = h.0 in let y : at < b = h.1 in (omega (x, l, arith), omega (y, m, arith))
within a b c d (fault.NoMemory _) l m h = tt

ordered : (at size : ℕ) (before : List Item) (t : Item) (after : List Item) → AreInside at size (before ++ t ∷ after)
    → (t.token.span.start < t.token.span.«end») × (t.token.span.«end» ≤ t.«end»)
ordered at size [] t after h = (h.1, h.2)
ordered at size (b ∷ before) t after h = ordered b.«end» size before t after h.4

module _ (read : Reader) (reads : ReadsIn read) (e : Bool) (text : List ℕ) (small : length text < 2 ^ 64) (g : Judge) (by : g.read ≡ read) (here : g.text ≡ text) where
  of_word : (before : List Item) (t : Item) (after : List Item) → (items_of e text).items ≡ before ++ t ∷ after → (f : PartFault) → leaf_at g before t ≡ Err f
      → Stands t.token.span.start t.token.span.«end» f
  of_word before t after j f h =
      let left = g.left - opened g (before ++ t ∷ []) in
      faults_stand read reads e text small before t after j left f
      (subst (λ r. leaf_of r left text t.token.kind t.token.span ≡ Err f) by (subst (λ z. leaf_of g.read left z t.token.kind t.token.span ≡ Err f) here h))

  of_bodies : (before : List Item) (t : Item) (f : PartFault) → t.token.span.«end» ≤ t.«end» → bodies_at g before t ≡ Err f → Stands t.token.span.«end» t.«end» f
  of_bodies before t f l h =
      let left = g.left - opened g (before ++ t ∷ []) in
      let due = due_at t.token.kind (waiting_behind nothing before) in
      bodies_stand read reads left text due t f l (subst (λ r. bodies_of r left text due t ≡ Err f) by (subst (λ z. bodies_of g.read left z due t ≡ Err f) here h))

  of_token : (before : List Item) (t : Item) (after : List Item) → (items_of e text).items ≡ before ++ t ∷ after → (f : PartFault) → HasFault g before t f
      → (t.token.span.start < t.token.span.«end») × (t.token.span.«end» ≤ t.«end») → Stands t.token.span.start t.«end» f
  of_token before t after j f (refused n h) (a, b) = subst (λ x. Stands t.token.span.start t.«end» x) (sym h) (omega arith, omega (a, b, arith))
  of_token before t after j f (too_deep n m h) (a, b) = subst (λ x. Stands t.token.span.start t.«end» x) (sym h) (omega arith, omega (a, b, arith))
  of_token before t after j f (in_word n m h) (a, b) =
      within t.token.span.start t.token.span.«end» t.token.span.start t.«end» f (omega arith) b (of_word before t after j f h)
  of_token before t after j f (in_body n m l k h) (a, b) =
      within t.token.span.«end» t.«end» t.token.span.start t.«end» f (omega (a, arith)) (omega arith) (of_bodies before t f b h)

  pub first_stands : (f : PartFault) (x : FirstFault g (items_of e text).items f) → Stands x.token.token.span.start x.token.«end» f
  first_stands f x =
      of_token x.before x.token x.after x.joined f x.fault
      (ordered 0 (length text) x.before x.token x.after (subst (λ z. AreInside 0 (length text) z) x.joined (inside_of e text)))
