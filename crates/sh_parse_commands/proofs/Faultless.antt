-- Whether tokens judged one after another have a fault, and their tree where they derive.
use Rattle.std.proofs.Common.{◌≡◌, List, [], ◌∷◌, ◌++◌, Result, Ok, Err, refl, sym, ap, subst, ◌∙◌, append_assoc}
use Rattle.std.proofs.lemmas.List.{append-nil}
use Rattle.sh_syntax.specs.declared.tree.Parts.{Parts}
use Rattle.sh_parse_actions.specs.declared.leaf.Leaf.{Leaf}
use Rattle.sh_parse_documents.specs.declared.item.Item.{Item}
use Rattle.sh_parse_documents.specs.Waiting.{Waiting, nothing, behind_token, due_at}
use Rattle.sh_parse_words.specs.declared.fault.PartFault.{PartFault}
use Rattle.sh_parse_leaves.specs.Results.{and_then}
use Rattle.sh_parse_leaves.specs.Words.{within}
use Rattle.sh_parse_commands.specs.Judging.{IsShell, Judged, none_of, with_item, with_items}
use Rattle.sh_parse_documents.specs.Stream.{waiting_behind}
use Rattle.sh_parse_commands.specs.Defined.{Judge, IsTaken, HasFault, AreTaken, AreFaultless, FirstFault}
use Rattle.sh_parse_commands.proofs.Taking.{behind, judged_next, Told, next_told, next_taken, next_fault}

-- what waits behind one token more
pub waiting_push : (w : Waiting) (before : List Item) (t : Item) → waiting_behind w (before ++ t ∷ []) ≡ behind_token t.token.kind (waiting_behind w before)
waiting_push w [] t = refl
waiting_push w (b ∷ before) t = waiting_push (behind_token b.token.kind w) before t

-- tokens behind others that are taken
abbrev further : Judge → List Item → List Item → Judged → Result Judged PartFault
further g before items j = with_items (within g.read g.left g.text) (waiting_behind nothing before) items j

abbrev pub judged : Judge → List Item → Result Judged PartFault
judged g items = with_items (within g.read g.left g.text) nothing items (none_of g.grammar)

further_push : (g : Judge) (before : List Item) (t : Item) (items : List Item) (j : Judged)
    → with_items (within g.read g.left g.text) (behind_token t.token.kind (waiting_behind nothing before)) items j ≡ further g (before ++ t ∷ []) items j
further_push g before t items j = ap (λ w. with_items (within g.read g.left g.text) w items j) (sym (waiting_push nothing before t))

pub record AllTaken (g : Judge) (before items : List Item) (ls : List Leaf) (bs : List Parts) (k : Judged) : Type 0 where
  pub leaves : List Leaf
  pub bodies : List Parts
  pub taken : AreTaken g before items leaves bodies
  pub is : k ≡ behind g (before ++ items) (ls ++ leaves) (bs ++ bodies)

pub record FaultBehind (g : Judge) (before items : List Item) (f : PartFault) : Type 0 where
  pub middle : List Item
  pub token : Item
  pub after : List Item
  pub leaves : List Leaf
  pub bodies : List Parts
  pub joined : items ≡ middle ++ token ∷ after
  pub taken : AreTaken g before middle leaves bodies
  pub fault : HasFault g (before ++ middle) token f

abbrev AllTold : Judge → List Item → List Item → List Leaf → List Parts → Result Judged PartFault → Type 0
AllTold g before items ls bs (Ok k) = AllTaken g before items ls bs k
AllTold g before items ls bs (Err f) = FaultBehind g before items f

same_behind : (g : Judge) (xs ys : List Item) (ls ms : List Leaf) (bs cs : List Parts) → xs ≡ ys → ls ≡ ms → bs ≡ cs → behind g xs ls bs ≡ behind g ys ms cs
same_behind g xs ys ls ms bs cs p q r = rw (p, q, r) refl

all_push : (g : Judge) (before : List Item) (t : Item) (items : List Item) (ls : List Leaf) (bs : List Parts) (l : Leaf) (here : List Parts) → IsTaken g before t l here
    → (r : Result Judged PartFault) → AllTold g (before ++ t ∷ []) items (ls ++ l ∷ []) (bs ++ here) r → AllTold g before (t ∷ items) ls bs r
all_push g before t items ls bs l here h (Ok k) a =
    record {
      leaves = l ∷ a.leaves;
      bodies = here ++ a.bodies;
      taken = (here, a.bodies, h, a.taken, refl);
      is =
          a.is ∙ same_behind g ((before ++ t ∷ []) ++ items) (before ++ t ∷ items) ((ls ++ l ∷ []) ++ a.leaves) (ls ++ l ∷ a.leaves) ((bs ++ here) ++ a.bodies)
          (bs ++ (here ++ a.bodies)) (append_assoc before (t ∷ []) items) (append_assoc ls (l ∷ []) a.leaves) (append_assoc bs here a.bodies);
    }
all_push g before t items ls bs l here h (Err f) a =
    record {
      middle = t ∷ a.middle;
      token = a.token;
      after = a.after;
      leaves = l ∷ a.leaves;
      bodies = here ++ a.bodies;
      joined = ap (λ xs. t ∷ xs) a.joined;
      taken = (here, a.bodies, h, a.taken, refl);
      fault = subst (λ xs. HasFault g xs a.token f) (append_assoc before (t ∷ []) a.middle) a.fault;
    }

all_next : (g : Judge) (before : List Item) (t : Item) (items : List Item) (ls : List Leaf) (bs : List Parts) (o : Result Judged PartFault) → Told g before t ls bs o
    → ((l : Leaf) (here : List Parts) → AllTold g (before ++ t ∷ []) items (ls ++ l ∷ []) (bs ++ here) (further g (before ++ t ∷ []) items (behind g (before ++ t ∷ []) (ls ++ l ∷ []) (bs ++ here))))
    → AllTold g before (t ∷ items) ls bs (and_then o (λ k. with_items (within g.read g.left g.text) (behind_token t.token.kind (waiting_behind nothing before)) items k))
all_next g before t items ls bs (Ok k) h more =
    let next : behind g (before ++ t ∷ []) (ls ++ h.leaf ∷ []) (bs ++ h.here) ≡ k = sym h.is in
    subst (λ j. AllTold g before (t ∷ items) ls bs (with_items (within g.read g.left g.text) (behind_token t.token.kind (waiting_behind nothing before)) items j)) next
    (subst (λ r. AllTold g before (t ∷ items) ls bs r) (sym (further_push g before t items (behind g (before ++ t ∷ []) (ls ++ h.leaf ∷ []) (bs ++ h.here))))
    (all_push g before t items ls bs h.leaf h.here h.taken _ (more h.leaf h.here)))
all_next g before t items ls bs (Err f) h more =
    record {
      middle = [];
      token = t;
      after = items;
      leaves = [];
      bodies = [];
      joined = refl;
      taken = refl;
      fault = subst (λ xs. HasFault g xs t f) (sym (append-nil before)) h;
    }

all_told : (g : Judge) → IsShell g.grammar → (items before : List Item) (ls : List Leaf) (bs : List Parts) → AllTold g before items ls bs (further g before items (behind g before ls bs))
all_told g s [] before ls bs =
    record {
      leaves = [];
      bodies = [];
      taken = refl;
      is =
          same_behind g before (before ++ []) ls (ls ++ []) bs (bs ++ []) (sym (append-nil before)) (sym (append-nil ls)) (sym (append-nil bs));
    }
all_told g s (t ∷ items) before ls bs =
    all_next g before t items ls bs (judged_next g before t ls bs) (next_told g before t ls bs s)
    (λ l here. all_told g s items (before ++ t ∷ []) (ls ++ l ∷ []) (bs ++ here))

-- what is taken is judged so
all_taken : (g : Judge) → IsShell g.grammar → (items before : List Item) (ls leaves : List Leaf) (bs bodies : List Parts) → AreTaken g before items leaves bodies
    → further g before items (behind g before ls bs) ≡ Ok (behind g (before ++ items) (ls ++ leaves) (bs ++ bodies))
all_taken g s [] before ls [] bs bodies h =
    ap Ok (same_behind g before (before ++ []) ls (ls ++ []) bs (bs ++ bodies) (sym (append-nil before)) (sym (append-nil ls)) (sym (ap (λ x. bs ++ x) h ∙ append-nil bs)))
all_taken g s [] before ls (l ∷ leaves) bs bodies h = absurd h
all_taken g s (t ∷ items) before ls [] bs bodies h = absurd h
all_taken g s (t ∷ items) before ls (l ∷ leaves) bs bodies (here, others, one, rest, is) =
    ap (λ o. and_then o (λ k. with_items (within g.read g.left g.text) (behind_token t.token.kind (waiting_behind nothing before)) items k)) (next_taken g before t ls bs s l here one)
    ∙ (further_push g before t items (behind g (before ++ t ∷ []) (ls ++ l ∷ []) (bs ++ here))
    ∙ (all_taken g s items (before ++ t ∷ []) (ls ++ l ∷ []) leaves (bs ++ here) others rest
    ∙ ap Ok (same_behind g ((before ++ t ∷ []) ++ items) (before ++ t ∷ items) ((ls ++ l ∷ []) ++ leaves) (ls ++ l ∷ leaves) ((bs ++ here) ++ others) (bs ++ bodies)
    (append_assoc before (t ∷ []) items) (append_assoc ls (l ∷ []) leaves) (append_assoc bs here others ∙ ap (λ x. bs ++ x) (sym is)))))

-- all of them
abbrev pub JudgedSo : Judge → List Item → Result Judged PartFault → Type 0
JudgedSo g items (Ok k) = (x : AreFaultless g items) × (k ≡ behind g items x.leaves x.bodies)
JudgedSo g items (Err f) = FirstFault g items f

from_start : (g : Judge) (items : List Item) (r : Result Judged PartFault) → AllTold g [] items [] [] r → JudgedSo g items r
from_start g items (Ok k) a = (record { leaves = a.leaves; bodies = a.bodies; taken = a.taken }, a.is)
from_start g items (Err f) a =
    record {
      before = a.middle;
      token = a.token;
      after = a.after;
      joined = a.joined;
      faultless = record { leaves = a.leaves; bodies = a.bodies; taken = a.taken };
      fault = a.fault;
    }

pub judged_told : (g : Judge) → IsShell g.grammar → (items : List Item) → JudgedSo g items (judged g items)
judged_told g s items = from_start g items (judged g items) (all_told g s items [] [] [])

pub faultless_judged : (g : Judge) → IsShell g.grammar → (items : List Item) (x : AreFaultless g items) → judged g items ≡ Ok (behind g items x.leaves x.bodies)
faultless_judged g s items x = all_taken g s items [] [] x.leaves [] x.bodies x.taken

-- tokens behind others
then_same : (o : Result Judged PartFault) (f h : Judged → Result Judged PartFault) → ((k : Judged) → f k ≡ h k) → and_then o f ≡ and_then o h
then_same (Ok k) f h e = e k
then_same (Err x) f h e = refl

then_then : (o : Result Judged PartFault) (f h : Judged → Result Judged PartFault) → and_then (and_then o f) h ≡ and_then o (λ k. and_then (f k) h)
then_then (Ok k) f h = refl
then_then (Err x) f h = refl

with_more : (g : Judge) (w : Waiting) (xs ys : List Item) (j : Judged)
    → with_items (within g.read g.left g.text) w (xs ++ ys) j ≡ and_then (with_items (within g.read g.left g.text) w xs j) (λ k. with_items (within g.read g.left g.text) (waiting_behind w xs) ys k)
with_more g w [] ys j = refl
with_more g w (x ∷ xs) ys j =
    then_same (with_item (within g.read g.left g.text) (due_at x.token.kind w) x j) (λ k. with_items (within g.read g.left g.text) (behind_token x.token.kind w) (xs ++ ys) k)
    (λ k. and_then (with_items (within g.read g.left g.text) (behind_token x.token.kind w) xs k) (λ i. with_items (within g.read g.left g.text) (waiting_behind (behind_token x.token.kind w) xs) ys i))
    (λ k. with_more g (behind_token x.token.kind w) xs ys k)
    ∙ sym (then_then (with_item (within g.read g.left g.text) (due_at x.token.kind w) x j) (λ k. with_items (within g.read g.left g.text) (behind_token x.token.kind w) xs k)
    (λ i. with_items (within g.read g.left g.text) (waiting_behind (behind_token x.token.kind w) xs) ys i))

then_ok : (o : Result Judged PartFault) → and_then o (λ k. Ok k) ≡ o
then_ok (Ok k) = refl
then_ok (Err x) = refl

pub judged_push : (g : Judge) (items : List Item) (t : Item)
    → judged g (items ++ t ∷ []) ≡ and_then (judged g items) (λ k. with_item (within g.read g.left g.text) (due_at t.token.kind (waiting_behind nothing items)) t k)
judged_push g items t =
    with_more g nothing items (t ∷ []) (none_of g.grammar)
    ∙ then_same (judged g items) (λ k. with_items (within g.read g.left g.text) (waiting_behind nothing items) (t ∷ []) k)
    (λ k. with_item (within g.read g.left g.text) (due_at t.token.kind (waiting_behind nothing items)) t k)
    (λ k. then_ok (with_item (within g.read g.left g.text) (due_at t.token.kind (waiting_behind nothing items)) t k))

pub fault_judged : (g : Judge) → IsShell g.grammar → (items : List Item) (f : PartFault) → FirstFault g items f → judged g items ≡ Err f
fault_judged g s items f x =
    ap (λ xs. judged g xs) x.joined
    ∙ (with_more g nothing x.before (x.token ∷ x.after) (none_of g.grammar)
    ∙ (ap (λ o. and_then o (λ k. with_items (within g.read g.left g.text) (waiting_behind nothing x.before) (x.token ∷ x.after) k)) (faultless_judged g s x.before x.faultless)
    ∙ ap (λ o. and_then o (λ k. with_items (within g.read g.left g.text) (behind_token x.token.token.kind (waiting_behind nothing x.before)) x.after k))
    (next_fault g x.before x.token x.faultless.leaves x.faultless.bodies s f x.fault)))
