-- A part that is begun, by what its form answered.
use Rattle.std.proofs.Common.{◌≡◌, ◌+◌, ◌<◌, sym, ap, ◌∙◌, arith}
use Rattle.std.specs.Prelude.{Some}
use Rattle.sh_vars.specs.Environment.{Environment}
use Rattle.sh_syntax.specs.declared.tree.Part.{Part}
use Rattle.sh_syntax.specs.declared.tree.Parts.{Parts}
use Rattle.sh_syntax.specs.declared.tree.CompoundList.{CompoundList}
use Rattle.sh_expand_parts.specs.Drafts.{concatenation}
use Rattle.sh_expand_parts.specs.declared.context.Context.{Context}
use Rattle.sh_expand_parts.specs.declared.draft.Draft.{Draft}
use Rattle.sh_expand_parts.specs.declared.forms.Begun.{Begun}
use Rattle.sh_expand_parts.specs.declared.closing.Purpose.{Purpose}
use Rattle.sh_expand.specs.declared.place.Place.{Place}
use Rattle.sh_expand.specs.declared.part.Act.{Act}
use Rattle.sh_expand.specs.declared.part.Act.TheVariants.{Went, Enter, Ask}
use Rattle.sh_expand.specs.Expansion.{Done, State, Outcome, adds, command_substitution, asks, begins, begins_alone, enters}
use Rattle.sh_expand.specs.Parts.{parts_of, pieces, run_part}
use Rattle.sh_expand.specs.WordProgress.{act_weight, outcome_at}
use Rattle.sh_expand.specs.Weights.{part_weight, parts_weight}

-- items go behind the word so far
pub added : (p q : Part) (at : Place) (s : State) (f : Environment → Draft) (env : Environment) (old new more : Draft) (a : Act)
    → p ≡ q → run_part q at s ≡ adds (f s.env) s → s.env ≡ env → s.draft ≡ old → more ≡ f env → new ≡ concatenation old more → a ≡ Went
    → run_part p at s ≡ outcome_at a (record s { draft = new })
added p q at s f env old new more a e r v o m n w =
    ap (λ x. run_part x at s) e ∙ r
    ∙ ap (λ d. adds d s) (ap f v ∙ sym m)
    ∙ ap (λ d. Done (record s { draft = concatenation d more })) o
    ∙ ap (λ d. Done (record s { draft = d })) (sym n)
    ∙ ap (λ b. outcome_at b (record s { draft = new })) (sym w)

-- a form without a word inside
pub settled : (p q : Part) (at : Place) (s : State) (f : Environment → Begun) (env : Environment) (begun : Begun) (o : Outcome)
    → p ≡ q → run_part q at s ≡ begins_alone (f s.env) s → s.env ≡ env → begun ≡ f env → begins_alone begun s ≡ o → run_part p at s ≡ o
settled p q at s f env begun o e r v b h =
    ap (λ x. run_part x at s) e ∙ r ∙ ap (λ d. begins_alone d s) (ap f v ∙ sym b) ∙ h

-- a form that may have one
pub entered : (p q : Part) (at : Place) (s : State) (f : Environment → Begun) (w : Parts) (env : Environment) (begun : Begun) (o : Outcome)
    → p ≡ q → run_part q at s ≡ begins (f s.env) (pieces (parts_of w)) s → s.env ≡ env → begun ≡ f env
    → begins begun (pieces (parts_of w)) s ≡ o → run_part p at s ≡ o
entered p q at s f w env begun o e r v b h =
    ap (λ x. run_part x at s) e ∙ r ∙ ap (λ d. begins d (pieces (parts_of w)) s) (ap f v ∙ sym b) ∙ h

-- quotes and arithmetic
pub opened : (p q : Part) (at : Place) (s : State) (w u : Parts) (purpose : Purpose) (context inner : Context) (old : Draft)
    → p ≡ q → run_part q at s ≡ enters purpose context (pieces (parts_of w)) s → u ≡ w → inner ≡ context → s.draft ≡ old
    → run_part p at s ≡ outcome_at (Enter u purpose inner) (record s { draft = old })
opened p q at s w u purpose context inner old e r k i o =
    ap (λ x. run_part x at s) e ∙ r
    ∙ ap (λ y. enters purpose context (pieces (parts_of y)) s) (sym k)
    ∙ ap (λ x. enters purpose x (pieces (parts_of u)) s) (sym i)
    ∙ ap (λ d. enters purpose inner (pieces (parts_of u)) (record s { draft = d })) o

-- a command substitution
pub asked : (p q : Part) (at : Place) (s : State) (w u : CompoundList) (old : Draft)
    → p ≡ q → run_part q at s ≡ asks at.context (Some w) s → u ≡ w → s.draft ≡ old
    → run_part p at s ≡ outcome_at (Ask u at.context) (record s { draft = old })
asked p q at s w u old e r k o =
    ap (λ x. run_part x at s) e ∙ r
    ∙ ap (λ y. command_substitution at.context y s.answers s) (sym k)
    ∙ ap (λ d. command_substitution at.context u s.answers (record s { draft = d })) o

-- weights
pub weighs_nothing : (p q : Part) (a : Act) → p ≡ q → part_weight q ≡ 2 → act_weight a ≡ 0 → act_weight a < part_weight p
weighs_nothing p q a e w n =
    let k : part_weight p ≡ 2 = ap part_weight e ∙ w in
    omega (arith, n)

pub weighs_word : (p q : Part) (w : Parts) (a : Act) → p ≡ q → part_weight q ≡ 2 + parts_weight (parts_of w) → act_weight a < 2 + parts_weight (parts_of w) → act_weight a < part_weight p
weighs_word p q w a e h n =
    let k : part_weight p ≡ 2 + parts_weight (parts_of w) = ap part_weight e ∙ h in
    omega (arith, n)

pub weighs_opened : (p q : Part) (w u : Parts) (purpose : Purpose) (context : Context) → p ≡ q → part_weight q ≡ 2 + parts_weight (parts_of w) → u ≡ w → act_weight (Enter u purpose context) < part_weight p
weighs_opened p q w u purpose context e h k =
    let a : part_weight p ≡ 2 + parts_weight (parts_of w) = ap part_weight e ∙ h in
    let b : parts_weight (parts_of u) ≡ parts_weight (parts_of w) = ap (λ y. parts_weight (parts_of y)) k in
    omega (arith, a, b)
