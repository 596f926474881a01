-- What each part of a word does, form by form (XCU 2.2, 2.6): the equations of 'run_part'.
use Rattle.std.specs.Prelude.{◌≡◌, ℕ, List, [], ◌∷◌, Some}
use Rattle.sh_expand_fields.specs.declared.item.Item.TheVariants as item
use Rattle.sh_syntax.specs.declared.tree.Parts.{Parts}
use Rattle.sh_syntax.specs.declared.tree.CompoundList.{CompoundList}
use Rattle.sh_syntax.specs.declared.tree.Parameter.{Parameter}
use Rattle.sh_syntax.specs.declared.tree.Absence.{Absence}
use Rattle.sh_syntax.specs.declared.tree.Affix.{Affix}
use Rattle.sh_syntax.specs.declared.tree.Extent.{Extent}
use Rattle.sh_syntax.specs.declared.tree.ConditionalAction.{ConditionalAction}
use Rattle.sh_syntax.specs.declared.tree.Part.TheVariants as part
use Rattle.sh_expand_parts.specs.Contexts.{inside_quotes}
use Rattle.sh_expand_parts.specs.Drafts.{field_items, plain}
use Rattle.sh_expand_parts.specs.Forms.{conditional_begun, length_begun, parameter_begun, removal_begun}
use Rattle.sh_expand_parts.specs.Tildes.{literal_begun}
use Rattle.sh_expand_parts.specs.declared.context.Context.TheVariants.{QuotedSingle}
use Rattle.sh_expand_parts.specs.declared.closing.Purpose.TheVariants as purpose
use Rattle.sh_expand.specs.declared.place.Place.{Place}
use Rattle.sh_expand.specs.Expansion.{State, adds, asks, begins, begins_alone, enters, is_end}
use Rattle.sh_expand.specs.Parts.{parts_of, pieces, run_part}

pub record PartLaws : Type 0 where
  -- bytes of the word, a tilde prefix among them
  pub literal : (t : List ℕ) (at : Place) (s : State) → run_part (part.Literal t) at s ≡ adds (literal_begun at.context s.env at.first at.last t) s
  -- \b
  pub escaped : (b : ℕ) (at : Place) (s : State) → run_part (part.Escaped b) at s ≡ adds (plain (item.Quoted b ∷ [])) s
  -- 't'
  pub single_quoted : (t : List ℕ) (at : Place) (s : State) → run_part (part.SingleQuoted t) at s ≡ adds (plain (field_items t)) s
  -- "w"
  pub double_quoted : (w : Parts) (at : Place) (s : State) → run_part (part.DoubleQuoted w) at s ≡ enters purpose.Quotes (inside_quotes at.context) (pieces (parts_of w)) s
  -- $p
  pub parameter : (p : Parameter) (at : Place) (s : State) → run_part (part.Parameter p) at s ≡ begins_alone (parameter_begun at.context s.env p) s
  -- ${#p}
  pub length : (p : Parameter) (at : Place) (s : State) → run_part (part.Length p) at s ≡ begins_alone (length_begun at.context s.env p) s
  -- ${p-w} and the like
  pub conditional : (p : Parameter) (a : Absence) (x : ConditionalAction) (w : Parts) (at : Place) (s : State) → run_part (part.Conditional p a x w) at s ≡ begins (conditional_begun at.context s.env p a x (is_end (pieces (parts_of w)))) (pieces (parts_of w)) s
  -- ${p%w} and the like
  pub removal : (p : Parameter) (a : Affix) (x : Extent) (w : Parts) (at : Place) (s : State) → run_part (part.Removal p a x w) at s ≡ begins (removal_begun at.context s.env p a x) (pieces (parts_of w)) s
  -- $(..)
  pub substitution : (program : CompoundList) (at : Place) (s : State) → run_part (part.Substitution program) at s ≡ asks at.context (Some program) s
  -- the same in backquotes
  pub backquoted : (program : CompoundList) (at : Place) (s : State) → run_part (part.Backquoted program) at s ≡ asks at.context (Some program) s
  -- $((w))
  pub arithmetic : (w : Parts) (at : Place) (s : State) → run_part (part.Arithmetic w) at s ≡ enters (purpose.Compute at.context) QuotedSingle (pieces (parts_of w)) s
