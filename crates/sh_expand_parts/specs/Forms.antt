-- What the beginning of a form gives (XCU 2.6.2): items, a word inside it that is expanded first, or a fault.
use Rattle.std.specs.Prelude.{ℕ, List, [], ◌∷◌, ◌&&◌, Bool, true, false, if◌then◌else◌, None, decimal, length}
use Rattle.sh_vars.specs.Environment.{Environment}
use Rattle.sh_syntax.specs.declared.tree.Parameter.{Parameter}
use Rattle.sh_syntax.specs.declared.tree.Parameter.TheVariants.{Variable, Positional, Special}
use Rattle.sh_syntax.specs.declared.tree.Absence.{Absence}
use Rattle.sh_syntax.specs.declared.tree.Absence.TheVariants as absence
use Rattle.sh_syntax.specs.declared.tree.Affix.{Affix}
use Rattle.sh_syntax.specs.declared.tree.Extent.{Extent}
use Rattle.sh_syntax.specs.declared.tree.ConditionalAction.{ConditionalAction}
use Rattle.sh_syntax.specs.declared.tree.ConditionalAction.TheVariants as action
use Rattle.sh_expand_parts.specs.Contexts.{inside_default, inside_text}
use Rattle.sh_expand_parts.specs.Drafts.{joiner, nothing, plain, value_draft, text_items}
use Rattle.sh_expand_parts.specs.Values.{name_of, value_in}
use Rattle.sh_expand_parts.specs.declared.forms.Begun.{Begun}
use Rattle.sh_expand_parts.specs.declared.forms.Begun.TheVariants.{Adds, Enters, Fails}
use Rattle.sh_expand_parts.specs.declared.closing.Purpose.TheVariants as purpose
use Rattle.sh_expand_parts.specs.declared.context.Context.{Context}
use Rattle.sh_expand_parts.specs.declared.context.Context.TheVariants as context
use Rattle.sh_expand_parts.specs.declared.fault.Fault.TheVariants as fault
use Rattle.sh_expand_parts.specs.declared.value.Value.{Value}
use Rattle.sh_expand_parts.specs.declared.value.Value.TheVariants as value

abbrev pub is_empty : List ℕ → Bool
is_empty [] = true
is_empty (b ∷ bs) = false

abbrev pub is_unset : Value → Bool
is_unset value.Unset = true
is_unset (value.Scalar text) = false
is_unset (value.Each texts) = false
is_unset (value.Joined texts) = false

-- several parameters are null where there are none, or one that is empty
abbrev pub are_null : List (List ℕ) → Bool
are_null [] = true
are_null (t ∷ []) = is_empty t
are_null (t ∷ u ∷ us) = false

abbrev pub is_null : Value → Bool
is_null value.Unset = true
is_null (value.Scalar text) = is_empty text
is_null (value.Each texts) = are_null texts
is_null (value.Joined texts) = are_null texts

-- the test of a form without a colon (`Unset`), and of a form with one (`UnsetOrNull`)
abbrev pub is_absent : Absence → Value → Bool
is_absent absence.Unset v = is_unset v
is_absent absence.UnsetOrNull v = is_null v

-- a fault under `set -u` where the parameter isn't set
abbrev pub or_unset_fault : Environment → Parameter → Begun → Begun
or_unset_fault env p begun =
    if is_unset (value_in env p) && env.options.no_unset then Fails (fault.Unset (name_of p) None) else begun

abbrev pub value_begun : Context → Environment → Parameter → Begun
value_begun c env p = Adds (value_draft c (joiner env) (value_in env p))

-- `$p`
abbrev pub parameter_begun : Context → Environment → Parameter → Begun
parameter_begun c env p = or_unset_fault env p (value_begun c env p)

abbrev pub number_begun : Context → ℕ → Begun
number_begun c n = Adds (plain (text_items c (decimal n)))

abbrev pub value_length_begun : Context → Value → Begun
value_length_begun c value.Unset = number_begun c 0
value_length_begun c (value.Scalar text) = number_begun c (length text)
value_length_begun c (value.Each texts) = Fails fault.BadSubstitution
value_length_begun c (value.Joined texts) = Fails fault.BadSubstitution

-- `${#p}`
abbrev pub length_begun : Context → Environment → Parameter → Begun
length_begun c env p = or_unset_fault env p (value_length_begun c (value_in env p))

-- `${p%w}` and the like: the pattern is expanded first
abbrev pub removal_begun : Context → Environment → Parameter → Affix → Extent → Begun
removal_begun c env p affix extent = or_unset_fault env p (Enters (purpose.Remove (value_in env p) affix extent c) context.Single)

-- `${p=w}`: only a variable may be assigned
abbrev pub assignment_begun : Context → Environment → (absent : Bool) → Parameter → Begun
assignment_begun c env absent (Variable name) =
    if absent then Enters (purpose.Assign name c) (inside_text c) else value_begun c env (Variable name)
assignment_begun c env absent (Positional n) = Fails fault.BadSubstitution
assignment_begun c env absent (Special p) = Fails fault.BadSubstitution

-- `${p?w}`: without a word there is no message
abbrev pub error_begun : Context → Parameter → (no_word : Bool) → Begun
error_begun c p true = Fails (fault.Unset (name_of p) None)
error_begun c p false = Enters (purpose.Report (name_of p)) (inside_text c)

abbrev pub action_begun : Context → Environment → Parameter → (absent : Bool) → ConditionalAction → (no_word : Bool) → Begun
action_begun c env p absent action.Default no_word =
    if absent then Enters purpose.Default (inside_default c) else value_begun c env p
action_begun c env p absent action.Assign no_word = assignment_begun c env absent p
action_begun c env p absent action.Error no_word = if absent then error_begun c p no_word else value_begun c env p
action_begun c env p absent action.Alternative no_word =
    if absent then Adds nothing else Enters purpose.Default (inside_default c)

-- `${p-w}` and the like; `no_word` says whether the word has no part
abbrev pub conditional_begun : Context → Environment → Parameter → Absence → ConditionalAction → (no_word : Bool) → Begun
conditional_begun c env p a action no_word = action_begun c env p (is_absent a (value_in env p)) action no_word
