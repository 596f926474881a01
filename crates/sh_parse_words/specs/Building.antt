-- The parts of a word, piece by piece.
use Rattle.std.specs.Prelude.{◌≡◌, ℕ, suc, ◌-◌, Bool, true, false, nat_eq, List, [], ◌∷◌, ◌++◌, Option, Some, None, Result, Ok, Err, if◌then◌else◌}
use Rattle.sh_token_pieces.specs.declared.piece.Piece.{Piece}
use Rattle.sh_token_pieces.specs.declared.piece.Piece.TheVariants as piece
use Rattle.sh_syntax.specs.declared.tree.Part.{Part}
use Rattle.sh_syntax.specs.declared.tree.Parts.{Parts}
use Rattle.sh_syntax.specs.declared.tree.Part.TheVariants as part
use Rattle.sh_syntax.specs.declared.tree.Command.TheViews as view
use Rattle.sh_syntax.specs.declared.tree.CompoundList.{CompoundList}
use Rattle.sh_syntax.specs.declared.tree.Parameter.{Parameter}
use Rattle.sh_syntax.specs.declared.tree.Parameter.TheVariants.{Variable}
use Rattle.sh_parse_words.specs.declared.parameter.Braces.{Braces}
use Rattle.sh_parse_words.specs.declared.parameter.Braces.TheVariants as braces
use Rattle.sh_parse_words.specs.declared.build.Form.{Form}
use Rattle.sh_parse_words.specs.declared.build.Form.TheVariants as form
use Rattle.sh_parse_words.specs.declared.build.Frame.{Frame}
use Rattle.sh_parse_words.specs.declared.build.Skip.{Skip}
use Rattle.sh_parse_words.specs.declared.build.Request.{Request}
use Rattle.sh_parse_words.specs.declared.build.Substitution.{Substitution}
use Rattle.sh_parse_words.specs.declared.build.Substitution.TheVariants as substitution
use Rattle.sh_parse_words.specs.declared.fault.PartFault.{PartFault}
use Rattle.sh_parse_words.specs.declared.fault.PartFault.TheVariants as fault
use Rattle.sh_parse_words.specs.Parameters.{braces_of, short}

-- parts that are being put together: the finished parts of the innermost open form; the literal bytes after
-- them; how many levels may still open; the open forms, the innermost last; and the command substitution
-- whose pieces are passed over
pub record Building : Type 0 where
  pub parts : List Part
  pub literal : List ℕ
  pub left : ℕ
  pub frames : List Frame
  pub skip : Option Skip

-- what a piece gives: the parts with it, and the commands that they wait for
pub record Taken : Type 0 where
  pub building : Building
  pub request : Option Request

abbrev pub Outcome : Type 0
Outcome = Result Taken PartFault

abbrev pub empty_building : ℕ → Building
empty_building left = record { parts = []; literal = []; left = left; frames = []; skip = None }

abbrev pub parts_of : List Part → Parts
parts_of items = view.roll-Parts (record { items = items })

abbrev pub with_literal : List Part → List ℕ → List Part
with_literal parts [] = parts
with_literal parts (b ∷ bs) = parts ++ part.Literal (b ∷ bs) ∷ []

-- the literal bytes become a part
abbrev pub with_literal_part : Building → Building
with_literal_part b = record b { parts = with_literal b.parts b.literal; literal = [] }

unfoldable pub with_part : Building → Part → Building
with_part b p = record b { parts = with_literal b.parts b.literal ++ p ∷ []; literal = [] }

unfoldable pub with_bytes : Building → List ℕ → Building
with_bytes b bytes = record b { literal = b.literal ++ bytes }

abbrev pub braces_part : Braces → Parts → Part
braces_part (braces.Value p) word = part.Parameter p
braces_part (braces.Length p) word = part.Length p
braces_part (braces.Conditional p absence action) word = part.Conditional p absence action word
braces_part (braces.Removal p affix extent) word = part.Removal p affix extent word

-- the part that a form makes of what is inside it
abbrev pub form_part : Form → Parts → Part
form_part form.Quotes word = part.DoubleQuoted word
form_part (form.Braces b) word = braces_part b word
form_part form.Arithmetic word = part.Arithmetic word

unfoldable pub opened : Building → Form → ℕ → Building
opened b f left = record {
  parts = [];
  literal = [];
  left = left;
  frames = b.frames ++ record { form = f; before = with_literal b.parts b.literal; left = b.left } ∷ [];
  skip = b.skip;
}

-- the last frame, and the frames before it
abbrev pub last_frame : List Frame → Option Frame
last_frame [] = None
last_frame (f ∷ []) = Some f
last_frame (f ∷ g ∷ fs) = last_frame (g ∷ fs)

abbrev pub other_frames : List Frame → List Frame
other_frames [] = []
other_frames (f ∷ []) = []
other_frames (f ∷ g ∷ fs) = f ∷ other_frames (g ∷ fs)

abbrev pub closed_by : Option Frame → Building → Building
closed_by None b = record b { frames = other_frames b.frames }
closed_by (Some f) b = record {
  parts = f.before ++ form_part f.form (parts_of (with_literal b.parts b.literal)) ∷ [];
  literal = [];
  left = f.left;
  frames = other_frames b.frames;
  skip = b.skip;
}

unfoldable pub with_form_part : Building → Building
with_form_part b = closed_by (last_frame b.frames) b

abbrev pub on : Building → Outcome
on b = Ok (record { building = b; request = None })

-- inside a command substitution the pieces are passed over, up to its end
abbrev pub skip_outcome : Building → Skip → ℕ → Outcome
skip_outcome b s here = Ok (record {
  building = record b { skip = None };
  request = Some (record { form = substitution.Commands; place = s.place; start = s.start; «end» = here; left = b.left - 1; is_too_deep = false });
})

abbrev pub skip_close : Building → Skip → ℕ → Outcome
skip_close b s here = if nat_eq s.depth 0 then skip_outcome b s here else on (record b { skip = Some (record s { depth = s.depth - 1 }) })

abbrev pub skipping : Building → Skip → Piece → ℕ → Outcome
skipping b s piece.CommandsOpen here = on (record b { skip = Some (record s { depth = suc s.depth }) })
skipping b s piece.CommandsClose here = skip_close b s here
skipping b s m here = on b

abbrev pub parameter_part : ℕ → Option Parameter → Part
parameter_part c None = part.Literal (36 ∷ c ∷ [])
parameter_part c (Some p) = part.Parameter p

-- `${`, `$((`, `$(` and backquotes open a level. A fault inside backquotes has the place of the opening
-- backquote, so their text is asked for also where they open a level too many
abbrev pub at_level : ℕ → ℕ → Outcome → Outcome
at_level left place outcome = if nat_eq left 0 then Err (fault.TooDeep place) else outcome

-- at one place a level too many is told rather than a bad substitution
abbrev pub open_braces : Building → ℕ → Option Braces → Outcome
open_braces b place None = at_level b.left place (Err (fault.BadSubstitution place))
open_braces b place (Some f) = at_level b.left place (on (opened b (form.Braces f) (b.left - 1)))

-- whether what is inside a form is in double quotes (XCU 2.2.3); around: whether the form is. The pattern of
-- a removal is read as outside of double quotes (XCU 2.6.2), and in arithmetic a `"` is no quote (XCU 2.6.4)
abbrev pub braces_quote : Braces → Bool → Bool
braces_quote (braces.Value p) around = around
braces_quote (braces.Length p) around = around
braces_quote (braces.Conditional p absence action) around = around
braces_quote (braces.Removal p affix extent) around = false

abbrev pub form_quotes : Form → Bool → Bool
form_quotes form.Quotes around = true
form_quotes (form.Braces b) around = braces_quote b around
form_quotes form.Arithmetic around = false

-- whether what is inside the innermost of these forms is in double quotes; around: whether the outermost form
-- is
abbrev pub in_quotes : Bool → List Frame → Bool
in_quotes around [] = around
in_quotes around (f ∷ fs) = in_quotes (form_quotes f.form around) fs

abbrev pub backquotes_by : Bool → Substitution
backquotes_by true = substitution.QuotedBackquotes
backquotes_by false = substitution.Backquotes

abbrev pub backquotes_request : Building → ℕ → ℕ → Request
backquotes_request b place behind =
    record {
      form = backquotes_by (in_quotes false b.frames);
      place = place;
      start = place;
      «end» = behind;
      left = b.left - 1;
      is_too_deep = nat_eq b.left 0;
    }

-- a piece that asks for nothing and opens no level
unfoldable pub plainly : Building → Piece → Building
plainly b (piece.Byte c) = with_bytes b (c ∷ [])
plainly b (piece.Escaped c) = with_part b (part.Escaped c)
plainly b (piece.Backslash c) = with_bytes b (92 ∷ c ∷ [])
plainly b (piece.SingleQuoted bytes) = with_part b (part.SingleQuoted bytes)
plainly b piece.DoubleQuotesOpen = opened b form.Quotes b.left
plainly b piece.DoubleQuotesClose = with_form_part b
plainly b piece.Dollar = with_bytes b (36 ∷ [])
plainly b (piece.Variable bytes) = with_part b (part.Parameter (Variable bytes))
plainly b (piece.Parameter c) = with_part b (parameter_part c (short c))
plainly b piece.BraceClose = with_form_part b
plainly b piece.ArithmeticClose = with_form_part b
plainly b m = b

-- a piece of the word itself, at `place`; the text after it begins at `behind`. `empty`: the next piece is a
-- `}`
abbrev pub taking : Building → Piece → Bool → ℕ → ℕ → Outcome
taking b (piece.BraceOpen head) empty place behind = open_braces b place (braces_of head empty)
taking b piece.ArithmeticOpen empty place behind = at_level b.left place (on (opened b form.Arithmetic (b.left - 1)))
taking b piece.CommandsOpen empty place behind =
    at_level b.left place (on (record b { skip = Some (record { depth = 0; place = place; start = behind }) }))
taking b (piece.Backquoted bytes) empty place behind = Ok (record { building = b; request = Some (backquotes_request b place behind) })
taking b m empty place behind = on (plainly b m)

abbrev pub take_by : Option Skip → Building → Piece → Bool → ℕ → ℕ → Outcome
take_by None b m empty place behind = taking b m empty place behind
take_by (Some s) b m empty place behind = skipping b s m place

unfoldable pub take_piece : Building → Piece → Bool → ℕ → ℕ → Outcome
take_piece b m empty place behind = take_by b.skip b m empty place behind

-- the part that the awaited commands become
abbrev pub program_part : Substitution → CompoundList → Part
program_part substitution.Commands c = part.Substitution c
program_part substitution.Backquotes c = part.Backquoted c
program_part substitution.QuotedBackquotes c = part.Backquoted c

unfoldable pub with_program : Building → Substitution → CompoundList → Building
with_program b s c = with_part b (program_part s c)

-- the parts, where no form is open any more
abbrev pub finished_by : List Frame → Option Skip → List Part → Option Parts
finished_by [] None parts = Some (parts_of parts)
finished_by [] (Some s) parts = None
finished_by (f ∷ fs) s parts = None

unfoldable pub whole_parts : Building → Option Parts
whole_parts b = finished_by b.frames b.skip (with_literal b.parts b.literal)

-- the answer and the value after the call are these, or memory was wanting
abbrev pub Takes : Result (Option Request) PartFault → Building → Outcome → Type 0
Takes (Ok request) new outcome = outcome ≡ Ok (record { building = new; request = request })
Takes (Err (fault.NoMemory _)) new outcome = Unit {0}
Takes (Err (fault.BadSubstitution place)) new outcome = outcome ≡ Err (fault.BadSubstitution place)
Takes (Err (fault.TooDeep place)) new outcome = outcome ≡ Err (fault.TooDeep place)
Takes (Err (fault.Refused place)) new outcome = outcome ≡ Err (fault.Refused place)
