-- Why no token is found where the tokens of a text break off (XCU 2.3). What is there isn't finished and so
-- is no token yet. The only fault that is told of it is that it opens a level too many.
use Rattle.std.specs.Prelude.{ℕ, ◌+◌, true, List, drop, Option, Some, None}
use Rattle.sh_token.specs.FirstToken.{Found, Unfinished, DeepAt}
use Rattle.sh_parse_documents.specs.Waiting.{Waiting}
use Rattle.sh_parse_documents.specs.Items.{FirstItem, FoundItem, NoItem, first_item}
use Rattle.sh_parse_words.specs.declared.fault.PartFault.{PartFault}
use Rattle.sh_parse_words.specs.declared.fault.PartFault.TheVariants as fault

-- the fault that is told, by the first item of the bytes from `at` on
abbrev pub told_of : ℕ → FirstItem → Option PartFault
told_of at (NoItem Unfinished) = None
told_of at (NoItem (DeepAt place)) = Some (fault.TooDeep (at + place))
told_of at (NoItem (Found kind start stop)) = None
told_of at (FoundItem kind start stop «end») = None

-- the fault at a place where so many levels may open and `w` is awaited; None where only the end of the text
-- comes too early
unfoldable pub cut_fault : ℕ → List ℕ → Waiting → ℕ → Option PartFault
cut_fault left text w at = told_of at (first_item true left w (drop at text))
