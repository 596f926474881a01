-- What is read begins with an action.
use Rattle.std.proofs.Common.{ℕ, zero, suc, ◌-◌, List, [], ◌∷◌, ◌++◌, length, take, drop, Option, Some, None, true, false, ◌&&◌}
use Rattle.std.specs.Prelude.{Ok, Err, nat_lt, if◌then◌else◌}
use Rattle.std.specs.List.{list_all}
use Rattle.std.specs.Option.{unwrap_or}
use Rattle.sh_base.specs.declared.span.Span.{Span}
use Rattle.sh_base.specs.Names.{is_name}
use Rattle.sh_grammar.specs.Derived.{tree_of}
use Rattle.sh_token_grammar.specs.Shell.{substitution}
use Rattle.sh_token_pieces.specs.TokenClasses.{is_byte, literal_prefix}
use Rattle.sh_token_pieces.specs.declared.here.Delimiter.{Delimiter}
use Rattle.sh_token_pieces.specs.declared.operator.Operator.{Operator}
use Rattle.sh_token_pieces.specs.declared.piece.Piece.{Piece}
use Rattle.sh_token.specs.declared.token.TokenKind.{TokenKind}
use Rattle.sh_parse_actions.specs.Forms.{compound_list}
use Rattle.sh_parse_actions.specs.declared.leaf.Leaf.{Leaf}
use Rattle.sh_parse_actions.specs.declared.leaf.Leaf.TheVariants as leaf
use Rattle.sh_parse_words.specs.Meaning.{syntax_of}
use Rattle.sh_parse_documents.specs.Documents.{place_at}
use Rattle.sh_parse_documents.specs.Stream.{AtEnd, Cut, Ending, items_of, waiting_behind}
use Rattle.sh_parse_documents.specs.Waiting.{Waiting, behind_token, due_at, nothing}
use Rattle.sh_parse_documents.specs.declared.document.Document.{Document}
use Rattle.sh_parse_documents.specs.declared.item.Item.{Item}
use Rattle.sh_parse_words.specs.Building.{parts_of, with_literal}
use Rattle.sh_parse_words.specs.declared.fault.PartFault.{PartFault}
use Rattle.sh_parse_words.specs.declared.fault.PartFault.TheVariants as fault
use Rattle.sh_parse_commands.specs.Documents.{bodies_of, document_parts, expanded_body, prefix_of, unless, with_documents}
use Rattle.sh_parse_leaves.specs.Inputs.{input_of}
use Rattle.sh_parse_commands.specs.Judging.{Judged, are_whole, bodies_behind, none_of, open_in, taken_item, takes, tree_by, with_body, with_bodies, with_input, with_item, with_leaf}
use Rattle.sh_parse_leaves.specs.Leaves.{assignment_leaf, items_of as parts_items, leaf_by, leaf_of, name_size, operator_leaf, plain_leaf, with_prefix, word_leaf, word_of}
use Rattle.sh_aliases.specs.declared.alias.Alias.{Alias}
use Rattle.sh_aliases.specs.Aliases.{AliasTable}
use Rattle.sh_parse_commands.specs.Replacing.{Inside, Origin, origin, alias_at, behind_value, value_origin, with_token, with_token_by, with_tokens, with_value}
use Rattle.sh_parse_commands.specs.Programs.{depth_of, ended_by, inside_at, inside_of, program_in, read_text}
use Rattle.sh_parse_leaves.specs.Results.{and_then, fault_moved}
use Rattle.sh_parse_leaves.specs.Sources.{behind_pieces, text_between}
use Rattle.sh_parse_leaves.specs.Words.{Reader, parts_in, within}
use Rattle.sh_syntax.specs.declared.tree.CompoundList.{CompoundList}
use Rattle.sh_syntax.specs.declared.tree.Parts.{Parts}
use Rattle.sh_syntax.specs.declared.tree.Part.{Part}
use Rattle.sh_syntax.specs.declared.tree.Part.TheVariants as part
use Rattle.sh_laws.specs.Beginnings.{PartsBegin, more_parts, no_items, no_parts}
use Rattle.sh_laws.proofs.BegunParts.{ReaderFits, Unless, and_then_fits, either, literal_fits, moved_fits, parts_fit, parts_in_fit, with_literal_fits}
use Rattle.sh_laws.proofs.BegunSyntax.{PartsFit, ProgramFits, whole_fits, word_fits}
use Rattle.sh_laws.proofs.BegunValues.{LeafFits, LeavesFit, Where, syntax_fits}

-- ---- what a token is to the tree
operator_fits : (o : Operator) → LeafFits (operator_leaf o)
operator_fits Operator.And = tt
operator_fits Operator.Semicolon = tt
operator_fits Operator.Pipe = tt
operator_fits Operator.Less = tt
operator_fits Operator.Great = tt
operator_fits Operator.LeftParenthesis = tt
operator_fits Operator.RightParenthesis = tt
operator_fits Operator.Newline = tt
operator_fits Operator.AndIf = tt
operator_fits Operator.OrIf = tt
operator_fits Operator.DoubleSemicolon = tt
operator_fits Operator.DoubleLess = parts_fit [] no_parts
operator_fits Operator.DoubleGreat = tt
operator_fits Operator.LessAnd = tt
operator_fits Operator.GreatAnd = tt
operator_fits Operator.LessGreat = tt
operator_fits Operator.DoubleLessDash = parts_fit [] no_parts
operator_fits Operator.Clobber = tt

-- ---- bytes before parts
literal_begins : (bytes : List ℕ) (ps : List Part) → PartsBegin ps → PartsBegin (part.Literal bytes ∷ ps)
literal_begins bytes ps b = let own = literal_fits bytes in more_parts (part.Literal bytes) ps own.0 own.1 b

behind_first : (p : Part) (ps : List Part) → PartsBegin (p ∷ ps) → PartsBegin ps
behind_first p ps (more_parts _ _ i g b) = b

prefix_begins : (bytes : List ℕ) (ps : List Part) → PartsBegin ps → PartsBegin (with_prefix bytes ps)
prefix_begins bytes [] b = literal_begins bytes [] b
prefix_begins bytes (part.Literal more ∷ ps) b = literal_begins (bytes ++ more) ps (behind_first (part.Literal more) ps b)
prefix_begins bytes (p ∷ ps) b = literal_begins bytes (p ∷ ps) b

prefixed_fits : (bytes : List ℕ) (value : Parts) → PartsFit value → PartsFit (parts_of (with_prefix bytes (parts_items value)))
prefixed_fits bytes value f = parts_fit (with_prefix bytes (parts_items value)) (prefix_begins bytes (parts_items value) f)

-- ---- the leaf of a token
module _ (read : Reader) (reads : ReaderFits read) (text : List ℕ) where
  plain_fits : (ms : List Piece) (prefix : List ℕ) (parts : Parts) (source : List ℕ) → PartsFit parts → LeafFits (plain_leaf ms prefix parts source)
  unfolding plain_leaf
  plain_fits ms prefix parts source f =
      elim (list_all is_byte ms && is_name prefix) as (λ b. LeafFits (if b then leaf.Name (word_of parts source) prefix else leaf.Word (word_of parts source))) [
        | true ↦ word_fits parts source f
        | false ↦ word_fits parts source f
      ]

  assigned_fits : (prefix : List ℕ) (size : ℕ) (value : Parts) (source : List ℕ) → PartsFit value → LeafFits (assignment_leaf prefix size value source)
  unfolding assignment_leaf
  assigned_fits prefix size value source f = (word_fits (parts_of (with_prefix (take (suc size) prefix) (parts_items value))) source (prefixed_fits (take (suc size) prefix) value f), f)

  leaf_by_fits : (left : ℕ) (ms : List Piece) (span : Span) (prefix : List ℕ) (o : Option ℕ) → Unless LeafFits (leaf_by (within read left text) ms span prefix o)
  leaf_by_fits left ms span prefix None =
      and_then_fits PartsFit LeafFits (parts_in read left text ms (drop span.start text)) (λ parts. Ok (plain_leaf ms prefix parts (text_between text span.start span.«end»)))
      (parts_in_fit read reads text left ms (drop span.start text)) (λ parts f. plain_fits ms prefix parts (text_between text span.start span.«end») f)
  leaf_by_fits left ms span prefix (Some size) =
      and_then_fits PartsFit LeafFits (parts_in read left text (drop (suc size) ms) (behind_pieces (take (suc size) ms) (drop span.start text)))
      (λ value. Ok (assignment_leaf prefix size value (text_between text span.start span.«end»)))
      (parts_in_fit read reads text left (drop (suc size) ms) (behind_pieces (take (suc size) ms) (drop span.start text)))
      (λ value f. assigned_fits prefix size value (text_between text span.start span.«end») f)

  leaf_of_fits : (left : ℕ) (kind : TokenKind) (span : Span) → Unless LeafFits (leaf_of read left text kind span)
  unfolding word_leaf
  leaf_of_fits left (TokenKind.Operator o) span = operator_fits o
  leaf_of_fits left TokenKind.Number span = tt
  leaf_of_fits left (TokenKind.Word ms) span = leaf_by_fits left ms span (literal_prefix ms) (name_size (literal_prefix ms))
  leaf_of_fits left TokenKind.End span = tt

-- ---- the bodies of here-documents
abbrev pub BodiesFit : List Parts → Type 0
BodiesFit [] = Unit {0}
BodiesFit (b ∷ bs) = PartsFit b × BodiesFit bs

pub bodies_then : (bs cs : List Parts) → BodiesFit bs → BodiesFit cs → BodiesFit (bs ++ cs)
bodies_then [] cs f g = g
bodies_then (b ∷ bs) cs f g = (f.0, bodies_then bs cs f.1 g)

leaves_then : (ls ms : List Leaf) → LeavesFit ls → LeavesFit ms → LeavesFit (ls ++ ms)
leaves_then [] ms f g = g
leaves_then (l ∷ ls) ms f g = (f.0, leaves_then ls ms f.1 g)

unless_fits : (o : Option PartFault) (parts : Parts) → PartsFit parts → Unless PartsFit (unless o parts)
unless_fits None parts f = f
unless_fits (Some e) parts f = tt

module _ (read : Reader) (reads : ReaderFits read) where
  expanded_fits : (left : ℕ) (bytes : List ℕ) → Unless PartsFit (expanded_body read left bytes)
  unfolding expanded_body
  expanded_fits left bytes =
      and_then_fits PartsFit PartsFit (parts_in read left bytes (prefix_of bytes).pieces bytes) (λ parts. unless (prefix_of bytes).fault parts)
      (parts_in_fit read reads bytes left (prefix_of bytes).pieces bytes) (λ parts f. unless_fits (prefix_of bytes).fault parts f)

  document_fits : (left : ℕ) (d : Document) → Unless PartsFit (document_parts read left d)
  unfolding document_parts
  document_fits left d =
      either (Unless PartsFit) d.is_quoted (Ok (parts_of (with_literal [] d.text))) (fault_moved (λ at. place_at d at) (expanded_body read left d.text))
      (parts_fit (with_literal [] d.text) (with_literal_fits [] d.text no_parts)) (moved_fits PartsFit (λ at. place_at d at) (expanded_body read left d.text) (expanded_fits left d.text))

  documents_fit : (left : ℕ) (bodies : List Parts) (ds : List Document) → BodiesFit bodies → Unless BodiesFit (with_documents read left bodies ds)
  documents_fit left bodies [] f = f
  documents_fit left bodies (d ∷ ds) f =
      and_then_fits PartsFit BodiesFit (document_parts read left d) (λ parts. with_documents read left (bodies ++ parts ∷ []) ds) (document_fits left d)
      (λ parts g. documents_fit left (bodies ++ parts ∷ []) ds (bodies_then bodies (parts ∷ []) f (g, tt)))

  pub bodies_of_fit : (left : ℕ) (text : List ℕ) (due : List Delimiter) (item : Item) → Unless BodiesFit (bodies_of read left text due item)
  unfolding bodies_of
  bodies_of_fit left text due item = documents_fit left [] _ tt

  -- ---- tokens
  abbrev pub JudgedFits : Judged → Type 0
  JudgedFits j = LeavesFit j.leaves × BodiesFit j.bodies

  with_leaf_fits : (left : ℕ) (text : List ℕ) (due : List Delimiter) (item : Item) (j : Judged) → JudgedFits j → Unless JudgedFits (with_leaf (within read left text) due item j)
  with_leaf_fits left text due item j f =
      and_then_fits LeafFits JudgedFits (leaf_of read left text item.token.kind item.token.span) _ (leaf_of_fits read reads text left item.token.kind item.token.span)
      (λ l g. and_then_fits BodiesFit JudgedFits (bodies_of read left text due item) (λ others. Ok (record j { leaves = j.leaves ++ l ∷ []; bodies = j.bodies ++ others; is_behind_blank = false })) (bodies_of_fit left text due item)
      (λ others h. (leaves_then j.leaves (l ∷ []) f.0 (g, tt), bodies_then j.bodies others f.1 h)))

  taken_item_fits : (left : ℕ) (text : List ℕ) (due : List Delimiter) (item : Item) (j : Judged) → JudgedFits j → Unless JudgedFits (taken_item (within read left text) due item j)
  taken_item_fits left text due item j f =
      either (Unless JudgedFits) (takes j) (if nat_lt left (open_in j) then Err (fault.TooDeep item.token.span.start) else with_leaf (within read (left - open_in j) text) due item j) (Err (fault.Refused item.token.span.start))
      (either (Unless JudgedFits) (nat_lt left (open_in j)) (Err (fault.TooDeep item.token.span.start)) (with_leaf (within read (left - open_in j) text) due item j) tt (with_leaf_fits (left - open_in j) text due item j f)) tt

  pub with_item_fits : (left : ℕ) (text : List ℕ) (due : List Delimiter) (item : Item) (j : Judged) → JudgedFits j → Unless JudgedFits (with_item (within read left text) due item j)
  unfolding with_item
  with_item_fits left text due item j f = taken_item_fits left text due item (with_input j (input_of item)) f

-- ---- the tree of tokens
body_fits : (l : Leaf) (bodies : List Parts) → LeafFits l → BodiesFit bodies → LeafFits (with_body l bodies)
body_fits (leaf.HereDocument operator body) [] f g = f
body_fits (leaf.HereDocument operator body) (b ∷ bodies) f g = g.0
body_fits l bodies f g = f

behind_fits : (l : Leaf) (bodies : List Parts) → BodiesFit bodies → BodiesFit (bodies_behind l bodies)
behind_fits (leaf.HereDocument operator body) [] g = tt
behind_fits (leaf.HereDocument operator body) (b ∷ bodies) g = g.1
behind_fits l bodies g = g

with_bodies_fit : (ls : List Leaf) (bodies : List Parts) → LeavesFit ls → BodiesFit bodies → LeavesFit (with_bodies ls bodies)
with_bodies_fit [] bodies f g = tt
with_bodies_fit (l ∷ ls) bodies f g = (body_fits l bodies f.0 g, with_bodies_fit ls (bodies_behind l bodies) f.1 (behind_fits l bodies g))

else_none : (o : Option CompoundList) → Where ProgramFits o → ProgramFits (unwrap_or o (compound_list []))
else_none None f = whole_fits [] no_items
else_none (Some x) f = f

pub tree_fits : (j : Judged) → LeavesFit j.leaves → BodiesFit j.bodies → ProgramFits (tree_by j)
unfolding tree_by
tree_fits j f g =
    else_none (syntax_of (tree_of j.grammar j.tokens) (with_bodies j.leaves j.bodies))
    (syntax_fits (tree_of j.grammar j.tokens) (with_bodies j.leaves j.bodies) (with_bodies_fit j.leaves j.bodies f g))

-- ---- texts
-- what tokens are to the tree, and their bodies
abbrev pub TokensFit : Judged → Type 0
TokensFit j = LeavesFit j.leaves × BodiesFit j.bodies

pub record InsideFits (inside : Inside) : Type 0 where
  pub read : (from : List (List ℕ)) → ReaderFits (inside.read from)
  pub value : (o : Origin) (items : List Item) (j : Judged) → TokensFit j → Unless TokensFit (inside.value o items j)

module _ (table : AliasTable) (inside : Inside) (fits : InsideFits inside) where
  value_fits : (o : Origin) (place : ℕ) (alias : Alias) (j : Judged) → TokensFit j → Unless TokensFit (with_value inside o place alias j)
  value_fits o place alias j f =
      moved_fits TokensFit (λ at. place) (and_then (inside.value (value_origin o alias) alias.items j) (λ k. Ok (behind_value alias k)))
      (and_then_fits TokensFit TokensFit (inside.value (value_origin o alias) alias.items j) (λ k. Ok (behind_value alias k)) (fits.value (value_origin o alias) alias.items j f) (λ k g. g))

  token_by_fits : (o : Origin) (due : List Delimiter) (item : Item) (j : Judged) → TokensFit j → (a : Option Alias) → Unless TokensFit (with_token_by inside o due item j a)
  token_by_fits o due item j f None = with_item_fits (inside.read o.from) (fits.read o.from) o.left o.text due item j f
  token_by_fits o due item j f (Some alias) = value_fits o item.token.span.start alias j f

  pub with_token_fits : (o : Origin) (due : List Delimiter) (item : Item) (j : Judged) → TokensFit j → Unless TokensFit (with_token table inside o due item j)
  unfolding with_token
  with_token_fits o due item j f = token_by_fits o due item j f (alias_at table o.from j item)

  with_tokens_fit : (o : Origin) (w : Waiting) (is : List Item) (j : Judged) → TokensFit j → Unless TokensFit (with_tokens table inside o w is j)
  with_tokens_fit o w [] j f = f
  with_tokens_fit o w (i ∷ is) j f =
      and_then_fits TokensFit TokensFit (with_token table inside o (due_at i.token.kind w) i j) (λ k. with_tokens table inside o (behind_token i.token.kind w) is k)
      (with_token_fits o (due_at i.token.kind w) i j f) (λ k g. with_tokens_fit o (behind_token i.token.kind w) is k g)

  ended_fits : (o : Origin) (w : Waiting) (j : Judged) (ending : Ending) → TokensFit j → Unless ProgramFits (ended_by o.left o.text w j ending)
  ended_fits o w j AtEnd f = either (Unless ProgramFits) (are_whole j) (Ok (tree_by j)) (Err (fault.Refused (length o.text))) (tree_fits j f.0 f.1) tt
  ended_fits o w j (Cut at) f = tt

  program_in_fits : (o : Origin) → Unless ProgramFits (program_in table inside o)
  unfolding program_in
  program_in_fits o =
      and_then_fits TokensFit ProgramFits (with_tokens table inside o nothing (items_of true o.text).items (none_of substitution))
      (λ j. ended_by o.left o.text (waiting_behind nothing (items_of true o.text).items) j (items_of true o.text).ending)
      (with_tokens_fit o nothing (items_of true o.text).items (none_of substitution) (tt, tt))
      (λ j g. ended_fits o (waiting_behind nothing (items_of true o.text).items) j (items_of true o.text).ending g)

inside_fits_at : (table : AliasTable) (depth : ℕ) → InsideFits (inside_at table depth)
inside_fits_at table zero = record { read = λ from left text. tt; value = λ o items j f. tt }
inside_fits_at table (suc depth) =
    let k = inside_fits_at table depth in
    record {
      read = λ from left text. program_in_fits table (inside_at table depth) k (origin from left text);
      value = λ o items j f. with_tokens_fit table (inside_at table depth) k o nothing items j f;
    }

pub inside_fits : (table : AliasTable) → InsideFits (inside_of table)
inside_fits table =
    record {
      read = λ from left text. (inside_fits_at table (depth_of table (origin from left text))).read from left text;
      value = λ o items j f. (inside_fits_at table (suc (depth_of table o))).value o items j f;
    }

pub read_text_fits : (table : AliasTable) → ReaderFits (read_text table)
read_text_fits table = (inside_fits table).read []
