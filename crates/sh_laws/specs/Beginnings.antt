-- Syntax that begins with an action wherever it is entered: each list of commands has one at least, other than the list of a command
-- substitution or of an item of a `case`. What is expanded in it has such commands in its substitutions.
use Rattle.std.specs.Prelude.{◌≡◌, List, [], ◌∷◌, Option, Some, None, Bool}
use Rattle.sh_exec_parts.specs.Simple.{Opened}
use Rattle.sh_expand.specs.Parts.{inside, parts_of, program_of}
use Rattle.sh_syntax.specs.declared.tree.AndOr.{AndOr}
use Rattle.sh_syntax.specs.declared.tree.CaseItem.{CaseItem}
use Rattle.sh_syntax.specs.declared.tree.Command.{Command}
use Rattle.sh_syntax.specs.declared.tree.Command.TheOpen as layer
use Rattle.sh_syntax.specs.declared.tree.Command.TheViews as view
use Rattle.sh_syntax.specs.declared.tree.Compound.{Compound}
use Rattle.sh_syntax.specs.declared.tree.CompoundForm.{CompoundForm}
use Rattle.sh_syntax.specs.declared.tree.CompoundList.{CompoundList}
use Rattle.sh_syntax.specs.declared.tree.Connected.{Connected}
use Rattle.sh_syntax.specs.declared.tree.ElseIf.{ElseIf}
use Rattle.sh_syntax.specs.declared.tree.ListItem.{ListItem}
use Rattle.sh_syntax.specs.declared.tree.LoopKind.{LoopKind}
use Rattle.sh_syntax.specs.declared.tree.Name.{Name}
use Rattle.sh_syntax.specs.declared.tree.Part.{Part}
use Rattle.sh_syntax.specs.declared.tree.Pipeline.{Pipeline}
use Rattle.sh_syntax.specs.declared.tree.Redirect.{Redirect}
use Rattle.sh_syntax.specs.declared.tree.SimpleItem.{SimpleItem}
use Rattle.sh_syntax.specs.declared.tree.Word.{Word}

-- ---- the parts of words that are expanded: of a here-document its body
abbrev pub word_parts : Word → List Part
word_parts word = parts_of (view.out-Word word).parts

abbrev pub target_parts : Opened layer.Target-F → List Part
target_parts (layer.Named operator word) = word_parts word
target_parts (layer.Here operator delimiter body) = parts_of body

abbrev pub redirect_parts : Redirect → List Part
redirect_parts redirect = target_parts (view.out-Target (view.out-Redirect redirect).target)

abbrev pub item_parts : Opened layer.SimpleItem-F → List Part
item_parts (layer.Assignment name value source) = parts_of value
item_parts (layer.Word word) = word_parts word
item_parts (layer.Redirect redirect) = redirect_parts redirect

abbrev pub parts_in_item : SimpleItem → List Part
parts_in_item item = item_parts (view.out-SimpleItem item)

mutual
  -- ---- lists (2.9.3)
  pub data ListBegins : CompoundList → Type 0 where
    begins_list : (x : CompoundList) (item : ListItem) (others : List ListItem) → (view.out-CompoundList x).items ≡ item ∷ others
        → ItemsBegin (item ∷ others) → ListBegins x

  pub data ItemsBegin : List ListItem → Type 0 where
    no_items : ItemsBegin []
    more_items : (item : ListItem) (others : List ListItem) → AndOrBegins (view.out-ListItem item).list → ItemsBegin others → ItemsBegin (item ∷ others)

  pub data AndOrBegins : AndOr → Type 0 where
    joined : (x : AndOr) → PipelineBegins (view.out-AndOr x).first → ConnectedBegin (view.out-AndOr x).rest → AndOrBegins x

  pub data ConnectedBegin : List Connected → Type 0 where
    no_more : ConnectedBegin []
    more_connected : (next : Connected) (others : List Connected) → PipelineBegins (view.out-Connected next).pipeline → ConnectedBegin others → ConnectedBegin (next ∷ others)

  -- ---- pipelines (2.9.2)
  pub data PipelineBegins : Pipeline → Type 0 where
    staged : (x : Pipeline) → CommandBegins (view.out-Pipeline x).first → CommandsBegin (view.out-Pipeline x).rest → PipelineBegins x

  pub data CommandsBegin : List Command → Type 0 where
    no_commands : CommandsBegin []
    more_commands : (command : Command) (others : List Command) → CommandBegins command → CommandsBegin others → CommandsBegin (command ∷ others)

  -- ---- commands (2.9.1, 2.9.4, 2.9.5)
  pub data CommandBegins : Command → Type 0 where
    by_words : (x : Command) (items : List SimpleItem) → view.out-Command x ≡ layer.Simple items → WordsBegin items → CommandBegins x
    by_form : (x : Command) (inner : Compound) → view.out-Command x ≡ layer.Compound inner → FormBegins (view.out-Compound inner).form
        → RedirectsBegin (view.out-Compound inner).redirects → CommandBegins x
    by_definition : (x : Command) (name : Name) (body : Compound) → view.out-Command x ≡ layer.Function name body → FormBegins (view.out-Compound body).form
        → RedirectsBegin (view.out-Compound body).redirects → CommandBegins x

  pub data RedirectsBegin : List Redirect → Type 0 where
    no_redirects : RedirectsBegin []
    more_redirects : (redirect : Redirect) (others : List Redirect) → PartsBegin (redirect_parts redirect) → RedirectsBegin others → RedirectsBegin (redirect ∷ others)

  pub data FormBegins : CompoundForm → Type 0 where
    in_group : (x : CompoundForm) (body : CompoundList) → view.out-CompoundForm x ≡ layer.Group body → ListBegins body → FormBegins x
    in_subshell : (x : CompoundForm) (body : CompoundList) → view.out-CompoundForm x ≡ layer.Subshell body → ListBegins body → FormBegins x
    in_if : (x : CompoundForm) (condition body : CompoundList) (else_ifs : List ElseIf) (else_body : Option CompoundList)
        → view.out-CompoundForm x ≡ layer.If condition body else_ifs else_body
        → ListBegins condition → ListBegins body → ElseIfsBegin else_ifs → ElseBegins else_body → FormBegins x
    in_loop : (x : CompoundForm) (kind : LoopKind) (condition body : CompoundList) → view.out-CompoundForm x ≡ layer.Loop kind condition body
        → ListBegins condition → ListBegins body → FormBegins x
    in_for : (x : CompoundForm) (name : Name) (words : List Word) (body : CompoundList) → view.out-CompoundForm x ≡ layer.For name words body
        → SeriesBegin words → ListBegins body → FormBegins x
    in_for_parameters : (x : CompoundForm) (name : Name) (is_separated : Bool) (body : CompoundList)
        → view.out-CompoundForm x ≡ layer.ForParameters name is_separated body → ListBegins body → FormBegins x
    in_case : (x : CompoundForm) (word : Word) (items : List CaseItem) → view.out-CompoundForm x ≡ layer.Case word items
        → PartsBegin (word_parts word) → CaseItemsBegin items → FormBegins x

  pub data CaseItemsBegin : List CaseItem → Type 0 where
    no_case_items : CaseItemsBegin []
    more_case_items : (item : CaseItem) (others : List CaseItem) → SeriesBegin ((view.out-CaseItem item).pattern ∷ (view.out-CaseItem item).more_patterns)
        → ItemsBegin (view.out-CompoundList (view.out-CaseItem item).body).items → CaseItemsBegin others → CaseItemsBegin (item ∷ others)

  pub data ElseIfsBegin : List ElseIf → Type 0 where
    no_else_ifs : ElseIfsBegin []
    more_else_ifs : (next : ElseIf) (others : List ElseIf) → ListBegins (view.out-ElseIf next).condition → ListBegins (view.out-ElseIf next).body
        → ElseIfsBegin others → ElseIfsBegin (next ∷ others)

  pub data ElseBegins : Option CompoundList → Type 0 where
    no_else : ElseBegins None
    with_else : (body : CompoundList) → ListBegins body → ElseBegins (Some body)

  -- ---- words: the items of a simple command, and the words of a `for` or the patterns of a `case`
  pub data WordsBegin : List SimpleItem → Type 0 where
    no_words : WordsBegin []
    more_words : (item : SimpleItem) (others : List SimpleItem) → PartsBegin (parts_in_item item) → WordsBegin others → WordsBegin (item ∷ others)

  pub data SeriesBegin : List Word → Type 0 where
    no_series : SeriesBegin []
    more_series : (word : Word) (others : List Word) → PartsBegin (word_parts word) → SeriesBegin others → SeriesBegin (word ∷ others)

  pub data PartsBegin : List Part → Type 0 where
    no_parts : PartsBegin []
    more_parts : (part : Part) (others : List Part) → PartsBegin (inside (view.out-Part part)) → ProgramBegins (program_of (view.out-Part part))
        → PartsBegin others → PartsBegin (part ∷ others)

  -- ---- the program of a command substitution (2.6.3), which may have no command
  pub data ProgramBegins : Option CompoundList → Type 0 where
    no_program : ProgramBegins None
    of_program : (x : CompoundList) → ItemsBegin (view.out-CompoundList x).items → ProgramBegins (Some x)
