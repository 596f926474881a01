-- What a field gives, behind the fields before it.
use Rattle.std.proofs.Common.{◌≡◌, ℕ, List, [], ◌∷◌, ◌++◌, false, sym, ap, ◌∙◌}
use Rattle.std.specs.Prelude.{if◌then◌else◌}
use Rattle.sh_vars.specs.Environment.{Environment}
use Rattle.sh_vars.specs.declared.shell_options.Options.{Options}
use Rattle.sh_files.specs.Nodes.{FileMap}
use Rattle.sh_expand_fields.specs.declared.item.Item.{Item}
use Rattle.sh_expand_fields.specs.Found.{pathnames}
use Rattle.sh_expand_fields.specs.Pathnames.{IsExpanded}
use Rattle.sh_expand_fields.specs.Text.{text_of}
use Rattle.sh_expand_fields.proofs.Finding.{only_expanded}
use Rattle.sh_expand.specs.Fields.{field_paths}

pub put_behind : (files : FileMap) (env : Environment) (directory : List ℕ) (options : Options) (field : List Item) (found old new : List (List ℕ))
    → options ≡ env.options → options.no_glob ≡ false → directory ≡ env.directory → IsExpanded files directory field found → new ≡ old ++ found
    → new ≡ old ++ field_paths files env field
put_behind files env directory options field found old new o g d e n =
    let b : env.options.no_glob ≡ false = ap (λ x. x.no_glob) (sym o) ∙ g in
    n ∙ ap (λ l. old ++ l) (only_expanded files directory field found e ∙ ap (λ x. pathnames files x field) d ∙ ap (λ x. if x then text_of field ∷ [] else pathnames files env.directory field) (sym b))
