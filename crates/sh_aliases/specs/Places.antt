-- Where the alias of a name is put, as a number of aliases before it; for the code.
use Rattle.std.specs.Prelude.{ℕ, List, Bool, false, not, length, position, slice_get, unwrap_or}
use Rattle.std.specs.Option.{option_map_or}
use Rattle.std.specs.Ordering.{is_lt}
use Rattle.sh_aliases.specs.Aliases.{AliasTable, has_name, name_order}
use Rattle.sh_aliases.specs.declared.alias.Alias.{Alias}

abbrev pub is_not_before : List ℕ → Alias → Bool
is_not_before name alias = not (is_lt (name_order alias.name name))

-- how many aliases come before a name
abbrev pub place_of : AliasTable → List ℕ → ℕ
place_of table name = unwrap_or (position (is_not_before name) table) (length table)

-- whether the alias at a place has this name
abbrev pub has_name_at : AliasTable → ℕ → List ℕ → Bool
has_name_at table place name = option_map_or (has_name name) (slice_get table place) false
