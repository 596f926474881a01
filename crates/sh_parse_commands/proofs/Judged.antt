-- Tokens and bodies read with a depth that is enough.
use Rattle.std.proofs.Common.{◌≡◌, ℕ, suc, ◌+◌, List, [], length, Result, subst, arith}
use Rattle.sh_token_pieces.specs.declared.here.Delimiter.{Delimiter}
use Rattle.std.specs.declared.vec.Vec.{Vec}
use Rattle.std.specs.declared.alloc.Global.{Global}
use Rattle.sh_syntax.specs.declared.tree.Parts.{Parts}
use Rattle.sh_parse_documents.specs.declared.item.Item.{Item}
use Rattle.sh_parse_words.specs.declared.fault.PartFault.{PartFault}
use Rattle.sh_parse_leaves.specs.Results.{Changes, GivesBodies}
use Rattle.sh_parse_commands.specs.Documents.{bodies_of}
use Rattle.sh_parse_commands.specs.Judging.{Judged}
use Rattle.sh_parse_commands.specs.Replacing.{with_token}
use Rattle.sh_parse_commands.specs.Programs.{CommandText, depth_of, inside_at, inside_of, outermost, read_text, reader_at, value_sizes}
use Rattle.sh_parse_commands.proofs.Deeper.{bodies_same}
use Rattle.sh_parse_commands.proofs.Nested.{near_whole, readers_agree, size_at_most, token_same}

-- one more than these
abbrev nested : CommandText → ℕ
nested c = 500 + length c.text + value_sizes c.aliases

pub judged : (c : CommandText) (depth : ℕ) (due : List Delimiter) (item : Item) (old new : Judged) (result : Result (Unit {0}) PartFault) → depth ≡ depth_of c.aliases (outermost c)
    → Changes result new (with_token c.aliases (inside_at c.aliases depth) (outermost c) due item old) → Changes result new (with_token c.aliases (inside_of c.aliases) (outermost c) due item old)
judged c depth due item old new result e h =
    subst (λ x. Changes result new x)
    (token_same c.aliases (inside_at c.aliases (suc (nested c))) (inside_of c.aliases) (outermost c)
    (near_whole c.aliases (nested c) (outermost c) (let k = size_at_most c.aliases (outermost c) in omega (k, arith))) due item old)
    (subst (λ d. Changes result new (with_token c.aliases (inside_at c.aliases d) (outermost c) due item old)) e h)

pub bodies : (c : CommandText) (depth : ℕ) (due : List Delimiter) (item : Item) (result : Result (Vec Parts Global) PartFault) → depth ≡ depth_of c.aliases (outermost c)
    → GivesBodies result (bodies_of (reader_at c.aliases [] depth) 500 c.text due item) → GivesBodies result (bodies_of (read_text c.aliases) 500 c.text due item)
bodies c depth due item result e h =
    subst (λ x. GivesBodies result x)
    (bodies_same 500 (length c.text) (reader_at c.aliases [] (suc (nested c))) (read_text c.aliases)
    (readers_agree c.aliases (inside_at c.aliases (suc (nested c))) (inside_of c.aliases) (outermost c)
    (near_whole c.aliases (nested c) (outermost c) (let k = size_at_most c.aliases (outermost c) in omega (k, arith))))
    c.text due item (omega arith))
    (subst (λ d. GivesBodies result (bodies_of (reader_at c.aliases [] d) 500 c.text due item)) e h)
