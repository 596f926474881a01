-- A turn of `having`.
use Rattle.std.proofs.Common.{◌≡◌, ℕ, List, [], ◌∷◌, length, ◌==◌, false, refl}
use Rattle.sh_stock.specs.Lines.{kept_lines, unfinished_line}
use Rattle.sh_stock.specs.Programs.{having_goes_on, having_read}
use Rattle.sh_stock.specs.declared.program.Search.{Search}

-- where bytes came, having goes on with the lines that are whole by them
pub goes_on : (search : Search) (bytes text line kept : List ℕ) → (length bytes == 0) ≡ false → text ≡ search.text → line ≡ unfinished_line search.line bytes → kept ≡ kept_lines text search.line bytes → having_goes_on (record { text = search.text; line = line; found = search.found }) kept ≡ having_read search bytes
goes_on search [] text line kept some t l k = cc
goes_on search (byte ∷ bytes) text line kept some t l k = rw (k, l, t) refl
