-- Pieces that have begun.
use Rattle.std.specs.Prelude.{Bool, true, false}
use Rattle.sh_token_pieces.specs.declared.pending.Pending.{Pending}

-- whether a backslash is a byte like any other there
abbrev pub is_raw : Pending → Bool
is_raw Pending.Nothing = false
is_raw Pending.Dollar = false
is_raw Pending.DollarParenthesis = false
is_raw Pending.Name = false
is_raw (Pending.Head h) = false
is_raw Pending.Single = true
is_raw Pending.Backquotes = true
is_raw Pending.BackquotesEscape = true
is_raw Pending.Parenthesis = false
is_raw (Pending.Operator o) = false
is_raw Pending.Comment = true
is_raw (Pending.Body l n j) = true

-- no token has begun
abbrev pub is_gap_pending : Pending → Bool
is_gap_pending Pending.Nothing = true
is_gap_pending Pending.Comment = true
is_gap_pending Pending.Dollar = false
is_gap_pending Pending.DollarParenthesis = false
is_gap_pending Pending.Name = false
is_gap_pending (Pending.Head h) = false
is_gap_pending Pending.Single = false
is_gap_pending Pending.Backquotes = false
is_gap_pending Pending.BackquotesEscape = false
is_gap_pending Pending.Parenthesis = false
is_gap_pending (Pending.Operator o) = false
is_gap_pending (Pending.Body l n j) = false
