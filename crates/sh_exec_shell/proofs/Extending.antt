-- The terminal's bytes stay, or go on.
use Rattle.std.proofs.Common.{◌≡◌, ℕ, List, [], sym, ◌∙◌, append-nil}
use Rattle.sh_tty.specs.Terminal.{Extends}

pub unchanged : (old new : List ℕ) → new ≡ old → Extends old new
unchanged old new e = ([], e ∙ sym (append-nil old))
