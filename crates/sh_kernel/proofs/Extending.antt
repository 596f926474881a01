-- What a write leaves of the terminal's bytes.
use Rattle.std.proofs.Common.{◌≡◌, ◌++◌, ℕ, List, [], sym, ap, ◌∙◌, append-nil}
use Rattle.sh_tty.specs.Terminal.{TtyKept, Extends}

pub unchanged : (old new : TtyKept) → new ≡ old → Extends old.bytes new.bytes
unchanged old new e = ([], ap (λ t. t.bytes) e ∙ sym (append-nil old.bytes))

pub longer : (old new : TtyKept) (more : List ℕ) → new.bytes ≡ old.bytes ++ more → Extends old.bytes new.bytes
longer old new more e = (more, e)
