-- A regular file and its bytes (XSH write).
use Rattle.std.specs.Prelude.{ℕ, ◌+◌, ◌-◌, ◌++◌, List, [], ◌∷◌, length, take, drop, replicate}
use Rattle.sh_files_image.specs.declared.node.Flags.{Flags}

pub record Regular : Type 0 where
  pub flags : Flags
  pub bytes : List ℕ

-- the bytes with NUL bytes after them up to this length
abbrev pub with_padding : List ℕ → ℕ → List ℕ
with_padding content end = content ++ replicate (end - length content) 0

-- the content after bytes are written at a place; a write of none changes nothing
abbrev pub content_after_write : List ℕ → ℕ → List ℕ → List ℕ
content_after_write content offset [] = content
content_after_write content offset (b ∷ bs) =
    let end = offset + length (b ∷ bs) in
    take offset (with_padding content end) ++ (b ∷ bs) ++ drop end content
