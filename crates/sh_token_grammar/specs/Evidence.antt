-- What the test of the shell's table computes with, as scripts/shell_tables.py finds it; only proofs need it.
use Rattle.std.specs.Prelude.{[], ◌∷◌}
use Rattle.sh_grammar.specs.declared.Action.TheVariants.{Expand, Shift}
use Rattle.sh_grammar.specs.Passes.{Witness}

unfoldable pub witness : Witness
witness =
    record {
      follows = 4294967296 ∷ 4294967296 ∷ 4294967296 ∷ 4368867779 ∷ 4368867779 ∷ 4368867791 ∷ 4368867791 ∷ 4368867807 ∷ 4368867807 ∷ 4368867807 ∷ 4368867807 ∷ 4368867807 ∷ 8589934559 ∷ 8589934304 ∷ 6791232 ∷ 4368867520 ∷ 4368867520 ∷ 4368869343 ∷ 262144 ∷ 4368869343 ∷ 4368869343 ∷ 4368869343 ∷ 67108864 ∷ 64 ∷ 67108864 ∷ 67108864 ∷ 67108864 ∷ 4294967296 ∷ 4294967296 ∷ 4368869343 ∷ [];
      empties = 0 ∷ 1 ∷ 4 ∷ 0 ∷ 7 ∷ 0 ∷ 12 ∷ 0 ∷ 20 ∷ 21 ∷ 25 ∷ 28 ∷ 0 ∷ 32 ∷ 0 ∷ 35 ∷ 39 ∷ 0 ∷ 47 ∷ 0 ∷ 0 ∷ 0 ∷ 59 ∷ 62 ∷ 64 ∷ 65 ∷ 67 ∷ 69 ∷ 70 ∷ 72 ∷ [];
      samples =
          (Expand 0 ∷ Expand 6 ∷ Expand 11 ∷ Expand 16 ∷ Shift (record { class = 28; id = 0 }) ∷ Expand 25 ∷ Expand 12 ∷ Expand 7 ∷ Expand 1 ∷ []) ∷
          (Expand 1 ∷ []) ∷
          (Expand 4 ∷ []) ∷
          (Expand 6 ∷ Expand 11 ∷ Expand 16 ∷ Shift (record { class = 28; id = 0 }) ∷ Expand 25 ∷ Expand 12 ∷ Expand 7 ∷ []) ∷
          (Expand 7 ∷ []) ∷
          (Expand 11 ∷ Expand 16 ∷ Shift (record { class = 28; id = 0 }) ∷ Expand 25 ∷ Expand 12 ∷ []) ∷
          (Expand 12 ∷ []) ∷
          (Expand 16 ∷ Shift (record { class = 28; id = 0 }) ∷ Expand 25 ∷ []) ∷
          (Expand 20 ∷ Expand 25 ∷ []) ∷
          (Expand 21 ∷ []) ∷
          (Expand 25 ∷ []) ∷
          (Expand 28 ∷ []) ∷
          (Expand 31 ∷ Shift (record { class = 9; id = 0 }) ∷ Shift (record { class = 11; id = 0 }) ∷ []) ∷
          (Expand 32 ∷ []) ∷
          (Expand 34 ∷ Expand 32 ∷ Expand 6 ∷ Expand 11 ∷ Expand 16 ∷ Shift (record { class = 28; id = 0 }) ∷ Expand 25 ∷ Expand 12 ∷ Expand 7 ∷ Expand 36 ∷ Shift (record { class = 0; id = 0 }) ∷ Expand 32 ∷ Expand 39 ∷ []) ∷
          (Expand 36 ∷ Shift (record { class = 0; id = 0 }) ∷ Expand 32 ∷ Expand 39 ∷ []) ∷
          (Expand 39 ∷ []) ∷
          (Expand 46 ∷ Shift (record { class = 25; id = 0 }) ∷ Shift (record { class = 11; id = 0 }) ∷ Expand 32 ∷ Shift (record { class = 24; id = 0 }) ∷ Expand 32 ∷ Expand 59 ∷ Shift (record { class = 26; id = 0 }) ∷ Expand 72 ∷ []) ∷
          (Expand 47 ∷ []) ∷
          (Expand 50 ∷ Shift (record { class = 21; id = 0 }) ∷ Expand 34 ∷ Expand 32 ∷ Expand 6 ∷ Expand 11 ∷ Expand 16 ∷ Shift (record { class = 28; id = 0 }) ∷ Expand 25 ∷ Expand 12 ∷ Expand 7 ∷ Expand 36 ∷ Shift (record { class = 0; id = 0 }) ∷ Expand 32 ∷ Expand 39 ∷ Shift (record { class = 22; id = 0 }) ∷ []) ∷
          (Expand 54 ∷ Shift (record { class = 21; id = 0 }) ∷ Expand 34 ∷ Expand 32 ∷ Expand 6 ∷ Expand 11 ∷ Expand 16 ∷ Shift (record { class = 28; id = 0 }) ∷ Expand 25 ∷ Expand 12 ∷ Expand 7 ∷ Expand 36 ∷ Shift (record { class = 0; id = 0 }) ∷ Expand 32 ∷ Expand 39 ∷ Shift (record { class = 22; id = 0 }) ∷ []) ∷
          (Expand 57 ∷ Shift (record { class = 0; id = 0 }) ∷ Expand 32 ∷ Shift (record { class = 21; id = 0 }) ∷ Expand 34 ∷ Expand 32 ∷ Expand 6 ∷ Expand 11 ∷ Expand 16 ∷ Shift (record { class = 28; id = 0 }) ∷ Expand 25 ∷ Expand 12 ∷ Expand 7 ∷ Expand 36 ∷ Shift (record { class = 0; id = 0 }) ∷ Expand 32 ∷ Expand 39 ∷ Shift (record { class = 22; id = 0 }) ∷ []) ∷
          (Expand 59 ∷ []) ∷
          (Expand 62 ∷ []) ∷
          (Expand 64 ∷ Expand 32 ∷ Expand 65 ∷ Expand 67 ∷ []) ∷
          (Expand 65 ∷ Expand 67 ∷ []) ∷
          (Expand 67 ∷ []) ∷
          (Expand 69 ∷ Expand 32 ∷ Expand 71 ∷ Expand 6 ∷ Expand 11 ∷ Expand 16 ∷ Shift (record { class = 28; id = 0 }) ∷ Expand 25 ∷ Expand 12 ∷ Expand 7 ∷ Expand 36 ∷ Shift (record { class = 0; id = 0 }) ∷ Expand 32 ∷ Expand 39 ∷ []) ∷
          (Expand 71 ∷ Expand 6 ∷ Expand 11 ∷ Expand 16 ∷ Shift (record { class = 28; id = 0 }) ∷ Expand 25 ∷ Expand 12 ∷ Expand 7 ∷ Expand 36 ∷ Shift (record { class = 0; id = 0 }) ∷ Expand 32 ∷ Expand 39 ∷ []) ∷
          (Expand 72 ∷ []) ∷
          [];
      safes = 4294969343 ∷ 4294969343 ∷ 4294969343 ∷ 4294969343 ∷ 4294969343 ∷ 4294969343 ∷ 4294969343 ∷ 4294969343 ∷ 4294969343 ∷ 4294969343 ∷ 4294969343 ∷ 8589934591 ∷ 8589934591 ∷ 8589934591 ∷ 8589934591 ∷ 8589934591 ∷ 8589934591 ∷ 8589934591 ∷ 8589934591 ∷ 8589934591 ∷ 8589934591 ∷ 8589934591 ∷ 8589934591 ∷ 8589934591 ∷ 8589934591 ∷ 8589934591 ∷ 8589934591 ∷ 8589934591 ∷ 8589934591 ∷ 8589934591 ∷ [];
      kinds = 0 ∷ 1 ∷ 2 ∷ 3 ∷ 4 ∷ 5 ∷ 6 ∷ 7 ∷ 8 ∷ 9 ∷ 10 ∷ 11 ∷ 12 ∷ 13 ∷ 14 ∷ 15 ∷ 16 ∷ 17 ∷ 18 ∷ 19 ∷ 20 ∷ 21 ∷ 22 ∷ 23 ∷ 24 ∷ 25 ∷ 26 ∷ 11 ∷ 27 ∷ 27 ∷ 28 ∷ 11 ∷ 29 ∷ 11 ∷ 19 ∷ [];
    }
