-- The table of the arithmetic grammar passes: one token of lookahead decides.
use Rattle.std.proofs.Common.{[], ◌∷◌, refl, subst}
use Rattle.sh_grammar.specs.declared.Action.TheVariants.{Expand, Shift}
use Rattle.sh_grammar.specs.Table.{weight_by}
use Rattle.sh_grammar.specs.Passes.{Witness, Passes, IsPredictive}
use Rattle.sh_arith_grammar.specs.Grammar.{arithmetic}
use Rattle.sh_arith_grammar.proofs.Tied.{arithmetic_is, tabled}

unfoldable witness : Witness
witness =
    record {
      follows = 274877906944 ∷ 352187318272 ∷ 352187318272 ∷ 352187318272 ∷ 352187318272 ∷ 352187318272 ∷ 356482285568 ∷ 356482285568 ∷ 356482287616 ∷ 356482287616 ∷ 356482288640 ∷ 356482288640 ∷ 358629772288 ∷ 358629772288 ∷ 359703514112 ∷ 359703514112 ∷ 360240385024 ∷ 360240385024 ∷ 360240385792 ∷ 360240385792 ∷ 360643039168 ∷ 360643039168 ∷ 360643039216 ∷ 360643039216 ∷ 360646184944 ∷ 360646184944 ∷ 360763625456 ∷ 360763625456 ∷ 352187318272 ∷ 360763625456 ∷ 352187318272 ∷ 356482288640 ∷ 360763625456 ∷ 360763625456 ∷ [];
      empties = 0 ∷ 0 ∷ 5 ∷ 6 ∷ 0 ∷ 8 ∷ 0 ∷ 11 ∷ 0 ∷ 14 ∷ 0 ∷ 17 ∷ 0 ∷ 20 ∷ 0 ∷ 23 ∷ 0 ∷ 26 ∷ 0 ∷ 29 ∷ 0 ∷ 32 ∷ 0 ∷ 35 ∷ 0 ∷ 38 ∷ 0 ∷ 0 ∷ 45 ∷ 46 ∷ 47 ∷ 48 ∷ 49 ∷ 50 ∷ [];
      samples =
          (Expand 1 ∷ Expand 3 ∷ Expand 42 ∷ Shift (record { class = 0; id = 0 }) ∷ Expand 6 ∷ Expand 38 ∷ Expand 35 ∷ Expand 32 ∷ Expand 29 ∷ Expand 26 ∷ Expand 23 ∷ Expand 20 ∷ Expand 17 ∷ Expand 14 ∷ Expand 11 ∷ Expand 8 ∷ []) ∷
          (Expand 3 ∷ Expand 42 ∷ Shift (record { class = 0; id = 0 }) ∷ Expand 6 ∷ Expand 38 ∷ Expand 35 ∷ Expand 32 ∷ Expand 29 ∷ Expand 26 ∷ Expand 23 ∷ Expand 20 ∷ Expand 17 ∷ Expand 14 ∷ Expand 11 ∷ Expand 8 ∷ []) ∷
          (Expand 5 ∷ Expand 46 ∷ Expand 6 ∷ Expand 38 ∷ Expand 35 ∷ Expand 32 ∷ Expand 29 ∷ Expand 26 ∷ Expand 23 ∷ Expand 20 ∷ Expand 17 ∷ Expand 14 ∷ Expand 11 ∷ Expand 8 ∷ []) ∷
          (Expand 6 ∷ Expand 38 ∷ Expand 35 ∷ Expand 32 ∷ Expand 29 ∷ Expand 26 ∷ Expand 23 ∷ Expand 20 ∷ Expand 17 ∷ Expand 14 ∷ Expand 11 ∷ Expand 8 ∷ []) ∷
          (Expand 7 ∷ Expand 10 ∷ Expand 13 ∷ Expand 16 ∷ Expand 19 ∷ Expand 22 ∷ Expand 25 ∷ Expand 28 ∷ Expand 31 ∷ Expand 34 ∷ Expand 37 ∷ Expand 40 ∷ Shift (record { class = 1; id = 0 }) ∷ Expand 46 ∷ Expand 38 ∷ Expand 35 ∷ Expand 32 ∷ Expand 29 ∷ Expand 26 ∷ Expand 23 ∷ Expand 20 ∷ Expand 17 ∷ Expand 14 ∷ Expand 11 ∷ Expand 8 ∷ []) ∷
          (Expand 8 ∷ []) ∷
          (Expand 10 ∷ Expand 13 ∷ Expand 16 ∷ Expand 19 ∷ Expand 22 ∷ Expand 25 ∷ Expand 28 ∷ Expand 31 ∷ Expand 34 ∷ Expand 37 ∷ Expand 40 ∷ Shift (record { class = 1; id = 0 }) ∷ Expand 46 ∷ Expand 38 ∷ Expand 35 ∷ Expand 32 ∷ Expand 29 ∷ Expand 26 ∷ Expand 23 ∷ Expand 20 ∷ Expand 17 ∷ Expand 14 ∷ Expand 11 ∷ []) ∷
          (Expand 11 ∷ []) ∷
          (Expand 13 ∷ Expand 16 ∷ Expand 19 ∷ Expand 22 ∷ Expand 25 ∷ Expand 28 ∷ Expand 31 ∷ Expand 34 ∷ Expand 37 ∷ Expand 40 ∷ Shift (record { class = 1; id = 0 }) ∷ Expand 46 ∷ Expand 38 ∷ Expand 35 ∷ Expand 32 ∷ Expand 29 ∷ Expand 26 ∷ Expand 23 ∷ Expand 20 ∷ Expand 17 ∷ Expand 14 ∷ []) ∷
          (Expand 14 ∷ []) ∷
          (Expand 16 ∷ Expand 19 ∷ Expand 22 ∷ Expand 25 ∷ Expand 28 ∷ Expand 31 ∷ Expand 34 ∷ Expand 37 ∷ Expand 40 ∷ Shift (record { class = 1; id = 0 }) ∷ Expand 46 ∷ Expand 38 ∷ Expand 35 ∷ Expand 32 ∷ Expand 29 ∷ Expand 26 ∷ Expand 23 ∷ Expand 20 ∷ Expand 17 ∷ []) ∷
          (Expand 17 ∷ []) ∷
          (Expand 19 ∷ Expand 22 ∷ Expand 25 ∷ Expand 28 ∷ Expand 31 ∷ Expand 34 ∷ Expand 37 ∷ Expand 40 ∷ Shift (record { class = 1; id = 0 }) ∷ Expand 46 ∷ Expand 38 ∷ Expand 35 ∷ Expand 32 ∷ Expand 29 ∷ Expand 26 ∷ Expand 23 ∷ Expand 20 ∷ []) ∷
          (Expand 20 ∷ []) ∷
          (Expand 22 ∷ Expand 25 ∷ Expand 28 ∷ Expand 31 ∷ Expand 34 ∷ Expand 37 ∷ Expand 40 ∷ Shift (record { class = 1; id = 0 }) ∷ Expand 46 ∷ Expand 38 ∷ Expand 35 ∷ Expand 32 ∷ Expand 29 ∷ Expand 26 ∷ Expand 23 ∷ []) ∷
          (Expand 23 ∷ []) ∷
          (Expand 25 ∷ Expand 28 ∷ Expand 31 ∷ Expand 34 ∷ Expand 37 ∷ Expand 40 ∷ Shift (record { class = 1; id = 0 }) ∷ Expand 46 ∷ Expand 38 ∷ Expand 35 ∷ Expand 32 ∷ Expand 29 ∷ Expand 26 ∷ []) ∷
          (Expand 26 ∷ []) ∷
          (Expand 28 ∷ Expand 31 ∷ Expand 34 ∷ Expand 37 ∷ Expand 40 ∷ Shift (record { class = 1; id = 0 }) ∷ Expand 46 ∷ Expand 38 ∷ Expand 35 ∷ Expand 32 ∷ Expand 29 ∷ []) ∷
          (Expand 29 ∷ []) ∷
          (Expand 31 ∷ Expand 34 ∷ Expand 37 ∷ Expand 40 ∷ Shift (record { class = 1; id = 0 }) ∷ Expand 46 ∷ Expand 38 ∷ Expand 35 ∷ Expand 32 ∷ []) ∷
          (Expand 32 ∷ []) ∷
          (Expand 34 ∷ Expand 37 ∷ Expand 40 ∷ Shift (record { class = 1; id = 0 }) ∷ Expand 46 ∷ Expand 38 ∷ Expand 35 ∷ []) ∷
          (Expand 35 ∷ []) ∷
          (Expand 37 ∷ Expand 40 ∷ Shift (record { class = 1; id = 0 }) ∷ Expand 46 ∷ Expand 38 ∷ []) ∷
          (Expand 38 ∷ []) ∷
          (Expand 40 ∷ Shift (record { class = 1; id = 0 }) ∷ Expand 46 ∷ []) ∷
          (Expand 42 ∷ Shift (record { class = 0; id = 0 }) ∷ []) ∷
          (Expand 45 ∷ []) ∷
          (Expand 46 ∷ []) ∷
          (Expand 47 ∷ []) ∷
          (Expand 48 ∷ []) ∷
          (Expand 49 ∷ []) ∷
          (Expand 50 ∷ []) ∷
          [];
      safes = 549755813887 ∷ 549755813887 ∷ 549755813887 ∷ 549755813887 ∷ 549755813887 ∷ 549755813887 ∷ 549755813887 ∷ 549755813887 ∷ 549755813887 ∷ 549755813887 ∷ 549755813887 ∷ 549755813887 ∷ 549755813887 ∷ 549755813887 ∷ 549755813887 ∷ 549755813887 ∷ 549755813887 ∷ 549755813887 ∷ 549755813887 ∷ 549755813887 ∷ 549755813887 ∷ 549755813887 ∷ 549755813887 ∷ 549755813887 ∷ 549755813887 ∷ 549755813887 ∷ 549755813887 ∷ 549755813887 ∷ 549755813887 ∷ 549755813887 ∷ 549755813887 ∷ 549755813887 ∷ 549755813887 ∷ 549755813887 ∷ [];
      kinds = 0 ∷ 1 ∷ 20 ∷ 24 ∷ 20 ∷ 4 ∷ 27 ∷ 8 ∷ 29 ∷ 30 ∷ 31 ∷ 10 ∷ 11 ∷ 32 ∷ 34 ∷ 33 ∷ 35 ∷ 36 ∷ [];
    }

passes : Passes tabled witness
unfolding tabled witness weight_by
passes = record { rules = refl; names = refl; nullables = refl; safes = refl; start = refl; start_ends = refl }

pub arithmetic_predictive : IsPredictive arithmetic
arithmetic_predictive = subst IsPredictive arithmetic_is (witness, passes)
