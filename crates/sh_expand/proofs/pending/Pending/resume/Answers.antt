use Rattle.std.proofs.Common.{◌++◌, ◌-◌, ◌∙◌, ap, drop, length, subst, sym, take, take-append-drop}
use Rattle.std.proofs.lemmas.List.{take_rest}
use Rattle.std.proofs.lemmas.Result.{IfOk-weaker}
use Rattle.sh_expand.proofs.Waiting.{pending_of, resumed}
use Rattle.sh_expand.specs.Waiting.{IsWaiting}
use Rattle.sh_expand.proofs.pending.Pending.resume.Goals as goal

pub returns-clause-result : goal.returns-clause-result
returns-clause-result c =
    let it = c.into_inner-program.result in
    IfOk-weaker c.fields.result _ _ (λ p h. resumed c.args.files.now c.in_ok-reached.reached.step c.in_ok-reached.reached.expansion c.go_through.new.vars it.expansion.words.words it.start
    (take it.taken it.answers) (take (length c.as_slice.result.now - it.taken) (drop it.taken c.as_slice.result.now)) it.answers _ c.args.self p
    (c.in_ok-reached.ensures it.start (take it.taken it.answers) (subst (λ k. IsWaiting k.program k.expansion k.vars k.start (take k.taken k.answers)) (sym c.into_inner-program.ensures) c.self.invariant.0))
    (ap (λ l. take it.taken it.answers ++ l) (take_rest c.as_slice.result.now it.taken) ∙ ap (λ l. take it.taken it.answers ++ drop it.taken l) c.as_slice.ensures ∙ take-append-drop it.taken it.answers)
    (sym c.self.view_is ∙ ap pending_of (sym c.into_inner-program.ensures)) h) c.fields.ensures
