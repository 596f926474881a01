use Rattle.std.proofs.Common.{◌++◌, ◌∷◌, ◌∙◌, ap, sym}
use Rattle.sh_expand.proofs.Waiting.{answered_all, answered_enough, goes_on}
use Rattle.std.proofs.lemmas.List.{nil_from_length}
use Rattle.sh_expand.proofs.pending.go_through.Goals as goal

pub returns-in_default-step : goal.returns-in_default-step
returns-in_default-step c start given w =
    answered_enough c.args.files.now c.args.expansion.words.words start (given ++ c.args.answers.now) c.answers.step c.answers.expansion c.answers.vars c.answers.rest.now
    c.in_default-step.not-Need (c.answers.invariant start given w)

pub answers-preserved : goal.answers-preserved
answers-preserved c start given w =
    goes_on c.args.files.now c.args.expansion.words.words start (given ++ c.args.answers.now) c.answers.step c.in_ok-step.step c.in-Need.field-0
    c.answers.expansion c.resume.new.self c.answers.vars c.resume.new.vars c.as_slice.result.now c.answers.rest.now c.in-Some.others.now
    c.in-Need.is (c.in-Some.ensures.cases.0 ∙ ap (λ a. a ∷ c.in-Some.others.now) (sym c.as_slice.ensures)) c.in_ok-step.ensures.words
    (λ wanted before given w. c.in_ok-step.ensures.step wanted before given w) (c.answers.invariant start given w)

pub returns : goal.returns
returns c start given w =
    answered_all c.args.files.now c.args.expansion.words.words start (given ++ c.args.answers.now) c.answers.step c.answers.expansion c.answers.vars c.answers.rest.now
    (nil_from_length c.answers.rest.now c.in_default.ensures.cases) (c.answers.invariant start given w)
