use Rattle.std.proofs.Common.{◌∙◌}
use Rattle.sh_files_image.proofs.Slashes.{long_name, short_name, only_name}
use Rattle.sh_files_image.proofs.paths.names_fit.Goals as goal

pub returns-then-name-gt-MAX_NAME : goal.returns-then-name-gt-MAX_NAME
returns-then-name-gt-MAX_NAME c =
    long_name c.names.rest.now (c.in-Some.name.now, c.in-Some.behind.now) c.in-Some.ensures.parts c.if-name-gt-MAX_NAME.true ∙ c.names.invariant

pub names-preserved : goal.names-preserved
names-preserved c =
    short_name c.names.rest.now (c.in-Some.name.now, c.in-Some.behind.now) c.in-Some.ensures.parts c.if-name-gt-MAX_NAME.false ∙ c.names.invariant

pub returns : goal.returns
returns c = only_name c.names.rest.now c.in_default.ensures.parts ∙ c.names.invariant
