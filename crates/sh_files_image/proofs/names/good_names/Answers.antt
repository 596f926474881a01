use Rattle.std.proofs.Common.{◌∙◌, sym}
use Rattle.sh_files_image.proofs.Slashes.{bad_name, good_name, only_good_name}
use Rattle.sh_files_image.proofs.names.good_names.Goals as goal

pub returns-then-not-is_good_name : goal.returns-then-not-is_good_name
returns-then-not-is_good_name c =
    bad_name c.names.rest.now (c.in-Some.name.now, c.in-Some.behind.now) c.in-Some.ensures.parts c.if-not-is_good_name.ensures ∙ sym c.names.invariant

pub names-preserved : goal.names-preserved
names-preserved c =
    c.names.invariant ∙ good_name c.names.rest.now (c.in-Some.name.now, c.in-Some.behind.now) c.in-Some.ensures.parts c.if-not-is_good_name.ensures

pub returns : goal.returns
returns c = c.is_good_name-2.ensures ∙ only_good_name c.names.rest.now c.in_default.ensures.parts ∙ sym c.names.invariant
