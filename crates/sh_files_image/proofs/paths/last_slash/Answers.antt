use Rattle.std.proofs.Common.{◌∙◌, arith}
use Rattle.sh_files_image.proofs.Slashes.{ends_here, ends_before}
use Rattle.sh_files_image.proofs.paths.last_slash.Goals as goal

pub returns-then-byte-eq47-clause-place : goal.returns-then-byte-eq47-clause-place
returns-then-byte-eq47-clause-place c =
    ends_here c.in-Some.prefix.now c.bytes.rest.now c.in-Some.byte.now c.in-Some.ensures.cases.0 c.if-byte-eq47.true ∙ c.bytes.invariant.0

pub bytes-preserved : goal.bytes-preserved
bytes-preserved c =
    let e = ends_before c.in-Some.prefix.now c.bytes.rest.now c.in-Some.byte.now c.in-Some.ensures.cases.0 c.if-byte-eq47.false in
    (e.0 ∙ c.bytes.invariant.0, omega (arith, e.1, c.bytes.invariant.1))
