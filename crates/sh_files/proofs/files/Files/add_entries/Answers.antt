use Rattle.std.proofs.Common.{◌∙◌, sym, ap, arith}
use Rattle.sh_files.specs.Image.{entries}
use Rattle.sh_files.proofs.Entries.{next_line, no_line, refused_end}
use Rattle.sh_files.proofs.files.Files.add_entries.Goals as goal

pub returns-then-eq-clause-refused : goal.returns-then-eq-clause-refused
returns-then-eq-clause-refused c =
    refused_end c.check_end.result c.lines.self c.lines.rest.now (c.in-Some.line.now, c.in-Some.after.now) _ c.lines.invariant.same c.in-Some.ensures.parts (sym (rw c.as_slice.ensures at c.if-eq.ensures)) c.check_end.ensures.refused

pub lines-preserved : goal.lines-preserved
lines-preserved c =
    let shown = next_line c.lines.self c.add_entry.new.self c.lines.rest.now (c.in-Some.line.now, c.in-Some.after.now) c.in-Ok.used c.in-Some.ensures.parts (sym (rw c.as_slice.ensures at c.if-eq.ensures)) c.in-Ok.ensures.ok in
    record {
      same = c.lines.invariant.same ∙ shown ∙ ap (entries c.add_entry.new.self 0) (sym c.skip-rest.ensures.value);
      within = omega (arith, c.skip-rest.ensures.shorter, c.in-Some.ensures.shorter, c.lines.invariant.within);
    }

pub returns-clause-refused : goal.returns-clause-refused
returns-clause-refused c = λ _. c.lines.invariant.same ∙ no_line c.lines.self c.lines.rest.now c.in_default.ensures.parts
