use Rattle.std.proofs.Common.{refl, sym, subst, ◌≡◌, ℕ, List, [], true}
use Rattle.sh_stock.specs.Lines.{IsPart, contains}
use Rattle.sh_stock.proofs.LineMeanings.{contained-part, first-taken, lines-joined, lines-none, part-contained}
use Rattle.sh_stock.proofs.Statuses.{status-told}
use Rattle.sh_stock.proofs.laws.laws_of_lines.Goals as goal

of_part : (text line : List ℕ) → IsPart text line → contains text line ≡ true
of_part text line part =
    let P : List ℕ → Type 0 = λ xs. contains text xs ≡ true in
    subst P part.2 (part-contained text part.0 part.1)

pub returns : goal.returns
returns c =
    record {
      joined = λ bytes. lines-joined [] bytes;
      whole = λ bytes. (lines-none [] bytes refl).0;
      last = λ bytes. (lines-none [] bytes refl).1;
      first = λ n bytes. sym (first-taken n bytes);
      status = λ text bytes. status-told text bytes;
      part = λ text line. (λ h. contained-part text line h, λ h. of_part text line h);
    }
