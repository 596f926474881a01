use Rattle.std.proofs.Common.{ap, ◌∙◌, arith}
use Rattle.sh_parse_documents.specs.Documents.{documents}
use Rattle.sh_parse_documents.proofs.Cutting.{all_bodies}
use Rattle.sh_parse_documents.proofs.document.documents.Goals as goal

pub loop-delimiter-init : goal.loop-delimiter-init
loop-delimiter-init c =
    rw c.new-found.ensures.items (
      all_bodies c.args.due.now c.args.start c.between-bytes.result.now ∙ ap (documents c.args.due.now c.args.start) c.between-bytes.ensures.value,
      omega arith,
    )
