use Rattle.sh_expand.specs.FieldProgress.{texts_of}
use Rattle.sh_expand.proofs.Paths.{put_behind}
use Rattle.sh_expand.proofs.fields.push_paths.Goals as goal

pub returns : goal.returns
returns c = put_behind c.args.files.now c.args.vars.now c.directory.result.now c.options.result c.args.field.now (texts_of c.in_ok-paths.paths.items) c.args.fields.now c.push_texts.new.fields c.options.ensures c.if-options.false c.directory.ensures c.in_ok-paths.ensures c.in_ok-push_texts.ensures
