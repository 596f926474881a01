use Rattle.std.proofs.Common.{◌∙◌, rules}
use Rattle.sh_expand_fields.specs.Text.{text_of}
use Rattle.sh_expand_fields.proofs.Reaching.{expanded}
use Rattle.sh_expand_fields.proofs.Sorting.{bytes, filled, itself}
use Rattle.sh_expand_fields.proofs.pathnames.expand_pathnames.Goals as goal

pub returns-then-not-is_empty : goal.returns-then-not-is_empty
returns-then-not-is_empty c =
    expanded c.args.files.now c.args.directory.now c.args.field.now c.deref.result.now (bytes c.in_ok-paths.paths.items) (bytes c.in_ok-paths.paths.items) (c.deref.ensures.value ∙ c.in_ok-pattern.ensures) c.in_ok-paths.ensures.rising c.in_ok-paths.ensures.found
    (filled c.in_ok-paths.paths.items (text_of c.args.field.now) (λ h. search rules))

pub returns : goal.returns
returns c =
    expanded c.args.files.now c.args.directory.now c.args.field.now c.deref.result.now (bytes c.in_ok-paths.paths.items) (bytes c.push.new.self.items) (c.deref.ensures.value ∙ c.in_ok-pattern.ensures) c.in_ok-paths.ensures.rising c.in_ok-paths.ensures.found
    (itself c.in_ok-paths.paths.items c.push.new.self.items _ (text_of c.args.field.now) (search rules) c.in_ok-push.ensures.items c.in_ok-text.ensures)
