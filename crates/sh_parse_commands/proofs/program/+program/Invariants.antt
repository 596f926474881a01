use Rattle.std.proofs.Common.{◌≡◌, ◌+◌, ◌-◌, ◌*◌, length}
use Rattle.sh_parse_words.specs.Building.{empty_building}
use Rattle.sh_parse_leaves.specs.Words.{with_pieces}
use Rattle.sh_parse_commands.specs.Documents.{with_documents}
use Rattle.sh_parse_commands.specs.Replacing.{origin}
use Rattle.sh_parse_commands.specs.Programs.{inside_at, reader_at}
use Rattle.sh_parse_commands.proofs.Replaced.{IsSameFrom}
use Rattle.sh_parse_commands.proofs.program.+program.Given as goal

abbrev pub decreases-program : goal.decreases-program
decreases-program l = 16 * l.scope.depth

abbrev pub decreases-answer : goal.decreases-answer
decreases-answer l = 16 * l.scope.depth + 1

abbrev pub decreases-put_piece : goal.decreases-put_piece
decreases-put_piece l = 16 * l.scope.depth + 2

abbrev pub decreases-parts_in : goal.decreases-parts_in
decreases-parts_in l = 16 * l.scope.depth + 3

abbrev pub decreases-word_leaf : goal.decreases-word_leaf
decreases-word_leaf l = 16 * l.scope.depth + 4

abbrev pub decreases-expanded_body : goal.decreases-expanded_body
decreases-expanded_body l = 16 * l.scope.depth + 4

abbrev pub decreases-leaf_of : goal.decreases-leaf_of
decreases-leaf_of l = 16 * l.scope.depth + 5

abbrev pub decreases-document_parts : goal.decreases-document_parts
decreases-document_parts l = 16 * l.scope.depth + 5

abbrev pub decreases-bodies_within : goal.decreases-bodies_within
decreases-bodies_within l = 16 * l.scope.depth + 6

abbrev pub decreases-judge_within : goal.decreases-judge_within
decreases-judge_within l = 16 * l.scope.depth + 7

abbrev pub invariant-parts_in-loop-piece : goal.invariant-parts_in-loop-piece
invariant-parts_in-loop-piece l =
    with_pieces (reader_at l.scope.aliases.now l.scope.from.now l.scope.depth) l.text l.builder l.rest l.behind ≡ with_pieces (reader_at l.scope.aliases.now l.scope.from.now l.scope.depth) l.text (empty_building l.left) l.pieces l.bytes

abbrev pub decreases-parts_in-loop-piece : goal.decreases-parts_in-loop-piece
decreases-parts_in-loop-piece l = length l.rest

abbrev pub invariant-bodies_within-loop-document : goal.invariant-bodies_within-loop-document
invariant-bodies_within-loop-document l =
    with_documents (reader_at l.scope.aliases.now l.scope.from.now l.scope.depth) l.left l.bodies.items l.rest ≡ with_documents (reader_at l.scope.aliases.now l.scope.from.now l.scope.depth) l.left l.initial.bodies.items l.initial.rest

abbrev pub decreases-bodies_within-loop-document : goal.decreases-bodies_within-loop-document
decreases-bodies_within-loop-document l = length l.rest

abbrev pub decreases-judge_token : goal.decreases-judge_token
decreases-judge_token l = 16 * l.scope.depth + 8

abbrev pub decreases-judge_all : goal.decreases-judge_all
decreases-judge_all l = 16 * l.scope.depth + 9

abbrev pub decreases-judge_value : goal.decreases-judge_value
decreases-judge_value l = 16 * l.scope.depth

abbrev pub invariant-judge_all-loop-item : goal.invariant-judge_all-loop-item
invariant-judge_all-loop-item l =
    IsSameFrom l.scope.aliases.now (inside_at l.scope.aliases.now l.scope.depth) (origin l.scope.from.now l.left l.text) l.waiting l.rest l.prefix l.initial.rest l.initial.prefix

abbrev pub decreases-judge_all-loop-item : goal.decreases-judge_all-loop-item
decreases-judge_all-loop-item l = length l.rest
