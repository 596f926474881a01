use Rattle.std.proofs.Common.{sym}
use Rattle.sh_parse_commands.proofs.Shells.{no_tree, tree_found, some_tree, none_found}
use Rattle.sh_parse_commands.specs.Judging.{tree_where}
use Rattle.sh_parse_commands.proofs.prefix.Prefix.into_tree.Goals as goal

pub returns-in_default : goal.returns-in_default
returns-in_default c =
    no_tree c.self.inside.recognizer.grammar c.self.inside.recognizer.tokens c.self.inside.leaves.items c.self.inside.bodies.items c.self.inside.is_behind_blank c.args.self (sym c.self.view_is) c.self.invariant
    (rw c.in_default.is at c.in_ok-actions.ensures)

pub returns-in-Some-tree : goal.returns-in-Some-tree
returns-in-Some-tree c =
    let t = rw c.in-Some.is at c.in_ok-actions.ensures in
    some_tree c.in_ok-tree.tree c.in-Some-tree.tree (tree_where c.args.self) c.in-Some-tree.is (
    tree_found c.self.inside.recognizer.grammar c.self.inside.recognizer.tokens c.self.inside.leaves.items c.self.inside.bodies.items c.self.inside.is_behind_blank c.as_slice.result.now c.in_ok-leaves.leaves.items c.in_ok-tree.tree c.args.self (sym c.self.view_is) c.self.invariant
    (record { tree = t.0; is_tree = t.1; same = (let e = t.2 in cc) }) c.in_ok-tree.ensures.command c.in_ok-tree.ensures.substitution c.in_ok-leaves.ensures
    )

pub returns : goal.returns
returns c =
    let t = rw c.in-Some.is at c.in_ok-actions.ensures in
    none_found c.in_ok-tree.tree c.new.result (tree_where c.args.self) c.in-None.is c.new.ensures (
    tree_found c.self.inside.recognizer.grammar c.self.inside.recognizer.tokens c.self.inside.leaves.items c.self.inside.bodies.items c.self.inside.is_behind_blank c.as_slice.result.now c.in_ok-leaves.leaves.items c.in_ok-tree.tree c.args.self (sym c.self.view_is) c.self.invariant
    (record { tree = t.0; is_tree = t.1; same = (let e = t.2 in cc) }) c.in_ok-tree.ensures.command c.in_ok-tree.ensures.substitution c.in_ok-leaves.ensures
    )
