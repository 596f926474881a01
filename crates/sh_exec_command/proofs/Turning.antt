-- A turn of assignments goes on behind each that is done.
use Rattle.std.proofs.Common.{◌≡◌, ◌<◌, ℕ, List, ◌∷◌, Bool, true, false, Option, None, length, arith, if◌then◌else◌, refl, sym, ap, subst, ◌∙◌}
use Rattle.sh_exec_parts.specs.Messages.{read_only}
use Rattle.sh_exec_parts.specs.declared.simple.Assignment.{Assignment}
use Rattle.sh_builtin_environment.specs.Variables.{may_set}
use Rattle.sh_exec_command.specs.Assigning.{Step, assignments_turn, assigned_by, assigned_one, behind, with_saved_variable, fatal_step, value_start, value_step}
use Rattle.sh_exec_command.specs.Expanding.{Turn}
use Rattle.sh_exec_command.specs.declared.assigning.Assigned.{Assigned}
use Rattle.sh_exec_command.specs.declared.assigning.Assigned.TheVariants.{On, Over}
use Rattle.sh_exec_actions.specs.declared.action.ExpandedCommand.{ExpandedCommand}
use Rattle.sh_expand.specs.Answers.{Pending, fields_in}
use Rattle.sh_expand.specs.Expanding as expanding
use Rattle.sh_files.specs.Nodes.{FileMap}
use Rattle.sh_vars.specs.Environment.{Environment}

-- where the turn isn't over, the command has these left
abbrev Leaves : List Assignment → Assigned → Type 0
Leaves others (On next) = next.assignments ≡ others
Leaves others (Over outcome) = Unit {0}

-- what follows an assignment
abbrev follows : FileMap → List Assignment → Step → Turn
follows files others s = behind s.environment s.outcome (λ env p. assignments_turn files others env p None)

valued_leaves : (b : Bool) (p : ExpandedCommand) (env after : Environment) (name text : List ℕ) (s : Step)
    → s ≡ (if b then record { environment = after; outcome = On (with_saved_variable p env name) } else fatal_step p env text) → Leaves p.assignments s.outcome
valued_leaves true p env after name text s e = subst (λ (t : Step). Leaves p.assignments t.outcome) (sym e) refl
valued_leaves false p env after name text s e = subst (λ (t : Step). Leaves p.assignments t.outcome) (sym e) tt

by_leaves : (p : ExpandedCommand) (a : Assignment) (pending : Pending) (r : expanding.Result) → Leaves p.assignments (assigned_by p a pending r).outcome
unfolding value_step
by_leaves p a pending (expanding.Need program env) = tt
by_leaves p a pending (expanding.Fields fields env) = valued_leaves (may_set env a.name) p env _ a.name (read_only a.name) _ refl
by_leaves p a pending (expanding.Stops fault env) = tt

one_leaves : (files : FileMap) (env : Environment) (p : ExpandedCommand) (a : Assignment) (pending : Option Pending) → Leaves p.assignments (assigned_one files env p a pending).outcome
unfolding assigned_one
one_leaves files env p a pending = by_leaves p a (value_start env a pending) (fields_in files (value_start env a pending))

-- an assignment that is done leaves those behind it
pub on_leaves : (files : FileMap) (env : Environment) (p next : ExpandedCommand) (a : Assignment) (pending : Option Pending) (s : Step)
    → s ≡ assigned_one files env p a pending → s.outcome ≡ On next → next.assignments ≡ p.assignments
on_leaves files env p next a pending s e on = subst (Leaves p.assignments) (sym (ap (λ (t : Step). t.outcome) e) ∙ on) (one_leaves files env p a pending)

turned : (files : FileMap) (env : Environment) (p : ExpandedCommand) (a : Assignment) (others : List Assignment) (pending : Option Pending) (s : Step)
    → p.assignments ≡ a ∷ others → s ≡ assigned_one files env (record p { assignments = others }) a pending → follows files others s ≡ assignments_turn files p.assignments env p pending
turned files env p a others pending s first e = ap (follows files others) e ∙ ap (λ xs. assignments_turn files xs env p pending) (sym first)

pub goes_on : (files : FileMap) (env : Environment) (p next : ExpandedCommand) (a : Assignment) (others : List Assignment) (pending : Option Pending) (s : Step)
    → p.assignments ≡ a ∷ others → s ≡ assigned_one files env (record p { assignments = others }) a pending → s.outcome ≡ On next
    → assignments_turn files next.assignments s.environment next None ≡ assignments_turn files p.assignments env p pending
goes_on files env p next a others pending s first e on =
    ap (λ xs. assignments_turn files xs s.environment next None) (on_leaves files env (record p { assignments = others }) next a pending s e on)
    ∙ ap (λ o. behind s.environment o (λ env p. assignments_turn files others env p None)) (sym on)
    ∙ turned files env p a others pending s first e

pub falls : (others left : List Assignment) (p : ExpandedCommand) (a : Assignment) → p.assignments ≡ a ∷ others → left ≡ others → length left < length p.assignments
falls others left p a first e = let few = ap length e in let all = ap length first in omega arith
