-- What a command's turns leave holds only what begins with an action.
use Rattle.std.proofs.Common.{◌≡◌, ℕ, zero, suc, List, [], ◌∷◌, ◌++◌, length, map, Option, Some, None, Bool, true, false, ◌||◌, refl, sym, subst, option_map}
use Rattle.std.specs.Prelude.{Result, Ok, Err, if◌then◌else◌}
use Rattle.std.specs.List.{find, list_any}
use Rattle.std.specs.Option.{unwrap_or}
use Rattle.sh_expand.specs.Answers.{Fails, Needs, Pattern, Patterned, Pending, expansion_with, fields_in, pattern_from, pattern_of, pattern_with, resumption, words_after, words_with}
use Rattle.sh_builtin_environment.specs.Variables.{may_set}
use Rattle.sh_exec_command.specs.Assigning.{Step, assign_turn, assigned_by, assigned_one, assignments_turn, behind, text_of, value_start, value_step, value_wanted}
use Rattle.sh_exec_command.specs.Cases as cases
use Rattle.sh_exec_command.specs.Cases.{branch_of, branch_turn, branches_of, case_turn, next_branch, pattern_by, pattern_turn, single, tried, word_by, word_from}
use Rattle.sh_exec_command.specs.Expanding.{Turn, start_of, words_by, words_turn}
use Rattle.sh_exec_actions.specs.Preparing.{fatal, ahead, ahead_by, exec_role, final_move, first_move, first_place, forks, nameless, not_done, performed_by, prepared_of, command_role, role_behind, role_by, role_of, role_run}
use Rattle.sh_exec_command.specs.Redirects.{compound_role, redirected, redirects_by, redirects_turn, role_in, role_of_command}
use Rattle.sh_exec_command.specs.Reading.{answer_of, found_behind, found_by, input_by, input_found, next_command}
use Rattle.sh_exec_command.specs.declared.found.InputFound.{InputFound}
use Rattle.sh_exec_command.specs.declared.found.InputFound.TheVariants as input
use Rattle.sh_exec_command.specs.Series.{Given, give_by, give_turn, header_in, header_of, header_of_command, header_turn, series_by, series_from, series_turn, word_of_series}
use Rattle.sh_exec_actions.specs.ForLoops.{given_by, rest_of_series}
use Rattle.sh_exec_command.specs.declared.found.Found.{Found}
use Rattle.sh_exec_actions.specs.Statuses.{unexcused}
use Rattle.sh_exec_actions.specs.declared.status.CommandStatus.{CommandStatus}
use Rattle.sh_exec_actions.specs.declared.action.Active.{Active}
use Rattle.sh_exec_actions.specs.declared.action.Active.TheVariants.{Acting, Calling, Evaluating, Next, Done, Leaving}
use Rattle.sh_exec_actions.specs.declared.action.Expanded.{Expanded}
use Rattle.sh_exec_actions.specs.declared.action.Expanded.TheVariants as expanded
use Rattle.sh_exec_actions.specs.declared.action.Move.{Move}
use Rattle.sh_exec_actions.specs.declared.action.Move.TheVariants as move
use Rattle.sh_exec_actions.specs.declared.action.Action.TheVariants.{Forking}
use Rattle.sh_exec_actions.specs.declared.action.ExpandedCommand.{ExpandedCommand}
use Rattle.sh_exec_actions.specs.declared.action.Role.{Role}
use Rattle.sh_exec_actions.specs.declared.action.Role.TheVariants as role
use Rattle.sh_exec_actions.specs.declared.action.Case.{Case}
use Rattle.sh_exec_actions.specs.declared.action.CaseBranch.{CaseBranch}
use Rattle.sh_exec_actions.specs.declared.action.ForLoop.{ForLoop}
use Rattle.sh_exec_actions.specs.declared.action.ToExpand.TheVariants as wants
use Rattle.sh_exec_command.specs.declared.series.Round.{Round}
use Rattle.sh_exec_command.specs.declared.series.Round.TheVariants as round
use Rattle.sh_exec_parts.specs.Messages.{read_only}
use Rattle.sh_builtin_outcome.specs.Builtins.{builtin_of, is_named, is_special}
use Rattle.sh_builtin_outcome.specs.Invocations.{by_command, by_name}
use Rattle.sh_builtin_outcome.specs.declared.invocation.Invocation.{Invocation}
use Rattle.sh_builtin_outcome.specs.CommandWords.{behind_command}
use Rattle.sh_builtin_shell.specs.Functions.{Named, body_of, has_name}
use Rattle.sh_builtin_outcome.specs.declared.builtin.Builtin.{Builtin}
use Rattle.sh_builtin_outcome.specs.declared.builtin.Builtin.TheVariants.{Exec}
use Rattle.sh_builtin_environment.specs.Options.{Parsed, options_and_operands}
use Rattle.sh_exec_parts.specs.Simple.{Opened, assignment_in, assignments_of, before, compound_redirects, compound_redirects_in, is_redirect, is_word, items_in, items_of, redirect_wanted, redirects_of, to_assign, word_fields}
use Rattle.sh_exec_parts.specs.Wants.{wanted_of}
use Rattle.sh_exec_parts.specs.declared.redirection.Redirection.{Redirection}
use Rattle.sh_exec_parts.specs.declared.simple.Assignment.{Assignment}
use Rattle.sh_expand.specs.Expanding as expanding
use Rattle.sh_expand.specs.Expansion.{Outcome, Need, Done as Over, Stops}
use Rattle.sh_expand.specs.Parts.{expand}
use Rattle.sh_expand.specs.declared.wanted.Wanted.{Wanted}
use Rattle.sh_files.specs.Nodes.{FileMap}
use Rattle.sh_kernel_descriptors.specs.declared.fault.KernelFault.{KernelFault}
use Rattle.sh_aliases.specs.Aliases.{AliasTable}
use Rattle.sh_pattern.specs.Deciding.{is_match}
use Rattle.sh_pattern.specs.declared.pattern_byte.PatternByte.{PatternByte}
use Rattle.sh_parse.specs.Reading.{reading}
use Rattle.sh_parse.specs.declared.ParseFault.{ParseFault}
use Rattle.sh_parse.specs.declared.ParseFault.TheVariants as parse_fault
use Rattle.sh_parse.specs.declared.Reading.{Reading}
use Rattle.sh_parse.specs.declared.Reading.TheVariants.{Complete, Blank, More}
use Rattle.sh_syntax.specs.declared.tree.CaseItem.{CaseItem}
use Rattle.sh_syntax.specs.declared.tree.Command.{Command}
use Rattle.sh_syntax.specs.declared.tree.Command.TheOpen as layer
use Rattle.sh_syntax.specs.declared.tree.Command.TheViews as view
use Rattle.sh_syntax.specs.declared.tree.CompoundForm.{CompoundForm}
use Rattle.sh_syntax.specs.declared.tree.CompoundList.{CompoundList}
use Rattle.sh_syntax.specs.declared.tree.Redirect.{Redirect}
use Rattle.sh_syntax.specs.declared.tree.SimpleItem.{SimpleItem}
use Rattle.sh_syntax.specs.declared.tree.Word.{Word}
use Rattle.sh_vars.specs.Environment.{Environment, with_value}
use Rattle.sh_laws.proofs.NeededPrograms.{ItsItems, OutcomeBegins, ResultBegins, expansion_begins, result_begins, target_begins, wanted_begin}
use Rattle.sh_laws.specs.Beginnings.{CaseItemsBegin, CommandBegins, FormBegins, ItemsBegin, ListBegins, PartsBegin, RedirectsBegin, SeriesBegin, WordsBegin, begins_list, by_definition, by_form, by_words, in_case, in_for, in_for_parameters, in_group, in_if, in_loop, in_subshell, item_parts, more_case_items, more_redirects, more_series, more_words, no_case_items, no_redirects, no_series, no_words, word_parts}
use Rattle.sh_laws.specs.BeforeAction.{AssignmentsHold, BranchesHold, FoundBegins, FunctionsHold, PendingHolds, PlaceHolds, RoleHolds, WantedBegin, WantsHold}
use Rattle.sh_laws.proofs.BegunReadings.{AnswerFits, reading_fits}

-- ---- what is held at a place, by a move, by what an expansion comes to
abbrev pub ActiveHolds : Active → Type 0
ActiveHolds (Next place) = PlaceHolds place
ActiveHolds (Acting invocation fields) = Unit {0}
ActiveHolds (Calling body fields) = CommandBegins body
ActiveHolds (Evaluating how text) = Unit {0}
ActiveHolds (Done status) = Unit {0}
ActiveHolds (Leaving leave) = Unit {0}

abbrev pub MoveHolds : Move → Type 0
MoveHolds (move.At active) = ActiveHolds active
MoveHolds (move.Held undo active) = ActiveHolds active
MoveHolds (move.Enter list) = ItemsBegin (view.out-CompoundList list).items
MoveHolds (move.Compound undo command) = CommandBegins command
MoveHolds (move.Subshell list) = ItemsBegin (view.out-CompoundList list).items

abbrev pub ExpandedHolds : Expanded → Type 0
ExpandedHolds (expanded.Need program wants pending) = ItsItems program × (WantsHold wants × WantedBegin pending.words)
ExpandedHolds (expanded.Go move) = MoveHolds move

abbrev pub TurnHolds : Turn → Type 0
TurnHolds t = ExpandedHolds t.outcome

-- ---- the items of a simple command
pub items_begin : (command : Command) → CommandBegins command → WordsBegin (items_of command)
items_begin command (by_words _ items e b) = subst (λ (z : Opened layer.Command-F). WordsBegin (unwrap_or (items_in z) [])) (sym e) b
items_begin command (by_form _ inner e b r) = subst (λ (z : Opened layer.Command-F). WordsBegin (unwrap_or (items_in z) [])) (sym e) no_words
items_begin command (by_definition _ name body e b r) = subst (λ (z : Opened layer.Command-F). WordsBegin (unwrap_or (items_in z) [])) (sym e) no_words

assigned_begins : (z : Opened layer.SimpleItem-F) (others : List Assignment) → PartsBegin (item_parts z) → AssignmentsHold others → AssignmentsHold (before (option_map to_assign (assignment_in z)) others)
assigned_begins (layer.Assignment name value source) others b h = (b, h)
assigned_begins (layer.Word word) others b h = h
assigned_begins (layer.Redirect redirect) others b h = h

assignments_hold : (items : List SimpleItem) → WordsBegin items → AssignmentsHold (assignments_of items)
assignments_hold _ no_words = tt
assignments_hold _ (more_words item others b r) = assigned_begins (view.out-SimpleItem item) (assignments_of others) b (assignments_hold others r)

-- ---- its first action
wants_hold : (b in_place : Bool) (command : Command) → CommandBegins command
    → WantsHold (if b then wants.Words command in_place 0 else wants.Values (nameless command))
unfolding nameless
wants_hold true in_place command c = c
wants_hold false in_place command c = (tt, assignments_hold (items_of command) (items_begin command c))

pub first_holds : (in_place : Bool) (command : Command) → CommandBegins command → PlaceHolds (first_place in_place command)
unfolding first_place
first_holds in_place command c = (wants_hold (list_any is_word (items_of command) || list_any is_redirect (items_of command)) in_place command c, tt)

-- ---- what it does after its expansion
performed_holds : (p : ExpandedCommand) (r : Role) → RoleHolds r → MoveHolds (performed_by p r)
performed_holds p role.NoCommandName b = tt
performed_holds p (role.Builtin invocation) b = tt
performed_holds p (role.Function body) b = b
performed_holds p role.Program b = tt
performed_holds p (role.Exec true is_special) b = tt
performed_holds p (role.Exec false is_special) b = tt
performed_holds p (role.Compound command) b = b
performed_holds p (role.Subshell list) b = b

final_holds : (p : ExpandedCommand) → RoleHolds p.role → MoveHolds (final_move p)
unfolding final_move
final_holds p b = performed_holds p p.role b

abbrev pub CommandHolds : ExpandedCommand → Type 0
CommandHolds p = RoleHolds p.role × AssignmentsHold p.assignments

ahead_by_holds : (p : ExpandedCommand) (redirections : List Redirection) (assignments : List Assignment) → CommandHolds p → MoveHolds (ahead_by p redirections assignments)
ahead_by_holds p (redirection ∷ redirections) assignments h = h
ahead_by_holds p [] (assignment ∷ assignments) h = (h, tt)
ahead_by_holds p [] [] h = final_holds p h.0

pub ahead_holds : (p : ExpandedCommand) → CommandHolds p → MoveHolds (ahead p)
unfolding ahead
ahead_holds p h = ahead_by_holds p p.redirections p.assignments h

first_by_holds : (in_place : Bool) (p : ExpandedCommand) (r : Role) → p.role ≡ r → CommandHolds p → MoveHolds (if forks r in_place then move.At (Next (Forking p)) else ahead p)
first_by_holds in_place p role.NoCommandName e h = ahead_holds p h
first_by_holds in_place p (role.Builtin invocation) e h = ahead_holds p h
first_by_holds in_place p (role.Function body) e h = ahead_holds p h
first_by_holds true p role.Program e h = ahead_holds p h
first_by_holds false p role.Program e h = (e, h.1)
first_by_holds in_place p (role.Exec is_command is_special) e h = ahead_holds p h
first_by_holds in_place p (role.Compound command) e h = ahead_holds p h
first_by_holds in_place p (role.Subshell list) e h = ahead_holds p h

first_move_holds : (in_place : Bool) (p : ExpandedCommand) → CommandHolds p → MoveHolds (first_move in_place p)
unfolding first_move
first_move_holds in_place p h = first_by_holds in_place p p.role refl h

pub not_done_holds : (p : ExpandedCommand) (word : List ℕ) (f : KernelFault) → MoveHolds (not_done p word f)
unfolding not_done
not_done_holds p word f = tt

-- ---- expansions with answers
resumed_begins : (o next : Outcome) → OutcomeBegins o → OutcomeBegins next → OutcomeBegins (resumption o next)
resumed_begins (Need program env) next f g = g
resumed_begins (Over s) next f g = tt
resumed_begins (Stops fault env) next f g = tt

after_begins : (ws : List Wanted) (env : Environment) (given answers : List (List ℕ)) → WantedBegin ws → OutcomeBegins (words_after ws env given answers)
after_begins ws env given [] b = expansion_begins ws env given b
after_begins ws env given (answer ∷ answers) b =
    resumed_begins (expand ws env given) (words_after ws env (given ++ answer ∷ []) answers) (expansion_begins ws env given b) (after_begins ws env (given ++ answer ∷ []) answers b)

outcome_begins : (ws : List Wanted) (env : Environment) (answers : List (List ℕ)) → WantedBegin ws → OutcomeBegins (words_with ws env answers)
unfolding words_with
outcome_begins ws env answers b = after_begins ws env [] answers b

answers_begin : (files : FileMap) (ws : List Wanted) (env : Environment) (answers : List (List ℕ)) → WantedBegin ws → ResultBegins (expansion_with files ws env answers)
unfolding expansion_with
answers_begin files ws env answers b = result_begins files (words_with ws env answers) (outcome_begins ws env answers b)

-- ---- the expansion that waits, or that begins
start_begins : (env : Environment) (words : List Wanted) (pending : Option Pending) → WantedBegin words → PendingHolds pending → WantedBegin (start_of env words pending).words
start_begins env words None b h = b
start_begins env words (Some pending) b h = h

fields_begin : (files : FileMap) (p : Pending) → WantedBegin p.words → ResultBegins (fields_in files p)
fields_begin files p b = answers_begin files p.words p.start p.answers b

-- ---- to a pattern
abbrev PatternedBegins : Patterned → Type 0
PatternedBegins (Needs program env) = ItsItems program
PatternedBegins (Pattern pattern env) = Unit {0}
PatternedBegins (Fails fault env) = Unit {0}

pattern_of_begins : (o : Outcome) → OutcomeBegins o → PatternedBegins (pattern_of o)
pattern_of_begins (Need program env) b = b
pattern_of_begins (Over s) b = tt
pattern_of_begins (Stops fault env) b = tt

pattern_begins : (ws : List Wanted) (env : Environment) (answers : List (List ℕ)) → WantedBegin ws → PatternedBegins (pattern_with ws env answers)
unfolding pattern_with
pattern_begins ws env answers b = pattern_of_begins (words_with ws env answers) (outcome_begins ws env answers b)

-- ---- the turn of its words
abbrev BodyBegins : Option Command → Type 0
BodyBegins None = Unit {0}
BodyBegins (Some body) = CommandBegins body

role_of_special : (b : Bool) (invocation : Invocation) (body : Command) → CommandBegins body → RoleHolds (if b then role.Builtin invocation else role.Function body)
role_of_special true invocation body f = tt
role_of_special false invocation body f = f

role_by_holds : (o : Option Builtin) (body : Option Command) → BodyBegins body → RoleHolds (role_by o body)
role_by_holds None None f = tt
role_by_holds None (Some body) f = f
role_by_holds (Some builtin) None f = tt
role_by_holds (Some builtin) (Some body) f = role_of_special (is_special builtin) (by_name builtin) body f

exec_holds : (exec : Invocation) (o : Option Parsed) → RoleHolds (exec_role exec o)
exec_holds exec None = tt
exec_holds exec (Some (last, [])) = tt
exec_holds exec (Some (last, command ∷ arguments)) = tt

command_role_holds : (o : Option Builtin) → RoleHolds (command_role o)
command_role_holds None = tt
command_role_holds (Some builtin) = tt

role_behind_by : (b : Bool) (name : List ℕ) (arguments : List (List ℕ))
    → RoleHolds (if b then exec_role (by_command Exec) (options_and_operands [] arguments) else command_role (builtin_of name))
role_behind_by true name arguments = exec_holds (by_command Exec) (options_and_operands [] arguments)
role_behind_by false name arguments = command_role_holds (builtin_of name)

role_behind_holds : (words : List (List ℕ)) → RoleHolds (role_behind words)
role_behind_holds [] = tt
role_behind_holds (name ∷ arguments) = role_behind_by (is_named Exec name) name arguments

-- the function of a name
found_begins : (b : Bool) (function : Named) (rest : Option Named) → CommandBegins function.1 → BodyBegins (option_map (λ f. f.1) rest)
    → BodyBegins (option_map (λ f. f.1) (if b then Some function else rest))
found_begins true function rest h r = h
found_begins false function rest h r = r

body_begins : (functions : List Named) (name : List ℕ) → FunctionsHold functions → BodyBegins (body_of functions name)
body_begins [] name h = tt
body_begins (function ∷ others) name h = found_begins (has_name name function) function (find (has_name name) others) h.0 (body_begins others name h.1)

role_for_holds : (b : Bool) (functions : List Named) (name : List ℕ) (arguments : List (List ℕ)) → FunctionsHold functions
    → RoleHolds (if b then exec_role (by_name Exec) (options_and_operands [] arguments) else role_by (builtin_of name) (body_of functions name))
role_for_holds true functions name arguments h = exec_holds (by_name Exec) (options_and_operands [] arguments)
role_for_holds false functions name arguments h = role_by_holds (builtin_of name) (body_of functions name) (body_begins functions name h)

role_holds : (functions : List Named) (words : List (List ℕ)) → FunctionsHold functions → RoleHolds (role_of functions words)
role_holds functions [] h = tt
role_holds functions (name ∷ arguments) h =
    role_for_holds (is_named Exec name) functions name arguments h

role_run_holds : (functions : List Named) (words : List (List ℕ)) (behind : Option (List (List ℕ))) → FunctionsHold functions → RoleHolds (role_run functions words behind)
role_run_holds functions words None h = role_holds functions words h
role_run_holds functions words (Some behind) h = role_behind_holds behind

prepared_holds : (env : Environment) (functions : List Named) (command : Command) (fields : List (List ℕ)) (status : ℕ) → FunctionsHold functions
    → WordsBegin (items_of command) → CommandHolds (prepared_of env functions command fields status)
unfolding prepared_of
prepared_holds env functions command fields status h b =
    let items = items_of command in
    let words = word_fields fields (length (redirects_of items)) in (role_run_holds functions words (behind_command functions words) h, assignments_hold items b)

words_by_hold : (functions : List Named) (command : Command) (in_place : Bool) (status : ℕ) (pending : Pending) (r : expanding.Result) → FunctionsHold functions → CommandBegins command
    → WantedBegin pending.words → ResultBegins r → TurnHolds (words_by functions command in_place status pending r)
words_by_hold functions command in_place status pending (expanding.Need program env) h c w b = (b, (c, w))
words_by_hold functions command in_place status pending (expanding.Fields fields env) h c w b =
    first_move_holds in_place (prepared_of env functions command fields status) (prepared_holds env functions command fields status h (items_begin command c))
words_by_hold functions command in_place status pending (expanding.Stops fault env) h c w b = tt

pub words_hold : (files : FileMap) (env : Environment) (functions : List Named) (command : Command) (in_place : Bool) (status : ℕ) (pending : Option Pending) → FunctionsHold functions
    → CommandBegins command → PendingHolds pending → TurnHolds (words_turn files env functions command in_place status pending)
unfolding words_turn
words_hold files env functions command in_place status pending h c k =
    let p = start_of env (wanted_of (items_of command)) pending in
    let w = start_begins env (wanted_of (items_of command)) pending (wanted_begin (items_of command) (items_begin command c)) k in
    words_by_hold functions command in_place status p (fields_in files p) h c w (fields_begin files p w)

-- ---- one of two
pub choose : {A : Type 0} (P : A → Type 0) (b : Bool) (x y : A) → (b ≡ true → P x) → (b ≡ false → P y) → P (if b then x else y)
choose P true x y f g = f refl
choose P false x y f g = g refl

-- ---- the turn of its assignments: after a step the turn goes on or is over
record StepHolds (next : Environment → ExpandedCommand → Turn) (step : Step) : Type 0 where
  holds : TurnHolds (behind step.environment step.outcome next)

abbrev Goes : (Environment → ExpandedCommand → Turn) → Type 0
Goes next = (env : Environment) (p : ExpandedCommand) → RoleHolds p.role → TurnHolds (next env p)

value_holds : (next : Environment → ExpandedCommand → Turn) (p : ExpandedCommand) (env : Environment) (name value : List ℕ) → Goes next → RoleHolds p.role → StepHolds next (value_step p env name value)
unfolding value_step
value_holds next p env name value n r = choose (StepHolds next) (may_set env name) _ _ (λ e. record { holds = n _ _ r }) (λ e. record { holds = tt })

assigned_by_holds : (next : Environment → ExpandedCommand → Turn) (p : ExpandedCommand) (assignment : Assignment) (pending : Pending) (r : expanding.Result) → Goes next → RoleHolds p.role
    → AssignmentsHold (assignment ∷ p.assignments) → WantedBegin pending.words → ResultBegins r → StepHolds next (assigned_by p assignment pending r)
assigned_by_holds next p assignment pending (expanding.Need program env) n r h w b = record { holds = (b, ((r, h), w)) }
assigned_by_holds next p assignment pending (expanding.Fields fields env) n r h w b = value_holds next p env assignment.name (text_of fields) n r
assigned_by_holds next p assignment pending (expanding.Stops fault env) n r h w b = record { holds = tt }

assigned_holds : (next : Environment → ExpandedCommand → Turn) (files : FileMap) (env : Environment) (p : ExpandedCommand) (assignment : Assignment) (pending : Option Pending) → Goes next
    → RoleHolds p.role → AssignmentsHold (assignment ∷ p.assignments) → PendingHolds pending → StepHolds next (assigned_one files env p assignment pending)
unfolding assigned_one
assigned_holds next files env p assignment pending n r h k =
    let s = value_start env assignment pending in
    let w = start_begins env (value_wanted assignment.value ∷ []) pending (h.0, tt) k in
    assigned_by_holds next p assignment s (fields_in files s) n r h w (fields_begin files s w)

assignments_turn_holds : (files : FileMap) (these : List Assignment) (env : Environment) (p : ExpandedCommand) (pending : Option Pending) → RoleHolds p.role → AssignmentsHold these
    → PendingHolds pending → TurnHolds (assignments_turn files these env p pending)
assignments_turn_holds files [] env p pending r h k = final_holds p r
assignments_turn_holds files (assignment ∷ others) env p pending r h k =
    (assigned_holds (λ after command. assignments_turn files others after command None) files env (record p { assignments = others }) assignment pending
    (λ after command s. assignments_turn_holds files others after command None s h.1 tt) r h k).holds

pub assign_holds : (files : FileMap) (env : Environment) (p : ExpandedCommand) (pending : Option Pending) → CommandHolds p → PendingHolds pending → TurnHolds (assign_turn files env p pending)
unfolding assign_turn
assign_holds files env p pending h k = assignments_turn_holds files p.assignments env p pending h.0 h.1 k

-- ---- the turn of the redirections of a compound command
redirect_wants_begin : (redirects : List Redirect) → RedirectsBegin redirects → WantedBegin (map redirect_wanted redirects)
redirect_wants_begin _ no_redirects = tt
redirect_wants_begin _ (more_redirects redirect others b r) = (target_begins (view.out-Target (view.out-Redirect redirect).target) b, redirect_wants_begin others r)

compound_redirects_begin : (command : Command) → CommandBegins command → RedirectsBegin (compound_redirects command)
compound_redirects_begin command (by_words _ items e b) = subst (λ (z : Opened layer.Command-F). RedirectsBegin (compound_redirects_in z)) (sym e) no_redirects
compound_redirects_begin command (by_form _ inner e b r) = subst (λ (z : Opened layer.Command-F). RedirectsBegin (compound_redirects_in z)) (sym e) r
compound_redirects_begin command (by_definition _ name body e b r) = subst (λ (z : Opened layer.Command-F). RedirectsBegin (compound_redirects_in z)) (sym e) no_redirects

listed : (x : CompoundList) → ListBegins x → ItemsBegin (view.out-CompoundList x).items
listed x (begins_list _ item others e b) = subst ItemsBegin (sym e) b

form_role_holds : (command : Command) (x : CompoundForm) → CommandBegins command → FormBegins x → RoleHolds (role_in command (view.out-CompoundForm x))
form_role_holds command x c (in_group _ body e b) = subst (λ z. RoleHolds (role_in command z)) (sym e) c
form_role_holds command x c (in_subshell _ body e b) = subst (λ z. RoleHolds (role_in command z)) (sym e) (listed body b)
form_role_holds command x c (in_if _ condition body else_ifs else_body e t b i o) = subst (λ z. RoleHolds (role_in command z)) (sym e) c
form_role_holds command x c (in_loop _ kind condition body e t b) = subst (λ z. RoleHolds (role_in command z)) (sym e) c
form_role_holds command x c (in_for _ name words body e s b) = subst (λ z. RoleHolds (role_in command z)) (sym e) c
form_role_holds command x c (in_for_parameters _ name is_separated body e b) = subst (λ z. RoleHolds (role_in command z)) (sym e) c
form_role_holds command x c (in_case _ word items e w i) = subst (λ z. RoleHolds (role_in command z)) (sym e) c

role_of_command_holds : (command : Command) → CommandBegins command → CommandBegins command → RoleHolds (role_of_command command (view.out-Command command))
role_of_command_holds command c (by_words _ items e b) = subst (λ z. RoleHolds (role_of_command command z)) (sym e) tt
role_of_command_holds command c (by_form _ inner e b r) = subst (λ z. RoleHolds (role_of_command command z)) (sym e) (form_role_holds command (view.out-Compound inner).form c b)
role_of_command_holds command c (by_definition _ name body e b r) = subst (λ z. RoleHolds (role_of_command command z)) (sym e) tt

redirected_holds : (env : Environment) (command : Command) (fields : List (List ℕ)) → CommandBegins command → CommandHolds (redirected env command fields)
unfolding redirected compound_role
redirected_holds env command fields c = (role_of_command_holds command c c, tt)

redirects_by_hold : (command : Command) (pending : Pending) (r : expanding.Result) → CommandBegins command → WantedBegin pending.words → ResultBegins r → TurnHolds (redirects_by command pending r)
redirects_by_hold command pending (expanding.Need program env) c w b = (b, (c, w))
redirects_by_hold command pending (expanding.Fields fields env) c w b = ahead_holds (redirected env command fields) (redirected_holds env command fields c)
redirects_by_hold command pending (expanding.Stops fault env) c w b = tt

pub redirects_hold : (files : FileMap) (env : Environment) (command : Command) (pending : Option Pending) → CommandBegins command → PendingHolds pending → TurnHolds (redirects_turn files env command pending)
unfolding redirects_turn
redirects_hold files env command pending c k =
    let wanted = map redirect_wanted (compound_redirects command) in
    let p = start_of env wanted pending in
    let w = start_begins env wanted pending (redirect_wants_begin (compound_redirects command) (compound_redirects_begin command c)) k in
    redirects_by_hold command p (fields_in files p) c w (fields_begin files p w)

-- ---- a `for`
series_begin : (words : List Word) → SeriesBegin words → WantedBegin (map word_of_series words)
series_begin _ no_series = tt
series_begin _ (more_series word others b r) = (b, series_begin others r)

given_by_holds : (series : ForLoop) (left : List (List ℕ)) (status : CommandStatus) → ListBegins series.body → ActiveHolds (given_by series left status)
given_by_holds series [] status b = tt
given_by_holds series (value ∷ left) status b = b

pub rest_holds : (series : ForLoop) (status : CommandStatus) → ListBegins series.body → ActiveHolds (rest_of_series series status)
rest_holds series status b = given_by_holds series series.values status b

series_by_holds : (command : Command) (pending : Pending) (name : List ℕ) (body : CompoundList) (r : expanding.Result) → CommandBegins command → ListBegins body
    → WantedBegin pending.words → ResultBegins r → TurnHolds (series_by command pending name body r)
series_by_holds command pending name body (expanding.Need program env) c l w b = (b, (c, w))
series_by_holds command pending name body (expanding.Fields fields env) c l w b = rest_holds (record { name = name; values = fields; body = body }) (unexcused 0) l
series_by_holds command pending name body (expanding.Stops fault env) c l w b = tt

module _ (files : FileMap) (env : Environment) (command : Command) (pending : Option Pending) (c : CommandBegins command) (k : PendingHolds pending) where
  words_of_hold : (name : List ℕ) (body : CompoundList) (wanted : List Wanted) → ListBegins body → WantedBegin wanted
      → TurnHolds (series_from files command name body (start_of env wanted pending))
  words_of_hold name body wanted l b =
      let p = start_of env wanted pending in
      let w = start_begins env wanted pending b k in series_by_holds command p name body (fields_in files p) c l w (fields_begin files p w)

  abbrev FormTurn : Opened layer.CompoundForm-F → Type 0
  FormTurn z = TurnHolds (header_turn files env command pending (header_in z))

  form_holds : (x : CompoundForm) → FormBegins x → FormTurn (view.out-CompoundForm x)
  form_holds x (in_group _ body e b) = subst FormTurn (sym e) tt
  form_holds x (in_subshell _ body e b) = subst FormTurn (sym e) tt
  form_holds x (in_if _ condition body else_ifs else_body e t b i o) = subst FormTurn (sym e) tt
  form_holds x (in_loop _ kind condition body e t b) = subst FormTurn (sym e) tt
  form_holds x (in_for _ name words body e s b) = subst FormTurn (sym e) (words_of_hold name.name body (map word_of_series words) b (series_begin words s))
  form_holds x (in_for_parameters _ name is_separated body e b) =
      subst FormTurn (sym e) (rest_holds (record { name = name.name; values = env.positional; body = body }) (unexcused 0) b)
  form_holds x (in_case _ word items e w i) = subst FormTurn (sym e) tt

  abbrev HeaderTurn : Opened layer.Command-F → Type 0
  HeaderTurn z = TurnHolds (header_turn files env command pending (header_of_command z))

  header_holds : CommandBegins command → HeaderTurn (view.out-Command command)
  header_holds (by_words _ items e b) = subst HeaderTurn (sym e) tt
  header_holds (by_form _ inner e b r) = subst HeaderTurn (sym e) (form_holds (view.out-Compound inner).form b)
  header_holds (by_definition _ name body e b r) = subst HeaderTurn (sym e) tt

  pub series_hold : TurnHolds (series_turn files env command pending)
  unfolding series_turn header_of
  series_hold = header_holds c

-- ---- a `case`
patterns_hold : (body : CompoundList) (patterns : List Word) (others : List CaseBranch) → SeriesBegin patterns → ItemsBegin (view.out-CompoundList body).items → BranchesHold others
    → BranchesHold (map (branch_of body) patterns ++ others)
patterns_hold body _ others no_series i h = h
patterns_hold body _ others (more_series pattern more p r) i h = ((p, i), patterns_hold body more others r i h)

branches_hold : (items : List CaseItem) → CaseItemsBegin items → BranchesHold (branches_of items)
branches_hold _ no_case_items = tt
branches_hold _ (more_case_items item others p i r) =
    let z = view.out-CaseItem item in patterns_hold z.body (z.pattern ∷ z.more_patterns) (branches_of others) p i (branches_hold others r)

next_branch_holds : (word : List ℕ) (branches : List CaseBranch) → BranchesHold branches → ActiveHolds (next_branch word branches)
next_branch_holds word [] h = tt
next_branch_holds word (branch ∷ branches) h = (h, tt)

word_by_holds : (command : Command) (pending : Pending) (branches : List CaseBranch) (r : expanding.Result) → CommandBegins command → BranchesHold branches
    → WantedBegin pending.words → ResultBegins r → TurnHolds (word_by command pending branches r)
word_by_holds command pending branches (expanding.Need program env) c h w b = (b, (c, w))
word_by_holds command pending branches (expanding.Fields fields env) c h w b = next_branch_holds (text_of fields) branches h
word_by_holds command pending branches (expanding.Stops fault env) c h w b = tt

module _ (files : FileMap) (env : Environment) (command : Command) (pending : Option Pending) (c : CommandBegins command) (k : PendingHolds pending) where
  word_of_holds : (word : Word) (items : List CaseItem) → PartsBegin (word_parts word) → CaseItemsBegin items
      → TurnHolds (word_from files command (branches_of items) (start_of env (single (view.out-Word word).parts ∷ []) pending))
  word_of_holds word items w i =
      let wanted = single (view.out-Word word).parts ∷ [] in
      let p = start_of env wanted pending in
      let b = start_begins env wanted pending (w, tt) k in word_by_holds command p (branches_of items) (fields_in files p) c (branches_hold items i) b (fields_begin files p b)

  abbrev CaseFormTurn : Opened layer.CompoundForm-F → Type 0
  CaseFormTurn z = TurnHolds (cases.header_turn files env command pending (cases.header_in z))

  case_form_holds : (x : CompoundForm) → FormBegins x → CaseFormTurn (view.out-CompoundForm x)
  case_form_holds x (in_group _ body e b) = subst CaseFormTurn (sym e) tt
  case_form_holds x (in_subshell _ body e b) = subst CaseFormTurn (sym e) tt
  case_form_holds x (in_if _ condition body else_ifs else_body e t b i o) = subst CaseFormTurn (sym e) tt
  case_form_holds x (in_loop _ kind condition body e t b) = subst CaseFormTurn (sym e) tt
  case_form_holds x (in_for _ name words body e s b) = subst CaseFormTurn (sym e) tt
  case_form_holds x (in_for_parameters _ name is_separated body e b) = subst CaseFormTurn (sym e) tt
  case_form_holds x (in_case _ word items e w i) = subst CaseFormTurn (sym e) (word_of_holds word items w i)

  abbrev CaseTurn : Opened layer.Command-F → Type 0
  CaseTurn z = TurnHolds (cases.header_turn files env command pending (cases.header_of_command z))

  case_header_holds : CommandBegins command → CaseTurn (view.out-Command command)
  case_header_holds (by_words _ items e b) = subst CaseTurn (sym e) tt
  case_header_holds (by_form _ inner e b r) = subst CaseTurn (sym e) (case_form_holds (view.out-Compound inner).form b)
  case_header_holds (by_definition _ name body e b r) = subst CaseTurn (sym e) tt

  pub case_holds : TurnHolds (case_turn files env command pending)
  unfolding case_turn cases.header_of
  case_holds = case_header_holds c

tried_holds : (word : List ℕ) (branch : CaseBranch) (branches : List CaseBranch) (pattern : List PatternByte) → BranchesHold (branch ∷ branches) → MoveHolds (tried word branch branches pattern)
tried_holds word branch branches pattern h =
    choose MoveHolds (is_match pattern word) (move.Enter branch.body) (move.At (next_branch word branches)) (λ e. h.0.1) (λ e. next_branch_holds word branches h.1)

pattern_by_holds : (word : List ℕ) (branch : CaseBranch) (branches : List CaseBranch) (pending : Pending) (p : Patterned) → BranchesHold (branch ∷ branches)
    → WantedBegin pending.words → PatternedBegins p → TurnHolds (pattern_by word branch branches pending p)
pattern_by_holds word branch branches pending (Needs program env) h w b = (b, (h, w))
pattern_by_holds word branch branches pending (Pattern pattern env) h w b = tried_holds word branch branches pattern h
pattern_by_holds word branch branches pending (Fails fault env) h w b = tt

branch_turn_holds : (env : Environment) (word : List ℕ) (pending : Option Pending) (branches : List CaseBranch) → BranchesHold branches → PendingHolds pending
    → TurnHolds (branch_turn env word pending branches)
branch_turn_holds env word pending [] h k = tt
branch_turn_holds env word pending (branch ∷ branches) h k =
    let p = start_of env (single branch.pattern ∷ []) pending in
    let w = start_begins env (single branch.pattern ∷ []) pending (h.0.0, tt) k in
    pattern_by_holds word branch branches p (pattern_from p) h w (pattern_begins p.words p.start p.answers w)

pub pattern_holds : (env : Environment) (case : Case) (pending : Option Pending) → BranchesHold case.branches → PendingHolds pending → TurnHolds (pattern_turn env case pending)
unfolding pattern_turn
pattern_holds env case pending h k = branch_turn_holds env case.word pending case.branches h k

abbrev pub RoundHolds : Round → Type 0
RoundHolds (round.Body series) = ListBegins series.body
RoundHolds (round.Over active) = ActiveHolds active

give_by_holds : (env : Environment) (series : ForLoop) (left : List (List ℕ)) → ListBegins series.body → RoundHolds (give_by env series left).round
give_by_holds env series [] b = tt
give_by_holds env series (value ∷ left) b = choose (λ (g : Given). RoundHolds g.round) (may_set env series.name)
    (record { environment = with_value env series.name value; round = round.Body (record series { values = left }) })
    (record { environment = env; round = round.Over (fatal (read_only series.name)) }) (λ e. b) (λ e. tt)

pub give_holds : (env : Environment) (series : ForLoop) → ListBegins series.body → RoundHolds (give_turn env series).round
unfolding give_turn
give_holds env series b = give_by_holds env series series.values b

-- ---- reading
answer_holds : (r : Result Reading ParseFault) (text : List ℕ) (on : ℕ → Found) → AnswerFits r → ((count : ℕ) → FoundBegins (on count)) → FoundBegins (found_by (answer_of r) text on)
answer_holds (Ok (Complete tree used)) text on f g = f
answer_holds (Ok (Blank zero)) text on f g = tt
answer_holds (Ok (Blank (suc count))) text on f g = g count
answer_holds (Ok More) text on f g = tt
answer_holds (Err (parse_fault.Refused at used)) text on f g = tt
answer_holds (Err (parse_fault.Unclosed at)) text on f g = tt
answer_holds (Err (parse_fault.BadSubstitution at used)) text on f g = tt
answer_holds (Err (parse_fault.TooDeep at used)) text on f g = tt
answer_holds (Err (parse_fault.NoMemory lack)) text on f g = tt

found_holds : (aliases : AliasTable) (text : List ℕ) (count : ℕ) → FoundBegins (found_behind aliases text count)
found_holds aliases [] count = tt
found_holds aliases (byte ∷ bytes) (suc count) = found_holds aliases bytes count
found_holds aliases (byte ∷ bytes) zero =
    answer_holds (reading aliases true (byte ∷ bytes)) (byte ∷ bytes) (found_behind aliases bytes) (reading_fits aliases true (byte ∷ bytes)) (λ count. found_holds aliases bytes count)

pub next_holds : (aliases : AliasTable) (text : List ℕ) → FoundBegins (next_command aliases text)
next_holds aliases text = found_holds aliases text 0

-- what an interactive shell has read by descriptor 0
abbrev pub InputBegins : InputFound → Type 0
InputBegins (input.Command tree rest) = ItemsBegin (view.out-CompoundList tree).items
InputBegins (input.Blank rest) = Unit {0}
InputBegins (input.More text) = Unit {0}
InputBegins (input.Fault why) = Unit {0}

input_by_holds : (r : Result Reading ParseFault) (text : List ℕ) → AnswerFits r → InputBegins (input_by r text)
input_by_holds (Ok (Complete tree used)) text f = f
input_by_holds (Ok (Blank used)) text f = tt
input_by_holds (Ok More) text f = tt
input_by_holds (Err (parse_fault.Refused at used)) text f = tt
input_by_holds (Err (parse_fault.Unclosed at)) text f = tt
input_by_holds (Err (parse_fault.BadSubstitution at used)) text f = tt
input_by_holds (Err (parse_fault.TooDeep at used)) text f = tt
input_by_holds (Err (parse_fault.NoMemory lack)) text f = tt

pub input_begins : (aliases : AliasTable) (is_end : Bool) (text : List ℕ) → InputBegins (input_found aliases is_end text)
input_begins aliases is_end text = input_by_holds (reading aliases is_end text) text (reading_fits aliases is_end text)
