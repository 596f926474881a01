use Rattle.std.proofs.Common.{◌≡◌, ◌++◌, take}
use Rattle.std.specs.List.{flat_map}
use Rattle.sh_syntax.specs.Forms.{behind_bar}
use Rattle.sh_syntax.specs.Tokens.{with_spaces}
use Rattle.sh_syntax.specs.Text.{else_if_tokens, case_item_tokens, command_tokens, item_tokens, connected_tokens, list_item_tokens, redirect_tokens, word_tokens}
use Rattle.sh_syntax.proofs.text.+text.Given as goal

abbrev pub invariant-put_and_or-loop-connected : goal.invariant-put_and_or-loop-connected
invariant-put_and_or-loop-connected l =
    l.out.items ≡ l.initial.out.items ++ with_spaces (flat_map connected_tokens (take l.connected-index l.connected-items))

abbrev pub invariant-put_case_item-loop-pattern : goal.invariant-put_case_item-loop-pattern
invariant-put_case_item-loop-pattern l =
    l.out.items ≡ l.initial.out.items ++ with_spaces (flat_map (λ w. behind_bar (word_tokens w)) (take l.pattern-index l.pattern-items))

abbrev pub invariant-put_command-loop-item : goal.invariant-put_command-loop-item
invariant-put_command-loop-item l =
    l.out.items ≡ l.initial.out.items ++ with_spaces (flat_map item_tokens (take l.item-index l.item-items))

abbrev pub invariant-put_compound_list-loop-list_item : goal.invariant-put_compound_list-loop-list_item
invariant-put_compound_list-loop-list_item l =
    l.out.items ≡ l.initial.out.items ++ with_spaces (flat_map list_item_tokens (take l.list_item-index l.list_item-items))

abbrev pub invariant-put_compound-loop-redirect : goal.invariant-put_compound-loop-redirect
invariant-put_compound-loop-redirect l =
    l.out.items ≡ l.initial.out.items ++ with_spaces (flat_map redirect_tokens (take l.redirect-index l.redirect-items))

abbrev pub invariant-put_form-loop-else_if : goal.invariant-put_form-loop-else_if
invariant-put_form-loop-else_if l =
    l.out.items ≡ l.initial.out.items ++ with_spaces (flat_map else_if_tokens (take l.else_if-index l.else_if-items))

abbrev pub invariant-put_form-loop-word : goal.invariant-put_form-loop-word
invariant-put_form-loop-word l =
    l.out.items ≡ l.initial.out.items ++ with_spaces (flat_map word_tokens (take l.word-index l.word-items))

abbrev pub invariant-put_form-loop-item : goal.invariant-put_form-loop-item
invariant-put_form-loop-item l =
    l.out.items ≡ l.initial.out.items ++ with_spaces (flat_map case_item_tokens (take l.item-index l.item-items))

abbrev pub invariant-put_pipeline-loop-command : goal.invariant-put_pipeline-loop-command
invariant-put_pipeline-loop-command l =
    l.out.items
    ≡ l.initial.out.items ++ with_spaces (flat_map (λ c. behind_bar (command_tokens c)) (take l.command-index l.command-items))
