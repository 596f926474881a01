-- One operand after the other is served.
use Rattle.std.proofs.Common.{◌≡◌, ℕ, ◌-◌, List, [], ◌∷◌, ◌++◌, Option, Some, None, length, drop, refl, sym, ap, ◌∙◌, arith}
use Rattle.std.proofs.Math.Seq.{drop-append_seam}
use Rattle.std.proofs.lemmas.List.{append-nil, append_assoc, length-append}
use Rattle.sh_builtin_jobs.specs.KillRuns.{kill_next, kill_start, said_of, step_to, with_message}
use Rattle.sh_builtin_jobs.specs.KillTargets.{kill_target}
use Rattle.sh_builtin_jobs.specs.Laws.{Answer, EachIsServed, report_with, run_on, said_of_each}
use Rattle.sh_builtin_jobs.specs.declared.command.KillSend.{KillSend}
use Rattle.sh_builtin_jobs.specs.declared.run.KillStep.TheVariants.{Over}
use Rattle.sh_builtin_jobs.specs.declared.target.JobControl.{JobControl}
use Rattle.sh_jobs.specs.declared.job.Job.{Job}
use Rattle.sh_kernel_processes.specs.declared.process.Process.{Process}

others_left : (front others : List (List ℕ)) → drop (length (front ++ others) - length others) (front ++ others) ≡ others
others_left front others =
    let count : length (front ++ others) - length others ≡ length front = omega (arith, length-append front others) in
    ap (λ (n : ℕ). drop n (front ++ others)) count ∙ drop-append_seam front others

with_said : (messages : List (List ℕ)) (word : List ℕ) (said : Option (List ℕ)) → with_message messages word said ≡ messages ++ with_message [] word said
with_said messages word None = sym (append-nil messages)
with_said messages word (Some text) = refl

serves : (control : JobControl) (send : KillSend) (front rest messages : List (List ℕ)) (ps : List Process) (jobs : List Job) (answers : List Answer)
    → send.operands ≡ front ++ rest → length answers ≡ length rest
    → run_on control (step_to control ps jobs send messages rest) answers ≡ Over (report_with (messages ++ said_of_each control ps jobs rest answers))
unfolding kill_next
serves control send front [] messages ps jobs [] split same = ap (λ (m : List (List ℕ)). Over (report_with m)) (sym (append-nil messages))
serves control send front [] messages ps jobs (answer ∷ answers) split same = absurd (omega arith)
serves control send front (word ∷ others) messages ps jobs [] split same = absurd (omega arith)
serves control send front (word ∷ others) messages ps jobs (answer ∷ answers) split same =
    let said : Option (List ℕ) = said_of (kill_target control ps jobs word) answer.is_reached in
    let further : List (List ℕ) = said_of_each control answer.processes answer.jobs others answers in
    let count : length answers ≡ length others = omega arith in
    let behind : send.operands ≡ front ++ word ∷ [] ++ others = split ∙ sym (append_assoc front (word ∷ []) others) in
    let left : drop (length send.operands - length others) send.operands ≡ others =
    ap (λ (words : List (List ℕ)). drop (length words - length others) words) behind ∙ others_left (front ++ word ∷ []) others in
    ap (λ (words : List (List ℕ)). run_on control (step_to control answer.processes answer.jobs send (with_message messages word said) words) answers) left
    ∙ serves control send (front ++ word ∷ []) others (with_message messages word said) answer.processes answer.jobs answers behind count
    ∙ ap (λ (m : List (List ℕ)). Over (report_with m))
    (ap (λ (m : List (List ℕ)). m ++ further) (with_said messages word said) ∙ append_assoc messages (with_message [] word said) further)

pub each_is_served : EachIsServed
unfolding kill_start
each_is_served control ps jobs send answers same = serves control send [] send.operands [] ps jobs answers refl same
