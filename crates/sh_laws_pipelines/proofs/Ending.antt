-- The stages behind one that ends by itself stand: they go on with what it has written.
use Rattle.std.proofs.Common.{◌≡◌, ℕ, zero, suc, ◌==◌, ◌&&◌, ◌||◌, List, [], ◌∷◌, Bool, true, false, cond, not, Option, Some, None, slice_get, refl, sym, ap, ◌∙◌, subst, eqb-true}
use Rattle.std.specs.List.{list_any}
use Rattle.sh_exec.specs.Turns.{turn}
use Rattle.sh_kernel.proofs.Closing.{reaches_left}
use Rattle.sh_kernel.proofs.Endings.{endings}
use Rattle.sh_kernel.specs.Calls.{end_call}
use Rattle.sh_kernel.specs.Reaching.{is_end, reaches}
use Rattle.sh_kernel.specs.Signals.{after_exit, table_of}
use Rattle.sh_kernel.specs.State.{KernelState}
use Rattle.sh_kernel_descriptors.specs.Closings.{descriptors_left}
use Rattle.sh_kernel_descriptors.specs.Machine.{MachineState, after_close}
use Rattle.sh_kernel_descriptors.specs.Outcomes.{refusal, success}
use Rattle.sh_kernel_descriptors.specs.declared.descriptor.Closing.TheVariants.{All}
use Rattle.sh_kernel_descriptors.specs.declared.descriptor.Descriptor.{Descriptor}
use Rattle.sh_kernel_descriptors.specs.declared.fault.KernelFault.TheVariants.{NoProcess}
use Rattle.sh_kernel_machine.specs.Signals.{after_ending, after_endings}
use Rattle.sh_kernel_processes.specs.Processes as processes
use Rattle.sh_kernel_processes.specs.Processes.{lives}
use Rattle.sh_kernel_processes.specs.Sending.{after_end, pids_of}
use Rattle.sh_laws_pipelines.proofs.Beside.{Leaves, endings_leave}
use Rattle.sh_laws_pipelines.proofs.LeavingFiles.{LeavesFile, endings_leave_file}
use Rattle.sh_laws_pipelines.proofs.Leaving.{ends_leave}
use Rattle.sh_laws_pipelines.specs.Others.{AllGoOn, OnlyReach}
use Rattle.sh_laws_pipelines.proofs.Acting.{runs_of}
use Rattle.sh_laws_pipelines.proofs.Changes.{Calm, Changed, leaves_same}
use Rattle.sh_laws_pipelines.proofs.Here.{none_last}
use Rattle.sh_laws_pipelines.proofs.Standing.{fed_of, tail_stays}
use Rattle.sh_laws_pipelines.specs.Stages.{AreAlive, AreDistinct, Ends, FedByPipe, FromPipe, Holds, StageProcess, NotAmong, Source, Stands, behind, is_at_end}
use Rattle.sh_laws_pipelines.proofs.Turning.{ends}
use Rattle.sh_laws_pipelines.specs.Pipelines.{course_of, has_ended, written_by}
use Rattle.sh_stock.specs.Asking.{Meaning}
use Rattle.sh_stock.specs.declared.asking.Ask.TheVariants.{End}

-- ---- a process that has ended has nothing open
none_left : (ds : List Descriptor) (pid : ℕ) (test : ℕ → Bool) → reaches (descriptors_left pid All ds) pid test ≡ false
none_left [] pid test = refl
none_left (d ∷ ds) pid test = of_own (d.pid == pid) refl (none_left ds pid test)
  where
    of_own : (own : Bool) → (d.pid == pid) ≡ own → reaches (descriptors_left pid All ds) pid test ≡ false → reaches (cond (not own) (d ∷ descriptors_left pid All ds) (descriptors_left pid All ds)) pid test ≡ false
    of_own true is rest = rest
    of_own false is rest = ap (λ (b : Bool). (b && test d.description) || reaches (descriptors_left pid All ds) pid test) is ∙ rest

stays_unreached : (m : MachineState) (pids : List ℕ) (pid : ℕ) (test : ℕ → Bool) → reaches m.descriptors pid test ≡ false → reaches (after_endings m pids).descriptors pid test ≡ false
stays_unreached m [] pid test h = h
stays_unreached m (q ∷ pids) pid test h = of_test (processes.has_ended m.processes q) (λ n g. stays_unreached n pids pid test g)
  where
    of_test : (b : Bool) → ((n : MachineState) → reaches n.descriptors pid test ≡ false → reaches (after_endings n pids).descriptors pid test ≡ false) → reaches (after_endings (cond b (after_close m q All) m) pids).descriptors pid test ≡ false
    of_test true others = others (after_close m q All) (reaches_left q All m.descriptors pid test h)
    of_test false others = others m h

closed : (m : MachineState) (pids : List ℕ) (pid : ℕ) (test : ℕ → Bool) → list_any (λ q. q == pid) pids ≡ true → processes.has_ended m.processes pid ≡ true → reaches (after_endings m pids).descriptors pid test ≡ false
closed m [] pid test member ended = cc
closed m (q ∷ pids) pid test member ended = of_first (q == pid) refl member (λ n more e. closed n pids pid test more e)
  where
    same_processes : (b : Bool) → processes.has_ended (cond b (after_close m q All) m).processes pid ≡ processes.has_ended m.processes pid
    same_processes true = refl
    same_processes false = refl

    of_first : (b : Bool) → (q == pid) ≡ b → (b || list_any (λ x. x == pid) pids) ≡ true
        → ((n : MachineState) → list_any (λ x. x == pid) pids ≡ true → processes.has_ended n.processes pid ≡ true → reaches (after_endings n pids).descriptors pid test ≡ false)
        → reaches (after_endings (after_ending m q) pids).descriptors pid test ≡ false
    of_first true is h others =
        let same = eqb-true q pid is in
        let own : processes.has_ended m.processes q ≡ true = ap (λ (x : ℕ). processes.has_ended m.processes x) same ∙ ended in
        let gone : reaches (after_close m q All).descriptors pid test ≡ false = subst (λ (x : ℕ). reaches (descriptors_left q All m.descriptors) x test ≡ false) same (none_left m.descriptors q test) in
        subst (λ (b : Bool). reaches (after_endings (cond b (after_close m q All) m) pids).descriptors pid test ≡ false) (sym own) (stays_unreached (after_close m q All) pids pid test gone)
    of_first false is h others = others (after_ending m q) h (same_processes (processes.has_ended m.processes q) ∙ ended)

-- ---- what an end changes for others
end_leaves : (s : KernelState) (pid status : ℕ) (owners : ℕ → Bool) → AllGoOn owners (end_call s pid status).after.machine → Leaves owners s.machine (end_call s pid status).after.machine
end_leaves s pid status owners alive = of_test (lives s.machine.processes pid) alive
  where
    of_test : (b : Bool) → let t = (cond b (success {A = Unit {0}} tt (after_exit s pid status)) (refusal s NoProcess)).after in AllGoOn owners t.machine → Leaves owners s.machine t.machine
    of_test true alive = let ps = (after_end (table_of s) pid status).processes in endings_leave owners s.machine ps (after_exit s pid status).machine (endings s.machine ps (pids_of s.members)) alive
    of_test false alive = leaves_same owners s.machine

end_leaves_file : (s : KernelState) (pid status q number place : ℕ) → processes.has_ended (end_call s pid status).after.machine.processes q ≡ false → LeavesFile q number place s.machine (end_call s pid status).after.machine
end_leaves_file s pid status q number place alive = of_test (lives s.machine.processes pid) alive
  where
    of_test : (b : Bool) → let t = (cond b (success {A = Unit {0}} tt (after_exit s pid status)) (refusal s NoProcess)).after in processes.has_ended t.machine.processes q ≡ false → LeavesFile q number place s.machine t.machine
    of_test true alive = let ps = (after_end (table_of s) pid status).processes in endings_leave_file q number place s.machine ps (after_exit s pid status).machine (endings s.machine ps (pids_of s.members)) alive
    of_test false alive = record { own = refl; description = refl; node = refl }

end_keeps_node : (s : KernelState) (pid status number : ℕ) → slice_get (end_call s pid status).after.machine.files.nodes number ≡ slice_get s.machine.files.nodes number
end_keeps_node s pid status number = of_test (lives s.machine.processes pid)
  where
    of_test : (b : Bool) → slice_get (cond b (success {A = Unit {0}} tt (after_exit s pid status)) (refusal s NoProcess)).after.machine.files.nodes number ≡ slice_get s.machine.files.nodes number
    of_test true = let ps = (after_end (table_of s) pid status).processes in ap (λ files. slice_get files.nodes number) (endings s.machine ps (pids_of s.members)).files
    of_test false = refl

-- nothing is open in it then: where it lived it has closed all, and where it had ended before nothing changes
end_closes : (s : KernelState) (pid status : ℕ) (test : ℕ → Bool) → lives s.machine.processes pid ≡ true → Ends s (end_call s pid status).after pid → reaches (end_call s pid status).after.machine.descriptors pid test ≡ false
end_closes s pid status test alive e =
    let ps = (after_end (table_of s) pid status).processes in
    let pids = pids_of s.members in
    let same : (end_call s pid status).after ≡ after_exit s pid status = ap (λ (b : Bool). (cond b (success {A = Unit {0}} tt (after_exit s pid status)) (refusal s NoProcess)).after) alive in
    let ended : processes.has_ended ps pid ≡ true =
    ap (λ xs. processes.has_ended xs pid) (sym (endings s.machine ps pids).processes) ∙ (ap (λ (u : KernelState). processes.has_ended u.machine.processes pid) (sym same) ∙ e.ended) in
    ap (λ (u : KernelState). reaches u.machine.descriptors pid test) same ∙ closed (record s.machine { processes = ps }) pids pid test e.member ended

changed_end : (s : KernelState) (pid status : ℕ) → Changed pid None s (end_call s pid status).after
changed_end s pid status = record { pipes = Calm (end_leaves s pid status); files = λ q number place e there leads untouched alive. end_leaves_file s pid status q number place alive }

module _ {S : Type 0} (m : Meaning S) where
  -- ---- the stages behind the one that ends
  next_alone : (s : KernelState) (pid status next pipe : ℕ) → lives s.machine.processes pid ≡ true → Ends s (end_call s pid status).after pid → OnlyReach (is_at_end (Some pid) next) (end_call s pid status).after.machine pipe → OnlyReach (is_at_end None next) (end_call s pid status).after.machine pipe
  next_alone s pid status next pipe alive e alone q h = of_test (q == pid) refl
    where
      of_test : (b : Bool) → (q == pid) ≡ b → reaches (end_call s pid status).after.machine.descriptors q (is_end (end_call s pid status).after.machine.descriptions pipe) ≡ false
      of_test true is = ap (λ (x : ℕ). reaches (end_call s pid status).after.machine.descriptors x (is_end (end_call s pid status).after.machine.descriptions pipe)) (eqb-true q pid is)
          ∙ end_closes s pid status (is_end (end_call s pid status).after.machine.descriptions pipe) alive e
      of_test false is = alone q (ap (λ (b : Bool). b || (q == next)) is ∙ h)

  ends_here : (s : KernelState) (before : Option ℕ) (source : Source) (given : List ℕ) (all : Bool) (j : StageProcess S) (js : List (StageProcess S)) (status : ℕ) → lives s.machine.processes j.pid ≡ true → Ends s (end_call s j.pid status).after j.pid
      → AreAlive (end_call s j.pid status).after.machine js → NotAmong j.pid js → Stands m s.machine before source given all (j ∷ js) → Stands m (end_call s j.pid status).after.machine None (FromPipe j.to) (written_by m j.stage) true js
  ends_here s before source given all j [] status living e alive among st = tt
  ends_here s before source given all j (k ∷ js) status living e alive among st =
      let u = (end_call s j.pid status).after in
      let f = fed_of m s.machine (Some j.pid) (FromPipe j.to) (written_by m j.stage) (has_ended j.stage) k js st.3 in
      let alone = subst (λ (x : ℕ). OnlyReach (is_at_end (Some j.pid) k.pid) s.machine x) (sym f.same_pipe) f.alone in
      let r = ends_leave s j.pid status (is_at_end (Some j.pid) k.pid) k.pid (written_by m j.stage) (has_ended j.stage) (course_of m k.stage).read f.reads alone alive.0 in
      let fed : FedByPipe u.machine None j.to (written_by m j.stage) true k.pid (course_of m k.stage).read =
      record {
        reads = r.reads;
        same_pipe = r.same_pipe ∙ f.same_pipe;
        alone = next_alone s j.pid status k.pid j.to living e (subst (λ (x : ℕ). OnlyReach (is_at_end (Some j.pid) k.pid) u.machine x) f.same_pipe r.alone);
      } in
      tail_stays m j.pid None s u (changed_end s j.pid status) (Some j.pid) None (FromPipe j.to) (FromPipe j.to) (written_by m j.stage) (written_by m j.stage) (has_ended j.stage) true js k alive among (none_last (k ∷ js)) st.3 fed

  pub ends_at : (s : KernelState) (before : Option ℕ) (source : Source) (given : List ℕ) (all : Bool) (js : List (StageProcess S)) (n : ℕ) (j : StageProcess S) (status : ℕ) → slice_get js n ≡ Some j → let t = turn m s j.task in
      (course_of m j.stage).ask ≡ End status → lives s.machine.processes j.pid ≡ true → Ends s t.machine j.pid → AreAlive t.machine.machine (behind n js) → AreDistinct js → Stands m s.machine before source given all js
      → Stands m t.machine.machine None (FromPipe j.to) (written_by m j.stage) true (behind n js)
  ends_at s before source given all [] n j status at asks living e alive distinct st = cc
  ends_at s before source given all (i ∷ js) zero j status at asks living e alive distinct st =
      let same : i ≡ j = cc in
      let own = subst (λ (x : StageProcess S). Stands m s.machine before source given all (x ∷ js)) same st in
      let x = ends m s j.pid j.stage j.task given all status (runs_of m s.machine before source given all j js own) asks in
      let among = subst (λ (y : StageProcess S). NotAmong y.pid js) same distinct.0 in
      subst (λ (u : KernelState). Stands m u.machine None (FromPipe j.to) (written_by m j.stage) true js) (sym x.1)
      (ends_here s before source given all j js status living (subst (λ (u : KernelState). Ends s u j.pid) x.1 e) (subst (λ (u : KernelState). AreAlive u.machine js) x.1 alive) among own)
  ends_at s before source given all (i ∷ []) (suc n) j status at asks living e alive distinct st = cc
  ends_at s before source given all (i ∷ k ∷ js) (suc n) j status at asks living e alive distinct st =
      ends_at s (Some i.pid) (FromPipe i.to) (written_by m i.stage) (has_ended i.stage) (k ∷ js) n j status at asks living e alive distinct.1 st.3

  -- ---- the last stage
  pub last_holds : (s : KernelState) (before : Option ℕ) (source : Source) (given : List ℕ) (all : Bool) (js : List (StageProcess S)) (n : ℕ) (j : StageProcess S) (status : ℕ) → slice_get js n ≡ Some j → behind n js ≡ [] → let t = turn m s j.task in
      (course_of m j.stage).ask ≡ End status → Stands m s.machine before source given all js → Holds t.machine.machine j.to (written_by m j.stage)
  last_holds s before source given all [] n j status at last asks st = cc
  last_holds s before source given all (i ∷ []) zero j status at last asks st =
      let same : i ≡ j = cc in
      let own = subst (λ (x : StageProcess S). Stands m s.machine before source given all (x ∷ [])) same st in
      let x = ends m s j.pid j.stage j.task given all status own.0 asks in
      record {
        file = own.2.file;
        there = ap (λ (u : KernelState). slice_get u.machine.files.nodes j.to) x.1 ∙ (end_keeps_node s j.pid status j.to ∙ own.2.holds);
        content = own.2.content;
      }
  last_holds s before source given all (i ∷ k ∷ js) zero j status at last asks st = cc
  last_holds s before source given all (i ∷ []) (suc n) j status at last asks st = cc
  last_holds s before source given all (i ∷ k ∷ js) (suc n) j status at last asks st =
      last_holds s (Some i.pid) (FromPipe i.to) (written_by m i.stage) (has_ended i.stage) (k ∷ js) n j status at last asks st.3
