-- Turns of processes that run stages.
use Rattle.std.proofs.Common.{◌≡◌, ℕ, ◌+◌, ◌≤◌, ◌<◌, List, [], ◌∷◌, ◌++◌, length, take, drop, Bool, true, Some, refl, sym, ap, ◌∙◌, subst, arith, append_assoc, append-nil, length-append, length-drop, length-take, take-append-drop, le-leb}
use Rattle.sh_exec.specs.Programs.{asking, end_turn, read_by, read_turn, stop_turn, with_next, write_by, write_turn}
use Rattle.sh_exec.specs.Starting.{program_in}
use Rattle.sh_exec.specs.Turns.{by_program, turn}
use Rattle.sh_exec.specs.declared.task.Task.{Task}
use Rattle.sh_exec.specs.declared.task.Task.TheVariants.{Asks}
use Rattle.sh_exec_machine.specs.Transfers.{Giving, Taking, give_bytes, take_bytes}
use Rattle.sh_files.specs.Nodes.{write_fits}
use Rattle.sh_kernel.specs.Calls.{end_call, kill_call}
use Rattle.sh_kernel.specs.State.{KernelState}
use Rattle.sh_kernel_descriptors.specs.Descriptors.{has_writer}
use Rattle.sh_kernel_descriptors.specs.declared.descriptor.DescriptorRef.TheVariants.{Number}
use Rattle.sh_kernel_processes.specs.declared.target.SignalTarget.TheVariants.{Process}
use Rattle.sh_pipe.specs.Pipe.{PipeState}
use Rattle.sh_laws_pipelines.proofs.FileWriting.{file_given}
use Rattle.sh_laws_pipelines.proofs.Reading.{Ended, PipeTaken, StaysEmpty, TookSome, file_taken, file_taken_by, pipe_taken}
use Rattle.sh_laws_pipelines.proofs.Slots.{set_same}
use Rattle.sh_laws_pipelines.proofs.Waiting.{reads_wait, writes_wait}
use Rattle.sh_laws_pipelines.proofs.Writing.{GaveAll, GaveSome, PipeGiven, StaysFull, pipe_given}
use Rattle.sh_laws_pipelines.specs.Joined.{ReadsFile, ReadsPipe, WritesFile, WritesPipe}
use Rattle.sh_laws_pipelines.specs.Turns.{IsLeft, Part, ReadFromFile, ReadFromPipe, Runs, Stepped, Took, WaitsForBytes, WaitsForRoom, Went, Whole, WrittenToFile, WrittenToPipe}
use Rattle.sh_laws_pipelines.specs.Pipelines.{Ends, Idles, Reads, ReadsEnd, Stage, StageStep, Stops, Writes, WritesAll, answered, course_of, written_by}
use Rattle.sh_signal.specs.declared.signal.Signal.TheVariants as signal
use Rattle.sh_stock.specs.Asking.{KeepsLaws, Meaning}
use Rattle.sh_stock.specs.Filtering.{course, written_after}
use Rattle.sh_stock.specs.declared.asking.Answer.{Answer}
use Rattle.sh_stock.specs.declared.asking.Answer.TheVariants.{Bytes, Done}
use Rattle.sh_stock.specs.declared.asking.Ask.{Ask}
use Rattle.sh_stock.specs.declared.asking.Ask.TheVariants.{End, Idle, Read, Stop, Write}

-- ---- what is left of an ask
read_left : (ask : Ask) (gone : List ℕ) (left : Ask) (count : ℕ) → IsLeft ask gone left → ask ≡ Read count → (left ≡ Read count) × (gone ≡ [])
read_left ask gone left count (Whole none same) asks = (same ∙ asks, none)
read_left ask gone left count (Part rest some writes same) asks = let both : Write (gone ++ rest) ≡ Read count = sym writes ∙ asks in absurd (cc)

stop_left : (ask : Ask) (gone : List ℕ) (left : Ask) → IsLeft ask gone left → ask ≡ Stop → (left ≡ Stop) × (gone ≡ [])
stop_left ask gone left (Whole none same) asks = (same ∙ asks, none)
stop_left ask gone left (Part rest some writes same) asks = let both : Write (gone ++ rest) ≡ Stop = sym writes ∙ asks in absurd (cc)

idle_left : (ask : Ask) (gone : List ℕ) (left : Ask) → IsLeft ask gone left → ask ≡ Idle → (left ≡ Idle) × (gone ≡ [])
idle_left ask gone left (Whole none same) asks = (same ∙ asks, none)
idle_left ask gone left (Part rest some writes same) asks = let both : Write (gone ++ rest) ≡ Idle = sym writes ∙ asks in absurd (cc)

end_left : (ask : Ask) (gone : List ℕ) (left : Ask) (status : ℕ) → IsLeft ask gone left → ask ≡ End status → left ≡ End status
end_left ask gone left status (Whole none same) asks = same ∙ asks
end_left ask gone left status (Part rest some writes same) asks = let both : Write (gone ++ rest) ≡ End status = sym writes ∙ asks in absurd (cc)

record Rest (ask : Ask) (gone : List ℕ) (left : Ask) : Type 0 where
  rest : List ℕ
  some : 1 ≤ length rest
  writes : ask ≡ Write (gone ++ rest)
  same : left ≡ Write rest

write_left : (ask : Ask) (gone : List ℕ) (left : Ask) (bytes : List ℕ) → IsLeft ask gone left → ask ≡ Write bytes → 1 ≤ length bytes → Rest ask gone left
write_left ask gone left bytes (Whole none same) asks some =
    record { rest = bytes; some = some; writes = asks ∙ ap (λ (g : List ℕ). Write (g ++ bytes)) (sym none); same = same ∙ asks }
write_left ask gone left bytes (Part rest some writes same) asks least = record { rest = rest; some = some; writes = writes; same = same }

-- ---- bytes
drop_behind : (xs ys : List ℕ) → drop (length xs) (xs ++ ys) ≡ ys
drop_behind [] ys = refl
drop_behind (x ∷ xs) ys = drop_behind xs ys

few : (count : ℕ) (bytes : List ℕ) → length (take count bytes) ≤ count
few count bytes = let e = length-take count bytes in omega (arith, e)

nothing_behind : (count : ℕ) (bytes : List ℕ) → 1 ≤ count → take count bytes ≡ [] → bytes ≡ []
nothing_behind count [] least h = refl
nothing_behind count (byte ∷ bytes) least h = let e = sym (length-take count (byte ∷ bytes)) ∙ ap length h in absurd (omega (arith, e, least))

module _ {S : Type 0} (m : Meaning S) where
  -- ---- what courses ask for
  reads_some : KeepsLaws m → (program : S) (answers : List Answer) (count : ℕ) → (course m program answers).ask ≡ Read count → 1 ≤ count
  reads_some laws program [] count h = laws.reads program _ count h
  reads_some laws program (answer ∷ answers) count h = laws.reads (course m program answers).program answer count h

  writes_some : KeepsLaws m → (program : S) (answers : List Answer) (bytes : List ℕ) → (course m program answers).ask ≡ Write bytes → 1 ≤ length bytes
  writes_some laws program [] bytes h = laws.writes program _ bytes h
  writes_some laws program (answer ∷ answers) bytes h = laws.writes (course m program answers).program answer bytes h

  answered_runs : (pid : ℕ) (stage : Stage S) (answer : Answer) → Runs m pid (answered stage answer) (program_in pid (asking m (course_of m stage).program answer))
  answered_runs pid stage answer = record { left = (course_of m (answered stage answer)).ask; is_left = Whole refl refl; same = refl }

  -- nothing is written by what is no write
  nothing_gone : (written gone : List ℕ) → gone ≡ [] → written ++ [] ≡ (written ++ gone) ++ []
  nothing_gone written gone none = ap (λ (l : List ℕ). l ++ []) (sym (ap (λ (g : List ℕ). written ++ g) none ∙ append-nil written))

  -- ---- a read from a pipe
  from_pipe : (s : KernelState) (pid : ℕ) (stage : Stage S) (given : List ℕ) (all : Bool) (count : ℕ) (t : Taking) → (course_of m stage).ask ≡ Read count → stage.gone ≡ [] → (r : ReadsPipe s.machine pid given all (course_of m stage).read)
      → PipeTaken s r.pipe r.state (has_writer s.machine.descriptors s.machine.descriptions r.pipe) count t
      → ReadFromPipe m s pid given all stage (Asks pid (Read count) (course_of m stage).program) r (by_program pid (with_next t.after (read_by m count (course_of m stage).program t.told)))
  from_pipe s pid stage given all count t asks none r (StaysEmpty empty written_to h) =
      let c = course_of m stage in
      subst (λ (u : Taking). ReadFromPipe m s pid given all stage (Asks pid (Read count) c.program) r (by_program pid (with_next u.after (read_by m count c.program u.told)))) (sym h) (WaitsForBytes (reads_wait s pid count c.program given all c.read r empty written_to) empty written_to refl refl)
  from_pipe s pid stage given all count t asks none r (Ended empty end h) =
      let c = course_of m stage in
      let whole : c.read ≡ given = sym (append-nil c.read) ∙ ap (λ (l : List ℕ). c.read ++ l) (sym empty) ∙ r.bytes in
      subst (λ (u : Taking). ReadFromPipe m s pid given all stage (Asks pid (Read count) c.program) r (by_program pid (with_next u.after (read_by m count c.program u.told)))) (sym h)
      (Took [] r.state.bytes refl
      (ap (λ pipes. let u : KernelState = record s { machine = record s.machine { pipes = pipes } } in u) (sym (set_same s.machine.pipes r.pipe (Some r.state) r.slot)))
      (record {
        later = answered stage (Bytes []);
        step = ReadsEnd count asks whole (r.end end);
        runs = answered_runs pid stage (Bytes []);
        reads = refl;
        writes = ap (λ (a : Ask). written_after c.written a ++ []) asks ∙ nothing_gone c.written stage.gone none;
      }))
  from_pipe s pid stage given all count t asks none r (TookSome byte others rest split few h) =
      let c = course_of m stage in
      subst (λ (u : Taking). ReadFromPipe m s pid given all stage (Asks pid (Read count) c.program) r (by_program pid (with_next u.after (read_by m count c.program u.told)))) (sym h)
      (Took (byte ∷ others) rest split refl
      (record {
        later = answered stage (Bytes (byte ∷ others));
        step = Reads count byte others asks few (rest, append_assoc c.read (byte ∷ others) rest ∙ (ap (λ (l : List ℕ). c.read ++ l) split ∙ r.bytes));
        runs = answered_runs pid stage (Bytes (byte ∷ others));
        reads = refl;
        writes = ap (λ (a : Ask). written_after c.written a ++ []) asks ∙ nothing_gone c.written stage.gone none;
      }))

  pub reads_pipe : KeepsLaws m → (s : KernelState) (pid : ℕ) (stage : Stage S) (task : Task S) (given : List ℕ) (all : Bool) (count : ℕ) → Runs m pid stage task → (course_of m stage).ask ≡ Read count
      → (r : ReadsPipe s.machine pid given all (course_of m stage).read) → ReadFromPipe m s pid given all stage task r (turn m s task)
  unfolding read_turn
  reads_pipe laws s pid stage task given all count runs asks r =
      let c = course_of m stage in
      let left = read_left c.ask stage.gone runs.left count runs.is_left asks in
      subst (λ (u : Task S). ReadFromPipe m s pid given all stage u r (turn m s u)) (sym (runs.same ∙ ap (λ (a : Ask). Asks pid a c.program) left.0))
      (from_pipe s pid stage given all count (take_bytes s pid (Number 0) count) asks left.1 r (pipe_taken s pid count given all c.read r (reads_some laws stage.program stage.answers count asks)))

  -- ---- a read from a file
  -- what is taken of a file behind a beginning is a beginning, or there is nothing behind it
  file_step : (pid : ℕ) (stage : Stage S) (given : List ℕ) (all : Bool) (count : ℕ) (bytes rest : List ℕ) → (course_of m stage).ask ≡ Read count → stage.gone ≡ [] → all ≡ true → length bytes ≤ count
      → ((course_of m stage).read ++ bytes) ++ rest ≡ given → (bytes ≡ [] → (course_of m stage).read ≡ given) → Stepped m pid given all stage bytes [] (program_in pid (asking m (course_of m stage).program (Bytes bytes)))
  file_step pid stage given all count [] rest asks none whole few begins end =
      let c = course_of m stage in
      record {
        later = answered stage (Bytes []);
        step = ReadsEnd count asks (end refl) whole;
        runs = answered_runs pid stage (Bytes []);
        reads = refl;
        writes = ap (λ (a : Ask). written_after c.written a ++ []) asks ∙ nothing_gone c.written stage.gone none;
      }
  file_step pid stage given all count (byte ∷ bytes) rest asks none whole few begins end =
      let c = course_of m stage in
      record {
        later = answered stage (Bytes (byte ∷ bytes));
        step = Reads count byte bytes asks few (rest, begins);
        runs = answered_runs pid stage (Bytes (byte ∷ bytes));
        reads = refl;
        writes = ap (λ (a : Ask). written_after c.written a ++ []) asks ∙ nothing_gone c.written stage.gone none;
      }

  from_file : (s : KernelState) (pid : ℕ) (stage : Stage S) (given : List ℕ) (all : Bool) (count : ℕ) → 1 ≤ count → (course_of m stage).ask ≡ Read count → stage.gone ≡ [] → (r : ReadsFile s.machine pid given all (course_of m stage).read)
      → ReadFromFile m s pid given all stage r (by_program pid (let t = file_taken s r.opened.place r.opened.description (take count (drop r.opened.description.offset r.file.bytes)) in with_next t.after (read_by m count (course_of m stage).program t.told)))
  from_file s pid stage given all count least asks none r =
      let c = course_of m stage in
      let bytes = take count (drop r.opened.description.offset r.file.bytes) in
      let behind : drop r.opened.description.offset r.file.bytes ≡ r.begun.0 =
      ap (λ (n : ℕ). drop n r.file.bytes) r.offset ∙ ap (λ (l : List ℕ). drop (length c.read) l) (r.content ∙ sym r.begun.1) ∙ drop_behind c.read r.begun.0 in
      let split : (c.read ++ bytes) ++ drop count r.begun.0 ≡ given =
      ap (λ (l : List ℕ). (c.read ++ take count l) ++ drop count r.begun.0) behind ∙ append_assoc c.read (take count r.begun.0) (drop count r.begun.0)
      ∙ ap (λ (l : List ℕ). c.read ++ l) (take-append-drop count r.begun.0) ∙ r.begun.1 in
      record {
        taken = bytes;
        begun = (drop count r.begun.0, split);
        machine = refl;
        stepped = file_step pid stage given all count bytes (drop count r.begun.0) asks none r.whole (few count (drop r.opened.description.offset r.file.bytes)) split
            (λ h. sym (append-nil c.read) ∙ ap (λ (l : List ℕ). c.read ++ l) (sym (nothing_behind count r.begun.0 least (ap (λ (l : List ℕ). take count l) (sym behind) ∙ h))) ∙ r.begun.1);
      }

  pub reads_file : KeepsLaws m → (s : KernelState) (pid : ℕ) (stage : Stage S) (task : Task S) (given : List ℕ) (all : Bool) (count : ℕ) → Runs m pid stage task → (course_of m stage).ask ≡ Read count
      → (r : ReadsFile s.machine pid given all (course_of m stage).read) → ReadFromFile m s pid given all stage r (turn m s task)
  unfolding read_turn
  reads_file laws s pid stage task given all count runs asks r =
      let c = course_of m stage in
      let left = read_left c.ask stage.gone runs.left count runs.is_left asks in
      subst (λ (u : Task S). ReadFromFile m s pid given all stage r (turn m s u)) (sym (runs.same ∙ ap (λ (a : Ask). Asks pid a c.program) left.0))
      (subst (λ (t : Taking). ReadFromFile m s pid given all stage r (by_program pid (with_next t.after (read_by m count c.program t.told)))) (sym (file_taken_by s pid count given all c.read r))
      (from_file s pid stage given all count (reads_some laws stage.program stage.answers count asks) asks left.1 r))

  -- ---- a write
  -- all that is left goes
  whole_step : (pid : ℕ) (stage : Stage S) (given : List ℕ) (all : Bool) (rest : List ℕ) → (course_of m stage).ask ≡ Write (stage.gone ++ rest) → Stepped m pid given all stage [] rest (program_in pid (asking m (course_of m stage).program Done))
  whole_step pid stage given all rest asks =
      let c = course_of m stage in
      record {
        later = answered stage Done;
        step = WritesAll rest asks;
        runs = answered_runs pid stage Done;
        reads = sym (append-nil c.read);
        writes = ap (λ (a : Ask). written_after c.written a ++ []) asks ∙ append-nil (c.written ++ (stage.gone ++ rest)) ∙ sym (append_assoc c.written stage.gone rest);
      }

  -- a part of it goes
  part_step : (pid : ℕ) (stage : Stage S) (given : List ℕ) (all : Bool) (rest : List ℕ) (count : ℕ) → count < length rest → (course_of m stage).ask ≡ Write (stage.gone ++ rest)
      → Stepped m pid given all stage [] (take count rest) (Asks pid (Write (drop count rest)) (course_of m stage).program)
  part_step pid stage given all rest count less asks =
      let c = course_of m stage in
      let split = ap (λ (l : List ℕ). Write (stage.gone ++ l)) (sym (take-append-drop count rest)) in
      let dropped = length-drop count rest in
      record {
        later = record stage { gone = stage.gone ++ take count rest };
        step = Writes (take count rest) (drop count rest) (asks ∙ split);
        runs = record {
          left = Write (drop count rest);
          is_left = Part (drop count rest) (omega (arith, dropped, less)) (asks ∙ split ∙ ap (λ (l : List ℕ). Write l) (sym (append_assoc stage.gone (take count rest) (drop count rest)))) refl;
          same = refl;
        };
        reads = sym (append-nil c.read);
        writes = sym (append_assoc c.written stage.gone (take count rest));
      }

  to_pipe : (s : KernelState) (pid : ℕ) (stage : Stage S) (given : List ℕ) (all : Bool) (pipe : ℕ) (state : PipeState) (rest : List ℕ) (g : Giving) → WritesPipe s.machine pid pipe state → (course_of m stage).ask ≡ Write (stage.gone ++ rest) → PipeGiven s pipe state rest g
      → WrittenToPipe m s pid given all stage (Asks pid (Write rest) (course_of m stage).program) pipe state (by_program pid (with_next g.after (write_by m rest (course_of m stage).program g.told)))
  to_pipe s pid stage given all pipe state rest g w asks (StaysFull full h) =
      let c = course_of m stage in
      subst (λ (u : Giving). WrittenToPipe m s pid given all stage (Asks pid (Write rest) c.program) pipe state (by_program pid (with_next u.after (write_by m rest c.program u.told)))) (sym h) (WaitsForRoom (writes_wait s pid pipe state rest c.program w full) rest refl full refl refl)
  to_pipe s pid stage given all pipe state rest g w asks (GaveSome count less h) =
      let c = course_of m stage in
      subst (λ (u : Giving). WrittenToPipe m s pid given all stage (Asks pid (Write rest) c.program) pipe state (by_program pid (with_next u.after (write_by m rest c.program u.told)))) (sym h)
      (Went (take count rest) refl (part_step pid stage given all rest count less asks))
  to_pipe s pid stage given all pipe state rest g w asks (GaveAll h) =
      let c = course_of m stage in
      subst (λ (u : Giving). WrittenToPipe m s pid given all stage (Asks pid (Write rest) c.program) pipe state (by_program pid (with_next u.after (write_by m rest c.program u.told)))) (sym h)
      (Went rest refl (whole_step pid stage given all rest asks))

  pub writes_pipe : KeepsLaws m → (s : KernelState) (pid : ℕ) (stage : Stage S) (task : Task S) (given : List ℕ) (all : Bool) (bytes : List ℕ) (pipe : ℕ) (state : PipeState) → Runs m pid stage task → (course_of m stage).ask ≡ Write bytes
      → WritesPipe s.machine pid pipe state → WrittenToPipe m s pid given all stage task pipe state (turn m s task)
  unfolding write_turn
  writes_pipe laws s pid stage task given all bytes pipe state runs asks w =
      let c = course_of m stage in
      let l = write_left c.ask stage.gone runs.left bytes runs.is_left asks (writes_some laws stage.program stage.answers bytes asks) in
      subst (λ (u : Task S). WrittenToPipe m s pid given all stage u pipe state (turn m s u)) (sym (runs.same ∙ ap (λ (a : Ask). Asks pid a c.program) l.same))
      (to_pipe s pid stage given all pipe state l.rest (give_bytes s pid 1 l.rest) w l.writes (pipe_given s pid pipe state l.rest w))

  -- a file has room for what is left where it has room for all
  fits : (written gone : List ℕ) (byte : ℕ) (rest bytes : List ℕ) → bytes ≡ gone ++ byte ∷ rest → length (written ++ bytes) ≤ 1073741824 → write_fits (length (written ++ gone)) (byte ∷ rest) ≡ true
  fits written gone byte rest bytes same most =
      let all = length-append written bytes in
      let both = ap length same ∙ length-append gone (byte ∷ rest) in
      let front = length-append written gone in
      le-leb (length (written ++ gone) + length (byte ∷ rest)) 1073741824 (omega (arith, all, both, front, most))

  to_file : (s : KernelState) (pid : ℕ) (stage : Stage S) (given : List ℕ) (all : Bool) (number : ℕ) (rest bytes : List ℕ) (w : WritesFile s.machine pid number (written_by m stage)) → 1 ≤ length rest → (course_of m stage).ask ≡ Write (stage.gone ++ rest)
      → bytes ≡ stage.gone ++ rest → length ((course_of m stage).written ++ bytes) ≤ 1073741824
      → WrittenToFile m s pid given all stage number w (by_program pid (let g = give_bytes s pid 1 rest in with_next g.after (write_by m rest (course_of m stage).program g.told)))
  to_file s pid stage given all number [] bytes w some asks same most = absurd (omega (arith, some))
  to_file s pid stage given all number (byte ∷ rest) bytes w some asks same most =
      let c = course_of m stage in
      subst (λ (g : Giving). WrittenToFile m s pid given all stage number w (by_program pid (with_next g.after (write_by m (byte ∷ rest) c.program g.told))))
      (sym (file_given s pid number byte rest (written_by m stage) w (fits c.written stage.gone byte rest bytes same most)))
      (record { bytes = byte ∷ rest; machine = refl; stepped = whole_step pid stage given all (byte ∷ rest) asks })

  pub writes_file : KeepsLaws m → (s : KernelState) (pid : ℕ) (stage : Stage S) (task : Task S) (given : List ℕ) (all : Bool) (bytes : List ℕ) (number : ℕ) → Runs m pid stage task → (course_of m stage).ask ≡ Write bytes
      → (w : WritesFile s.machine pid number (written_by m stage)) → length ((course_of m stage).written ++ bytes) ≤ 1073741824 → WrittenToFile m s pid given all stage number w (turn m s task)
  unfolding write_turn
  writes_file laws s pid stage task given all bytes number runs asks w most =
      let c = course_of m stage in
      let l = write_left c.ask stage.gone runs.left bytes runs.is_left asks (writes_some laws stage.program stage.answers bytes asks) in
      let both : Write bytes ≡ Write (stage.gone ++ l.rest) = sym asks ∙ l.writes in
      subst (λ (u : Task S). WrittenToFile m s pid given all stage number w (turn m s u)) (sym (runs.same ∙ ap (λ (a : Ask). Asks pid a c.program) l.same))
      (to_file s pid stage given all number l.rest bytes w l.some l.writes (cc) most)

  -- ---- the others
  quiet_step : (pid : ℕ) (stage : Stage S) (given : List ℕ) (all : Bool) (ask : Ask) → StageStep m given all stage (answered stage Done) → (course_of m stage).ask ≡ ask → written_after (course_of m stage).written ask ≡ (course_of m stage).written → stage.gone ≡ []
      → Stepped m pid given all stage [] [] (program_in pid (asking m (course_of m stage).program Done))
  quiet_step pid stage given all ask step asks same none =
      let c = course_of m stage in
      record {
        later = answered stage Done;
        step = step;
        runs = answered_runs pid stage Done;
        reads = sym (append-nil c.read);
        writes = ap (λ (a : Ask). written_after c.written a ++ []) asks ∙ (ap (λ (l : List ℕ). l ++ []) same ∙ nothing_gone c.written stage.gone none);
      }

  pub stops : (s : KernelState) (pid : ℕ) (stage : Stage S) (task : Task S) (given : List ℕ) (all : Bool) → Runs m pid stage task → (course_of m stage).ask ≡ Stop
      → Stepped m pid given all stage [] [] (turn m s task).task × ((turn m s task).machine ≡ (kill_call s (Process pid) signal.Stop).after)
  unfolding stop_turn
  stops s pid stage task given all runs asks =
      let c = course_of m stage in
      let left = stop_left c.ask stage.gone runs.left runs.is_left asks in
      subst (λ (u : Task S). Stepped m pid given all stage [] [] (turn m s u).task × ((turn m s u).machine ≡ (kill_call s (Process pid) signal.Stop).after)) (sym (runs.same ∙ ap (λ (a : Ask). Asks pid a c.program) left.0))
      (quiet_step pid stage given all Stop (Stops asks) asks refl left.1, refl)

  pub idles : (s : KernelState) (pid : ℕ) (stage : Stage S) (task : Task S) (given : List ℕ) (all : Bool) → Runs m pid stage task → (course_of m stage).ask ≡ Idle
      → Stepped m pid given all stage [] [] (turn m s task).task × ((turn m s task).machine ≡ s)
  idles s pid stage task given all runs asks =
      let c = course_of m stage in
      let left = idle_left c.ask stage.gone runs.left runs.is_left asks in
      subst (λ (u : Task S). Stepped m pid given all stage [] [] (turn m s u).task × ((turn m s u).machine ≡ s)) (sym (runs.same ∙ ap (λ (a : Ask). Asks pid a c.program) left.0))
      (quiet_step pid stage given all Idle (Idles asks) asks refl left.1, refl)

  end_step : (pid : ℕ) (stage : Stage S) (given : List ℕ) (all : Bool) (status : ℕ) (left : Ask) → IsLeft (course_of m stage).ask stage.gone left → left ≡ End status → (course_of m stage).ask ≡ End status
      → Stepped m pid given all stage [] [] (Asks pid (End status) (course_of m stage).program)
  end_step pid stage given all status left is_left same asks =
      let c = course_of m stage in
      record {
        later = record stage { end = Some status };
        step = Ends status asks;
        runs = record { left = left; is_left = is_left; same = ap (λ (a : Ask). Asks pid a c.program) (sym same) };
        reads = sym (append-nil c.read);
        writes = sym (append-nil (c.written ++ stage.gone));
      }

  pub ends : (s : KernelState) (pid : ℕ) (stage : Stage S) (task : Task S) (given : List ℕ) (all : Bool) (status : ℕ) → Runs m pid stage task → (course_of m stage).ask ≡ End status
      → Stepped m pid given all stage [] [] (turn m s task).task × ((turn m s task).machine ≡ (end_call s pid status).after)
  unfolding end_turn
  ends s pid stage task given all status runs asks =
      let c = course_of m stage in
      let same = end_left c.ask stage.gone runs.left status runs.is_left asks in
      subst (λ (u : Task S). Stepped m pid given all stage [] [] (turn m s u).task × ((turn m s u).machine ≡ (end_call s pid status).after)) (sym (runs.same ∙ ap (λ (a : Ask). Asks pid a c.program) same))
      (end_step pid stage given all status runs.left runs.is_left same asks, refl)
