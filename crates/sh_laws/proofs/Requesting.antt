-- Files behind the requests of a process.
use Rattle.std.proofs.Common.{ℕ, List, [], ◌∷◌, subst, sym}
use Rattle.sh_files.specs.Whole.{IsWhole}
use Rattle.sh_files.proofs.Changed.{write_whole}
use Rattle.sh_files.proofs.Nameless.{nameless_whole}
use Rattle.sh_kernel_descriptors.specs.Machine.{MachineState}
use Rattle.sh_kernel.specs.Requests.{Request, after_request, after_requests}
use Rattle.sh_kernel.specs.State.{KernelState}
use Rattle.sh_kernel.proofs.Endings.{endings}
use Rattle.sh_kernel.proofs.Requesting.{by_cases}
use Rattle.sh_laws.specs.Rooted.{AreRooted, IsRooted}
use Rattle.sh_laws.proofs.Opening.{opened_whole}

abbrev FilesWhole : MachineState → Type 0
FilesWhole m = IsWhole m.files

pub request_keeps : (s : KernelState) (pid : ℕ) (r : Request) → IsRooted r → IsWhole s.machine.files → IsWhole (after_request s pid r).machine.files
request_keeps s pid r i w =
    by_cases s pid r FilesWhole (record {
      same = w;
      goes_on = λ k offset held. w;
      pipe = λ k pipe slot held e. w;
      file = λ k node start end bytes files held at is. write_whole s.machine.files files node start bytes w is;
      closes = λ closing. w;
      signals = λ ps pids only signalled. subst IsWhole (sym (endings s.machine ps pids).files) w;
      numbers = λ number k held. w;
      renames = λ name number. w;
      back = λ k number. w;
      forks = w;
      makes_pipe = λ from to. w;
      opens = λ directory path how append number o is e. opened_whole s.machine.files o.1 directory path how o.0 (subst IsRooted is i) w e;
      heres = λ bytes number o is e. (nameless_whole s.machine.files o.1 o.0 bytes w e).0;
    })

pub requests_keep : (s : KernelState) (pid : ℕ) (rs : List Request) → AreRooted rs → IsWhole s.machine.files → IsWhole (after_requests s pid rs).machine.files
requests_keep s pid [] i w = w
requests_keep s pid (r ∷ rs) i w = requests_keep (after_request s pid r) pid rs i.1 (request_keeps s pid r i.0 w)
