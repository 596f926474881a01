-- A pipe: the bytes that were written and not yet read, and how many there may be (XSH pipe, read, write).
use Rattle.std.specs.Prelude.{ℕ, ◌-◌, ◌++◌, ◌==◌, List, length, take, drop, Bool, if◌then◌else◌, nat_le, nat_lt, min, Result, Ok, Err}
use Rattle.sh_pipe.specs.declared.PipeFault.{PipeFault}
use Rattle.sh_pipe.specs.declared.PipeFault.TheVariants.{WouldWait, NoReader}

pub record PipeState : Type 0 where
  pub bytes : List ℕ
  pub capacity : ℕ

-- how many bytes of a write go where so many are free: up to PIPE_BUF (512) all or none, above it as many as fit, but at least one
abbrev pub write_count : ℕ → ℕ → Result ℕ PipeFault
write_count len free =
    if nat_le len 512
    then (if nat_le len free then Ok len else Err WouldWait)
    else (if nat_lt 0 free then Ok (min free len) else Err WouldWait)

abbrev pub write_result : PipeState → List ℕ → Bool → Result ℕ PipeFault
write_result p bytes has_reader =
    if has_reader then write_count (length bytes) (p.capacity - length p.bytes) else Err NoReader

-- how many bytes went
abbrev pub count_of : Result ℕ PipeFault → ℕ
count_of (Ok n) = n
count_of (Err _) = 0

abbrev pub after_write : PipeState → List ℕ → Bool → PipeState
after_write p bytes has_reader =
    record p { bytes = p.bytes ++ take (count_of (write_result p bytes has_reader)) bytes }

-- a read of up to n bytes takes what is there; an empty pipe is at its end where no writer is left
abbrev pub read_result : PipeState → ℕ → Bool → Result ℕ PipeFault
read_result p n has_writer =
    if length p.bytes == 0
    then (if has_writer then Err WouldWait else Ok 0)
    else Ok (min n (length p.bytes))

abbrev pub after_read : PipeState → ℕ → Bool → PipeState
after_read p n has_writer = record p { bytes = drop (count_of (read_result p n has_writer)) p.bytes }

-- what the caller's buffer holds after the read
abbrev pub read_buffer : PipeState → List ℕ → Bool → List ℕ
read_buffer p buf has_writer =
    let n = count_of (read_result p (length buf) has_writer) in
    take n p.bytes ++ drop n buf
