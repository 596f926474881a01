-- Reads of a pipe and writes to it, as its bytes go.
use Rattle.std.proofs.Common.{◌≡◌, ℕ, zero, suc, ◌-◌, ◌≤◌, min, nat_le, nat_lt, List, [], ◌∷◌, ◌++◌, length, take, drop, Bool, true, false, cond, Option, Some, Result, Ok, Err, slice_get, slice_set, refl, sym, ap, arith, ne_eqb, append-nil, take-append-drop, length-take}
use Rattle.sh_kernel_descriptors.specs.Outcomes.{Done}
use Rattle.sh_kernel_descriptors.specs.Reading.{pipe_bytes, read_slot}
use Rattle.sh_kernel_descriptors.specs.declared.fault.KernelFault.TheVariants.{WouldWait}
use Rattle.sh_pipe.specs.Pipe.{PipeState, count_of, write_result}
use Rattle.sh_kernel_descriptors.specs.Writing.{pipe_count, write_slot}
use Rattle.sh_pipe.specs.declared.PipeFault.{PipeFault}
use Rattle.sh_pipe.specs.declared.PipeFault.TheVariants as fault

-- ---- lists
pub set_same : {X : Type 0} (xs : List X) (i : ℕ) (x : X) → slice_get xs i ≡ Some x → slice_set xs i x ≡ xs
set_same [] i x h = refl
set_same (y ∷ xs) zero x h = let same : y ≡ x = cc in ap (λ z. z ∷ xs) (sym same)
set_same (y ∷ xs) (suc i) x h = ap (λ zs. y ∷ zs) (set_same xs i x h)

-- what is taken of bytes that are there, where at least one is asked for
pub data IsTaken (bytes : List ℕ) (taken rest : List ℕ) : Type 0 where
  Some_of : (byte : ℕ) (others : List ℕ) → taken ≡ byte ∷ others → taken ++ rest ≡ bytes → IsTaken bytes taken rest

takes : (n byte : ℕ) (bytes : List ℕ) → 1 ≤ n → IsTaken (byte ∷ bytes) (take n (byte ∷ bytes)) (drop n (byte ∷ bytes))
takes zero byte bytes h = absurd (omega (arith, h))
takes (suc n) byte bytes h = Some_of byte (take n bytes) refl (take-append-drop (suc n) (byte ∷ bytes))

-- ---- a read
-- it waits, or comes to the end of file, or takes some of what is there
pub data SlotRead (state : PipeState) (writer : Bool) (count : ℕ) (d : Done (Option PipeState) (List ℕ)) : Type 0 where
  Waits : state.bytes ≡ [] → writer ≡ true → d ≡ record { answer = Err WouldWait; after = Some state } → SlotRead state writer count d
  IsAtEnd : state.bytes ≡ [] → writer ≡ false → d ≡ record { answer = Ok []; after = Some state } → SlotRead state writer count d
  Takes : (byte : ℕ) (others rest : List ℕ) → (byte ∷ others) ++ rest ≡ state.bytes → length (byte ∷ others) ≤ count → d ≡ record { answer = Ok (byte ∷ others); after = Some (record state { bytes = rest }) }
      → SlotRead state writer count d

by_count : (byte : ℕ) (bytes : List ℕ) (capacity : ℕ) (writer : Bool) (count n : ℕ) (d : Done (Option PipeState) (List ℕ)) → 1 ≤ n → n ≤ count
    → d ≡ record { answer = Ok (take n (byte ∷ bytes)); after = Some (record { bytes = drop n (byte ∷ bytes); capacity = capacity }) }
    → SlotRead (record { bytes = byte ∷ bytes; capacity = capacity }) writer count d
by_count byte bytes capacity writer count zero d least most h = absurd (omega (arith, least))
by_count byte bytes capacity writer count (suc n) d least most h =
    let few = length-take n bytes in
    Takes byte (take n bytes) (drop n bytes) (take-append-drop (suc n) (byte ∷ bytes)) (omega (arith, few, most)) h

some_read : (byte : ℕ) (bytes : List ℕ) (capacity : ℕ) (writer : Bool) (count : ℕ) → 1 ≤ count
    → SlotRead (record { bytes = byte ∷ bytes; capacity = capacity }) writer count (read_slot writer count (Some (record { bytes = byte ∷ bytes; capacity = capacity })))
some_read byte bytes capacity writer count least =
    let p : PipeState = record { bytes = byte ∷ bytes; capacity = capacity } in
    by_count byte bytes capacity writer count (min count (length (byte ∷ bytes))) (read_slot writer count (Some p)) (omega (arith, least)) (omega arith)
    (ap (λ (empty : Bool). let r = cond empty (cond writer (Err fault.WouldWait) (Ok 0)) (Ok (min count (length (byte ∷ bytes)))) in
    let d : Done (Option PipeState) (List ℕ) = record { answer = pipe_bytes p r; after = Some (record p { bytes = drop (count_of r) p.bytes }) } in d) (ne_eqb (length (byte ∷ bytes)) 0 (λ h. omega (arith, h))))

pub slot_read : (bytes : List ℕ) (capacity : ℕ) (writer : Bool) (count : ℕ) → 1 ≤ count
    → SlotRead (record { bytes = bytes; capacity = capacity }) writer count (read_slot writer count (Some (record { bytes = bytes; capacity = capacity })))
slot_read [] capacity true count least = Waits refl refl refl
slot_read [] capacity false count least = IsAtEnd refl refl refl
slot_read (byte ∷ bytes) capacity writer count least = some_read byte bytes capacity writer count least

-- ---- a write
-- it waits, or so many of the bytes go
pub data SlotWrite (state : PipeState) (bytes : List ℕ) (d : Done (Option PipeState) ℕ) : Type 0 where
  MustWait : write_result state bytes true ≡ Err fault.WouldWait → d ≡ record { answer = Err WouldWait; after = Some state } → SlotWrite state bytes d
  Go : (count : ℕ) → count ≤ length bytes → d ≡ record { answer = Ok count; after = Some (record state { bytes = state.bytes ++ take count bytes }) } → SlotWrite state bytes d

abbrev written : PipeState → List ℕ → Result ℕ PipeFault → Done (Option PipeState) ℕ
written state bytes r = record { answer = pipe_count r; after = Some (record state { bytes = state.bytes ++ take (count_of r) bytes }) }

waiting : (state : PipeState) (bytes : List ℕ) → write_result state bytes true ≡ Err fault.WouldWait → SlotWrite state bytes (written state bytes (Err fault.WouldWait))
waiting state bytes full =
    MustWait full (ap (λ (bs : List ℕ). let d : Done (Option PipeState) ℕ = record { answer = Err WouldWait; after = Some (record state { bytes = bs }) } in d) (append-nil state.bytes))

abbrev counted : (bytes : List ℕ) (free : ℕ) (small fits some : Bool) → Result ℕ PipeFault
counted bytes free small fits some = cond small (cond fits (Ok (length bytes)) (Err fault.WouldWait)) (cond some (Ok (min free (length bytes))) (Err fault.WouldWait))

by_tests : (state : PipeState) (bytes : List ℕ) (free : ℕ) (small fits some : Bool) → write_result state bytes true ≡ counted bytes free small fits some → SlotWrite state bytes (written state bytes (counted bytes free small fits some))
by_tests state bytes free true true some h = Go (length bytes) (omega arith) refl
by_tests state bytes free true false some h = waiting state bytes h
by_tests state bytes free false fits true h = Go (min free (length bytes)) (omega arith) refl
by_tests state bytes free false fits false h = waiting state bytes h

pub slot_write : (state : PipeState) (bytes : List ℕ) → SlotWrite state bytes (write_slot bytes (Some state))
slot_write state bytes =
    let free = state.capacity - length state.bytes in
    by_tests state bytes free (nat_le (length bytes) 512) (nat_le (length bytes) free) (nat_lt 0 free) refl
