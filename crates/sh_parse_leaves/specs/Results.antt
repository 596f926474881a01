-- Results that may be faults, one after another; and what a call may answer, which is the result or want of
-- memory.
use Rattle.std.specs.Prelude.{◌≡◌, ℕ, List, Result, Ok, Err}
use Rattle.std.specs.declared.vec.Vec.{Vec}
use Rattle.std.specs.declared.alloc.Global.{Global}
use Rattle.sh_parse_words.specs.declared.fault.PartFault.{PartFault}
use Rattle.sh_parse_words.specs.declared.fault.PartFault.TheVariants as fault

-- what is made of a value, unless there is a fault
abbrev pub and_then : {A B : Type 0} → Result A PartFault → (A → Result B PartFault) → Result B PartFault
and_then (Ok x) f = f x
and_then (Err e) f = Err e

-- a fault at another place
abbrev pub at_other_place : (ℕ → ℕ) → PartFault → PartFault
at_other_place f (fault.BadSubstitution at) = fault.BadSubstitution (f at)
at_other_place f (fault.TooDeep at) = fault.TooDeep (f at)
at_other_place f (fault.Refused at) = fault.Refused (f at)
at_other_place f (fault.NoMemory lack) = fault.NoMemory lack

abbrev pub fault_moved : {A : Type 0} → (ℕ → ℕ) → Result A PartFault → Result A PartFault
fault_moved f (Ok x) = Ok x
fault_moved f (Err e) = Err (at_other_place f e)

abbrev pub GivesFault : {A : Type 0} → PartFault → Result A PartFault → Type 0
GivesFault (fault.NoMemory _) found = Unit {0}
GivesFault (fault.BadSubstitution at) found = found ≡ Err (fault.BadSubstitution at)
GivesFault (fault.TooDeep at) found = found ≡ Err (fault.TooDeep at)
GivesFault (fault.Refused at) found = found ≡ Err (fault.Refused at)

-- the answer is this one, unless memory was wanting
abbrev pub Gives : {A : Type 0} → Result A PartFault → Result A PartFault → Type 0
Gives (Ok x) found = found ≡ Ok x
Gives (Err e) found = GivesFault e found

-- a call that changes a value answers `Ok` and leaves this value, or answers this fault
abbrev pub Changes : {A B : Type 0} → Result B PartFault → A → Result A PartFault → Type 0
Changes (Ok x) new found = found ≡ Ok new
Changes (Err e) new found = GivesFault e found

-- the same for a vector, which counts as the list of its items
abbrev pub GivesBodies : {A : Type 0} → Result (Vec A Global) PartFault → Result (List A) PartFault → Type 0
GivesBodies (Ok xs) found = found ≡ Ok xs.items
GivesBodies (Err e) found = GivesFault e found
