-- Turns that read and write at different places are independent.
use Rattle.std.proofs.Common.{◌≡◌, ◌≢◌, ℕ, ◌==◌, ◌&&◌, ◌||◌, Bool, true, false, not, Option, Some, None, refl, sym, eq-eqb, option_and_then}
use Rattle.sh_kernel_descriptors.specs.Descriptors.{description_number}
use Rattle.sh_kernel_descriptors.specs.Machine.{MachineState}
use Rattle.sh_kernel_descriptors.specs.declared.description.Target.{Target}
use Rattle.sh_kernel_descriptors.specs.declared.descriptor.DescriptorRef.{DescriptorRef}
use Rattle.sh_kernel_descriptors.specs.declared.descriptor.DescriptorRef.TheVariants.{Number}
use Rattle.sh_kernel.specs.Laws.{sends, target_at}
use Rattle.sh_kernel.specs.Requests.{Read, Request, Write}
use Rattle.sh_kernel.specs.State.{KernelState}
use Rattle.sh_laws_independence.specs.Independence.{LeadsTo, are_elsewhere}
use Rattle.sh_laws_independence.proofs.Elsewhere.{apart_flips, both_elsewhere, reads_elsewhere, writes_elsewhere}
use Rattle.sh_laws_independence.proofs.Waiting.{flipped}
use Rattle.sh_laws_independence.specs.IndependentTurns.{AreIndependentTurns, RequestsAreIndependent, are_elsewhere_in, is_idle, lead_elsewhere, lead_of, request_of, sends_none, target_of}
use Rattle.sh_stock.specs.declared.asking.Ask.{Ask}
use Rattle.sh_stock.specs.declared.asking.Ask.TheVariants as ask

not_true : (b : Bool) → not b ≡ true → b ≡ false
not_true true h = absurd (cc)
not_true false h = refl

left : (a b : Bool) → (a && b) ≡ true → a ≡ true
left true b h = refl
left false b h = absurd (cc)

right : (a b : Bool) → (a && b) ≡ true → b ≡ true
right true b h = h
right false b h = absurd (cc)

leads : (m : MachineState) (pid : ℕ) (name : DescriptorRef) (t : Target) (o : Option ℕ) → description_number m.descriptors pid name ≡ o → option_and_then (λ k. target_at m.descriptions k) o ≡ Some t → LeadsTo m pid name t
leads m pid name t None is h = absurd (cc)
leads m pid name t (Some k) is h = record { number = k; refers = is; leads = h }

-- what follows from where both lead
with_leads : {P : Type 0} (m : MachineState) (p q : ℕ) (name name' : DescriptorRef) → ((t t' : Target) → LeadsTo m p name t → LeadsTo m q name' t' → are_elsewhere t t' ≡ true → P) → (o o' : Option Target) → target_of m p name ≡ o → target_of m q name' ≡ o' → lead_elsewhere o o' ≡ true → P
with_leads m p q name name' then None o' is is' h = absurd (cc)
with_leads m p q name name' then (Some t) None is is' h = absurd (cc)
with_leads m p q name name' then (Some t) (Some t') is is' h =
    then t t' (leads m p name t (description_number m.descriptors p name) refl is) (leads m q name' t' (description_number m.descriptors q name') refl is') h

idle_first : (s : KernelState) (p q : ℕ) (o' : Option Request) → sends_none s q o' ≡ true → RequestsAreIndependent s p None q o'
idle_first s p q None h = tt
idle_first s p q (Some r') h = not_true (sends s q r') h

idle_second : (s : KernelState) (p q : ℕ) (o : Option Request) → sends_none s p o ≡ true → RequestsAreIndependent s p o q None
idle_second s p q None h = tt
idle_second s p q (Some r) h = not_true (sends s p r) h

requests_elsewhere : (s : KernelState) (p q : ℕ) (a a' : Ask) → p ≢ q → sends_none s p (request_of p a) ≡ true → sends_none s q (request_of q a') ≡ true
    → (is_idle a || is_idle a' || lead_elsewhere (lead_of s.machine p a) (lead_of s.machine q a')) ≡ true → RequestsAreIndependent s p (request_of p a) q (request_of q a')
requests_elsewhere s p q (ask.Read count) (ask.Read count') n h h' e =
    with_leads s.machine p q (Number 0) (Number 0) (λ t t' l l' apart. reads_elsewhere s p q (Number 0) (Number 0) count count' t t' n (not_true (sends s p (Read (Number 0) count)) h) (not_true (sends s q (Read (Number 0) count')) h') l l' apart)
    (target_of s.machine p (Number 0)) (target_of s.machine q (Number 0)) refl refl e
requests_elsewhere s p q (ask.Read count) (ask.Write bytes) n h h' e =
    with_leads s.machine p q (Number 0) (Number 1) (λ t t' l l' apart. both_elsewhere s p q (Number 0) count 1 bytes t t' n (not_true (sends s p (Read (Number 0) count)) h) (not_true (sends s q (Write 1 bytes)) h') l l' apart)
    (target_of s.machine p (Number 0)) (target_of s.machine q (Number 1)) refl refl e
requests_elsewhere s p q (ask.Read count) ask.Stop n h h' e = absurd (cc)
requests_elsewhere s p q (ask.Read count) ask.Idle n h h' e = idle_second s p q (request_of p (ask.Read count)) h
requests_elsewhere s p q (ask.Read count) (ask.End status) n h h' e = absurd (cc)
requests_elsewhere s p q (ask.Write bytes) (ask.Read count) n h h' e =
    flipped s q p (Read (Number 0) count) (Write 1 bytes)
    (with_leads s.machine p q (Number 1) (Number 0) (λ t t' l l' apart. both_elsewhere s q p (Number 0) count 1 bytes t' t (λ same. n (sym same)) (not_true (sends s q (Read (Number 0) count)) h') (not_true (sends s p (Write 1 bytes)) h) l' l (apart_flips t t' apart))
    (target_of s.machine p (Number 1)) (target_of s.machine q (Number 0)) refl refl e)
requests_elsewhere s p q (ask.Write bytes) (ask.Write bytes') n h h' e =
    with_leads s.machine p q (Number 1) (Number 1) (λ t t' l l' apart. writes_elsewhere s p q 1 1 bytes bytes' t t' n (not_true (sends s p (Write 1 bytes)) h) (not_true (sends s q (Write 1 bytes')) h') l l' apart)
    (target_of s.machine p (Number 1)) (target_of s.machine q (Number 1)) refl refl e
requests_elsewhere s p q (ask.Write bytes) ask.Stop n h h' e = absurd (cc)
requests_elsewhere s p q (ask.Write bytes) ask.Idle n h h' e = idle_second s p q (request_of p (ask.Write bytes)) h
requests_elsewhere s p q (ask.Write bytes) (ask.End status) n h h' e = absurd (cc)
requests_elsewhere s p q ask.Stop a' n h h' e = absurd (cc)
requests_elsewhere s p q ask.Idle a' n h h' e = idle_first s p q (request_of q a') h'
requests_elsewhere s p q (ask.End status) a' n h h' e = absurd (cc)

pub turns_elsewhere : (s : KernelState) (p q : ℕ) (a a' : Ask) → are_elsewhere_in s p a q a' ≡ true → AreIndependentTurns s p a q a'
turns_elsewhere s p q a a' h =
    let other = not (p == q) in
    let quiet = sends_none s p (request_of p a) in
    let quiet' = sends_none s q (request_of q a') in
    let elsewhere = is_idle a || is_idle a' || lead_elsewhere (lead_of s.machine p a) (lead_of s.machine q a') in
    let three : (other && quiet && quiet') ≡ true = left (other && quiet && quiet') elsewhere h in
    let two : (other && quiet) ≡ true = left (other && quiet) quiet' three in
    let apart : (p == q) ≡ false = not_true (p == q) (left other quiet two) in
    let n : p ≢ q = λ same. let one : (p == q) ≡ true = eq-eqb p q same in absurd (cc) in
    record {
      processes = n;
      requests = requests_elsewhere s p q a a' n (right other quiet two) (right (other && quiet) quiet' three) (right (other && quiet && quiet') elsewhere h);
    }
