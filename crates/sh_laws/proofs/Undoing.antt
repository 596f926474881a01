-- What ends redirections is a list of requests.
use Rattle.std.proofs.Common.{◌≡◌, ◌≢◌, ℕ, ◌<◌, Bool, true, false, ◌||◌, List, [], ◌∷◌, ◌++◌, length, refl, sym, ap, ◌∙◌, subst}
use Rattle.sh_kernel.specs.State.{KernelState}
use Rattle.sh_kernel.specs.Requests.{Request, after_request, after_requests}
use Rattle.sh_kernel.specs.Laws.{ChangesOnlyReached, IsOwned, OnlyGrows, opens, opens_any, sends, sends_any}
use Rattle.sh_kernel_machine.proofs.Lists.{or_left, or_right}
use Rattle.sh_kernel.proofs.Reached.{lists_grow, lists_leave_owned}
use Rattle.sh_exec_machine.specs.declared.undone.Undone.{Undone}
use Rattle.sh_exec_machine.specs.declared.undone.Undone.TheVariants.{Restore, Close}
use Rattle.sh_exec_machine.specs.Undoing.{after_redirection, after_redirections, without_aside}
use Rattle.sh_laws.specs.Undoing.{undoing, undoing_one}
use Rattle.sh_laws.proofs.RequestLists.{after_requests-append, changes_reached}

one_is : (stay : Bool) (pid : ℕ) (u : Undone) (s : KernelState) → after_redirection stay pid u s ≡ after_requests s pid (undoing_one stay u)
unfolding without_aside
one_is false pid (Restore aside number) s = refl
one_is false pid (Close number) s = refl
one_is true pid (Restore aside number) s = refl
one_is true pid (Close number) s = refl

pub undoing_is : (stay : Bool) (pid : ℕ) (us : List Undone) (s : KernelState) → after_redirections stay pid us s ≡ after_requests s pid (undoing stay us)
undoing_is stay pid [] s = refl
undoing_is stay pid (u ∷ us) s =
    one_is stay pid u (after_redirections stay pid us s)
    ∙ ap (λ (t : KernelState). after_requests t pid (undoing_one stay u)) (undoing_is stay pid us s)
    ∙ sym (after_requests-append s pid (undoing stay us) (undoing_one stay u))

-- ---- no file is opened
one_opens_none : (stay : Bool) (s : KernelState) (pid : ℕ) (u : Undone) (node : ℕ) → opens_any s pid (undoing_one stay u) node ≡ false
one_opens_none false s pid (Restore aside number) node = refl
one_opens_none false s pid (Close number) node = refl
one_opens_none true s pid (Restore aside number) node = refl
one_opens_none true s pid (Close number) node = refl

opens_append : (s : KernelState) (pid : ℕ) (rs more : List Request) (node : ℕ) → opens_any s pid (rs ++ more) node ≡ (opens_any s pid rs node || opens_any (after_requests s pid rs) pid more node)
opens_append s pid [] more node = refl
opens_append s pid (r ∷ rs) more node =
    ap (λ (b : Bool). opens s.machine r node || b) (opens_append (after_request s pid r) pid rs more node)
    ∙ or_assoc (opens s.machine r node) (opens_any (after_request s pid r) pid rs node) (opens_any (after_requests s pid (r ∷ rs)) pid more node)
  where
    or_assoc : (a b c : Bool) → (a || (b || c)) ≡ ((a || b) || c)
    or_assoc true b c = refl
    or_assoc false b c = refl

undoing_opens_none : (stay : Bool) (pid : ℕ) (us : List Undone) (s : KernelState) (node : ℕ) → opens_any s pid (undoing stay us) node ≡ false
undoing_opens_none stay pid [] s node = refl
undoing_opens_none stay pid (u ∷ us) s node =
    let t = after_requests s pid (undoing stay us) in
    opens_append s pid (undoing stay us) (undoing_one stay u) node
    ∙ ap (λ (b : Bool). b || opens_any t pid (undoing_one stay u) node) (undoing_opens_none stay pid us s node)
    ∙ one_opens_none stay t pid u node

-- ---- no signal is sent
one_sends_none : (stay : Bool) (s : KernelState) (pid : ℕ) (u : Undone) → sends_any s pid (undoing_one stay u) ≡ false
one_sends_none false s pid (Restore aside number) = refl
one_sends_none false s pid (Close number) = refl
one_sends_none true s pid (Restore aside number) = refl
one_sends_none true s pid (Close number) = refl

sends_append : (s : KernelState) (pid : ℕ) (rs more : List Request) → sends_any s pid rs ≡ false → sends_any (after_requests s pid rs) pid more ≡ false → sends_any s pid (rs ++ more) ≡ false
sends_append s pid [] more none none' = none'
sends_append s pid (r ∷ rs) more none none' =
    ap (λ (b : Bool). b || sends_any (after_request s pid r) pid (rs ++ more)) (or_left (sends s pid r) (sends_any (after_request s pid r) pid rs) none)
    ∙ sends_append (after_request s pid r) pid rs more (or_right (sends s pid r) (sends_any (after_request s pid r) pid rs) none) none'

undoing_sends_none : (stay : Bool) (pid : ℕ) (us : List Undone) (s : KernelState) → sends_any s pid (undoing stay us) ≡ false
undoing_sends_none stay pid [] s = refl
undoing_sends_none stay pid (u ∷ us) s =
    sends_append s pid (undoing stay us) (undoing_one stay u) (undoing_sends_none stay pid us s) (one_sends_none stay (after_requests s pid (undoing stay us)) pid u)

-- ---- what follows
pub undoing_changes : (stay : Bool) (pid : ℕ) (us : List Undone) (s : KernelState) → ChangesOnlyReached pid false (λ node. false) s.machine (after_redirections stay pid us s).machine
undoing_changes stay pid us s =
    subst (λ (t : KernelState). ChangesOnlyReached pid false (λ node. false) s.machine t.machine) (sym (undoing_is stay pid us s))
    (changes_reached s pid (undoing stay us) (undoing_opens_none stay pid us s) (undoing_sends_none stay pid us s))

pub undoing_leaves_owned : (stay : Bool) (pid q : ℕ) (us : List Undone) (s : KernelState) (test : ℕ → Bool) → q ≢ pid → ((k : ℕ) → test k ≡ true → k < length s.machine.descriptions) → IsOwned pid test s.machine.descriptors → IsOwned pid test (after_redirections stay q us s).machine.descriptors
undoing_leaves_owned stay pid q us s test n within own =
    subst (λ (t : KernelState). IsOwned pid test t.machine.descriptors) (sym (undoing_is stay q us s)) (lists_leave_owned s pid q (undoing stay us) test n within own)

pub undoing_grows : (stay : Bool) (pid : ℕ) (us : List Undone) (s : KernelState) → OnlyGrows s.machine (after_redirections stay pid us s).machine
undoing_grows stay pid us s = subst (λ (t : KernelState). OnlyGrows s.machine t.machine) (sym (undoing_is stay pid us s)) (lists_grow s pid (undoing stay us))
