-- Requests one after another.
use Rattle.std.proofs.Common.{◌≡◌, ℕ, false, List, [], ◌∷◌, ◌++◌, refl}
use Rattle.sh_kernel.specs.State.{KernelState}
use Rattle.sh_kernel.specs.Laws.{ChangesOnlyReached, ReachesNoMore, opens_any, sends_any}
use Rattle.sh_kernel.specs.Requests.{Request, after_request, after_requests}
use Rattle.sh_kernel_machine.proofs.Closing.{true≢false}
use Rattle.sh_kernel.proofs.Reached.{lists_change, lists_reach_no_more}

pub after_requests-append : (s : KernelState) (pid : ℕ) (rs more : List Request) → after_requests s pid (rs ++ more) ≡ after_requests (after_requests s pid rs) pid more
after_requests-append s pid [] more = refl
after_requests-append s pid (r ∷ rs) more = after_requests-append (after_request s pid r) pid rs more

-- ---- lists that open no file, and send no signal
pub changes_reached : (s : KernelState) (pid : ℕ) (rs : List Request) → ((node : ℕ) → opens_any s pid rs node ≡ false) → sends_any s pid rs ≡ false → ChangesOnlyReached pid false (λ node. false) s.machine (after_requests s pid rs).machine
changes_reached s pid rs none quiet =
    let c = lists_change s pid rs in
    record {
      pipes = λ pipe within h ended. c.pipes pipe within h (λ sent. absurd (true≢false (sends_any s pid rs) sent quiet));
      files = λ node within h unopened. c.files node within h (none node);
      descriptions = c.descriptions;
      descriptors = λ q n born alive. c.descriptors q n born (λ sent. absurd (true≢false (sends_any s pid rs) sent quiet));
      processes = λ q n born same. c.processes q n born quiet;
      makers = c.makers;
      ended = c.ended;
    }

pub reaches_as_before : (s : KernelState) (pid : ℕ) (rs : List Request) → ((node : ℕ) → opens_any s pid rs node ≡ false) → ReachesNoMore pid (λ node. false) s.machine (after_requests s pid rs).machine
reaches_as_before s pid rs none =
    let c = lists_reach_no_more s pid rs in
    record {
      pipes = c.pipes;
      files = λ node h unopened. c.files node h (none node);
      descriptions = c.descriptions;
      others = c.others;
    }
