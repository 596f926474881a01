-- What only grows with requests only grows with events.
use Rattle.std.proofs.Common.{List, [], ◌∷◌, ◌++◌, sym, ap, ◌∙◌, subst}
use Rattle.std.proofs.lemmas.List.{append-nil, append_assoc}
use Rattle.sh_kernel.specs.Laws.{OnlyGrows}
use Rattle.sh_kernel.specs.State.{KernelState}
use Rattle.sh_kernel.proofs.Growing.{grows_then, keys_grow, requests_grow}
use Rattle.sh_kernel.proofs.Reached.{lists_grow}
use Rattle.sh_kernel.proofs.Screens.{keys_show}
use Rattle.sh_kernel.proofs.Terminals.{lists_grow_terminal}
use Rattle.sh_tty.specs.Happenings.{bytes_of}
use Rattle.sh_laws.specs.Requests.{Asked, Change, ComesByChanges, Pressed, Shows, after_change, after_changes}

change_grows : (s : KernelState) (c : Change) → OnlyGrows s.machine (after_change s c).machine
change_grows s (Asked pid request) = requests_grow s pid request
change_grows s (Pressed byte) = keys_grow s byte

all_grow : (s : KernelState) (cs : List Change) → OnlyGrows s.machine (after_changes s cs).machine
all_grow s [] = lists_grow s 0 []
all_grow s (c ∷ cs) = grows_then s.machine (after_change s c).machine (after_changes s (c ∷ cs)).machine (change_grows s c) (all_grow (after_change s c) cs)

change_shows : (s : KernelState) (c : Change) → Shows s (after_change s c)
change_shows s (Asked pid request) = lists_grow_terminal s pid (request ∷ [])
change_shows s (Pressed byte) = keys_show s byte

all_show : (s : KernelState) (cs : List Change) → Shows s (after_changes s cs)
all_show s [] = ([], sym (append-nil (bytes_of s.terminal)))
all_show s (c ∷ cs) =
    let one = change_shows s c in
    let others = all_show (after_change s c) cs in
    (one.0 ++ others.0, others.1 ∙ ap (λ bytes. bytes ++ others.0) one.1 ∙ append_assoc (bytes_of s.terminal) one.0 others.0)

pub grow : (s t : KernelState) → ComesByChanges s t → OnlyGrows s.machine t.machine
grow s t c = subst (λ (u : KernelState). OnlyGrows s.machine u.machine) (sym c.1) (all_grow s c.0)

pub show : (s t : KernelState) → ComesByChanges s t → Shows s t
show s t c = subst (λ (u : KernelState). Shows s u) (sym c.1) (all_show s c.0)
