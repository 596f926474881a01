-- What is still to be tried, as turns are added, as a schedule ends, and as a turn gives way to another.
use Rattle.std.proofs.Common.{◌≡◌, ℕ, zero, suc, ◌+◌, ◌-◌, ◌≤◌, ◌⊎◌, inl, inr, List, [], ◌∷◌, ◌++◌, length, refl, ap, ◌∙◌, arith}
use Rattle.sh_exec.specs.declared.event.Event.{Event}
use Rattle.sh_exec.specs.declared.event.Event.TheVariants.{Run}
use Rattle.sh_schedules_outcomes.specs.Schedules.{Machine, cost, end_of, preemptions}
use Rattle.sh_schedules_outcomes.specs.Choices.{begun, choices, of_choices, schedules}
use Rattle.sh_schedules.specs.Paths.{HaveNoOther, behind, event_of, events_of, spare, through, to_try}
use Rattle.sh_schedules.specs.declared.path.Turn.{Turn}

-- where the path's events are a schedule, it is the first of those that are still to be tried
pub leaf : {A : Type 0} (w : Machine A) (k n : ℕ) (s : A) (path : List Turn) →
    length path ≤ n → (choices w (spare w k s (events_of path)) (end_of w s (events_of path)) ≡ []) ⊎ (length path ≡ n) →
    to_try w k n s path ≡ events_of path ∷ behind w k n s path
unfolding to_try schedules behind
leaf w k zero s [] short ends = refl
leaf w k (suc n) s [] short (inl none) = ap (of_choices (λ place. schedules w (k - cost w s (Run place)) n (w.step s (Run place)))) none
leaf w k (suc n) s [] short (inr full) = absurd (omega arith)
leaf w k zero s (c ∷ cs) short ends = absurd (omega arith)
leaf w k (suc n) s (c ∷ cs) short (inl none) =
    ap (λ ts. begun c.place ts ++ through w k n s c.others.items) (leaf w (k - cost w s (event_of c)) n (w.step s (event_of c)) cs (omega arith) (inl none))
leaf w k (suc n) s (c ∷ cs) short (inr full) =
    let rest : length cs ≡ n = omega arith in
    ap (λ ts. begun c.place ts ++ through w k n s c.others.items) (leaf w (k - cost w s (event_of c)) n (w.step s (event_of c)) cs (omega arith) (inr rest))

-- behind turns that have no other there is nothing
pub nothing_behind : {A : Type 0} (w : Machine A) (k n : ℕ) (s : A) (path : List Turn) → HaveNoOther path → behind w k n s path ≡ []
unfolding behind
nothing_behind w k n s [] h = refl
nothing_behind w k zero s (c ∷ cs) h = refl
nothing_behind w k (suc n) s (c ∷ cs) h =
    ap (λ ts. begun c.place ts ++ through w k n s c.others.items) (nothing_behind w (k - cost w s (event_of c)) n (w.step s (event_of c)) cs h.1)
    ∙ ap (λ ps. through w k n s ps) h.0

-- a turn that gives way to the first of its others leaves what was behind it
pub over : {A : Type 0} (w : Machine A) (k n : ℕ) (s : A) (front spent : List Turn) (turn next : Turn) →
    length (front ++ turn ∷ spent) ≤ n → HaveNoOther spent → turn.others.items ≡ next.place ∷ next.others.items →
    behind w k n s (front ++ turn ∷ spent) ≡ to_try w k n s (front ++ next ∷ [])
unfolding behind to_try
over w k zero s [] spent turn next short gone is = absurd (omega arith)
over w k zero s (c ∷ cs) spent turn next short gone is = absurd (omega arith)
over w k (suc n) s [] spent turn next short gone is =
    ap (λ ts. begun turn.place ts ++ through w k n s turn.others.items) (nothing_behind w (k - cost w s (event_of turn)) n (w.step s (event_of turn)) spent gone)
    ∙ ap (λ ps. through w k n s ps) is
over w k (suc n) s (c ∷ cs) spent turn next short gone is =
    ap (λ ts. begun c.place ts ++ through w k n s c.others.items)
    (over w (k - cost w s (event_of c)) n (w.step s (event_of c)) cs spent turn next (omega arith) gone is)

pub spare-push : {A : Type 0} (w : Machine A) (k : ℕ) (s : A) (es : List Event) (e : Event) → spare w k s (es ++ e ∷ []) ≡ spare w k s es - cost w (end_of w s es) e
spare-push w k s [] e = refl
spare-push w k s (f ∷ es) e = spare-push w (k - cost w s f) (w.step s f) es e

pub end_of-push : {A : Type 0} (w : Machine A) (s : A) (es : List Event) (e : Event) → end_of w s (es ++ e ∷ []) ≡ w.step (end_of w s es) e
end_of-push w s [] e = refl
end_of-push w s (f ∷ es) e = end_of-push w (w.step s f) es e

pub events_of-push : (path : List Turn) (turn : Turn) → events_of (path ++ turn ∷ []) ≡ events_of path ++ event_of turn ∷ []
events_of-push [] turn = refl
events_of-push (c ∷ cs) turn = ap (λ es. event_of c ∷ es) (events_of-push cs turn)

-- what is left and what was spent
pub spare_spent : {A : Type 0} (w : Machine A) (k : ℕ) (s : A) (es : List Event) → preemptions w s es ≤ k → spare w k s es + preemptions w s es ≡ k
spare_spent w k s [] h = omega arith
spare_spent w k s (e ∷ es) h =
    let rest = spare_spent w (k - cost w s e) (w.step s e) es (omega arith) in
    omega arith
