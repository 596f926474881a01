use Rattle.std.proofs.Common.{◌≡◌, ◌∷◌, [], ◌++◌, List, ℕ, ◌-◌, take, sym, ap, ◌∙◌, subst, append_assoc}
use Rattle.sh_schedules.specs.Paths.{HaveNoOther}
use Rattle.sh_schedules.specs.Paths.IsAdvance.{gives_way, none_left}
use Rattle.sh_schedules.specs.declared.path.Turn.{Turn}
use Rattle.sh_schedules.proofs.path.advance.Goals as goal

split_at : (old kept rest spent : List Turn) (turn : Turn) → old ≡ kept ++ spent → kept ≡ rest ++ turn ∷ [] → old ≡ rest ++ turn ∷ spent
split_at old kept rest spent turn a b = a ∙ ap (λ (xs : List Turn). xs ++ spent) b ∙ append_assoc rest (turn ∷ []) spent

-- the turn has others, and gives way to the first of them
pub returns-in-Some-next_turn : goal.returns-in-Some-next_turn
returns-in-Some-next_turn c =
    gives_way c.pop.new.self.items c.turns.invariant.0 c.in-Some.turn c.in-Some-next_turn.next
    (split_at _ _ _ _ _ c.turns.invariant.1 c.in-Some.ensures.items)
    c.turns.invariant.2 c.in-Some-next_turn.ensures.some c.in_ok-push.ensures.items

ended : (old kept rest spent : List Turn) (n : ℕ) → old ≡ kept ++ spent → kept ≡ rest ++ [] → n ≡ 0 → rest ≡ take (n - 1) kept → old ≡ spent
ended old kept rest spent n a b e is =
    a ∙ ap (λ (xs : List Turn). xs ++ spent) (b ∙ ap (λ (xs : List Turn). xs ++ []) (is ∙ ap (λ (m : ℕ). take (m - 1) kept) e))

-- no turn is left
pub returns : goal.returns
returns c =
    none_left (subst HaveNoOther
    (sym (ended _ _ _ _ _ c.turns.invariant.1 c.in_default.ensures.items c.in_default.ensures.cases.0 c.in_default.ensures.rest))
    c.turns.invariant.2)
