-- The trees of the grammar have the shape that their reading needs.
use Rattle.std.proofs.Common.{◌≡◌, ℕ, zero, suc, Bool, true, List, [], ◌∷◌, refl, sym, ap, ◌∙◌, subst, Some}
use Rattle.std.specs.Prelude.{slice_get, nat_eq}
use Rattle.std.proofs.Common.{rules}
use Rattle.sh_arith_grammar.specs.declared.grammar.TheConstants.{TERMINALS, ENDING}
use Rattle.sh_grammar.specs.Tabulation.{has}
use Rattle.sh_grammar.specs.Passes.{all_below, implies}
use Rattle.sh_arith_grammar.proofs.Computed.{below_at, has_class, has_name, then_true}
use Rattle.sh_grammar.specs.declared.Symbol.{Symbol}
use Rattle.sh_grammar.specs.declared.Symbol.TheVariants.{Terminal, Nonterminal}
use Rattle.sh_arith_grammar.specs.declared.grammar.Kind.{Kind}
use Rattle.sh_arith_grammar.specs.declared.grammar.Kind.TheVariants as kind
use Rattle.sh_arith_grammar.specs.declared.grammar.TheConstants.{KINDS}
use Rattle.sh_grammar.specs.Grammar.{Rule, IsRule, Tree, Forest, Leaf, Node, Empty, And, IsTree, AreTrees}
use Rattle.sh_arith_grammar.specs.Grammar.{arithmetic, arithmetic_grammar}
use Rattle.sh_arith_grammar.proofs.Sig.{Sig, Value, After, Target, DoMark, TurnMark, DecideMark, JoinMark, StoreMark, Shows, SORTS, TERMINAL_SORTS}
use Rattle.sh_arith_grammar.specs.declared.operators.Role.{Role}
use Rattle.sh_arith_grammar.specs.declared.operators.Role.TheVariants as role
use Rattle.sh_arith_grammar.specs.declared.operators.TheConstants.{ROLES}
use Rattle.sh_arith_grammar.specs.Productions.{productions}
use Rattle.sh_arith_grammar.specs.Roles.{nth, kind_of, role_of}
use Rattle.sh_arith_grammar.proofs.Tied.{kinds_are, roles_are}

abbrev pub sig : Symbol → Sig
sig (Terminal k) = nth (Shows role.Nothing) TERMINAL_SORTS k
sig (Nonterminal n) = nth (Shows role.Nothing) SORTS n

abbrev pub sigs : List Symbol → List Sig
sigs [] = []
sigs (s ∷ symbols) = sig s ∷ sigs symbols

abbrev pub Afters : List Sig → Type 0
Afters [] = Unit {0}
Afters (s ∷ more) = (s ≡ After) × Afters more

-- what a production of a kind looks like: its head and its body
abbrev pub Kinded : Kind → Sig → List Sig → Type 0
Kinded kind.Chain s b = (s ≡ Value) × ((more : List Sig) × (b ≡ Value ∷ more) × Afters more)
Kinded kind.Rest s b = (s ≡ After) × Afters b
Kinded kind.Within s b = (s ≡ Value) × (b ≡ (Shows role.Opening) ∷ Value ∷ (Shows role.Closing) ∷ [])
Kinded kind.Takes s b = (s ≡ Target) × ((more : List Sig) × (b ≡ Target ∷ more) × Afters more)
Kinded kind.Zero s b = (s ≡ Value) × (b ≡ [])
Kinded kind.Named s b = (s ≡ Value) × (b ≡ (Shows role.Name) ∷ Target ∷ [])
Kinded kind.Number s b = (s ≡ Value) × (b ≡ (Shows role.Number) ∷ [])
Kinded kind.Prefix s b = (s ≡ Value) × (b ≡ (Shows role.Operator) ∷ Value ∷ TurnMark ∷ [])
Kinded kind.Binary s b = (s ≡ After) × (b ≡ (Shows role.Operator) ∷ Value ∷ DoMark ∷ After ∷ [])
Kinded kind.Logic s b = (s ≡ After) × (b ≡ (Shows role.Logic) ∷ Value ∷ DecideMark ∷ After ∷ [])
Kinded kind.Chooses s b = (s ≡ After) × (b ≡ (Shows role.Question) ∷ Value ∷ (Shows role.Colon) ∷ Value ∷ JoinMark ∷ [])
Kinded kind.Assigns s b = (s ≡ Target) × (b ≡ (Shows role.Assign) ∷ Value ∷ StoreMark ∷ [])
Kinded kind.Load s b = (s ≡ Target) × (b ≡ [])
Kinded kind.Turn s b = (s ≡ TurnMark) × (b ≡ [])
Kinded kind.Do s b = (s ≡ DoMark) × (b ≡ [])
Kinded kind.Decide s b = (s ≡ DecideMark) × (b ≡ [])
Kinded kind.Join s b = (s ≡ JoinMark) × (b ≡ [])
Kinded kind.Store s b = (s ≡ StoreMark) × (b ≡ [])

abbrev pub IsToken : Sig → Type 0
IsToken Value = ⊥
IsToken After = ⊥
IsToken Target = ⊥
IsToken DoMark = ⊥
IsToken TurnMark = ⊥
IsToken DecideMark = ⊥
IsToken JoinMark = ⊥
IsToken StoreMark = ⊥
IsToken (Shows role) = Unit {0}

abbrev AllTokens : List Sig → Type 0
AllTokens [] = Unit {0}
AllTokens (s ∷ sigs) = IsToken s × AllTokens sigs

token_at : (k : ℕ) (sigs : List Sig) → AllTokens sigs → IsToken (nth (Shows role.Nothing) sigs k)
token_at k [] h = tt
token_at zero (s ∷ sigs) h = h.0
token_at (suc k) (s ∷ sigs) h = token_at k sigs h.1

terminals_are : AllTokens TERMINAL_SORTS
unfolding TERMINAL_SORTS
terminals_are = (tt, (tt, (tt, (tt, (tt, (tt, (tt, (tt, (tt, (tt, (tt, (tt, (tt, (tt, (tt, (tt, (tt, (tt, tt))))))))))))))))))

abbrev mutual
  pub Shaped : Sig → Tree → Type 0
  Shaped s (Leaf t) = IsToken s × (Shows (role_of t.class) ≡ s)
  Shaped s (Node p children) = (body : List Sig) × Kinded (kind_of p) s body × AllShaped body children

  pub AllShaped : List Sig → Forest → Type 0
  AllShaped [] Empty = Unit {0}
  AllShaped (s ∷ body) (And x others) = Shaped s x × AllShaped body others
  AllShaped [] (And x others) = ⊥
  AllShaped (s ∷ body) Empty = ⊥

abbrev Paired : List Kind → List Rule → Type 0
Paired ks [] = Unit {0}
Paired [] (r ∷ rules) = Kinded kind.Rest (sig (Nonterminal r.head)) (sigs r.body) × Paired [] rules
Paired (k ∷ ks) (r ∷ rules) = Kinded k (sig (Nonterminal r.head)) (sigs r.body) × Paired ks rules

paired_at : (ks : List Kind) (rules : List Rule) (p : ℕ) (r : Rule) → Paired ks rules → slice_get rules p ≡ Some r → Kinded (nth kind.Rest ks p) (sig (Nonterminal r.head)) (sigs r.body)
paired_at ks [] p r h e = absurd (cc)
paired_at [] (q ∷ rules) zero r h e = let same : q ≡ r = cc in subst (λ x. Kinded kind.Rest (sig (Nonterminal x.head)) (sigs x.body)) same h.0
paired_at [] (q ∷ rules) (suc p) r h e = paired_at [] rules p r h.1 e
paired_at (k ∷ ks) (q ∷ rules) zero r h e = let same : q ≡ r = cc in subst (λ x. Kinded k (sig (Nonterminal x.head)) (sigs x.body)) same h.0
paired_at (k ∷ ks) (q ∷ rules) (suc p) r h e = paired_at ks rules p r h.1 e

all_paired : Paired KINDS arithmetic_grammar.rules
unfolding arithmetic_grammar arithmetic productions SORTS TERMINAL_SORTS
all_paired = (
  (refl, refl),
  (
    (refl, ([], refl, tt)),
    (
      (refl, refl),
      (
        (refl, (After ∷ [], refl, (refl, tt))),
        (
          (refl, refl),
          (
            (refl, (After ∷ [], refl, (refl, tt))),
            (
              (refl, (refl, (refl, (refl, (refl, (refl, (refl, (refl, (refl, (refl, (refl, (refl, tt)))))))))))),
              (
                (refl, (After ∷ [], refl, (refl, tt))),
                (
                  (refl, tt),
                  (
                    (refl, refl),
                    (
                      (refl, (After ∷ [], refl, (refl, tt))),
                      (
                        (refl, tt),
                        (
                          (refl, refl),
                          (
                            (refl, (After ∷ [], refl, (refl, tt))),
                            (
                              (refl, tt),
                              (
                                (refl, refl),
                                (
                                  (refl, (After ∷ [], refl, (refl, tt))),
                                  (
                                    (refl, tt),
                                    (
                                      (refl, refl),
                                      (
                                        (refl, (After ∷ [], refl, (refl, tt))),
                                        (
                                          (refl, tt),
                                          (
                                            (refl, refl),
                                            (
                                              (refl, (After ∷ [], refl, (refl, tt))),
                                              (
                                                (refl, tt),
                                                (
                                                  (refl, refl),
                                                  (
                                                    (refl, (After ∷ [], refl, (refl, tt))),
                                                    (
                                                      (refl, tt),
                                                      (
                                                        (refl, refl),
                                                        (
                                                          (refl, (After ∷ [], refl, (refl, tt))),
                                                          (
                                                            (refl, tt),
                                                            (
                                                              (refl, refl),
                                                              (
                                                                (refl, (After ∷ [], refl, (refl, tt))),
                                                                (
                                                                  (refl, tt),
                                                                  (
                                                                    (refl, refl),
                                                                    (
                                                                      (refl, (After ∷ [], refl, (refl, tt))),
                                                                      (
                                                                        (refl, tt),
                                                                        (
                                                                          (refl, refl),
                                                                          (
                                                                            (refl, (After ∷ [], refl, (refl, tt))),
                                                                            (
                                                                              (refl, tt),
                                                                              (
                                                                                (refl, refl),
                                                                                (
                                                                                  (refl, refl),
                                                                                  (
                                                                                    (refl, ([], refl, tt)),
                                                                                    (
                                                                                      (refl, refl),
                                                                                      (
                                                                                        (refl, refl),
                                                                                        (
                                                                                          (refl, refl),
                                                                                          (
                                                                                            (refl, refl),
                                                                                            (
                                                                                              (refl, refl),
                                                                                              (
                                                                                                (refl, refl),
                                                                                                (
                                                                                                  (refl, refl),
                                                                                                  (
                                                                                                    (refl, refl),
                                                                                                    (
                                                                                                      (refl, refl),
                                                                                                      tt,
                                                                                                    ),
                                                                                                  ),
                                                                                                ),
                                                                                              ),
                                                                                            ),
                                                                                          ),
                                                                                        ),
                                                                                      ),
                                                                                    ),
                                                                                  ),
                                                                                ),
                                                                              ),
                                                                            ),
                                                                          ),
                                                                        ),
                                                                      ),
                                                                    ),
                                                                  ),
                                                                ),
                                                              ),
                                                            ),
                                                          ),
                                                        ),
                                                      ),
                                                    ),
                                                  ),
                                                ),
                                              ),
                                            ),
                                          ),
                                        ),
                                      ),
                                    ),
                                  ),
                                ),
                              ),
                            ),
                          ),
                        ),
                      ),
                    ),
                  ),
                ),
              ),
            ),
          ),
        ),
      ),
    ),
  ),
)

kinded : (p n : ℕ) (body : List Symbol) → IsRule arithmetic_grammar p n body → Kinded (kind_of p) (sig (Nonterminal n)) (sigs body)
unfolding kind_of
kinded p n body r = subst (λ ks. Kinded (nth kind.Rest ks p) (sig (Nonterminal n)) (sigs body)) kinds_are (paired_at KINDS arithmetic_grammar.rules p (record { head = n; body = body }) all_paired r.there)

-- ---- the tokens of a terminal have its role

abbrev code_of : Sig → ℕ
code_of Value = 20
code_of After = 21
code_of Target = 22
code_of DoMark = 23
code_of TurnMark = 24
code_of DecideMark = 25
code_of JoinMark = 26
code_of StoreMark = 27
code_of (Shows role.Number) = 0
code_of (Shows role.Name) = 1
code_of (Shows role.Operator) = 2
code_of (Shows role.Logic) = 3
code_of (Shows role.Question) = 4
code_of (Shows role.Colon) = 5
code_of (Shows role.Assign) = 6
code_of (Shows role.Opening) = 7
code_of (Shows role.Closing) = 8
code_of (Shows role.Nothing) = 9

abbrev every_role : List Role
every_role = role.Number ∷ role.Name ∷ role.Operator ∷ role.Logic ∷ role.Question ∷ role.Colon ∷ role.Assign ∷ role.Opening ∷ role.Closing ∷ role.Nothing ∷ []

decoded : (r : Role) → nth role.Nothing every_role (code_of (Shows r)) ≡ r
decoded role.Number = refl
decoded role.Name = refl
decoded role.Operator = refl
decoded role.Logic = refl
decoded role.Question = refl
decoded role.Colon = refl
decoded role.Assign = refl
decoded role.Opening = refl
decoded role.Closing = refl
decoded role.Nothing = refl

same_code : (r : Role) (s : Sig) → IsToken s → code_of (Shows r) ≡ code_of s → Shows r ≡ s
same_code r (Shows q) h e = ap Shows (sym (decoded r) ∙ (ap (nth role.Nothing every_role) e ∙ decoded q))
same_code r Value h e = absurd h
same_code r After h e = absurd h
same_code r Target h e = absurd h
same_code r DoMark h e = absurd h
same_code r TurnMark h e = absurd h
same_code r DecideMark h e = absurd h
same_code r JoinMark h e = absurd h
same_code r StoreMark h e = absurd h

same_sig : (r : Role) (s : Sig) → IsToken s → nat_eq (code_of (Shows r)) (code_of s) ≡ true → Shows r ≡ s
same_sig r s h e = let c : code_of (Shows r) ≡ code_of s = search rules in same_code r s h c

abbrev role_at : ℕ → ℕ → Bool
role_at c k = implies (has ENDING TERMINALS k c) (nat_eq (code_of (Shows (nth role.Nothing ROLES c))) (code_of (nth (Shows role.Nothing) TERMINAL_SORTS k)))

roles_pass : all_below (λ c. all_below (role_at c) 18) (suc ENDING) ≡ true
unfolding TERMINAL_SORTS
roles_pass = refl

pub role_known : (k c : ℕ) → has ENDING TERMINALS k c ≡ true → Shows (role_of c) ≡ sig (Terminal k)
unfolding role_of
role_known k c h = ap (λ rs. Shows (nth role.Nothing rs c)) (sym roles_are) ∙ same_sig (nth role.Nothing ROLES c) (nth (Shows role.Nothing) TERMINAL_SORTS k) (token_at k TERMINAL_SORTS terminals_are) (then_true _ _ (below_at (role_at c) 18 k (below_at (λ x. all_below (role_at x) 18) (suc ENDING) c roles_pass (has_class ENDING TERMINALS k c h)) (has_name ENDING TERMINALS k c h)) h)

mutual
  unfolding arithmetic_grammar arithmetic productions

  pub shaped : (e : ℕ) (s : Symbol) (t : Tree) → IsTree arithmetic_grammar e s t → Shaped (sig s) t
  shaped e (Terminal k) (Leaf t) h = (token_at k TERMINAL_SORTS terminals_are, role_known k t.class h)
  shaped e (Nonterminal n) (Node p children) h = (sigs h.0, kinded p n h.0 h.1, all_shaped e h.0 children h.3)
  shaped e (Terminal k) (Node p children) h = absurd h
  shaped e (Nonterminal n) (Leaf t) h = absurd h

  pub all_shaped : (e : ℕ) (body : List Symbol) (f : Forest) → AreTrees arithmetic_grammar e body f → AllShaped (sigs body) f
  all_shaped e [] Empty h = tt
  all_shaped e (s ∷ body) (And x others) h = (shaped _ s x h.0, all_shaped e body others h.1)
  all_shaped e [] (And x others) h = absurd h
  all_shaped e (s ∷ body) Empty h = absurd h
