-- Numbers and lines of events.
use Rattle.std.proofs.Common.{◌≡◌, ℕ, ◌+◌, ◌<◌, ◌≤◌, ◌==◌, List, [], ◌∷◌, ◌++◌, append_assoc, true, false, length, Option, Some, None, IfSome, Ok, Err, nat_lt, refl, sym, ap, ◌∙◌, arith, if◌then◌else◌}
use Rattle.std.specs.Prelude.{option_map}
use Rattle.std.proofs.lemmas.Bool.Decides.{nat_tests}
use Rattle.psh_common.specs.Lines.{further_parts, parts}
use Rattle.psh_common.specs.Events.{Outcome, behind, events_in, key_turns, line_turns, named_line, next_turns, run_turns, size_of, with_line}
use Rattle.psh_common.specs.declared.events.EventFault.TheVariants.{BadEvent}
use Rattle.psh_common.specs.declared.events.Turns.{Turns}
use Rattle.psh_common.proofs.Lines.{parts-some}

-- ---- words
pub next_turns-more : (xs first rest : List ℕ) → parts 32 xs ≡ first ∷ parts 32 rest → None ≡ next_turns (parts 32 xs)
next_turns-more xs first rest h = let p = parts-some 32 rest in sym (ap next_turns (h ∙ ap (λ ys. first ∷ ys) p.are))

pub run_turns-more : (xs first ys second rest : List ℕ) → parts 32 xs ≡ first ∷ parts 32 ys → parts 32 ys ≡ second ∷ parts 32 rest → None ≡ run_turns (parts 32 xs)
run_turns-more xs first ys second rest h k =
    let p = parts-some 32 rest in sym (ap run_turns (h ∙ ap (λ zs. first ∷ zs) (k ∙ ap (λ zs. second ∷ zs) p.are)))

pub key_turns-more : (xs first rest : List ℕ) → parts 32 xs ≡ first ∷ parts 32 rest → None ≡ key_turns (parts 32 xs)
key_turns-more xs first rest h = let p = parts-some 32 rest in sym (ap key_turns (h ∙ ap (λ ys. first ∷ ys) p.are))

-- a line that isn't empty
pub line_named : (xs : List ℕ) → (length xs == 0) ≡ false → line_turns xs ≡ named_line xs
line_named [] h = absurd (cc)
line_named (x ∷ xs) h = refl

-- ---- lines
abbrev pub left_events : ℕ → ℕ → Option (List ℕ) → Outcome
left_events before place None = Ok []
left_events before place (Some rest) = events_in before place (parts 10 rest)

pub size_of-more : (text rest : List ℕ) → size_of text (parts 10 rest) ≡ length text + 1
size_of-more text rest = let p = parts-some 10 rest in ap (size_of text) p.are

-- what is behind these lines
further : (before place : ℕ) (left : Option (List ℕ)) → events_in before place (further_parts 10 left) ≡ left_events before place left
further before place None = refl
further before place (Some rest) = refl

pub with_line-behind : (line : ℕ) (all news : List Turns) (found : Option (List Turns)) (others : Outcome) → option_map (λ turns. all ++ turns) found ≡ Some news
    → behind all (with_line line found others) ≡ behind news others
with_line-behind line all news None others h = cc
with_line-behind line all news (Some turns) (Ok others) h = let e : all ++ turns ≡ news = cc in ap (λ (x : List Turns). Ok x) (sym (append_assoc all turns others) ∙ ap (λ x. x ++ others) e)
with_line-behind line all news (Some turns) (Err fault) h = refl

-- a line more was read
pub line-read : (before place : ℕ) (rest text : List ℕ) (left : Option (List ℕ)) (all news : List Turns) → parts 10 rest ≡ text ∷ further_parts 10 left
    → place + size_of text (further_parts 10 left) ≤ 268435456 → option_map (λ turns. all ++ turns) (line_turns text) ≡ Some news
    → behind all (left_events before place (Some rest)) ≡ behind news (left_events (before + 1) (place + size_of text (further_parts 10 left)) left)
line-read before place rest text left all news p small found =
    let no : nat_lt 268435456 (place + size_of text (further_parts 10 left)) ≡ false = grind (arith, nat_tests) in
    ap (λ x. behind all (events_in before place x)) p
    ∙ ap (λ b. behind all (if b then Err (BadEvent (before + 1)) else with_line (before + 1) (line_turns text) (events_in (before + 1) (place + size_of text (further_parts 10 left)) (further_parts 10 left)))) no
    ∙ with_line-behind (before + 1) all news (line_turns text) (events_in (before + 1) (place + size_of text (further_parts 10 left)) (further_parts 10 left)) found
    ∙ ap (behind news) (further (before + 1) (place + size_of text (further_parts 10 left)) left)

-- the line is too long
pub line-beyond : (before place : ℕ) (rest text : List ℕ) (left : Option (List ℕ)) (all : List Turns) → parts 10 rest ≡ text ∷ further_parts 10 left
    → 268435456 < place + size_of text (further_parts 10 left) → behind all (left_events before place (Some rest)) ≡ Err (BadEvent (before + 1))
line-beyond before place rest text left all p large =
    let yes : nat_lt 268435456 (place + size_of text (further_parts 10 left)) ≡ true = grind (arith, nat_tests) in
    ap (λ x. behind all (events_in before place x)) p
    ∙ ap (λ b. behind all (if b then Err (BadEvent (before + 1)) else with_line (before + 1) (line_turns text) (events_in (before + 1) (place + size_of text (further_parts 10 left)) (further_parts 10 left)))) yes

-- the line is no event
pub line-refused : (before place : ℕ) (rest text : List ℕ) (left : Option (List ℕ)) (all : List Turns) → parts 10 rest ≡ text ∷ further_parts 10 left
    → place + size_of text (further_parts 10 left) ≤ 268435456 → line_turns text ≡ None → behind all (left_events before place (Some rest)) ≡ Err (BadEvent (before + 1))
line-refused before place rest text left all p small none =
    let no : nat_lt 268435456 (place + size_of text (further_parts 10 left)) ≡ false = grind (arith, nat_tests) in
    ap (λ x. behind all (events_in before place x)) p
    ∙ ap (λ b. behind all (if b then Err (BadEvent (before + 1)) else with_line (before + 1) (line_turns text) (events_in (before + 1) (place + size_of text (further_parts 10 left)) (further_parts 10 left)))) no
    ∙ ap (λ (x : Option (List Turns)). behind all (with_line (before + 1) x (events_in (before + 1) (place + size_of text (further_parts 10 left)) (further_parts 10 left)))) none

-- where the next line begins
pub line-left : {A : Type 0} (view : A → List ℕ) (left : Option A) (line place total size : ℕ) (text rest : List ℕ) → size ≡ size_of text (further_parts 10 (option_map view left))
    → IfSome left (λ r. length text + 1 + length (view r) ≡ length rest) → place + length rest ≡ total → line ≤ place
    → IfSome left (λ r. (place + size + length (view r) ≡ total) × (line + 1 ≤ place + size))
line-left view None line place total size text rest s l t p = tt
line-left view (Some r) line place total size text rest s l t p =
    let e : size ≡ length text + 1 = s ∙ size_of-more text (view r) in
    (omega arith, omega arith)

pub behind-none : (o : Outcome) → behind [] o ≡ o
behind-none (Ok all) = refl
behind-none (Err fault) = refl
