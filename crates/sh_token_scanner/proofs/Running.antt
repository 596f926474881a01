-- How the machine runs over characters.
use Rattle.std.proofs.Common.{◌≡◌, ◌⊎◌, inl, inr, ℕ, suc, zero, Bool, true, false, nat_eq, List, [], ◌∷◌, ◌++◌, refl, sym, ap, ◌∙◌, subst, eqb-true}
use Rattle.sh_token_pieces.specs.declared.character.Character.{Character}
use Rattle.sh_token_pieces.specs.declared.character.Character.TheVariants.{Plain, Quoted, Raw}
use Rattle.sh_token_pieces.specs.Characters.{joins, Reads, Next, InputEnd, Unknown, ahead_behind}
use Rattle.sh_token_pieces.specs.Pendings.{is_raw}
use Rattle.sh_token_scanner.specs.Machine.{State, Stepped, On, Before, After, TooDeep, DollarTooDeep, WordTooDeep, step}
use Rattle.sh_token_scanner.specs.Run.{Fed, Waits, Takes, byte_step, Scanned, Ended, Deep, Open, EndsIn, is_gap_state, begins_form, begins_word, ended_in, last_token, Places, with_next_prefix, with_prefix, after_character, after_wait, last_places, last_step, last, on, run}

abbrev pub placed : List ℕ → Places → Places
placed z p = record { prefix = p.prefix; previous = p.previous; behind = p.behind; next = z; form = p.form; word = p.word }

-- the run goes on after a character
abbrev pub after : Bool → Stepped → Places → List ℕ → Scanned
after e (On t) q rest = run e false t (after_character (begins_form t) (begins_word t) rest q) rest
after e (Before t) q rest = Ended t q.prefix q.behind
after e (After t) q rest = Ended t q.prefix rest
after e (TooDeep t) q rest = Deep q.next
after e (DollarTooDeep t) q rest = Deep q.previous
after e (WordTooDeep t) q rest = Deep q.word

-- and after a byte
abbrev pub follow : Bool → Fed → Places → List ℕ → Scanned
follow e x q bs =
    on x (λ held t. run e held t (after_wait held bs q) bs) (λ t. run e false t (after_character (begins_form t) (begins_word t) bs q) bs) (λ t. Ended t q.prefix q.behind) (λ t. Ended t q.prefix bs) (Deep q.next) (Deep q.previous) (Deep q.word)

pub follow_taken : (e : Bool) (x : Stepped) (q : Places) (bs : List ℕ) → follow e (Takes x) q bs ≡ after e x q bs
follow_taken e (On t) q bs = refl
follow_taken e (Before t) q bs = refl
follow_taken e (After t) q bs = refl
follow_taken e (TooDeep t) q bs = refl
follow_taken e (DollarTooDeep t) q bs = refl
follow_taken e (WordTooDeep t) q bs = refl

-- where the prefix is
fronted_placed : (c : Bool) (z : List ℕ) (p : Places) → with_next_prefix c (placed z (with_next_prefix c p)) ≡ with_next_prefix c (placed z p)
fronted_placed true z p = refl
fronted_placed false z p = refl

fronted_twice : (c : Bool) (p : Places) → with_next_prefix c (with_next_prefix c p) ≡ with_next_prefix c p
fronted_twice true p = refl
fronted_twice false p = refl

same_form : (c : Bool) (p : Places) → (with_next_prefix c p).form ≡ p.form
same_form true p = refl
same_form false p = refl

pub prefix_again : (e h : Bool) (s : State) (p : Places) (ys : List ℕ) → run e h s (with_prefix s p) ys ≡ run e h s p ys
prefix_again true h s p [] = ap (λ q. last h s q) (fronted_twice (is_gap_state s) p)
prefix_again false h s p [] = ap Open (same_form (is_gap_state s) p)
prefix_again e h s p (b ∷ bs) = ap (λ q. follow e (byte_step (record { state = s; held = h }) b) q bs) (fronted_twice (is_gap_state s) p)

-- places that are alike once the prefix is set run alike
pub prefixes_alike : (e h : Bool) (s : State) (p q : Places) (ys : List ℕ) → with_prefix s p ≡ with_prefix s q → run e h s p ys ≡ run e h s q ys
prefixes_alike e h s p q ys w = sym (prefix_again e h s p ys) ∙ (ap (λ x. run e h s x ys) w ∙ prefix_again e h s q ys)

-- bytes
pub fed_backslash : (s : State) → is_raw s.pending ≡ false → byte_step (record { state = s; held = false }) 92 ≡ Waits true s
unfolding byte_step
fed_backslash s h = rw h refl

pub fed_byte : (s : State) (b : ℕ) → is_raw s.pending ≡ false → nat_eq b 92 ≡ false → byte_step (record { state = s; held = false }) b ≡ Takes (step s (Plain b))
unfolding byte_step
fed_byte s b h g = rw (h, g) refl

fed_raw : (s : State) (b : ℕ) → is_raw s.pending ≡ true → byte_step (record { state = s; held = false }) b ≡ Takes (step s (Raw b))
unfolding byte_step
fed_raw s b h = rw h refl

pub fed_quoted : (s : State) (b : ℕ) → nat_eq b 10 ≡ false → byte_step (record { state = s; held = true }) b ≡ Takes (step s (Quoted b))
unfolding byte_step
fed_quoted s b h = rw h refl

fed_join : (s : State) → byte_step (record { state = s; held = true }) 10 ≡ Waits false s
unfolding byte_step
fed_join s = refl

-- joined lines before a character
pub joins_run : (e : Bool) (s : State) (p : Places) (n : ℕ) (ys : List ℕ) → is_raw s.pending ≡ false → p.next ≡ joins n ++ ys
    → run e false s p (joins n ++ ys) ≡ run e false s (placed ys p) ys
joins_run e s p zero ys r w = ap (λ z. run e false s (placed z p) ys) w
joins_run e s p (suc n) ys r w =
    let q = with_prefix s p in
    let zs = joins n ++ ys in
    ap (λ x. follow e x q (10 ∷ zs)) (fed_backslash s r)
    ∙ (ap (λ x. follow e x (with_prefix s q) zs) (fed_join s)
    ∙ (ap (λ x. run e false s (placed zs x) zs) (fronted_twice (is_gap_state s) p)
    ∙ (joins_run e s (placed zs q) n ys r refl ∙ prefixes_alike e false s (placed ys q) (placed ys p) ys (fronted_placed (is_gap_state s) ys p))))

-- where a character begins, joined lines before it left out
abbrev pub begin_of : Character → List ℕ → List ℕ
begin_of (Plain b) rest = b ∷ rest
begin_of (Quoted b) rest = 92 ∷ b ∷ rest
begin_of (Raw b) rest = b ∷ rest

abbrev pub is_raw_character : Character → Bool
is_raw_character (Plain b) = false
is_raw_character (Quoted b) = false
is_raw_character (Raw b) = true

plain_run : (e : Bool) (s : State) (p : Places) (b : ℕ) (rest : List ℕ) → is_raw s.pending ≡ false → (nat_eq b 92 ≡ false) ⊎ ((b ≡ 92) × (e ≡ true) × (rest ≡ []))
    → run e false s p (b ∷ rest) ≡ after e (step s (Plain b)) (with_prefix s p) rest
plain_run e s p b rest r (inl h) = ap (λ x. follow e x (with_prefix s p) rest) (fed_byte s b r h) ∙ follow_taken e (step s (Plain b)) (with_prefix s p) rest
plain_run e s p b rest r (inr h) =
    subst (λ b. run e false s p (b ∷ rest) ≡ after e (step s (Plain b)) (with_prefix s p) rest) (sym h.0)
    (subst (λ e. run e false s p (92 ∷ rest) ≡ after e (step s (Plain 92)) (with_prefix s p) rest) (sym h.1)
    (subst (λ rest. run true false s p (92 ∷ rest) ≡ after true (step s (Plain 92)) (with_prefix s p) rest) (sym h.2) whole))
  where
    over : (x : Stepped) (q : Places) → last_step x q ≡ after true x q []
    over (On t) q = refl
    over (Before t) q = refl
    over (After t) q = refl
    over (TooDeep t) q = refl
    over (DollarTooDeep t) q = refl
    over (WordTooDeep t) q = refl

    whole : run true false s p (92 ∷ []) ≡ after true (step s (Plain 92)) (with_prefix s p) []
    whole =
        ap (λ x. follow true x (with_prefix s p) []) (fed_backslash s r)
        ∙ (ap (λ q. last_step (step s (Plain 92)) q) (fronted_twice (is_gap_state s) p) ∙ over (step s (Plain 92)) (with_prefix s p))

quoted_run : (e : Bool) (s : State) (p : Places) (b : ℕ) (rest : List ℕ) → is_raw s.pending ≡ false → nat_eq b 10 ≡ false
    → run e false s p (92 ∷ b ∷ rest) ≡ after e (step s (Quoted b)) (with_prefix s p) rest
quoted_run e s p b rest r h =
    ap (λ x. follow e x (with_prefix s p) (b ∷ rest)) (fed_backslash s r)
    ∙ (ap (λ x. follow e x (with_prefix s (with_prefix s p)) rest) (fed_quoted s b h)
    ∙ (follow_taken e (step s (Quoted b)) (with_prefix s (with_prefix s p)) rest ∙ ap (λ q. after e (step s (Quoted b)) q rest) (fronted_twice (is_gap_state s) p)))

pub character_run : (e : Bool) (s : State) (p : Places) (c : Character) (m rest : List ℕ) → is_raw s.pending ≡ is_raw_character c → Reads e c m rest → p.next ≡ m
    → run e false s p m ≡ after e (step s c) (with_prefix s (placed (begin_of c rest) p)) rest
character_run e s p (Plain b) m rest r h w =
    ap (run e false s p) h.1 ∙ (joins_run e s p h.0 (b ∷ rest) r (w ∙ h.1) ∙ plain_run e s (placed (b ∷ rest) p) b rest r h.2)
character_run e s p (Quoted b) m rest r h w =
    ap (run e false s p) h.1 ∙ (joins_run e s p h.0 (92 ∷ b ∷ rest) r (w ∙ h.1) ∙ quoted_run e s (placed (92 ∷ b ∷ rest) p) b rest r h.2)
character_run e s p (Raw b) m rest r h w =
    ap (run e false s p) h
    ∙ (ap (λ x. follow e x (with_prefix s p) rest) (fed_raw s b r)
    ∙ (follow_taken e (step s (Raw b)) (with_prefix s p) rest ∙ ap (λ z. after e (step s (Raw b)) (with_prefix s (placed z p)) rest) (w ∙ h)))

-- Two states that do the same with what comes next run alike.
pub record Alike (e h : Bool) (t s : State) (ys : List ℕ) : Type 0 where
  pub plains : (b : ℕ) → ahead_behind e h ys ≡ Next (Plain b) → step t (Plain b) ≡ step s (Plain b)
  pub quoteds : (b : ℕ) → ahead_behind e h ys ≡ Next (Quoted b) → step t (Quoted b) ≡ step s (Quoted b)
  pub ends : ahead_behind e h ys ≡ InputEnd → ended_in t.pending t ≡ ended_in s.pending s

pub record Cooked (t s : State) : Type 0 where
  pub left : is_raw t.pending ≡ false
  pub right : is_raw s.pending ≡ false
  pub gap : is_gap_state t ≡ is_gap_state s

abbrev pub RunAlike : (e h : Bool) (t s : State) (p : Places) (ys : List ℕ) → Type 0
RunAlike e h t s p ys = run e h t p ys ≡ run e h s p ys

prefix_alike : (t s : State) (p : Places) → Cooked t s → with_prefix t p ≡ with_prefix s p
prefix_alike t s p k = ap (λ c. with_next_prefix c p) k.gap

alike_held : (e : Bool) (t s : State) (p : Places) → Cooked t s → (b : ℕ) (bs : List ℕ) → Alike e true t s (b ∷ bs)
    → ((q : Places) → Alike e false t s bs → RunAlike e false t s q bs) → (c : Bool) → nat_eq b 10 ≡ c → RunAlike e true t s p (b ∷ bs)
alike_held e t s p k b bs a ih true g =
    let z = eqb-true b 10 g in
    let w = ap (λ b. ahead_behind e true (b ∷ bs)) z in
    let r = ih (after_wait false bs (with_prefix s p)) (record { plains = λ c k. a.plains c (w ∙ k); quoteds = λ c k. a.quoteds c (w ∙ k); ends = λ k. a.ends (w ∙ k) }) in
    subst (λ b. RunAlike e true t s p (b ∷ bs)) (sym z)
    (ap (λ x. follow e x (with_prefix t p) bs) (fed_join t)
    ∙ (ap (λ q. run e false t (after_wait false bs q) bs) (prefix_alike t s p k) ∙ (r ∙ ap (λ x. follow e x (with_prefix s p) bs) (sym (fed_join s)))))
alike_held e t s p k b bs a ih false g =
    ap (λ x. follow e x (with_prefix t p) bs) (fed_quoted t b g)
    ∙ (ap (λ q. follow e (Takes (step t (Quoted b))) q bs) (prefix_alike t s p k)
    ∙ (ap (λ x. follow e (Takes x) (with_prefix s p) bs) (a.quoteds b (rw g refl)) ∙ ap (λ x. follow e x (with_prefix s p) bs) (sym (fed_quoted s b g))))

alike_byte : (e : Bool) (t s : State) (p : Places) → Cooked t s → (b : ℕ) (bs : List ℕ) → Alike e false t s (b ∷ bs)
    → ((q : Places) → Alike e true t s bs → RunAlike e true t s q bs) → (c : Bool) → nat_eq b 92 ≡ c → RunAlike e false t s p (b ∷ bs)
alike_byte e t s p k b bs a ih true g =
    let z = eqb-true b 92 g in
    let w = ap (λ b. ahead_behind e false (b ∷ bs)) z in
    let r = ih (with_prefix s p) (record { plains = λ c k. a.plains c (w ∙ k); quoteds = λ c k. a.quoteds c (w ∙ k); ends = λ k. a.ends (w ∙ k) }) in
    subst (λ b. RunAlike e false t s p (b ∷ bs)) (sym z)
    (ap (λ x. follow e x (with_prefix t p) bs) (fed_backslash t k.left)
    ∙ (ap (λ q. run e true t q bs) (prefix_alike t s p k) ∙ (r ∙ ap (λ x. follow e x (with_prefix s p) bs) (sym (fed_backslash s k.right)))))
alike_byte e t s p k b bs a ih false g =
    ap (λ x. follow e x (with_prefix t p) bs) (fed_byte t b k.left g)
    ∙ (ap (λ q. follow e (Takes (step t (Plain b))) q bs) (prefix_alike t s p k)
    ∙ (ap (λ x. follow e (Takes x) (with_prefix s p) bs) (a.plains b (rw g refl)) ∙ ap (λ x. follow e x (with_prefix s p) bs) (sym (fed_byte s b k.right g))))

pub alike : (e h : Bool) (t s : State) (p : Places) → Cooked t s → (ys : List ℕ) → Alike e h t s ys → RunAlike e h t s p ys
alike true false t s p k [] a =
    ap (λ q. last_places t q) (prefix_alike t s p k) ∙ ap (λ x. last_token x (with_prefix s p)) (a.ends refl)
alike true true t s p k [] a = ap (λ q. last_step (step t (Plain 92)) q) (prefix_alike t s p k) ∙ ap (λ x. last_step x (with_prefix s p)) (a.plains 92 refl)
alike false false t s p k [] a = refl
alike false true t s p k [] a = refl
alike e false t s p k (b ∷ bs) a = alike_byte e t s p k b bs a (λ q z. alike e true t s q k bs z) (nat_eq b 92) refl
alike e true t s p k (b ∷ bs) a = alike_held e t s p k b bs a (λ q z. alike e false t s q k bs z) (nat_eq b 10) refl

-- The end of a token before what comes next.
pub record Stops (e h : Bool) (t k : State) (ys : List ℕ) : Type 0 where
  pub plains : (b : ℕ) → ahead_behind e h ys ≡ Next (Plain b) → step t (Plain b) ≡ Before k
  pub quoteds : (b : ℕ) → ahead_behind e h ys ≡ Next (Quoted b) → step t (Quoted b) ≡ Before k
  pub ends : ahead_behind e h ys ≡ InputEnd → ended_in t.pending t ≡ EndsIn k
  pub known : ahead_behind e h ys ≡ Unknown → ⊥

pub record InToken (t : State) : Type 0 where
  pub cooked : is_raw t.pending ≡ false
  pub inside : is_gap_state t ≡ false

abbrev StopsAt : (e h : Bool) (t k : State) (f m z ys : List ℕ) → Type 0
StopsAt e h t k f m z ys = (pr fo wo : List ℕ) → run e h t (record { prefix = f; previous = pr; behind = m; next = z; form = fo; word = wo }) ys ≡ Ended k f m

inside_prefix : (t : State) (p : Places) → InToken t → with_prefix t p ≡ p
inside_prefix t p i = ap (λ c. with_next_prefix c p) i.inside

stops_held : (e : Bool) (t k : State) (f m z : List ℕ) → InToken t → (b : ℕ) (bs : List ℕ) → Stops e true t k (b ∷ bs)
    → ((z : List ℕ) → Stops e false t k bs → StopsAt e false t k f m z bs) → (c : Bool) → nat_eq b 10 ≡ c → StopsAt e true t k f m z (b ∷ bs)
stops_held e t k f m z i b bs a ih true g pr fo wo =
    let y = eqb-true b 10 g in
    let w = ap (λ b. ahead_behind e true (b ∷ bs)) y in
    let p : Places = record { prefix = f; previous = pr; behind = m; next = z; form = fo; word = wo } in
    let r = ih bs (record { plains = λ c k. a.plains c (w ∙ k); quoteds = λ c k. a.quoteds c (w ∙ k); ends = λ k. a.ends (w ∙ k); known = λ k. a.known (w ∙ k) }) pr fo wo in
    subst (λ b. run e true t p (b ∷ bs) ≡ Ended k f m) (sym y)
    (ap (λ x. follow e x (with_prefix t p) bs) (fed_join t) ∙ (ap (λ q. run e false t (after_wait false bs q) bs) (inside_prefix t p i) ∙ r))
stops_held e t k f m z i b bs a ih false g pr fo wo =
    let p : Places = record { prefix = f; previous = pr; behind = m; next = z; form = fo; word = wo } in
    ap (λ x. follow e x (with_prefix t p) bs) (fed_quoted t b g)
    ∙ (ap (λ q. follow e (Takes (step t (Quoted b))) q bs) (inside_prefix t p i) ∙ ap (λ x. follow e (Takes x) p bs) (a.quoteds b (rw g refl)))

stops_byte : (e : Bool) (t k : State) (f m z : List ℕ) → InToken t → (b : ℕ) (bs : List ℕ) → Stops e false t k (b ∷ bs)
    → ((z : List ℕ) → Stops e true t k bs → StopsAt e true t k f m z bs) → (c : Bool) → nat_eq b 92 ≡ c → StopsAt e false t k f m z (b ∷ bs)
stops_byte e t k f m z i b bs a ih true g pr fo wo =
    let y = eqb-true b 92 g in
    let w = ap (λ b. ahead_behind e false (b ∷ bs)) y in
    let p : Places = record { prefix = f; previous = pr; behind = m; next = z; form = fo; word = wo } in
    let r = ih z (record { plains = λ c k. a.plains c (w ∙ k); quoteds = λ c k. a.quoteds c (w ∙ k); ends = λ k. a.ends (w ∙ k); known = λ k. a.known (w ∙ k) }) pr fo wo in
    subst (λ b. run e false t p (b ∷ bs) ≡ Ended k f m) (sym y)
    (ap (λ x. follow e x (with_prefix t p) bs) (fed_backslash t i.cooked) ∙ (ap (λ q. run e true t q bs) (inside_prefix t p i) ∙ r))
stops_byte e t k f m z i b bs a ih false g pr fo wo =
    let p : Places = record { prefix = f; previous = pr; behind = m; next = z; form = fo; word = wo } in
    ap (λ x. follow e x (with_prefix t p) bs) (fed_byte t b i.cooked g)
    ∙ (ap (λ q. follow e (Takes (step t (Plain b))) q bs) (inside_prefix t p i) ∙ ap (λ x. follow e (Takes x) p bs) (a.plains b (rw g refl)))

pub stops : (e h : Bool) (t k : State) (f m z : List ℕ) → InToken t → (ys : List ℕ) → Stops e h t k ys → StopsAt e h t k f m z ys
stops true false t k f m z i [] a pr fo wo =
    let p : Places = record { prefix = f; previous = pr; behind = m; next = z; form = fo; word = wo } in
    ap (λ q. last_places t q) (inside_prefix t p i) ∙ ap (λ x. last_token x p) (a.ends refl)
stops true true t k f m z i [] a pr fo wo =
    let p : Places = record { prefix = f; previous = pr; behind = m; next = z; form = fo; word = wo } in
    ap (λ q. last_step (step t (Plain 92)) q) (inside_prefix t p i) ∙ ap (λ x. last_step x p) (a.plains 92 refl)
stops false false t k f m z i [] a pr fo wo = absurd (a.known refl)
stops false true t k f m z i [] a pr fo wo = absurd (a.known refl)
stops e false t k f m z i (b ∷ bs) a pr fo wo = stops_byte e t k f m z i b bs a (λ z r. stops e true t k f m z i bs r) (nat_eq b 92) refl pr fo wo
stops e true t k f m z i (b ∷ bs) a pr fo wo = stops_held e t k f m z i b bs a (λ z r. stops e false t k f m z i bs r) (nat_eq b 10) refl pr fo wo
