-- What leads from one state to another.
use Rattle.std.proofs.Common.{◌≡◌, ℕ, Bool, true, false, ◌&&◌, not, nat_eq, List, [], ◌∷◌, ◌++◌, Option, Some, None, refl, sym, ap, ◌∙◌, subst, append_assoc, cond, eqb-true}
use Rattle.std.specs.List.{list_all}
use Rattle.std.proofs.lemmas.List.{append-nil}
use Rattle.sh_token_pieces.specs.declared.character.Character.{Character}
use Rattle.sh_token_pieces.specs.declared.character.Character.TheVariants.{Plain, Raw}
use Rattle.sh_token_pieces.specs.declared.head.Head.{Head}
use Rattle.sh_token_pieces.specs.declared.context.Context.{Context}
use Rattle.sh_token_pieces.specs.declared.piece.Piece.{Piece}
use Rattle.sh_token_pieces.specs.declared.pending.Pending.{Pending}
use Rattle.sh_token_pieces.specs.Characters.{Reads, Written, plain, raw}
use Rattle.sh_token_pieces.specs.Pendings.{is_raw, is_gap_pending}
use Rattle.sh_token_pieces.specs.Pieces.{levels, is_text, top_of, is_backquoted}
use Rattle.sh_token_pieces.specs.Heads.{grown_head, head_from}
use Rattle.sh_token_scanner.specs.Machine.{State, On, step, head_byte, in_head, in_backquotes}
use Rattle.sh_token_scanner.specs.Run.{is_gap_state, begins_form, begins_word, Places, with_next_prefix, with_prefix, after_character, run}
use Rattle.sh_token_scanner.proofs.Running.{placed, after, begin_of, is_raw_character, character_run, Alike, Cooked, alike}
use Rattle.sh_token_scanner.proofs.Tests.{and_true, not_true}

-- a state with a piece that has begun, and one with none
abbrev pub begun : ℕ → List Context → List Piece → ℕ → Pending → List ℕ → State
begun limit xs done lv p acc = record { contexts = xs; done = done; pending = p; bytes = acc; levels = lv; limit = limit }

abbrev pub kept : ℕ → List Context → List Piece → ℕ → State
kept limit xs done lv = begun limit xs done lv Pending.Nothing []

abbrev pub settled : ℕ → List Piece → List Context → State
settled limit done xs = kept limit xs done (levels xs)

-- from these places the run comes to another state, where the text is the rest; k: the prefix stays
pub record Lead (k e : Bool) (s : State) (p : Places) (m : List ℕ) (t : State) (rest : List ℕ) : Type 0 where
  pub places : Places
  pub next : places.next ≡ rest
  pub behind : places.behind ≡ rest
  pub prefix : k ≡ true → places.prefix ≡ p.prefix
  pub same : run e false s p m ≡ run e false t places rest

abbrev pub Leads : Bool → Bool → State → List ℕ → State → List ℕ → Type 0
Leads k e s m t rest = (p : Places) → p.next ≡ m → p.behind ≡ m → Lead k e s p m t rest

module _ (k e : Bool) where
  pub stay : (s : State) (m rest : List ℕ) → m ≡ rest → Leads k e s m s rest
  stay s m rest w p n b = record { places = p; next = n ∙ w; behind = b ∙ w; prefix = λ h. refl; same = ap (run e false s p) w }

  pub joined : (s t u : State) (m n rest : List ℕ) → Leads k e s m t n → Leads k e t n u rest → Leads k e s m u rest
  joined s t u m n rest a b p x y =
      let c = a p x y in
      let d = b c.places c.next c.behind in
      record { places = d.places; next = d.next; behind = d.behind; prefix = λ h. d.prefix h ∙ c.prefix h; same = c.same ∙ d.same }

  -- a character that goes on
  pub goes : (s t : State) (m rest : List ℕ) (c : Character) → (k ≡ true → is_gap_state s ≡ false) → is_raw s.pending ≡ is_raw_character c → Reads e c m rest → step s c ≡ On t
      → Leads k e s m t rest
  goes s t m rest c g r h w p x y =
      let q = with_prefix s (placed (begin_of c rest) p) in
      record {
        places = after_character (begins_form t) (begins_word t) rest q;
        next = refl;
        behind = refl;
        prefix = λ i. ap (λ z. (with_next_prefix z (placed (begin_of c rest) p)).prefix) (g i);
        same = character_run e s p c m rest r h x ∙ ap (λ z. after e z q rest) w;
      }

  -- a state that does the same with what comes next
  pub same_ahead : (t s : State) (m : List ℕ) → Cooked t s → Alike e false t s m → Leads k e t m s m
  same_ahead t s m c a p x y = record { places = p; next = x; behind = y; prefix = λ h. refl; same = alike e false t s p c m a }

  -- bytes that a piece which has begun keeps
  module _ (limit : ℕ) (xs : List Context) (done : List Piece) (lv : ℕ) where
    abbrev pub holding : Pending → List ℕ → State
    holding p acc = begun limit xs done lv p acc

    pub raw_keeps : (p : Pending) (f : ℕ → Bool) → (k ≡ true → (is_gap_pending p && is_text (top_of xs)) ≡ false) → is_raw p ≡ true
        → ((acc : List ℕ) (b : ℕ) → f b ≡ true → step (holding p acc) (Raw b) ≡ On (holding p (acc ++ b ∷ [])))
        → (bs acc m rest : List ℕ) → list_all f bs ≡ true → Written e (raw bs) m rest → Leads k e (holding p acc) m (holding p (acc ++ bs)) rest
    raw_keeps p f g r s [] acc m rest h w = subst (λ z. Leads k e (holding p acc) m (holding p z) rest) (sym (append-nil acc)) (stay (holding p acc) m rest w)
    raw_keeps p f g r s (b ∷ bs) acc m rest h w =
        let t = and_true (f b) (list_all f bs) h in
        subst (λ z. Leads k e (holding p acc) m (holding p z) rest) (append_assoc acc (b ∷ []) bs)
        (joined (holding p acc) (holding p (acc ++ b ∷ [])) (holding p ((acc ++ b ∷ []) ++ bs)) m w.0 rest
        (goes (holding p acc) (holding p (acc ++ b ∷ [])) m w.0 (Raw b) g r w.1 (s acc b t.0))
        (raw_keeps p f g r s bs (acc ++ b ∷ []) w.0 rest t.1 w.2))

    pub plain_keeps : (p : Pending) (f : ℕ → Bool) → (k ≡ true → (is_gap_pending p && is_text (top_of xs)) ≡ false) → is_raw p ≡ false
        → ((acc : List ℕ) (b : ℕ) → f b ≡ true → step (holding p acc) (Plain b) ≡ On (holding p (acc ++ b ∷ [])))
        → (bs acc m rest : List ℕ) → list_all f bs ≡ true → Written e (plain bs) m rest → Leads k e (holding p acc) m (holding p (acc ++ bs)) rest
    plain_keeps p f g r s [] acc m rest h w = subst (λ z. Leads k e (holding p acc) m (holding p z) rest) (sym (append-nil acc)) (stay (holding p acc) m rest w)
    plain_keeps p f g r s (b ∷ bs) acc m rest h w =
        let t = and_true (f b) (list_all f bs) h in
        subst (λ z. Leads k e (holding p acc) m (holding p z) rest) (append_assoc acc (b ∷ []) bs)
        (joined (holding p acc) (holding p (acc ++ b ∷ [])) (holding p ((acc ++ b ∷ []) ++ bs)) m w.0 rest
        (goes (holding p acc) (holding p (acc ++ b ∷ [])) m w.0 (Plain b) g r w.1 (s acc b t.0))
        (plain_keeps p f g r s bs (acc ++ b ∷ []) w.0 rest t.1 w.2))

    -- a head
    no_head : (bs : List ℕ) (h : Head) → head_from None bs ≡ Some h → ⊥
    no_head [] h w = absurd (cc)
    no_head (b ∷ bs) h w = no_head bs h w

    head_step_on : (h g : Head) (acc : List ℕ) (b : ℕ) → grown_head h b ≡ Some g → step (holding (Pending.Head h) acc) (Plain b) ≡ On (holding (Pending.Head g) (acc ++ b ∷ []))
    unfolding in_head
    head_step_on h g acc b w = ap (λ z. head_byte h (holding (Pending.Head h) acc) b z) w

    pub head_keeps : (bs : List ℕ) (h last : Head) (acc m rest : List ℕ) → head_from (Some h) bs ≡ Some last → Written e (plain bs) m rest
        → Leads k e (holding (Pending.Head h) acc) m (holding (Pending.Head last) (acc ++ bs)) rest
    head_keeps [] h last acc m rest w v =
        let i : h ≡ last = cc in
        subst (λ z. Leads k e (holding (Pending.Head h) acc) m (holding (Pending.Head last) z) rest) (sym (append-nil acc))
        (subst (λ z. Leads k e (holding (Pending.Head h) acc) m (holding (Pending.Head z) acc) rest) i (stay (holding (Pending.Head h) acc) m rest v))
    head_keeps (b ∷ bs) h last acc m rest w v = go (grown_head h b) refl w (λ g x. head_keeps bs g last (acc ++ b ∷ []) v.0 rest x v.2)
      where
        go : (x : Option Head) → grown_head h b ≡ x → head_from x bs ≡ Some last
            → ((g : Head) → head_from (Some g) bs ≡ Some last → Leads k e (holding (Pending.Head g) (acc ++ b ∷ [])) v.0 (holding (Pending.Head last) ((acc ++ b ∷ []) ++ bs)) rest)
            → Leads k e (holding (Pending.Head h) acc) m (holding (Pending.Head last) (acc ++ b ∷ bs)) rest
        go None x i f = absurd (no_head bs last i)
        go (Some g) x i f =
            subst (λ z. Leads k e (holding (Pending.Head h) acc) m (holding (Pending.Head last) z) rest) (append_assoc acc (b ∷ []) bs)
            (joined (holding (Pending.Head h) acc) (holding (Pending.Head g) (acc ++ b ∷ [])) (holding (Pending.Head last) ((acc ++ b ∷ []) ++ bs)) m v.0 rest
            (goes (holding (Pending.Head h) acc) (holding (Pending.Head g) (acc ++ b ∷ [])) m v.0 (Plain b) (λ t. refl) refl v.1 (head_step_on h g acc b x))
            (f g i))

    -- backquotes
    back_byte : (acc : List ℕ) (b : ℕ) → nat_eq b 96 ≡ false → nat_eq b 92 ≡ false → step (holding Pending.Backquotes acc) (Raw b) ≡ On (holding Pending.Backquotes (acc ++ b ∷ []))
    unfolding in_backquotes
    back_byte acc b h g = rw (h, g) refl

    back_slash : (acc : List ℕ) (b : ℕ) → nat_eq b 92 ≡ true → step (holding Pending.Backquotes acc) (Raw b) ≡ On (holding Pending.BackquotesEscape (acc ++ b ∷ []))
    unfolding in_backquotes
    back_slash acc b h =
        subst (λ b. step (holding Pending.Backquotes acc) (Raw b) ≡ On (holding Pending.BackquotesEscape (acc ++ b ∷ []))) (sym (eqb-true b 92 h)) refl

    one_back : (b : ℕ) (acc m rest : List ℕ) → nat_eq b 96 ≡ false → nat_eq b 92 ≡ false → Reads e (Raw b) m rest
        → Leads k e (holding Pending.Backquotes acc) m (holding Pending.Backquotes (acc ++ b ∷ [])) rest
    one_back b acc m rest h g r = goes (holding Pending.Backquotes acc) (holding Pending.Backquotes (acc ++ b ∷ [])) m rest (Raw b) (λ t. refl) refl r (back_byte acc b h g)

    two_back : (b c : ℕ) (acc m n rest : List ℕ) → nat_eq b 92 ≡ true → Reads e (Raw b) m n → Reads e (Raw c) n rest
        → Leads k e (holding Pending.Backquotes acc) m (holding Pending.Backquotes ((acc ++ b ∷ []) ++ c ∷ [])) rest
    two_back b c acc m n rest h r q =
        joined (holding Pending.Backquotes acc) (holding Pending.BackquotesEscape (acc ++ b ∷ [])) (holding Pending.Backquotes ((acc ++ b ∷ []) ++ c ∷ [])) m n rest
        (goes (holding Pending.Backquotes acc) (holding Pending.BackquotesEscape (acc ++ b ∷ [])) m n (Raw b) (λ t. refl) refl r (back_slash acc b h))
        (goes (holding Pending.BackquotesEscape (acc ++ b ∷ [])) (holding Pending.Backquotes ((acc ++ b ∷ []) ++ c ∷ [])) n rest (Raw c) (λ t. refl) refl q refl)

    pub back_keeps : (bs acc m rest : List ℕ) → is_backquoted bs ≡ true → Written e (raw bs) m rest
        → Leads k e (holding Pending.Backquotes acc) m (holding Pending.Backquotes (acc ++ bs)) rest
    back_keeps [] acc m rest h w = subst (λ z. Leads k e (holding Pending.Backquotes acc) m (holding Pending.Backquotes z) rest) (sym (append-nil acc)) (stay (holding Pending.Backquotes acc) m rest w)
    back_keeps (b ∷ []) acc m rest h w =
        let t = and_true (not (nat_eq b 96)) (not (nat_eq b 92)) h in
        joined (holding Pending.Backquotes acc) (holding Pending.Backquotes (acc ++ b ∷ [])) (holding Pending.Backquotes (acc ++ b ∷ [])) m w.0 rest
        (one_back b acc m w.0 (not_true (nat_eq b 96) t.0) (not_true (nat_eq b 92) t.1) w.1) (stay (holding Pending.Backquotes (acc ++ b ∷ [])) w.0 rest w.2)
    back_keeps (b ∷ c ∷ bs) acc m rest h w =
        go (nat_eq b 92) refl h (λ i. back_keeps bs ((acc ++ b ∷ []) ++ c ∷ []) w.2.0 rest i w.2.2) (λ i. back_keeps (c ∷ bs) (acc ++ b ∷ []) w.0 rest i w.2)
      where
        go : (x : Bool) → nat_eq b 92 ≡ x → cond x (is_backquoted bs) (not (nat_eq b 96) && is_backquoted (c ∷ bs)) ≡ true
            → (is_backquoted bs ≡ true → Leads k e (holding Pending.Backquotes ((acc ++ b ∷ []) ++ c ∷ [])) w.2.0 (holding Pending.Backquotes (((acc ++ b ∷ []) ++ c ∷ []) ++ bs)) rest)
            → (is_backquoted (c ∷ bs) ≡ true → Leads k e (holding Pending.Backquotes (acc ++ b ∷ [])) w.0 (holding Pending.Backquotes ((acc ++ b ∷ []) ++ c ∷ bs)) rest)
            → Leads k e (holding Pending.Backquotes acc) m (holding Pending.Backquotes (acc ++ b ∷ c ∷ bs)) rest
        go true x i f g =
            subst (λ z. Leads k e (holding Pending.Backquotes acc) m (holding Pending.Backquotes z) rest) (append_assoc (acc ++ b ∷ []) (c ∷ []) bs ∙ append_assoc acc (b ∷ []) (c ∷ bs))
            (joined (holding Pending.Backquotes acc) (holding Pending.Backquotes ((acc ++ b ∷ []) ++ c ∷ [])) (holding Pending.Backquotes (((acc ++ b ∷ []) ++ c ∷ []) ++ bs)) m w.2.0 rest
            (two_back b c acc m w.0 w.2.0 x w.1 w.2.1) (f i))
        go false x i f g =
            let t = and_true (not (nat_eq b 96)) (is_backquoted (c ∷ bs)) i in
            subst (λ z. Leads k e (holding Pending.Backquotes acc) m (holding Pending.Backquotes z) rest) (append_assoc acc (b ∷ []) (c ∷ bs))
            (joined (holding Pending.Backquotes acc) (holding Pending.Backquotes (acc ++ b ∷ [])) (holding Pending.Backquotes ((acc ++ b ∷ []) ++ c ∷ bs)) m w.0 rest
            (one_back b acc m w.0 (not_true (nat_eq b 96) t.0) x w.1) (g t.1))
