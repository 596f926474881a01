-- What the machine finds from the beginning of a text on is as the definition has it.
use Rattle.std.proofs.Common.{◌≡◌, ◌⊎◌, inl, inr, ℕ, zero, suc, ◌<◌, Bool, true, false, ◌&&◌, nat_eq, List, [], ◌∷◌, ◌++◌, length, refl, sym, ap, ◌∙◌, subst, arith, cond, eqb-true}
use Rattle.std.specs.List.{list_all}
use Rattle.std.proofs.lemmas.List.{append-nil}
use Rattle.std.proofs.lemmas.List.Folds.{list_all-append}
use Rattle.sh_token_pieces.specs.declared.character.Character.TheVariants.{Plain, Quoted, Raw}
use Rattle.sh_token_pieces.specs.declared.context.Context.TheVariants.{Top, Word}
use Rattle.sh_token_pieces.specs.declared.piece.Piece.{Piece}
use Rattle.sh_token_pieces.specs.declared.piece.Piece.TheVariants.{Byte, Escaped, Backslash, SingleQuoted, DoubleQuotesOpen, DoubleQuotesClose, Dollar, Variable, Parameter, BraceOpen, BraceClose, ArithmeticOpen, ArithmeticClose, CommandsOpen, CommandsClose, Backquoted, WordOpen, WordClose, Blank, Comment}
use Rattle.sh_token_pieces.specs.declared.pending.Pending.{Pending}
use Rattle.sh_token_pieces.specs.Bytes.{is_blank, is_operator_byte, is_no_newline}
use Rattle.sh_token_pieces.specs.Characters.{joins, Reads, Written, plain, raw, ahead}
use Rattle.sh_token_pieces.specs.Growth.{operator_of}
use Rattle.sh_token_pieces.specs.Pieces.{IsPiece, ArePieces, behind, contexts_behind, is_gap, begins_word, ends_comment}
use Rattle.sh_token.specs.Tokens.{begins_join, Joined, ending, HasToken, IsTooDeep}
use Rattle.sh_token_scanner.specs.Machine.{State, Stepped, On, grow, plain_byte, quoted_byte, between, escape, in_comment, word_byte}
use Rattle.sh_token_scanner.specs.Run.{Scanned, Ended, Deep, Open, Places, with_next_prefix, after_character, run, scan_of}
use Rattle.sh_token.specs.Found.{kind_of}
use Rattle.sh_token_scanner.proofs.Running.{placed, after, character_run}
use Rattle.sh_token_scanner.proofs.Tests.{and_true, and_both, and_false, not_false}
use Rattle.sh_token_scanner.proofs.Leads.{begun, settled}
use Rattle.sh_token_scanner.proofs.Between.{plain_between, between_blank, between_hash, between_operator, between_word}
use Rattle.sh_token.proofs.Gaps.{gap_kind}
use Rattle.sh_token.proofs.Paths.{WordBehind, Path, Going, Shown, are_pieces_snoc, no_join_at}
use Rattle.sh_token.proofs.Sound.{ahead_plain, ahead_quoted, operator_of_text, plain_at, one_of, word_byte_sound, escape_sound}
use Rattle.sh_token.proofs.Steps.{written_snoc, raw_snoc, all_snoc}
use Rattle.sh_token.proofs.Whole.{NextCharacter, got, over, cut, next_cooked, next_character, over_run, cut_run, onward_shown, inner, grown_shown, top_operator}

-- what a scanned text says of its first token; where a level too many opens, that it does so somewhere
abbrev pub Answered : Bool → ℕ → List ℕ → Scanned → Type 0
Answered e limit bytes (Ended k f r) = HasToken e limit bytes f r (kind_of k.done)
Answered e limit bytes (Deep r) = (place : List ℕ) × IsTooDeep e limit bytes place
Answered e limit bytes (Open f) = Unit {0}

answered : (e : Bool) (limit : ℕ) (bytes middle prefix : List ℕ) (gap : List Piece) → list_all is_gap gap ≡ true → ArePieces e limit [] (Top ∷ []) gap bytes middle → Joined middle prefix → (s : Scanned) → Shown e limit gap prefix s → Answered e limit bytes s
answered e limit bytes middle prefix gap b a j (Ended k f r) h =
    subst (λ z. HasToken e limit bytes z r (kind_of k.done)) (sym h.0) (record { gap = gap; middle = middle; blank = b; between = a; joined = j; token = h.1 })
answered e limit bytes middle prefix gap b a j (Deep r) h = (
  h.place,
  record {
    gap = gap;
    middle = middle;
    prefix = prefix;
    blank = b;
    between = a;
    joined = j;
    pieces = h.here.pieces;
    last = h.here.last;
    before = h.here.before;
    going = h.here.going;
    placed = h.here.placed;
    opens = h.here.opens;
  },
)
answered e limit bytes middle prefix gap b a j (Open f) h = tt

-- a gap with one piece more
gap_behind : (m : Piece) (done : List Piece) → is_gap m ≡ true → behind done Top [] m ≡ Top ∷ []
gap_behind (Byte b) done h = absurd (cc)
gap_behind (Escaped b) done h = absurd (cc)
gap_behind (Backslash b) done h = absurd (cc)
gap_behind (SingleQuoted bs) done h = absurd (cc)
gap_behind DoubleQuotesOpen done h = absurd (cc)
gap_behind DoubleQuotesClose done h = absurd (cc)
gap_behind Dollar done h = absurd (cc)
gap_behind (Variable bs) done h = absurd (cc)
gap_behind (Parameter b) done h = absurd (cc)
gap_behind (BraceOpen bs) done h = absurd (cc)
gap_behind BraceClose done h = absurd (cc)
gap_behind ArithmeticOpen done h = absurd (cc)
gap_behind ArithmeticClose done h = absurd (cc)
gap_behind CommandsOpen done h = absurd (cc)
gap_behind CommandsClose done h = absurd (cc)
gap_behind (Backquoted bs) done h = absurd (cc)
gap_behind WordOpen done h = absurd (cc)
gap_behind (WordClose r) done h = absurd (cc)
gap_behind (Blank b) done h = refl
gap_behind (Comment bs) done h = refl
gap_behind (Piece.Bodies bs) done h = absurd (cc)
gap_behind (Piece.Operator o) done h = absurd (cc)

gap_contexts : (ms done : List Piece) → list_all is_gap ms ≡ true → contexts_behind done (Top ∷ []) ms ≡ Top ∷ []
gap_contexts [] done h = refl
gap_contexts (m ∷ ms) done h =
    let p = and_true (is_gap m) (list_all is_gap ms) h in
    ap (λ xs. contexts_behind (done ++ m ∷ []) xs ms) (gap_behind m done p.0) ∙ gap_contexts ms (done ++ m ∷ []) p.1

all_gap_snoc : (ms : List Piece) (m : Piece) → list_all is_gap ms ≡ true → is_gap m ≡ true → list_all is_gap (ms ++ m ∷ []) ≡ true
all_gap_snoc ms m h g = list_all-append is_gap ms (m ∷ []) ∙ and_both (list_all is_gap ms) (is_gap m && true) h (and_both (is_gap m) true g refl)

abbrev gap_pending : Bool → Pending
gap_pending false = Pending.Nothing
gap_pending true = Pending.Comment

abbrev GapHeld : Bool → Bool → List ℕ → List ℕ → List ℕ → Type 0
GapHeld e false acc mid m = (acc ≡ []) × (mid ≡ m)
GapHeld e true acc mid m = (list_all is_no_newline acc ≡ true) × Written e (Plain 35 ∷ raw acc) mid m

module _ (e : Bool) (limit : ℕ) (bytes : List ℕ) where
  abbrev GapSound : List ℕ → Type 0
  GapSound m = (done : List Piece) (mid acc : List ℕ) (c : Bool) (p : Places) → list_all is_gap done ≡ true → ArePieces e limit [] (Top ∷ []) done bytes mid → GapHeld e c acc mid m → p.next ≡ m
      → Answered e limit bytes (run e false (begun limit (Top ∷ []) done 0 (gap_pending c) acc) p m)

  module _ (done : List Piece) (mid : List ℕ) (blank : list_all is_gap done ≡ true) (walked : ArePieces e limit [] (Top ∷ []) done bytes mid) where
    abbrev s : State
    s = settled limit done (Top ∷ [])

    more_gap : (m : Piece) (after : List ℕ) → IsPiece e limit done Top [] m mid after → ArePieces e limit [] (Top ∷ []) (done ++ m ∷ []) bytes after
    more_gap m after i = are_pieces_snoc e limit done [] (Top ∷ []) Top [] m bytes mid after walked (gap_contexts done [] blank) i

    -- the end of the input behind a gap
    at_the_end : (n : ℕ) → mid ≡ joins n → e ≡ true → Answered e limit bytes (Ended s [] [])
    at_the_end n w v =
        subst (HasToken e limit bytes [] []) (sym (gap_kind done blank))
        (record { gap = done; middle = mid; blank = blank; between = walked; joined = record { lines = n; is = w ∙ sym (append-nil (joins n)); over = refl }; token = ending v refl refl })

    -- a word begins with this character
    first_path : (prefix : List ℕ) → begins_word (ahead e prefix) ≡ true → Path e limit (WordBehind done) prefix (done ++ WordOpen ∷ []) (Word (length done) ∷ Top ∷ []) prefix
    first_path prefix h =
        record {
          inner = [];
          is = refl;
          walked = (prefix, record { written = refl; fits = h; level = refl; compound = refl }, refl);
          going = refl;
          contexts = refl;
          inside = record { order = refl; inner = refl };
          opened = ((λ t. absurd (cc)), tt);
        }

    word_shown : (prefix rest : List ℕ) (y : Stepped) (p : Places) → Joined mid prefix → Going e limit (WordBehind done) prefix y p.previous prefix prefix rest → p.behind ≡ prefix → p.prefix ≡ prefix → Answered e limit bytes (after e y (placed prefix p) rest)
    word_shown prefix rest y p j g b f = answered e limit bytes mid prefix done blank walked j (after e y (placed prefix p) rest) (onward_shown e limit done prefix blank y p prefix prefix rest (inner e limit done prefix blank rest) g b f)

    module _ (c : ℕ) (rest : List ℕ) (p : Places) (r : Reads e (Plain c) mid rest) where
      abbrev prefix : List ℕ
      prefix = c ∷ rest

      abbrev q : Places
      q = with_next_prefix true (placed prefix p)

      at_prefix : (d : List ℕ) → (nat_eq c 92 ≡ false) ⊎ ((c ≡ 92) × (e ≡ true) × (rest ≡ [])) → begins_join (c ∷ rest) ≡ false
      at_prefix d (inl h) = no_join_at c rest h
      at_prefix d (inr h) = ap (λ z. begins_join (c ∷ z)) h.2

      joined : Joined mid prefix
      joined = record { lines = r.0; is = r.1; over = at_prefix [] r.2 }

      here : Reads e (Plain c) prefix rest
      here = (0, refl, r.2)

      plain_word : is_blank c ≡ false → nat_eq c 35 ≡ false → is_operator_byte c ≡ false → Going e limit (WordBehind done) prefix (word_byte (Word (length done)) (settled limit (done ++ WordOpen ∷ []) (Word (length done) ∷ Top ∷ [])) c) p.previous prefix prefix rest
      plain_word h i k =
          word_byte_sound e limit (WordBehind done) prefix blank p.previous (Word (length done)) (Top ∷ []) (done ++ WordOpen ∷ []) prefix
          (first_path prefix (ap begins_word (ahead_plain e c prefix rest here) ∙ rw (h, k, i) refl)) c rest refl (rw (h, k) refl) here

      no_close : is_operator_byte c ≡ false → nat_eq c 41 ≡ false
      no_close h = go (nat_eq c 41) refl
        where
          go : (d : Bool) → nat_eq c 41 ≡ d → d ≡ false
          go false i = refl
          go true i = let z = ap is_operator_byte (eqb-true c 41 i) in absurd (cc)

      no_line : is_operator_byte c ≡ false → nat_eq c 10 ≡ false
      no_line h = go (nat_eq c 10) refl
        where
          go : (d : Bool) → nat_eq c 10 ≡ d → d ≡ false
          go false i = refl
          go true i = let z = ap is_operator_byte (eqb-true c 10 i) in absurd (cc)

      -- a byte before a token
      plain_gap : GapSound rest → Answered e limit bytes (after e (plain_byte s c) q rest)
      plain_gap ih = subst (λ y. Answered e limit bytes (after e y q rest)) (sym (plain_between s c refl)) (blank_case (is_blank c) refl)
        where
          operator_case : (d : Bool) → is_operator_byte c ≡ d → is_blank c ≡ false → nat_eq c 35 ≡ false → Answered e limit bytes (after e (between s c) q rest)
          operator_case true h i k =
              subst (λ y. Answered e limit bytes (after e y q rest)) (sym (between_operator s c i k (and_false (nat_eq c 41)) (and_false (nat_eq c 10)) h))
              (answered e limit bytes mid prefix done blank walked joined (after e (grow (operator_of c) s) q rest)
              (grown_shown e limit done prefix blank (operator_of c) q rest (top_operator e limit done prefix blank rest) (subst (λ z. Written e (plain z) prefix rest) (sym (operator_of_text c h)) (one_of e (Plain c) prefix rest here)) refl))
          operator_case false h i k =
              subst (λ y. Answered e limit bytes (after e y q rest)) (sym (between_word s c i k h (no_close h) (no_line h))) (word_shown prefix rest (word_byte (Word (length done)) (settled limit (done ++ WordOpen ∷ []) (Word (length done) ∷ Top ∷ [])) c) q joined (plain_word i k h) refl refl)

          comment_case : (d : Bool) → nat_eq c 35 ≡ d → is_blank c ≡ false → Answered e limit bytes (after e (between s c) q rest)
          comment_case true h i =
              subst (λ z. Answered e limit bytes (after e (between s z) (with_next_prefix true (placed (z ∷ rest) p)) rest)) (sym (eqb-true c 35 h))
              (subst (λ y. Answered e limit bytes (after e y (with_next_prefix true (placed (35 ∷ rest) p)) rest)) (sym (between_hash s))
              (ih done mid [] true (after_character false false rest (with_next_prefix true (placed (35 ∷ rest) p))) blank walked (refl, one_of e (Plain 35) mid rest (plain_at e c 35 mid rest h r)) refl))
          comment_case false h i = operator_case (is_operator_byte c) refl i h

          blank_case : (d : Bool) → is_blank c ≡ d → Answered e limit bytes (after e (between s c) q rest)
          blank_case true h =
              subst (λ y. Answered e limit bytes (after e y q rest)) (sym (between_blank s c h))
              (ih (done ++ Blank c ∷ []) rest [] false (after_character false false rest q) (all_gap_snoc done (Blank c) blank refl) (more_gap (Blank c) rest (record { written = one_of e (Plain c) mid rest r; fits = h; level = refl; compound = refl })) (refl, refl) refl)
          blank_case false h = comment_case (nat_eq c 35) refl h

    quoted_gap : (c : ℕ) (rest : List ℕ) (p : Places) → Reads e (Quoted c) mid rest → Answered e limit bytes (after e (quoted_byte s c) (with_next_prefix true (placed (92 ∷ c ∷ rest) p)) rest)
    unfolding quoted_byte
    quoted_gap c rest p r =
        let prefix : List ℕ = 92 ∷ c ∷ rest in
        let here : Reads e (Quoted c) prefix rest = (0, refl, r.2) in
        word_shown prefix rest (escape (Word (length done)) (settled limit (done ++ WordOpen ∷ []) (Word (length done) ∷ Top ∷ [])) c) (with_next_prefix true (placed prefix p)) (record { lines = r.0; is = r.1; over = r.2 })
        (escape_sound e limit (WordBehind done) prefix blank p.previous (Word (length done)) (Top ∷ []) (done ++ WordOpen ∷ []) prefix (first_path prefix (ap begins_word (ahead_quoted e c prefix rest here))) c rest refl here) refl refl

  nothing_gap : (done : List Piece) (mid m : List ℕ) (p : Places) → list_all is_gap done ≡ true → ArePieces e limit [] (Top ∷ []) done bytes mid → mid ≡ m → p.next ≡ m → NextCharacter e false m
      → ((rest : List ℕ) → length rest < length m → GapSound rest) → Answered e limit bytes (run e false (settled limit done (Top ∷ [])) p m)
  nothing_gap done mid m p b a w n (got (Plain c) rest k r l) ih =
      subst (Answered e limit bytes) (sym (character_run e (settled limit done (Top ∷ [])) p (Plain c) m rest k r n)) (plain_gap done mid b a c rest p (subst (λ z. Reads e (Plain c) z rest) (sym w) r) (ih rest l))
  nothing_gap done mid m p b a w n (got (Quoted c) rest k r l) ih =
      subst (Answered e limit bytes) (sym (character_run e (settled limit done (Top ∷ [])) p (Quoted c) m rest k r n)) (quoted_gap done mid b a c rest p (subst (λ z. Reads e (Quoted c) z rest) (sym w) r))
  nothing_gap done mid m p b a w n (got (Raw c) rest k r l) ih = absurd (cc)
  nothing_gap done mid m p b a w n (over i v z) ih = subst (Answered e limit bytes) (sym (over_run e (settled limit done (Top ∷ [])) p i m refl v n)) (go e refl)
    where
      go : (d : Bool) → e ≡ d → Answered e limit bytes (run d false (settled limit done (Top ∷ [])) (placed [] p) [])
      go false h = tt
      go true h = at_the_end done mid b a i (w ∙ v) h
  nothing_gap done mid m p b a w n (cut i v d r) ih = subst (Answered e limit bytes) (sym (cut_run e (settled limit done (Top ∷ [])) p i m refl v n d)) tt

  -- in a comment before a token
  comment_gap : (done : List Piece) (mid acc m : List ℕ) (p : Places) → list_all is_gap done ≡ true → ArePieces e limit [] (Top ∷ []) done bytes mid → list_all is_no_newline acc ≡ true
      → Written e (Plain 35 ∷ raw acc) mid m → p.next ≡ m → NextCharacter e true m → ((rest : List ℕ) → length rest < length m → GapSound rest)
      → Answered e limit bytes (run e false (begun limit (Top ∷ []) done 0 Pending.Comment acc) p m)
  unfolding in_comment
  comment_gap done mid acc m p b a h w n (got (Plain c) rest k r l) ih = absurd (cc)
  comment_gap done mid acc m p b a h w n (got (Quoted c) rest k r l) ih = absurd (cc)
  comment_gap done mid acc m p b a h w n (got (Raw c) rest k r l) ih =
      subst (Answered e limit bytes) (sym (character_run e (begun limit (Top ∷ []) done 0 Pending.Comment acc) p (Raw c) m rest k r n)) (go (nat_eq c 10) refl)
    where
      q : Places
      q = with_next_prefix true (placed (c ∷ rest) p)

      go : (d : Bool) → nat_eq c 10 ≡ d
          → Answered e limit bytes (after e (cond d (plain_byte (settled limit (done ++ Comment acc ∷ []) (Top ∷ [])) c) (On (begun limit (Top ∷ []) done 0 Pending.Comment (acc ++ c ∷ [])))) (with_next_prefix true (placed (c ∷ rest) p)) rest)
      go true i =
          let z = eqb-true c 10 i in
          let g : m ≡ 10 ∷ rest = r ∙ ap (λ y. y ∷ rest) z in
          subst (λ y. Answered e limit bytes (after e (plain_byte (settled limit (done ++ Comment acc ∷ []) (Top ∷ [])) y) (with_next_prefix true (placed (y ∷ rest) p)) rest)) (sym z)
          (plain_gap (done ++ Comment acc ∷ []) m (all_gap_snoc done (Comment acc) b refl)
          (more_gap done mid b a (Comment acc) m (record { written = w; fits = and_both (list_all is_no_newline acc) (ends_comment e m) h (ap (ends_comment e) g); level = refl; compound = refl })) 10 rest p (0, g, inl refl) (ih rest l))
      go false i =
          ih rest l done mid (acc ++ c ∷ []) true (after_character false false rest (with_next_prefix true (placed (c ∷ rest) p))) b a
          (all_snoc is_no_newline acc c h (not_false (nat_eq c 10) i), subst (λ z. Written e (Plain 35 ∷ z) mid rest) (raw_snoc acc c) (written_snoc e (Plain 35 ∷ raw acc) (Raw c) mid m rest w r)) refl
  comment_gap done mid acc m p b a h w n (over i v z) ih =
      let y = z refl in
      subst (λ t. Answered e limit bytes (run e false (begun limit (Top ∷ []) done 0 Pending.Comment acc) p t)) (sym y) (go e refl)
    where
      go : (d : Bool) → e ≡ d → Answered e limit bytes (run d false (begun limit (Top ∷ []) done 0 Pending.Comment acc) p [])
      go false k = tt
      go true k =
          let y = z refl in
          subst (λ t. Answered e limit bytes (Ended (settled limit (done ++ Comment acc ∷ []) (Top ∷ [])) t t)) (sym (n ∙ y))
          (at_the_end (done ++ Comment acc ∷ []) m (all_gap_snoc done (Comment acc) b refl)
          (more_gap done mid b a (Comment acc) m (record { written = w; fits = and_both (list_all is_no_newline acc) (ends_comment e m) h (ap (ends_comment e) y ∙ k); level = refl; compound = refl })) 0 y k)
  comment_gap done mid acc m p b a h w n (cut i v d r) ih = absurd (cc)

  gap_sound : (fuel : ℕ) (m : List ℕ) → length m < fuel → GapSound m
  gap_sound zero m l done mid acc c p b a h n = absurd (omega arith)
  gap_sound (suc fuel) m l done mid acc false p b a h n =
      subst (λ z. Answered e limit bytes (run e false (begun limit (Top ∷ []) done 0 Pending.Nothing z) p m)) (sym h.0) (nothing_gap done mid m p b a h.1 n (next_cooked e m) (λ rest k. gap_sound fuel rest (omega arith)))
  gap_sound (suc fuel) m l done mid acc true p b a h n = comment_gap done mid acc m p b a h.0 h.1 n (next_character e true m) (λ rest k. gap_sound fuel rest (omega arith))

-- each scanned text is as the definition has it
pub sound : (e : Bool) (limit : ℕ) (bytes : List ℕ) → Answered e limit bytes (scan_of e limit bytes)
sound e limit bytes = gap_sound e limit bytes (suc (length bytes)) bytes (omega arith) [] bytes [] false (record { prefix = bytes; previous = bytes; behind = bytes; next = bytes; form = bytes; word = bytes }) refl refl (refl, refl) refl
