-- The pieces of a body are those of the definition.
use Rattle.std.proofs.Common.{◌≡◌, ◌↔◌, ℕ, ◌+◌, ◌-◌, ◌≤◌, true, List, [], ◌∷◌, length, refl, sym, ap, ◌∙◌, subst, arith}
use Rattle.sh_token_pieces.specs.declared.context.Context.TheVariants.{Body}
use Rattle.sh_token_pieces.specs.declared.piece.Piece.{Piece}
use Rattle.sh_token_pieces.specs.declared.character.Character.TheVariants.{Plain}
use Rattle.sh_token.specs.Tokens.{OpensLevel, braces, parenthesis, backquote}
use Rattle.sh_token.specs.Body.{IsPrefix, IsBodyTooDeep, IsBodyOpen, BodyPieces, AllOf, OpenAt, TooDeepAt, IsBody}
use Rattle.sh_token_scanner.specs.Machine.{State}
use Rattle.sh_token_scanner.specs.Run.{Scanned, Ended, Deep, Open, scanned_in}
use Rattle.sh_token.specs.Found.{of_body, pieces_of_body}
use Rattle.sh_token.proofs.Laws.{reads_length, pieces_length, joined_length}
use Rattle.sh_token.proofs.BodyComplete.{body_complete, body_deep, form_behind}
use Rattle.sh_token.proofs.BodySound.{Shown, body_sound}

ended_pieces : (k j : State) (f g r s : List ℕ) → Ended k f r ≡ Ended j g s → k ≡ j
ended_pieces k j f g r s h = cc

not_open : (k : State) (f r o : List ℕ) → Ended k f r ≡ Open o → ⊥
not_open k f r o h = cc

not_deep : (k : State) (f r s : List ℕ) → Ended k f r ≡ Deep s → ⊥
not_deep k f r s h = cc

deep_not_open : (r o : List ℕ) → Deep r ≡ Open o → ⊥
deep_not_open r o h = cc

some_first : (place : List ℕ) → OpensLevel true place → length place ≤ 0 → ⊥
some_first place (braces after w) l = let a = reads_length true (Plain 36) place w.0 w.1 in absurd (omega arith)
some_first place (parenthesis after w) l = let a = reads_length true (Plain 36) place w.0 w.1 in absurd (omega arith)
some_first place (backquote after w) l = let a = reads_length true (Plain 96) place w.0 w.1 in absurd (omega arith)

module _ (limit : ℕ) (bytes : List ℕ) where
  prefix_length : (pieces : List Piece) (place : List ℕ) → IsPrefix limit bytes pieces place → length place ≤ length bytes
  prefix_length pieces place f =
      let a = pieces_length true limit pieces [] (Body ∷ []) bytes f.last f.pieces in
      let b = joined_length f.last place f.joined in
      omega arith

  deep_length : (place : List ℕ) → IsBodyTooDeep limit bytes place → length place ≤ length bytes
  deep_length place d =
      let a = pieces_length true limit d.pieces [] (Body ∷ []) bytes d.last d.before in
      let b = joined_length d.last place d.placed in
      omega arith

  shown : (s : Scanned) → scanned_in Body true limit bytes ≡ s → Shown limit bytes s
  shown s h = subst (Shown limit bytes) h (body_sound limit bytes)

  -- the run stops at the one place where a level too many opens
  same_place : (r o : List ℕ) → Deep o ≡ Deep r → o ≡ r
  same_place r o h = cc

  found_deep : (r : List ℕ) → scanned_in Body true limit bytes ≡ Deep r → IsBodyTooDeep limit bytes r
  found_deep r h = let d = shown (Deep r) h in subst (IsBodyTooDeep limit bytes) (same_place r d.0 (sym (body_deep limit bytes d.0 d.1) ∙ h)) d.1

  found : (s : Scanned) → scanned_in Body true limit bytes ≡ s → IsBody limit bytes (of_body bytes s)
  found (Ended k f r) h = shown (Ended k f r) h
  found (Deep r) h = let d = found_deep r h in let l = deep_length r d in (r, d, omega arith)
  found (Open f) h =
      let g = shown (Open f) h in
      let l = prefix_length g.pieces f g.prefix in (
        f,
        record {
          pieces = g.pieces;
          prefix = g.prefix;
          begins = g.begins;
          furthest = λ others other i. form_behind limit bytes f other others h i;
          level = λ deep d. deep_not_open deep f (sym (body_deep limit bytes deep d) ∙ h);
        },
        omega arith,
      )

  all_only : (pieces : List Piece) → IsPrefix limit bytes pieces [] → of_body bytes (scanned_in Body true limit bytes) ≡ AllOf pieces
  all_only pieces f = let c = body_complete limit bytes pieces f in ap (of_body bytes) c.is

  deep_only : (place : ℕ) (rest : List ℕ) → IsBodyTooDeep limit bytes rest → place + length rest ≡ length bytes → of_body bytes (scanned_in Body true limit bytes) ≡ TooDeepAt place
  deep_only place rest d w = let x : length bytes - length rest ≡ place = omega arith in ap (of_body bytes) (body_deep limit bytes rest d) ∙ ap TooDeepAt x

  open_only : (place : ℕ) (rest : List ℕ) (s : Scanned) → scanned_in Body true limit bytes ≡ s → IsBodyOpen limit bytes rest → place + length rest ≡ length bytes → of_body bytes s ≡ OpenAt place
  open_only place rest (Ended k f r) h o w = let g = shown (Ended k f r) h in absurd (some_first rest o.begins (o.furthest k.done [] g))
  open_only place rest (Deep r) h o w = absurd (o.level r (found_deep r h))
  open_only place rest (Open f) h o w =
      let g = shown (Open f) h in
      let a = o.furthest g.pieces f g.prefix in
      let b = form_behind limit bytes f rest o.pieces h o.prefix in
      let x : length bytes - length f ≡ place = omega arith in
      ap OpenAt x

  pub body_law : (answer : BodyPieces) → (pieces_of_body limit bytes ≡ answer) ↔ IsBody limit bytes answer
  unfolding pieces_of_body
  body_law answer = ((λ h. subst (IsBody limit bytes) h (found (scanned_in Body true limit bytes) refl)), λ h. only answer h)
    where
      only : (answer : BodyPieces) → IsBody limit bytes answer → of_body bytes (scanned_in Body true limit bytes) ≡ answer
      only (AllOf pieces) h = all_only pieces h
      only (OpenAt place) h = open_only place h.0 (scanned_in Body true limit bytes) refl h.1 h.2
      only (TooDeepAt place) h = deep_only place h.0 h.1 h.2
