-- What a turn does to what is left.
use Rattle.std.proofs.Common.{◌≡◌, ℕ, zero, suc, ◌+◌, ◌<◌, ◌≤◌, List, [], ◌∷◌, ◌++◌, true, false, drop, length, refl, sym, ap, ◌∙◌, arith, add-one}
use Rattle.std.specs.Prelude.{Some, slice_get, ◌==◌}
use Rattle.std.proofs.lemmas.Option.{slice_get-get_or, slice_get_within, get_or_from_slice_get}
use Rattle.std.proofs.Common.{get_or, inl, inr}
use Rattle.std.proofs.Math.Dec.{eqb-suc-zero}
use Rattle.std.proofs.lemmas.Bool.Decides.{eqb_tells}
use Rattle.std.proofs.Math.Seq.{drop-cons}
use Rattle.sh_vars.specs.Environment.{Environment}
use Rattle.sh_syntax.specs.declared.tree.Part.{Part}
use Rattle.sh_syntax.specs.declared.tree.Parts.{Parts}
use Rattle.sh_expand_parts.specs.Drafts.{nothing}
use Rattle.sh_expand_parts.specs.declared.closing.Purpose.{Purpose}
use Rattle.sh_expand_parts.specs.declared.closing.Purpose.TheVariants as purpose
use Rattle.sh_expand_parts.specs.declared.context.Context.{Context}
use Rattle.sh_expand_parts.specs.declared.draft.Draft.{Draft}
use Rattle.sh_expand_parts.specs.declared.fault.Fault.{Fault}
use Rattle.sh_expand.specs.declared.words.Frame.{Frame}
use Rattle.sh_expand.specs.declared.wanted.Wanted.{Wanted}
use Rattle.sh_expand.specs.declared.words.WordExpansion.{WordExpansion}
use Rattle.sh_expand.specs.Expansion.{State, Outcome, Need, Done, Stops, closes, enters, is_end, place, run_from, then}
use Rattle.sh_expand.specs.Parts.{parts_of, pieces, run_part, run_word, run_words}
use Rattle.sh_expand.specs.WordProgress.{around, entered_frame, frames_weight, left_of, place_of, rest, run_frame, run_left, state_of, words_weight}
use Rattle.sh_expand.specs.Weights.{part_weight, parts_weight}

pub then_then : (o : Outcome) (f g : State → Outcome) → then (then o f) g ≡ then o (λ t. then (f t) g)
then_then (Need p e) f g = refl
then_then (Done s) f g = refl
then_then (Stops d e) f g = refl

pub around_push : (fs : List Frame) (f : Frame) (o : Outcome) → around (fs ++ f ∷ []) o ≡ around fs (then o (run_frame f))
around_push [] f o = refl
around_push (g ∷ fs) f o = ap (λ x. then x (run_frame g)) (around_push fs f o)

pub around_stops : (fs : List Frame) (d : Fault) (e : Environment) → around fs (Stops d e) ≡ Stops d e
around_stops [] d e = refl
around_stops (g ∷ fs) d e = ap (λ x. then x (run_frame g)) (around_stops fs d e)

pub drop_next : {A : Type 0} (xs : List A) (k : ℕ) (x : A) → slice_get xs k ≡ Some x → drop k xs ≡ x ∷ drop (k + 1) xs
drop_next xs k x e = rw add-one (drop-cons xs k x (slice_get_within xs k x e) ∙ ap (λ y. y ∷ drop (suc k) xs) (get_or_from_slice_get xs k x x e))

pub drop_none : {A : Type 0} (xs : List A) (k : ℕ) → length xs ≤ k → drop k xs ≡ []
drop_none [] zero h = refl
drop_none [] (suc k) h = refl
drop_none (x ∷ xs) zero h = absurd (omega arith)
drop_none (x ∷ xs) (suc k) h = drop_none xs k (omega (arith, h))

pub found : {A : Type 0} (xs ys : List A) (k : ℕ) (x : A) → ys ≡ xs → k < length ys → x ≡ get_or ys k x → slice_get xs k ≡ Some x
found xs ys k x e h g = ap (λ l. slice_get l k) (sym e) ∙ slice_get-get_or ys k x h ∙ ap Some (sym g)

some_left : (ps : List Part) (k : ℕ) → k < length ps → is_end (pieces (drop k ps)) ≡ false
some_left [] k h = absurd (omega arith)
some_left (p ∷ ps) zero h = refl
some_left (p ∷ ps) (suc k) h = some_left ps k (omega (arith, h))

none_left : (ps : List Part) (k : ℕ) → length ps ≤ k → is_end (pieces (drop k ps)) ≡ true
none_left ps k h = ap (λ l. is_end (pieces l)) (drop_none ps k h)

-- a part is the last one where nothing is left behind it
last_is : (ps : List Part) (k : ℕ) → k < length ps → (k + 1 == length ps) ≡ is_end (pieces (drop (k + 1) ps))
last_is ps k h =
    elim (eqb_tells (k + 1) (length ps)) [ inl t ↦ t.0 ∙ sym (none_left ps (k + 1) (omega (arith, t.1))) | inr f ↦ f.0 ∙ sym (some_left ps (k + 1) (omega (arith, h, f.1))) ]

-- a word inside is begun
pub enter : (fs new : List Frame) (w : Parts) (purpose : Purpose) (context : Context) (s : State) (draft : Draft)
    → new ≡ fs ++ entered_frame w purpose context s.draft ∷ [] → draft ≡ nothing
    → around new (Done (record s { draft = draft })) ≡ around fs (enters purpose context (pieces (parts_of w)) s)
enter fs new w purpose context s draft n d =
    ap (λ l. around l (Done (record s { draft = draft }))) n
    ∙ around_push fs (entered_frame w purpose context s.draft) (Done (record s { draft = draft }))
    ∙ ap (λ x. around fs (run_left (entered_frame w purpose context s.draft) true (parts_of w) (record s { draft = x }))) d

-- a word is begun
pub first_word : (ws : List Wanted) (k : ℕ) (w : Wanted) (u : Parts) (context : Context) (old new : List Frame) (s : State) (draft : Draft)
    → old ≡ [] → slice_get ws k ≡ Some w → u ≡ w.parts → context ≡ w.context
    → new ≡ old ++ entered_frame u (purpose.Word context) context s.draft ∷ [] → draft ≡ nothing
    → then (around new (Done (record s { draft = draft }))) (run_words ((drop (k + 1) ws))) ≡ then (around old (Done s)) (run_words (drop k ws))
unfolding run_word
first_word ws k w u context old new s draft z e v x n d =
    let R : List Wanted = (drop (k + 1) ws) in
    ap (λ o. then o (run_words R)) (enter old new u (purpose.Word context) context s draft n d)
    ∙ ap (λ l. then (around l (enters (purpose.Word context) context (pieces (parts_of u)) s)) (run_words R)) z
    ∙ ap (λ y. then (enters (purpose.Word context) context (pieces (parts_of y)) s) (run_words R)) v
    ∙ ap (λ y. then (enters (purpose.Word y) y (pieces (parts_of w.parts)) s) (run_words R)) x
    ∙ ap (λ l. run_words (l) s) (sym (drop_next ws k w e))
    ∙ ap (λ l. then (around l (Done s)) (run_words (drop k ws))) (sym z)

-- nothing is left of a frame
pub frame_ends : (f : Frame) (s : State) → length (parts_of f.parts) ≤ f.at → run_frame f s ≡ closes f.purpose f.saved s
frame_ends f s h = ap (λ l. run_left f (f.at == 0) l s) (drop_none (parts_of f.parts) f.at h)

-- a frame stands behind its next part
abbrev pub next_frame : Frame → Frame
next_frame f = record { parts = f.parts; at = f.at + 1; context = f.context; purpose = f.purpose; saved = f.saved }

not_first : (k : ℕ) → (k + 1 == 0) ≡ false
not_first k = rw add-one (eqb-suc-zero k)

-- the next part of a frame, and what is left behind it
pub frame_steps : (f : Frame) (p : Part) (s : State) → slice_get (parts_of f.parts) f.at ≡ Some p → f.at < length (parts_of f.parts)
    → run_frame f s ≡ then (run_part p (place_of f) s) (run_frame (next_frame f))
frame_steps f p s g h =
    let ps : List Part = parts_of f.parts in
    let more : List Part = drop (f.at + 1) ps in
    ap (λ l. run_left f (f.at == 0) l s) (drop_next ps f.at p g)
    ∙ then_then (run_part p (place f.context (f.at == 0) (is_end (pieces more))) s) (run_from f.context false (pieces more)) (closes f.purpose f.saved)
    ∙ ap (λ b. then (run_part p (place f.context (f.at == 0) b) s) (run_left f false more)) (sym (last_is ps f.at h))
    ∙ ap (λ b. then (run_part p (place_of f) s) (run_left f b more)) (sym (not_first f.at))

-- the frame is put back behind the part
pub steps : (fs new : List Frame) (f : Frame) (p : Part) (s : State) (o : Outcome)
    → new ≡ fs ++ next_frame f ∷ [] → slice_get (parts_of f.parts) f.at ≡ Some p → f.at < length (parts_of f.parts) → run_part p (place_of f) s ≡ o
    → around new o ≡ around fs (run_frame f s)
steps fs new f p s o n g h r =
    ap (λ l. around l o) n
    ∙ around_push fs (next_frame f) o
    ∙ ap (λ x. around fs (then x (run_frame (next_frame f)))) (sym r)
    ∙ ap (around fs) (sym (frame_steps f p s g h))

-- the innermost frame is taken off
pub popped : (old fs : List Frame) (f : Frame) (s : State) → old ≡ fs ++ f ∷ [] → around old (Done s) ≡ around fs (run_frame f s)
popped old fs f s e = ap (λ l. around l (Done s)) e ∙ around_push fs f (Done s)

-- what is left where only frames, the word so far and the next word's number have changed
pub same_rest : (old new : WordExpansion) (k : ℕ) (env : Environment) (bs : List (List ℕ))
    → new.words ≡ old.words → new.next ≡ k → new.done ≡ old.done
    → rest new (Done (state_of new env bs)) ≡ then (around new.frames (Done (record (state_of old env bs) { draft = new.draft }))) (run_words (drop k old.words))
same_rest old new k env bs w n d =
    ap (λ ws. then (around new.frames (Done (state_of new env bs))) (run_words (drop new.next ws))) w
    ∙ ap (λ i. then (around new.frames (Done (state_of new env bs))) (run_words (drop i old.words))) n
    ∙ ap (λ l. then (around new.frames (Done (record (state_of new env bs) { words = l }))) (run_words (drop k old.words))) d

pub at_index : {A : Type 0} (xs ys : List A) (k : ℕ) (x : A) → ys ≡ xs → k < length xs → x ≡ get_or ys k x → slice_get xs k ≡ Some x
at_index xs ys k x e h g = found xs ys k x e (let l : length ys ≡ length xs = ap length e in omega (arith, h, l)) g

-- weights
pub weight_push : (fs : List Frame) (f : Frame) → frames_weight (fs ++ f ∷ []) ≡ frames_weight fs + (1 + parts_weight (left_of f))
weight_push [] f = omega arith
weight_push (g ∷ fs) f = omega (arith, weight_push fs f)

pub enter_weight : (fs new : List Frame) (w : Parts) (purpose : Purpose) (context : Context) (saved : Draft) → new ≡ fs ++ entered_frame w purpose context saved ∷ [] → frames_weight new ≡ frames_weight fs + (1 + parts_weight (parts_of w))
enter_weight fs new w purpose context saved n = ap frames_weight n ∙ weight_push fs (entered_frame w purpose context saved)

pub first_weight : (ws : List Wanted) (k : ℕ) (w : Wanted) (u : Parts) (context : Context) (saved : Draft) (old new : List Frame) → old ≡ [] → slice_get ws k ≡ Some w → u ≡ w.parts → new ≡ old ++ entered_frame u (purpose.Word context) context saved ∷ [] → frames_weight new + words_weight ((drop (k + 1) ws)) < frames_weight old + words_weight (drop k ws)
first_weight ws k w u context saved old new z e v n =
    let a : frames_weight new ≡ frames_weight old + (1 + parts_weight (parts_of w.parts)) = enter_weight old new u (purpose.Word context) context saved n ∙ ap (λ y. frames_weight old + (1 + parts_weight (parts_of y))) v in
    let b : words_weight (drop k ws) ≡ 2 + parts_weight (parts_of w.parts) + words_weight ((drop (k + 1) ws)) = ap (λ l. words_weight (l)) (drop_next ws k w e) in
    omega arith

pub pop_weight : (old fs : List Frame) (f : Frame) → old ≡ fs ++ f ∷ [] → frames_weight old ≡ frames_weight fs + (1 + parts_weight (left_of f))
pop_weight old fs f e = ap frames_weight e ∙ weight_push fs f

pub step_weight : (fs new : List Frame) (f : Frame) (p : Part) → new ≡ fs ++ next_frame f ∷ [] → slice_get (parts_of f.parts) f.at ≡ Some p → frames_weight new + part_weight p ≡ frames_weight fs + (1 + parts_weight (left_of f))
step_weight fs new f p n g =
    let a : frames_weight new ≡ frames_weight fs + (1 + parts_weight (drop (f.at + 1) (parts_of f.parts))) = ap frames_weight n ∙ weight_push fs (next_frame f) in
    let b : parts_weight (left_of f) ≡ part_weight p + parts_weight (drop (f.at + 1) (parts_of f.parts)) = ap parts_weight (drop_next (parts_of f.parts) f.at p g) in
    omega (arith, a, b)
