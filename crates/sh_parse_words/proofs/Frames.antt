-- The last frame of some frames.
use Rattle.std.proofs.Common.{◌≡◌, List, [], ◌∷◌, ◌++◌, Option, Some, None, refl, ap, sym, ◌∙◌, ◌<◌, length, arith}
use Rattle.std.specs.Prelude.{◌↔◌, IsSome, option_to_list}
use Rattle.sh_parse_words.specs.declared.build.Frame.{Frame}
use Rattle.sh_parse_words.specs.Building.{last_frame, other_frames}

pub last_is : (fs : List Frame) (f : Frame) → last_frame (fs ++ f ∷ []) ≡ Some f
last_is [] f = refl
last_is (g ∷ []) f = refl
last_is (g ∷ h ∷ fs) f = last_is (h ∷ fs) f

pub others_are : (fs : List Frame) (f : Frame) → other_frames (fs ++ f ∷ []) ≡ fs
others_are [] f = refl
others_are (g ∷ []) f = refl
others_are (g ∷ h ∷ fs) f = ap (λ z. g ∷ z) (others_are (h ∷ fs) f)

none_is_none : IsSome {T = Frame} None → ⊥
none_is_none h = absurd (cc)

pub record Popped (old new : List Frame) (r : Option Frame) : Type 0 where
  pub value : r ≡ last_frame old
  pub left : new ≡ other_frames old

pub popped : (old new : List Frame) (r : Option Frame) → old ≡ new ++ option_to_list r → (IsSome r ↔ (0 < length old)) → Popped old new r
popped old new (Some f) e s = record { value = sym (ap last_frame e ∙ last_is new f); left = sym (ap other_frames e ∙ others_are new f) }
popped [] [] None e s = record { value = refl; left = refl }
popped [] (f ∷ fs) None e s = absurd (cc)
popped (f ∷ fs) new None e s = absurd (none_is_none (s.1 (omega arith)))
