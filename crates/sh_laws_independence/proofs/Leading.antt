-- Where a description leads, and what a step there may change.
use Rattle.std.proofs.Common.{◌≡◌, ℕ, List, Bool, true, false, ◌||◌, ◌&&◌, ◌==◌, Option, Some, slice_get, refl, ap, ◌∙◌, eq-eqb}
use Rattle.std.specs.Option.{option_map_or}
use Rattle.sh_kernel_descriptors.specs.Descriptors.{reads_from, writes_to}
use Rattle.sh_kernel_descriptors.specs.Terminals.{is_of_terminal, is_terminal_target}
use Rattle.sh_kernel_descriptors.specs.declared.description.Description.{Description}
use Rattle.sh_kernel_descriptors.specs.declared.description.Target.{Target}
use Rattle.sh_kernel_descriptors.specs.declared.description.Target.TheVariants.{File, ReadEnd, WriteEnd}
use Rattle.sh_kernel.specs.Reaching.{is_end, is_file, is_node, is_screen}
use Rattle.sh_laws_independence.specs.Parts.{Parts, changed_by_read, changed_by_write, has_offset, is_regular, used}

-- ---- where the description of a number leads
pub end_at : (es : List Description) (k pipe : ℕ) (e : Description) → slice_get es k ≡ Some e → (reads_from pipe e.target || writes_to pipe e.target) ≡ true → is_end es pipe k ≡ true
end_at es k pipe e there h = ap (λ (o : Option Description). option_map_or (λ (x : Description). reads_from pipe x.target || writes_to pipe x.target) o false) there ∙ h

pub file_at : (es : List Description) (k node : ℕ) (e : Description) → slice_get es k ≡ Some e → is_node node e.target ≡ true → is_file es node k ≡ true
file_at es k node e there h = ap (λ (o : Option Description). option_map_or (λ (x : Description). is_node node x.target) o false) there ∙ h

pub screen_at : (es : List Description) (k : ℕ) (e : Description) → slice_get es k ≡ Some e → is_terminal_target e.target ≡ true → is_screen es k ≡ true
screen_at es k e there h = ap (λ (o : Option Description). option_map_or is_of_terminal o false) there ∙ h

offset_at : (es : List Description) (k : ℕ) (e : Description) → slice_get es k ≡ Some e → is_regular e.target ≡ true → has_offset es k ≡ true
offset_at es k e there h = ap (λ (o : Option Description). option_map_or (λ (x : Description). is_regular x.target) o false) there ∙ h

-- ---- a target's own parts
pub reads_own : (pipe : ℕ) → (reads_from pipe (ReadEnd pipe) || writes_to pipe (ReadEnd pipe)) ≡ true
reads_own pipe = ap (λ (b : Bool). b || false) (eq-eqb pipe pipe refl)

pub writes_own : (pipe : ℕ) → (reads_from pipe (WriteEnd pipe) || writes_to pipe (WriteEnd pipe)) ≡ true
writes_own pipe = eq-eqb pipe pipe refl

pub node_own : (node : ℕ) → is_node node (File node) ≡ true
node_own node = eq-eqb node node refl

-- ---- what may change
-- the parts have what a read changes of what is open under this number
pub record AllowsRead (u : Parts) (k : ℕ) (target : Target) : Type 0 where
  pub offset : is_regular target ≡ true → u.descriptions k ≡ true
  pub pipe : (n : ℕ) → (reads_from n target || writes_to n target) ≡ true → u.pipes n ≡ true
  pub terminal : is_terminal_target target ≡ true → u.terminal ≡ true

-- and what a write changes
pub record AllowsWrite (u : Parts) (k : ℕ) (target : Target) : Type 0 where
  pub read : AllowsRead u k target
  pub node : (n : ℕ) → is_node n target ≡ true → u.files n ≡ true

both : (a b : Bool) → a ≡ true → b ≡ true → (a && b) ≡ true
both true b h g = g
both false b h g = absurd (cc)

pub used_allows : (es : List Description) (pid k : ℕ) (e : Description) → slice_get es k ≡ Some e → AllowsWrite (used es pid k) k e.target
used_allows es pid k e there = record {
  read = record { offset = λ _. eq-eqb k k refl; pipe = λ n h. end_at es k n e there h; terminal = λ h. screen_at es k e there h };
  node = λ n h. file_at es k n e there h;
}

pub read_allows : (es : List Description) (k : ℕ) (e : Description) → slice_get es k ≡ Some e → AllowsRead (changed_by_read es k) k e.target
read_allows es k e there = record {
  offset = λ h. both (k == k) (has_offset es k) (eq-eqb k k refl) (offset_at es k e there h);
  pipe = λ n h. end_at es k n e there h;
  terminal = λ h. screen_at es k e there h;
}

pub write_allows : (es : List Description) (k : ℕ) (e : Description) → slice_get es k ≡ Some e → AllowsWrite (changed_by_write es k) k e.target
write_allows es k e there = record {
  read = record {
    offset = λ h. both (k == k) (has_offset es k) (eq-eqb k k refl) (offset_at es k e there h);
    pipe = λ n h. end_at es k n e there h;
    terminal = λ h. screen_at es k e there h;
  };
  node = λ n h. file_at es k n e there h;
}
