-- Proof that cat, head, having and count keep the laws of filters.
use Rattle.std.specs.Prelude.{◌≡◌, ℕ, ◌&&◌, List, [], ◌∷◌, Bool, true, false, codes, Option, Some, None, IsSome, if◌then◌else◌, refl}
use Rattle.std.specs.Str.{bytes_eq}
use Rattle.std.proofs.Common.{subst}
use Rattle.sh_stock.specs.CatLaw.{cat_is_filter, cat_keeps_parts}
use Rattle.sh_stock.specs.CountLaw.{count_is_filter, count_keeps_parts}
use Rattle.sh_stock.specs.Filtering.{Filtering, IsFilter, KeepsFilterLaws, KeepsParts}
use Rattle.sh_stock.specs.Filters.{cat_filter, count_filter, filter_alone, filtering_of, filterings, head_filter}
use Rattle.sh_stock.specs.HavingLaw.{having_is_filter, having_keeps_parts}
use Rattle.sh_stock.specs.HeadLaw.{head_is_filter, head_keeps_parts}
use Rattle.sh_stock.specs.Programs.{alone, head_of, usage_error, name_of, programs, started_by}
use Rattle.sh_base.specs.Decimals.{is_number, value_of}
use Rattle.sh_stock.specs.declared.name.Name.{Name}
use Rattle.sh_stock.specs.declared.name.Name.TheVariants.{Cat, Echo, True, False, Yes, Spin, Head, Having, Count, ReadStop}
use Rattle.sh_stock.specs.declared.program.Program.{Program}

-- a filter by name, its program, and the law between them
pub record IsMade (f : Filtering) (program : Program) : Type 0 where
  pub parts : KeepsParts f
  pub filters : IsFilter programs program f

-- where there is a filter there is a program, and the law holds between them
abbrev pub MadeWell : Option Filtering → Option Program → Type 0
MadeWell None program = Unit {0}
MadeWell (Some f) None = ⊥
MadeWell (Some f) (Some program) = IsMade f program

alone_well : (f : Filtering) (program : Program) (operands : List (List ℕ)) → IsMade f program → MadeWell (filter_alone f operands) (Some (alone program operands))
alone_well f program [] made = made
alone_well f program (operand ∷ operands) made = tt

head_well : (right : Bool) (n : ℕ) → MadeWell (if right then Some (head_filter n) else None) (Some (if right then head_of n else usage_error))
head_well true n = record { parts = head_keeps_parts n; filters = head_is_filter n }
head_well false n = tt

made_well : (name : Option Name) (operands : List (List ℕ)) → MadeWell (filtering_of name operands) (started_by name operands)
made_well None operands = tt
made_well (Some Cat) operands = alone_well cat_filter _ operands (record { parts = cat_keeps_parts; filters = cat_is_filter })
made_well (Some Echo) operands = tt
made_well (Some True) operands = tt
made_well (Some False) operands = tt
made_well (Some Yes) operands = tt
made_well (Some Spin) operands = tt
made_well (Some Head) [] = tt
made_well (Some Head) (option ∷ []) = tt
made_well (Some Head) (option ∷ number ∷ []) = head_well (bytes_eq option (codes "-n") && is_number number) (value_of number)
made_well (Some Head) (option ∷ number ∷ other ∷ others) = tt
made_well (Some Having) [] = tt
made_well (Some Having) (text ∷ []) = record { parts = having_keeps_parts text; filters = having_is_filter text }
made_well (Some Having) (text ∷ other ∷ others) = tt
made_well (Some Count) operands = alone_well count_filter _ operands (record { parts = count_keeps_parts; filters = count_is_filter })
made_well (Some ReadStop) operands = tt

parts_of : (filtering : Option Filtering) (program : Option Program) → MadeWell filtering program → (f : Filtering) → filtering ≡ Some f → KeepsParts f
parts_of None program well f h = cc
parts_of (Some g) None well f h = absurd well
parts_of (Some g) (Some program) well f h = let same : g ≡ f = cc in subst (λ (e : Filtering). KeepsParts e) same well.parts

start_of : (filtering : Option Filtering) (program : Option Program) → MadeWell filtering program → (f : Filtering) → filtering ≡ Some f → IsSome program
start_of None program well f h = cc
start_of (Some g) None well f h = absurd well
start_of (Some g) (Some program) well f h = refl

filter_of : (filtering : Option Filtering) (made : Option Program) → MadeWell filtering made → (f : Filtering) (program : Program) → filtering ≡ Some f → made ≡ Some program → IsFilter programs program f
filter_of None made well f program h e = cc
filter_of (Some g) None well f program h e = absurd well
filter_of (Some g) (Some made) well f program h e =
    let same : g ≡ f = cc in
    let one : made ≡ program = cc in
    subst (λ (p : Program). IsFilter programs p f) one (subst (λ (k : Filtering). IsFilter programs made k) same well.filters)

pub programs-filter_laws : KeepsFilterLaws programs filterings
programs-filter_laws =
    record {
      parts = λ name operands f h. parts_of (filterings name operands) (programs.start name operands) (made_well (name_of name) operands) f h;
      starts = λ name operands f h. start_of (filterings name operands) (programs.start name operands) (made_well (name_of name) operands) f h;
      filters = λ name operands f program h e. filter_of (filterings name operands) (programs.start name operands) (made_well (name_of name) operands) f program h e;
    }
