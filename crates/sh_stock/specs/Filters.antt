-- The stock programs that are filters: cat, head, having and count.
use Rattle.std.specs.Prelude.{ℕ, List, [], ◌∷◌, ◌++◌, ◌&&◌, not, min, length, codes, Option, Some, None, if◌then◌else◌}
use Rattle.std.specs.Str.{bytes_eq}
use Rattle.sh_stock.specs.Filtering.{Filtering}
use Rattle.sh_stock.specs.Lines.{contains, first_lines, is_empty, kept_lines, unfinished_line}
use Rattle.sh_stock.specs.Programs.{count_limit, count_text, name_of}
use Rattle.sh_base.specs.Decimals.{is_number, value_of}
use Rattle.sh_stock.specs.declared.name.Name.{Name}
use Rattle.sh_stock.specs.declared.name.Name.TheVariants.{Cat, Echo, True, False, Yes, Spin, Head, Having, Count, ReadStop}

-- cat: its output is its input
abbrev pub cat_filter : Filtering
cat_filter = record { output = λ x. x; status = λ x. 0; part = λ x. x }

-- head: the first lines of the input
abbrev pub head_filter : ℕ → Filtering
head_filter lines = record { output = λ x. first_lines lines x; status = λ x. 0; part = λ x. first_lines lines x }

-- an unfinished line, if there is one and it contains a text
abbrev pub last_line : List ℕ → List ℕ → List ℕ
last_line text line = if not (is_empty line) && contains text line then line else []

-- the lines that contain a text
abbrev pub having_output : List ℕ → List ℕ → List ℕ
having_output text x = kept_lines text [] x ++ last_line text (unfinished_line [] x)

-- 0 if some bytes were written, else 1
abbrev pub having_status : List ℕ → ℕ
having_status written = if is_empty written then 1 else 0

-- having: it is certain to write the whole lines that contain the text
abbrev pub having_filter : List ℕ → Filtering
having_filter text =
    record {
      output = λ x. having_output text x;
      status = λ x. having_status (having_output text x);
      part = λ x. kept_lines text [] x;
    }

-- count: the number of bytes of the input, at most `count_limit`
abbrev pub count_filter : Filtering
count_filter = record { output = λ x. count_text (min count_limit (length x)); status = λ x. 0; part = λ x. [] }

-- a filter that takes no operands
abbrev pub filter_alone : Filtering → List (List ℕ) → Option Filtering
filter_alone f [] = Some f
filter_alone f (operand ∷ operands) = None

abbrev pub head_filtering : List (List ℕ) → Option Filtering
head_filtering [] = None
head_filtering (option ∷ []) = None
head_filtering (option ∷ number ∷ []) =
    if bytes_eq option (codes "-n") && is_number number then Some (head_filter (value_of number)) else None
head_filtering (option ∷ number ∷ other ∷ others) = None

abbrev pub having_filtering : List (List ℕ) → Option Filtering
having_filtering [] = None
having_filtering (text ∷ []) = Some (having_filter text)
having_filtering (text ∷ other ∷ others) = None

abbrev pub filtering_of : Option Name → List (List ℕ) → Option Filtering
filtering_of None operands = None
filtering_of (Some Cat) operands = filter_alone cat_filter operands
filtering_of (Some Echo) operands = None
filtering_of (Some True) operands = None
filtering_of (Some False) operands = None
filtering_of (Some Yes) operands = None
filtering_of (Some Spin) operands = None
filtering_of (Some Head) operands = head_filtering operands
filtering_of (Some Having) operands = having_filtering operands
filtering_of (Some Count) operands = filter_alone count_filter operands
filtering_of (Some ReadStop) operands = None

-- the filter that a name with its operands makes, if it makes one
abbrev pub filterings : List ℕ → List (List ℕ) → Option Filtering
filterings name operands = filtering_of (name_of name) operands
