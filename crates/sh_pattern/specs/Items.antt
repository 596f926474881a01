-- Bracket lists (XCU 2.14.1, XBD 9.3.5): what follows a `[`. A mark is a byte of a pattern, quoted or not.
use Rattle.std.specs.Prelude.{ℕ, zero, suc, ◌+◌, List, [], ◌∷◌, Bool, false, ◌==◌, ◌&&◌, ◌||◌, not, take, drop, map, codes, Option, Some, None, option_map, if◌then◌else◌}
use Rattle.std.specs.Str.{bytes_eq}
use Rattle.sh_pattern.specs.declared.pattern_byte.PatternByte.{PatternByte}
use Rattle.sh_pattern.specs.declared.class.Class.{Class}
use Rattle.sh_pattern.specs.declared.class.Class.TheVariants as class
use Rattle.sh_pattern.specs.declared.item.Item.{Item}
use Rattle.sh_pattern.specs.declared.item.Item.TheVariants.{Single, Range, Named, Unknown}
use Rattle.sh_pattern.specs.Classes.{has, is_between, is_letter}

-- whether a mark is this byte, unquoted
abbrev pub is_bare : ℕ → PatternByte → Bool
is_bare b m = not m.literal && (m.byte == b)

abbrev pub byte_of : PatternByte → ℕ
byte_of m = m.byte

-- how many letters the marks begin with
abbrev pub letters : List PatternByte → ℕ
letters [] = 0
letters (m ∷ ms) = if is_letter m.byte then suc (letters ms) else 0

-- the class of a name, of the last six classes
abbrev pub other_class_of : List ℕ → Option Class
other_class_of name =
    if bytes_eq name (codes "lower") then Some class.Lower
    else if bytes_eq name (codes "print") then Some class.Print
    else if bytes_eq name (codes "punct") then Some class.Punct
    else if bytes_eq name (codes "space") then Some class.Space
    else if bytes_eq name (codes "upper") then Some class.Upper
    else if bytes_eq name (codes "xdigit") then Some class.Xdigit
    else None

-- the class of a name
abbrev pub class_of : List ℕ → Option Class
class_of name =
    if bytes_eq name (codes "alnum") then Some class.Alnum
    else if bytes_eq name (codes "alpha") then Some class.Alpha
    else if bytes_eq name (codes "blank") then Some class.Blank
    else if bytes_eq name (codes "cntrl") then Some class.Cntrl
    else if bytes_eq name (codes "digit") then Some class.Digit
    else if bytes_eq name (codes "graph") then Some class.Graph
    else other_class_of name

-- whether the marks begin with `:]`
abbrev pub ends_class : List PatternByte → Bool
ends_class [] = false
ends_class (m ∷ []) = false
ends_class (m ∷ n ∷ ms) = is_bare 58 m && is_bare 93 n

-- how many letters a class's name has, where the marks after a `[` begin with `:`, letters and `:]`
abbrev pub name_length : List PatternByte → Option ℕ
name_length [] = None
name_length (m ∷ ms) = if is_bare 58 m && ends_class (drop (letters ms) ms) then Some (letters ms) else None

abbrev pub item_of_class : Option Class → Item
item_of_class None = Unknown
item_of_class (Some c) = Named c

-- whether the marks after the start of a range begin with `-` and the end of the range
abbrev pub is_range : List PatternByte → Bool
is_range [] = false
is_range (m ∷ []) = false
is_range (m ∷ n ∷ ms) = is_bare 45 m && not (is_bare 93 n)

abbrev pub range_end : List PatternByte → ℕ
range_end [] = 0
range_end (m ∷ []) = 0
range_end (m ∷ n ∷ ms) = n.byte

-- an item that is no class
abbrev pub plain_item : PatternByte → List PatternByte → Item
plain_item m behind = if is_range behind then Range m.byte (range_end behind) else Single m.byte

abbrev pub plain_skip : List PatternByte → ℕ
plain_skip behind = if is_range behind then 2 else 0

abbrev pub class_item : Option ℕ → PatternByte → List PatternByte → Item
class_item None m behind = plain_item m behind
class_item (Some n) m behind = item_of_class (class_of (map byte_of (take n (drop 1 behind))))

abbrev pub class_skip : Option ℕ → List PatternByte → ℕ
class_skip None behind = plain_skip behind
class_skip (Some n) behind = n + 3

-- the item that begins with a mark, and how many marks after that one belong to it
abbrev pub item_of : PatternByte → List PatternByte → Item
item_of m behind = if is_bare 91 m then class_item (name_length behind) m behind else plain_item m behind

abbrev pub skip_of : PatternByte → List PatternByte → ℕ
skip_of m behind = if is_bare 91 m then class_skip (name_length behind) behind else plain_skip behind

-- whether an item takes a byte; a range whose end is below its start takes none, and so does a class that isn't known
abbrev pub item_has : Item → ℕ → Bool
item_has (Single c) b = b == c
item_has (Range low high) b = is_between low high b
item_has (Named c) b = has c b
item_has Unknown b = false

-- how many marks are before the `]` that ends the items; the first k belong to an earlier item
abbrev pub closing : ℕ → List PatternByte → Option ℕ
closing k [] = None
closing (suc k) (m ∷ ms) = option_map suc (closing k ms)
closing zero (m ∷ ms) = if is_bare 93 m then Some 0 else option_map suc (closing (skip_of m ms) ms)

-- whether some item before that `]` takes a byte; the first k marks belong to an earlier item
abbrev pub some_has : ℕ → List PatternByte → ℕ → Bool
some_has k [] b = false
some_has (suc k) (m ∷ ms) b = some_has k ms b
some_has zero (m ∷ ms) b = if is_bare 93 m then false else item_has (item_of m ms) b || some_has (skip_of m ms) ms b

-- the same with the first item, which may begin with `]`
abbrev pub first_closing : List PatternByte → Option ℕ
first_closing [] = None
first_closing (m ∷ ms) = option_map suc (closing (skip_of m ms) ms)

abbrev pub first_has : List PatternByte → ℕ → Bool
first_has [] b = false
first_has (m ∷ ms) b = item_has (item_of m ms) b || some_has (skip_of m ms) ms b

-- `!` or `^` at the start of a list negates it
abbrev pub is_negation : PatternByte → Bool
is_negation m = is_bare 33 m || is_bare 94 m

-- how many marks are between a `[` and its `]`, if it is closed
abbrev pub close_of : List PatternByte → Option ℕ
close_of [] = None
close_of (m ∷ ms) = if is_negation m then option_map suc (first_closing ms) else first_closing (m ∷ ms)

-- whether the list after a `[` takes a byte
abbrev pub list_has : List PatternByte → ℕ → Bool
list_has [] b = false
list_has (m ∷ ms) b = if is_negation m then not (first_has ms b) else first_has (m ∷ ms) b
