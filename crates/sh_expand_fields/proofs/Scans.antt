-- One pass gives the fields.
use Rattle.std.proofs.Common.{◌≡◌, List, [], ◌∷◌, ◌++◌, Bool, true, false, map, refl, sym, ap, ◌∙◌, append_assoc, append-nil, if◌then◌else◌}
use Rattle.std.specs.Prelude.{filter}
use Rattle.std.specs.List.{flat_map}
use Rattle.sh_expand_fields.specs.declared.item.Item.{Item}
use Rattle.sh_expand_fields.specs.declared.class.Class.{Class}
use Rattle.sh_expand_fields.specs.declared.class.Class.TheVariants.{White, Hard, Between, Keep}
use Rattle.sh_expand_fields.specs.Splitting.{is_white, is_hard, is_between, cons_first, pieces, items_of, is_filled, runs, one_at_least, piece_fields, split_one, field_splitting}
use Rattle.sh_expand_fields.specs.Scan.{field_or_none, hard_closed, or_filled, scan}
use Rattle.sh_expand_fields.specs.Ranges.{keeps, NoBetween}

pub keeps_snoc : (cur : List Item) (x : Item) (h : List Class) → keeps (cur ++ x ∷ []) ++ h ≡ keeps cur ++ Keep x ∷ h
keeps_snoc [] x h = refl
keeps_snoc (c ∷ cur) x h = ap (λ l. Keep c ∷ l) (keeps_snoc cur x h)

kept_keeps : (cur : List Item) → items_of (keeps cur) ≡ cur
kept_keeps [] = refl
kept_keeps (x ∷ cur) = ap (λ l. x ∷ l) (kept_keeps cur)

white_pieces : (cur : List Item) (s : List Class) → pieces is_white (keeps cur ++ White ∷ s) ≡ keeps cur ∷ pieces is_white s
white_pieces [] s = refl
white_pieces (x ∷ cur) s = ap (cons_first (Keep x)) (white_pieces cur s)

keep_pieces : (cur : List Item) → pieces is_white (keeps cur ++ []) ≡ keeps cur ∷ []
keep_pieces [] = refl
keep_pieces (x ∷ cur) = ap (cons_first (Keep x)) (keep_pieces cur)

runs_white : (cur : List Item) (s : List Class) → runs (keeps cur ++ White ∷ s) ≡ field_or_none cur ++ runs s
runs_white [] s = refl
runs_white (x ∷ cur) s = ap (λ l. map items_of (filter is_filled l)) (white_pieces (x ∷ cur) s) ∙ ap (λ f. (x ∷ f) ∷ runs s) (kept_keeps cur)

runs_keep : (cur : List Item) → runs (keeps cur ++ []) ≡ field_or_none cur
runs_keep [] = refl
runs_keep (x ∷ cur) = ap (λ l. map items_of (filter is_filled l)) (keep_pieces (x ∷ cur)) ∙ ap (λ f. (x ∷ f) ∷ []) (kept_keeps cur)

-- the fields of pieces, the first of which may have a field already
abbrev gather : Bool → List (List Class) → List (List Item)
gather false ss = piece_fields ss
gather true [] = []
gather true (s ∷ []) = runs s
gather true (s ∷ t ∷ ss) = runs s ++ piece_fields (t ∷ ss)

abbrev prefix : List Item → List (List Class) → List (List Class)
prefix cur [] = []
prefix cur (s ∷ ss) = (keeps cur ++ s) ∷ ss

abbrev one_piece : Bool → List Item → List Class → List (List Item)
one_piece any cur q = gather any (prefix cur (pieces is_hard q))

abbrev gather_all : Bool → List Item → List (List Class) → List (List Item)
gather_all any cur [] = []
gather_all any cur (q ∷ qs) = one_piece any cur q ++ flat_map split_one qs

-- there is always a first piece
abbrev HasFirst : List (List Class) → Type 0
HasFirst ss = (h : List Class) × ((hs : List (List Class)) × (ss ≡ h ∷ hs))

has_first : (p : Class → Bool) (xs : List Class) → HasFirst (pieces p xs)
has_first p [] = ([], ([], refl))
has_first p (x ∷ xs) = by_test (p x) x (pieces p xs) (has_first p xs)
  where
    by_test : (b : Bool) (x : Class) (ss : List (List Class)) → HasFirst ss → HasFirst (if b then [] ∷ ss else cons_first x ss)
    by_test true x ss f = ([], (ss, refl))
    by_test false x ss f = (x ∷ f.0, (f.1.0, ap (cons_first x) f.1.1))

keep_piece : (any : Bool) (cur : List Item) (x : Item) (q : List Class) → one_piece any (cur ++ x ∷ []) q ≡ one_piece any cur (Keep x ∷ q)
keep_piece any cur x q =
    let f : HasFirst (pieces is_hard q) = has_first is_hard q in
    ap (λ ss. gather any (prefix (cur ++ x ∷ []) ss)) f.1.1
    ∙ ap (λ s. gather any (s ∷ f.1.0)) (keeps_snoc cur x f.0)
    ∙ ap (λ ss. gather any (prefix cur (cons_first (Keep x) ss))) (sym f.1.1)

white_gather : (any : Bool) (cur : List Item) (h : List Class) (hs : List (List Class)) → field_or_none cur ++ gather (or_filled any cur) (h ∷ hs) ≡ gather any ((keeps cur ++ White ∷ h) ∷ hs)
white_gather true [] h [] = refl
white_gather true [] h (t ∷ hs) = refl
white_gather false [] h [] = refl
white_gather false [] h (t ∷ hs) = refl
white_gather true (c ∷ cur) h [] = sym (runs_white (c ∷ cur) h)
white_gather true (c ∷ cur) h (t ∷ hs) = ap (λ r. r ++ piece_fields (t ∷ hs)) (sym (runs_white (c ∷ cur) h))
white_gather false (c ∷ cur) h [] = sym (runs_white (c ∷ cur) h)
white_gather false (c ∷ cur) h (t ∷ hs) = ap (λ r. one_at_least r ++ piece_fields (t ∷ hs)) (sym (runs_white (c ∷ cur) h))

white_piece : (any : Bool) (cur : List Item) (q : List Class) → field_or_none cur ++ one_piece (or_filled any cur) [] q ≡ one_piece any cur (White ∷ q)
white_piece any cur q =
    let f : HasFirst (pieces is_hard q) = has_first is_hard q in
    ap (λ ss. field_or_none cur ++ gather (or_filled any cur) (prefix [] ss)) f.1.1
    ∙ white_gather any cur f.0 f.1.0
    ∙ ap (λ ss. gather any (prefix cur (cons_first White ss))) (sym f.1.1)

hard_gather : (any : Bool) (cur : List Item) (h : List Class) (hs : List (List Class)) → hard_closed any cur ++ piece_fields (h ∷ hs) ≡ gather any ((keeps cur ++ []) ∷ h ∷ hs)
hard_gather true [] h hs = refl
hard_gather false [] h hs = refl
hard_gather true (c ∷ cur) h hs = ap (λ r. r ++ piece_fields (h ∷ hs)) (sym (runs_keep (c ∷ cur)))
hard_gather false (c ∷ cur) h hs = ap (λ r. one_at_least r ++ piece_fields (h ∷ hs)) (sym (runs_keep (c ∷ cur)))

hard_piece : (any : Bool) (cur : List Item) (q : List Class) → hard_closed any cur ++ one_piece false [] q ≡ one_piece any cur (Hard ∷ q)
hard_piece any cur q =
    let f : HasFirst (pieces is_hard q) = has_first is_hard q in
    ap (λ ss. hard_closed any cur ++ piece_fields (prefix [] ss)) f.1.1
    ∙ hard_gather any cur f.0 f.1.0
    ∙ ap (λ ss. gather any ((keeps cur ++ []) ∷ ss)) (sym f.1.1)

one_is : (q : List Class) → one_piece false [] q ≡ split_one q
one_is q = let f : HasFirst (pieces is_hard q) = has_first is_hard q in ap (λ ss. piece_fields (prefix [] ss)) f.1.1 ∙ ap piece_fields (sym f.1.1)

last_gather : (any : Bool) (s : List Class) → gather any (s ∷ []) ≡ runs s
last_gather true s = refl
last_gather false s = refl

scan_gathers : (any : Bool) (cur : List Item) (xs : List Class) → scan any cur xs ≡ gather_all any cur (pieces is_between xs)
scan_gathers any cur [] = sym (append-nil _ ∙ last_gather any (keeps cur ++ []) ∙ runs_keep cur)
scan_gathers any cur (Keep x ∷ xs) =
    let f : HasFirst (pieces is_between xs) = has_first is_between xs in
    scan_gathers any (cur ++ x ∷ []) xs
    ∙ ap (gather_all any (cur ++ x ∷ [])) f.1.1
    ∙ ap (λ r. r ++ flat_map split_one f.1.0) (keep_piece any cur x f.0)
    ∙ ap (λ ss. gather_all any cur (cons_first (Keep x) ss)) (sym f.1.1)
scan_gathers any cur (White ∷ xs) =
    let f : HasFirst (pieces is_between xs) = has_first is_between xs in
    ap (λ r. field_or_none cur ++ r) (scan_gathers (or_filled any cur) [] xs ∙ ap (gather_all (or_filled any cur) []) f.1.1)
    ∙ sym (append_assoc (field_or_none cur) (one_piece (or_filled any cur) [] f.0) (flat_map split_one f.1.0))
    ∙ ap (λ r. r ++ flat_map split_one f.1.0) (white_piece any cur f.0)
    ∙ ap (λ ss. gather_all any cur (cons_first White ss)) (sym f.1.1)
scan_gathers any cur (Hard ∷ xs) =
    let f : HasFirst (pieces is_between xs) = has_first is_between xs in
    ap (λ r. hard_closed any cur ++ r) (scan_gathers false [] xs ∙ ap (gather_all false []) f.1.1)
    ∙ sym (append_assoc (hard_closed any cur) (one_piece false [] f.0) (flat_map split_one f.1.0))
    ∙ ap (λ r. r ++ flat_map split_one f.1.0) (hard_piece any cur f.0)
    ∙ ap (λ ss. gather_all any cur (cons_first Hard ss)) (sym f.1.1)
scan_gathers any cur (Between ∷ xs) =
    let f : HasFirst (pieces is_between xs) = has_first is_between xs in
    ap (λ r. field_or_none cur ++ r) (scan_gathers false [] xs ∙ ap (gather_all false []) f.1.1 ∙ ap (λ r. r ++ flat_map split_one f.1.0) (one_is f.0) ∙ ap (flat_map split_one) (sym f.1.1))
    ∙ ap (λ r. r ++ flat_map split_one (pieces is_between xs)) (sym (last_gather any (keeps cur ++ []) ∙ runs_keep cur))

pub scan_splits : (xs : List Class) → scan false [] xs ≡ field_splitting xs
scan_splits xs =
    let f : HasFirst (pieces is_between xs) = has_first is_between xs in
    scan_gathers false [] xs ∙ ap (gather_all false []) f.1.1 ∙ ap (λ r. r ++ flat_map split_one f.1.0) (one_is f.0) ∙ ap (flat_map split_one) (sym f.1.1)

one_param : (xs : List Class) → NoBetween xs → pieces is_between xs ≡ xs ∷ []
one_param [] n = refl
one_param (White ∷ xs) n = ap (cons_first White) (one_param xs n)
one_param (Hard ∷ xs) n = ap (cons_first Hard) (one_param xs n)
one_param (Between ∷ xs) n = absurd n
one_param (Keep x ∷ xs) n = ap (cons_first (Keep x)) (one_param xs n)

pub scan_one : (xs : List Class) → NoBetween xs → scan false [] xs ≡ split_one xs
scan_one xs n = scan_splits xs ∙ ap (flat_map split_one) (one_param xs n) ∙ append-nil (split_one xs)
