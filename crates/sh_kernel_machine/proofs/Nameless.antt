-- A file that no path names is one more node.
use Rattle.std.proofs.Common.{◌≡◌, ℕ, ◌<◌, ◌≤◌, List, [], ◌∷◌, ◌++◌, Bool, true, false, cond, length, length-append, slice_get, Some, Result, Ok, Err, ap, arith, sym, ◌∙◌}
use Rattle.std.specs.Prelude.{nat_le}
use Rattle.std.specs.FinMap.{get}
use Rattle.sh_files.specs.Nodes.{FileMap, nameless, new_file_of, with_nameless}
use Rattle.sh_files.specs.declared.fault.FileFault.{FileFault}
use Rattle.sh_files.specs.declared.fault.FileFault.TheVariants.{TooLarge}
use Rattle.sh_kernel_machine.proofs.Lists.{front_place}

abbrev pub file_in : FileMap → Result (ℕ × FileMap) FileFault → FileMap
file_in d (Ok x) = x.1
file_in d (Err fault) = d

pub made : (files : FileMap) (bytes : List ℕ) (o : ℕ × FileMap) → nameless files bytes ≡ Ok o → with_nameless files (new_file_of bytes) ≡ o.1
made files bytes o h = of_size (nat_le (length bytes) 1073741824) h
  where
    of_size : (b : Bool) → cond b (Ok (length files.nodes, with_nameless files (new_file_of bytes))) (Err TooLarge) ≡ Ok o → with_nameless files (new_file_of bytes) ≡ o.1
    of_size true h = ap (λ (x : Result (ℕ × FileMap) FileFault). file_in files x) h
    of_size false h = absurd (cc)

pub nameless_other : (files : FileMap) (bytes : List ℕ) (o : ℕ × FileMap) (n : ℕ) → n < length files.nodes → nameless files bytes ≡ Ok o → slice_get o.1.nodes n ≡ slice_get files.nodes n
nameless_other files bytes o n within h = ap (λ (x : FileMap). slice_get x.nodes n) (sym (made files bytes o h)) ∙ front_place files.nodes (new_file_of bytes ∷ []) n within

pub nameless_length : (files : FileMap) (bytes : List ℕ) (o : ℕ × FileMap) → nameless files bytes ≡ Ok o → length files.nodes ≤ length o.1.nodes
nameless_length files bytes o h =
    let l : length (files.nodes ++ new_file_of bytes ∷ []) ≡ length o.1.nodes = ap (λ (x : FileMap). length x.nodes) (made files bytes o h) in
    omega (arith, l, length-append files.nodes (new_file_of bytes ∷ []))

pub nameless_paths : (files : FileMap) (bytes : List ℕ) (o : ℕ × FileMap) → nameless files bytes ≡ Ok o → (path : List ℕ) (n : ℕ) → get files.paths path ≡ Some n → get o.1.paths path ≡ Some n
nameless_paths files bytes o h path n named = ap (λ (x : FileMap). get x.paths path) (sym (made files bytes o h)) ∙ named
