-- Requests by the directories that they open files from.
use Rattle.std.specs.Prelude.{◌≡◌, ℕ, List, [], ◌∷◌, true}
use Rattle.sh_files_image.specs.Paths.{begins_at_root}
use Rattle.sh_kernel.specs.Requests.{Request, Close, Duplicate, End, Fork, Here, Kill, MakePipe, Open, PutBack, Read, SetAction, SetAside, SetForeground, SetGroup, StartProgram, TakeSignal, Write}

-- where the request opens a file, the directory that the path goes from passes the test
abbrev pub OpensFrom : (List ℕ → Type 0) → Request → Type 0
OpensFrom Passes (Read name count) = Unit {0}
OpensFrom Passes (Write number bytes) = Unit {0}
OpensFrom Passes (Close name) = Unit {0}
OpensFrom Passes (Duplicate name to) = Unit {0}
OpensFrom Passes (MakePipe from to) = Unit {0}
OpensFrom Passes (Open directory path how append number) = Passes directory
OpensFrom Passes (Here bytes number) = Unit {0}
OpensFrom Passes (SetAside number) = Unit {0}
OpensFrom Passes (PutBack aside number) = Unit {0}
OpensFrom Passes Fork = Unit {0}
OpensFrom Passes StartProgram = Unit {0}
OpensFrom Passes (End status) = Unit {0}
OpensFrom Passes (Kill to signal) = Unit {0}
OpensFrom Passes (SetAction signal action) = Unit {0}
OpensFrom Passes TakeSignal = Unit {0}
OpensFrom Passes (SetGroup member group) = Unit {0}
OpensFrom Passes (SetForeground group) = Unit {0}

-- that directory begins at the root
abbrev pub IsRooted : Request → Type 0
IsRooted = OpensFrom (λ directory. begins_at_root directory ≡ true)

abbrev pub AreRooted : List Request → Type 0
AreRooted [] = Unit {0}
AreRooted (r ∷ rs) = IsRooted r × AreRooted rs
