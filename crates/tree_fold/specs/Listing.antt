-- A directory's children, listed in the order of the files below it.
--     dir_path dir      the path of a directory, whose root is no path of a file;  start_bound dir      where its files start;  is_in dir p      a path lies in it
--     listed before files      the children after one of this name
use Rattle.std.specs.Prelude.{ℕ, Bool, true, false, if◌then◌else◌, List, [], ◌∷◌, bytes_eq, Option, None, Some}
use Rattle.std.specs.Borrow.{Bor}
use Rattle.std.specs.declared.ops.Bound.{Bound}
use Rattle.std.specs.declared.ops.Bound.TheVariants.{Excluded, Unbounded}
use Rattle.changeset_model.specs.Path.{Path, is_strict_prefix}
use Rattle.changeset_model.specs.Changeset.{File}

abbrev pub dir_path : Option (Bor Path) → Path
dir_path None = []
dir_path (Some d) = d.now

abbrev pub start_bound : Option (Bor Path) → Bound Path
start_bound None = Unbounded
start_bound (Some d) = Excluded d.now

abbrev pub is_in : Option (Bor Path) → Path → Bool
is_in None p = true
is_in (Some d) p = is_strict_prefix d.now p

abbrev pub is_again : Option (List ℕ) → List ℕ → Bool
is_again None name = false
is_again (Some before) name = bytes_eq before name

-- the file of this path, if it has no more elements
abbrev pub alone : Path → File → Option File
alone [] f = Some f
alone (e ∷ p) f = None

abbrev pub listed : Option (List ℕ) → List (Path × File) → List (List ℕ × Option File)
listed before [] = []
listed before (([], f) ∷ fs) = listed before fs
listed before ((name ∷ p, f) ∷ fs) = if is_again before name then listed before fs else (name, alone p f) ∷ listed (Some name) fs
