-- How a changeset is applied to the files of a tree, step by step.
--     IsFlat es      no file lies under another
--     clears p e      an edit sets a path above or under this one
--     is_set_of p e      an edit sets this path
--     file_in m p      the file at a path
--     edited_once e p o, edited es p o      what the edits leave at a path where o was, if a set only replaces a file
use Rattle.std.specs.Prelude.{◌≡◌, Bool, true, false, ◌||◌, if◌then◌else◌, List, [], ◌∷◌, Option, None, option_map, is_some}
use Rattle.std.specs.List.{list_any}
use Rattle.std.specs.List.Sorted.{IsStrictlySortedBy}
use Rattle.std.specs.Map.{keys_of, lookup}
use Rattle.std.specs.BTreeMap.{BTreeMap, get, is_at}
use Rattle.changeset_model.specs.Path.{Path, path_cmp, path_eq, is_strict_prefix}
use Rattle.changeset_model.specs.Changeset as model
use Rattle.tree_fold.specs.declared.file.File.{File}
use Rattle.tree_fold.specs.View.{file_view}

abbrev pub IsFlat : List (Path × File) → Type 0
IsFlat es = (p q : Path) → is_some (lookup (is_at (path_cmp p)) es) ≡ true → is_some (lookup (is_at (path_cmp q)) es) ≡ true → is_strict_prefix p q ≡ false

abbrev pub clears : Path → Path × model.FileChange → Bool
clears p (q, model.Set f copied) = is_strict_prefix p q || is_strict_prefix q p
clears p (q, model.Delete) = false

abbrev pub is_set_of : Path → Path × model.FileChange → Bool
is_set_of p (q, model.Set f copied) = path_eq q p
is_set_of p (q, model.Delete) = false

abbrev pub file_in : BTreeMap Path File → Path → Option model.File
file_in m p = option_map file_view (get path_cmp m p)

-- by strictly rising paths, and no file lies under another
pub record IsTree (es : List (Path × File)) : Type 0 where
  pub ordered : IsStrictlySortedBy path_cmp (keys_of es)
  pub flat : IsFlat es

-- no path that is set lies under another
abbrev pub IsApart : List (Path × model.FileChange) → Type 0
IsApart es = (p q : Path) → list_any (is_set_of p) es ≡ true → list_any (is_set_of q) es ≡ true → is_strict_prefix p q ≡ false

abbrev pub edited_once : Path × model.FileChange → Path → Option model.File → Option model.File
edited_once (q, model.Set f copied) p o = if path_eq q p then option_map (λ _. f) o else o
edited_once (q, model.Delete) p o = if path_eq q p then None else o

abbrev pub edited : List (Path × model.FileChange) → Path → Option model.File → Option model.File
edited [] p o = o
edited (e ∷ es) p o = edited es p (edited_once e p o)
