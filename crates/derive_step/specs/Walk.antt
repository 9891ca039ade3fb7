-- The entries of a touched directory, in nodes of any kind: seen tells an entry, set that of a path where a file is set, from those before, and own the nodes that this file has of its own; made tells the entry of a directory that was made.
--     Sides E      what both parents have under a name, where nothing is what a parent that isn't there has
--     both_seen seen s, entries_among seen first second n      the entries of a name as contracts see them, and among those of both parents
--     entry_among seen cs n      the entry of a name among entries
--     made_in entry m p      the entry of a directory that was made
--     without_file is_file o, without_dir is_file o      the entry, unless it is a file's or a directory's
--     edited set is_file change s, renewed made is_file s      the entries of a path after an edit of it, and after one under it
--     after set made is_file d es o n      the entries of a name of the directory d after edits, where o gives those before. A file that is set is among the first parent's alone
--     name_in d p      the name of a path that lies directly in a directory
--     nodes_of own p s change      the nodes of a file, if it is set, from the entries before
--     nodes_by own d o e, all_nodes set made is_file own d es o      those of one edit, and of edits, of files directly in the directory d
use Rattle.std.specs.Prelude.{ℕ, Bool, if◌then◌else◌, List, [], ◌∷◌, ◌++◌, length, drop, Option, None, Some, option_map}
use Rattle.std.specs.Option.{option_or}
use Rattle.std.specs.BTreeMap.{BTreeMap, get}
use Rattle.std.specs.FinMap.{find as find_key}
use Rattle.std.specs.Ordering.{nat_cmp, eq_by_cmp}
use Rattle.std.specs.Cmp.Lexicographic.{slice_cmp}
use Rattle.changeset_model.specs.Path.{Path, path_cmp, is_strict_prefix}
use Rattle.changeset_model.specs.Changeset.{File, FileChange, Set, Delete}
use Rattle.node_fields.specs.declared.child.Child.{Child}
use Rattle.node_fields.specs.Children.{children_seen}
use Rattle.derive_step.specs.declared.made.Made.{Made}

-- ---- entries

abbrev pub Sides : Type 0 → Type 0
Sides E = Option E × Option E

abbrev pub both_seen : {R E : Type 0} → (R → E) → Sides R → Sides E
both_seen seen s = (option_map seen s.0, option_map seen s.1)

abbrev pub entry_among : {R E : Type 0} → (R → E) → List (Child R) → List ℕ → Option E
entry_among seen cs n = find_key (slice_cmp nat_cmp) n (children_seen seen cs)

abbrev pub entries_among : {R E : Type 0} → (R → E) → (first second : List (Child R)) → List ℕ → Sides E
entries_among seen first second n = (entry_among seen first n, entry_among seen second n)

abbrev pub made_in : {E : Type 0} → (Made → E) → BTreeMap Path Made → Path → Option E
made_in entry m p = option_map entry (get path_cmp m p)

-- ---- after edits

abbrev pub without_file : {E : Type 0} → (E → Bool) → Option E → Option E
without_file is_file None = None
without_file is_file (Some e) = if is_file e then None else Some e

abbrev pub without_dir : {E : Type 0} → (E → Bool) → Option E → Option E
without_dir is_file None = None
without_dir is_file (Some e) = if is_file e then Some e else None

abbrev pub edited : {E : Type 0} → (Sides E → File → E) → (E → Bool) → FileChange → Sides E → Sides E
edited set is_file (Set f copied) s = (Some (set s f), None)
edited set is_file Delete s = (without_file is_file s.0, without_file is_file s.1)

abbrev pub renewed : {E : Type 0} → Option E → (E → Bool) → Sides E → Sides E
renewed made is_file s = (option_or made (without_dir is_file s.0), option_or made (without_dir is_file s.1))

module _ {E : Type 0} (set : Sides E → File → E) (made : Option E) (is_file : E → Bool) where
  abbrev pub after_edit : Path → Path × FileChange → Sides E → Sides E
  after_edit p e s = if eq_by_cmp path_cmp p e.0 then edited set is_file e.1 s else (if is_strict_prefix p e.0 then renewed made is_file s else s)

  abbrev pub after_edits : Path → List (Path × FileChange) → Sides E → Sides E
  after_edits p [] s = s
  after_edits p (e ∷ es) s = after_edits p es (after_edit p e s)

abbrev pub after : {E : Type 0} → (Path → Sides E → File → E) → (Path → Option E) → (E → Bool) → Path → List (Path × FileChange) → (List ℕ → Sides E) → List ℕ → Sides E
after set made is_file d es o n = after_edits (set (d ++ n ∷ [])) (made (d ++ n ∷ [])) is_file (d ++ n ∷ []) es (o n)

-- ---- the nodes of files

abbrev pub sole : List (List ℕ) → Option (List ℕ)
sole [] = None
sole (n ∷ []) = Some n
sole (n ∷ e ∷ p) = None

abbrev pub name_in : Path → Path → Option (List ℕ)
name_in d p = if is_strict_prefix d p then sole (drop (length d) p) else None

abbrev pub nodes_of : {E : Type 0} → (Path → Sides E → File → List (List ℕ)) → Path → Sides E → FileChange → List (List ℕ)
nodes_of own p s (Set f copied) = own p s f
nodes_of own p s Delete = []

abbrev pub nodes_at : {E : Type 0} → (Path → Sides E → File → List (List ℕ)) → Path → File → (List ℕ → Sides E) → Option (List ℕ) → List (List ℕ)
nodes_at own p f o None = []
nodes_at own p f o (Some n) = own p (o n) f

abbrev pub nodes_by : {E : Type 0} → (Path → Sides E → File → List (List ℕ)) → Path → (List ℕ → Sides E) → Path × FileChange → List (List ℕ)
nodes_by own d o (p, Set f copied) = nodes_at own p f o (name_in d p)
nodes_by own d o (p, Delete) = []

abbrev pub all_nodes : {E : Type 0} → (Path → Sides E → File → E) → (Path → Option E) → (E → Bool) → (Path → Sides E → File → List (List ℕ)) → Path → List (Path × FileChange) → (List ℕ → Sides E) → List (List ℕ)
all_nodes set made is_file own d [] o = []
all_nodes set made is_file own d (e ∷ es) o = nodes_by own d o e ++ all_nodes set made is_file own d es (after set made is_file d (e ∷ []) o)
