-- The directories of which both parents have different unodes, gathered from the roots down.
--     are_apart_from m a b d      both have a directory, from these roots on, and the ids of its unodes differ
--     AreApartGathered m a b first second      of each such directory, at a path that may stand in a changeset, what was gathered of both parents is what the table has
--     are_apart_at m first second d      the same as are_apart_from, of two parents
--     are_ids_apart o p, is_child_apart a b n      the ids of a directory's unodes differ;  so do those of the directory of a name in two others
--     IsChildIn a b child      the ids are those of the directory of this name in both;  IsApartAt a b n o      of the name n, where both have it as a directory with different unodes
--     is_named n children      one of them has this name
--     ids_in m parent d n      the ids in the table of the directory of a name in another one
--     IsGathered m parent      all that was gathered of a parent is what the table has;  HasDir m parent d      of a directory it is, HaveDir m first second d      of both parents
--     HaveDirs m first second dirs      of each of these directories;  LieDeep n dirs      each lies so deep at least
--     is_under dirs d      a directory lies under one of these;  IsReached m first second dirs d      or was gathered of both parents
--     IsGrown m before after      a parent of which more was gathered
--     AreGrown m first second dirs first_after second_after dirs_after      both parents, and the directories whose own are still to be gone through
use Rattle.std.specs.Prelude.{◌≡◌, ◌≤◌, ◌⊎◌, ℕ, Bool, true, false, not, List, length, bytes_eq, Option, None, Some}
use Rattle.std.specs.List.{AllByRecursion, list_any}
use Rattle.std.specs.Option.{option_and_then}
use Rattle.std.specs.BTreeMap.{BTreeMap}
use Rattle.changeset_model.specs.Path.{Path, is_path, is_strict_prefix}
use Rattle.node_table.specs.Table.{Nodes}
use Rattle.derive_step.specs.declared.job.DirIds.{DirIds}
use Rattle.derive_step.specs.declared.job.DirNodes.{DirNodes}
use Rattle.derive_step.specs.declared.job.Parent.{Parent}
use Rattle.derive_step.specs.Views.{Before, are_apart, before_seen}
use Rattle.manifest_store.specs.declared.apart.ApartChild.{ApartChild}
use Rattle.manifest_store.specs.Nodes.{child_ids, dir_from}
use Rattle.manifest_store.specs.Dirs.{AreDirs, IsFull}

abbrev pub are_apart_from : Nodes → (a b : Before) → Path → Bool
are_apart_from m a b d = are_apart (dir_from m a d) (dir_from m b d)

pub record AreApartGathered (m : Nodes) (a b : Before) (first second : BTreeMap Path DirNodes) : Type 0 where
  pub first_full : (d : Path) → is_path d ≡ true → are_apart_from m a b d ≡ true → IsFull m a first d
  pub second_full : (d : Path) → is_path d ≡ true → are_apart_from m a b d ≡ true → IsFull m b second d

abbrev pub are_apart_at : Nodes → (first second : Parent) → Path → Bool
are_apart_at m first second d = are_apart_from m (before_seen first.root) (before_seen second.root) d

-- ---- in one directory

abbrev pub are_ids_apart : (o p : Option DirIds) → Bool
are_ids_apart None p = false
are_ids_apart (Some x) None = false
are_ids_apart (Some x) (Some y) = not (bytes_eq x.unode y.unode)

abbrev pub is_child_apart : (a b : Before) → List ℕ → Bool
is_child_apart a b n = are_ids_apart (child_ids a n) (child_ids b n)

pub record IsChildIn (a b : Before) (child : ApartChild) : Type 0 where
  pub first : child_ids a child.name ≡ Some child.first
  pub second : child_ids b child.name ≡ Some child.second

abbrev pub IsApartAt : (a b : Before) → List ℕ → Option ApartChild → Type 0
IsApartAt a b n None = is_child_apart a b n ≡ false
IsApartAt a b n (Some child) = (child.name ≡ n) × IsChildIn a b child

abbrev pub is_named : List ℕ → List ApartChild → Bool
is_named n children = list_any (λ c. bytes_eq n c.name) children

abbrev pub ids_in : Nodes → Parent → Path → List ℕ → Option DirIds
ids_in m parent d n = option_and_then (λ b. child_ids b n) (dir_from m (before_seen parent.root) d)

-- ---- level by level

abbrev pub IsGathered : Nodes → Parent → Type 0
IsGathered m parent = AreDirs m (before_seen parent.root) parent.dirs

abbrev pub HasDir : Nodes → Parent → Path → Type 0
HasDir m parent d = IsFull m (before_seen parent.root) parent.dirs d

abbrev pub HaveDir : Nodes → (first second : Parent) → Path → Type 0
HaveDir m first second d = HasDir m first d × HasDir m second d

abbrev pub HaveDirs : Nodes → (first second : Parent) → List Path → Type 0
HaveDirs m first second dirs = AllByRecursion (HaveDir m first second) dirs

abbrev pub LieDeep : ℕ → List Path → Type 0
LieDeep n dirs = AllByRecursion (λ d. n ≤ length d) dirs

abbrev pub is_under : List Path → Path → Bool
is_under dirs d = list_any (λ p. is_strict_prefix p d) dirs

abbrev pub IsReached : Nodes → (first second : Parent) → List Path → Path → Type 0
IsReached m first second dirs d = HaveDir m first second d ⊎ (is_under dirs d ≡ true)

pub record IsGrown (m : Nodes) (before after : Parent) : Type 0 where
  pub roots : after.roots ≡ before.roots
  pub root : before_seen after.root ≡ before_seen before.root
  pub gathered : IsGathered m after
  pub more : (d : Path) → HasDir m before d → HasDir m after d

pub record AreGrown (m : Nodes) (first second : Parent) (dirs : List Path) (first_after second_after : Parent) (dirs_after : List Path) : Type 0 where
  pub first_grown : IsGrown m first first_after
  pub second_grown : IsGrown m second second_after
  pub under : (d : Path) → is_under dirs d ≡ true → is_under dirs_after d ≡ true
  pub have : HaveDirs m first second dirs → HaveDirs m first_after second_after dirs_after
