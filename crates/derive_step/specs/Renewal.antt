-- A directory that a changeset touches, and what is made of it. The changeset c has the pasts first and second of its parents.
--     IsMadeAt now made p, IsMadeUnder c first second made d      the directory p was made as the definitions have it;  so were those directly in d that are touched
--     before_of nodes      how contracts see the nodes of a directory, if it was there;  fsnode_part b, unode_part b, parent_part b      their parts
--     is_touched_under c first second p, is_gone_through c first second p      an edit lies under a path, or both parents have different unodes of this directory;  the same of a directory other than the root
--     IsDue c first second commit      the changeset c on its parents is the one that is committed
--     AreBefore c first second past dirs      of the directories other than the root that are touched, the nodes of those that a parent had
--     IsBefore c past d b      of a directory at a parent, unless a file is set at it or above it, the definitions' nodes
--     IsStep c first second commit d made a b      what a directory's nodes are made from
--     files_set_in d es      the paths that edits set directly in a directory
--     dir_nodes c first second d      of a directory after a changeset, if it is there: the unodes of the files that are set in it, and its own nodes
--     is_new_file c first second p      a changeset sets a file, or both parents have different unodes of it
--     AreIn c first second d nodes      of a directory that is there, its own nodes and the unodes of the files in it that are new
--     ids_at past d      the ids of its nodes
--     ArePutFor c first second ds had put      nodes are put that are all the changeset's, among them those of these directories. With one parent at most it is these alone
--     IsRenewed c first second d made after had put      its nodes are put to the nodes, and what is made of it is noted
--     AreRenewed c first second dirs made had put      so it is with all of these directories, from the last on
--     IsGoneThrough c first second dirs left made had put      so it is with those that aren't left
--     AreTouched c first second dirs      the directories are those that are gone through
use Rattle.std.specs.Prelude.{◌≡◌, ◌==◌, ◌&&◌, ◌||◌, not, Bool, ℕ, ◌<◌, length, true, false, if◌then◌else◌, List, [], ◌∷◌, ◌++◌, map, flat_map, reverse, is_some, Contains, Option, None, Some, option_map}
use Rattle.std.specs.Borrow.{Bor}
use Rattle.std.specs.List.{AllByRecursion, list_any}
use Rattle.std.specs.Option.{option_to_list}
use Rattle.std.specs.BTreeMap.{BTreeMap, get}
use Rattle.std.specs.BTreeSet.{BTreeSet, contains}
use Rattle.std.specs.Ordering.{eq_by_cmp}
use Rattle.byte_fields.specs.Bytes.{Id}
use Rattle.changeset_model.specs.Path.{Path, path_cmp, is_strict_prefix}
use Rattle.changeset_model.specs.Changeset.{Changeset, File, FileChange, Set, Delete, id_of, set_at}
use Rattle.history_model.specs.History.{Known}
use Rattle.history_model.specs.Past.{Past, Begin, At}
use Rattle.history_model.specs.Tree.{files_in, is_dir, tree_of}
use Rattle.manifest_model.specs.Fsnode.{Fsnode, fsnode, fsnode_bytes, fsnode_id}
use Rattle.manifest_model.specs.Unode.{Unode, unode_bytes, unode_id}
use Rattle.manifest_model.specs.Merged.{unode_at}
use Rattle.manifest_laws.specs.Changes.{is_covered}
use Rattle.manifest_laws.specs.Entries.{fs_entry_at}
use Rattle.manifest_laws.specs.EntryEdits.{fs_made}
use Rattle.merge_laws.specs.Joined.{dirs_differ, files_differ, parent_on, unode_entry_on, unode_made_on}
use Rattle.derive_step.specs.declared.job.DirIds.{DirIds}
use Rattle.derive_step.specs.declared.job.DirNodes.{DirNodes}
use Rattle.derive_step.specs.declared.made.Made.{Made}
use Rattle.derive_step.specs.Views.{Before, before_seen}
use Rattle.derive_step.specs.Pasts.{IsSound, all_nodes_of, is_touched, nodes_of}
use Rattle.derive_step.specs.Walk.{name_in}
use Rattle.derive_step.specs.Steps.{fs_made_in, unode_made_in, fs_before, unode_before}
use Rattle.derive_step.specs.Touched.{is_above}

-- ---- what there is

abbrev pub IsMadeAt : Past → BTreeMap Path Made → Path → Type 0
IsMadeAt now made p = (fs_made_in made p ≡ fs_made (files_in now) p) × (unode_made_in made p ≡ unode_made_on now p)

abbrev pub is_touched_under : Known → (first second : Past) → Path → Bool
is_touched_under c first second p = list_any (λ e. is_strict_prefix p e.0) c.changeset.changes || dirs_differ first second p

abbrev pub is_gone_through : Known → (first second : Past) → Path → Bool
is_gone_through c first second p = list_any (λ e. is_above p e.0) c.changeset.changes || (not (length p == 0) && dirs_differ first second p)

abbrev pub IsMadeUnder : Known → (first second : Past) → BTreeMap Path Made → Path → Type 0
IsMadeUnder c first second made d = (n : List ℕ) → is_touched_under c first second (d ++ n ∷ []) ≡ true → IsMadeAt (At c first second) made (d ++ n ∷ [])

abbrev pub before_of : Option (Bor DirNodes) → Option Before
before_of nodes = option_map (λ n. before_seen n.now) nodes

abbrev pub fsnode_part : Option Before → Option Fsnode
fsnode_part b = option_map (λ n. n.fsnode) b

abbrev pub unode_part : Option Before → Option Unode
unode_part b = option_map (λ n. n.unode) b

abbrev pub parent_part : Option Before → List Id
parent_part b = option_to_list (option_map (λ n. n.unode_id) b)

pub record IsDue (c : Known) (first second : Past) (commit : Changeset) : Type 0 where
  pub sound : IsSound (At c first second)
  pub changeset : commit ≡ c.changeset
  pub id : c.id ≡ id_of c.changeset

abbrev pub AreBefore : Known → (first second : Past) → Past → BTreeMap Path DirNodes → Type 0
AreBefore c first second past dirs = (d : Path) → 0 < length d → is_touched c first second d ≡ true → option_map before_seen (get path_cmp dirs d) ≡ nodes_of past d

pub record IsBefore (c : Known) (past : Past) (d : Path) (b : Option Before) : Type 0 where
  pub fsnode : (n : List ℕ) → fs_before (fsnode_part b) n ≡ (if is_covered c.changeset d then None else fs_entry_at (fsnode (files_in past) d) n)
  pub unode : is_covered c.changeset d ≡ false → (n : List ℕ) → unode_before (unode_part b) n ≡ unode_entry_on past d n
  pub parent : is_covered c.changeset d ≡ false → parent_part b ≡ parent_on past d

pub record IsStep (c : Known) (first second : Past) (commit : Changeset) (d : Path) (made : BTreeMap Path Made) (a b : Option Before) : Type 0 where
  pub due : IsDue c first second commit
  pub touched : is_touched c first second d ≡ true
  pub before_first : IsBefore c first d a
  pub before_second : IsBefore c second d b
  pub under : IsMadeUnder c first second made d

-- ---- what is made

abbrev pub files_set_in : Path → List (Path × FileChange) → List Path
files_set_in d [] = []
files_set_in d ((p, Set f copied) ∷ es) = if is_some (name_in d p) then p ∷ files_set_in d es else files_set_in d es
files_set_in d ((p, Delete) ∷ es) = files_set_in d es

abbrev pub nodes_there : Known → (first second : Past) → Path → List (List ℕ)
nodes_there c first second d =
    map (λ p. unode_bytes (unode_at (At c first second) p)) (files_set_in d c.changeset.changes)
    ++ fsnode_bytes (fsnode (files_in (At c first second)) d) ∷ unode_bytes (unode_at (At c first second) d) ∷ []

abbrev pub dir_nodes : Known → (first second : Past) → Path → List (List ℕ)
dir_nodes c first second d = if is_dir (files_in (At c first second)) d then nodes_there c first second d else []

abbrev pub is_new_file : Known → (first second : Past) → Path → Bool
is_new_file c first second p = is_some (set_at c.changeset p) || files_differ first second p

pub record AreIn (c : Known) (first second : Past) (d : Path) (nodes : List (List ℕ)) : Type 0 where
  pub fsnode : is_dir (files_in (At c first second)) d ≡ true → Contains nodes (fsnode_bytes (fsnode (files_in (At c first second)) d))
  pub unode : is_dir (files_in (At c first second)) d ≡ true → Contains nodes (unode_bytes (unode_at (At c first second) d))
  pub files : (n : List ℕ) (f : File) → tree_of (At c first second) (d ++ n ∷ []) ≡ Some f → is_new_file c first second (d ++ n ∷ []) ≡ true → Contains nodes (unode_bytes (unode_at (At c first second) (d ++ n ∷ [])))

abbrev pub ids_at : Past → Path → DirIds
ids_at past d = record { fsnode = fsnode_id (fsnode (files_in past) d); unode = unode_id (unode_at past d) }

pub record ArePutFor (c : Known) (first second : Past) (ds : List Path) (had put : List (List ℕ)) : Type 0 where
  pub more : List (List ℕ)
  pub nodes : put ≡ had ++ more
  pub right : AllByRecursion (Contains (all_nodes_of (At c first second))) more
  pub whole : AllByRecursion (λ d. AreIn c first second d more) ds
  pub alone : second ≡ Begin → more ≡ flat_map (dir_nodes c first second) ds

pub record IsRenewed (c : Known) (first second : Past) (d : Path) (made after : BTreeMap Path Made) (had put : List (List ℕ)) : Type 0 where
  pub nodes : ArePutFor c first second (d ∷ []) had put
  pub here : IsMadeAt (At c first second) after d
  pub others : (p : Path) → eq_by_cmp path_cmp d p ≡ false → get path_cmp after p ≡ get path_cmp made p

pub record AreRenewed (c : Known) (first second : Past) (dirs : BTreeSet Path) (made : BTreeMap Path Made) (had put : List (List ℕ)) : Type 0 where
  pub noted : (p : Path) → contains path_cmp dirs p ≡ true → IsMadeAt (At c first second) made p
  pub nodes : ArePutFor c first second (reverse dirs.keys) had put

pub record IsGoneThrough (c : Known) (first second : Past) (dirs left : BTreeSet Path) (made : BTreeMap Path Made) (had put : List (List ℕ)) : Type 0 where
  pub noted : (p : Path) → contains path_cmp dirs p ≡ true → contains path_cmp left p ≡ false → IsMadeAt (At c first second) made p
  pub fresh : (p : Path) → contains path_cmp left p ≡ true → get path_cmp made p ≡ None
  pub within : (p : Path) → contains path_cmp left p ≡ true → contains path_cmp dirs p ≡ true
  pub gone : List Path
  pub keys : gone ++ reverse left.keys ≡ reverse dirs.keys
  pub nodes : ArePutFor c first second gone had put

abbrev pub AreTouched : Known → (first second : Past) → BTreeSet Path → Type 0
AreTouched c first second dirs = (p : Path) → contains path_cmp dirs p ≡ is_gone_through c first second p
