-- Worked examples of merges, which hold by computing.
use Rattle.std.specs.Prelude.{◌≡◌, ℕ, List, [], ◌∷◌, codes, Some, None, pos, refl}
use Rattle.changeset_model.specs.Version.{First}
use Rattle.changeset_model.specs.Path.{Path, elements}
use Rattle.changeset_model.specs.Changeset.{Changeset, File, FileChange, Set, Delete, Regular, Executable}
use Rattle.history_model.specs.Past.{Past, Begin, At}
use Rattle.history_model.specs.Tree.{files_in}
use Rattle.history_model.specs.Merge.{unresolved}
use Rattle.merge_tree.specs.Lineage.{member_of, past_at}

abbrev at : List ℕ → Path
at text = elements text

abbrev file : ℕ → File
file n = record { content = n ∷ []; kind = Regular; size = n }

abbrev sets : List ℕ → ℕ → Path × FileChange
sets text n = (at text, Set (file n) None)

abbrev deletes : List ℕ → Path × FileChange
deletes text = (at text, Delete)

abbrev does : List (Path × FileChange) → Changeset
does changes = record { version = First; parents = []; author = codes "a"; seconds = pos 0; offset = pos 0; message = []; changes = changes }

abbrev merge : List (Path × FileChange) → Past → Past → Past
merge changes first second = At (record { id = []; changeset = does changes }) first second

abbrev on : Past → List (Path × FileChange) → Past
on first changes = merge changes first Begin

abbrev B : Past
B = on Begin (sets (codes "a") 1 ∷ [])

abbrev X : Past
X = on B (sets (codes "x") 2 ∷ [])

abbrev Y : Past
Y = on B (sets (codes "y") 3 ∷ [])

-- ---- two parents that agree

abbrev M : Past
M = merge [] X Y

agree : unresolved (does []) (files_in X) (files_in Y) ≡ None
agree = refl

both_are_there : files_in M ≡ (at (codes "a"), file 1) ∷ (at (codes "x"), file 2) ∷ (at (codes "y"), file 3) ∷ []
both_are_there = refl

-- a merge may delete what both have
deleted_by_a_merge : files_in (merge (deletes (codes "a") ∷ []) X Y) ≡ (at (codes "x"), file 2) ∷ (at (codes "y"), file 3) ∷ []
deleted_by_a_merge = refl

-- a file that one parent's line deleted is there, since the other's has it
deleted_by_one : files_in (merge [] (on B (deletes (codes "a") ∷ [])) Y) ≡ (at (codes "a"), file 1) ∷ (at (codes "y"), file 3) ∷ []
deleted_by_one = refl

-- ---- two parents that don't

abbrev X1 : Past
X1 = on B (sets (codes "x") 0 ∷ [])

differ : unresolved (does []) (files_in X) (files_in X1) ≡ Some (at (codes "x"))
differ = refl

differ_turned : unresolved (does []) (files_in X1) (files_in X) ≡ Some (at (codes "x"))
differ_turned = refl

differ_by_type : unresolved (does []) ((at (codes "x"), file 2) ∷ []) ((at (codes "x"), record { content = 2 ∷ []; kind = Executable; size = 2 }) ∷ []) ≡ Some (at (codes "x"))
differ_by_type = refl

settled : unresolved (does (sets (codes "x") 4 ∷ [])) (files_in X) (files_in X1) ≡ None
settled = refl

settled_tree : files_in (merge (sets (codes "x") 4 ∷ []) X X1) ≡ (at (codes "a"), file 1) ∷ (at (codes "x"), file 4) ∷ []
settled_tree = refl

settled_by_delete : unresolved (does (deletes (codes "x") ∷ [])) (files_in X) (files_in X1) ≡ None
settled_by_delete = refl

-- the least of several, and a merge settles exactly its own
least : unresolved (does []) (files_in (on X (sets (codes "b") 1 ∷ []))) (files_in (on X1 (sets (codes "b") 2 ∷ []))) ≡ Some (at (codes "b"))
least = refl

next : unresolved (does (sets (codes "b") 1 ∷ [])) (files_in (on X (sets (codes "b") 1 ∷ []))) (files_in (on X1 (sets (codes "b") 2 ∷ []))) ≡ Some (at (codes "x"))
next = refl

-- ---- a file against a directory

abbrev D : Past
D = on B (sets (codes "d") 5 ∷ [])

abbrev E : Past
E = on B (sets (codes "d/e") 6 ∷ [])

file_left : unresolved (does []) (files_in D) (files_in E) ≡ Some (at (codes "d"))
file_left = refl

file_right : unresolved (does []) (files_in E) (files_in D) ≡ Some (at (codes "d"))
file_right = refl

-- a delete of the file, or of what is under it, settles it
without_file : unresolved (does (deletes (codes "d") ∷ [])) (files_in D) (files_in E) ≡ None
without_file = refl

directory_stays : files_in (merge (deletes (codes "d") ∷ []) D E) ≡ (at (codes "a"), file 1) ∷ (at (codes "d/e"), file 6) ∷ []
directory_stays = refl

without_directory : unresolved (does (deletes (codes "d/e") ∷ [])) (files_in E) (files_in D) ≡ None
without_directory = refl

file_stays : files_in (merge (deletes (codes "d/e") ∷ []) E D) ≡ (at (codes "a"), file 1) ∷ (at (codes "d"), file 5) ∷ []
file_stays = refl

-- a set of either settles both
set_above : files_in (merge (sets (codes "d") 7 ∷ []) D E) ≡ (at (codes "a"), file 1) ∷ (at (codes "d"), file 7) ∷ []
set_above = refl

set_under : unresolved (does (sets (codes "d/f") 7 ∷ [])) (files_in D) (files_in E) ≡ None
set_under = refl

set_under_tree : files_in (merge (sets (codes "d/f") 7 ∷ []) D E) ≡ (at (codes "a"), file 1) ∷ (at (codes "d/e"), file 6) ∷ (at (codes "d/f"), file 7) ∷ []
set_under_tree = refl

-- a name that only begins alike is another
beside : unresolved (does []) (files_in D) (files_in (on B (sets (codes "d.e") 6 ∷ []))) ≡ None
beside = refl

-- ---- merges over merges

abbrev M2 : Past
M2 = merge (sets (codes "z") 8 ∷ []) Y X

criss_cross : unresolved (does []) (files_in M) (files_in M2) ≡ None
criss_cross = refl

criss_cross_tree : files_in (merge (sets (codes "w") 9 ∷ []) M M2) ≡ (at (codes "a"), file 1) ∷ (at (codes "w"), file 9) ∷ (at (codes "x"), file 2) ∷ (at (codes "y"), file 3) ∷ (at (codes "z"), file 8) ∷ []
criss_cross_tree = refl

-- a change of one side isn't taken over by itself: the trees differ
changed_after : unresolved (does []) (files_in (on M (sets (codes "x") 7 ∷ []))) (files_in M2) ≡ Some (at (codes "x"))
changed_after = refl

merge_of_merges : files_in (merge [] M (merge [] D (on B (sets (codes "f") 4 ∷ [])))) ≡ (at (codes "a"), file 1) ∷ (at (codes "d"), file 5) ∷ (at (codes "f"), file 4) ∷ (at (codes "x"), file 2) ∷ (at (codes "y"), file 3) ∷ []
merge_of_merges = refl

-- ---- by places

by_places : files_in (past_at (member_of (does (sets (codes "a") 1 ∷ [])) None None ∷ member_of (does (sets (codes "x") 2 ∷ [])) (Some 0) None ∷ member_of (does (sets (codes "y") 3 ∷ [])) (Some 0) None ∷ member_of (does []) (Some 1) (Some 2) ∷ []) 3) ≡ files_in M
by_places = refl
