-- The past of a file.
--     parents_of n      the ids of a unode's parents
--     IsLine at xs line      file unodes of which at tells by their ids: the first is that of xs, each later one the parent of the one before, and the last has no parent. None of them is reached from itself, since the line ends
--     file_unodes ks p      of a changeset and its ancestors, each the child of the next: the unodes of the file p, newest first, back to the last whose parent lacks it as a file
use Rattle.std.specs.Prelude.{◌≡◌, if◌then◌else◌, List, [], ◌∷◌, reverse, Option, Some, is_some}
use Rattle.byte_fields.specs.Bytes.{Id}
use Rattle.changeset_model.specs.Path.{Path}
use Rattle.changeset_model.specs.Changeset.{set_at}
use Rattle.history_model.specs.History.{Known}
use Rattle.history_model.specs.Chain.{changesets}
use Rattle.history_model.specs.Tree.{tree}
use Rattle.manifest_model.specs.Unode.{Unode, Manifest, FileUnode, unode}

abbrev pub parents_of : Unode → List Id
parents_of (Manifest parents linknode entries) = parents
parents_of (FileUnode parents content kind path_hash linknode) = parents

abbrev pub IsLine : (Id → Option Unode) → List Id → List Unode → Type 0
IsLine at [] [] = Unit {0}
IsLine at [] (n ∷ line) = ⊥
IsLine at (x ∷ xs) [] = ⊥
IsLine at (x ∷ []) (n ∷ line) = (at x ≡ Some n) × IsLine at (parents_of n) line
IsLine at (x ∷ y ∷ xs) (n ∷ line) = ⊥

abbrev pub file_unodes : List Known → Path → List Unode
file_unodes [] p = []
file_unodes (c ∷ older) p =
    if is_some (set_at c.changeset p)
    then unode (c ∷ older) p ∷ (if is_some (tree (changesets (reverse older)) p) then file_unodes older p else [])
    else file_unodes older p
