-- The directories above change paths, without the root.
--     is_above d p      d is a directory other than the root, and p lies under it
--     is_other x b, differ_in first second p      the nodes of a directory are there, with another unode than this;  both parents have different unodes of a directory
--     IsWhole dirs      with a directory, those above it are there
use Rattle.std.specs.Prelude.{◌≡◌, ◌==◌, ◌&&◌, Bool, true, false, not, length, bytes_eq, Option, None, Some, option_map}
use Rattle.std.specs.BTreeMap.{BTreeMap, get}
use Rattle.std.specs.BTreeSet.{BTreeSet, contains}
use Rattle.byte_fields.specs.Bytes.{Id}
use Rattle.changeset_model.specs.Path.{Path, path_cmp, is_strict_prefix}
use Rattle.derive_step.specs.declared.job.DirNodes.{DirNodes}
use Rattle.derive_step.specs.Views.{Before, before_seen, are_apart}

abbrev pub is_above : Path → Path → Bool
is_above d p = not (length d == 0) && is_strict_prefix d p

abbrev pub IsWhole : BTreeSet Path → Type 0
IsWhole dirs = (d p : Path) → contains path_cmp dirs p ≡ true → is_above d p ≡ true → contains path_cmp dirs d ≡ true

abbrev pub is_other : Id → Option Before → Bool
is_other x None = false
is_other x (Some b) = not (bytes_eq x b.unode_id)

abbrev pub differ_in : (first second : BTreeMap Path DirNodes) → Path → Bool
differ_in first second p = are_apart (option_map before_seen (get path_cmp first p)) (option_map before_seen (get path_cmp second p))
