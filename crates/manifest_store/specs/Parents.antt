-- The nodes of both parents, as a job has them.
--     root_in t n      both nodes of the root of a settled changeset;  dir_in t o d      of a directory at a parent by its number, if there is one
--     are_apart_in t ks n d      the table has different unodes of a directory at both parents of a changeset
--     IsParentIn t n es parent      the roots of a changeset, and what the table has of the directories above edits
--     IsParentOf o t es parent      the same of a parent by its number, or nothing where there is none
--     AreParentsOf ks t n es parents      the same of both parents of a changeset, with the directories of which they have different unodes
use Rattle.std.specs.Prelude.{◌≡◌, ◌==◌, ◌||◌, ℕ, Bool, true, if◌then◌else◌, List, length, Option, None, MatchOption, is_some}
use Rattle.std.specs.List.{list_any}
use Rattle.std.specs.Option.{option_and_then}
use Rattle.std.specs.FinMap as map
use Rattle.changeset_model.specs.Path.{Path, is_path, is_strict_prefix}
use Rattle.changeset_model.specs.Changeset.{FileChange}
use Rattle.history_model.specs.History.{Known}
use Rattle.node_table.specs.Table.{Table}
use Rattle.changeset_store.specs.Store.{parent_at, second_parent_at}
use Rattle.derive_step.specs.declared.job.Parent.{Parent}
use Rattle.derive_step.specs.declared.job.Parents.{Parents}
use Rattle.derive_step.specs.Views.{Before, are_apart, are_held_apart, first_of, nodes_before, roots_before, second_of}
use Rattle.manifest_store.specs.Nodes.{dir_under, dir_from, dir_ids}

abbrev pub root_in : Table → ℕ → Option Before
root_in t n = option_and_then (λ r. dir_under t.nodes (dir_ids r)) (map.get t.roots n)

pub record IsParentIn (t : Table) (n : ℕ) (es : List (Path × FileChange)) (parent : Option Parent) : Type 0 where
  pub roots : roots_before parent ≡ (if is_some (root_in t n) then map.get t.roots n else None)
  pub nodes : (d : Path) → ((length d == 0) || list_any (λ e. is_strict_prefix d e.0) es) ≡ true → nodes_before parent d ≡ option_and_then (λ b. dir_from t.nodes b d) (root_in t n)

abbrev pub IsParentOf : Option ℕ → Table → List (Path × FileChange) → Option Parent → Type 0
IsParentOf o t es parent = MatchOption o (parent ≡ None) (λ p. IsParentIn t p es parent)

abbrev pub dir_in : Table → Option ℕ → Path → Option Before
dir_in t o d = option_and_then (λ p. option_and_then (λ b. dir_from t.nodes b d) (root_in t p)) o

abbrev pub are_apart_in : Table → List Known → ℕ → Path → Bool
are_apart_in t ks n d = are_apart (dir_in t (parent_at ks n) d) (dir_in t (second_parent_at ks n) d)

pub record AreParentsOf (ks : List Known) (t : Table) (n : ℕ) (es : List (Path × FileChange)) (parents : Parents) : Type 0 where
  pub first : IsParentOf (parent_at ks n) t es (first_of parents)
  pub second : IsParentOf (second_parent_at ks n) t es (second_of parents)
  -- at a path that may stand in a changeset
  pub first_apart : (d : Path) → is_path d ≡ true → are_apart_in t ks n d ≡ true → nodes_before (first_of parents) d ≡ dir_in t (parent_at ks n) d
  pub second_apart : (d : Path) → is_path d ≡ true → are_apart_in t ks n d ≡ true → nodes_before (second_of parents) d ≡ dir_in t (second_parent_at ks n) d
  -- what is held of both is what the table has
  pub apart : (d : Path) → are_held_apart (first_of parents) (second_of parents) d ≡ true → are_apart_in t ks n d ≡ true
