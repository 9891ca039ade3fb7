-- The deleted nodes of some paths while they change.
--     place_at u d      the node of a path, if it is there;  is_unfolded u d      it is there
--     link_in u d, entry_in u d n      its link, and what it has under a name
--     link_after ls d x      the link x of the path d, once the links ls of paths were set in this order
--     IsUnfolded first ls a u      the nodes of the first parent, once these links were set: of the root, of each path at or above one whose link was set, and of a and the directories above it
use Rattle.std.specs.Prelude.{◌≡◌, ◌||◌, ℕ, Bool, true, if◌then◌else◌, List, [], ◌∷◌, Option, None, Some, is_some}
use Rattle.std.specs.List.{list_any}
use Rattle.std.specs.Option.{option_and_then}
use Rattle.std.specs.Ordering.{nat_cmp, eq_by_cmp}
use Rattle.std.specs.Cmp.Lexicographic.{slice_cmp}
use Rattle.std.specs.FinMap.{find as find_key}
use Rattle.std.specs.BTreeMap.{get}
use Rattle.byte_fields.specs.Bytes.{Id}
use Rattle.changeset_model.specs.Path.{Path, path_cmp, is_prefix}
use Rattle.history_model.specs.Past.{Past}
use Rattle.manifest_model.specs.Deleted.{deleted}
use Rattle.deleted_step.specs.declared.opened.Opened.{Opened}
use Rattle.deleted_step.specs.declared.unfolded.Unfolded.{Unfolded}
use Rattle.deleted_step.specs.Opened.{entry_at}

abbrev pub place_at : Unfolded → Path → Option Opened
place_at u [] = Some u.root
place_at u (n ∷ d) = get path_cmp u.places (n ∷ d)

abbrev pub is_unfolded : Unfolded → Path → Bool
is_unfolded u d = is_some (place_at u d)

abbrev pub link_in : Unfolded → Path → Option Id
link_in u d = option_and_then (λ o. o.link) (place_at u d)

abbrev pub entry_in : Unfolded → Path → List ℕ → Option Id
entry_in u d n = option_and_then (λ o. entry_at o n) (place_at u d)

-- ---- before the nodes are made anew

abbrev pub Links : Type 0
Links = List (Path × Option Id)

abbrev pub link_after : Links → Path → Option Id → Option Id
link_after [] d x = x
link_after (l ∷ ls) d x = link_after ls d (if eq_by_cmp path_cmp d l.0 then l.1 else x)

abbrev pub is_on_way : Links → Path → Bool
is_on_way ls d = list_any (λ l. is_prefix d l.0) ls

pub record IsUnfolded (first : Past) (ls : Links) (a : Path) (u : Unfolded) : Type 0 where
  pub root : get path_cmp u.places [] ≡ None
  pub places : (n : List ℕ) (d : Path) → is_unfolded u (n ∷ d) ≡ (is_on_way ls (n ∷ d) || is_prefix (n ∷ d) a)
  pub links : (d : Path) → is_unfolded u d ≡ true → link_in u d ≡ link_after ls d (deleted first d).link
  pub entries : (d : Path) → is_unfolded u d ≡ true → (n : List ℕ) → entry_in u d n ≡ find_key (slice_cmp nat_cmp) n (deleted first d).entries
