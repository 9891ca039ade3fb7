-- A deleted node while it changes.
--     among m n, entry_at o n      the id under a name
--     among_seen es      the ids with their names
--     IsOf o node      it has the link and the entries of the node
--     is_there node      the node has a link or an entry
use Rattle.std.specs.Prelude.{◌≡◌, ◌||◌, ℕ, Bool, true, false, List, [], ◌∷◌, map, Option, option_map, is_some}
use Rattle.std.specs.Ordering.{nat_cmp}
use Rattle.std.specs.Cmp.Lexicographic.{slice_cmp}
use Rattle.std.specs.FinMap.{find as find_key}
use Rattle.std.specs.BTreeMap.{BTreeMap, get}
use Rattle.byte_fields.specs.Bytes.{Id}
use Rattle.manifest_model.specs.Deleted.{DeletedNode}
use Rattle.deleted_node.specs.declared.entry.DeletedEntry.{DeletedEntry}
use Rattle.deleted_node.specs.Parts.{entry_seen}
use Rattle.deleted_step.specs.declared.opened.Opened.{Opened}

abbrev pub among : BTreeMap (List ℕ) DeletedEntry → List ℕ → Option Id
among m n = option_map entry_seen (get (slice_cmp nat_cmp) m n)

abbrev pub among_seen : List (List ℕ × DeletedEntry) → List (List ℕ × Id)
among_seen es = map (λ e. (e.0, entry_seen e.1)) es

abbrev pub entry_at : Opened → List ℕ → Option Id
entry_at o n = among o.entries n

pub record IsOf (o : Opened) (node : DeletedNode) : Type 0 where
  pub link : o.link ≡ node.link
  pub entries : (n : List ℕ) → entry_at o n ≡ find_key (slice_cmp nat_cmp) n node.entries

abbrev pub has_any : List (List ℕ × Id) → Bool
has_any [] = false
has_any (e ∷ es) = true

abbrev pub is_there : DeletedNode → Bool
is_there node = is_some node.link || has_any node.entries
