-- Unodes of files in a table, by the numbers of the changesets that made them.
--     IsUnodeOf m ks x n u      the unode stands under an id, and the changeset of the number made it;  AreUnodesOf m ks xs us      the same of several
--     left_seen left, puts es us      unodes by numbers, and with others put in one after the other
--     IsFileNode ks t n p x      in a settled changeset a file is at the path, whose unode has this id
use Rattle.std.specs.Prelude.{◌≡◌, ℕ, true, List, [], ◌∷◌, Some, is_some, map}
use Rattle.std.specs.BTreeMap.{BTreeMap, insert_entry}
use Rattle.std.specs.Ordering.{nat_cmp}
use Rattle.byte_fields.specs.Bytes.{Id}
use Rattle.changeset_model.specs.Path.{Path}
use Rattle.history_model.specs.History.{Known}
use Rattle.history_model.specs.Tree.{tree_of}
use Rattle.manifest_model.specs.Unode.{Unode, linknode_of, unode_id}
use Rattle.manifest_model.specs.Merged.{unode_at}
use Rattle.unode.specs.declared.file.FileUnode.{FileUnode}
use Rattle.unode.specs.Parts.{file_seen}
use Rattle.node_table.specs.Table.{Nodes, Table, is_settled}
use Rattle.changeset_store.specs.Store.{number_in}
use Rattle.changeset_store.specs.Pasts.{past_at}
use Rattle.manifest_store.specs.Nodes.{file_under}

abbrev pub IsUnodeOf : Nodes → List Known → Id → ℕ → Unode → Type 0
IsUnodeOf m ks x n u = (file_under m x ≡ Some u) × (number_in ks (linknode_of u) ≡ Some n)

abbrev pub AreUnodesOf : Nodes → List Known → List Id → List (ℕ × Unode) → Type 0
AreUnodesOf m ks [] [] = Unit {0}
AreUnodesOf m ks [] (e ∷ es) = ⊥
AreUnodesOf m ks (x ∷ xs) [] = ⊥
AreUnodesOf m ks (x ∷ xs) (e ∷ es) = IsUnodeOf m ks x e.0 e.1 × AreUnodesOf m ks xs es

abbrev pub one_seen : ℕ × FileUnode → ℕ × Unode
one_seen e = (e.0, file_seen e.1)

abbrev pub left_seen : BTreeMap ℕ FileUnode → List (ℕ × Unode)
left_seen left = map one_seen left.entries

abbrev pub puts : List (ℕ × Unode) → List (ℕ × Unode) → List (ℕ × Unode)
puts es [] = es
puts es (u ∷ us) = puts (insert_entry nat_cmp es u.0 u.1) us

pub record IsFileNode (ks : List Known) (t : Table) (n : ℕ) (p : Path) (x : Id) : Type 0 where
  pub settled : is_settled t n ≡ true
  pub file : is_some (tree_of (past_at ks n) p) ≡ true
  pub id : x ≡ unode_id (unode_at (past_at ks n) p)
