-- What a table of nodes has.
--     Nodes, AreDigests m      nodes by their ids;  each stands under its SHA-256 (FIPS 180-4)
--     Table      the nodes, the roots of the settled changesets by their numbers, and these numbers in the order of settling
--     with_node m n, with_nodes m ns      with one node more, and with several
--     without ids m      without the nodes of these ids
--     collides m n, first_collision m ns      whether another node stands under the id of n;  the first id for which that is so, where each node of ns is put in after the one before
--     settled_with t number roots ns      with a changeset settled
--     Has m n, IsAmong m ns n      the node n stands under its digest;  it does, or is one of ns
--     AreApart m ns      no two different ones of these nodes have one digest
--     Collide m ns id      two different ones of them have this digest
--     IsTable t      each node stands under its digest, and just the settled numbers have roots, each settled once
use Rattle.std.specs.Prelude.{◌≡◌, ◌≢◌, ◌⊎◌, ◌==◌, nat_eq, ℕ, Bool, false, not, is_some, bytes_eq, if◌then◌else◌, List, [], ◌∷◌, ◌++◌, Option, None, Some, refl, Contains}
use Rattle.std.specs.List.{list_any, IsDistinct}
use Rattle.std.specs.Ordering.{nat_cmp}
use Rattle.std.specs.Cmp.Lexicographic.{slice_cmp}
use Rattle.std.specs.Coded.{Coded, code_by, coded_ℕ, coded_list, coded×}
use Rattle.std.specs.FinMap as map
use Rattle.sha2.specs.Sha256.{sha256}
use Rattle.byte_fields.specs.Bytes.{Id}
use Rattle.node_table.specs.declared.roots.Roots.{Roots}

abbrev pub Nodes : Type 0
Nodes = map.FinMap (slice_cmp nat_cmp) (List ℕ)

abbrev pub AreDigests : Nodes → Type 0
AreDigests m = (id : Id) (n : List ℕ) → map.get m id ≡ Some n → sha256 n ≡ id

pub record Table : Type 0 where
  pub nodes : Nodes
  pub roots : map.FinMap nat_cmp Roots
  pub settled : List ℕ

abbrev pub empty_table : Table
empty_table = record { nodes = map.empty; roots = map.empty; settled = [] }

abbrev pub coded_roots : Coded Roots
coded_roots =
    code_by (Id × (Id × Id)) (coded× (coded_list coded_ℕ) (coded× (coded_list coded_ℕ) (coded_list coded_ℕ)))
    (λ r. (r.fsnode, (r.unode, r.deleted))) (λ p. record { fsnode = p.0; unode = p.1.0; deleted = p.1.1 }) (λ _. refl)

abbrev pub coded_table : Coded Table
coded_table =
    code_by (Nodes × (map.FinMap nat_cmp Roots × List ℕ)) (coded× (map.code (coded_list coded_ℕ) (coded_list coded_ℕ)) (coded× (map.code coded_ℕ coded_roots) (coded_list coded_ℕ)))
    (λ t. (t.nodes, (t.roots, t.settled))) (λ p. record { nodes = p.0; roots = p.1.0; settled = p.1.1 }) (λ _. refl)

abbrev pub with_node : Nodes → List ℕ → Nodes
with_node m n = map.insert m (sha256 n) n

abbrev pub with_nodes : Nodes → List (List ℕ) → Nodes
with_nodes m [] = m
with_nodes m (n ∷ ns) = with_nodes (with_node m n) ns

abbrev pub without : List Id → Nodes → Nodes
without [] m = m
without (id ∷ ids) m = map.remove (without ids m) id

abbrev pub is_other : List ℕ → Option (List ℕ) → Bool
is_other n None = false
is_other n (Some found) = not (bytes_eq found n)

abbrev pub collides : Nodes → List ℕ → Bool
collides m n = is_other n (map.get m (sha256 n))

abbrev pub first_collision : Nodes → List (List ℕ) → Option Id
first_collision m [] = None
first_collision m (n ∷ ns) = if collides m n then Some (sha256 n) else first_collision (with_node m n) ns

-- a settled changeset stays as it is
abbrev pub settled_with : Table → ℕ → Roots → List (List ℕ) → Table
settled_with t number roots ns =
    if is_some (map.get t.roots number) then t
    else record { nodes = with_nodes t.nodes ns; roots = map.insert t.roots number roots; settled = t.settled ++ number ∷ [] }

-- ---- nodes and their digests

abbrev pub Has : Nodes → List ℕ → Type 0
Has m n = map.get m (sha256 n) ≡ Some n

abbrev pub IsAmong : Nodes → List (List ℕ) → List ℕ → Type 0
IsAmong m ns n = Has m n ⊎ Contains ns n

abbrev pub AreApart : Nodes → List (List ℕ) → Type 0
AreApart m ns = (one other : List ℕ) → IsAmong m ns one → IsAmong m ns other → sha256 one ≡ sha256 other → one ≡ other

abbrev pub Collide : Nodes → List (List ℕ) → Id → Type 0
Collide m ns id = (one other : List ℕ) × (one ≢ other) × IsAmong m ns one × IsAmong m ns other × (sha256 one ≡ id) × (sha256 other ≡ id)

-- ---- what always holds

abbrev pub is_settled : Table → ℕ → Bool
is_settled t number = list_any (λ settled. settled == number) t.settled

pub record IsTable (t : Table) : Type 0 where
  pub digests : AreDigests t.nodes
  pub rooted : (number : ℕ) → is_some (map.get t.roots number) ≡ is_settled t number
  pub once : IsDistinct nat_eq t.settled
