-- Nodes by their ids: what putting in and taking out make of them.
use Rattle.std.proofs.Common.{◌≡◌, ℕ, Bool, true, false, cond, List, [], ◌∷◌, ◌++◌, refl, sym, ap, ◌∙◌}
use mathlib.Core.Bool.{true≢false}
use Rattle.std.specs.Prelude.{Option, None, Some, if◌then◌else◌}
use Rattle.std.specs.declared.cmp.Ordering.{Ordering}
use Rattle.std.specs.declared.cmp.Ordering.TheVariants.{Less, Equal, Greater}
use Rattle.std.specs.Ordering.{is_eq, eq_by_cmp, nat_cmp}
use Rattle.std.specs.Cmp.Lexicographic.{slice_cmp, nat_list_cmp_total}
use Rattle.std.specs.FinMap.{empty, get, insert, remove, get-empty, get-insert, get-remove, same_map}
use Rattle.std.proofs.lemmas.Map.Lookups.{exact_bytes}
use Rattle.sha2.specs.Sha256.{sha256}
use Rattle.byte_fields.specs.Bytes.{Id}
use Rattle.node_table.specs.Table.{Nodes, AreDigests, with_node, without, collides, first_collision}

is_equal : (o : Ordering) → is_eq o ≡ true → o ≡ Equal
is_equal Less h = absurd (true≢false (sym h))
is_equal Equal h = refl
is_equal Greater h = absurd (true≢false (sym h))

abbrev pub alike : Id → Id → Bool
alike q k = eq_by_cmp (slice_cmp nat_cmp) q k

pub alike_same : (q k : Id) → alike q k ≡ true → q ≡ k
alike_same q k h = exact_bytes q k (is_equal (slice_cmp nat_cmp q k) h)

by_ids : (m n : Nodes) → ((q : Id) → get m q ≡ get n q) → m ≡ n
by_ids m n same = same_map nat_list_cmp_total exact_bytes m n same

pub at_insert : (m : Nodes) (k : Id) (v : List ℕ) (q : Id) → get (insert m k v) q ≡ cond (alike q k) (Some v) (get m q)
at_insert m k v q = get-insert nat_list_cmp_total m k v q

at_remove : (m : Nodes) (k q : Id) → get (remove m k) q ≡ cond (alike q k) None (get m q)
at_remove m k q = get-remove nat_list_cmp_total m k q

either_way : (m : Nodes) (k q : Id) (o : Option (List ℕ)) → get m k ≡ o → (b : Bool) → alike q k ≡ b → cond b o (get m q) ≡ get m q
either_way m k q o h true e = sym (ap (get m) (alike_same q k e) ∙ h)
either_way m k q o h false e = refl

-- to put in what stands there changes nothing
pub kept : (m : Nodes) (k : Id) (v : List ℕ) → get m k ≡ Some v → insert m k v ≡ m
kept m k v h = by_ids (insert m k v) m (λ q. at_insert m k v q ∙ either_way m k q (Some v) h (alike q k) refl)

-- nor does it to take out what isn't there
pub absent : (m : Nodes) (k : Id) → get m k ≡ None → remove m k ≡ m
absent m k h = by_ids (remove m k) m (λ q. at_remove m k q ∙ either_way m k q None h (alike q k) refl)

out_again : (m : Nodes) (k : Id) (v : List ℕ) (q : Id) → get m k ≡ None → (b : Bool) → alike q k ≡ b → cond b None (cond b (Some v) (get m q)) ≡ get m q
out_again m k v q h true e = sym (ap (get m) (alike_same q k e) ∙ h)
out_again m k v q h false e = refl

-- what was put in where nothing stood, and taken out again
pub undone : (m : Nodes) (k : Id) (v : List ℕ) → get m k ≡ None → remove (insert m k v) k ≡ m
undone m k v h = by_ids (remove (insert m k v) k) m (λ q. at_remove (insert m k v) k q ∙ ap (cond (alike q k) None) (at_insert m k v q) ∙ out_again m k v q h (alike q k) refl)

pub without-push : (ids : List Id) (k : Id) (m : Nodes) → without (ids ++ k ∷ []) m ≡ without ids (remove m k)
without-push [] k m = refl
without-push (id ∷ ids) k m = ap (λ m. remove m id) (without-push ids k m)

-- ---- each node under its digest

pub some_is : (a b : List ℕ) → ◌≡◌ {A = Option (List ℕ)} (Some a) (Some b) → a ≡ b
some_is a b e = cc

digest_by : (m : Nodes) (n : List ℕ) → AreDigests m → (id : Id) (x : List ℕ) → (b : Bool) → alike id (sha256 n) ≡ b → cond b (Some n) (get m id) ≡ Some x → sha256 x ≡ id
digest_by m n all id x true e is = ap sha256 (sym (some_is n x is)) ∙ sym (alike_same id (sha256 n) e)
digest_by m n all id x false e is = all id x is

pub digests-with_node : (m : Nodes) (n : List ℕ) → AreDigests m → AreDigests (with_node m n)
digests-with_node m n all id x is = digest_by m n all id x (alike id (sha256 n)) refl (sym (at_insert m (sha256 n) n id) ∙ is)

pub none_some : (x : List ℕ) → ◌≡◌ {A = Option (List ℕ)} None (Some x) → ⊥
none_some x e = absurd cc

left_by : (m : Nodes) → AreDigests m → (id : Id) (x : List ℕ) → (b : Bool) → cond b None (get m id) ≡ Some x → sha256 x ≡ id
left_by m all id x true is = absurd (none_some x is)
left_by m all id x false is = all id x is

pub digests-remove : (m : Nodes) (k : Id) → AreDigests m → AreDigests (remove m k)
digests-remove m k all id x is = left_by m all id x (alike id k) (sym (at_remove m k id) ∙ is)

pub digests-empty : AreDigests empty
digests-empty id x is = absurd (none_some x (sym (get-empty (slice_cmp nat_cmp) id) ∙ is))

-- ---- several nodes

abbrev pub fault_of : Bool → List ℕ → Option Id → Option Id
fault_of b n later = if b then Some (sha256 n) else later

-- a node that doesn't collide, and those after it
pub after_apart : (m : Nodes) (n : List ℕ) (ns : List (List ℕ)) → first_collision m (n ∷ []) ≡ None → first_collision m (n ∷ ns) ≡ first_collision (with_node m n) ns
after_apart m n ns h = by (collides m n) h
  where
    by : (b : Bool) → fault_of b n None ≡ None → fault_of b n (first_collision (with_node m n) ns) ≡ first_collision (with_node m n) ns
    by true h = absurd cc
    by false h = refl

-- a node that collides
pub at_collision : (m : Nodes) (n : List ℕ) (ns : List (List ℕ)) (id : Id) → first_collision m (n ∷ []) ≡ Some id → first_collision m (n ∷ ns) ≡ Some id
at_collision m n ns id h = by (collides m n) h
  where
    by : (b : Bool) → fault_of b n None ≡ Some id → fault_of b n (first_collision (with_node m n) ns) ≡ Some id
    by true h = h
    by false h = absurd cc
