-- The steps of a store of nodes, as its methods make them.
use Rattle.std.proofs.Common.{◌≡◌, ℕ, cond, List, [], ◌∷◌, ◌++◌, refl, sym, ap, ◌∙◌}
use Rattle.std.specs.Prelude.{IfSome, Option, None, Some}
use Rattle.std.specs.Borrow.{Bor}
use Rattle.std.specs.Option.{option_copied}
use Rattle.std.specs.Ordering.{is_eq, nat_cmp}
use Rattle.std.specs.Cmp.Lexicographic.{slice_cmp, nat_list_cmp_total}
use Rattle.std.specs.Map.{lookup}
use Rattle.std.specs.FinMap.{get, insert, remove}
use Rattle.std.proofs.lemmas.Map.Lookups.{exact_bytes}
use Rattle.sha2.specs.Sha256.{sha256}
use Rattle.byte_fields.specs.Bytes.{Id}
use Rattle.node_table.specs.Table.{AreDigests, Nodes, with_node, without}
use Rattle.node_table.specs.Parts.{nodes_of_entries}
use Rattle.node_table.proofs.Maps.{as_they_are, get_seen, option_as_it_is, put_seen, removed_seen}
use Rattle.node_table.proofs.Digests.{kept, absent, undone, without-push}

abbrev itself : {A : Type 0} → A → A
itself x = x

abbrev pub stored : Id → List (Id × List ℕ) → Option (List ℕ)
stored q es = lookup (λ k. is_eq (slice_cmp nat_cmp q k)) es

abbrev Entries : Type 0
Entries = List (Id × List ℕ)

pub got : (es : Entries) (q : Id) → get (nodes_of_entries es) q ≡ stored q es
got es q =
    ap (λ fs. get (nodes_of_entries fs) q) (sym (as_they_are es))
    ∙ get_seen itself itself (λ a. refl) itself nat_list_cmp_total exact_bytes es q
    ∙ option_as_it_is (stored q es)

pub put_in : (es fs : Entries) (k : Id) (v : List ℕ) → ((q : Id) → stored q fs ≡ cond (is_eq (slice_cmp nat_cmp k q)) (Some v) (stored q es)) → nodes_of_entries fs ≡ insert (nodes_of_entries es) k v
put_in es fs k v put =
    ap nodes_of_entries (sym (as_they_are fs))
    ∙ put_seen itself itself (λ a. refl) itself nat_list_cmp_total exact_bytes es fs k v put
    ∙ ap (λ gs. insert (nodes_of_entries gs) k v) (as_they_are es)

pub was_put : (es fs : Entries) (k : Id) (v n : List ℕ) → ((q : Id) → stored q fs ≡ cond (is_eq (slice_cmp nat_cmp k q)) (Some v) (stored q es)) → k ≡ sha256 n → v ≡ n → nodes_of_entries fs ≡ with_node (nodes_of_entries es) n
was_put es fs k v n put key is =
    put_in es fs k v put ∙ ap (λ k. insert (nodes_of_entries es) k v) key ∙ ap (insert (nodes_of_entries es) (sha256 n)) is

pub digest_of : (es : Entries) (q : Id) (o : Option (Bor (List ℕ))) → AreDigests (nodes_of_entries es) → option_copied o ≡ stored q es → IfSome o (λ n. sha256 n.now ≡ q)
digest_of es q None all is = tt
digest_of es q (Some n) all is = all q n.now (got es q ∙ sym is)

-- what stands there already
pub put_again : (es fs : Entries) (k : Id) (v : List ℕ) → ((q : Id) → stored q fs ≡ cond (is_eq (slice_cmp nat_cmp k q)) (Some v) (stored q es)) → stored k es ≡ Some v → nodes_of_entries fs ≡ nodes_of_entries es
put_again es fs k v put stands = put_in es fs k v put ∙ kept (nodes_of_entries es) k v (got es k ∙ stands)

pub was_removed : (es fs : Entries) (k : Id) → ((q : Id) → stored q fs ≡ cond (is_eq (slice_cmp nat_cmp k q)) None (stored q es)) → nodes_of_entries fs ≡ remove (nodes_of_entries es) k
was_removed es fs k removed =
    ap nodes_of_entries (sym (as_they_are fs))
    ∙ removed_seen itself itself (λ a. refl) itself nat_list_cmp_total exact_bytes es fs k removed
    ∙ ap (λ gs. remove (nodes_of_entries gs) k) (as_they_are es)

pub same_node : (m : Nodes) (n : List ℕ) → get m (sha256 n) ≡ Some n → m ≡ with_node m n
same_node m n found = sym (kept m (sha256 n) n found)

pub noted_undone : (ids new : List Id) (id : Id) (m after : Nodes) → new ≡ ids ++ id ∷ [] → remove after id ≡ m → without new after ≡ without ids m
noted_undone ids new id m after grown out = ap (λ x. without x after) grown ∙ without-push ids id after ∙ ap (without ids) out

pub out_if_put : (m after : Nodes) (n : List ℕ) (id : Id) → id ≡ sha256 n → get m (sha256 n) ≡ None → after ≡ with_node m n → remove after id ≡ m
out_if_put m after n id is none put = ap (remove after) is ∙ ap (λ m. remove m (sha256 n)) put ∙ undone m (sha256 n) n none

pub out_if_not : (m after : Nodes) (n : List ℕ) (id : Id) → id ≡ sha256 n → get m (sha256 n) ≡ None → after ≡ m → remove after id ≡ m
out_if_not m after n id is none same = ap (remove after) is ∙ ap (λ m. remove m (sha256 n)) same ∙ absent m (sha256 n) none
