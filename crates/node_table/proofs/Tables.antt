-- What always holds of a table, after each change.
use Rattle.std.proofs.Common.{◌≡◌, ◌↔◌, ℕ, Bool, true, false, cond, ◌||◌, List, [], ◌∷◌, ◌++◌, refl, sym, ap, subst, ◌∙◌}
use mathlib.Core.Bool.{true≢false}
use Rattle.std.specs.Prelude.{Option, None, Some, is_some, ◌==◌, nat_eq, Result, Ok, Err, OnOk, OnErr, IfErr, is_err}
use Rattle.std.specs.List.{list_any, IsDistinct}
use Rattle.std.specs.Ordering.{eq_by_cmp, nat_cmp}
use Rattle.std.specs.Cmp.{nat_cmp_total, unsigned_tied}
use Rattle.std.specs.FinMap.{FinMap, get, insert, get-empty, get-insert}
use Rattle.std.proofs.lemmas.Bool.{or_parts}
use Rattle.std.proofs.lemmas.Cmp.{eq_by_cmp_equiv}
use Rattle.std.proofs.lemmas.List.Folds.{list_any-append}
use Rattle.byte_fields.proofs.Lists.{all_push}
use Rattle.node_table.specs.Table.{Nodes, Table, IsTable, AreDigests, Has, IsAmong, is_settled, empty_table, with_node, with_nodes, first_collision}
use Rattle.node_table.specs.declared.roots.Roots.{Roots}
use Rattle.node_table.specs.Faults.{FaultOf, OfTwo}
use Rattle.node_table.specs.declared.fault.TableFault.{TableFault}
use Rattle.node_table.specs.declared.fault.TableFault.TheVariants.{Collision, Memory}
use Rattle.node_table.proofs.Digests.{digests-empty, digests-with_node}
use Rattle.node_table.proofs.Apart.{has_just, of_two}

pub empty_is : IsTable empty_table
unfolding IsDistinct
empty_is = record {
  digests = digests-empty;
  rooted = λ number. ap is_some (get-empty nat_cmp number);
  once = tt;
}

pub digests-with_nodes : (m : Nodes) (ns : List (List ℕ)) → AreDigests m → AreDigests (with_nodes m ns)
digests-with_nodes m [] all = all
digests-with_nodes m (n ∷ ns) all = digests-with_nodes (with_node m n) ns (digests-with_node m n all)

-- ---- a number more

distinct_push : (numbers : List ℕ) (number : ℕ) → IsDistinct nat_eq numbers → list_any (λ n. n == number) numbers ≡ false → IsDistinct nat_eq (numbers ++ number ∷ [])
unfolding IsDistinct
distinct_push [] number once new = (tt, tt)
distinct_push (n ∷ numbers) number once new =
    let parts = or_parts (n == number) (list_any (λ n. n == number) numbers) new in
    (all_push (λ m. nat_eq n m ≡ false) numbers number once.0 parts.0, distinct_push numbers number once.1 parts.1)

rooted_by : (b c : Bool) (r : Roots) (o : Option Roots) → b ≡ c → (s : Bool) → is_some o ≡ s → is_some (cond b (Some r) o) ≡ (s || (c || false))
rooted_by true true r o e true h = refl
rooted_by true true r o e false h = refl
rooted_by true false r o e s h = absurd (true≢false e)
rooted_by false true r o e s h = absurd (true≢false (sym e))
rooted_by false false r o e true h = h
rooted_by false false r o e false h = h

pub number_tied : (k number : ℕ) → eq_by_cmp nat_cmp k number ≡ (number == k)
number_tied k number = (eq_by_cmp_equiv nat_cmp_total).symm k number ∙ unsigned_tied number k

pub noted_is : (t : Table) (number : ℕ) (r : Roots) → IsTable t → is_settled t number ≡ false → IsTable (record { nodes = t.nodes; roots = insert t.roots number r; settled = t.settled ++ number ∷ [] })
noted_is t number r is new = record {
  digests = is.digests;
  rooted = λ k.
      ap is_some (get-insert nat_cmp_total t.roots number r k)
      ∙ rooted_by (eq_by_cmp nat_cmp k number) (number == k) r (get t.roots k) (number_tied k number) (is_settled t k) (is.rooted k)
      ∙ sym (list_any-append (λ n. n == k) t.settled (number ∷ []));
  once = distinct_push t.settled number is.once new;
}

-- ---- after a call of the store

abbrev pub a_table : Nodes → FinMap nat_cmp Roots → List ℕ → Table
a_table nodes roots settled = record { nodes = nodes; roots = roots; settled = settled }

pub nodes_are : (m : Nodes) (roots : FinMap nat_cmp Roots) (settled : List ℕ) (ns : List (List ℕ)) → IsTable (a_table m roots settled) → IsTable (a_table (with_nodes m ns) roots settled)
nodes_are m roots settled ns is = record { digests = digests-with_nodes m ns is.digests; rooted = is.rooted; once = is.once }

pub inserted_is : {A E : Type 0} (m after : Nodes) (roots : FinMap nat_cmp Roots) (settled : List ℕ) (n : List ℕ) (r : Result A E) → IsTable (a_table m roots settled) → OnOk r (after ≡ with_node m n) → OnErr r (after ≡ m) → IsTable (a_table after roots settled)
inserted_is m after roots settled n (Ok x) is ok err = subst (λ k. IsTable (a_table k roots settled)) (sym ok) (nodes_are m roots settled (n ∷ []) is)
inserted_is m after roots settled n (Err e) is ok err = subst (λ k. IsTable (a_table k roots settled)) (sym err) is

pub inserted_has : {A E : Type 0} (m after : Nodes) (n : List ℕ) (r : Result A E) → OnOk r (after ≡ with_node m n) → OnOk r (first_collision m (n ∷ []) ≡ None) → OnOk r ((x : List ℕ) → Has after x ↔ IsAmong m (n ∷ []) x)
inserted_has m after n (Ok x) ok apart = λ x. subst (λ k. Has k x ↔ IsAmong m (n ∷ []) x) (sym ok) (has_just m (n ∷ []) apart x)
inserted_has m after n (Err e) ok apart = tt

pub fault_of_two : (m : Nodes) (ns : List (List ℕ)) (fault : TableFault) → AreDigests m → FaultOf fault (first_collision m ns) → OfTwo fault m ns
fault_of_two m ns (Collision id) all h = of_two m ns id all h
fault_of_two m ns Memory all h = tt

pub inserted_two : {A : Type 0} (m : Nodes) (ns : List (List ℕ)) (r : Result A TableFault) → AreDigests m → IfErr r (λ fault. FaultOf fault (first_collision m ns)) → IfErr r (λ fault. OfTwo fault m ns)
inserted_two m ns (Ok x) all h = tt
inserted_two m ns (Err fault) all h = fault_of_two m ns fault all h

pub not_failed : {A E P : Type 0} (r : Result A E) (b : Bool) → b ≡ is_err r → b ≡ false → OnOk r P → P
not_failed (Ok x) b is not h = h
not_failed (Err e) b is not h = absurd (true≢false (sym is ∙ not))
