-- A table after a changeset is settled, and after more changesets become known.
use Rattle.std.proofs.Common.{◌≡◌, ◌⊎◌, inl, inr, ◌↔◌, ℕ, ◌<◌, Bool, true, false, not, ◌&&◌, ◌||◌, ◌==◌, List, [], ◌∷◌, ◌++◌, length, refl, sym, ap, subst, ◌∙◌, arith}
use Rattle.std.specs.Prelude.{Option, Some, None, is_some, Contains, IfErr, OnOk, OnErr, Result, Ok, Err}
use Rattle.std.specs.List.{AllByRecursion, list_any}
use Rattle.std.specs.Option.{option_map_or}
use Rattle.std.specs.Ordering.{nat_cmp, eq_by_cmp}
use Rattle.std.specs.FinMap as map
use mathlib.Core.Bool.{true≢false}
use Rattle.std.proofs.lemmas.Bool.{and_parts, or_left, or_right, eqb-true, eq-eqb, cond-true, cond-false, false_from_ne_true}
use Rattle.std.proofs.lemmas.List.Folds.{list_any-append}
use Rattle.std.proofs.lemmas.List.{length-append}
use Rattle.std.specs.Cmp.{nat_cmp_total}
use Rattle.std.specs.Cmp.Lexicographic.{slice_cmp}
use Rattle.sha2.specs.Sha256.{sha256}
use Rattle.history_model.specs.History.{Known}
use Rattle.history_model.specs.Past.{Past, At}
use Rattle.manifest_model.specs.Manifests.{manifests_in, nodes_in}
use Rattle.manifest_model.proofs.Derivations.{or_case as or_either}
use Rattle.reply_model.specs.After.{IsNode}
use Rattle.node_table.specs.declared.fault.TableFault.{TableFault}
use Rattle.node_table.specs.declared.fault.TableFault.TheVariants as faults
use Rattle.node_table.specs.Faults.{OfTwo}
use Rattle.node_table.specs.Table.{Nodes, Table, Has, IsAmong, is_settled, settled_with, with_nodes, empty_table}
use Rattle.changeset_store.specs.Store.{known_at, parent_at, second_parent_at}
use Rattle.changeset_store.specs.Pasts.{past_at, past_at_some}
use Rattle.derive_step.specs.declared.done.Done.{Done}
use Rattle.derive_step.specs.Pasts.{roots_of, all_nodes_of}
use Rattle.derive_step.proofs.Members.{contains_has, all_has}
use Rattle.manifest_store.specs.Lines.{IsStore}
use Rattle.manifest_store.specs.Manifests.{AreRight, AreManifests, HoldsAll, IsSettledNode}
use Rattle.manifest_store.specs.Jobs.{IsDoneIn, is_ready}
use Rattle.manifest_store.specs.Settling.{IsCollision, IsNodeBeside, IsCollisionBeside}
use Rattle.manifest_store.proofs.Lines.{known_here, parent_stays}
use Rattle.manifest_store.proofs.NodesApart.{ready_parents}
use Rattle.manifest_store.proofs.Pasts.{past_step, past_stays, second_stays}
use Rattle.node_table.proofs.Tables.{number_tied}

nat_tie : (m n : ℕ) → eq_by_cmp nat_cmp m n ≡ true → m ≡ n
nat_tie m n e = sym (eqb-true n m (sym (number_tied m n) ∙ e))

nat_tie_itself : (n : ℕ) → eq_by_cmp nat_cmp n n ≡ true
nat_tie_itself n = number_tied n n ∙ eq-eqb n n refl

-- ---- nothing is settled

pub of_nothing : (ks : List Known) (t : Table) → t ≡ empty_table → IsStore ks → AreRight ks → AreManifests ks t
of_nothing ks t e s right = subst (AreManifests ks) (sym e) (record {
  store = s;
  right = right;
  numbered = λ n h. absurd (true≢false (sym h));
  roots = λ n h. absurd (true≢false (sym h));
  held = λ n h. absurd (true≢false (sym h));
  alone = λ bytes h. none bytes (sym (empty_has bytes) ∙ h);
  parents = λ n p h. absurd (true≢false (sym h));
  second_parents = λ n p h. absurd (true≢false (sym h));
})
  where
    empty_has : (bytes : List ℕ) → map.get empty_table.nodes (sha256 bytes) ≡ None
    empty_has bytes = map.get-empty (slice_cmp nat_cmp) (sha256 bytes)

    none : {P : Type 0} (bytes : List ℕ) → ◌≡◌ {A = Option (List ℕ)} None (Some bytes) → P
    none bytes e = absurd cc

-- ---- more is known

module _ (ks more : List Known) (t : Table) (s : IsStore (ks ++ more)) (right : AreRight (ks ++ more)) (a : AreManifests ks t) where
  stays : (n : ℕ) → is_settled t n ≡ true → past_at (ks ++ more) n ≡ past_at ks n
  stays n h = past_stays ks more n a.store s (a.numbered n h)

  pub still : AreManifests (ks ++ more) t
  still = record {
    store = s;
    right = right;
    numbered = λ n h. (let less = a.numbered n h in let long = length-append ks more in omega arith);
    roots = λ n h. a.roots n h ∙ ap roots_of (sym (stays n h));
    held = λ n h. subst (HoldsAll t.nodes) (sym (stays n h)) (a.held n h);
    alone = λ bytes h. (let of = a.alone bytes h in (of.0, of.1, subst (λ past. Contains (all_nodes_of past) bytes) (sym (stays of.0 of.1)) of.2));
    parents = λ n p h e. a.parents n p h (sym (parent_stays ks more a.store n (a.numbered n h)) ∙ e);
    second_parents = λ n p h e. a.second_parents n p h (sym (second_stays ks more a.store n (a.numbered n h)) ∙ e);
  }

-- ---- a changeset is settled

is_node : (ks : List Known) (n : ℕ) (bytes : List ℕ) → IsStore ks → n < length ks → Contains (all_nodes_of (past_at ks n)) bytes → IsNode ks bytes
is_node ks n bytes store less h = (
  (known_at ks n).id,
  known_here ks n less,
  subst (λ q. Contains (nodes_in (manifests_in (known_at ks n).id q)) bytes) (sym (past_step ks store n less)) (subst (λ q. Contains (all_nodes_of q) bytes) (past_step ks store n less) h),
)

-- what the derivation says, whatever the past is
record Tells (past first second : Past) (done : Done) : Type 0 where
  roots : Some done.roots ≡ roots_of past
  right : AllByRecursion (Contains (all_nodes_of past)) done.nodes.items
  whole : (n : List ℕ) → Contains (all_nodes_of past) n → Contains done.nodes.items n ⊎ (Contains (all_nodes_of first) n ⊎ Contains (all_nodes_of second) n)

tells : (past : Past) (k : Known) (first second : Past) (done : Done) → past ≡ At k first second → IsDoneIn past done → Tells past first second done
tells past k first second done e h =
    let d = subst (λ (q : Past). IsDoneIn q done) e h in
    subst (λ (q : Past). Tells q first second done) (sym e) (record { roots = d.1.roots; right = d.1.right; whole = d.1.whole })

module _ (ks : List Known) (t : Table) (a : AreManifests ks t) (done : Done) (less : done.number < length ks) (is_done : IsDoneIn (past_at ks done.number) done) (ready : is_ready ks t done.number ≡ true) (rooted : is_some (map.get t.roots done.number) ≡ is_settled t done.number) where
  abbrev n : ℕ
  n = done.number

  abbrev ns : List (List ℕ)
  ns = done.nodes.items

  abbrev first : Past
  first = past_at_some ks (parent_at ks n)

  abbrev second : Past
  second = past_at_some ks (second_parent_at ks n)

  unsettled : is_settled t n ≡ false
  unsettled = by (is_settled t n) (and_parts (not (is_settled t n)) (option_map_or (is_settled t) (parent_at ks n) true && option_map_or (is_settled t) (second_parent_at ks n) true) ready).0
    where
      by : (b : Bool) → not b ≡ true → b ≡ false
      by true h = absurd (true≢false (sym h))
      by false h = refl

  abbrev Settled : Option ℕ → Type 0
  Settled o = (p : ℕ) → o ≡ Some p → is_settled t p ≡ true

  both : Settled (parent_at ks n) × Settled (second_parent_at ks n)
  both = ready_parents ks t a n ready

  told : Tells (past_at ks n) first second done
  told = tells (past_at ks n) (known_at ks n) first second done (past_step ks a.store n less) is_done

  -- the nodes of the parents are there
  parent_held : (o : Option ℕ) → Settled o → HoldsAll t.nodes (past_at_some ks o)
  parent_held None h bytes c = absurd (contains_has [] bytes c)
  parent_held (Some p) h bytes c = a.held p (h p refl) bytes c

  abbrev grown : Nodes → Table
  grown nodes = record { nodes = nodes; roots = map.insert t.roots n done.roots; settled = t.settled ++ n ∷ [] }

  module _ (nodes : Nodes) (has : (b : List ℕ) → Has nodes b ↔ IsAmong t.nodes ns b) where
    abbrev after : Table
    after = grown nodes

    one_of : (m : ℕ) → is_settled after m ≡ true → (is_settled t m ≡ true) ⊎ (n ≡ m)
    one_of m h = or_either (is_settled t m) (list_any (λ s. s == m) (n ∷ [])) (λ e. inl e) (λ e. inr (eqb-true n m (last (n == m) e))) (sym (list_any-append (λ s. s == m) t.settled (n ∷ [])) ∙ h)
      where
        last : (b : Bool) → (b || false) ≡ true → b ≡ true
        last true h = refl
        last false h = h

    settled_more : (m : ℕ) → is_settled t m ≡ true → is_settled after m ≡ true
    settled_more m h = list_any-append (λ s. s == m) t.settled (n ∷ []) ∙ or_left (is_settled t m) (list_any (λ s. s == m) (n ∷ [])) h

    settled_now : is_settled after n ≡ true
    settled_now = list_any-append (λ s. s == n) t.settled (n ∷ []) ∙ or_right (is_settled t n) (list_any (λ s. s == n) (n ∷ [])) (ap (λ b. b || false) (eq-eqb n n refl))

    -- of a changeset that was settled, and of this one
    cases : (P : ℕ → Type 0) → ((m : ℕ) → is_settled t m ≡ true → P m) → P n → (m : ℕ) → is_settled after m ≡ true → P m
    cases P was is m h = by (one_of m h)
      where
        by : (is_settled t m ≡ true) ⊎ (n ≡ m) → P m
        by (inl e) = was m e
        by (inr e) = subst P e is

    old_roots : (m : ℕ) → is_settled t m ≡ true → map.get after.roots m ≡ map.get t.roots m
    old_roots m h = map.get-insert nat_cmp_total t.roots n done.roots m ∙ cond-false (eq_by_cmp nat_cmp m n) (Some done.roots) (map.get t.roots m) (false_from_ne_true (eq_by_cmp nat_cmp m n) (λ e. true≢false (sym h ∙ ap (is_settled t) (nat_tie m n e) ∙ unsettled)))

    new_roots : map.get after.roots n ≡ Some done.roots
    new_roots = map.get-insert nat_cmp_total t.roots n done.roots n ∙ cond-true (eq_by_cmp nat_cmp n n) (Some done.roots) (map.get t.roots n) (nat_tie_itself n)

    pub are_after : AreManifests ks after
    are_after = record {
      store = a.store;
      right = a.right;
      numbered = cases (λ m. m < length ks) a.numbered less;
      roots = cases (λ m. map.get after.roots m ≡ roots_of (past_at ks m)) (λ m h. old_roots m h ∙ a.roots m h) (new_roots ∙ told.roots);
      held = cases (λ m. HoldsAll nodes (past_at ks m)) (λ m h bytes c. (has bytes).1 (inl (a.held m h bytes c))) (λ bytes c. of_new bytes (told.whole bytes c));
      alone = λ bytes h. origin bytes ((has bytes).0 h);
      parents = λ m p h e. settled_more p (cases (λ m. parent_at ks m ≡ Some p → is_settled t p ≡ true) (λ m h. a.parents m p h) (λ e. both.0 p e) m h e);
      second_parents = λ m p h e. settled_more p (cases (λ m. second_parent_at ks m ≡ Some p → is_settled t p ≡ true) (λ m h. a.second_parents m p h) (λ e. both.1 p e) m h e);
    }
      where
        of_new : (bytes : List ℕ) → Contains ns bytes ⊎ (Contains (all_nodes_of first) bytes ⊎ Contains (all_nodes_of second) bytes) → Has nodes bytes
        of_new bytes (inl c) = (has bytes).1 (inr c)
        of_new bytes (inr (inl c)) = (has bytes).1 (inl (parent_held (parent_at ks n) both.0 bytes c))
        of_new bytes (inr (inr c)) = (has bytes).1 (inl (parent_held (second_parent_at ks n) both.1 bytes c))

        origin : (bytes : List ℕ) → IsAmong t.nodes ns bytes → IsSettledNode ks after bytes
        origin bytes (inl h) = let of = a.alone bytes h in (of.0, settled_more of.0 of.1, of.2)
        origin bytes (inr c) = (n, settled_now, all_has (Contains (all_nodes_of (past_at ks n))) ns bytes told.right (contains_has ns bytes c))

  beside_nodes : (bytes : List ℕ) → IsAmong t.nodes ns bytes → IsNodeBeside ks t n bytes
  beside_nodes bytes (inl h) = inl (a.alone bytes h)
  beside_nodes bytes (inr c) = inr (all_has (Contains (all_nodes_of (past_at ks n))) ns bytes told.right (contains_has ns bytes c))

  collided_beside : (fault : TableFault) → OfTwo fault t.nodes ns → IsCollisionBeside ks t n fault
  collided_beside (faults.Collision id) h = (h.0, h.1, beside_nodes h.0 h.3, beside_nodes h.1 h.4, h.2, h.5, h.6)
  collided_beside faults.Memory h = tt

  among_nodes : (bytes : List ℕ) → IsAmong t.nodes ns bytes → IsNode ks bytes
  among_nodes bytes (inl h) = let of = a.alone bytes h in is_node ks of.0 bytes a.store (a.numbered of.0 of.1) of.2
  among_nodes bytes (inr c) = is_node ks n bytes a.store less (all_has (Contains (all_nodes_of (past_at ks n))) ns bytes told.right (contains_has ns bytes c))

  collided : (fault : TableFault) → OfTwo fault t.nodes ns → IsCollision ks fault
  collided (faults.Collision id) h = (h.0, h.1, among_nodes h.0 h.3, among_nodes h.1 h.4, h.2, h.5, h.6)
  collided faults.Memory h = tt

  is_grown : (new : Table) → new ≡ settled_with t n done.roots ns → new ≡ grown (with_nodes t.nodes ns)
  is_grown new e = e ∙ cond-false (is_some (map.get t.roots n)) t (grown (with_nodes t.nodes ns)) (rooted ∙ unsettled)

  after_settling : (new : Table) → new ≡ settled_with t n done.roots ns → (is_settled t n ≡ false → (b : List ℕ) → Has new.nodes b ↔ IsAmong t.nodes ns b) → AreManifests ks new
  after_settling new e has =
      let is = is_grown new e in
      subst (AreManifests ks) (sym is) (are_after (with_nodes t.nodes ns) (subst (λ (t' : Table). (b : List ℕ) → Has t'.nodes b ↔ IsAmong t.nodes ns b) is (has unsettled)))

  pub settled_either : {X : Type 0} (r : Result X TableFault) (new : Table) → OnOk r (new ≡ settled_with t n done.roots ns) → OnErr r (new ≡ t) → OnOk r (is_settled t n ≡ false → (b : List ℕ) → Has new.nodes b ↔ IsAmong t.nodes ns b) → AreManifests ks new
  settled_either (Ok x) new grows kept has = after_settling new grows has
  settled_either (Err e) new grows kept has = subst (AreManifests ks) (sym kept) a

  pub now_settled : {X : Type 0} (r : Result X TableFault) (new : Table) → OnOk r (new ≡ settled_with t n done.roots ns) → OnOk r (is_settled new n ≡ true)
  now_settled (Ok x) new grows = ap (λ (t : Table). is_settled t n) (is_grown new grows) ∙ list_any-append (λ s. s == n) t.settled (n ∷ []) ∙ or_right (is_settled t n) (list_any (λ s. s == n) (n ∷ [])) (ap (λ b. b || false) (eq-eqb n n refl))
  now_settled (Err e) new grows = tt

  pub collided_either : {X : Type 0} (r : Result X TableFault) → IfErr r (λ fault. OfTwo fault t.nodes ns) → IfErr r (λ fault. IsCollision ks fault)
  collided_either (Ok x) h = tt
  collided_either (Err fault) h = collided fault h

  pub beside_either : {X : Type 0} (r : Result X TableFault) → IfErr r (λ fault. OfTwo fault t.nodes ns) → IfErr r (λ fault. IsCollisionBeside ks t n fault)
  beside_either (Ok x) h = tt
  beside_either (Err fault) h = collided_beside fault h
