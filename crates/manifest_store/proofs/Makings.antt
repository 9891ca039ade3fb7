-- Unodes of a file by the numbers of those that made them, of which the last is taken until none is left.
use Rattle.std.proofs.Common.{◌≡◌, ℕ, zero, suc, ◌<◌, ◌≤◌, max, Bool, true, false, cond, ◌||◌, List, [], ◌∷◌, ◌++◌, map as list_map, length, append_assoc, refl, sym, ap, subst, ◌∙◌, arith}
use Rattle.std.specs.Prelude.{Option, Some, None, is_some, bytes_eq, nat_lt, ◌==◌}
use Rattle.std.specs.List.{AllByRecursion, list_any}
use Rattle.std.specs.BTreeMap.{insert_entry}
use Rattle.std.specs.Ordering.{match_ordering, nat_cmp}
use Rattle.std.specs.declared.cmp.Ordering.{Ordering}
use Rattle.std.specs.declared.cmp.Ordering.TheVariants.{Less, Equal, Greater}
use Rattle.std.proofs.lemmas.Bool.{false_from_ne_true, ltb-true}
use Rattle.std.specs.List.{All}
use Rattle.std.specs.Map.{keys_of}
use Rattle.std.proofs.lemmas.List.{append-nil, map-append}
use Rattle.std.proofs.lemmas.List.Elements.{recursion_from_All}
use Rattle.std.proofs.lemmas.List.Folds.{list_any-append}
use Rattle.std.proofs.lemmas.Map.Lookups.{exact_unsigned}
use Rattle.std.proofs.lemmas.Slice.Eq.{bytes_eq-Decides}
use Rattle.byte_fields.specs.Bytes.{Id}
use Rattle.byte_fields.proofs.Booleans.{or_false}
use Rattle.byte_fields.proofs.Lists.{weaker}
use Rattle.changeset_model.specs.Path.{Path}
use Rattle.changeset_model.specs.Changeset.{File}
use Rattle.history_model.specs.History.{Known}
use Rattle.history_model.specs.Tree.{tree_of}
use Rattle.manifest_model.specs.Unode.{Unode, linknode_of, unode_id}
use Rattle.manifest_model.specs.Merged.{unode_at, history_of}
use Rattle.unode.specs.History.{parents_of}
use Rattle.unode.specs.Parts.{file_seen}
use Rattle.unode.specs.declared.file.FileUnode.{FileUnode}
use Rattle.node_table.specs.Table.{Nodes, Table, is_settled}
use Rattle.changeset_store.specs.Store.{known_at}
use Rattle.changeset_store.specs.Pasts.{past_at}
use Rattle.manifest_store.specs.Manifests.{AreManifests}
use Rattle.manifest_store.specs.Nodes.{file_under}
use Rattle.manifest_store.specs.Histories.{AreUnodesOf, IsFileNode, IsUnodeOf, one_seen, puts}
use Rattle.manifest_store.proofs.Falling.{falling, falling_cut, falling_none, falling_same, history_falls, id_at}
use Rattle.manifest_store.proofs.Held.{some_of}
use Rattle.manifest_store.proofs.Lines.{same_number}
use Rattle.manifest_store.proofs.Makers.{Behind, HasFile, HasMaker, IsMaker, behind, has_maker, held_node, its_maker, link_is, made, made_below}

abbrev pub Named : Type 0
Named = List (ℕ × Unode)

-- ---- one that is put in

seen_by : (o : Ordering) (a b c : List (ℕ × FileUnode)) → list_map one_seen (match_ordering o a b c) ≡ match_ordering o (list_map one_seen a) (list_map one_seen b) (list_map one_seen c)
seen_by Less a b c = refl
seen_by Equal a b c = refl
seen_by Greater a b c = refl

pub seen_put : (es : List (ℕ × FileUnode)) (k : ℕ) (v : FileUnode) → list_map one_seen (insert_entry nat_cmp es k v) ≡ insert_entry nat_cmp (list_map one_seen es) k (file_seen v)
seen_put [] k v = refl
seen_put (e ∷ es) k v =
    seen_by (nat_cmp k e.0) ((k, v) ∷ e ∷ es) ((e.0, v) ∷ es) (e ∷ insert_entry nat_cmp es k v)
    ∙ ap (λ xs. match_ordering (nat_cmp k e.0) ((k, file_seen v) ∷ one_seen e ∷ list_map one_seen es) ((e.0, file_seen v) ∷ list_map one_seen es) (one_seen e ∷ xs)) (seen_put es k v)

module _ (P : ℕ × Unode → Type 0) where
  all_put : (es : Named) (k : ℕ) (u : Unode) → P (k, u) → AllByRecursion P es → AllByRecursion P (insert_entry nat_cmp es k u)
  all_put [] k u h all = (h, tt)
  all_put (e ∷ es) k u h all = by (nat_cmp k e.0) refl (all_put es k u h all.1)
    where
      by : (o : Ordering) → nat_cmp k e.0 ≡ o → AllByRecursion P (insert_entry nat_cmp es k u) → AllByRecursion P (match_ordering o ((k, u) ∷ e ∷ es) ((e.0, u) ∷ es) (e ∷ insert_entry nat_cmp es k u))
      by Less same later = (h, all)
      by Equal same later = (subst (λ n. P (n, u)) (exact_unsigned k e.0 same) h, all.1)
      by Greater same later = (all.0, later)

  all_puts : (es us : Named) → AllByRecursion P us → AllByRecursion P es → AllByRecursion P (puts es us)
  all_puts es [] more all = all
  all_puts es (u ∷ us) more all = all_puts (insert_entry nat_cmp es u.0 u.1) us more.1 (all_put es u.0 u.1 more.0 all)

or_again : (a b r : Bool) → a ≡ b → (b || r) ≡ (a || (b || r))
or_again true b r e = ap (λ c. c || r) (sym e)
or_again false b r e = refl

or_swap : (a b r : Bool) → (b || (a || r)) ≡ (a || (b || r))
or_swap true true r = refl
or_swap true false r = refl
or_swap false b r = refl

or_mixed : (a r b : Bool) → (r || (a || b)) ≡ ((a || r) || b)
or_mixed true true b = refl
or_mixed true false b = refl
or_mixed false r b = refl

module _ (f : ℕ → Bool) where
  abbrev any_of : Named → Bool
  any_of es = list_any (λ e. f e.0) es

  any_put : (es : Named) (k : ℕ) (u : Unode) → any_of (insert_entry nat_cmp es k u) ≡ (f k || any_of es)
  any_put [] k u = refl
  any_put (e ∷ es) k u = by (nat_cmp k e.0) refl (any_put es k u)
    where
      by : (o : Ordering) → nat_cmp k e.0 ≡ o → any_of (insert_entry nat_cmp es k u) ≡ (f k || any_of es) → any_of (match_ordering o ((k, u) ∷ e ∷ es) ((e.0, u) ∷ es) (e ∷ insert_entry nat_cmp es k u)) ≡ (f k || (f e.0 || any_of es))
      by Less same later = refl
      by Equal same later = or_again (f k) (f e.0) (any_of es) (ap f (exact_unsigned k e.0 same))
      by Greater same later = ap (λ b. f e.0 || b) later ∙ or_swap (f k) (f e.0) (any_of es)

  any_puts : (es us : Named) → any_of (puts es us) ≡ (any_of us || any_of es)
  any_puts es [] = refl
  any_puts es (u ∷ us) = any_puts (insert_entry nat_cmp es u.0 u.1) us ∙ ap (λ b. any_of us || b) (any_put es u.0 u.1) ∙ or_mixed (f u.0) (any_of us) (any_of es)

  none_of : (es : Named) → AllByRecursion (λ e. f e.0 ≡ false) es → any_of es ≡ false
  none_of [] all = refl
  none_of (e ∷ es) all = λ i. all.0 i || none_of es all.1 i

-- ---- as a loop takes the last one

pub cut_seen : (old new : List (ℕ × FileUnode)) (e : ℕ × FileUnode) → old ≡ new ++ e ∷ [] → list_map one_seen old ≡ list_map one_seen new ++ one_seen e ∷ []
cut_seen old new e is = ap (list_map one_seen) is ∙ map-append one_seen new (e ∷ [])

pub below_seen : (es : List (ℕ × FileUnode)) (m : ℕ) → All (λ q. nat_cmp q m ≡ Less) (keys_of es) → AllByRecursion (λ e. e.0 < m) (list_map one_seen es)
below_seen es m all = by es (recursion_from_All (λ q. nat_cmp q m ≡ Less) (keys_of es) all)
  where
    not_less : (b : Bool) → cond b Equal Greater ≡ Less → ⊥
    not_less true e = absurd cc
    not_less false e = absurd cc

    less_by : (q : ℕ) (b : Bool) → nat_lt q m ≡ b → cond b Less (cond (q == m) Equal Greater) ≡ Less → q < m
    less_by q true e h = ltb-true q m e
    less_by q false e h = absurd (not_less (q == m) h)

    less : (q : ℕ) → nat_cmp q m ≡ Less → q < m
    less q e = less_by q (nat_lt q m) refl e

    by : (es : List (ℕ × FileUnode)) → AllByRecursion (λ q. nat_cmp q m ≡ Less) (keys_of es) → AllByRecursion (λ e. e.0 < m) (list_map one_seen es)
    by [] all = tt
    by (e ∷ es) all = (less e.0 all.0, by es all.1)

pub first_of : (m : Nodes) (ks : List Known) (x : Id) (xs : List Id) (us : Named) → AreUnodesOf m ks (x ∷ xs) us → (n : ℕ) × (u : Unode) × IsUnodeOf m ks x n u
first_of m ks x xs [] are = absurd are
first_of m ks x xs (u ∷ us) are = (u.0, u.1, are.0)

pub second_of : (m : Nodes) (ks : List Known) (x y : Id) (xs : List Id) (us : Named) → AreUnodesOf m ks (x ∷ y ∷ xs) us → (n : ℕ) × (u : Unode) × IsUnodeOf m ks y n u
second_of m ks x y xs [] are = absurd are
second_of m ks x y xs (u ∷ us) are = first_of m ks y xs us are.1

pub none_left : (es : List (ℕ × FileUnode)) → length es ≡ 0 → list_map one_seen es ≡ []
none_left [] e = refl
none_left (x ∷ es) e = absurd (omega (arith, e))

-- ---- the greatest number

abbrev pub most_of : Named → ℕ
most_of [] = 0
most_of (e ∷ es) = max (suc e.0) (most_of es)

most_below : (n : ℕ) (es : Named) → AllByRecursion (λ e. e.0 < n) es → most_of es ≤ n
most_below n [] all = omega arith
most_below n (e ∷ es) all = let rest = most_below n es all.1 in let first = all.0 in omega (arith, rest, first)

last_below : (es : Named) (e : ℕ × Unode) → e.0 < most_of (es ++ e ∷ [])
last_below [] e = omega arith
last_below (x ∷ es) e = let rest = last_below es e in omega (arith, rest)

pub falls : (old es new : Named) (e : ℕ × Unode) → old ≡ es ++ e ∷ [] → AllByRecursion (λ x. x.0 < e.0) new → most_of new < most_of old
falls old es new e is all =
    let less = most_below e.0 new all in
    let more = last_below es e in
    subst (λ xs. most_of new < most_of xs) (sym is) (omega (arith, less, more))

-- ---- on the way

abbrev IsNodeOf : List Known → Table → Path → ℕ × Unode → Type 0
IsNodeOf ks t p e = IsMaker ks t p e.0 × (e.1 ≡ unode_at (past_at ks e.0) p)

abbrev any_made : List Known → Path → Named → ℕ → Bool
any_made ks p es j = list_any (λ e. made ks p e.0 j) es

pub record IsGoing (ks : List Known) (t : Table) (n : ℕ) (p : Path) (es : Named) (ids : List Id) : Type 0 where
  pub are : AllByRecursion (IsNodeOf ks t p) es
  pub told : ids ++ falling (id_at ks) (any_made ks p es) (length ks) ≡ falling (id_at ks) (made ks p n) (length ks)

pub last_of : (P : ℕ × Unode → Type 0) (es : Named) (e : ℕ × Unode) → AllByRecursion P (es ++ e ∷ []) → AllByRecursion P es × P e
last_of P [] e all = (tt, all.0)
last_of P (x ∷ es) e all = let rest = last_of P es e all.1 in ((all.0, rest.0), rest.1)

module _ (ks : List Known) (t : Table) (a : AreManifests ks t) (p : Path) where
  abbrev node_at : ℕ → ℕ × Unode
  node_at m = (m, unode_at (past_at ks m) p)

  -- ---- the first

  module _ (n : ℕ) (x : Id) (is : IsFileNode ks t n p x) where
    abbrev has_file : HasFile ks p n
    has_file = some_of (tree_of (past_at ks n) p) is.file

    abbrev first : HasMaker ks t p (suc n) (past_at ks n)
    first = has_maker ks t a p n is.settled has_file

    abbrev pub found_first : (m : ℕ) × (u : Unode) × IsUnodeOf t.nodes ks x m u
    found_first = (first.maker, unode_at (past_at ks first.maker) p, (ap (file_under t.nodes) (is.id ∙ ap unode_id first.node) ∙ held_node ks t a p first.maker first.is.settled first.is.file, its_maker ks t a p first.maker first.is))

    pub started : (es : Named) (ids : List Id) → es ≡ insert_entry nat_cmp [] found_first.0 found_first.1 → ids ≡ [] → IsGoing ks t n p es ids
    started es ids e none = record {
      are = subst (AllByRecursion (IsNodeOf ks t p)) (sym e) ((first.is, refl), tt);
      told =
          (λ i. none i ++ falling (id_at ks) (any_made ks p (e i)) (length ks))
          ∙ falling_same (id_at ks) (id_at ks) (any_made ks p (node_at first.maker ∷ [])) (made ks p n) (length ks) (λ j less. refl) (λ j less. or_false (made ks p first.maker j) ∙ sym (first.makes j));
    }

  -- ---- the last one

  module _ (n : ℕ) (old es : Named) (m : ℕ) (u : Unode) (ids : List Id) (cut : old ≡ es ++ (m, u) ∷ []) (below : AllByRecursion (λ e. e.0 < m) es) (going : IsGoing ks t n p old ids) where
    abbrev parts : AllByRecursion (IsNodeOf ks t p) es × IsNodeOf ks t p (m, u)
    parts = last_of (IsNodeOf ks t p) es (m, u) (subst (AllByRecursion (IsNodeOf ks t p)) cut going.are)

    abbrev mine : IsMaker ks t p m
    mine = parts.1.0

    abbrev its : Behind ks t p m
    its = behind ks t a p m mine

    abbrev pub next : Named
    next = list_map node_at its.makers

    found_each : (ms : List ℕ) → AllByRecursion (λ k. IsMaker ks t p k × (k < m)) ms → AreUnodesOf t.nodes ks (list_map (λ k. unode_id (unode_at (past_at ks k) p)) ms) (list_map node_at ms)
    found_each [] all = tt
    found_each (k ∷ ms) all = ((held_node ks t a p k all.0.0.settled all.0.0.file, its_maker ks t a p k all.0.0), found_each ms all.1)

    pub found_next : AreUnodesOf t.nodes ks (parents_of u) next
    found_next = subst (λ xs. AreUnodesOf t.nodes ks xs next) (sym (ap parents_of parts.1.1 ∙ its.ids)) (found_each its.makers its.are)

    each_node : (P : ℕ × Unode → Type 0) (ms : List ℕ) → ((k : ℕ) → IsMaker ks t p k × (k < m) → P (node_at k)) → AllByRecursion (λ k. IsMaker ks t p k × (k < m)) ms → AllByRecursion P (list_map node_at ms)
    each_node P [] h all = tt
    each_node P (k ∷ ms) h all = (h k all.0, each_node P ms h all.1)

    any_next : (j : ℕ) (ms : List ℕ) → list_any (λ k. made ks p k j) ms ≡ any_made ks p (list_map node_at ms) j
    any_next j [] = refl
    any_next j (k ∷ ms) = ap (λ b. made ks p k j || b) (any_next j ms)

    known : m < length ks
    known = a.numbered m mine.settled

    module _ (new : Named) (ids' : List Id) (put : new ≡ puts es next) (more : ids' ≡ ids ++ linknode_of u ∷ []) where
      pub new_below : AllByRecursion (λ e. e.0 < m) new
      new_below = subst (AllByRecursion (λ e. e.0 < m)) (sym put) (all_puts (λ e. e.0 < m) es next (each_node (λ e. e.0 < m) its.makers (λ k h. h.1) its.are) below)

      new_are : AllByRecursion (IsNodeOf ks t p) new
      new_are = subst (AllByRecursion (IsNodeOf ks t p)) (sym put) (all_puts (IsNodeOf ks t p) es next (each_node (IsNodeOf ks t p) its.makers (λ k h. (h.0, refl)) its.are) parts.0)

      -- nobody makes one above itself
      none_above : (xs : Named) (j k : ℕ) → k < length ks → AllByRecursion (IsNodeOf ks t p) xs → AllByRecursion (λ e. e.0 < k) xs → any_made ks p xs k ≡ false
      none_above [] j k less are low = refl
      none_above (e ∷ xs) j k less are low =
          (λ i. false_from_ne_true (made ks p e.0 k) (λ h. (let up = made_below ks t a p e.0 k are.0.0.settled less h in let down = low.0 in absurd (omega (arith, up, down)))) i
          || none_above xs j k less are.1 low.1 i)

      or_last : (b : Bool) → (b || (true || false)) ≡ true
      or_last true = refl
      or_last false = refl

      split : (j : ℕ) → any_made ks p old j ≡ (any_made ks p es j || (made ks p m j || false))
      split j = ap (λ xs. any_made ks p xs j) cut ∙ list_any-append (λ e. made ks p e.0 j) es ((m, u) ∷ [])

      here : any_made ks p old m ≡ true
      here = split m ∙ ap (λ b. any_made ks p es m || (b || false)) (its.makes m ∙ ap (λ b. b || list_any (λ k. made ks p k m) its.makers) ((bytes_eq-Decides (id_at ks m) (id_at ks m)).1 refl)) ∙ or_last (any_made ks p es m)

      gone : any_made ks p new m ≡ false
      gone = none_above new m m known new_are new_below

      above : (j : ℕ) → j < length ks → m < j → any_made ks p old j ≡ false
      above j less high = none_above old j j less going.are (subst (AllByRecursion (λ e. e.0 < j)) (sym cut) (all_low es (weaker (λ (e : ℕ × Unode). e.0 < m) (λ e. e.0 < j) (λ e low. omega (arith, low, high)) es below)))
        where
          all_low : (xs : Named) → AllByRecursion (λ e. e.0 < j) xs → AllByRecursion (λ e. e.0 < j) (xs ++ (m, u) ∷ [])
          all_low [] all = (high, tt)
          all_low (x ∷ xs) all = (all.0, all_low xs all.1)

      or_turn : (r b : Bool) → (r || b) ≡ (b || (r || false))
      or_turn true true = refl
      or_turn true false = refl
      or_turn false true = refl
      or_turn false false = refl

      same : (j : ℕ) → j < length ks → (j ≡ m → ⊥) → any_made ks p new j ≡ any_made ks p old j
      same j less other =
          let not_mine : bytes_eq (id_at ks j) (id_at ks m) ≡ false = false_from_ne_true (bytes_eq (id_at ks j) (id_at ks m)) (λ e. other (same_number ks a.store j m less known ((bytes_eq-Decides (id_at ks j) (id_at ks m)).0 e))) in
          let of_m : made ks p m j ≡ any_made ks p next j = its.makes j ∙ ap (λ b. b || list_any (λ k. made ks p k j) its.makers) not_mine ∙ any_next j its.makers in
          ap (λ xs. any_made ks p xs j) put ∙ any_puts (λ k. made ks p k j) es next
          ∙ or_turn (any_made ks p next j) (any_made ks p es j)
          ∙ ap (λ b. any_made ks p es j || (b || false)) (sym of_m)
          ∙ sym (split j)

      pub goes : IsGoing ks t n p new ids'
      goes = record {
        are = new_are;
        told =
            (λ i. (more ∙ ap (λ v. ids ++ linknode_of v ∷ []) parts.1.1 ∙ ap (λ x. ids ++ x ∷ []) (link_is ks t a p m mine)) i ++ falling (id_at ks) (any_made ks p new) (length ks))
            ∙ append_assoc ids (id_at ks m ∷ []) (falling (id_at ks) (any_made ks p new) (length ks))
            ∙ ap (λ xs. ids ++ xs) (sym (falling_cut (id_at ks) (any_made ks p old) (any_made ks p new) m (length ks) known here gone above same))
            ∙ going.told;
      }

  -- ---- the end

  pub ended : (n : ℕ) (es : Named) (ids : List Id) → es ≡ [] → IsGoing ks t n p es ids → ids ≡ history_of ks (known_at ks n).id p
  ended n es ids none going =
      sym (append-nil ids)
      ∙ ap (λ xs. ids ++ xs) (sym (falling_none (id_at ks) (any_made ks p []) (length ks) (λ j. refl)))
      ∙ ap (λ xs. ids ++ falling (id_at ks) (any_made ks p xs) (length ks)) (sym none)
      ∙ going.told ∙ sym (history_falls ks (known_at ks n).id p)
