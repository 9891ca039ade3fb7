-- From the first parent's nodes with the links set, and to the new nodes.
use Rattle.std.proofs.Common.{◌≡◌, ◌⊎◌, inl, inr, ℕ, suc, ◌<◌, ◌≤◌, Bool, true, false, cond, ◌||◌, List, [], ◌∷◌, ◌++◌, map, length, refl, sym, ap, subst, ◌∙◌, arith}
use Rattle.std.specs.Prelude.{Option, Some, bytes_eq, flat_map, is_some}
use mathlib.Core.Bool.{true≢false}
use Rattle.std.specs.List.{AllByRecursion, IsDistinct, list_any}
use Rattle.std.specs.List.Sorted.{IsStrictlySortedBy}
use Rattle.std.specs.Cmp.{eq_by_cmp_equiv}
use Rattle.std.specs.Ordering.{eq_by_cmp}
use Rattle.std.specs.FinMap.{find as find_key}
use Rattle.std.specs.Map.{keys_of, lookup}
use Rattle.std.specs.BTreeMap.{btree_map_len, is_at}
use Rattle.std.proofs.lemmas.Bool.{and_parts, or_right}
use Rattle.std.proofs.lemmas.List.{length-append, length-map}
use Rattle.std.proofs.lemmas.Map.Keys.{IsDistinct-from_sorted, IsDistinct-cons}
use Rattle.std.proofs.lemmas.Map.Made.{length-le_from_is_member}
use Rattle.byte_fields.specs.Bytes.{Id}
use Rattle.byte_fields.proofs.Lists.{all_both}
use Rattle.changeset_model.specs.Path.{Path, is_prefix, path_cmp}
use Rattle.changeset_model.proofs.Paths.{path_cmp_total}
use Rattle.changeset_model.proofs.Rising.{Contains-rising}
use Rattle.history_model.specs.Past.{Past}
use Rattle.manifest_model.specs.Deleted.{DeletedNode, deleted, deleted_at, deleted_bytes, deleted_id, has_deleted, is_deleted}
use Rattle.manifest_model.specs.Manifests.{above}
use Rattle.manifest_model.proofs.Derivations.{or_case}
use Rattle.manifest_laws.proofs.Names.{Name, name_cmp, same_name}
use Rattle.deleted_node.proofs.Stays.{entries_agree, nodes_agree}
use Rattle.deleted_node.proofs.Within.{link_is}
use Rattle.deleted_step.specs.declared.done.Done.{Done}
use Rattle.deleted_step.specs.declared.opened.Opened.{Opened}
use Rattle.deleted_step.specs.declared.unfolded.Unfolded.{Unfolded}
use Rattle.deleted_step.specs.Opened.{IsOf}
use Rattle.deleted_step.specs.Unfolded.{IsUnfolded, Links, is_on_way, is_unfolded, link_after}
use Rattle.deleted_step.specs.Steps.{IsDoneOf, IsNew, IsNodeOf, ways}
use Rattle.deleted_step.proofs.Lists.{Has, any_has, contains_has, has_any, has_contains, has_left, has_map, has_right}
use Rattle.deleted_step.proofs.Renewing.{IsRenewing, new_last, new_more}
use Rattle.deleted_step.proofs.SetLinks.{untouched}

-- ---- how many paths there are

abbrev pub paths : Links → List Path
paths ls = map (λ (l : Path × Option Id). l.0) ls

on_own_way : (p q : Path) → is_prefix p q ≡ true → (q ≡ p) ⊎ Has (above q) p
on_own_way [] [] h = inl refl
on_own_way [] (f ∷ q) h = inr (inl refl)
on_own_way (e ∷ p) [] h = absurd (true≢false (sym h))
on_own_way (e ∷ p) (f ∷ q) h = by (on_own_way p q parts.1)
  where
    parts : (bytes_eq e f ≡ true) × (is_prefix p q ≡ true)
    parts = and_parts (bytes_eq e f) (is_prefix p q) h

    same : f ≡ e
    same = sym (same_name e f parts.0)

    by : (q ≡ p) ⊎ Has (above q) p → (f ∷ q ≡ e ∷ p) ⊎ Has (above (f ∷ q)) (e ∷ p)
    by (inl is) = inl (λ i. same i ∷ is i)
    by (inr has) = inr (inr (subst (λ k. Has (map (λ d. f ∷ d) (above q)) (k ∷ p)) same (has_map (λ d. f ∷ d) (above q) p has)))

way_has : (ls : Links) (p : Path) → is_on_way ls p ≡ true → Has (flat_map (λ q. q ∷ above q) (paths ls)) p
way_has [] p h = absurd (true≢false (sym h))
way_has (l ∷ ls) p h =
    or_case (is_prefix p l.0) (is_on_way ls p) (λ g. has_left (l.0 ∷ above l.0) (flat_map (λ q. q ∷ above q) (paths ls)) p (on_own_way p l.0 g)) (λ g. has_right (l.0 ∷ above l.0) (flat_map (λ q. q ∷ above q) (paths ls)) p (way_has ls p g)) h

key_by : (b : Bool) (o : Opened) (later : Option Opened) (rest : Bool) → rest ≡ is_some later → (b || rest) ≡ is_some (cond b (Some o) later)
key_by true o later rest h = refl
key_by false o later rest h = h

has_key : (p : Path) (es : List (Path × Opened)) → list_any (eq_by_cmp path_cmp p) (keys_of es) ≡ is_some (lookup (is_at (path_cmp p)) es)
has_key p [] = refl
has_key p (e ∷ es) = key_by (eq_by_cmp path_cmp p e.0) e.1 (lookup (is_at (path_cmp p)) es) (list_any (eq_by_cmp path_cmp p) (keys_of es)) (has_key p es)

all_paths : (P : Path → Type 0) (ps : List Path) → ((p : Path) → list_any (eq_by_cmp path_cmp p) ps ≡ true → P p) → AllByRecursion P ps
all_paths P [] h = tt
all_paths P (q ∷ ps) h = (h q (has_any (q ∷ ps) q (inl refl)), all_paths P ps (λ p g. h p (or_right (eq_by_cmp path_cmp p q) (list_any (eq_by_cmp path_cmp p) ps) g)))

module _ (first : Past) (ls : Links) (u : Unfolded) (are : IsUnfolded first ls [] u) (ordered : IsStrictlySortedBy path_cmp (keys_of u.places.entries)) where
  abbrev keys : List Path
  keys = keys_of u.places.entries

  or_no : (b c : Bool) → b ≡ (c || false) → b ≡ true → c ≡ true
  or_no b true e h = refl
  or_no b false e h = sym e ∙ h

  on_way : (n : Name) (d : Path) → is_unfolded u (n ∷ d) ≡ true → is_on_way ls (n ∷ d) ≡ true
  on_way n d h = or_no (is_unfolded u (n ∷ d)) (is_on_way ls (n ∷ d)) (are.places n d) h

  key_there : (p : Path) → list_any (eq_by_cmp path_cmp p) keys ≡ true → (eq_by_cmp path_cmp [] p ≡ false) × (is_on_way ls p ≡ true)
  key_there [] h = absurd (true≢false (sym h ∙ has_key [] u.places.entries ∙ ap is_some are.root))
  key_there (n ∷ d) h = (refl, on_way n d (sym (has_key (n ∷ d) u.places.entries) ∙ h))

  distinct : IsDistinct (eq_by_cmp path_cmp) ([] ∷ keys)
  distinct = IsDistinct-cons (eq_by_cmp path_cmp) [] keys (all_paths (λ p. eq_by_cmp path_cmp [] p ≡ false) keys (λ p h. (key_there p h).0)) (IsDistinct-from_sorted path_cmp keys ordered)

  among_ways : (q : Path) → Has ([] ∷ keys) q → Has ([] ∷ flat_map (λ p. p ∷ above p) (paths ls)) q
  among_ways q (inl e) = inl e
  among_ways q (inr h) = inr (way_has ls q (key_there q (has_any keys q h)).1)

  member : (q : Path) → list_any (eq_by_cmp path_cmp q) ([] ∷ keys) ≡ true → list_any (eq_by_cmp path_cmp q) (ways (paths ls)) ≡ true
  member q h =
      let all = [] ∷ flat_map (λ p. p ∷ above p) (paths ls) in
      has_any (ways (paths ls)) q (contains_has (ways (paths ls)) q ((Contains-rising all q).1 (has_contains all q (among_ways q (any_has ([] ∷ keys) q h)))))

  pub few_ways : suc (btree_map_len u.places) ≤ length (ways (paths ls))
  few_ways =
      let most = length-le_from_is_member (eq_by_cmp_equiv path_cmp_total) ([] ∷ keys) (ways (paths ls)) distinct member in
      let same = length-map u.places.entries (λ e. e.0) in
      omega (arith, most, same)

-- ---- where nothing changes

module _ (first now : Past) (ls : Links) (links : (d : Path) → deleted_at now d ≡ link_after ls d (deleted_at first d)) where
  agree : (d : Path) → is_on_way ls d ≡ false → (p : Path) → is_prefix d p ≡ true → deleted_at now p ≡ deleted_at first p
  agree d far p inside = links p ∙ untouched d p inside ls far (deleted_at first p)

  -- ---- the start

  module _ (u : Unfolded) (are : IsUnfolded first ls [] u) where
    or_none : (b c : Bool) → b ≡ (c || false) → b ≡ false → c ≡ false
    or_none b true e h = sym e ∙ h
    or_none b false e h = refl

    far_by : (p : Path) → 0 < length p → is_unfolded u p ≡ false → is_on_way ls p ≡ false
    far_by [] some h = absurd (omega arith)
    far_by (n ∷ d) some h = or_none (is_unfolded u (n ∷ d)) (is_on_way ls (n ∷ d)) (are.places n d) h

    snoc_some : (d : Path) (n : Name) → 0 < length (d ++ n ∷ [])
    snoc_some d n = let long = length-append d (n ∷ []) in omega (arith, long)

    entry_by : (d : Path) (n : Name) (b : Bool) → is_unfolded u (d ++ n ∷ []) ≡ b → find_key name_cmp n (deleted first d).entries ≡ cond b (find_key name_cmp n (deleted first d).entries) (find_key name_cmp n (deleted now d).entries)
    entry_by d n true h = refl
    entry_by d n false h = sym (entries_agree now first d n (agree (d ++ n ∷ []) (far_by (d ++ n ∷ []) (snoc_some d n) h)))

    on_some : (b c : Bool) → b ≡ (c || false) → c ≡ true → b ≡ true
    on_some b true e h = e
    on_some b false e h = absurd (true≢false (sym h))

    pub started : (nodes : List (List ℕ)) → nodes ≡ [] → IsRenewing first now ls u nodes (btree_map_len u.places)
    started nodes none = record {
      links = λ d h. are.links d h ∙ ap (link_after ls d) (link_is first d) ∙ sym (links d) ∙ sym (link_is now d);
      entries = λ d h n. are.entries d h n ∙ entry_by d n (is_unfolded u (d ++ n ∷ [])) refl;
      made = λ n d way h there. absurd (true≢false (sym (on_some (is_unfolded u (n ∷ d)) (is_on_way ls (n ∷ d)) (are.places n d) way) ∙ h));
      right = subst (AllByRecursion (IsNodeOf now)) (sym none) tt;
      few = (let same = ap length none in omega (arith, same));
    }

  -- ---- the end

  module _ (u : Unfolded) (nodes : List (List ℕ)) (most : ℕ) (are : IsRenewing first now ls u nodes most) (none : btree_map_len u.places ≡ 0) where
    empty : (es : List (Path × Opened)) → length es ≡ 0 → es ≡ []
    empty [] e = refl
    empty (x ∷ es) e = absurd (omega (arith, e))

    gone : (n : Name) (d : Path) → is_unfolded u (n ∷ d) ≡ false
    gone n d = ap (λ es. is_some (lookup (is_at (path_cmp (n ∷ d))) es)) (empty u.places.entries none)

    pub root_is : IsOf u.root (deleted now [])
    root_is = record {
      link = are.links [] refl;
      entries = λ n. are.entries [] refl n ∙ ap (λ b. cond b (find_key name_cmp n (deleted first []).entries) (find_key name_cmp n (deleted now []).entries)) (gone n []);
    }

    module _ (done : Done) (node : DeletedNode) (same : node ≡ deleted now []) (root : done.root ≡ deleted_id node) (put : done.nodes.items ≡ nodes ++ deleted_bytes node ∷ []) (valid : is_deleted node ≡ true)
        (fits : suc most ≤ length (ways (paths ls))) where
      all : done.nodes.items ≡ nodes ++ deleted_bytes (deleted now []) ∷ []
      all = put ∙ ap (λ n. nodes ++ deleted_bytes n ∷ []) same

      root_new : IsNew done.nodes.items (deleted now [])
      root_new = new_last nodes done.nodes.items (deleted now []) all (ap is_deleted (sym same) ∙ valid)

      whole_by : (n : Name) (d : Path) → has_deleted now (n ∷ d) ≡ true → (b : Bool) → is_on_way ls (n ∷ d) ≡ b → IsNew done.nodes.items (deleted now (n ∷ d)) ⊎ ((has_deleted first (n ∷ d) ≡ true) × (deleted now (n ∷ d) ≡ deleted first (n ∷ d)))
      whole_by n d there true way = inl (new_more nodes (deleted_bytes (deleted now []) ∷ []) done.nodes.items (deleted now (n ∷ d)) all (are.made n d way (gone n d) there))
      whole_by n d there false far =
          let stays = nodes_agree now first (n ∷ d) (agree (n ∷ d) far) in
          inr (sym stays.1 ∙ there, stays.0)

      whole : (d : Path) → has_deleted now d ≡ true → IsNew done.nodes.items (deleted now d) ⊎ ((has_deleted first d ≡ true) × (deleted now d ≡ deleted first d))
      whole [] there = inl root_new
      whole (n ∷ d) there = whole_by n d there (is_on_way ls (n ∷ d)) refl

      pub done_of : IsDoneOf first now (paths ls) done
      done_of = record {
        root = root ∙ ap deleted_id same;
        root_new = root_new;
        right = subst (AllByRecursion (IsNodeOf now)) (sym all) (all_both (IsNodeOf now) nodes (deleted_bytes (deleted now []) ∷ []) are.right (([], refl, refl), tt));
        whole = whole;
        few = (
            let sum = ap length all ∙ length-append nodes (deleted_bytes (deleted now []) ∷ []) in
            let few = are.few in
            omega (arith, sum, few, fits, none));
      }
