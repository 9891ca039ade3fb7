-- The nodes that are made anew, each after those under it.
use Rattle.std.proofs.Common.{◌≡◌, inl, ℕ, ◌+◌, ◌<◌, ◌≤◌, Bool, true, false, cond, ◌&&◌, List, [], ◌∷◌, ◌++◌, length, refl, sym, ap, subst, ◌∙◌, arith}
use Rattle.std.specs.Prelude.{Contains, Option, None, Some, is_some, ◌==◌}
use mathlib.Core.Bool.{true≢false}
use Rattle.std.specs.List.{AllByRecursion}
use Rattle.std.specs.Option.{option_and_then}
use Rattle.std.specs.declared.cmp.Ordering.TheVariants.{Less}
use Rattle.std.specs.Ordering.{eq_by_cmp, is_lt, ordering_then}
use Rattle.std.specs.Cmp.{tied_itself}
use Rattle.std.specs.Cmp.Lexicographic.{nat_list_cmp_total}
use Rattle.std.specs.FinMap.{find as find_key}
use Rattle.std.specs.BTreeMap.{BTreeMap, IsUpperBound, btree_map_len, get, is_at}
use Rattle.std.proofs.lemmas.Bool.{ne_eqb}
use Rattle.std.proofs.lemmas.List.{length-append}
use Rattle.byte_fields.specs.Bytes.{Id}
use Rattle.byte_fields.proofs.Lists.{all_both}
use Rattle.changeset_model.specs.Path.{Path, path_cmp}
use Rattle.history_model.specs.Past.{Past}
use Rattle.manifest_model.specs.Deleted.{DeletedNode, deleted, deleted_bytes, deleted_id, has_deleted, is_deleted}
use Rattle.manifest_model.proofs.Derivations.{tied_same}
use Rattle.manifest_laws.proofs.Names.{Name, name_cmp}
use Rattle.deleted_step.specs.declared.opened.Opened.{Opened}
use Rattle.deleted_step.specs.declared.unfolded.Unfolded.{Unfolded}
use Rattle.deleted_step.specs.Opened.{IsOf, entry_at, is_there}
use Rattle.deleted_step.specs.Unfolded.{Links, entry_in, is_on_way, is_unfolded, link_in, place_at}
use Rattle.deleted_step.specs.Steps.{IsNew, IsNodeOf}
use Rattle.deleted_step.proofs.Defined.{entry_there, there_is}
use Rattle.deleted_step.proofs.Lists.{contains_has, has_contains, has_left, has_right}

abbrev Places : Type 0
Places = BTreeMap Path Opened

-- ---- a path is less than those under it

under : (d : Path) (n : Name) → path_cmp d (d ++ n ∷ []) ≡ Less
under [] n = refl
under (e ∷ d) n = ap (λ o. ordering_then o (path_cmp d (d ++ n ∷ []))) (tied_itself nat_list_cmp_total e) ∙ under d n

-- ---- nodes that are new

pub new_more : (nodes more all : List (List ℕ)) (n : DeletedNode) → all ≡ nodes ++ more → IsNew nodes n → IsNew all n
new_more nodes more all n e new = record {
  here = subst (λ ns. Contains ns (deleted_bytes n)) (sym e) (has_contains (nodes ++ more) (deleted_bytes n) (has_left nodes more (deleted_bytes n) (contains_has nodes (deleted_bytes n) new.here)));
  rules = new.rules;
}

pub new_last : (nodes all : List (List ℕ)) (n : DeletedNode) → all ≡ nodes ++ deleted_bytes n ∷ [] → is_deleted n ≡ true → IsNew all n
new_last nodes all n e rules = record {
  here = subst (λ ns. Contains ns (deleted_bytes n)) (sym e) (has_contains (nodes ++ deleted_bytes n ∷ []) (deleted_bytes n) (has_right nodes (deleted_bytes n ∷ []) (deleted_bytes n) (inl refl)));
  rules = rules;
}

pub record IsRenewing (first now : Past) (ls : Links) (u : Unfolded) (nodes : List (List ℕ)) (most : ℕ) : Type 0 where
  pub links : (d : Path) → is_unfolded u d ≡ true → link_in u d ≡ (deleted now d).link
  pub entries : (d : Path) → is_unfolded u d ≡ true → (n : Name) → entry_in u d n ≡ cond (is_unfolded u (d ++ n ∷ [])) (find_key name_cmp n (deleted first d).entries) (find_key name_cmp n (deleted now d).entries)
  pub made : (n : Name) (d : Path) → is_on_way ls (n ∷ d) ≡ true → is_unfolded u (n ∷ d) ≡ false → has_deleted now (n ∷ d) ≡ true → IsNew nodes (deleted now (n ∷ d))
  pub right : AllByRecursion (IsNodeOf now) nodes
  pub few : length nodes + btree_map_len u.places ≤ most

-- ---- the last path is taken

module _ (first now : Past) (ls : Links) (u : Unfolded) (nodes : List (List ℕ)) (most : ℕ) (are : IsRenewing first now ls u nodes most)
    (t : Path) (some : 0 < length t) (o : Opened) (rest : Places) (was : get path_cmp u.places t ≡ Some o) (last : IsUpperBound path_cmp u.places t)
    (taken : (q : Path) → get path_cmp rest q ≡ cond (is_at (path_cmp t) q) None (get path_cmp u.places q)) (fewer : btree_map_len rest + 1 ≡ btree_map_len u.places) where
  place_deep : (t : Path) → 0 < length t → place_at u t ≡ get path_cmp u.places t
  place_deep [] some = absurd (omega arith)
  place_deep (e ∷ t) some = refl

  at_t : place_at u t ≡ Some o
  at_t = place_deep t some ∙ was

  snoc_some : (d : Path) (n : Name) → 0 < length (d ++ n ∷ [])
  snoc_some d n = let long = length-append d (n ∷ []) in omega (arith, long)

  none_under : (n : Name) → is_unfolded u (t ++ n ∷ []) ≡ false
  none_under n = by (is_unfolded u (t ++ n ∷ [])) refl
    where
      by : (b : Bool) → is_unfolded u (t ++ n ∷ []) ≡ b → b ≡ false
      by true h = absurd (true≢false (sym (ap is_lt (under t n)) ∙ last (t ++ n ∷ []) (ap is_some (sym (place_deep (t ++ n ∷ []) (snoc_some t n))) ∙ h)))
      by false h = refl

  -- its node is whole
  pub popped : IsOf o (deleted now t)
  popped = record {
    link = sym (ap (option_and_then (λ x. x.link)) at_t) ∙ are.links t (ap is_some at_t);
    entries = λ n. sym (ap (option_and_then (λ x. entry_at x n)) at_t) ∙ are.entries t (ap is_some at_t) n ∙ ap (λ b. cond b (find_key name_cmp n (deleted first t).entries) (find_key name_cmp n (deleted now t).entries)) (none_under n);
  }

  abbrev left : Unfolded
  left = record { root = u.root; places = rest }

  place_left : (d : Path) → place_at left d ≡ cond (eq_by_cmp path_cmp t d) None (place_at u d)
  place_left d = by t some d taken
    where
      by : (t : Path) → 0 < length t → (d : Path) → ((q : Path) → get path_cmp rest q ≡ cond (is_at (path_cmp t) q) None (get path_cmp u.places q)) → place_at left d ≡ cond (eq_by_cmp path_cmp t d) None (place_at u d)
      by [] some d taken = absurd (omega arith)
      by (e ∷ t) some [] taken = refl
      by (e ∷ t) some (k ∷ d) taken = taken (k ∷ d)

  asked_by : {X : Type 0} (ask : Option Opened → X) (b : Bool) (place : Option Opened) → ask (cond b None place) ≡ cond b (ask None) (ask place)
  asked_by ask true place = refl
  asked_by ask false place = refl

  unfolded_left : (d : Path) → is_unfolded left d ≡ cond (eq_by_cmp path_cmp t d) false (is_unfolded u d)
  unfolded_left d = ap is_some (place_left d) ∙ asked_by is_some (eq_by_cmp path_cmp t d) (place_at u d)

  link_left : (d : Path) → link_in left d ≡ cond (eq_by_cmp path_cmp t d) None (link_in u d)
  link_left d = ap (option_and_then (λ x. x.link)) (place_left d) ∙ asked_by (option_and_then (λ x. x.link)) (eq_by_cmp path_cmp t d) (place_at u d)

  entry_left : (d : Path) (n : Name) → entry_in left d n ≡ cond (eq_by_cmp path_cmp t d) None (entry_in u d n)
  entry_left d n = ap (option_and_then (λ x. entry_at x n)) (place_left d) ∙ asked_by (option_and_then (λ x. entry_at x n)) (eq_by_cmp path_cmp t d) (place_at u d)

  -- of a path that is still unfolded
  other_by : (b c : Bool) → cond b false c ≡ true → (b ≡ false) × (c ≡ true)
  other_by true c h = absurd (true≢false (sym h))
  other_by false c h = (refl, h)

  deep : (length t == 0) ≡ false
  deep = ne_eqb (length t) 0 (λ e. absurd (omega (arith, e, some)))

  -- its entry is set above
  module _ (id : Option Id) (v : Unfolded) (all : List (List ℕ))
      (told : id ≡ cond (is_there (deleted now t)) (Some (deleted_id (deleted now t))) None)
      (put : all ≡ nodes ++ cond (is_there (deleted now t)) (deleted_bytes (deleted now t) ∷ []) [])
      (valid : is_there (deleted now t) ≡ true → is_deleted (deleted now t) ≡ true)
      (same : (d : Path) → is_unfolded v d ≡ is_unfolded left d)
      (links : (d : Path) → link_in v d ≡ link_in left d)
      (entries : (d : Path) (n : Name) → entry_in v d n ≡ cond (is_unfolded left d && eq_by_cmp path_cmp t (d ++ n ∷ [])) id (entry_in left d n))
      (as_many : btree_map_len v.places ≡ btree_map_len rest) where
    still : (d : Path) → is_unfolded v d ≡ true → (eq_by_cmp path_cmp t d ≡ false) × (is_unfolded u d ≡ true)
    still d h = other_by (eq_by_cmp path_cmp t d) (is_unfolded u d) (sym (unfolded_left d) ∙ sym (same d) ∙ h)

    unfolded_now : (d : Path) → is_unfolded v d ≡ cond (eq_by_cmp path_cmp t d) false (is_unfolded u d)
    unfolded_now d = same d ∙ unfolded_left d

    links_now : (d : Path) → is_unfolded v d ≡ true → link_in v d ≡ (deleted now d).link
    links_now d h =
        let both = still d h in
        links d ∙ link_left d ∙ ap (λ b. cond b None (link_in u d)) both.0 ∙ are.links d both.1

    entry_by : (d : Path) (n : Name) → is_unfolded v d ≡ true → (b : Bool) → eq_by_cmp path_cmp t (d ++ n ∷ []) ≡ b
        → cond b id (entry_in u d n) ≡ cond (cond b false (is_unfolded u (d ++ n ∷ []))) (find_key name_cmp n (deleted first d).entries) (find_key name_cmp n (deleted now d).entries)
    entry_by d n h true e = told ∙ ap (λ p. cond (is_there (deleted now p)) (Some (deleted_id (deleted now p))) None) (tied_same t (d ++ n ∷ []) e) ∙ sym (entry_there now d n)
    entry_by d n h false e = are.entries d (still d h).1 n

    entries_now : (d : Path) → is_unfolded v d ≡ true → (n : Name) → entry_in v d n ≡ cond (is_unfolded v (d ++ n ∷ [])) (find_key name_cmp n (deleted first d).entries) (find_key name_cmp n (deleted now d).entries)
    entries_now d h n =
        entries d n
        ∙ ap (λ b. cond (b && eq_by_cmp path_cmp t (d ++ n ∷ [])) id (entry_in left d n)) (sym (same d) ∙ h)
        ∙ ap (cond (eq_by_cmp path_cmp t (d ++ n ∷ [])) id) (entry_left d n ∙ ap (λ b. cond b None (entry_in u d n)) (still d h).0)
        ∙ entry_by d n h (eq_by_cmp path_cmp t (d ++ n ∷ [])) refl
        ∙ ap (λ b. cond b (find_key name_cmp n (deleted first d).entries) (find_key name_cmp n (deleted now d).entries)) (sym (unfolded_now (d ++ n ∷ [])))

    put_so : is_there (deleted now t) ≡ true → all ≡ nodes ++ deleted_bytes (deleted now t) ∷ []
    put_so there = put ∙ ap (λ b. nodes ++ cond b (deleted_bytes (deleted now t) ∷ []) []) there

    made_by : (n : Name) (d : Path) → is_on_way ls (n ∷ d) ≡ true → has_deleted now (n ∷ d) ≡ true → (b : Bool) → eq_by_cmp path_cmp t (n ∷ d) ≡ b → cond b false (is_unfolded u (n ∷ d)) ≡ false → IsNew all (deleted now (n ∷ d))
    made_by n d way there true e h =
        let is = tied_same t (n ∷ d) e in
        let so : is_there (deleted now t) ≡ true = there_is now t deep ∙ ap (has_deleted now) is ∙ there in
        subst (λ p. IsNew all (deleted now p)) is (new_last nodes all (deleted now t) (put_so so) (valid so))
    made_by n d way there false e h = new_more nodes (cond (is_there (deleted now t)) (deleted_bytes (deleted now t) ∷ []) []) all (deleted now (n ∷ d)) put (are.made n d way h there)

    right_by : (b : Bool) → is_there (deleted now t) ≡ b → AllByRecursion (IsNodeOf now) (cond b (deleted_bytes (deleted now t) ∷ []) [])
    right_by true e = ((t, sym (there_is now t deep) ∙ e, refl), tt)
    right_by false e = tt

    one_by : (b : Bool) → length (cond b (deleted_bytes (deleted now t) ∷ []) []) ≤ 1
    one_by true = omega arith
    one_by false = omega arith

    pub one_made : IsRenewing first now ls v all most
    one_made = record {
      links = links_now;
      entries = entries_now;
      made = λ n d way h there. made_by n d way there (eq_by_cmp path_cmp t (n ∷ d)) refl (sym (unfolded_now (n ∷ d)) ∙ h);
      right = subst (AllByRecursion (IsNodeOf now)) (sym put) (all_both (IsNodeOf now) nodes (cond (is_there (deleted now t)) (deleted_bytes (deleted now t) ∷ []) []) are.right (right_by (is_there (deleted now t)) refl));
      few = (
          let sum = ap length put ∙ length-append nodes (cond (is_there (deleted now t)) (deleted_bytes (deleted now t) ∷ []) []) in
          let one = one_by (is_there (deleted now t)) in
          let few = are.few in
          omega (arith, sum, one, few, fewer, as_many));
    }
