-- Touched directories, gone through from the last on.
use Rattle.std.proofs.Common.{◌≡◌, ℕ, ◌<◌, true, false, cond, not, ◌&&◌, List, [], ◌∷◌, ◌++◌, length, reverse, refl, sym, ap, subst, ◌∙◌, arith, append_assoc, append-nil}
use Rattle.std.specs.Prelude.{Contains, None, option_map, ◌==◌}
use mathlib.Core.Bool.{true≢false}
use Rattle.std.specs.List.{AllByRecursion, list_any}
use Rattle.std.specs.BTreeMap.{BTreeMap, get}
use Rattle.std.specs.BTreeSet.{BTreeSet, contains, IsUpperBound, Updates as SetUpdates}
use Rattle.std.specs.Ordering.{eq_by_cmp}
use Rattle.std.proofs.lemmas.Bool.{and_parts, or_left, or_right, false_from_ne_true}
use Rattle.std.proofs.lemmas.Grind.{flat_map-append}
use Rattle.std.proofs.lemmas.List.{length_push, reverse-append}
use Rattle.changeset_model.specs.Path.{Path, path_cmp, path_lt, is_strict_prefix}
use Rattle.changeset_model.specs.Changeset.{FileChange}
use Rattle.history_model.specs.History.{Known}
use Rattle.history_model.specs.Past.{Past, At}
use Rattle.manifest_model.specs.Unode.{is_renewed}
use Rattle.manifest_model.proofs.Derivations.{tied_same}
use Rattle.manifest_laws.proofs.Lists.{true_and_false}
use Rattle.manifest_model.proofs.Derivations.{or_case as or_either}
use Rattle.manifest_laws.proofs.Seen.{one_more}
use Rattle.manifest_laws.proofs.Folded.{under_is_more}
use Rattle.fsnode.specs.Parts.{entry_seen as fs_entry_seen}
use Rattle.unode.specs.Parts.{entry_seen as unode_entry_seen}
use Rattle.derive_step.specs.declared.made.Made.{Made}
use Rattle.merge_laws.specs.Joined.{dirs_differ}
use Rattle.derive_step.specs.Pasts.{all_nodes_of, is_touched}
use Rattle.derive_step.specs.Touched.{is_above}
use Rattle.derive_step.specs.Renewal.{AreIn, ArePutFor, AreRenewed, AreTouched, IsGoneThrough, IsMadeAt, IsMadeUnder, IsRenewed, dir_nodes, is_gone_through, is_touched_under}
use Rattle.derive_step.proofs.Above.{above_parts, above_from, by_test}
use Rattle.derive_step.proofs.Members.{has_contains, contains_has, has_left, has_right}
use Rattle.byte_fields.proofs.Booleans.{or_false}
use Rattle.byte_fields.proofs.Lists.{all_both as all_append, weaker}
use Rattle.manifest_laws.proofs.Unodes.{not_root}

abbrev Edits : Type 0
Edits = List (Path × FileChange)

pub under_any : (p : Path) (es : Edits) → list_any (λ e. is_above p e.0) es ≡ true → list_any (λ e. is_strict_prefix p e.0) es ≡ true
under_any p [] h = absurd (true≢false (sym h))
under_any p (e ∷ es) h = or_either (is_above p e.0) (list_any (λ e. is_above p e.0) es)
    (λ g. or_left (is_strict_prefix p e.0) (list_any (λ e. is_strict_prefix p e.0) es) (above_parts p e.0 g).1)
    (λ g. or_right (is_strict_prefix p e.0) (list_any (λ e. is_strict_prefix p e.0) es) (under_any p es g)) h

pub above_any : (p : Path) (es : Edits) → 0 < length p → list_any (λ e. is_strict_prefix p e.0) es ≡ true → list_any (λ e. is_above p e.0) es ≡ true
above_any p [] some h = absurd (true≢false (sym h))
above_any p (e ∷ es) some h = or_either (is_strict_prefix p e.0) (list_any (λ e. is_strict_prefix p e.0) es)
    (λ g. or_left (is_above p e.0) (list_any (λ e. is_above p e.0) es) (above_from p e.0 some g))
    (λ g. or_right (is_above p e.0) (list_any (λ e. is_above p e.0) es) (above_any p es some g)) h

made_same : (now : Past) (made after : BTreeMap Path Made) (p : Path) → get path_cmp after p ≡ get path_cmp made p → IsMadeAt now made p → IsMadeAt now after p
made_same now made after p e at = (ap (option_map (λ x. fs_entry_seen x.fsnode)) e ∙ at.0, ap (option_map (λ x. unode_entry_seen x.unode)) e ∙ at.1)

-- ---- what is put for more directories

module _ (c : Known) (first second : Past) where
  abbrev all : List (List ℕ)
  all = all_nodes_of (At c first second)

  kept_in : (d : Path) (xs ys : List (List ℕ)) → ((n : List ℕ) → Contains xs n → Contains ys n) → AreIn c first second d xs → AreIn c first second d ys
  kept_in d xs ys more are = record {
    fsnode = λ dir. more _ (are.fsnode dir);
    unode = λ dir. more _ (are.unode dir);
    files = λ n f at new. more _ (are.files n f at new);
  }

  in_left : (xs ys : List (List ℕ)) (n : List ℕ) → Contains xs n → Contains (xs ++ ys) n
  in_left xs ys n h = has_contains (xs ++ ys) n (has_left xs ys n (contains_has xs n h))

  in_right : (xs ys : List (List ℕ)) (n : List ℕ) → Contains ys n → Contains (xs ++ ys) n
  in_right xs ys n h = has_contains (xs ++ ys) n (has_right xs ys n (contains_has ys n h))

  all_in : (ds : List Path) (xs ys : List (List ℕ)) → ((n : List ℕ) → Contains xs n → Contains ys n) → AllByRecursion (λ d. AreIn c first second d xs) ds → AllByRecursion (λ d. AreIn c first second d ys) ds
  all_in ds xs ys more are = weaker (λ d. AreIn c first second d xs) (λ d. AreIn c first second d ys) (λ d h. kept_in d xs ys more h) ds are

  pub put_none : (had : List (List ℕ)) → ArePutFor c first second [] had had
  put_none had = record { more = []; nodes = sym (append-nil had); right = tt; whole = tt; alone = λ none. refl }

  pub put_more : (ds es : List Path) (had mid put : List (List ℕ)) → ArePutFor c first second ds had mid → ArePutFor c first second es mid put → ArePutFor c first second (ds ++ es) had put
  put_more ds es had mid put one two = record {
    more = one.more ++ two.more;
    nodes = two.nodes ∙ ap (λ ns. ns ++ two.more) one.nodes ∙ append_assoc had one.more two.more;
    right = all_append (Contains all) one.more two.more one.right two.right;
    whole = all_append (λ d. AreIn c first second d (one.more ++ two.more)) ds es (all_in ds one.more (one.more ++ two.more) (in_left one.more two.more) one.whole) (all_in es two.more (one.more ++ two.more) (in_right one.more two.more) two.whole);
    alone = λ none. (λ i. one.alone none i ++ two.alone none i) ∙ sym (flat_map-append (dir_nodes c first second) ds es);
  }

module _ (c : Known) (first second : Past) (dirs : BTreeSet Path) (touched : AreTouched c first second dirs) (had : List (List ℕ)) where
  pub gone_touched : (p : Path) → is_gone_through c first second p ≡ true → is_touched c first second p ≡ true
  gone_touched p h = or_either (list_any (λ e. is_above p e.0) c.changeset.changes) (not (length p == 0) && dirs_differ first second p)
      (λ g. or_left (is_renewed c.changeset p) (dirs_differ first second p) (or_right (length p == 0) (list_any (λ e. is_strict_prefix p e.0) c.changeset.changes) (under_any p c.changeset.changes g)))
      (λ g. or_right (is_renewed c.changeset p) (dirs_differ first second p) (and_parts (not (length p == 0)) (dirs_differ first second p) g).1) h

  pub touched_there : (p : Path) → contains path_cmp dirs p ≡ true → is_touched c first second p ≡ true
  touched_there p has = gone_touched p (sym (touched p) ∙ has)

  pub touched_under : (d : Path) (n : List ℕ) → is_touched_under c first second (d ++ n ∷ []) ≡ true → contains path_cmp dirs (d ++ n ∷ []) ≡ true
  touched_under d n h =
      let p = d ++ n ∷ [] in
      touched p ∙ or_either (list_any (λ e. is_strict_prefix p e.0) c.changeset.changes) (dirs_differ first second p)
      (λ g. or_left (list_any (λ e. is_above p e.0) c.changeset.changes) (not (length p == 0) && dirs_differ first second p) (above_any p c.changeset.changes (let size = length_push d n in omega (arith, size)) g))
      (λ g. or_right (list_any (λ e. is_above p e.0) c.changeset.changes) (not (length p == 0) && dirs_differ first second p) (λ i. not (not_root d n i) && g i)) h

  module _ (left : BTreeSet Path) (made : BTreeMap Path Made) (put : List (List ℕ)) (gone : IsGoneThrough c first second dirs left made had put) where
    -- of the greatest that is left, all under it were gone through
    pub under_last : (d : Path) → IsUpperBound path_cmp left d → IsMadeUnder c first second made d
    under_last d most n h = gone.noted (d ++ n ∷ []) (touched_under d n h) (false_from_ne_true (contains path_cmp left (d ++ n ∷ [])) (λ has.
        true_and_false (path_lt d (d ++ n ∷ [])) (under_is_more d (d ++ n ∷ []) (one_more d n)) (most (d ++ n ∷ []) has)))

    pub one_less : (d : Path) (rest : BTreeSet Path) (after : BTreeMap Path Made) (more : List (List ℕ)) → contains path_cmp left d ≡ true → left.keys ≡ rest.keys ++ d ∷ [] → SetUpdates path_cmp left rest d false
        → IsRenewed c first second d made after put more → IsGoneThrough c first second dirs rest after had more
    one_less d rest after more has keys updates renewed = record {
      noted = λ p there out. by_test (eq_by_cmp path_cmp d p)
          (λ same. here p (tied_same d p same))
          (λ apart. made_same (At c first second) made after p (renewed.others p apart) (gone.noted p there (sym (updates.2 p apart) ∙ out)));
      fresh = λ p in_rest. by_test (eq_by_cmp path_cmp d p)
          (λ same. true_and_false (contains path_cmp rest p) in_rest (updates.0 p ∙ ap (λ b. cond b false (contains path_cmp left p)) same))
          (λ apart. renewed.others p apart ∙ gone.fresh p (sym (updates.2 p apart) ∙ in_rest));
      within = λ p in_rest. by_test (eq_by_cmp path_cmp d p)
          (λ same. true_and_false (contains path_cmp rest p) in_rest (updates.0 p ∙ ap (λ b. cond b false (contains path_cmp left p)) same))
          (λ apart. gone.within p (sym (updates.2 p apart) ∙ in_rest));
      gone = gone.gone ++ d ∷ [];
      keys =
          append_assoc gone.gone (d ∷ []) (reverse rest.keys)
          ∙ ap (λ ks. gone.gone ++ ks) (sym (reverse-append rest.keys (d ∷ [])) ∙ ap reverse (sym keys))
          ∙ gone.keys;
      nodes = put_more c first second gone.gone (d ∷ []) had put more gone.nodes renewed.nodes;
    }
      where
        here : (p : Path) → d ≡ p → IsMadeAt (At c first second) after p
        here p e = subst (IsMadeAt (At c first second) after) e renewed.here

    pub all_gone : left.keys ≡ [] → AreRenewed c first second dirs made had put
    all_gone none = record {
      noted = λ p there. gone.noted p there (ap (λ ks. list_any (eq_by_cmp path_cmp p) ks) none);
      nodes = subst (λ ks. ArePutFor c first second ks had put) (sym (append-nil gone.gone) ∙ ap (λ ks. gone.gone ++ reverse ks) (sym none) ∙ gone.keys) gone.nodes;
    }

-- at the start none was gone through
pub none_yet : (c : Known) (first second : Past) (dirs : BTreeSet Path) (made : BTreeMap Path Made) (had : List (List ℕ)) → ((p : Path) → get path_cmp made p ≡ None) → IsGoneThrough c first second dirs dirs made had had
none_yet c first second dirs made had new = record {
  noted = λ p there out. true_and_false (contains path_cmp dirs p) there out;
  fresh = λ p there. new p;
  within = λ p there. there;
  gone = [];
  keys = refl;
  nodes = put_none c first second had;
}

-- with the directory d taken out
pub still_left : (left rest : BTreeSet Path) (d : Path) → SetUpdates path_cmp left rest d false → (p : Path) → contains path_cmp rest p ≡ true → (eq_by_cmp path_cmp d p ≡ false) × (contains path_cmp left p ≡ true)
still_left left rest d updates p in_rest = by_test (eq_by_cmp path_cmp d p)
    (λ same. true_and_false (contains path_cmp rest p) in_rest (updates.0 p ∙ ap (λ b. cond b false (contains path_cmp left p)) same))
    (λ apart. (apart, sym (updates.2 p apart) ∙ in_rest))

pub none_left : (ks : List Path) → (0 < length ks → ⊥) → ks ≡ []
none_left [] h = refl
none_left (k ∷ ks) h = absurd (h (omega arith))

pub above_some : (p : Path) (es : Edits) → list_any (λ e. is_above p e.0) es ≡ true → 0 < length p
above_some p [] h = absurd (true≢false (sym h))
above_some p (e ∷ es) h = or_either (is_above p e.0) (list_any (λ e. is_above p e.0) es) (λ g. (above_parts p e.0 g).0) (λ g. above_some p es g) h

pub gone_some : (c : Known) (first second : Past) (p : Path) → is_gone_through c first second p ≡ true → 0 < length p
gone_some c first second [] h = above_some [] c.changeset.changes (sym (or_false (list_any (λ e. is_above [] e.0) c.changeset.changes)) ∙ h)
gone_some c first second (e ∷ p) h = omega arith
