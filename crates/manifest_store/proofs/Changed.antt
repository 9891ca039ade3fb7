-- What edits take away, and what they and a second parent bring, is what goes and comes at the changeset.
use Rattle.std.proofs.Common.{◌≡◌, ◌⊎◌, inl, inr, Bool, true, false, not, cond, ◌&&◌, ◌||◌, List, [], ◌∷◌, refl, sym, ap, ◌∙◌}
use Rattle.std.specs.Prelude.{Option, Some, None, is_some, is_none, bytes_eq}
use Rattle.std.specs.List.{list_any}
use Rattle.std.specs.Option.{option_and_then, option_or}
use Rattle.std.specs.Ordering.{eq_by_cmp}
use Rattle.std.specs.FinMap.{is_sorted, find as find_key}
use Rattle.std.specs.FinMap.Entries.{below_all}
use mathlib.Core.Bool.{true≢false}
use Rattle.std.proofs.lemmas.Bool.{and_parts, or_left, or_right, false_from_ne_true}
use Rattle.byte_fields.proofs.Booleans.{and_false, and_true, same_some}
use Rattle.changeset_model.specs.Path.{Path, path_cmp, path_eq, is_prefix, is_strict_prefix}
use Rattle.changeset_model.specs.Changeset.{File, FileChange, Set, Delete, Changeset, file_of, set_at, self_conflict}
use Rattle.bonsai.proofs.Rules.{changes_rise}
use Rattle.history_model.specs.History.{Known}
use Rattle.history_model.specs.Past.{Past, At}
use Rattle.history_model.specs.Tree.{decides, decides_at, tree, tree_of}
use Rattle.manifest_model.proofs.Derivations.{tied_same, or_case as or_either}
use Rattle.manifest_laws.proofs.Flat.{flat, set_decides, tied_self, strict_parts, is_strict_or_same}
use Rattle.manifest_laws.proofs.Changes.{one_more}
use Rattle.manifest_laws.proofs.Folded.{not_found, apart_same}
use Rattle.manifest_laws.proofs.Lists.{none_some, true_and_false}
use Rattle.manifest_laws.proofs.Names.{same_name, name_itself}
use Rattle.history_model.proofs.Landings.{prefix_self}
use Rattle.deleted_step.specs.Steps.{AreComeAndGone}
use Rattle.manifest_store.specs.Manifests.{IsRight}
use Rattle.manifest_store.specs.Moves.{has_file, takes, takes_at, brings, comes, Adds}

abbrev Edits : Type 0
Edits = List (Path × FileChange)

-- ---- edits by rising paths

abbrev IsFoundEdit : (Path × FileChange → Bool) → Edits → Type 0
IsFoundEdit t es = (e : Path × FileChange) × (t e ≡ true) × (find_key path_cmp e.0 es ≡ Some e.1)

found_edit : (t : Path × FileChange → Bool) (es : Edits) → is_sorted path_cmp es ≡ true → list_any t es ≡ true → IsFoundEdit t es
found_edit t [] rise h = absurd (true≢false (sym h))
found_edit t (g ∷ es) rise h = or_either (t g) (list_any t es) first (λ k. later (found_edit t es parts.1 k)) h
  where
    parts : (below_all path_cmp g.0 es ≡ true) × (is_sorted path_cmp es ≡ true)
    parts = and_parts (below_all path_cmp g.0 es) (is_sorted path_cmp es) rise

    first : t g ≡ true → IsFoundEdit t (g ∷ es)
    first k = (g, k, ap (λ b. cond b (Some g.1) (find_key path_cmp g.0 es)) (tied_self g.0))

    kept : (q : Path) (change : FileChange) → find_key path_cmp q es ≡ Some change → (b : Bool) → eq_by_cmp path_cmp q g.0 ≡ b → cond b (Some g.1) (find_key path_cmp q es) ≡ Some change
    kept q change found true e = none_some change (sym (not_found q g.0 (λ x k. apart_same q g.0 x e k) es parts.0) ∙ found)
    kept q change found false e = found

    later : IsFoundEdit t es → IsFoundEdit t (g ∷ es)
    later rest = (rest.0, rest.1, kept rest.0.0 rest.0.1 rest.2 (eq_by_cmp path_cmp rest.0.0 g.0) refl)

any_found : (t : Path × FileChange → Bool) (p : Path) (change : FileChange) (es : Edits) → find_key path_cmp p es ≡ Some change → t (p, change) ≡ true → list_any t es ≡ true
any_found t p change [] found h = none_some change found
any_found t p change (g ∷ es) found h = by (any_found t p change es) (eq_by_cmp path_cmp p g.0) refl found
  where
    by : (find_key path_cmp p es ≡ Some change → t (p, change) ≡ true → list_any t es ≡ true) → (b : Bool) → eq_by_cmp path_cmp p g.0 ≡ b → cond b (Some g.1) (find_key path_cmp p es) ≡ Some change → list_any t (g ∷ es) ≡ true
    by later true e k = or_left (t g) (list_any t es) (ap t (λ i. (sym (tied_same p g.0 e) i, same_some g.1 change k i)) ∙ h)
    by later false e k = or_right (t g) (list_any t es) (later k h)

any_more : (t s : Path × FileChange → Bool) → ((e : Path × FileChange) → t e ≡ true → s e ≡ true) → (es : Edits) → list_any t es ≡ true → list_any s es ≡ true
any_more t s more [] h = h
any_more t s more (e ∷ es) h = or_either (t e) (list_any t es) (λ k. or_left (s e) (list_any s es) (more e k)) (λ k. or_right (s e) (list_any s es) (any_more t s more es k)) h

any_either : (t s r : Path × FileChange → Bool) → ((e : Path × FileChange) → t e ≡ true → (s e ≡ true) ⊎ (r e ≡ true)) → (es : Edits) → list_any t es ≡ true → (list_any s es ≡ true) ⊎ (list_any r es ≡ true)
any_either t s r either [] h = absurd (true≢false (sym h))
any_either t s r either (e ∷ es) h = or_either (t e) (list_any t es) (λ k. first (either e k)) (λ k. later (any_either t s r either es k)) h
  where
    first : (s e ≡ true) ⊎ (r e ≡ true) → (list_any s (e ∷ es) ≡ true) ⊎ (list_any r (e ∷ es) ≡ true)
    first (inl k) = inl (or_left (s e) (list_any s es) k)
    first (inr k) = inr (or_left (r e) (list_any r es) k)

    later : (list_any s es ≡ true) ⊎ (list_any r es ≡ true) → (list_any s (e ∷ es) ≡ true) ⊎ (list_any r (e ∷ es) ≡ true)
    later (inl k) = inl (or_right (s e) (list_any s es) k)
    later (inr k) = inr (or_right (r e) (list_any r es) k)

-- ---- one edit

path_is : (p q : Path) → path_eq p q ≡ true → p ≡ q
path_is [] [] h = refl
path_is [] (k ∷ q) h = absurd (true≢false (sym h))
path_is (k ∷ p) [] h = absurd (true≢false (sym h))
path_is (k ∷ p) (m ∷ q) h = let parts = and_parts (bytes_eq k m) (path_eq p q) h in λ i. same_name k m parts.0 i ∷ path_is p q parts.1 i

path_itself : (p : Path) → path_eq p p ≡ true
path_itself [] = refl
path_itself (k ∷ p) = λ i. name_itself k i && path_itself p i

takes_decides : (p : Path) (e : Path × FileChange) → takes e p ≡ true → decides_at e.1 e.0 p ≡ true
takes_decides p (q, Set f copied) h = or_either (is_strict_prefix p q) (is_strict_prefix q p) (λ k. or_right (is_prefix q p) (is_prefix p q) (strict_parts p q k).0) (λ k. or_left (is_prefix q p) (is_prefix p q) (strict_parts q p k).0) h
takes_decides p (q, Delete) h = ap (λ x. path_eq x p) (sym (tied_same p q h)) ∙ path_itself p

decides_takes : (p : Path) (e : Path × FileChange) → decides_at e.1 e.0 p ≡ true → (takes e p ≡ true) ⊎ (brings e p ≡ true)
decides_takes p (q, Set f copied) h = or_either (is_prefix q p) (is_prefix p q) (λ k. under (is_strict_or_same q p k)) (λ k. above (is_strict_or_same p q k)) h
  where
    itself : p ≡ q → eq_by_cmp path_cmp p q ≡ true
    itself e = ap (eq_by_cmp path_cmp p) (sym e) ∙ tied_self p

    under : (p ≡ q) ⊎ (is_strict_prefix q p ≡ true) → (takes_at q p ≡ true) ⊎ (eq_by_cmp path_cmp p q ≡ true)
    under (inl e) = inr (itself e)
    under (inr k) = inl (or_right (is_strict_prefix p q) (is_strict_prefix q p) k)

    above : (q ≡ p) ⊎ (is_strict_prefix p q ≡ true) → (takes_at q p ≡ true) ⊎ (eq_by_cmp path_cmp p q ≡ true)
    above (inl e) = inr (itself (sym e))
    above (inr k) = inl (or_left (is_strict_prefix p q) (is_strict_prefix q p) k)
decides_takes p (q, Delete) h = inl (ap (eq_by_cmp path_cmp p) (path_is q p h) ∙ tied_self p)

-- ---- a changeset

-- none of its sets lies under another
lone_sets : (c : Changeset) → self_conflict c ≡ None → (p q : Path) (f g : File) → set_at c p ≡ Some f → set_at c q ≡ Some g → is_strict_prefix p q ≡ false
lone_sets c clear p q f g h k = false_from_ne_true (is_strict_prefix p q) (λ under. none_some g (sym (flat (c ∷ []) (clear, tt) p q f under (in_tree p f h)) ∙ in_tree q g k))
  where
    in_tree : (x : Path) (f : File) → set_at c x ≡ Some f → tree (c ∷ []) x ≡ Some f
    in_tree x f at = one_more [] c x ∙ ap (λ b. cond b (set_at c x) (tree [] x)) (set_decides c x x f at (or_left (is_prefix x x) (is_prefix x x) (prefix_self x))) ∙ at

module _ (c : Known) (first second : Past) (right : IsRight (At c first second)) where
  abbrev es : Edits
  es = c.changeset.changes

  abbrev now : Past
  now = At c first second

  rise : is_sorted path_cmp es ≡ true
  rise = changes_rise c.changeset right.resolved.0.rules

  taken_is_decided : (p : Path) → list_any (λ e. takes e p) es ≡ true → decides c.changeset p ≡ true
  taken_is_decided p h = any_more (λ e. takes e p) (λ e. decides_at e.1 e.0 p) (takes_decides p) es h

  set_here : (p : Path) → list_any (λ e. brings e p) es ≡ true → is_some (set_at c.changeset p) ≡ true
  set_here p h = by (found_edit (λ e. brings e p) es rise h)
    where
      by : IsFoundEdit (λ e. brings e p) es → is_some (set_at c.changeset p) ≡ true
      by ((q, Set f copied), k, found) = ap (λ x. is_some (set_at c.changeset x)) (tied_same p q k) ∙ ap (λ o. is_some (option_and_then file_of o)) found
      by ((q, Delete), k, found) = absurd (true≢false (sym k))

  set_brings : (p : Path) (f : File) → set_at c.changeset p ≡ Some f → list_any (λ e. brings e p) es ≡ true
  set_brings p f h = by (find_key path_cmp p es) refl h
    where
      by : (o : Option FileChange) → find_key path_cmp p es ≡ o → option_and_then file_of o ≡ Some f → list_any (λ e. brings e p) es ≡ true
      by None found k = none_some f k
      by (Some (Set g copied)) found k = any_found (λ e. brings e p) p (Set g copied) es found (tied_self p)
      by (Some Delete) found k = none_some f k

  -- what is taken away isn't set
  taken_unset : (p : Path) → list_any (λ e. takes e p) es ≡ true → (o : Option File) → set_at c.changeset p ≡ o → o ≡ None
  taken_unset p h None at = refl
  taken_unset p h (Some f) at = by (found_edit (λ e. takes e p) es rise h)
    where
      by : {P : Type 0} → IsFoundEdit (λ e. takes e p) es → P
      by ((q, Set g copied), k, found) =
          let there : set_at c.changeset q ≡ Some g = ap (option_and_then file_of) found in
          or_either (is_strict_prefix p q) (is_strict_prefix q p)
          (λ under. true_and_false (is_strict_prefix p q) under (lone_sets c.changeset right.resolved.0.clear p q f g at there))
          (λ under. true_and_false (is_strict_prefix q p) under (lone_sets c.changeset right.resolved.0.clear q p g f there at)) k
      by ((q, Delete), k, found) = none_some f (sym (ap (set_at c.changeset) (tied_same p q k) ∙ ap (option_and_then file_of) found) ∙ at)

  -- what is decided and not set is taken away
  unset_taken : (p : Path) → decides c.changeset p ≡ true → set_at c.changeset p ≡ None → list_any (λ e. takes e p) es ≡ true
  unset_taken p h at = by (any_either (λ e. decides_at e.1 e.0 p) (λ e. takes e p) (λ e. brings e p) (decides_takes p) es h)
    where
      by : (list_any (λ e. takes e p) es ≡ true) ⊎ (list_any (λ e. brings e p) es ≡ true) → list_any (λ e. takes e p) es ≡ true
      by (inl k) = k
      by (inr k) = absurd (true≢false (sym (set_here p k) ∙ ap is_some at))

  pub goes : (p : Path) → (has_file first p && list_any (λ e. takes e p) es) ≡ (is_some (tree_of first p) && is_none (tree_of now p))
  goes p = by (tree_of first p) (decides c.changeset p) refl (set_at c.changeset p) refl
    where
      by : (o : Option File) (b : Bool) → decides c.changeset p ≡ b → (s : Option File) → set_at c.changeset p ≡ s → (is_some o && list_any (λ e. takes e p) es) ≡ (is_some o && is_none (cond b s (option_or o (tree_of second p))))
      by None b d s at = refl
      by (Some f) true d None at = unset_taken p d at
      by (Some f) true d (Some g) at = false_from_ne_true (list_any (λ e. takes e p) es) (λ h. none_some g (sym (taken_unset p h (Some g) at)))
      by (Some f) false d s at = false_from_ne_true (list_any (λ e. takes e p) es) (λ h. true≢false (sym (taken_is_decided p h) ∙ d))

  -- what edits bring, and what the second parent has
  abbrev either : Path → Bool → Bool → Bool
  either p b d = b || (has_file second p && not d)

  pub come_all : (p : Path) → comes first second es p ≡ (is_none (tree_of first p) && is_some (tree_of now p))
  come_all p = by (tree_of first p) (decides c.changeset p) refl (set_at c.changeset p) refl
    where
      brought : (f : File) → set_at c.changeset p ≡ Some f → decides c.changeset p ≡ true
      brought f at = set_decides c.changeset p p f at (or_left (is_prefix p p) (is_prefix p p) (prefix_self p))

      unset : set_at c.changeset p ≡ None → list_any (λ e. brings e p) es ≡ false
      unset at = false_from_ne_true (list_any (λ e. brings e p) es) (λ h. true≢false (sym (set_here p h) ∙ ap is_some at))

      by : (o : Option File) (b : Bool) → decides c.changeset p ≡ b → (s : Option File) → set_at c.changeset p ≡ s →
          (not (is_some o) && either p (list_any (λ e. brings e p) es) (decides c.changeset p)) ≡ (is_none o && is_some (cond b s (option_or o (tree_of second p))))
      by (Some f) b d s at = refl
      by None true d (Some g) at = ap (λ b. either p b (decides c.changeset p)) (set_brings p g at)
      by None true d None at = (λ i. either p (unset at i) (d i)) ∙ and_false (has_file second p)
      by None false d (Some g) at = absurd (true≢false (sym (brought g at) ∙ d))
      by None false d None at = (λ i. either p (unset at i) (d i)) ∙ and_true (has_file second p)

  pub files_are : (gone come : List Path) → Adds (λ p. has_file first p && list_any (λ e. takes e p) es) [] gone → Adds (comes first second es) [] come → AreComeAndGone c first second gone come
  files_are gone come went came = record {
    went = λ p. went p ∙ goes p;
    came = λ p. came p ∙ come_all p;
  }
