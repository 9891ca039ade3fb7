-- What stands before and after a path among files in order.
--     front q es      the files under q at the front of es
use Rattle.std.proofs.Common.{◌≡◌, Bool, true, false, cond, ◌&&◌, ◌⊎◌, inl, inr, None, List, [], ◌∷◌, refl, sym, ap, ◌∙◌}
use Rattle.std.specs.Prelude.{filter, is_some}
use Rattle.std.specs.List.{AllByRecursion}
use Rattle.std.specs.List.Sorted.{IsStrictlySortedBy}
use Rattle.std.specs.Map.{keys_of}
use Rattle.std.specs.declared.cmp.Ordering.TheVariants.{Less}
use Rattle.std.specs.declared.ops.Bound.TheVariants.{Excluded, Unbounded}
use Rattle.std.specs.BTreeMap.{BTreeMap, get}
use Rattle.std.specs.BTreeMap.Range.{entries_between, IsInRange, IsEntryInRange}
use Rattle.std.specs.Ordering.{is_lt}
use Rattle.std.proofs.lemmas.Bool.{false_from_ne_true}
use Rattle.std.proofs.lemmas.Map.Keys.{sorted_head, sorted_tail}
use Rattle.changeset_model.specs.Path.{Path, path_cmp, path_lt, path_eq, is_strict_prefix}
use Rattle.changeset_model.proofs.Paths.{path_lt_or}
use Rattle.bonsai.proofs.Between.{under_between, under_is_more}
use Rattle.changeset_model.proofs.Rising.{less_of}
use Rattle.tree_fold.specs.declared.file.File.{File}
use Rattle.tree_fold.specs.Fold.{IsFlat, file_in}
use Rattle.tree_fold.proofs.Files.{same_path, path_eq_itself, is_some-file_in}
use Rattle.history_model.proofs.Clashes.{not_both as clash}

abbrev pub front : Path → List (Path × File) → List (Path × File)
front q [] = []
front q (e ∷ es) = cond (is_strict_prefix q e.0) (e ∷ front q es) []

abbrev under : Path → List (Path × File) → List (Path × File)
under q es = filter (λ e. is_strict_prefix q e.0) es

-- behind a path that isn't under q, and comes after it, nothing is
none_later : (q k : Path) (es : List (Path × File)) → is_strict_prefix q k ≡ false → path_lt q k ≡ true → AllByRecursion (λ y. path_cmp k y ≡ Less) (keys_of es) → under q es ≡ []
none_later q k [] away low all = refl
none_later q k (e ∷ es) away low all =
    let apart : is_strict_prefix q e.0 ≡ false = false_from_ne_true (is_strict_prefix q e.0) (λ u. clash (is_strict_prefix q k) (under_between q k e.0 u low (ap is_lt all.0)) away) in
    ap (λ b. cond b (e ∷ under q es) (under q es)) apart ∙ none_later q k es away low all.1

after_by : (q : Path) (e : Path × File) (es : List (Path × File)) → IsStrictlySortedBy path_cmp (keys_of (e ∷ es)) → front q (entries_between path_cmp (Excluded q) Unbounded es) ≡ under q es → (u l : Bool) → is_strict_prefix q e.0 ≡ u → path_lt q e.0 ≡ l → front q (cond (l && true) (e ∷ entries_between path_cmp (Excluded q) Unbounded es) (entries_between path_cmp (Excluded q) Unbounded es)) ≡ cond u (e ∷ under q es) (under q es)
after_by q e es rises ih true true is low = ap (λ b. cond b (e ∷ front q (entries_between path_cmp (Excluded q) Unbounded es)) []) is ∙ ap (λ fs. e ∷ fs) ih
after_by q e es rises ih true false is low = absurd (clash (path_lt q e.0) (under_is_more q e.0 is) low)
after_by q e es rises ih false true is low =
    ap (λ b. cond b (e ∷ front q (entries_between path_cmp (Excluded q) Unbounded es)) []) is
    ∙ sym (none_later q e.0 es is low (sorted_head path_cmp e.0 (keys_of es) rises))
after_by q e es rises ih false false is low = ih

-- the files under q are those at the front of what comes after q
pub front-after : (q : Path) (es : List (Path × File)) → IsStrictlySortedBy path_cmp (keys_of es) → front q (entries_between path_cmp (Excluded q) Unbounded es) ≡ under q es
front-after q [] rises = refl
front-after q (e ∷ es) rises = after_by q e es rises (front-after q es (sorted_tail path_cmp e.0 (keys_of es) rises)) (is_strict_prefix q e.0) (path_lt q e.0) refl refl

-- ---- above a path

both_false : (a s : Bool) → (a ≡ true → s ≡ true → ⊥) → false ≡ (a && s)
both_false true true not_both = absurd (not_both refl refl)
both_false true false not_both = refl
both_false false s not_both = refl

present : (m : BTreeMap Path File) (p : Path) → is_some (file_in m p) ≡ true → is_some (get path_cmp m p) ≡ true
present m p h = sym (is_some-file_in m p) ∙ h

-- where no present path comes before q, none is above it
pub none_above : (m : BTreeMap Path File) (q : Path) → ((p : Path) → IsInRange path_cmp Unbounded (Excluded q) p → get path_cmp m p ≡ None) → (p : Path) → false ≡ (is_strict_prefix p q && is_some (file_in m p))
none_above m q none p = both_false (is_strict_prefix p q) (is_some (file_in m p)) (λ above here. clash (is_some (get path_cmp m p)) (present m p here) (ap is_some (none p (tt, less_of (path_cmp p q) (under_is_more p q above)))))

record IsLast (m : BTreeMap Path File) (q k : Path) : Type 0 where
  flat : IsFlat m.entries
  lower : path_lt k q ≡ true
  here : is_some (get path_cmp m k) ≡ true
  last : (p : Path) → is_strict_prefix p q ≡ true → is_some (get path_cmp m p) ≡ true → is_lt (path_cmp k p) ≡ false

-- what is above q and present is the last path before it
only_last : (m : BTreeMap Path File) (q k : Path) → IsLast m q k → (p : Path) → is_strict_prefix p q ≡ true → is_some (get path_cmp m p) ≡ true → (p ≡ k → ⊥) → ⊥
only_last m q k l p above here other = by (path_lt_or p k other)
  where
    by : (path_lt p k ≡ true) ⊎ (path_lt k p ≡ true) → ⊥
    by (inl low) = clash (is_strict_prefix p k) (under_between p k q above low l.lower) (l.flat p k here l.here)
    by (inr high) = clash (path_lt k p) high (l.last p above here)

last_by : (m : BTreeMap Path File) (q k : Path) → IsLast m q k → (p : Path) → (b e : Bool) → is_strict_prefix k q ≡ b → path_eq k p ≡ e → (b && e) ≡ (is_strict_prefix p q && is_some (file_in m p))
last_by m q k l p true true is same =
    let there : is_some (file_in m p) ≡ true = is_some-file_in m p ∙ ap (λ r. is_some (get path_cmp m r)) (sym (same_path k p same)) ∙ l.here in
    let above : is_strict_prefix p q ≡ true = ap (λ r. is_strict_prefix r q) (sym (same_path k p same)) ∙ is in
    (λ i. sym above i && sym there i)
last_by m q k l p true false is same = both_false (is_strict_prefix p q) (is_some (file_in m p)) (λ above here. only_last m q k l p above (present m p here) (λ e. clash (path_eq k p) (ap (path_eq k) e ∙ path_eq_itself k) same))
last_by m q k l p false e is same = both_false (is_strict_prefix p q) (is_some (file_in m p)) (λ above here. only_last m q k l p above (present m p here) (λ e. clash (is_strict_prefix k q) (ap (λ r. is_strict_prefix r q) (sym e) ∙ above) is))

pub last_above : (m : BTreeMap Path File) (q : Path) (e : Path × File) → IsFlat m.entries → IsEntryInRange path_cmp Unbounded (Excluded q) m e → ((p : Path) → IsInRange path_cmp Unbounded (Excluded q) p → is_some (get path_cmp m p) ≡ true → is_lt (path_cmp e.0 p) ≡ false) → (b : Bool) → is_strict_prefix e.0 q ≡ b → (p : Path) → (b && path_eq e.0 p) ≡ (is_strict_prefix p q && is_some (file_in m p))
last_above m q e flat entry last b is p = last_by m q e.0 (record {
  flat = flat;
  lower = ap is_lt entry.0.1;
  here = ap is_some entry.1;
  last = λ p above here. last p (tt, less_of (path_cmp p q) (under_is_more p q above)) here;
}) p b (path_eq e.0 p) is refl
