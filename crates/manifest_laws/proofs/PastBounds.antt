-- The files of a tree with merges take 45 bytes of the journal each too, and keep the rules.
use Rattle.std.proofs.Common.{◌≡◌, ◌*◌, ◌^◌, ◌<◌, ◌≤◌, Bool, true, false, cond, List, [], ◌∷◌, map, length, reverse, refl, sym, ap, ◌∙◌, arith}
use Rattle.std.specs.Prelude.{Option, Some, None, filter_map, bytes_eq}
use mathlib.Core.Bool.{true≢false}
use Rattle.std.specs.List.{AllByRecursion, list_all}
use Rattle.std.specs.Option.{option_map_or, option_or}
use Rattle.std.specs.Ordering.{eq_by_cmp}
use Rattle.std.proofs.lemmas.List.Folds.{list_any-append}
use Rattle.byte_fields.specs.Bytes.{Id, is_bytes}
use Rattle.byte_fields.proofs.Lists.{weaker, all_reverse}
use Rattle.changeset_model.specs.Path.{Path, path_cmp, is_element, rising}
use Rattle.changeset_model.specs.Changeset.{File, Changeset, set_at, sets_of, touched_paths, most_size}
use Rattle.changeset_model.proofs.Rising.{IsRising-rising, touched_paths_rise}
use Rattle.history_model.specs.History.{Entry, Known, with_id, known}
use Rattle.history_model.specs.Chain.{first_parent}
use Rattle.history_model.specs.Past.{Past, Begin, At, second_of, past_among, past, changesets_of as reached_by}
use Rattle.history_model.specs.Tree.{decides, tree_of, files_in, files_of}
use Rattle.history_model.specs.Journal.{size}
use Rattle.history_model.proofs.Landings.{or_true as or_right, or_left}
use Rattle.manifest_model.specs.Fsnode.{total_size}
use Rattle.manifest_model.proofs.Derivations.{among, rising_has}
use Rattle.manifest_model.proofs.Deletions.{file_at-files_in}
use Rattle.manifest_laws.specs.Bounds.{changesets_of, ChangesetsKeepRules}
use Rattle.manifest_laws.specs.Rules.{AreFiles}
use Rattle.manifest_laws.proofs.Totals.{total}
use Rattle.manifest_laws.proofs.Changes.{same_files, filed_rise}
use Rattle.manifest_laws.proofs.Lists.{none_some, fewer_mapped}
use Rattle.manifest_laws.proofs.Bounds.{weight, IsRight, history_long, all_once, all_with_id, with_file, set_paths, found_in, set_among, sets_counted, fewer_rising, FileRules, rules_in, changes_of, rules_filed, sizes_bounded}

-- ---- all of a past

abbrev pub AllOf : (Known → Type 0) → Past → Type 0
AllOf P Begin = Unit {0}
AllOf P (At k first second) = P k × AllOf P first × AllOf P second

of_parent : (P : Known → Type 0) (older : List Known) → ((x : Id) → AllOf P (past_among older x)) → (o : Option Id) → AllOf P (option_map_or (past_among older) o Begin)
of_parent P older all None = tt
of_parent P older all (Some x) = all x

past_by : (P : Known → Type 0) (k : Known) (older : List Known) (x : Id) → P k → ((x : Id) → AllOf P (past_among older x)) → (b : Bool) → AllOf P (cond b (At k (option_map_or (past_among older) (first_parent k.changeset) Begin) (option_map_or (past_among older) (second_of k.changeset.parents) Begin)) (past_among older x))
past_by P k older x here all true = (here, of_parent P older all (first_parent k.changeset), of_parent P older all (second_of k.changeset.parents))
past_by P k older x here all false = all x

pub among_all : (P : Known → Type 0) (ks : List Known) → AllByRecursion P ks → (x : Id) → AllOf P (past_among ks x)
among_all P [] all x = tt
among_all P (k ∷ older) all x = past_by P k older x all.0 (among_all P older all.1) (bytes_eq k.id x)

pub past_all : (P : Changeset → Type 0) (h : List Entry) (x : Id) → AllByRecursion P (changesets_of h) → AllOf (λ k. P k.changeset) (past (known h) x)
past_all P h x all = let Q : Known → Type 0 = λ k. P k.changeset in among_all Q (reverse (known h)) (all_reverse Q (known h) (all_once Q (map with_id (changesets_of h)) (all_with_id P (changesets_of h) all))) x

-- ---- a file of the tree was set by one of its changesets

module _ {P : Type 0} (k : Known) (first second : Past) (p : Path) (f : File) (here : set_at k.changeset p ≡ Some f → P) (left : tree_of first p ≡ Some f → P) (right : tree_of second p ≡ Some f → P) where
  from_parents : (o : Option File) → tree_of first p ≡ o → option_or o (tree_of second p) ≡ Some f → P
  from_parents None e h = right h
  from_parents (Some g) e h = left (e ∙ h)

  pub from_either : (b : Bool) → cond b (set_at k.changeset p) (option_or (tree_of first p) (tree_of second p)) ≡ Some f → P
  from_either true h = here h
  from_either false h = from_parents (tree_of first p) refl h

-- the sets of this changeset are among those of others
abbrev pub SetsAmong : List Changeset → Changeset → Type 0
SetsAmong all c = (p : Path) (f : File) → set_at c p ≡ Some f → among p (set_paths all) ≡ true

pub each_among : (cs : List Changeset) → AllByRecursion (SetsAmong cs) cs
each_among [] = tt
each_among (c ∷ cs) = (
  λ p f h. list_any-append (eq_by_cmp path_cmp p) (map (λ f. f.0) (sets_of c)) (set_paths cs) ∙ or_left (among p (map (λ f. f.0) (sets_of c))) (among p (set_paths cs)) (set_among p f c.changes h),
  weaker (SetsAmong cs) (SetsAmong (c ∷ cs)) (λ d all p f h. list_any-append (eq_by_cmp path_cmp p) (map (λ f. f.0) (sets_of c)) (set_paths cs) ∙ or_right (among p (map (λ f. f.0) (sets_of c))) (among p (set_paths cs)) (all p f h)) cs (each_among cs),
)

module _ (all : List Changeset) where
  pub set_in_past : (past : Past) → AllOf (λ k. SetsAmong all k.changeset) past → (p : Path) (f : File) → tree_of past p ≡ Some f → among p (set_paths all) ≡ true
  set_in_past Begin sets p f h = none_some f h
  set_in_past (At k first second) sets p f h =
      from_either k first second p f (sets.0 p f) (set_in_past first sets.1 p f) (set_in_past second sets.2 p f) (decides k.changeset p) h

  nothing_by : (past : Past) → AllOf (λ k. SetsAmong all k.changeset) past → (p : Path) (b : Bool) → among p (rising (set_paths all)) ≡ b → (o : Option File) → tree_of past p ≡ o → cond b (tree_of past p) None ≡ tree_of past p
  nothing_by past sets p true e o at = refl
  nothing_by past sets p false e None at = sym at
  nothing_by past sets p false e (Some f) at = absurd (true≢false (sym (rising_has p (set_paths all) (set_in_past past sets p f at)) ∙ e))

  files_by_sets : (past : Past) → AllOf (λ k. SetsAmong all k.changeset) past → files_in past ≡ filter_map (with_file (tree_of past)) (rising (set_paths all))
  files_by_sets past sets =
      same_files (files_in past) (filter_map (with_file (tree_of past)) (rising (set_paths all))) (filed_rise (tree_of past) (touched_paths (reached_by past)) (touched_paths_rise (reached_by past))) (filed_rise (tree_of past) (rising (set_paths all)) (IsRising-rising (set_paths all)))
      (λ p. file_at-files_in past p ∙ sym (found_in (tree_of past) p (rising (set_paths all)) ∙ nothing_by past sets p (among p (rising (set_paths all))) refl (tree_of past p) refl))

  pub files_light : (past : Past) → AllOf (λ k. SetsAmong all k.changeset) past → 45 * length (files_in past) ≤ total weight all
  files_light past sets =
      let a : length (files_in past) ≡ length (filter_map (with_file (tree_of past)) (rising (set_paths all))) = ap length (files_by_sets past sets) in
      let b = fewer_mapped (with_file (tree_of past)) (rising (set_paths all)) in
      let c = fewer_rising (set_paths all) in
      let d = sets_counted all in
      omega (arith, a, b, c, d)

pub sets_of_past : (h : List Entry) (x : Id) → AllOf (λ k. SetsAmong (changesets_of h) k.changeset) (past (known h) x)
sets_of_past h x = past_all (SetsAmong (changesets_of h)) h x (each_among (changesets_of h))

pub past_files_bounded : (h : List Entry) (x : Id) → ChangesetsKeepRules h → 45 * length (files_of (known h) x) ≤ size h
past_files_bounded h x all =
    let a = files_light (changesets_of h) (past (known h) x) (sets_of_past h x) in
    let b = history_long h all in
    omega (arith, a, b)

-- ---- each keeps the rules

pub rules_past : (past : Past) → AllOf (λ k. IsRight k.changeset) past → (p : Path) (f : File) → tree_of past p ≡ Some f → FileRules p f
rules_past Begin right p f h = none_some f h
rules_past (At k first second) right p f h =
    from_either k first second p f (λ g. rules_in k.changeset.version (length k.changeset.parents) p f k.changeset.changes (changes_of k.changeset right.0) g) (rules_past first right.1 p f) (rules_past second right.2 p f) (decides k.changeset p) h

pub past_rules : (h : List Entry) (x : Id) → ChangesetsKeepRules h → AllByRecursion (λ f. FileRules f.0 f.1) (files_of (known h) x)
past_rules h x all = rules_filed (tree_of (past (known h) x)) (rules_past (past (known h) x) (past_all IsRight h x all)) (touched_paths (reached_by (past (known h) x)))

pub past_total_bounded : (h : List Entry) (x : Id) → ChangesetsKeepRules h → total_size (files_of (known h) x) ≤ most_size * length (files_of (known h) x)
past_total_bounded h x all = sizes_bounded (files_of (known h) x) (past_rules h x all)

pub past_files_few : (h : List Entry) (x : Id) → ChangesetsKeepRules h → size h ≤ 34_359_738_368 → length (files_of (known h) x) < 2 ^ 30
past_files_few h x all small = let a = past_files_bounded h x all in omega (arith, a)

pub past_files_counted : (h : List Entry) (x : Id) → ChangesetsKeepRules h → size h < 2 ^ 36 → AreFiles (files_of (known h) x)
past_files_counted h x all small =
    let p = past (known h) x in
    let good = past_rules h x all in
    let a = past_files_bounded h x all in
    let b = past_total_bounded h x all in
    record {
      rising = filed_rise (tree_of p) (touched_paths (reached_by p)) (touched_paths_rise (reached_by p));
      named = weaker (λ (f : Path × File). FileRules f.0 f.1) (λ f. list_all is_element f.0 ≡ true) (λ f g. g.named) (files_of (known h) x) good;
      with_ids = weaker (λ (f : Path × File). FileRules f.0 f.1) (λ f. is_bytes 32 f.1.content ≡ true) (λ f g. g.with_id) (files_of (known h) x) good;
      few = omega (arith, a);
      small = omega (arith, a, b);
    }
