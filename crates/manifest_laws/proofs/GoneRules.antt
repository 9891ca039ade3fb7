-- The deleted nodes of a known changeset can be counted and spelled.
use Rattle.std.proofs.Common.{◌≡◌, ℕ, zero, suc, ◌*◌, ◌^◌, ◌<◌, ◌≤◌, Bool, true, false, cond, ◌&&◌, List, [], ◌∷◌, map, length, reverse, refl, sym, ap, subst, ◌∙◌, arith}
use Rattle.std.specs.Prelude.{bytes_eq, Option, Some, None, filter_map, is_some, is_none, option_map, drop}
use mathlib.Core.Bool.{true≢false}
use Rattle.std.specs.List.{AllByRecursion, list_all, cons_option, dedup}
use Rattle.std.specs.Option.{option_to_list}
use Rattle.std.specs.Ordering.{eq_by_cmp}
use Rattle.std.specs.FinMap.{is_sorted, find as find_key}
use Rattle.std.specs.FinMap.Entries.{below_all}
use Rattle.std.proofs.lemmas.List.{length-map}
use Rattle.byte_fields.specs.Bytes.{Id, is_bytes}
use Rattle.byte_fields.proofs.Lists.{weaker, all_reverse}
use Rattle.byte_fields.proofs.Booleans.{same_some}
use Rattle.changeset_model.specs.Path.{Path, path_cmp, path_lt, is_element, is_prefix, rising}
use Rattle.changeset_model.specs.Changeset.{File, Regular, touched_paths}
use Rattle.changeset_model.proofs.Rising.{IsRising-rising}
use Rattle.history_model.specs.History.{Entry, Known, with_id, known}
use Rattle.history_model.specs.Past.{Past, Begin, At, past, changesets_of as reached_by}
use Rattle.history_model.specs.Tree.{tree_of, file_at, below, names, first_element}
use Rattle.history_model.specs.Journal.{size}
use Rattle.manifest_model.specs.Fsnode.{are_entries}
use Rattle.manifest_model.specs.Deleted.{DeletedNode, deleted_bytes, deleted_id, is_deleted, deleted_at, last_deletion, deletions, deleted_within, node_in, deleted}
use Rattle.manifest_model.proofs.Derivations.{among, rising_has}
use Rattle.manifest_model.proofs.Deletions.{deletion_found, deletions_rise}
use Rattle.manifest_laws.specs.Bounds.{changesets_of, ChangesetsKeepRules}
use Rattle.manifest_laws.specs.Rules.{AreFiles}
use Rattle.manifest_laws.proofs.Under.{Files}
use Rattle.manifest_laws.proofs.Names.{Name, keyed}
use Rattle.manifest_laws.proofs.Changes.{same_files, filed_rise}
use Rattle.manifest_laws.proofs.Lists.{fewer_mapped}
use Rattle.manifest_laws.proofs.Rules.{is_id, files_below, entries_kept, all_keyed}
use Rattle.manifest_laws.proofs.Bounds.{IsRight, history_long, all_once, with_file, set_paths, found_in, sets_counted, fewer_rising, ids_known, FileRules, rules_filed, sizes_bounded}
use Rattle.manifest_laws.proofs.PastBounds.{AllOf, among_all, past_all, SetsAmong, set_in_past, sets_of_past, rules_past}

abbrev Gone : Type 0
Gone = List (Path × Id)

-- ---- what is taken away, as files without bytes

abbrev as_file : Id → File
as_file x = record { content = x; kind = Regular; size = 0 }

abbrev as_files : Gone → Files
as_files gone = map (λ e. (e.0, as_file e.1)) gone

names_as : (gone : Gone) → filter_map (λ f. first_element f.0) (as_files gone) ≡ filter_map (λ e. first_element e.0) gone
names_as [] = refl
names_as (e ∷ gone) = ap (cons_option (first_element e.0)) (names_as gone)

below_as : (d : Path) (gone : Gone) → below d (as_files gone) ≡ as_files (below d gone)
below_as d [] = refl
below_as d (e ∷ gone) = by (is_prefix d e.0) (below_as d gone)
  where
    by : (b : Bool) → below d (as_files gone) ≡ as_files (below d gone) → cons_option (cond b (Some (drop (length d) e.0, as_file e.1)) None) (below d (as_files gone)) ≡ as_files (cons_option (cond b (Some (drop (length d) e.0, e.1)) None) (below d gone))
    by true h = ap (λ (fs : Files). (drop (length d) e.0, as_file e.1) ∷ fs) h
    by false h = h

lower_as : (p : Path) (gone : Gone) → below_all path_cmp p (as_files gone) ≡ below_all path_cmp p gone
lower_as p [] = refl
lower_as p (e ∷ gone) = ap (λ b. path_lt p e.0 && b) (lower_as p gone)

sorted_as : (gone : Gone) → is_sorted path_cmp (as_files gone) ≡ is_sorted path_cmp gone
sorted_as [] = refl
sorted_as (e ∷ gone) = λ i. lower_as e.0 gone i && sorted_as gone i

found_as_by : (e : Path × Id) (gone : Gone) (p : Path) → file_at (as_files gone) p ≡ option_map as_file (find_key path_cmp p gone) → (b : Bool) → cond b (Some (as_file e.1)) (file_at (as_files gone) p) ≡ option_map as_file (cond b (Some e.1) (find_key path_cmp p gone))
found_as_by e gone p h true = refl
found_as_by e gone p h false = h

found_as : (gone : Gone) (p : Path) → file_at (as_files gone) p ≡ option_map as_file (find_key path_cmp p gone)
found_as [] p = refl
found_as (e ∷ gone) p = found_as_by e gone p (found_as gone p) (eq_by_cmp path_cmp p e.0)

-- ---- a node

link_by : (e : Path × Id) (rest : Option Id) → is_bytes 32 e.1 ≡ true → list_all (is_bytes 32) (option_to_list rest) ≡ true → (b : Bool) → list_all (is_bytes 32) (option_to_list (cond b (Some e.1) rest)) ≡ true
link_by e rest h later true = λ i. h i && true
link_by e rest h later false = later

link_kept : (p : Path) (gone : Gone) → AllByRecursion (λ f. is_bytes 32 f.1.content ≡ true) (as_files gone) → list_all (is_bytes 32) (option_to_list (find_key path_cmp p gone)) ≡ true
link_kept p [] all = refl
link_kept p (e ∷ gone) all = link_by e (find_key path_cmp p gone) all.0 (link_kept p gone all.1) (eq_by_cmp path_cmp p e.0)

ids_kept : (node : Name → DeletedNode) (ns : List Name) → list_all (λ n. is_bytes 32 (deleted_id (node n))) ns ≡ true
ids_kept node [] = refl
ids_kept node (n ∷ ns) = λ i. is_id (deleted_bytes (node n)) i && ids_kept node ns i

within_kept : (n : ℕ) (gone : Gone) → AreFiles (as_files gone) → is_deleted (deleted_within n gone) ≡ true
within_kept zero gone are = λ i. (link_kept [] gone are.with_ids i && true) && true
within_kept (suc n) gone are =
    let node : Name → DeletedNode = λ name. deleted_within n (below (name ∷ []) gone) in
    let entries : are_entries (keyed (λ name. deleted_id (node name)) (names gone)) ≡ true =
    ap (λ ns. are_entries (keyed (λ name. deleted_id (node name)) (dedup bytes_eq ns))) (sym (names_as gone)) ∙ entries_kept (λ name. deleted_id (node name)) (as_files gone) are
    in
    (λ i. (link_kept [] gone are.with_ids i && entries i) && all_keyed (λ name. deleted_id (node name)) (λ e. is_bytes 32 e.1) (names gone) (ids_kept node (names gone)) i)

node_kept : (gone : Gone) (d : Path) → AreFiles (as_files gone) → is_deleted (node_in gone d) ≡ true
node_kept gone d are = within_kept _ (below d gone) (subst AreFiles (below_as d gone) (files_below (as_files gone) d are))

-- ---- what was taken away from a past

of_deletion : {P : Type 0} (x y : Id) (new : Bool) (old : Option File) (last : Option Id) → ((f : File) → old ≡ Some f → y ≡ x → P) → (last ≡ Some x → P) → cond (is_some old && new) (Some y) last ≡ Some x → P
of_deletion x y true (Some f) last here later h = here f refl (same_some y x h)
of_deletion x y false (Some f) last here later h = later h
of_deletion x y new None last here later h = later h

abbrev pub HasDigest : Known → Type 0
HasDigest k = is_bytes 32 k.id ≡ true

deletion_rules : (past : Past) → AllOf (λ k. IsRight k.changeset) past → AllOf HasDigest past → (p : Path) (x : Id) → last_deletion past p ≡ Some x → FileRules p (as_file x)
deletion_rules Begin right ids p x h = absurd cc
deletion_rules (At c first second) right ids p x h =
    of_deletion x c.id (is_none (tree_of (At c first second) p)) (tree_of first p) (last_deletion first p)
    (λ f was same. (let rules = rules_past first right.1 p f was in record {
      path = rules.path;
      named = rules.named;
      with_id = ap (is_bytes 32) (sym same) ∙ ids.0;
      small = omega arith;
    }))
    (deletion_rules first right.1 ids.1 p x) h

deletion_set : (h : List Entry) (past : Past) → AllOf (λ k. SetsAmong (changesets_of h) k.changeset) past → (p : Path) (x : Id) → last_deletion past p ≡ Some x → among p (set_paths (changesets_of h)) ≡ true
deletion_set h Begin sets p x e = absurd cc
deletion_set h (At c first second) sets p x e =
    of_deletion x c.id (is_none (tree_of (At c first second) p)) (tree_of first p) (last_deletion first p) (λ f was _. set_in_past (changesets_of h) first sets.1 p f was) (deletion_set h first sets.1 p x) e

last_of_deleted : (past : Past) (p : Path) (x : Id) (o : Option File) → cond (is_some o) None (last_deletion past p) ≡ Some x → last_deletion past p ≡ Some x
last_of_deleted past p x None e = e
last_of_deleted past p x (Some f) e = absurd cc

-- the files that stand for it, by their paths
abbrev taken : Past → Path → Option File
taken past p = option_map as_file (deleted_at past p)

was_deleted : (o : Option Id) (f : File) → option_map as_file o ≡ Some f → (x : Id) × (o ≡ Some x) × (as_file x ≡ f)
was_deleted None f h = absurd cc
was_deleted (Some x) f h = (x, refl, same_some (as_file x) f h)

as_filed : (t : Path → Option Id) (ps : List Path) → as_files (filter_map (λ p. option_map (λ x. (p, x)) (t p)) ps) ≡ filter_map (with_file (λ p. option_map as_file (t p))) ps
as_filed t [] = refl
as_filed t (p ∷ ps) = by (t p) (as_filed t ps)
  where
    by : (o : Option Id) → as_files (filter_map (λ p. option_map (λ x. (p, x)) (t p)) ps) ≡ filter_map (with_file (λ p. option_map as_file (t p))) ps → as_files (cons_option (option_map (λ x. (p, x)) o) (filter_map (λ p. option_map (λ x. (p, x)) (t p)) ps)) ≡ cons_option (option_map (λ f. (p, f)) (option_map as_file o)) (filter_map (with_file (λ p. option_map as_file (t p))) ps)
    by None h = h
    by (Some x) h = ap (λ (fs : Files). (p, as_file x) ∷ fs) h

module _ (h : List Entry) (x : Id) (all : ChangesetsKeepRules h) where
  abbrev its_past : Past
  its_past = past (known h) x

  pub digests : AllOf HasDigest its_past
  digests = among_all HasDigest (reverse (known h)) (all_reverse HasDigest (known h) (all_once HasDigest (map with_id (changesets_of h)) (ids_known (changesets_of h)))) x

  taken_rules : (p : Path) (f : File) → taken its_past p ≡ Some f → FileRules p f
  taken_rules p f e =
      let was = was_deleted (deleted_at its_past p) f e in
      subst (FileRules p) was.2 (deletion_rules its_past (past_all IsRight h x all) digests p was.0 (last_of_deleted its_past p was.0 (tree_of its_past p) was.1))

  all_rules : AllByRecursion (λ f. FileRules f.0 f.1) (as_files (deletions its_past))
  all_rules = subst (AllByRecursion (λ (f : Path × File). FileRules f.0 f.1)) (sym (as_filed (deleted_at its_past) (touched_paths (reached_by its_past)))) (rules_filed (taken its_past) taken_rules (touched_paths (reached_by its_past)))

  nothing_by : (p : Path) (b : Bool) → among p (rising (set_paths (changesets_of h))) ≡ b → (o : Option Id) → deleted_at its_past p ≡ o → cond b (taken its_past p) None ≡ taken its_past p
  nothing_by p true e o at = refl
  nothing_by p false e None at = sym (ap (option_map as_file) at)
  nothing_by p false e (Some y) at = absurd (true≢false (sym (rising_has p (set_paths (changesets_of h)) (deletion_set h its_past (sets_of_past h x) p y (last_of_deleted its_past p y (tree_of its_past p) at))) ∙ e))

  by_sets : as_files (deletions its_past) ≡ filter_map (with_file (taken its_past)) (rising (set_paths (changesets_of h)))
  by_sets =
      same_files (as_files (deletions its_past)) (filter_map (with_file (taken its_past)) (rising (set_paths (changesets_of h))))
      (sorted_as (deletions its_past) ∙ deletions_rise its_past) (filed_rise (taken its_past) (rising (set_paths (changesets_of h))) (IsRising-rising (set_paths (changesets_of h))))
      (λ p. found_as (deletions its_past) p ∙ ap (option_map as_file) (deletion_found its_past p) ∙ sym (found_in (taken its_past) p (rising (set_paths (changesets_of h))) ∙ nothing_by p (among p (rising (set_paths (changesets_of h)))) refl (deleted_at its_past p) refl))

  as_bounded : 45 * length (as_files (deletions its_past)) ≤ size h
  as_bounded =
      let a : length (as_files (deletions its_past)) ≡ length (filter_map (with_file (taken its_past)) (rising (set_paths (changesets_of h)))) = ap length by_sets in
      let b = fewer_mapped (with_file (taken its_past)) (rising (set_paths (changesets_of h))) in
      let c = fewer_rising (set_paths (changesets_of h)) in
      let d = sets_counted (changesets_of h) in
      let e = history_long h all in
      omega (arith, a, b, c, d, e)

  pub deletions_bounded : 45 * length (deletions its_past) ≤ size h
  deletions_bounded = let a = length-map {B = Path × File} (deletions its_past) (λ (e : Path × Id). (e.0, as_file e.1)) in let b = as_bounded in omega (arith, a, b)

  are_gone : size h < 2 ^ 36 → AreFiles (as_files (deletions its_past))
  are_gone small =
      let a = as_bounded in
      let b = sizes_bounded (as_files (deletions its_past)) all_rules in
      record {
        rising = sorted_as (deletions its_past) ∙ deletions_rise its_past;
        named = weaker (λ (f : Path × File). FileRules f.0 f.1) (λ f. list_all is_element f.0 ≡ true) (λ f g. g.named) (as_files (deletions its_past)) all_rules;
        with_ids = weaker (λ (f : Path × File). FileRules f.0 f.1) (λ f. is_bytes 32 f.1.content ≡ true) (λ f g. g.with_id) (as_files (deletions its_past)) all_rules;
        few = omega (arith, a);
        small = omega (arith, a, b);
      }

  pub deleted_kept : (d : Path) → size h < 2 ^ 36 → is_deleted (deleted its_past d) ≡ true
  deleted_kept d small = node_kept (deletions its_past) d (are_gone small)
