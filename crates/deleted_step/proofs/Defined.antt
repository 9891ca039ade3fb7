-- Deleted nodes by the definitions: where one is there, and how its entries stand.
use Rattle.std.proofs.Common.{◌≡◌, Bool, true, false, cond, ◌||◌, List, [], ◌∷◌, ◌++◌, map, length, refl, sym, ap, ◌∙◌, append-nil, arith}
use Rattle.std.specs.Prelude.{Option, None, Some, bytes_eq, drop, filter_map, is_some, option_map, ◌==◌}
use mathlib.Core.Bool.{true≢false}
use Rattle.std.specs.List.{cons_option, dedup, dedup_from, list_any}
use Rattle.std.specs.FinMap.{find as find_key, is_sorted}
use Rattle.std.proofs.lemmas.Bool.{ne_eqb}
use Rattle.std.proofs.lemmas.List.{length-append}
use Rattle.byte_fields.specs.Bytes.{Id}
use Rattle.changeset_model.specs.Path.{Path, is_prefix, path_cmp}
use Rattle.changeset_model.specs.Changeset.{File, Regular, touched_paths}
use Rattle.changeset_model.proofs.Rising.{touched_paths_rise}
use Rattle.history_model.specs.Past.{Past, changesets_of}
use Rattle.history_model.specs.Tree.{below, first_element, names}
use Rattle.history_model.proofs.Landings.{or_true}
use Rattle.manifest_model.specs.Deleted.{DeletedNode, deleted, deleted_at, deleted_id, deletions, has_deleted}
use Rattle.manifest_laws.proofs.Changes.{filed_rise}
use Rattle.manifest_laws.proofs.Names.{Name, below_rises, keyed, name_cmp, names_rise}
use Rattle.manifest_model.proofs.Deletions.{deletion_found}
use Rattle.deleted_node.proofs.Within.{Gone, any_below, entries_are, entry_is, found_below, link_is}
use Rattle.deleted_step.specs.Opened.{has_any, is_there}

-- ---- a node is there where something was deleted

module _ (f : Name → Id) where
  some_from : (ns : List Name) (k : Name) → has_any (keyed f (dedup_from bytes_eq k ns)) ≡ true
  some_from [] k = refl
  some_from (x ∷ xs) k = by (bytes_eq x k) (some_from xs k)
    where
      by : (b : Bool) → has_any (keyed f (dedup_from bytes_eq k xs)) ≡ true → has_any (keyed f (cond b (dedup_from bytes_eq k xs) (k ∷ dedup_from bytes_eq x xs))) ≡ true
      by true h = h
      by false h = refl

  some_below : (gone : Gone) → (is_some (find_key path_cmp [] gone) || has_any (keyed f (names gone))) ≡ list_any (λ g. is_prefix [] g.0) gone
  some_below [] = refl
  some_below (([], x) ∷ gone) = refl
  some_below ((n ∷ p, x) ∷ gone) = or_true (is_some (find_key path_cmp [] gone)) (has_any (keyed f (dedup_from bytes_eq n (filter_map (λ e. first_element e.0) gone)))) (some_from (filter_map (λ e. first_element e.0) gone) n)

link_below : (past : Past) (d : Path) → (deleted past d).link ≡ find_key path_cmp [] (below d (deletions past))
link_below past d = link_is past d ∙ sym (deletion_found past d) ∙ ap (λ p. find_key path_cmp p (deletions past)) (sym (append-nil d)) ∙ sym (found_below d (deletions past) [])

abbrev id_under : Past → Path → Name → Id
id_under past d n = deleted_id (deleted past (d ++ n ∷ []))

pub there_is : (past : Past) (d : Path) → (length d == 0) ≡ false → is_there (deleted past d) ≡ has_deleted past d
there_is past d deep =
    (λ i. is_some (link_below past d i) || has_any (entries_are past d i))
    ∙ some_below (id_under past d) (below d (deletions past))
    ∙ any_below d [] (deletions past)
    ∙ ap (λ q. list_any (λ g. is_prefix q g.0) (deletions past)) (append-nil d)
    ∙ ap (λ b. b || list_any (λ g. is_prefix d g.0) (deletions past)) (sym deep)

pub deep_snoc : (d : Path) (n : Name) → (length (d ++ n ∷ []) == 0) ≡ false
deep_snoc d n = ne_eqb (length (d ++ n ∷ [])) 0 (λ e. let long = length-append d (n ∷ []) in absurd (omega (arith, e, long)))

-- what a node has under a name
pub entry_there : (past : Past) (d : Path) (n : Name) → find_key name_cmp n (deleted past d).entries ≡ cond (is_there (deleted past (d ++ n ∷ []))) (Some (id_under past d n)) None
entry_there past d n = entry_is past d n ∙ ap (λ b. cond b (Some (id_under past d n)) None) (sym (there_is past (d ++ n ∷ []) (deep_snoc d n)))

none_there : (link : Option Id) (es : List (Name × Id)) → (is_some link || has_any es) ≡ false → (link ≡ None) × (es ≡ [])
none_there None [] h = (refl, refl)
none_there None (e ∷ es) h = absurd (true≢false h)
none_there (Some x) es h = absurd (true≢false h)

pub without : (n : DeletedNode) → is_there n ≡ false → (n.link ≡ None) × (n.entries ≡ [])
without n h = none_there n.link n.entries h

-- ---- the entries rise

a_file : File
a_file = record { content = []; kind = Regular; size = 0 }

abbrev as_files : Gone → List (Path × File)
as_files gone = map (λ e. (e.0, a_file)) gone

firsts_as : (gone : Gone) → filter_map (λ e. first_element e.0) (as_files gone) ≡ filter_map (λ e. first_element e.0) gone
firsts_as [] = refl
firsts_as (([], x) ∷ gone) = firsts_as gone
firsts_as ((n ∷ p, x) ∷ gone) = ap (λ ns. n ∷ ns) (firsts_as gone)

below_as : (d : Path) (gone : Gone) → as_files (below d gone) ≡ below d (as_files gone)
below_as d [] = refl
below_as d (e ∷ gone) = by (is_prefix d e.0) (below_as d gone)
  where
    by : (b : Bool) → as_files (below d gone) ≡ below d (as_files gone) → as_files (cons_option (cond b (Some (drop (length d) e.0, e.1)) None) (below d gone)) ≡ cons_option (cond b (Some (drop (length d) e.0, a_file)) None) (below d (as_files gone))
    by true h = ap (λ fs. (drop (length d) e.0, a_file) ∷ fs) h
    by false h = h

abbrev filed : (Path → Option Id) → Path → Option File
filed t p = option_map (λ _. a_file) (t p)

listed_as : (t : Path → Option Id) (ps : List Path) → as_files (filter_map (λ p. option_map (λ x. (p, x)) (t p)) ps) ≡ filter_map (λ p. option_map (λ f. (p, f)) (filed t p)) ps
listed_as t [] = refl
listed_as t (p ∷ ps) = by (t p) (listed_as t ps)
  where
    by : (o : Option Id) → as_files (filter_map (λ q. option_map (λ x. (q, x)) (t q)) ps) ≡ filter_map (λ q. option_map (λ f. (q, f)) (filed t q)) ps
        → as_files (cons_option (option_map (λ x. (p, x)) o) (filter_map (λ q. option_map (λ x. (q, x)) (t q)) ps)) ≡ cons_option (option_map (λ f. (p, f)) (option_map (λ _. a_file) o)) (filter_map (λ q. option_map (λ f. (q, f)) (filed t q)) ps)
    by None h = h
    by (Some x) h = ap (λ fs. (p, a_file) ∷ fs) h

deletions_rise : (past : Past) → is_sorted path_cmp (as_files (deletions past)) ≡ true
deletions_rise past =
    ap (is_sorted path_cmp) (listed_as (deleted_at past) (touched_paths (changesets_of past)))
    ∙ filed_rise (filed (deleted_at past)) (touched_paths (changesets_of past)) (touched_paths_rise (changesets_of past))

pub entries_rise : (past : Past) (d : Path) → is_sorted name_cmp (deleted past d).entries ≡ true
entries_rise past d =
    let gone = deletions past in
    ap (is_sorted name_cmp) (entries_are past d)
    ∙ (λ i. is_sorted name_cmp (keyed (id_under past d) (dedup bytes_eq (sym (firsts_as (below d gone)) i))))
    ∙ names_rise (id_under past d) (as_files (below d gone)) (ap (is_sorted path_cmp) (below_as d gone) ∙ below_rises d (as_files gone) (deletions_rise past))
