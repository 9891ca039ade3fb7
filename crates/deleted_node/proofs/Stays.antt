-- A deleted node is its first parent's where no file comes or goes at its path or under it.
use Rattle.std.proofs.Common.{◌≡◌, ℕ, Bool, true, false, cond, ◌&&◌, ◌||◌, List, [], ◌∷◌, ◌++◌, length, drop, refl, sym, ap, subst, ◌∙◌, append-nil}
use Rattle.std.specs.Prelude.{Option, None, Some, bytes_eq, filter_map, is_some, option_map, ◌==◌}
use mathlib.Core.Bool.{true≢false}
use Rattle.std.specs.List.{AllByRecursion, cons_option, list_any}
use Rattle.std.specs.Option.{option_or}
use Rattle.std.specs.declared.cmp.Ordering.TheVariants.{Equal}
use Rattle.std.specs.Ordering.{is_lt, ordering_then}
use Rattle.std.specs.Cmp.{first_so, second_so, tied_itself}
use Rattle.std.specs.Cmp.Lexicographic.{nat_list_cmp_total}
use Rattle.std.specs.FinMap.{find as find_key, is_sorted}
use Rattle.std.specs.FinMap.Entries.{below_all, same_entries}
use Rattle.std.proofs.lemmas.Bool.{and_from}
use Rattle.byte_fields.specs.Bytes.{Id}
use Rattle.changeset_model.specs.Path.{IsRising, Path, is_prefix, path_cmp, path_lt}
use Rattle.changeset_model.specs.Changeset.{File, set_at, touched_paths}
use Rattle.changeset_model.proofs.Paths.{path_cmp-IsAntisymmetric, path_cmp_total}
use Rattle.changeset_model.proofs.Rising.{touched_paths_rise}
use Rattle.history_model.specs.History.{Known}
use Rattle.history_model.specs.Past.{At, Begin, Past, changesets_of}
use Rattle.history_model.specs.Tree.{below, depth, tree_of}
use Rattle.manifest_model.specs.Deleted.{deleted, deleted_at, deleted_id, deleted_within, deletions, has_deleted, last_deletion}
use Rattle.manifest_laws.specs.Changes.{is_reached}
use Rattle.manifest_laws.proofs.Changes.{none_decides, prefix_itself}
use Rattle.manifest_laws.proofs.Lists.{is_so}
use Rattle.manifest_laws.proofs.Names.{name_cmp, same_name}
use Rattle.manifest_model.proofs.Deletions.{deletion_found, deletions_rise, gone_before, none_where_there, same_gone}
use Rattle.deleted_node.proofs.Within.{Gone, IsWithin, any_below, entry_is, found_below, within_below, within_depth, within_same}

-- ---- below a path the order stays

cmp_from : (d p q : Path) → is_prefix d p ≡ true → is_prefix d q ≡ true → path_cmp (drop (length d) p) (drop (length d) q) ≡ path_cmp p q
cmp_from [] p q h g = refl
cmp_from (e ∷ d) [] q h g = absurd (true≢false (sym h))
cmp_from (e ∷ d) (f ∷ p) [] h g = absurd (true≢false (sym g))
cmp_from (e ∷ d) (f ∷ p) (k ∷ q) h g =
    let same : f ≡ k = sym (same_name e f (first_so (bytes_eq e f) (is_prefix d p) h)) ∙ same_name e k (first_so (bytes_eq e k) (is_prefix d q) g) in
    let tied : name_cmp f k ≡ Equal = ap (λ m. name_cmp f m) (sym same) ∙ tied_itself nat_list_cmp_total f in
    cmp_from d p q (second_so (bytes_eq e f) (is_prefix d p) h) (second_so (bytes_eq e k) (is_prefix d q) g) ∙ ap (λ o. ordering_then o (path_cmp p q)) (sym tied)

lower_by : (d p : Path) (e : Path × Id) (gone : Gone) → is_prefix d p ≡ true → path_lt p e.0 ≡ true → below_all path_cmp (drop (length d) p) gone ≡ true → (b : Bool) → is_prefix d e.0 ≡ b → below_all path_cmp (drop (length d) p) (cons_option (cond b (Some (drop (length d) e.0, e.1)) None) gone) ≡ true
lower_by d p e gone inside less rest true h = and_from (path_lt (drop (length d) p) (drop (length d) e.0)) (below_all path_cmp (drop (length d) p) gone) (ap is_lt (cmp_from d p e.0 inside h) ∙ less) rest
lower_by d p e gone inside less rest false h = rest

lower_below : (d p : Path) (gone : Gone) → is_prefix d p ≡ true → below_all path_cmp p gone ≡ true → below_all path_cmp (drop (length d) p) (below d gone) ≡ true
lower_below d p [] inside h = refl
lower_below d p (e ∷ gone) inside h =
    lower_by d p e (below d gone) inside (first_so (path_lt p e.0) (below_all path_cmp p gone) h) (lower_below d p gone inside (second_so (path_lt p e.0) (below_all path_cmp p gone) h)) (is_prefix d e.0) refl

sorted_below : (d : Path) (e : Path × Id) (gone : Gone) → (is_prefix d e.0 ≡ true → below_all path_cmp (drop (length d) e.0) gone ≡ true) → is_sorted path_cmp gone ≡ true → (b : Bool) → is_prefix d e.0 ≡ b → is_sorted path_cmp (cons_option (cond b (Some (drop (length d) e.0, e.1)) None) gone) ≡ true
sorted_below d e gone lower rises true h = and_from (below_all path_cmp (drop (length d) e.0) gone) (is_sorted path_cmp gone) (lower h) rises
sorted_below d e gone lower rises false h = rises

below_rises : (d : Path) (gone : Gone) → is_sorted path_cmp gone ≡ true → is_sorted path_cmp (below d gone) ≡ true
below_rises d [] rises = refl
below_rises d (e ∷ gone) rises =
    sorted_below d e (below d gone) (λ inside. lower_below d e.0 gone inside (first_so (below_all path_cmp e.0 gone) (is_sorted path_cmp gone) rises)) (below_rises d gone (second_so (below_all path_cmp e.0 gone) (is_sorted path_cmp gone) rises)) (is_prefix d e.0) refl

-- ---- equal nodes

abbrev pub AgreeBelow : Past → Past → Path → Type 0
AgreeBelow past before d = (p : Path) → is_prefix d p ≡ true → deleted_at past p ≡ deleted_at before p

below_agree : (past before : Past) (d : Path) → AgreeBelow past before d → below d (deletions past) ≡ below d (deletions before)
below_agree past before d e =
    let xs = deletions past in
    let ys = deletions before in
    same_gone (below d xs) (below d ys) (below_rises d xs (deletions_rise past)) (below_rises d ys (deletions_rise before))
    (λ q. found_below d xs q ∙ deletion_found past (d ++ q) ∙ e (d ++ q) (prefix_itself d q) ∙ sym (deletion_found before (d ++ q)) ∙ sym (found_below d ys q))

any_by_below : (past : Past) (d : Path) → list_any (λ g. is_prefix d g.0) (deletions past) ≡ list_any (λ g. is_prefix [] g.0) (below d (deletions past))
any_by_below past d = ap (λ q. list_any (λ g. is_prefix q g.0) (deletions past)) (sym (append-nil d)) ∙ sym (any_below d [] (deletions past))

there_agree : (past before : Past) (d : Path) → AgreeBelow past before d → has_deleted past d ≡ has_deleted before d
there_agree past before d e =
    ap (λ b. (length d == 0) || b) (any_by_below past d ∙ ap (λ gone. list_any (λ (g : Path × Id). is_prefix [] g.0) gone) (below_agree past before d e) ∙ sym (any_by_below before d))

abbrev pub AreSame : Past → Past → Path → Type 0
AreSame past before d = (deleted past d ≡ deleted before d) × (has_deleted past d ≡ has_deleted before d)

-- a node is of what was deleted at its path and under it
pub nodes_agree : (past before : Past) (d : Path) → AgreeBelow past before d → AreSame past before d
nodes_agree past before d e =
    let xs = deletions past in
    let ys = deletions before in
    let same : below d xs ≡ below d ys = below_agree past before d e in (
      ap (deleted_within (depth xs)) same
          ∙ within_same (depth xs) (depth ys) (below d ys) (subst (IsWithin (depth xs)) same (within_below (depth xs) d xs (within_depth xs))) (within_below (depth ys) d ys (within_depth ys)),
      there_agree past before d e,
    )

-- so is what it has under a name of the paths that begin with the longer path
pub entries_agree : (past before : Past) (d : Path) (n : List ℕ) → AgreeBelow past before (d ++ n ∷ []) → find_key name_cmp n (deleted past d).entries ≡ find_key name_cmp n (deleted before d).entries
entries_agree past before d n e =
    let same = nodes_agree past before (d ++ n ∷ []) e in
    entry_is past d n ∙ (λ i. cond (same.1 i) (Some (deleted_id (same.0 i))) None) ∙ sym (entry_is before d n)

module _ (c : Known) (first second : Past) where
  as_before : (p : Path) → (now was : Option File) → tree_of (At c first second) p ≡ now → tree_of first p ≡ was → is_some now ≡ is_some was → deleted_at (At c first second) p ≡ deleted_at first p
  as_before p (Some f) (Some g) e w h = none_where_there c first second p f e ∙ sym (ap (λ was. cond (is_some was) None (last_deletion first p)) w)
  as_before p (Some f) None e w h = absurd (true≢false h)
  as_before p None (Some g) e w h = absurd (true≢false (sym h))
  as_before p None None e w h = gone_before c first second p e w

  pub nodes_stay : (d : Path) → ((p : Path) → is_prefix d p ≡ true → is_some (tree_of (At c first second) p) ≡ is_some (tree_of first p)) → AreSame (At c first second) first d
  nodes_stay d same = nodes_agree (At c first second) first d (λ p inside. as_before p (tree_of (At c first second) p) (tree_of first p) refl refl (same p inside))

-- ---- with one parent

or_none : (o : Option File) → option_or o None ≡ o
or_none None = refl
or_none (Some f) = refl

pub nodes_unreached : (c : Known) (first : Past) (d : Path) → is_reached c.changeset d ≡ false → AreSame (At c first Begin) first d
nodes_unreached c first d far =
    nodes_stay c first Begin d
    (λ p inside. ap is_some (ap (λ b. cond b (set_at c.changeset p) (option_or (tree_of first p) None)) (none_decides d p inside c.changeset.changes far) ∙ or_none (tree_of first p)))
