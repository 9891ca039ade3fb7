-- The walk over both trees.
use Rattle.std.proofs.Common.{◌≡◌, ◌⊎◌, inl, inr, ℕ, ◌+◌, ◌<◌, Bool, true, false, cond, not, ◌&&◌, List, [], ◌∷◌, ◌++◌, length, refl, sym, ap, subst, ◌∙◌, append_assoc, arith}
use Rattle.std.specs.Prelude.{Option, None, Some, Contains}
use mathlib.Core.Bool.{true≢false}
use Rattle.std.specs.List.{AllByRecursion}
use Rattle.std.specs.FinMap.{is_sorted}
use Rattle.std.specs.Ordering.{is_lt, ordering_then}
use Rattle.std.specs.Cmp.{tied_itself}
use Rattle.std.specs.Cmp.Lexicographic.{nat_list_cmp_total}
use Rattle.std.proofs.lemmas.Bool.{and_parts}
use Rattle.std.proofs.lemmas.List.{append-nil}
use Rattle.byte_fields.specs.Bytes.{Id}
use Rattle.byte_fields.proofs.Lists.{weaker, all_both, both_parts, each_of}
use Rattle.changeset_model.specs.Path.{Path, path_cmp, path_eq, path_lt, is_path, comparable}
use Rattle.changeset_model.specs.Changeset.{File, Changeset}
use Rattle.changeset_model.proofs.Paths.{path_lt_or}
use Rattle.changeset_model.proofs.Rising.{path_lt_asymmetric}
use Rattle.history_model.specs.Tree.{decides}
use Rattle.history_model.specs.Merge.{file_eq, stands_against, unresolved}
use Rattle.manifest_model.specs.Fsnode.{Summary, FsEntry, FsFile, FsDir, summary_of}
use Rattle.manifest_laws.specs.Entries.{file_of_entry}
use Rattle.manifest_laws.proofs.Names.{name_cmp}
use Rattle.tree_fold.proofs.Files.{same_path, path_eq_itself}
use Rattle.merge_tree.specs.Unresolved.{IsLeftAgainst, IsUnresolved}
use Rattle.merge_tree.proofs.Found.{file_there, there_of, told_is_unresolved, told_is_least, none_is_unresolved}
use Rattle.manifest_laws.specs.Changes.{is_covered}
use Rattle.merge_walk.proofs.Covering.{covered_decides}
use Rattle.merge_walk.specs.Walk.{Listing, entry_from, directory, entry_at, IsTreeAt}
use Rattle.merge_walk.specs.Meeting.{Meeting, met, opened}
use Rattle.merge_walk.specs.Left.{NoLeft, Stands, Judged}
use Rattle.merge_walk.proofs.Entries.{from_there, none_under_file, any_summary, is_file_entry, above_or_under, above_both, files_apart, file_above}
use Rattle.merge_walk.proofs.Order.{IsBefore, AreOrdered, met_ordered, opened_ordered}
use Rattle.merge_walk.proofs.Lookup.{each_met}
use Rattle.merge_walk.proofs.Weights.{IsIn, weigh, weigh-append, weight, weighs_less, met_in_room}
use Rattle.merge_walk.proofs.Against.{Against, IsOpen, HoldsUnder, holds_in, nothing_in_one, stands_comparable, stands_left, stands_here, same_file, no_dir, no_file, file_eq-comm, front_comparable, is_not}

-- ---- nothing is open under a meeting that isn't unresolved

-- under a file only its own path has one
at_file : (listed : Listing) (o : Option FsEntry) (d r : Path) (f g : File) → entry_from listed o d ≡ Some (FsFile f) → entry_from listed o (d ++ r) ≡ Some (FsFile g) → r ≡ []
at_file listed o d [] f g file there = refl
at_file listed o d (n ∷ r) f g file there = no_file (entry_from listed o (d ++ n ∷ r)) g (none_under_file listed o d f n r file) there

-- under a directory each file has a longer path
past_dir : {P : Type 0} (listed : Listing) (o : Option FsEntry) (d p : Path) (x : Id) (s : Summary) (g : File) → entry_from listed o d ≡ Some (FsDir x s) → entry_from listed o p ≡ Some (FsFile g) → d ≡ p → P
past_dir listed o d p x s g dir file e = no_dir (entry_from listed o d) g x s dir (ap (entry_from listed o) e ∙ file)

no_conflict : (c : Changeset) (d : Path) (f g : File) → decides c d ≡ false → file_eq f g ≡ false → false ≡ (not (decides c d) && not (file_eq f g)) → ⊥
no_conflict c d f g alone differ h = true≢false ((λ i. not (sym alone i) && not (sym differ i)) ∙ sym h)

closed_files : (listed : Listing) (c : Changeset) (a b : Option FsEntry) (d : Path) (f g : File) (r : Path) → entry_from listed a d ≡ Some (FsFile f) → entry_from listed b d ≡ Some (FsFile g) → Against listed c a b (d ++ r) → (decides c d ≡ false) × (file_eq f g ≡ false)
closed_files listed c a b d f g r left right u =
    let nil : d ++ r ≡ d = ap (λ w. d ++ w) (at_file listed a d r f u.file left u.there) ∙ append-nil d in
    let path : d ++ r ≡ u.other = nil ∙ files_apart listed b d u.other g u.other_file right u.other_there (ap (λ p. comparable p u.other) (sym nil) ∙ stands_comparable c (d ++ r, u.file) (u.other, u.other_file) u.stands) in
    let of_left : u.file ≡ f = same_file (entry_from listed a d) u.file f (ap (entry_from listed a) (sym nil) ∙ u.there) left in
    let of_right : u.other_file ≡ g = same_file (entry_from listed b d) u.other_file g (ap (entry_from listed b) (sym nil ∙ path) ∙ u.other_there) right in
    (ap (decides c) (sym nil) ∙ u.is_left, (λ i. file_eq (sym of_left i) (sym of_right i)) ∙ stands_here c (d ++ r) u.other u.file u.other_file path u.stands)

-- a file of the left side at d, and a directory of the right one
file_against : (listed : Listing) (c : Changeset) (a b : Option FsEntry) (d : Path) (f : File) (y : Id) (t : Summary) (r : Path) → entry_from listed a d ≡ Some (FsFile f) → entry_from listed b d ≡ Some (FsDir y t) → (decides c d ≡ false → NoLeft listed c d y) → Against listed c a b (d ++ r) → ⊥
file_against listed c a b d f y t r left right none u = by (above_or_under d u.other (ap (λ p. comparable p u.other) (sym nil) ∙ stands_comparable c (d ++ r, u.file) (u.other, u.other_file) u.stands))
  where
    nil : d ++ r ≡ d
    nil = ap (λ w. d ++ w) (at_file listed a d r f u.file left u.there) ∙ append-nil d

    by : ((s : Path) × (u.other ≡ d ++ s)) ⊎ ((s : Path) × (d ≡ u.other ++ s)) → ⊥
    by (inl w) =
        let other = stands_left c (d ++ r, u.file) (u.other, u.other_file) (λ e. past_dir listed b d u.other y t u.other_file right u.other_there (sym nil ∙ e)) u.stands in
        let there = any_summary listed y t (summary_of []) w.0 u.other_file (sym (from_there listed b (Some (FsDir y t)) d w.0 right) ∙ ap (entry_from listed b) (sym w.1) ∙ u.other_there) in
        true≢false (sym (none (ap (decides c) (sym nil) ∙ u.is_left) w.0 u.other_file there (ap is_path (sym w.1) ∙ u.other_ruled)) ∙ ap (decides c) (sym w.1) ∙ other)
    by (inr w) = file_above listed b u.other w.0 u.other_file y t u.other_there (ap (entry_from listed b) (sym w.1) ∙ right)

-- the file that is comparable to a path under a file is that file
one_file : (listed : Listing) (o : Option FsEntry) (d r p : Path) (f g : File) → entry_from listed o d ≡ Some (FsFile f) → entry_from listed o p ≡ Some (FsFile g) → comparable (d ++ r) p ≡ true → d ≡ p
one_file listed o d r p f g file there h = by (above_or_under (d ++ r) p h)
  where
    at_or_under : (v : Path) → p ≡ d ++ v → d ≡ p
    at_or_under v e = sym (append-nil d) ∙ ap (λ w. d ++ w) (sym (at_file listed o d v f g file (ap (entry_from listed o) (sym e) ∙ there))) ∙ sym e

    above : (v : Path) → d ≡ p ++ v → d ≡ p
    above v e = e ∙ ap (λ w. p ++ w) (at_file listed o p v g f there (ap (entry_from listed o) (sym e) ∙ file)) ∙ append-nil p

    split : (v : Path) → ((s : Path) × (p ≡ d ++ s) × (r ≡ s ++ v)) ⊎ ((s : Path) × (d ≡ p ++ s)) → d ≡ p
    split v (inl w) = at_or_under w.0 w.1
    split v (inr w) = above w.0 w.1

    by : ((v : Path) × (p ≡ (d ++ r) ++ v)) ⊎ ((v : Path) × (d ++ r ≡ p ++ v)) → d ≡ p
    by (inl w) = at_or_under (r ++ w.0) (w.1 ∙ append_assoc d r w.0)
    by (inr w) = split w.0 (above_both d p r w.0 w.1)

-- a file in the directory of the right side
under_against : (listed : Listing) (c : Changeset) (a b : Option FsEntry) (d : Path) (f : File) (y : Id) (t : Summary) (r : Path) → entry_from listed a d ≡ Some (FsFile f) → entry_from listed b d ≡ Some (FsDir y t) → (decides c d ≡ false → NoLeft listed c d y) → Against listed c b a (d ++ r) → ⊥
under_against listed c a b d f y t r left right none u =
    let path : d ≡ u.other = one_file listed a d r u.other f u.other_file left u.other_there (stands_comparable c (d ++ r, u.file) (u.other, u.other_file) u.stands) in
    let other = stands_left c (d ++ r, u.file) (u.other, u.other_file) (λ e. past_dir listed b d (d ++ r) y t u.file right u.there (path ∙ sym e)) u.stands in
    let there = any_summary listed y t (summary_of []) r u.file (sym (from_there listed b (Some (FsDir y t)) d r right) ∙ u.there) in
    true≢false (sym (none (ap (decides c) path ∙ other) r u.file there u.ruled) ∙ u.is_left)

open_left : (listed : Listing) (c : Changeset) (a b : Option FsEntry) (q : Path) → IsOpen listed c a b q → decides c q ≡ false
open_left listed c a b q (inl u) = u.is_left
open_left listed c a b q (inr u) = u.is_left

closed : (listed : Listing) (c : Changeset) (a b : Option FsEntry) (d : Path) (e g : FsEntry) (test : Path → Bool) → entry_from listed a d ≡ Some e → entry_from listed b d ≡ Some g → Judged listed c d e g false → AllByRecursion (λ m. HoldsUnder listed c a b test m.0) (opened listed c d e g) → HoldsUnder listed c a b test d
closed listed c a b d (FsFile f) (FsFile g) test left right judged all r (inl u) = let k = closed_files listed c a b d f g r left right u in absurd (no_conflict c d f g k.0 k.1 judged)
closed listed c a b d (FsFile f) (FsFile g) test left right judged all r (inr u) = let k = closed_files listed c b a d g f r right left u in absurd (no_conflict c d f g k.0 (file_eq-comm f g k.1) judged)
closed listed c a b d (FsFile f) (FsDir y t) test left right judged all r (inl u) = absurd (file_against listed c a b d f y t r left right judged u)
closed listed c a b d (FsFile f) (FsDir y t) test left right judged all r (inr u) = absurd (under_against listed c a b d f y t r left right judged u)
closed listed c a b d (FsDir x s) (FsFile g) test left right judged all r (inl u) = absurd (under_against listed c b a d g x s r right left judged u)
closed listed c a b d (FsDir x s) (FsFile g) test left right judged all r (inr u) = absurd (file_against listed c b a d g x s r right left judged u)
closed listed c a b d (FsDir x s) (FsDir y t) test left right judged all r u = by (is_covered c d) refl all
  where
    by : (v : Bool) → is_covered c d ≡ v → AllByRecursion (λ m. HoldsUnder listed c a b test m.0) (cond v [] (met d (listed x) (listed y))) → test (d ++ r) ≡ true
    by true e none = absurd (true≢false (sym (covered_decides c d r e) ∙ open_left listed c a b (d ++ r) u))
    by false e all = holds_in listed c a b d x y s t test left right all r u

-- ---- what is pending

abbrev pub IsThere : Listing → Option FsEntry → Option FsEntry → Meeting → Type 0
IsThere listed a b m = (entry_from listed a m.0 ≡ Some m.1.0) × (entry_from listed b m.0 ≡ Some m.1.1)

pub record ArePending (listed : Listing) (c : Changeset) (a b : Option FsEntry) (ms : List Meeting) : Type 0 where
  pub there : AllByRecursion (IsThere listed a b) ms
  pub ordered : AreOrdered ms
  pub covers : (test : Path → Bool) → AllByRecursion (λ m. HoldsUnder listed c a b test m.0) ms → (q : Path) → IsOpen listed c a b q → test q ≡ true

met_there : (listed : Listing) (a b : Option FsEntry) (d : Path) (x y : Id) (s t : Summary) → is_sorted name_cmp (listed x) ≡ true → entry_from listed a d ≡ Some (FsDir x s) → entry_from listed b d ≡ Some (FsDir y t) → AllByRecursion (IsThere listed a b) (met d (listed x) (listed y))
met_there listed a b d x y s t sorted left right =
    each_met (IsThere listed a b) d (listed x) (listed y) sorted
    (λ n e g le ge. (from_there listed a (Some (FsDir x s)) d (n ∷ []) left ∙ le, from_there listed b (Some (FsDir y t)) d (n ∷ []) right ∙ ge))

pub begins : (listed : Listing) (c : Changeset) (x y : Id) (ms : List Meeting) → ((z : Id) → is_sorted name_cmp (listed z) ≡ true) → ms ≡ met [] (listed x) (listed y) ++ [] → ArePending listed c (directory x) (directory y) ms
begins listed c x y ms sorted e = subst (ArePending listed c (directory x) (directory y)) (sym (e ∙ append-nil (met [] (listed x) (listed y)))) (record {
  there = met_there listed (directory x) (directory y) [] x y (summary_of []) (summary_of []) (sorted x) refl refl;
  ordered = met_ordered [] (listed x) (listed y) (sorted x);
  covers = λ test all q u. holds_in listed c (directory x) (directory y) [] x y (summary_of []) (summary_of []) test refl refl all q u;
})

opened_there : (listed : Listing) (c : Changeset) (a b : Option FsEntry) (d : Path) (e g : FsEntry) → ((z : Id) → is_sorted name_cmp (listed z) ≡ true) → IsThere listed a b (d, (e, g)) → AllByRecursion (IsThere listed a b) (opened listed c d e g)
opened_there listed c a b d (FsFile f) (FsFile h) sorted here = tt
opened_there listed c a b d (FsFile f) (FsDir y t) sorted here = tt
opened_there listed c a b d (FsDir x s) (FsFile h) sorted here = tt
opened_there listed c a b d (FsDir x s) (FsDir y t) sorted here = by (is_covered c d)
  where
    by : (v : Bool) → AllByRecursion (IsThere listed a b) (cond v [] (met d (listed x) (listed y)))
    by true = tt
    by false = met_there listed a b d x y s t (sorted x) here.0 here.1

opened_order : (listed : Listing) (c : Changeset) (d : Path) (e g : FsEntry) (ms : List Meeting) → ((z : Id) → is_sorted name_cmp (listed z) ≡ true) → AllByRecursion (λ k. IsBefore d k.0) ms → AreOrdered ms → AreOrdered (opened listed c d e g ++ ms)
opened_order listed c d (FsFile f) (FsFile h) ms sorted first rest = rest
opened_order listed c d (FsFile f) (FsDir y t) ms sorted first rest = rest
opened_order listed c d (FsDir x s) (FsFile h) ms sorted first rest = rest
opened_order listed c d (FsDir x s) (FsDir y t) ms sorted first rest = by (is_covered c d)
  where
    by : (v : Bool) → AreOrdered (cond v [] (met d (listed x) (listed y)) ++ ms)
    by true = rest
    by false = opened_ordered d (listed x) (listed y) ms (sorted x) first rest

opens : (listed : Listing) (c : Changeset) (a b : Option FsEntry) (d : Path) (e g : FsEntry) (ms : List Meeting) → ((z : Id) → is_sorted name_cmp (listed z) ≡ true) → Judged listed c d e g false → ArePending listed c a b ((d, (e, g)) ∷ ms) → ArePending listed c a b (opened listed c d e g ++ ms)
opens listed c a b d e g ms sorted judged p = record {
  there = all_both (IsThere listed a b) (opened listed c d e g) ms (opened_there listed c a b d e g sorted p.there.0) p.there.1;
  ordered = opened_order listed c d e g ms sorted p.ordered.0 p.ordered.1;
  covers = λ test all q u.
      let parts = both_parts (λ m. HoldsUnder listed c a b test m.0) (opened listed c d e g) ms all in
      p.covers test (closed listed c a b d e g test p.there.0.0 p.there.0.1 judged parts.0, parts.1) q u;
}

pub goes_on : (listed : Listing) (c : Changeset) (a b : Option FsEntry) (m : Meeting) (before ms after : List Meeting) → ((z : Id) → is_sorted name_cmp (listed z) ≡ true) → before ≡ m ∷ ms → Judged listed c m.0 m.1.0 m.1.1 false → after ≡ opened listed c m.0 m.1.0 m.1.1 ++ ms → ArePending listed c a b before → ArePending listed c a b after
goes_on listed c a b m before ms after sorted popped judged laid p = subst (ArePending listed c a b) (sym laid) (opens listed c a b m.0 m.1.0 m.1.1 ms sorted judged (subst (ArePending listed c a b) popped p))

-- ---- the measure

opened_room : (listed : Listing) (c : Changeset) (d : Path) (e g : FsEntry) → AllByRecursion (λ m. IsIn d m.0) (opened listed c d e g)
opened_room listed c d (FsFile f) (FsFile h) = tt
opened_room listed c d (FsFile f) (FsDir y t) = tt
opened_room listed c d (FsDir x s) (FsFile h) = tt
opened_room listed c d (FsDir x s) (FsDir y t) = by (is_covered c d)
  where
    by : (v : Bool) → AllByRecursion (λ m. IsIn d m.0) (cond v [] (met d (listed x) (listed y)))
    by true = tt
    by false = met_in_room d (listed x) (listed y)

opened_less : (listed : Listing) (c : Changeset) (most : ℕ) (d : Path) (e g : FsEntry) → length (opened listed c d e g) < most → weigh most (λ (m : Meeting). m.0) (opened listed c d e g) < weight most d
opened_less listed c most d e g few = weighs_less most (λ (m : Meeting). m.0) d (opened listed c d e g) (opened_room listed c d e g) few

pub falls : (listed : Listing) (c : Changeset) (most : ℕ) (m : Meeting) (before ms after : List Meeting) → before ≡ m ∷ ms → after ≡ opened listed c m.0 m.1.0 m.1.1 ++ ms → length (opened listed c m.0 m.1.0 m.1.1) < most → weigh most (λ (m : Meeting). m.0) after < weigh most (λ (m : Meeting). m.0) before
falls listed c most m before ms after popped laid few =
    let less = opened_less listed c most m.0 m.1.0 m.1.1 few in
    let now = ap (weigh most (λ (m : Meeting). m.0)) laid ∙ weigh-append most (λ (m : Meeting). m.0) (opened listed c m.0 m.1.0 m.1.1) ms in
    let was = ap (weigh most (λ (m : Meeting). m.0)) popped in
    by (weigh most (λ m. m.0) after) (weigh most (λ m. m.0) before) (weigh most (λ m. m.0) (opened listed c m.0 m.1.0 m.1.1)) (weigh most (λ m. m.0) ms) (weight most m.0) now was less
  where
    by : (n o l i w : ℕ) → n ≡ l + i → o ≡ w + i → l < w → n < o
    by n o l i w a b less = omega arith

-- ---- the answer

tree_entry : (listed : Listing) (x : Id) (files : List (Path × File)) (p : Path) (f : File) → IsTreeAt listed x files → entry_at listed x p ≡ Some (FsFile f) → Contains files (p, f)
tree_entry listed x files p f tree e = there_of files p f (tree.same p ∙ ap file_of_entry e)

entry_of_tree : (listed : Listing) (x : Id) (files : List (Path × File)) (e : Path × File) → IsTreeAt listed x files → Contains files e → entry_at listed x e.0 ≡ Some (FsFile e.1)
entry_of_tree listed x files e tree there = is_file_entry (entry_at listed x e.0) e.1 (sym (tree.same e.0) ∙ file_there files e tree.rising there)

against_of : (listed : Listing) (c : Changeset) (x y : Id) (left right : List (Path × File)) (q : Path) → IsTreeAt listed x left → IsTreeAt listed y right → IsLeftAgainst c left right q → Against listed c (directory x) (directory y) q
against_of listed c x y left right q lt rt u = record {
  file = u.file;
  there = entry_of_tree listed x left (q, u.file) lt u.there;
  ruled = each_of (λ f. is_path f.0 ≡ true) left (q, u.file) lt.ruled u.there;
  is_left = u.is_left;
  other = u.other.0;
  other_file = u.other.1;
  other_there = entry_of_tree listed y right u.other rt u.other_there;
  other_ruled = each_of (λ f. is_path f.0 ≡ true) right u.other rt.ruled u.other_there;
  stands = u.stands;
}

open_of : (listed : Listing) (c : Changeset) (x y : Id) (left right : List (Path × File)) (q : Path) → IsTreeAt listed x left → IsTreeAt listed y right → IsUnresolved c left right q → IsOpen listed c (directory x) (directory y) q
open_of listed c x y left right q lt rt (inl u) = inl (against_of listed c x y left right q lt rt u)
open_of listed c x y left right q lt rt (inr u) = inr (against_of listed c y x right left q rt lt u)

-- where nothing is open
pub none_open : (listed : Listing) (c : Changeset) (x y : Id) (left right : List (Path × File)) → IsTreeAt listed x left → IsTreeAt listed y right → ((q : Path) → IsOpen listed c (directory x) (directory y) q → ⊥) → None ≡ unresolved c left right
none_open listed c x y left right lt rt none = by (unresolved c left right) refl
  where
    by : (o : Option Path) → unresolved c left right ≡ o → None ≡ unresolved c left right
    by None e = sym e
    by (Some q) e = absurd (none q (open_of listed c x y left right q lt rt (told_is_unresolved c left right q e)))

pub same_roots : (listed : Listing) (c : Changeset) (x y : Id) (left right : List (Path × File)) → x ≡ y → IsTreeAt listed x left → IsTreeAt listed y right → None ≡ unresolved c left right
same_roots listed c x y left right same lt rt = none_open listed c x y left right lt rt none
  where
    turned : directory y ≡ Some (FsDir x (summary_of []))
    turned = ap (λ z. Some (FsDir z (summary_of []))) (sym same)

    none : (q : Path) → IsOpen listed c (directory x) (directory y) q → ⊥
    none q (inl u) = nothing_in_one listed c (directory x) (directory y) [] x (summary_of []) (summary_of []) q refl turned u
    none q (inr u) = nothing_in_one listed c (directory y) (directory x) [] x (summary_of []) (summary_of []) q turned refl u

pub none_pending : (listed : Listing) (c : Changeset) (x y : Id) (left right : List (Path × File)) (ms : List Meeting) → ms ≡ [] → ArePending listed c (directory x) (directory y) ms → IsTreeAt listed x left → IsTreeAt listed y right → None ≡ unresolved c left right
none_pending listed c x y left right ms e p lt rt =
    let q = subst (ArePending listed c (directory x) (directory y)) e p in
    none_open listed c x y left right lt rt (λ r u. true≢false (sym (q.covers (λ _. false) tt r u)))

-- ---- the first that is unresolved

conflict : (c : Changeset) (d : Path) (f g : File) (left right : List (Path × File)) → Contains left (d, f) → Contains right (d, g) → true ≡ (not (decides c d) && not (file_eq f g)) → IsLeftAgainst c left right d
conflict c d f g left right l r h =
    let parts = and_parts (not (decides c d)) (not (file_eq f g)) (sym h) in
    record {
      file = f;
      there = l;
      is_left = is_not (decides c d) parts.0;
      other = (d, g);
      other_there = r;
      stands = ap (λ b. cond b (not (file_eq f g)) (comparable d d && not (decides c d))) (path_eq_itself d) ∙ parts.1;
    }

stands_under : (c : Changeset) (d p : Path) (f g : File) → (d ≡ d ++ p → ⊥) → decides c (d ++ p) ≡ false → stands_against c (d, f) (d ++ p, g) ≡ true
stands_under c d p f g apart alone = by (path_eq d (d ++ p)) refl
  where
    by : (b : Bool) → path_eq d (d ++ p) ≡ b → cond b (not (file_eq f g)) (comparable d (d ++ p) && not (decides c (d ++ p))) ≡ true
    by true e = absurd (apart (same_path d (d ++ p) e))
    by false e = (λ i. front_comparable d p i && not (alone i))

file_stands : (listed : Listing) (c : Changeset) (x y : Id) (left right : List (Path × File)) (d : Path) (f : File) (z : Id) (t : Summary) → IsTreeAt listed x left → IsTreeAt listed y right → entry_at listed x d ≡ Some (FsFile f) → entry_at listed y d ≡ Some (FsDir z t) → Stands listed c d z true → IsLeftAgainst c left right d
file_stands listed c x y left right d f z t lt rt here there s =
    let under : entry_at listed y (d ++ s.1.path) ≡ Some (FsFile s.1.file) = from_there listed (directory y) (Some (FsDir z t)) d s.1.path there ∙ any_summary listed z (summary_of []) t s.1.path s.1.file s.1.there in
    record {
      file = f;
      there = tree_entry listed x left d f lt here;
      is_left = s.0;
      other = (d ++ s.1.path, s.1.file);
      other_there = tree_entry listed y right (d ++ s.1.path) s.1.file rt under;
      stands = stands_under c d s.1.path f s.1.file (λ e. past_dir listed (directory y) d (d ++ s.1.path) z t s.1.file there under e) s.1.is_left;
    }

unresolved_here : (listed : Listing) (c : Changeset) (x y : Id) (left right : List (Path × File)) (d : Path) (e g : FsEntry) → IsTreeAt listed x left → IsTreeAt listed y right → entry_at listed x d ≡ Some e → entry_at listed y d ≡ Some g → Judged listed c d e g true → IsUnresolved c left right d
unresolved_here listed c x y left right d (FsFile f) (FsFile g) lt rt le ge judged = inl (conflict c d f g left right (tree_entry listed x left d f lt le) (tree_entry listed y right d g rt ge) judged)
unresolved_here listed c x y left right d (FsFile f) (FsDir z t) lt rt le ge judged = inl (file_stands listed c x y left right d f z t lt rt le ge judged)
unresolved_here listed c x y left right d (FsDir z s) (FsFile g) lt rt le ge judged = inr (file_stands listed c y x right left d g z s rt lt ge le judged)
unresolved_here listed c x y left right d (FsDir z s) (FsDir w t) lt rt le ge judged = absurd (true≢false judged)

-- no path at or under d is less than d
not_less : (d r : Path) → path_lt (d ++ r) d ≡ false
not_less [] [] = refl
not_less [] (n ∷ r) = refl
not_less (k ∷ d) r = ap (λ o. is_lt (ordering_then o (path_cmp (d ++ r) d))) (tied_itself nat_list_cmp_total k) ∙ not_less d r

least_is : (c : Changeset) (left right : List (Path × File)) (d : Path) → IsUnresolved c left right d → ((p : Path) → IsUnresolved c left right p → path_lt p d ≡ false) → Some d ≡ unresolved c left right
least_is c left right d here least = by (unresolved c left right) refl
  where
    same : (q : Path) → path_lt d q ≡ false → path_lt q d ≡ false → (b : Bool) → path_eq d q ≡ b → d ≡ q
    same q l g true e = same_path d q e
    same q l g false e = either (path_lt_or d q (λ s. true≢false (sym (path_eq_itself d) ∙ ap (path_eq d) s ∙ e)))
      where
        either : (path_lt d q ≡ true) ⊎ (path_lt q d ≡ true) → d ≡ q
        either (inl h) = absurd (true≢false (sym h ∙ l))
        either (inr h) = absurd (true≢false (sym h ∙ g))

    by : (o : Option Path) → unresolved c left right ≡ o → Some d ≡ unresolved c left right
    by None e = absurd (none_is_unresolved c left right d e here)
    by (Some q) e = ap (λ p. Some p) (same q (told_is_least c left right d q e here) (least q (told_is_unresolved c left right q e)) (path_eq d q) refl) ∙ sym e

later_not_less : (listed : Listing) (c : Changeset) (a b : Option FsEntry) (d : Path) (ms : List Meeting) → AllByRecursion (λ k. IsBefore d k.0) ms → AllByRecursion (λ m. HoldsUnder listed c a b (λ p. not (path_lt p d)) m.0) ms
later_not_less listed c a b d ms all = weaker (λ k. IsBefore d k.0) (λ m. HoldsUnder listed c a b (λ p. not (path_lt p d)) m.0) (λ k before r u. ap not (path_lt_asymmetric d (k.0 ++ r) (ap (λ p. path_lt p (k.0 ++ r)) (sym (append-nil d)) ∙ before [] r))) ms all

pub first_is : (listed : Listing) (c : Changeset) (x y : Id) (left right : List (Path × File)) (m : Meeting) (before ms : List Meeting) → before ≡ m ∷ ms → ArePending listed c (directory x) (directory y) before → Judged listed c m.0 m.1.0 m.1.1 true → IsTreeAt listed x left → IsTreeAt listed y right → Some m.0 ≡ unresolved c left right
first_is listed c x y left right m before ms popped pending judged lt rt =
    let p = subst (ArePending listed c (directory x) (directory y)) popped pending in
    least_is c left right m.0 (unresolved_here listed c x y left right m.0 m.1.0 m.1.1 lt rt p.there.0.0 p.there.0.1 judged)
    (λ q u. is_not (path_lt q m.0) (p.covers (λ p. not (path_lt p m.0)) ((λ r _. ap not (not_less m.0 r)), later_not_less listed c (directory x) (directory y) m.0 ms p.ordered.0) q (open_of listed c x y left right q lt rt u)))
