-- The search for a file that is left in a directory.
use Rattle.std.proofs.Common.{◌≡◌, ℕ, ◌+◌, ◌<◌, Bool, true, false, not, ◌&&◌, List, [], ◌∷◌, ◌++◌, length, refl, sym, ap, subst, ◌∙◌, append_assoc, arith}
use Rattle.std.specs.Prelude.{Option, None, Some, filter_map}
use mathlib.Core.Bool.{true≢false}
use Rattle.std.specs.List.{AllByRecursion, list_any}
use Rattle.std.specs.FinMap.{is_sorted, find as find_key}
use Rattle.std.proofs.lemmas.Bool.{and_parts}
use Rattle.byte_fields.specs.Bytes.{Id}
use Rattle.byte_fields.proofs.Lists.{all_both, both_parts}
use Rattle.changeset_model.specs.Path.{Path, is_path}
use Rattle.changeset_model.specs.Changeset.{File, Changeset}
use Rattle.history_model.specs.Tree.{decides}
use Rattle.manifest_model.specs.Fsnode.{Summary, FsEntry, FsFile, FsDir, summary_of}
use Rattle.manifest_laws.proofs.Names.{Name, name_cmp}
use Rattle.merge_walk.specs.Walk.{Listing, entry_from}
use Rattle.merge_walk.specs.Left.{HasLeft, NoLeft, is_left_file, dir_in}
use Rattle.merge_walk.proofs.Entries.{from_nothing, any_summary}
use Rattle.merge_walk.proofs.Fronts.{front_ruled}
use Rattle.merge_walk.proofs.Lookup.{each_dir, of_dirs, some_passes, none_passes}
use Rattle.merge_walk.proofs.Weights.{weigh, weigh-append, weight, weighs_less, dirs_in_room, few_dirs}

abbrev Dirs : Type 0
Dirs = List (Path × Id)

is_not : (b : Bool) → not b ≡ true → b ≡ false
is_not true h = absurd (true≢false (sym h))
is_not false h = refl

-- ---- in one directory

has_by : (listed : Listing) (c : Changeset) (d : Path) (x : Id) (n : Name) (e : FsEntry) → find_key name_cmp n (listed x) ≡ Some e → is_left_file c d (n, e) ≡ true → HasLeft listed c d x
has_by listed c d x n (FsFile f) found h = record { path = n ∷ []; file = f; there = found; is_left = is_not (decides c (d ++ n ∷ [])) (and_parts (is_path (d ++ n ∷ [])) (not (decides c (d ++ n ∷ []))) h).1 }
has_by listed c d x n (FsDir y s) found h = absurd (true≢false (sym h))

pub has_here : (listed : Listing) (c : Changeset) (d : Path) (x : Id) → is_sorted name_cmp (listed x) ≡ true → list_any (is_left_file c d) (listed x) ≡ true → HasLeft listed c d x
has_here listed c d x sorted h = let p = some_passes (is_left_file c d) (listed x) sorted h in has_by listed c d x p.name p.entry p.found p.passes

has_under : (listed : Listing) (c : Changeset) (d : Path) (x : Id) (n : Name) (y : Id) (s : Summary) → find_key name_cmp n (listed x) ≡ Some (FsDir y s) → HasLeft listed c (d ++ n ∷ []) y → HasLeft listed c d x
has_under listed c d x n y s found h = record {
  path = n ∷ h.path;
  file = h.file;
  there = ap (λ o. entry_from listed o h.path) found ∙ any_summary listed y (summary_of []) s h.path h.file h.there;
  is_left = ap (decides c) (sym (append_assoc d (n ∷ []) h.path)) ∙ h.is_left;
}

not_left : (b d : Bool) → b ≡ true → (b && not d) ≡ false → d ≡ true
not_left true true h e = refl
not_left true false h e = absurd (true≢false e)
not_left false d h e = absurd (true≢false (sym h))

no_entry : {P : Type 0} (o : Option FsEntry) (f : File) → o ≡ None → o ≡ Some (FsFile f) → P
no_entry o f none some = absurd cc

none_by : (listed : Listing) (c : Changeset) (d : Path) (x : Id) (n : Name) (q : Path) (f : File) → list_any (is_left_file c d) (listed x) ≡ false → AllByRecursion (λ t. NoLeft listed c t.0 t.1) (filter_map (dir_in d) (listed x)) → is_path (d ++ n ∷ q) ≡ true → (o : Option FsEntry) → find_key name_cmp n (listed x) ≡ o → entry_from listed o q ≡ Some (FsFile f) → decides c (d ++ n ∷ q) ≡ true
none_by listed c d x n q f none all ruled None found there = no_entry (entry_from listed None q) f (from_nothing listed q) there
none_by listed c d x n [] f none all ruled (Some (FsFile g)) found there =
    not_left (is_path (d ++ n ∷ [])) (decides c (d ++ n ∷ [])) ruled (none_passes (is_left_file c d) (listed x) n (FsFile g) none found)
none_by listed c d x n (m ∷ q) f none all ruled (Some (FsFile g)) found there = no_entry (entry_from listed None q) f (from_nothing listed q) there
none_by listed c d x n q f none all ruled (Some (FsDir y s)) found there =
    let path : (d ++ n ∷ []) ++ q ≡ d ++ n ∷ q = append_assoc d (n ∷ []) q in
    let front = front_ruled (d ++ n ∷ []) q (ap is_path path ∙ ruled) d n refl in
    ap (decides c) (sym path) ∙ of_dirs (λ t. NoLeft listed c t.0 t.1) d (listed x) n y s found front all q f (any_summary listed y s (summary_of []) q f there) (ap is_path path ∙ ruled)

none_here : (listed : Listing) (c : Changeset) (d : Path) (x : Id) → list_any (is_left_file c d) (listed x) ≡ false → AllByRecursion (λ t. NoLeft listed c t.0 t.1) (filter_map (dir_in d) (listed x)) → NoLeft listed c d x
none_here listed c d x none all [] f there ruled = absurd cc
none_here listed c d x none all (n ∷ q) f there ruled = none_by listed c d x n q f none all ruled (find_key name_cmp n (listed x)) refl there

-- ---- the directories that are left to look into

pub record IsSearch (listed : Listing) (c : Changeset) (d : Path) (x : Id) (rest : Dirs) : Type 0 where
  pub found : AllByRecursion (λ t. HasLeft listed c t.0 t.1 → HasLeft listed c d x) rest
  pub none : AllByRecursion (λ t. NoLeft listed c t.0 t.1) rest → NoLeft listed c d x

pub search_begins : (listed : Listing) (c : Changeset) (d : Path) (x : Id) (rest : Dirs) → rest ≡ (d, x) ∷ [] → IsSearch listed c d x rest
search_begins listed c d x rest e = subst (IsSearch listed c d x) (sym e) (record { found = (λ h. h, tt); none = λ all. all.0 })

module _ (listed : Listing) (c : Changeset) (d : Path) (x : Id) (rest left : Dirs) (here : Path × Id) (es : List (Name × FsEntry)) (popped : rest ≡ left ++ here ∷ []) (read : es ≡ listed here.1) where
  before : IsSearch listed c d x rest → IsSearch listed c d x (left ++ here ∷ [])
  before h = subst (IsSearch listed c d x) popped h

  pub search_ends : IsSearch listed c d x rest → is_sorted name_cmp (listed here.1) ≡ true → list_any (is_left_file c here.0) es ≡ true → HasLeft listed c d x
  search_ends h sorted any = (both_parts (λ t. HasLeft listed c t.0 t.1 → HasLeft listed c d x) left (here ∷ []) (before h).found).1.0 (has_here listed c here.0 here.1 sorted (ap (list_any (is_left_file c here.0)) (sym read) ∙ any))

  opened : IsSearch listed c d x (left ++ here ∷ []) → is_sorted name_cmp (listed here.1) ≡ true → list_any (is_left_file c here.0) (listed here.1) ≡ false → IsSearch listed c d x (left ++ filter_map (dir_in here.0) (listed here.1))
  opened h sorted none =
      let parts = both_parts (λ t. HasLeft listed c t.0 t.1 → HasLeft listed c d x) left (here ∷ []) h.found in
      record {
        found = all_both (λ t. HasLeft listed c t.0 t.1 → HasLeft listed c d x) left (filter_map (dir_in here.0) (listed here.1)) parts.0 (each_dir (λ t. HasLeft listed c t.0 t.1 → HasLeft listed c d x) here.0 (listed here.1) sorted (λ n y s found u. parts.1.0 (has_under listed c here.0 here.1 n y s found u)));
        none = λ all.
            let both = both_parts (λ t. NoLeft listed c t.0 t.1) left (filter_map (dir_in here.0) (listed here.1)) all in
            h.none (all_both (λ t. NoLeft listed c t.0 t.1) left (here ∷ []) both.0 (none_here listed c here.0 here.1 none both.1, tt));
      }

  pub search_goes_on : (after : Dirs) → IsSearch listed c d x rest → is_sorted name_cmp (listed here.1) ≡ true → list_any (is_left_file c here.0) es ≡ false → after ≡ left ++ filter_map (dir_in here.0) es → IsSearch listed c d x after
  search_goes_on after h sorted none e = subst (IsSearch listed c d x) (sym (e ∙ ap (λ es. left ++ filter_map (dir_in here.0) es) read)) (opened (before h) sorted (ap (list_any (is_left_file c here.0)) (sym read) ∙ none))

  pub search_falls : (most : ℕ) (after : Dirs) → length es < most → after ≡ left ++ filter_map (dir_in here.0) es → weigh most (λ t. t.0) after < weigh most (λ t. t.0) rest
  search_falls most after few e =
      let less = weighs_less most (λ (t : Path × Id). t.0) here.0 (filter_map (dir_in here.0) es) (dirs_in_room here.0 es) (let fewer = few_dirs here.0 es in omega arith) in
      let now = ap (weigh most (λ (t : Path × Id). t.0)) e ∙ weigh-append most (λ (t : Path × Id). t.0) left (filter_map (dir_in here.0) es) in
      let was = ap (weigh most (λ (t : Path × Id). t.0)) popped ∙ weigh-append most (λ (t : Path × Id). t.0) left (here ∷ []) in
      falls (weigh most (λ t. t.0) after) (weigh most (λ t. t.0) rest) (weigh most (λ t. t.0) left) (weigh most (λ t. t.0) (filter_map (dir_in here.0) es)) (weight most here.0) now was less
    where
      falls : (n o l i w : ℕ) → n ≡ l + i → o ≡ l + (w + 0) → i < w → n < o
      falls n o l i w a b less = omega arith
