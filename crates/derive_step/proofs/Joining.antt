-- What both parents' entries are joined to, after edits of each.
use Rattle.std.proofs.Common.{◌≡◌, ℕ, Bool, true, false, cond, List, refl, sym, ap, ◌∙◌}
use Rattle.std.specs.Prelude.{Option, Some, None, bytes_eq, option_map}
use mathlib.Core.Bool.{true≢false}
use Rattle.std.specs.List.{list_any}
use Rattle.std.specs.FinMap.{is_sorted, find as find_key}
use Rattle.byte_fields.specs.Bytes.{Id}
use Rattle.byte_fields.proofs.Booleans.{same_some}
use Rattle.changeset_model.specs.Path.{Path, path_cmp, is_path, is_strict_prefix}
use Rattle.changeset_model.specs.Changeset.{File, FileChange, Set, Delete}
use Rattle.changeset_model.proofs.Spelling.{bytes_eq_refl}
use Rattle.manifest_model.specs.Fsnode.{FsEntry, FsFile, FsDir}
use Rattle.manifest_model.specs.Unode.{UnodeEntry, UnodeFile, UnodeDir}
use Rattle.manifest_laws.specs.EntryEdits.{entry_by as one_by, fs_set as one_set, is_fs_file, is_unode_file}
use Rattle.manifest_laws.proofs.Folded.{folded as one_folded}
use Rattle.merge_laws.specs.Joined.{fs_joined, fs_merged, fs_same, new_file, unode_joined, unode_merged}
use Rattle.derive_step.specs.Walk.{Sides, after_edits}
use Rattle.derive_step.specs.Join.{joined_by}
use Rattle.derive_step.specs.Steps.{fs_join, fs_set, new_at, unode_join, unode_set}
use Rattle.derive_step.proofs.Folded.{entries_by, folded}

abbrev Edits : Type 0
Edits = List (Path × FileChange)

abbrev is_under : Path → Edits → Bool
is_under p es = list_any (λ e. is_strict_prefix p e.0) es

itself : (x : List ℕ) → bytes_eq x x ≡ true
itself x = bytes_eq_refl x

none_some_of : {x : UnodeEntry} → None ≡ Some x → ⊥
none_some_of e = cc

dir_file_of : (y u : Id) → Some (UnodeDir y) ≡ Some (UnodeFile u) → ⊥
dir_file_of y u e = cc

-- ---- what was made is asked for only where an edit lies under the path

pub made_asked : {E : Type 0} (set : Sides E → File → E) (is_file : E → Bool) (m k : Option E) (p : Path) (es : Edits) (s : Sides E) → is_sorted path_cmp es ≡ true → (is_under p es ≡ true → m ≡ k) → after_edits set m is_file p es s ≡ after_edits set k is_file p es s
made_asked set is_file m k p es s rise same = folded set m is_file p es s rise ∙ by (is_under p es) refl ∙ sym (folded set k is_file p es s rise)
  where
    by : (b : Bool) → is_under p es ≡ b → entries_by set m is_file (find_key path_cmp p es) (is_under p es) s ≡ entries_by set k is_file (find_key path_cmp p es) (is_under p es) s
    by true h = ap (λ x. entries_by set x is_file (find_key path_cmp p es) (is_under p es) s) (same h)
    by false h = ap (λ b. entries_by set m is_file (find_key path_cmp p es) b s) h ∙ sym (ap (λ b. entries_by set k is_file (find_key path_cmp p es) b s) h)

-- ---- fsnodes

fs_itself : (m : FsEntry) → fs_same m m ≡ true
fs_itself (FsFile f) = refl
fs_itself (FsDir x s) = itself x

fs_made_twice : (made : Option FsEntry) (m : FsEntry) → fs_joined made (Some m) (Some m) ≡ Some m
fs_made_twice made m = ap (λ b. cond b (Some m) made) (fs_itself m)

module _ (p : Path) where
  abbrev fs_sides : (made : Option FsEntry) → Option FileChange → Bool → Sides FsEntry → Option FsEntry
  fs_sides made change under s = joined_by (fs_join made) (entries_by (fs_set p) made is_fs_file change under s)

  abbrev fs_ones : (made : Option FsEntry) → Option FileChange → Bool → Sides FsEntry → Option FsEntry
  fs_ones made change under s = fs_joined made (one_by one_set made is_fs_file change under s.0) (one_by one_set made is_fs_file change under s.1)

  fs_cases : (made : Option FsEntry) (change : Option FileChange) (under : Bool) (a b : Option FsEntry) → fs_sides made change under (a, b) ≡ fs_ones made change under (a, b)
  fs_cases made None false None b = refl
  fs_cases made None false (Some a) None = refl
  fs_cases made None false (Some a) (Some b) = refl
  fs_cases (Some m) None true a b = refl
  fs_cases None None true None None = refl
  fs_cases None None true None (Some (FsFile g)) = refl
  fs_cases None None true None (Some (FsDir y t)) = refl
  fs_cases None None true (Some (FsFile f)) None = refl
  fs_cases None None true (Some (FsFile f)) (Some (FsFile g)) = refl
  fs_cases None None true (Some (FsFile f)) (Some (FsDir y t)) = refl
  fs_cases None None true (Some (FsDir x s)) None = refl
  fs_cases None None true (Some (FsDir x s)) (Some (FsFile g)) = refl
  fs_cases None None true (Some (FsDir x s)) (Some (FsDir y t)) = refl
  fs_cases made (Some (Set f copied)) false a b = refl
  fs_cases (Some m) (Some (Set f copied)) true a b = refl
  fs_cases None (Some (Set f copied)) true a b = refl
  fs_cases made (Some Delete) false None None = refl
  fs_cases made (Some Delete) false None (Some (FsFile g)) = refl
  fs_cases made (Some Delete) false None (Some (FsDir y t)) = refl
  fs_cases made (Some Delete) false (Some (FsFile f)) None = refl
  fs_cases made (Some Delete) false (Some (FsFile f)) (Some (FsFile g)) = refl
  fs_cases made (Some Delete) false (Some (FsFile f)) (Some (FsDir y t)) = refl
  fs_cases made (Some Delete) false (Some (FsDir x s)) None = refl
  fs_cases made (Some Delete) false (Some (FsDir x s)) (Some (FsFile g)) = refl
  fs_cases made (Some Delete) false (Some (FsDir x s)) (Some (FsDir y t)) = refl
  fs_cases (Some m) (Some Delete) true a b = refl
  fs_cases None (Some Delete) true None None = refl
  fs_cases None (Some Delete) true None (Some (FsFile g)) = refl
  fs_cases None (Some Delete) true None (Some (FsDir y t)) = refl
  fs_cases None (Some Delete) true (Some (FsFile f)) None = refl
  fs_cases None (Some Delete) true (Some (FsFile f)) (Some (FsFile g)) = refl
  fs_cases None (Some Delete) true (Some (FsFile f)) (Some (FsDir y t)) = refl
  fs_cases None (Some Delete) true (Some (FsDir x s)) None = refl
  fs_cases None (Some Delete) true (Some (FsDir x s)) (Some (FsFile g)) = refl
  fs_cases None (Some Delete) true (Some (FsDir x s)) (Some (FsDir y t)) = refl

  pub fs_sides_joined : (made : Option FsEntry) (es : Edits) (s : Sides FsEntry) → is_sorted path_cmp es ≡ true → joined_by (fs_join made) (after_edits (fs_set p) made is_fs_file p es s) ≡ fs_merged made p es s.0 s.1
  fs_sides_joined made es s rise =
      ap (joined_by (fs_join made)) (folded (fs_set p) made is_fs_file p es s rise)
      ∙ fs_cases made (find_key path_cmp p es) (is_under p es) s.0 s.1
      ∙ sym (λ i. fs_joined made (one_folded one_set made is_fs_file p es s.0 rise i) (one_folded one_set made is_fs_file p es s.1 rise i))

-- ---- unodes

module _ (x : Id) (p : Path) (now : Option File) where
  abbrev new : UnodeEntry → UnodeEntry → Option UnodeEntry
  new a b = option_map (new_file x p (Some a) (Some b)) now

  abbrev join : Option UnodeEntry → UnodeEntry → UnodeEntry → Option UnodeEntry
  join made a b = unode_joined (new a b) made (Some a) (Some b)

  join_itself : (made : Option UnodeEntry) (n : Option UnodeEntry) (m : UnodeEntry) → unode_joined n made (Some m) (Some m) ≡ Some m
  join_itself made n (UnodeFile y) = ap (λ b. cond b (Some (UnodeFile y)) n) (itself y)
  join_itself made n (UnodeDir y) = ap (λ b. cond b (Some (UnodeDir y)) made) (itself y)

  module _ (a b : Option UnodeEntry) where
    abbrev set_one : Option UnodeEntry → File → UnodeEntry
    set_one o f = new_file x p a b f

    abbrev sides : (made : Option UnodeEntry) → Option FileChange → Bool → Option UnodeEntry
    sides made change under = joined_by (join made) (entries_by (unode_set x p) made is_unode_file change under (a, b))

    abbrev ones : (made : Option UnodeEntry) → Option FileChange → Bool → Option UnodeEntry
    ones made change under = unode_joined (option_map (new_file x p a b) now) made (one_by set_one made is_unode_file change under a) (one_by set_one made is_unode_file change under b)

  cases : (made : Option UnodeEntry) (change : Option FileChange) (under : Bool) (a b : Option UnodeEntry) → sides a b made change under ≡ ones a b made change under
  cases made None false None b = refl
  cases made None false (Some a) None = refl
  cases made None false (Some a) (Some b) = refl
  cases (Some m) None true a b = join_itself (Some m) (new m m) m ∙ sym (join_itself (Some m) (option_map (new_file x p a b) now) m)
  cases None None true None None = refl
  cases None None true None (Some (UnodeFile g)) = refl
  cases None None true None (Some (UnodeDir y)) = refl
  cases None None true (Some (UnodeFile f)) None = refl
  cases None None true (Some (UnodeFile f)) (Some (UnodeFile g)) = refl
  cases None None true (Some (UnodeFile f)) (Some (UnodeDir y)) = refl
  cases None None true (Some (UnodeDir z)) None = refl
  cases None None true (Some (UnodeDir z)) (Some (UnodeFile g)) = refl
  cases None None true (Some (UnodeDir z)) (Some (UnodeDir y)) = refl
  cases made (Some (Set f copied)) false a b = sym (join_itself made (option_map (new_file x p a b) now) (new_file x p a b f))
  cases (Some m) (Some (Set f copied)) true a b = join_itself (Some m) (new m m) m ∙ sym (join_itself (Some m) (option_map (new_file x p a b) now) m)
  cases None (Some (Set f copied)) true a b = sym (join_itself None (option_map (new_file x p a b) now) (new_file x p a b f))
  cases made (Some Delete) false None None = refl
  cases made (Some Delete) false None (Some (UnodeFile g)) = refl
  cases made (Some Delete) false None (Some (UnodeDir y)) = refl
  cases made (Some Delete) false (Some (UnodeFile f)) None = refl
  cases made (Some Delete) false (Some (UnodeFile f)) (Some (UnodeFile g)) = refl
  cases made (Some Delete) false (Some (UnodeFile f)) (Some (UnodeDir y)) = refl
  cases made (Some Delete) false (Some (UnodeDir z)) None = refl
  cases made (Some Delete) false (Some (UnodeDir z)) (Some (UnodeFile g)) = refl
  cases made (Some Delete) false (Some (UnodeDir z)) (Some (UnodeDir y)) = refl
  cases (Some m) (Some Delete) true a b = join_itself (Some m) (new m m) m ∙ sym (join_itself (Some m) (option_map (new_file x p a b) now) m)
  cases None (Some Delete) true None None = refl
  cases None (Some Delete) true None (Some (UnodeFile g)) = refl
  cases None (Some Delete) true None (Some (UnodeDir y)) = refl
  cases None (Some Delete) true (Some (UnodeFile f)) None = refl
  cases None (Some Delete) true (Some (UnodeFile f)) (Some (UnodeFile g)) = refl
  cases None (Some Delete) true (Some (UnodeFile f)) (Some (UnodeDir y)) = refl
  cases None (Some Delete) true (Some (UnodeDir z)) None = refl
  cases None (Some Delete) true (Some (UnodeDir z)) (Some (UnodeFile g)) = refl
  cases None (Some Delete) true (Some (UnodeDir z)) (Some (UnodeDir y)) = refl

  -- where there is a file only at a path that may stand in a changeset
  new_is : ((f : File) → now ≡ Some f → is_path p ≡ true) → (a b : UnodeEntry) → new_at x p now a b ≡ new a b
  new_is rule a b = by now refl rule
    where
      by : (o : Option File) → now ≡ o → ((f : File) → now ≡ Some f → is_path p ≡ true) → new_at x p now a b ≡ new a b
      by None e rule = ap (λ o. new_at x p o a b) e ∙ none (is_path p) ∙ sym (ap (λ o. option_map (new_file x p (Some a) (Some b)) o) e)
        where
          none : (t : Bool) → cond t (option_map (new_file x p (Some a) (Some b)) None) None ≡ None
          none true = refl
          none false = refl
      by (Some f) e rule = ap (λ t. cond t (option_map (new_file x p (Some a) (Some b)) now) None) (rule f e)

  pub unode_sides_joined : ((f : File) → now ≡ Some f → is_path p ≡ true) → (made : Option UnodeEntry) (es : Edits) (s : Sides UnodeEntry) → is_sorted path_cmp es ≡ true
      → joined_by (unode_join x p now made) (after_edits (unode_set x p) made is_unode_file p es s) ≡ unode_merged x now made p es s.0 s.1
  unode_sides_joined rule made es s rise =
      ap (λ j. joined_by j (after_edits (unode_set x p) made is_unode_file p es s)) same
      ∙ ap (joined_by (join made)) (folded (unode_set x p) made is_unode_file p es s rise)
      ∙ cases made (find_key path_cmp p es) (is_under p es) s.0 s.1
      ∙ sym (λ i. unode_joined (option_map (new_file x p s.0 s.1) now) made (one_folded (set_one s.0 s.1) made is_unode_file p es s.0 rise i) (one_folded (set_one s.0 s.1) made is_unode_file p es s.1 rise i))
    where
      same : unode_join x p now made ≡ join made
      same = λ i a b. unode_joined (new_is rule a b i) made (Some a) (Some b)

-- ---- files that are joined were left by the edits

abbrev AreFiles : Sides UnodeEntry → Id → Id → Type 0
AreFiles s u v = (s.0 ≡ Some (UnodeFile u)) × (s.1 ≡ Some (UnodeFile v))

module _ (x : Id) (p : Path) (u v : Id) (other : bytes_eq u v ≡ false) where
  both_made : {P : Type 0} (m : UnodeEntry) → Some m ≡ Some (UnodeFile u) → Some m ≡ Some (UnodeFile v) → P
  both_made {P} m a b = absurd (true≢false (sym (itself u) ∙ ap (bytes_eq u) (id_same (same_some m (UnodeFile u) a) (same_some m (UnodeFile v) b)) ∙ other))
    where
      id_of : UnodeEntry → Id
      id_of (UnodeFile y) = y
      id_of (UnodeDir y) = y

      id_same : m ≡ UnodeFile u → m ≡ UnodeFile v → u ≡ v
      id_same a b = ap id_of (sym a ∙ b)

  left_by : (made : Option UnodeEntry) (change : Option FileChange) (under : Bool) (a b : Option UnodeEntry) → AreFiles (entries_by (unode_set x p) made is_unode_file change under (a, b)) u v → AreFiles (a, b) u v
  left_by made None false a b h = h
  left_by (Some m) None true a b h = both_made m h.0 h.1
  left_by None None true (Some (UnodeFile f)) (Some (UnodeFile g)) h = h
  left_by None None true None b h = absurd (let e = h.0 in none_some_of e)
  left_by None None true (Some (UnodeDir y)) b h = absurd (let e = h.0 in none_some_of e)
  left_by None None true (Some (UnodeFile f)) None h = absurd (let e = h.1 in none_some_of e)
  left_by None None true (Some (UnodeFile f)) (Some (UnodeDir y)) h = absurd (let e = h.1 in none_some_of e)
  left_by made (Some (Set f copied)) false a b h = absurd (let e = h.1 in none_some_of e)
  left_by (Some m) (Some (Set f copied)) true a b h = both_made m h.0 h.1
  left_by None (Some (Set f copied)) true a b h = absurd (let e = h.1 in none_some_of e)
  left_by made (Some Delete) false None b h = absurd (let e = h.0 in none_some_of e)
  left_by made (Some Delete) false (Some (UnodeFile f)) b h = absurd (let e = h.0 in none_some_of e)
  left_by made (Some Delete) false (Some (UnodeDir y)) b h = absurd (let e = h.0 in dir_file_of y u e)
  left_by (Some m) (Some Delete) true a b h = both_made m h.0 h.1
  left_by None (Some Delete) true None b h = absurd (let e = h.0 in none_some_of e)
  left_by None (Some Delete) true (Some (UnodeFile f)) b h = absurd (let e = h.0 in none_some_of e)
  left_by None (Some Delete) true (Some (UnodeDir y)) b h = absurd (let e = h.0 in none_some_of e)

  pub left_files : (made : Option UnodeEntry) (es : Edits) (s : Sides UnodeEntry) → is_sorted path_cmp es ≡ true → AreFiles (after_edits (unode_set x p) made is_unode_file p es s) u v → AreFiles s u v
  left_files made es s rise h =
      let same = folded (unode_set x p) made is_unode_file p es s rise in
      left_by made (find_key path_cmp p es) (is_under p es) s.0 s.1 (ap (λ t. t.0) (sym same) ∙ h.0, ap (λ t. t.1) (sym same) ∙ h.1)
