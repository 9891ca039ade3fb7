-- Where different fsnodes have different ids, equal ids tell equal files; and the fsnodes of a past whose merges are resolved.
use Rattle.std.proofs.Common.{◌≡◌, ℕ, suc, ◌<◌, Bool, true, false, cond, ◌||◌, List, [], ◌∷◌, ◌++◌, length, refl, sym, ap, ◌∙◌, arith}
use Rattle.std.specs.Prelude.{Option, Some, None, bytes_eq, ◌==◌}
use mathlib.Core.Bool.{true≢false}
use Rattle.std.specs.List.{list_any}
use Rattle.std.specs.FinMap.{is_sorted, find as find_key}
use Rattle.std.proofs.lemmas.Bool.{and_parts, or_parts, or_left, or_right, false_from_ne_true}
use Rattle.changeset_model.specs.Path.{Path, is_prefix, is_strict_prefix}
use Rattle.changeset_model.specs.Changeset.{File}
use Rattle.history_model.specs.History.{Known}
use Rattle.history_model.specs.Past.{Past, Begin, At}
use Rattle.history_model.specs.Tree.{decides, files_in, file_at, is_dir}
use Rattle.manifest_model.specs.Fsnode.{Fsnode, FsEntry, FsFile, FsDir, fsnode, fsnode_id}
use Rattle.manifest_model.specs.Unode.{is_renewed}
use Rattle.manifest_model.proofs.Derivations.{or_case as or_either}
use Rattle.manifest_model.proofs.Deletions.{file_at-files_in}
use Rattle.std.proofs.lemmas.List.{length-append}
use Rattle.manifest_laws.specs.Changes.{is_covered}
use Rattle.manifest_laws.specs.Entries.{fs_entry_at, file_of_entry, is_dir_entry}
use Rattle.manifest_laws.specs.EntryEdits.{fs_made}
use Rattle.manifest_laws.specs.Steps.{fsnode_by}
use Rattle.manifest_laws.specs.Summaries.{IsFlat}
use Rattle.manifest_laws.proofs.Entries.{file_by_entry, fs_entries_found}
use Rattle.manifest_laws.proofs.Changes.{prefix_itself}
use Rattle.manifest_laws.proofs.Flat.{strict_from, strict_parts}
use Rattle.manifest_laws.proofs.Fsnodes.{entry_is, same_node}
use Rattle.manifest_laws.proofs.Lists.{none_some, true_and_false}
use Rattle.manifest_laws.proofs.Names.{Name, name_cmp, same_name}
use Rattle.manifest_laws.proofs.Summaries.{summary_by_entries}
use Rattle.manifest_laws.proofs.Unodes.{not_root}
use Rattle.merge_laws.specs.Resolved.{AreResolved, AreApart, has_dir}
use Rattle.merge_laws.specs.Joined.{fs_differ, fs_merged}
use Rattle.merge_laws.proofs.Trees.{Files, alone, dir_from, flat, merges, no_file_at, rises}
use Rattle.merge_laws.proofs.Sides.{both_alike, dir_either, free, left_only, no_dir_covered, right_only}
use Rattle.merge_laws.proofs.FsMerge.{fs_after, fs_entry_for}

-- ---- what lies under a path

abbrev pub HasRest : Path → Path → Type 0
HasRest p q = (n : Name) × (r : Path) × (q ≡ p ++ n ∷ r)

pub rest_of : (p q : Path) → is_strict_prefix p q ≡ true → HasRest p q
rest_of [] [] h = absurd (true≢false (sym h))
rest_of [] (n ∷ q) h = (n, q, refl)
rest_of (k ∷ p) [] h = absurd (true≢false (sym h))
rest_of (k ∷ p) (m ∷ q) h =
    let parts = strict_parts (k ∷ p) (m ∷ q) h in
    let same = and_parts (bytes_eq k m) (is_prefix p q) parts.0 in
    let less : suc (length p) < suc (length q) = parts.1 in
    let rest = rest_of p q (strict_from p q same.1 (omega arith)) in
    (rest.0, rest.1, λ i. sym (same_name k m same.0) i ∷ rest.2 i)

pub nested : (d : Path) (n m : Name) (r : Path) → d ++ n ∷ m ∷ r ≡ (d ++ n ∷ []) ++ m ∷ r
nested [] n m r = refl
nested (k ∷ d) n m r = ap (λ p. k ∷ p) (nested d n m r)

-- ---- equal nodes have equal files

pub tells_dir : (f : Option File) (b : Bool) (x : Fsnode) → (b ≡ true → f ≡ None) → is_dir_entry (fs_entry_for f b x) ≡ b
tells_dir (Some f) true x alone = none_some f (sym (alone refl))
tells_dir (Some f) false x alone = refl
tells_dir None true x alone = refl
tells_dir None false x alone = refl

abbrev id_of_entry : Option FsEntry → List ℕ
id_of_entry None = []
id_of_entry (Some (FsFile f)) = []
id_of_entry (Some (FsDir x s)) = x

module _ (left right : Files) (left_flat : IsFlat left) (right_flat : IsFlat right)
    (apart : (d : Path) → (length d == 0) ≡ false → is_dir left d ≡ true → is_dir right d ≡ true → fsnode_id (fsnode left d) ≡ fsnode_id (fsnode right d) → fsnode left d ≡ fsnode right d) where
  nothing_under : (fs : Files) (p q : Path) → is_strict_prefix p q ≡ true → is_dir fs p ≡ false → file_at fs q ≡ None
  nothing_under fs p q under none = by (file_at fs q) refl
    where
      by : (o : Option File) → file_at fs q ≡ o → file_at fs q ≡ None
      by None e = e
      by (Some f) e = true_and_false (is_dir fs p) (dir_from fs p q f under e) none

  more_under : (p : Path) (m : Name) (r : Path) → is_strict_prefix p (p ++ m ∷ r) ≡ true
  more_under p m r = strict_from p (p ++ m ∷ r) (prefix_itself p (m ∷ r)) (let long = length-append p (m ∷ r) in omega (arith, long))

  same_under : (r : Path) (d : Path) (n : Name) → fsnode left d ≡ fsnode right d → file_at left (d ++ n ∷ r) ≡ file_at right (d ++ n ∷ r)
  same_under [] d n e = file_by_entry left d n ∙ ap (λ node. file_of_entry (fs_entry_at node n)) e ∙ sym (file_by_entry right d n)
  same_under (m ∷ r) d n e =
      ap (file_at left) (nested d n m r) ∙ by (λ e. same_under r (d ++ n ∷ []) m e) (is_dir left p) refl ∙ ap (file_at right) (sym (nested d n m r))
    where
      p : Path
      p = d ++ n ∷ []

      entries : fs_entry_for (file_at left p) (is_dir left p) (fsnode left p) ≡ fs_entry_for (file_at right p) (is_dir right p) (fsnode right p)
      entries = sym (entry_is left d n) ∙ ap (λ node. fs_entry_at node n) e ∙ entry_is right d n

      deep : (length p == 0) ≡ false
      deep = not_root d n

      dirs : is_dir left p ≡ is_dir right p
      dirs = sym (tells_dir (file_at left p) (is_dir left p) (fsnode left p) (alone left left_flat p deep)) ∙ ap is_dir_entry entries ∙ tells_dir (file_at right p) (is_dir right p) (fsnode right p) (alone right right_flat p deep)

      ids : is_dir left p ≡ true → is_dir right p ≡ true → fsnode_id (fsnode left p) ≡ fsnode_id (fsnode right p)
      ids h k =
          (λ i. id_of_entry (fs_entry_for (sym (alone left left_flat p deep h) i) (sym h i) (fsnode left p)))
          ∙ ap id_of_entry entries
          ∙ (λ i. id_of_entry (fs_entry_for (alone right right_flat p deep k i) (k i) (fsnode right p)))

      by : (fsnode left p ≡ fsnode right p → file_at left (p ++ m ∷ r) ≡ file_at right (p ++ m ∷ r)) → (b : Bool) → is_dir left p ≡ b → file_at left (p ++ m ∷ r) ≡ file_at right (p ++ m ∷ r)
      by later false h = nothing_under left p (p ++ m ∷ r) (more_under p m r) h ∙ sym (nothing_under right p (p ++ m ∷ r) (more_under p m r) (sym dirs ∙ h))
      by later true h = later (apart p deep h (sym dirs ∙ h) (ids h (sym dirs ∙ h)))

  pub same_files_under : (p : Path) → fsnode left p ≡ fsnode right p → (q : Path) → is_strict_prefix p q ≡ true → file_at left q ≡ file_at right q
  same_files_under p e q under = let rest = rest_of p q under in ap (file_at left) rest.2 ∙ same_under rest.1 p rest.0 e ∙ ap (file_at right) (sym rest.2)

-- ---- of pasts

pub has : (past : Past) (d : Path) → (length d == 0) ≡ false → is_dir (files_in past) d ≡ true → has_dir past d ≡ true
has Begin d deep dir = absurd (true≢false (sym dir ∙ ap (λ b. b || false) deep))
has (At c first second) d deep dir = dir

pub had : (past : Past) (d : Path) → has_dir past d ≡ true → is_dir (files_in past) d ≡ true
had Begin d h = absurd (true≢false (sym h))
had (At c first second) d h = h

pub had_not : (past : Past) (d : Path) → (length d == 0) ≡ false → has_dir past d ≡ false → is_dir (files_in past) d ≡ false
had_not Begin d deep h = ap (λ b. b || false) deep
had_not (At c first second) d deep h = h

module _ (first second : Past) (left : AreResolved first) (right : AreResolved second) (apart : AreApart first second) where
  apart_files : (d : Path) → (length d == 0) ≡ false → is_dir (files_in first) d ≡ true → is_dir (files_in second) d ≡ true → fsnode_id (fsnode (files_in first) d) ≡ fsnode_id (fsnode (files_in second) d) → fsnode (files_in first) d ≡ fsnode (files_in second) d
  apart_files d deep h k e = apart.fsnodes d (has first d deep h) (has second d deep k) e

  pub told_files : (d : Path) → (length d == 0) ≡ false → is_dir (files_in first) d ≡ true → is_dir (files_in second) d ≡ true → fsnode_id (fsnode (files_in first) d) ≡ fsnode_id (fsnode (files_in second) d)
      → (q : Path) → is_strict_prefix d q ≡ true → file_at (files_in first) q ≡ file_at (files_in second) q
  told_files d deep h k e = same_files_under (files_in first) (files_in second) (flat first left) (flat second right) apart_files d (apart_files d deep h k e)

pub fs_entry_after_merge : (c : Known) (first second : Past) (d : Path) (n : Name) (made : Option FsEntry) → AreResolved (At c first second) → AreApart first second
    → (list_any (λ e. is_strict_prefix (d ++ n ∷ []) e.0) c.changeset.changes ≡ true → made ≡ fs_made (files_in (At c first second)) (d ++ n ∷ []))
    → (fs_differ (fs_entry_at (fsnode (files_in first) d) n) (fs_entry_at (fsnode (files_in second) d) n) ≡ true → is_dir (files_in (At c first second)) (d ++ n ∷ []) ≡ true → made ≡ fs_made (files_in (At c first second)) (d ++ n ∷ []))
    → fs_merged made (d ++ n ∷ []) c.changeset.changes (cond (is_covered c.changeset d) None (fs_entry_at (fsnode (files_in first) d) n)) (cond (is_covered c.changeset d) None (fs_entry_at (fsnode (files_in second) d) n))
    ≡ fs_entry_at (fsnode (files_in (At c first second)) d) n
fs_entry_after_merge c first second d n made all apart due new =
    fs_after c.changeset (files_in (At c first second)) (files_in first) (files_in second) (merges c first second all) d n made
    (λ h k e. told_files first second all.1 all.2 apart (d ++ n ∷ []) (not_root d n) h k e) due new

-- entries by rising names that are found are the node's
pub node_by : (past : Past) (d : Path) (es : List (Name × FsEntry)) → AreResolved past → is_dir (files_in past) d ≡ true → is_sorted name_cmp es ≡ true → ((n : Name) → find_key name_cmp n es ≡ fs_entry_at (fsnode (files_in past) d) n)
    → fsnode_by es ≡ fsnode (files_in past) d
node_by past d es all dir sorted found =
    ap fsnode_by (fs_entries_found (files_in past) d es (rises past) sorted found)
    ∙ (λ i. record { summary = sym (summary_by_entries (files_in past) d (rises past) (flat past all) (file_at-files_in past d ∙ no_file_at past d all dir)) i; entries = (fsnode (files_in past) d).entries })

-- ---- a directory of which nothing is renewed

module _ (c : Known) (first second : Past) (d : Path) (all : AreResolved (At c first second)) (still : is_renewed c.changeset d ≡ false) (dir : is_dir (files_in (At c first second)) d ≡ true) where
  abbrev pub now : Files
  now = files_in (At c first second)

  pub deep_of : (length d == 0) ≡ false
  deep_of = (or_parts (length d == 0) (list_any (λ e. is_strict_prefix d e.0) c.changeset.changes) still).0

  pub outside_of : list_any (λ e. is_strict_prefix d e.0) c.changeset.changes ≡ false
  outside_of = (or_parts (length d == 0) (list_any (λ e. is_strict_prefix d e.0) c.changeset.changes) still).1

  pub uncovered_of : is_covered c.changeset d ≡ false
  uncovered_of = false_from_ne_true (is_covered c.changeset d) (λ covered. true_and_false (is_dir now d) dir (no_dir_covered c.changeset now (files_in first) (files_in second) (merges c first second all) d deep_of outside_of covered))

  pub all_free : (q : Path) → is_strict_prefix d q ≡ true → decides c.changeset q ≡ false
  all_free = free c.changeset now (files_in first) (files_in second) (merges c first second all) d deep_of outside_of uncovered_of

  pub kept_first : has_dir first d ≡ true → has_dir second d ≡ false → fsnode now d ≡ fsnode (files_in first) d
  kept_first h k = same_node now (files_in first) d (left_only c.changeset now (files_in first) (files_in second) (merges c first second all) d deep_of all_free (had first d h) (had_not second d deep_of k))

  pub kept_second : has_dir first d ≡ false → has_dir second d ≡ true → fsnode now d ≡ fsnode (files_in second) d
  kept_second h k = same_node now (files_in second) d (right_only c.changeset now (files_in first) (files_in second) (merges c first second all) d deep_of all_free (had_not first d deep_of h) (had second d k))

  pub kept_both : AreApart first second → has_dir first d ≡ true → has_dir second d ≡ true → fsnode_id (fsnode (files_in first) d) ≡ fsnode_id (fsnode (files_in second) d) → fsnode now d ≡ fsnode (files_in first) d
  kept_both apart h k e = same_node now (files_in first) d (both_alike c.changeset now (files_in first) (files_in second) (merges c first second all) d deep_of all_free (had first d h) (told_files first second all.1 all.2 apart d deep_of (had first d h) (had second d k) e))

  -- it was there on one side at least
  pub was_either : (has_dir first d || has_dir second d) ≡ true
  was_either = or_either (is_dir (files_in first) d) (is_dir (files_in second) d)
      (λ h. or_left (has_dir first d) (has_dir second d) (has first d deep_of h)) (λ h. or_right (has_dir first d) (has_dir second d) (has second d deep_of h))
      (sym (dir_either c.changeset now (files_in first) (files_in second) (merges c first second all) d deep_of all_free) ∙ dir)
