-- The entries of unodes of a past, also where a node was kept; and after a changeset with two parents.
use Rattle.std.proofs.Common.{◌≡◌, Bool, true, false, cond, not, ◌&&◌, ◌||◌, List, [], ◌∷◌, ◌++◌, map, length, refl, sym, ap, ◌∙◌, arith}
use Rattle.std.specs.Prelude.{Option, Some, None, bytes_eq, is_some, option_map, ◌==◌}
use mathlib.Core.Bool.{true≢false}
use Rattle.std.specs.List.{list_any}
use Rattle.std.specs.Ordering.{eq_by_cmp}
use Rattle.std.specs.Cmp.Lexicographic.{nat_list_cmp_total}
use Rattle.std.specs.FinMap.{IsAntisymmetric, nat_cmp-IsAntisymmetric, slice_cmp-IsAntisymmetric, is_sorted, find as find_key}
use Rattle.std.specs.FinMap.Entries.{same_entries}
use Rattle.std.proofs.lemmas.Bool.{or_parts, false_from_ne_true, ne_eqb}
use Rattle.sha2.specs.Sha256.{sha256}
use Rattle.byte_fields.specs.Bytes.{Id}
use Rattle.byte_fields.proofs.Booleans.{not_false}
use Rattle.changeset_model.specs.Path.{Path, path_cmp, text_of, is_prefix, is_strict_prefix}
use Rattle.changeset_model.specs.Changeset.{File, set_at}
use Rattle.history_model.specs.History.{Known}
use Rattle.history_model.specs.Past.{Past, Begin, At}
use Rattle.history_model.specs.Tree.{files_in, file_at, is_file, is_dir, names, below, tree_of}
use Rattle.manifest_model.specs.Fsnode.{fsnode}
use Rattle.manifest_model.specs.Unode.{Unode, UnodeEntry, UnodeFile, UnodeDir, Manifest, FileUnode, is_renewed, no_unode, unode_entry, unode_id}
use Rattle.manifest_model.specs.Merged.{unode_at}
use Rattle.manifest_model.proofs.Deletions.{file_at-files_in}
use Rattle.manifest_model.proofs.Derivations.{tied_same}
use Rattle.manifest_laws.specs.Changes.{is_covered}
use Rattle.manifest_laws.specs.Entries.{entries_of, fs_entry_at, file_of_entry, unode_entry_at, unode_entry_for}
use Rattle.manifest_laws.proofs.Changes.{prefix_itself}
use Rattle.manifest_laws.proofs.Entries.{file_by_entry}
use Rattle.manifest_laws.proofs.Flat.{strict_under}
use Rattle.manifest_laws.proofs.Lists.{is_so, map_map, none_some, true_and_false}
use Rattle.manifest_laws.proofs.Names.{Name, among_names, below_rises, file_at-below, keyed, looked_up, name_cmp, name_itself, names_rise, same_name}
use Rattle.manifest_laws.proofs.Reach.{Edits, cover_found}
use Rattle.manifest_laws.proofs.Seen.{one_more as under_dir}
use Rattle.manifest_laws.proofs.Unodes.{not_root}
use Rattle.merge_laws.specs.Resolved.{AreResolved, AreApart, AreAllApart, has_dir}
use Rattle.merge_laws.specs.Joined.{dirs_differ, file_parents_of, files_differ, new_file, parents_of, unode_differ, unode_entries_on, unode_entry_on, unode_joined, unode_made_on, unode_merged}
use Rattle.merge_laws.proofs.Trees.{Files, dir_from, file_under, flat, merges, no_file_at, no_root, rises}
use Rattle.merge_laws.proofs.Sides.{set_is}
use Rattle.merge_laws.proofs.FsTold.{had_not, outside_of, uncovered_of, was_either}
use Rattle.merge_laws.proofs.Nodes.{dir_node, file_node}
use Rattle.merge_laws.proofs.UnodeMerge.{seen_on, unedited, unode_after}

-- ---- entries by rising names

name_cmp-IsAntisymmetric : IsAntisymmetric name_cmp
name_cmp-IsAntisymmetric = slice_cmp-IsAntisymmetric nat_cmp-IsAntisymmetric

same_found : {X : Type 0} (xs ys : List (Name × X)) → is_sorted name_cmp xs ≡ true → is_sorted name_cmp ys ≡ true → ((n : Name) → find_key name_cmp n xs ≡ find_key name_cmp n ys) → xs ≡ ys
same_found xs ys h g e = same_entries name_cmp nat_list_cmp_total name_cmp-IsAntisymmetric xs ys (is_so (is_sorted name_cmp xs) h) (is_so (is_sorted name_cmp ys) g) e

abbrev entry_by : (Name → Unode) → Name × Option File → Name × UnodeEntry
entry_by node child = (child.0, unode_entry child.1 (unode_id (node child.0)))

abbrev found_here : Past → Path → UnodeEntry
found_here past p = unode_entry (file_at (files_in past) p) (unode_id (unode_at past p))

keyed_on : (past : Past) (d : Path) → unode_entries_on past d ≡ keyed (λ n. found_here past (d ++ n ∷ [])) (names (below d (files_in past)))
keyed_on past d =
    map_map (entry_by (λ n. unode_at past (d ++ n ∷ []))) (λ n. (n, file_at (below d (files_in past)) (n ∷ []))) (names (below d (files_in past)))
    ∙ (λ i. map (λ n. (n, unode_entry (file_at-below d (files_in past) (n ∷ []) i) (unode_id (unode_at past (d ++ n ∷ []))))) (names (below d (files_in past))))

either_unode : (o : Option File) (b : Bool) (x : Id) → cond (is_some o || b) (Some (unode_entry o x)) None ≡ unode_entry_for o b x
either_unode (Some f) b x = refl
either_unode None true x = refl
either_unode None false x = refl

pub found_on : (past : Past) (d : Path) (n : Name) → find_key name_cmp n (unode_entries_on past d) ≡ seen_on past (d ++ n ∷ [])
found_on past d n =
    ap (find_key name_cmp n) (keyed_on past d)
    ∙ looked_up (λ n. found_here past (d ++ n ∷ [])) n (names (below d (files_in past)))
    ∙ ap (λ b. cond b (Some (found_here past (d ++ n ∷ []))) None) (among_names d (files_in past) n)
    ∙ either_unode (file_at (files_in past) (d ++ n ∷ [])) (is_dir (files_in past) (d ++ n ∷ [])) (unode_id (unode_at past (d ++ n ∷ [])))

pub rise_on : (past : Past) (d : Path) → is_sorted name_cmp (unode_entries_on past d) ≡ true
rise_on past d = ap (is_sorted name_cmp) (keyed_on past d) ∙ names_rise (λ n. found_here past (d ++ n ∷ [])) (below d (files_in past)) (below_rises d (files_in past) (rises past))

-- ---- where a directory isn't there, nothing is in it

nothing_in : (fs : Files) (d : Path) (n : Name) → is_dir fs d ≡ false → file_at fs (d ++ n ∷ []) ≡ None
nothing_in fs d n h = by (file_at fs (d ++ n ∷ [])) refl
  where
    by : (o : Option File) → file_at fs (d ++ n ∷ []) ≡ o → file_at fs (d ++ n ∷ []) ≡ None
    by None e = e
    by (Some f) e = true_and_false (is_dir fs d) (dir_from fs d (d ++ n ∷ []) f (under_dir d n) e) h

no_dir_in : (fs : Files) (d : Path) (n : Name) → is_dir fs d ≡ false → is_dir fs (d ++ n ∷ []) ≡ false
no_dir_in fs d n h = false_from_ne_true (is_dir fs (d ++ n ∷ [])) (λ dir. (
    let found = file_under fs (d ++ n ∷ []) (not_root d n) dir in
    true_and_false (is_dir fs d) (dir_from fs d found.0 found.1 (strict_under d (d ++ n ∷ []) found.0 (prefix_itself d (n ∷ [])) found.2) found.3) h))

nothing_seen : (past : Past) (d : Path) (n : Name) → is_dir (files_in past) d ≡ false → seen_on past (d ++ n ∷ []) ≡ None
nothing_seen past d n h = λ i. unode_entry_for (nothing_in (files_in past) d n h i) (no_dir_in (files_in past) d n h i) (unode_id (unode_at past (d ++ n ∷ [])))

-- ---- a directory that isn't renewed

find_none : (d p : Path) (es : Edits) → is_strict_prefix d p ≡ true → list_any (λ e. is_strict_prefix d e.0) es ≡ false → find_key path_cmp p es ≡ None
find_none d p [] under h = refl
find_none d p (e ∷ es) under h =
    let parts = or_parts (is_strict_prefix d e.0) (list_any (λ e. is_strict_prefix d e.0) es) h in
    by (eq_by_cmp path_cmp p e.0) refl parts.0 (find_none d p es under parts.1)
  where
    by : (b : Bool) → eq_by_cmp path_cmp p e.0 ≡ b → is_strict_prefix d e.0 ≡ false → find_key path_cmp p es ≡ None → cond b (Some e.1) (find_key path_cmp p es) ≡ None
    by true same out rest = true_and_false (is_strict_prefix d e.0) (ap (is_strict_prefix d) (sym (tied_same p e.0 same)) ∙ under) out
    by false same out rest = rest

none_deeper : (d e : Path) → is_prefix d e ≡ true → (es : Edits) → list_any (λ e. is_strict_prefix d e.0) es ≡ false → list_any (λ f. is_strict_prefix e f.0) es ≡ false
none_deeper d e inside [] h = refl
none_deeper d e inside (f ∷ es) h =
    let parts = or_parts (is_strict_prefix d f.0) (list_any (λ e. is_strict_prefix d e.0) es) h in
    (λ i. outside parts.0 i || none_deeper d e inside es parts.1 i)
  where
    outside : is_strict_prefix d f.0 ≡ false → is_strict_prefix e f.0 ≡ false
    outside out = false_from_ne_true (is_strict_prefix e f.0) (λ g. true_and_false (is_strict_prefix d f.0) (strict_under d e f.0 inside g) out)

joined_left : (new made a b : Option UnodeEntry) → b ≡ None → unode_joined new made a b ≡ a
joined_left new made None b e = e
joined_left new made (Some a) b e = ap (unode_joined new made (Some a)) e

joined_right : (new made a b : Option UnodeEntry) → a ≡ None → unode_joined new made a b ≡ b
joined_right new made a b e = ap (λ o. unode_joined new made o b) e

joined_same : (new made a : Option UnodeEntry) → unode_joined new made a a ≡ a
joined_same new made None = refl
joined_same new made (Some (UnodeFile x)) = ap (λ b. cond b (Some (UnodeFile x)) new) (name_itself x)
joined_same new made (Some (UnodeDir x)) = ap (λ b. cond b (Some (UnodeDir x)) made) (name_itself x)

module _ (c : Known) (first second : Past) (all : AreResolved (At c first second)) (d : Path) (dir : is_dir (files_in (At c first second)) d ≡ true) where
  abbrev q : Past
  q = At c first second

  none_here : file_at (files_in (At c first second)) d ≡ None
  none_here = file_at-files_in (At c first second) d ∙ no_file_at (At c first second) d all dir

  abbrev is_new : Bool
  is_new = is_renewed c.changeset d || dirs_differ first second d

  -- ---- the unode itself

  pub dir_made : is_new ≡ true → unode_at (At c first second) d ≡ Manifest (parents_of first second d) c.id (unode_entries_on (At c first second) d)
  dir_made e = dir_node c first second d none_here ∙ ap (λ b. cond b (Manifest (parents_of first second d) c.id (unode_entries_on (At c first second) d)) (cond (has_dir first d) (unode_at first d) (cond (has_dir second d) (unode_at second d) no_unode))) e

  dir_left_as : is_new ≡ false → unode_at (At c first second) d ≡ cond (has_dir first d) (unode_at first d) (cond (has_dir second d) (unode_at second d) no_unode)
  dir_left_as e = dir_node c first second d none_here ∙ ap (λ b. cond b (Manifest (parents_of first second d) c.id (unode_entries_on (At c first second) d)) (cond (has_dir first d) (unode_at first d) (cond (has_dir second d) (unode_at second d) no_unode))) e

  pub dir_of_first : is_new ≡ false → has_dir first d ≡ true → unode_at (At c first second) d ≡ unode_at first d
  dir_of_first e h = dir_left_as e ∙ ap (λ b. cond b (unode_at first d) (cond (has_dir second d) (unode_at second d) no_unode)) h

  pub dir_of_second : is_new ≡ false → has_dir first d ≡ false → has_dir second d ≡ true → unode_at (At c first second) d ≡ unode_at second d
  dir_of_second e h k = dir_left_as e ∙ (λ i. cond (h i) (unode_at first d) (cond (k i) (unode_at second d) no_unode))

  -- ---- its entries, where it is kept

  module _ (still : is_renewed c.changeset d ≡ false) where
    deep_here : (length d == 0) ≡ false
    deep_here = (or_parts (length d == 0) (list_any (λ e. is_strict_prefix d e.0) c.changeset.changes) still).0

    abbrev new_at : Name → Option UnodeEntry
    new_at n = option_map (new_file c.id (d ++ n ∷ []) (seen_on first (d ++ n ∷ [])) (seen_on second (d ++ n ∷ []))) (file_at (files_in (At c first second)) (d ++ n ∷ []))

    child : (n : Name) → unode_joined (new_at n) (unode_made_on (At c first second) (d ++ n ∷ [])) (seen_on first (d ++ n ∷ [])) (seen_on second (d ++ n ∷ [])) ≡ seen_on (At c first second) (d ++ n ∷ [])
    child n = unedited c first second all d n (unode_made_on (At c first second) (d ++ n ∷ [])) (λ _ _. refl)
        (find_none d (d ++ n ∷ []) c.changeset.changes (under_dir d n) (outside_of c first second d all still dir))
        (none_deeper d (d ++ n ∷ []) (prefix_itself d (n ∷ [])) c.changeset.changes (outside_of c first second d all still dir))
        (uncovered_of c first second d all still dir)

    same_as : (past : Past) → ((n : Name) → seen_on (At c first second) (d ++ n ∷ []) ≡ seen_on past (d ++ n ∷ [])) → unode_entries_on past d ≡ unode_entries_on (At c first second) d
    same_as past e = same_found (unode_entries_on past d) (unode_entries_on (At c first second) d) (rise_on past d) (rise_on (At c first second) d) (λ n. found_on past d n ∙ sym (e n) ∙ sym (found_on (At c first second) d n))

    alone_first : has_dir second d ≡ false → unode_entries_on first d ≡ unode_entries_on (At c first second) d
    alone_first k = same_as first (λ n. sym (child n) ∙ joined_left (new_at n) (unode_made_on (At c first second) (d ++ n ∷ [])) (seen_on first (d ++ n ∷ [])) (seen_on second (d ++ n ∷ [])) (nothing_seen second d n (had_not second d deep_here k)))

    alone_second : has_dir first d ≡ false → unode_entries_on second d ≡ unode_entries_on (At c first second) d
    alone_second h = same_as second (λ n. sym (child n) ∙ joined_right (new_at n) (unode_made_on (At c first second) (d ++ n ∷ [])) (seen_on first (d ++ n ∷ [])) (seen_on second (d ++ n ∷ [])) (nothing_seen first d n (had_not first d deep_here h)))

    of_both : unode_entries_on first d ≡ unode_entries_on second d → unode_entries_on first d ≡ unode_entries_on (At c first second) d
    of_both e = same_as first (λ n. sym (child n)
        ∙ (λ i. unode_joined (new_at n) (unode_made_on (At c first second) (d ++ n ∷ [])) (seen_on first (d ++ n ∷ [])) (equal n i))
        ∙ joined_same (new_at n) (unode_made_on (At c first second) (d ++ n ∷ [])) (seen_on first (d ++ n ∷ [])))
      where
        equal : (n : Name) → seen_on second (d ++ n ∷ []) ≡ seen_on first (d ++ n ∷ [])
        equal n = sym (found_on second d n) ∙ ap (find_key name_cmp n) (sym e) ∙ found_on first d n

  abbrev Has : Past → Type 0
  Has past = has_dir past d ≡ true → entries_of (unode_at past d) ≡ unode_entries_on past d

  entries_kept : is_renewed c.changeset d ≡ false → dirs_differ first second d ≡ false → AreApart first second → Has first → Has second → is_new ≡ false → (a b : Bool) → has_dir first d ≡ a → has_dir second d ≡ b
      → entries_of (unode_at (At c first second) d) ≡ unode_entries_on (At c first second) d
  entries_kept still same apart one two old true true h k =
      ap entries_of (dir_of_first old h) ∙ one h
      ∙ of_both still (sym (one h) ∙ ap entries_of (apart.unodes d h k equal) ∙ two k)
    where
      equal : unode_id (unode_at first d) ≡ unode_id (unode_at second d)
      equal = same_name (unode_id (unode_at first d)) (unode_id (unode_at second d)) (not_false (bytes_eq (unode_id (unode_at first d)) (unode_id (unode_at second d)))
          (sym (λ i. h i && (k i && not (bytes_eq (unode_id (unode_at first d)) (unode_id (unode_at second d))))) ∙ same))
  entries_kept still same apart one two old true false h k = ap entries_of (dir_of_first old h) ∙ one h ∙ alone_first still k
  entries_kept still same apart one two old false true h k = ap entries_of (dir_of_second old h k) ∙ two k ∙ alone_second still h
  entries_kept still same apart one two old false false h k = absurd (true≢false (sym (was_either c first second d all still dir) ∙ (λ i. h i || k i)))

  entries_by : AreApart first second → Has first → Has second → (b : Bool) → is_new ≡ b → entries_of (unode_at (At c first second) d) ≡ unode_entries_on (At c first second) d
  entries_by apart one two true e = ap entries_of (dir_made e)
  entries_by apart one two false e =
      let parts = or_parts (is_renewed c.changeset d) (dirs_differ first second d) e in
      entries_kept parts.0 parts.1 apart one two e (has_dir first d) (has_dir second d) refl refl

-- the entries of a directory's unode are those of the directory, also where the node is older
pub entries_on : (past : Past) → AreResolved past → AreAllApart past → (d : Path) → has_dir past d ≡ true → entries_of (unode_at past d) ≡ unode_entries_on past d
entries_on Begin all apart d h = absurd (true≢false (sym h))
entries_on (At c first second) all apart d h = entries_by c first second all d h apart.0 (entries_on first all.1 apart.1 d) (entries_on second all.2 apart.2 d) (is_renewed c.changeset d || dirs_differ first second d) refl

pub entries_rise : (past : Past) (d : Path) → AreResolved past → AreAllApart past → has_dir past d ≡ true → is_sorted name_cmp (entries_of (unode_at past d)) ≡ true
entries_rise past d all apart h = ap (is_sorted name_cmp) (entries_on past all apart d h) ∙ rise_on past d

pub entries_found : (past : Past) (d : Path) (es : List (Name × UnodeEntry)) → AreResolved past → AreAllApart past → has_dir past d ≡ true → is_sorted name_cmp es ≡ true → ((n : Name) → find_key name_cmp n es ≡ unode_entry_at (unode_at past d) n) → es ≡ entries_of (unode_at past d)
entries_found past d es all apart h sorted found = same_found es (entries_of (unode_at past d)) sorted (entries_rise past d all apart h) found

pub entry_there : (past : Past) (d : Path) (n : Name) → AreResolved past → AreAllApart past → has_dir past d ≡ true → unode_entry_at (unode_at past d) n ≡ seen_on past (d ++ n ∷ [])
entry_there past d n all apart h = ap (find_key name_cmp n) (entries_on past all apart d h) ∙ found_on past d n

pub entry_on : (past : Past) (d : Path) (n : Name) → AreResolved past → AreAllApart past → unode_entry_on past d n ≡ seen_on past (d ++ n ∷ [])
entry_on Begin d n all apart = λ i. unode_entry_for None (ap (λ b. b || false) (sym (not_root d n)) i) (unode_id (unode_at Begin (d ++ n ∷ [])))
entry_on (At c first second) d n all apart = by (is_dir (files_in (At c first second)) d) refl
  where
    by : (b : Bool) → is_dir (files_in (At c first second)) d ≡ b → cond b (unode_entry_at (unode_at (At c first second) d) n) None ≡ seen_on (At c first second) (d ++ n ∷ [])
    by true h = entry_there (At c first second) d n all apart h
    by false h = sym (nothing_seen (At c first second) d n h)

-- ---- a directory that is there isn't covered

pub uncovered_dir : (c : Known) (first second : Past) (d : Path) → AreResolved (At c first second) → is_dir (files_in (At c first second)) d ≡ true → is_covered c.changeset d ≡ false
uncovered_dir c first second d all dir = false_from_ne_true (is_covered c.changeset d) (λ covered. (
    let m = merges c first second all in
    let found = cover_found d c.changeset.changes m.edits covered in
    by d (length d == 0) refl dir found.0 found.1 found.2 (set_is c.changeset (files_in (At c first second)) (files_in first) (files_in second) m found.0 found.1 found.3)))
  where
    rooted : (d : Path) → (length d == 0) ≡ true → (r : Path) (f : File) → is_prefix r d ≡ true → file_at (files_in (At c first second)) r ≡ Some f → ⊥
    rooted [] short [] f inside there = none_some f (sym (file_at-files_in (At c first second) [] ∙ no_root (At c first second) all) ∙ there)
    rooted [] short (k ∷ r) f inside there = absurd (true≢false (sym inside))
    rooted (e ∷ d) short r f inside there = true_and_false (length (e ∷ d) == 0) short (ne_eqb (length (e ∷ d)) 0 (λ k. absurd (omega (arith, k))))

    by : (d : Path) (b : Bool) → (length d == 0) ≡ b → is_dir (files_in (At c first second)) d ≡ true → (r : Path) (f : File) → is_prefix r d ≡ true → file_at (files_in (At c first second)) r ≡ Some f → ⊥
    by d true short dir r f inside there = rooted d short r f inside there
    by d false deep dir r f inside there =
        let under = file_under (files_in (At c first second)) d deep dir in
        none_some under.1 (sym (flat (At c first second) all r under.0 f (strict_under r d under.0 inside under.2) there) ∙ under.3)

-- ---- after a changeset

pub unode_entry_after_merge : (c : Known) (first second : Past) (d : Path) (n : Name) (made : Option UnodeEntry) → AreResolved (At c first second) → AreAllApart (At c first second) → is_dir (files_in (At c first second)) d ≡ true
    → (list_any (λ e. is_strict_prefix (d ++ n ∷ []) e.0) c.changeset.changes ≡ true → made ≡ unode_made_on (At c first second) (d ++ n ∷ []))
    → (unode_differ (unode_entry_on first d n) (unode_entry_on second d n) ≡ true → is_dir (files_in (At c first second)) (d ++ n ∷ []) ≡ true → made ≡ unode_made_on (At c first second) (d ++ n ∷ []))
    → unode_merged c.id (file_of_entry (fs_entry_at (fsnode (files_in (At c first second)) d) n)) made (d ++ n ∷ []) c.changeset.changes (unode_entry_on first d n) (unode_entry_on second d n) ≡ unode_entry_at (unode_at (At c first second) d) n
unode_entry_after_merge c first second d n made all apart dir due other =
    (λ i. unode_merged c.id (sym (file_by_entry (files_in (At c first second)) d n) i) made (d ++ n ∷ []) c.changeset.changes (entry_on first d n all.1 apart.1 i) (entry_on second d n all.2 apart.2 i))
    ∙ unode_after c first second all d n made (uncovered_dir c first second d all dir) due (λ h there. other ((λ i. unode_differ (entry_on first d n all.1 apart.1 i) (entry_on second d n all.2 apart.2 i)) ∙ h) there)
    ∙ sym (entry_there (At c first second) d n all apart dir)

-- ---- a file's unode

module _ (c : Known) (first second : Past) (p : Path) (f : File) (there : tree_of (At c first second) p ≡ Some f) where
  abbrev is_new_one : Bool
  is_new_one = is_some (set_at c.changeset p) || files_differ first second p

  file_there : file_at (files_in (At c first second)) p ≡ Some f
  file_there = file_at-files_in (At c first second) p ∙ there

  by_new : (b : Bool) → is_new_one ≡ b → unode_at (At c first second) p ≡ cond b (FileUnode (file_parents_of first second p) f.content f.kind (sha256 (text_of p)) c.id) (cond (is_file (files_in first) p) (unode_at first p) (cond (is_file (files_in second) p) (unode_at second p) no_unode))
  by_new b e = file_node c first second p f file_there ∙ ap (λ b. cond b (FileUnode (file_parents_of first second p) f.content f.kind (sha256 (text_of p)) c.id) (cond (is_file (files_in first) p) (unode_at first p) (cond (is_file (files_in second) p) (unode_at second p) no_unode))) e

  pub file_made : is_new_one ≡ true → unode_at (At c first second) p ≡ FileUnode (file_parents_of first second p) f.content f.kind (sha256 (text_of p)) c.id
  file_made e = by_new true e

  pub file_of_first : is_new_one ≡ false → is_file (files_in first) p ≡ true → unode_at (At c first second) p ≡ unode_at first p
  file_of_first e h = by_new false e ∙ ap (λ b. cond b (unode_at first p) (cond (is_file (files_in second) p) (unode_at second p) no_unode)) h

  pub file_of_second : is_new_one ≡ false → is_file (files_in first) p ≡ false → is_file (files_in second) p ≡ true → unode_at (At c first second) p ≡ unode_at second p
  file_of_second e h k = by_new false e ∙ (λ i. cond (h i) (unode_at first p) (cond (k i) (unode_at second p) no_unode))
