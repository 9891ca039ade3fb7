-- One changeset more: which directories are there, and the fsnodes from the parent's.
use Rattle.std.proofs.Common.{◌≡◌, ℕ, zero, suc, ◌+◌, ◌<◌, ◌≤◌, Bool, true, false, cond, not, ◌&&◌, ◌||◌, List, [], ◌∷◌, ◌++◌, map, length, reverse, refl, sym, ap, subst, ◌∙◌, arith}
use Rattle.std.specs.Prelude.{Option, Some, None, is_some, nat_lt, ◌==◌}
use mathlib.Core.Bool.{true≢false}
use Rattle.std.specs.List.{list_any}
use Rattle.std.specs.Option.{option_map_or}
use Rattle.std.specs.Ordering.{eq_by_cmp}
use Rattle.std.proofs.lemmas.Bool.{and_from, and_right, or_parts, or_left, or_right, ltb-false, false_from_ne_true, eqb-true}
use Rattle.std.proofs.lemmas.List.{length_push}
use Rattle.changeset_model.specs.Path.{Path, path_cmp, path_eq, is_prefix, is_strict_prefix, comparable}
use Rattle.changeset_model.specs.Changeset.{File, FileChange, Set, Delete, Changeset, set_at}
use Rattle.history_model.specs.History.{Known}
use Rattle.history_model.specs.Chain.{changesets}
use Rattle.history_model.specs.Tree.{decides_at, tree, files, file_at, is_file, is_dir, below, names, children, depth}
use Rattle.manifest_model.specs.Fsnode.{Fsnode, FsEntry, FsFile, fs_dir, fsnode}
use Rattle.manifest_model.specs.Unode.{is_renewed}
use Rattle.manifest_model.proofs.Derivations.{tied_same}
use Rattle.manifest_model.proofs.Links.{file_at-files}
use Rattle.manifest_laws.specs.Changes.{AreClear, covers, is_covered, tree_at, files_in}
use Rattle.manifest_laws.specs.Entries.{fs_entry_at}
use Rattle.manifest_laws.specs.Steps.{fsnode_by, fsnode_after, fsnode_on}
use Rattle.manifest_laws.proofs.Under.{Files, IsWithin, within_depth}
use Rattle.manifest_laws.proofs.Names.{Name, file_at-below, among_names}
use Rattle.manifest_laws.proofs.Changes.{prefix_trans, prefixes_compare, equal_prefix, one_more, undecided_kept}
use Rattle.manifest_laws.proofs.Flat.{set_decides, prefix_short, strict_then, strict_parts, unset_under, file_under, dir_from, has_under}
use Rattle.manifest_laws.proofs.Fsnodes as fsnodes
use Rattle.manifest_laws.proofs.Unodes.{keyed_same, chain_more, clear_snoc, clear_chain}
use Rattle.history_model.proofs.Landings.{prefix_self}
use Rattle.manifest_laws.proofs.Summaries.{summary_of_tree}
use Rattle.manifest_laws.proofs.Lists.{true_and_false, map_map, none_some, and_true}
use Rattle.manifest_model.proofs.Derivations.{or_case as or_either}

-- ---- which directories are there

uncovered_at : (d p r : Path) (change : FileChange) → is_strict_prefix d p ≡ true → is_strict_prefix d r ≡ false → covers (r, change) d ≡ false → decides_at change r p ≡ false
uncovered_at d p r (Set f copied) under outside h =
    false_from_ne_true (comparable r p) (λ g. or_either (is_prefix r p) (is_prefix p r)
    (λ k. or_either (is_prefix r d) (is_prefix d r)
    (λ l. true_and_false (is_prefix r d) l h)
    (λ l. longer l (nat_lt (length d) (length r)) refl)
    (prefixes_compare d r p (strict_parts d p under).0 k))
    (λ k. true_and_false (is_strict_prefix d r) (strict_then d p r under k) outside) g)
  where
    longer : is_prefix d r ≡ true → (b : Bool) → nat_lt (length d) (length r) ≡ b → ⊥
    longer l true e = true_and_false (is_strict_prefix d r) (and_from (is_prefix d r) (nat_lt (length d) (length r)) l e) outside
    longer l false e = true_and_false (is_prefix r d) (prefix_short d r l (ltb-false (length d) (length r) e)) h
uncovered_at d p r Delete under outside h = false_from_ne_true (path_eq r p) (λ g. true_and_false (is_strict_prefix d r) (strict_then d p r under (equal_prefix r p g)) outside)

none_covers : (d p : Path) (es : List (Path × FileChange)) → is_strict_prefix d p ≡ true → list_any (λ e. is_strict_prefix d e.0) es ≡ false → list_any (λ e. covers e d) es ≡ false → list_any (λ e. decides_at e.1 e.0 p) es ≡ false
none_covers d p [] under outside h = refl
none_covers d p (e ∷ es) under outside h =
    let out = or_parts (is_strict_prefix d e.0) (list_any (λ e. is_strict_prefix d e.0) es) outside in
    let no = or_parts (covers e d) (list_any (λ e. covers e d) es) h in
    (λ i. uncovered_at d p e.0 e.1 under out.0 no.0 i || none_covers d p es under out.1 no.1 i)

covered_at : (d q r : Path) (change : FileChange) → is_prefix d q ≡ true → covers (r, change) d ≡ true → decides_at change r q ≡ true
covered_at d q r (Set f copied) inside h = or_left (is_prefix r q) (is_prefix q r) (prefix_trans r d q h inside)
covered_at d q r Delete inside h = absurd (true≢false (sym h))

some_covers : (d q : Path) (es : List (Path × FileChange)) → is_prefix d q ≡ true → list_any (λ e. covers e d) es ≡ true → list_any (λ e. decides_at e.1 e.0 q) es ≡ true
some_covers d q [] inside h = absurd (true≢false (sym h))
some_covers d q (e ∷ es) inside h =
    or_either (covers e d) (list_any (λ e. covers e d) es)
    (λ g. or_left (decides_at e.1 e.0 q) (list_any (λ e. decides_at e.1 e.0 q) es) (covered_at d q e.0 e.1 inside g))
    (λ g. or_right (decides_at e.1 e.0 q) (list_any (λ e. decides_at e.1 e.0 q) es) (some_covers d q es inside g)) h

pub both_ways : (a b : Bool) → (a ≡ true → b ≡ true) → (b ≡ true → a ≡ true) → a ≡ b
both_ways true b f g = sym (f refl)
both_ways false true f g = g refl
both_ways false false f g = refl

there_by : (cs : List Changeset) (c : Changeset) (d : Path) → (length d == 0) ≡ false → list_any (λ e. is_strict_prefix d e.0) c.changes ≡ false → (b : Bool) → is_covered c d ≡ b → is_dir (files (cs ++ c ∷ [])) d ≡ (is_dir (files cs) d && not b)
there_by cs c d deep outside true e =
    false_from_ne_true (is_dir (files (cs ++ c ∷ [])) d) (λ dir. (
    let found = file_under (cs ++ c ∷ []) d deep dir in
    let decided = some_covers d found.0 c.changes (strict_parts d found.0 found.2).0 e in
    none_some found.1 (sym (unset_under c d found.0 outside found.2) ∙ sym (one_more cs c found.0 ∙ ap (λ b. cond b (set_at c found.0) (tree cs found.0)) decided) ∙ found.3)))
    ∙ sym (and_right (is_dir (files cs) d) false refl)
there_by cs c d deep outside false e =
    both_ways (is_dir (files (cs ++ c ∷ [])) d) (is_dir (files cs) d)
    (λ dir. (let found = file_under (cs ++ c ∷ []) d deep dir in dir_from cs d found.0 found.1 found.2 (sym (kept found.0 found.2) ∙ found.3)))
    (λ dir. (let found = file_under cs d deep dir in dir_from (cs ++ c ∷ []) d found.0 found.1 found.2 (kept found.0 found.2 ∙ found.3)))
    ∙ and_true (is_dir (files cs) d)
  where
    kept : (q : Path) → is_strict_prefix d q ≡ true → tree (cs ++ c ∷ []) q ≡ tree cs q
    kept q under = undecided_kept cs c q (none_covers d q c.changes under outside e)

-- a directory of which nothing is renewed stays, but where a file is set at it or above it
pub there_after : (cs : List Changeset) (c : Changeset) (d : Path) → is_renewed c d ≡ false → is_dir (files (cs ++ c ∷ [])) d ≡ (is_dir (files cs) d && not (is_covered c d))
there_after cs c d h =
    let parts = or_parts (length d == 0) (list_any (λ e. is_strict_prefix d e.0) c.changes) h in
    there_by cs c d parts.0 parts.1 (is_covered c d) refl

pub set_there : (cs : List Changeset) (c : Changeset) (p : Path) (f : File) → set_at c p ≡ Some f → tree (cs ++ c ∷ []) p ≡ Some f
set_there cs c p f h = one_more cs c p ∙ ap (λ b. cond b (set_at c p) (tree cs p)) (set_decides c p p f h (or_left (is_prefix p p) (is_prefix p p) (prefix_self p))) ∙ h

pub set_entry : (cs : List Changeset) (c : Changeset) (d : Path) (n : Name) (f : File) → set_at c (d ++ n ∷ []) ≡ Some f → fs_entry_at (fsnode (files (cs ++ c ∷ [])) d) n ≡ Some (FsFile f)
set_entry cs c d n f h = fsnodes.entry_of_file (files (cs ++ c ∷ [])) d n f (file_at-files (cs ++ c ∷ []) (d ++ n ∷ []) ∙ set_there cs c (d ++ n ∷ []) f h)

-- ---- the fsnodes from the parent's

found_within_by : (n : ℕ) (q : Path) (f : Path × File) (fs : Files) → length f.0 ≤ n → (is_file fs q ≡ true → length q ≤ n) → (b : Bool) → eq_by_cmp path_cmp q f.0 ≡ b → is_some (cond b (Some f.1) (file_at fs q)) ≡ true → length q ≤ n
found_within_by n q f fs h ih true e g = subst (λ p. length p ≤ n) (sym (tied_same q f.0 e)) h
found_within_by n q f fs h ih false e g = ih g

found_within : (n : ℕ) (q : Path) (fs : Files) → IsWithin n fs → is_file fs q ≡ true → length q ≤ n
found_within n q [] h g = absurd (true≢false (sym g))
found_within n q (f ∷ fs) h g = found_within_by n q f fs h.0 (found_within n q fs h.1) (eq_by_cmp path_cmp q f.0) refl g

-- a directory that is there has no more elements than a path has
not_deeper : (fs : Files) (d : Path) → is_dir fs d ≡ true → length d ≤ depth fs
not_deeper fs d h = or_either (length d == 0) (list_any (λ f. is_strict_prefix d f.0) fs) root inside h
  where
    root : (length d == 0) ≡ true → length d ≤ depth fs
    root g = let none : length d ≡ 0 = eqb-true (length d) 0 g in omega arith

    inside : list_any (λ f. is_strict_prefix d f.0) fs ≡ true → length d ≤ depth fs
    inside g =
        let found = has_under fs d g in
        let long : length found.0 ≤ depth fs = found_within (depth fs) found.0 fs (within_depth fs) found.2 in
        let less : length d < length found.0 = (strict_parts d found.0 found.1).1 in
        omega arith

abbrev entry_by : (Name → Fsnode) → Name × Option File → Name × FsEntry
entry_by node child = (child.0, option_map_or FsFile child.1 (fs_dir (node child.0)))

step_entry : (now : Files) (d : Path) (n : Name) (node : Fsnode) → (is_dir now (d ++ n ∷ []) ≡ true → file_at now (d ++ n ∷ []) ≡ None → node ≡ fsnode now (d ++ n ∷ [])) → (o : Option File) → file_at now (d ++ n ∷ []) ≡ o → (is_some o || is_dir now (d ++ n ∷ [])) ≡ true → option_map_or FsFile o (fs_dir node) ≡ option_map_or FsFile o (fs_dir (fsnode now (d ++ n ∷ [])))
step_entry now d n node ih (Some f) e there = refl
step_entry now d n node ih None e there = ap fs_dir (ih there e)

-- where the nodes of the directories in it are right, its entries are
step_entries : (now : Files) (d : Path) (node : Name → Fsnode) → ((n : Name) → is_dir now (d ++ n ∷ []) ≡ true → file_at now (d ++ n ∷ []) ≡ None → node n ≡ fsnode now (d ++ n ∷ [])) → map (entry_by node) (children (below d now)) ≡ (fsnode now d).entries
step_entries now d node right =
    map_map (entry_by node) (λ n. (n, file_at (below d now) (n ∷ []))) (names (below d now))
    ∙ (λ i. map (λ n. (n, option_map_or FsFile (file_at-below d now (n ∷ []) i) (fs_dir (node n)))) (names (below d now)))
    ∙ keyed_same (λ n. option_map_or FsFile (file_at now (d ++ n ∷ [])) (fs_dir (node n))) (λ n. option_map_or FsFile (file_at now (d ++ n ∷ [])) (fs_dir (fsnode now (d ++ n ∷ [])))) (names (below d now))
    (λ n among. step_entry now d n (node n) (right n) (file_at now (d ++ n ∷ [])) refl (sym (among_names d now n) ∙ among))
    ∙ sym (fsnodes.entries_are now d ∙ fsnodes.keyed_entries now d)

after_by : (cs : List Changeset) (c : Changeset) (clear : AreClear (cs ++ c ∷ [])) (d : Path) → is_dir (files (cs ++ c ∷ [])) d ≡ true → tree (cs ++ c ∷ []) d ≡ None
    → (es : List (Name × FsEntry)) → es ≡ (fsnode (files (cs ++ c ∷ [])) d).entries → (b : Bool) → is_renewed c d ≡ b → cond b (fsnode_by es) (fsnode (files cs) d) ≡ fsnode (files (cs ++ c ∷ [])) d
after_by cs c clear d dir none es e true h =
    ap fsnode_by e ∙ (λ i. record { summary = sym (summary_of_tree (cs ++ c ∷ []) d clear none) i; entries = (fsnode (files (cs ++ c ∷ [])) d).entries })
after_by cs c clear d dir none es e false h = sym (fsnodes.unrenewed_node cs c d clear h dir)

after_is : (cs : List Changeset) (c : Changeset) → AreClear (cs ++ c ∷ []) → (deep : ℕ) (d : Path) → depth (files (cs ++ c ∷ [])) < deep + length d → is_dir (files (cs ++ c ∷ [])) d ≡ true → tree (cs ++ c ∷ []) d ≡ None
    → fsnode_after c (files (cs ++ c ∷ [])) (fsnode (files cs)) deep d ≡ fsnode (files (cs ++ c ∷ [])) d
after_is cs c clear zero d h dir none = absurd (let short = not_deeper (files (cs ++ c ∷ [])) d dir in omega (arith, short))
after_is cs c clear (suc deep) d h dir none =
    let now = files (cs ++ c ∷ []) in
    after_by cs c clear d dir none (map (entry_by (λ n. fsnode_after c now (fsnode (files cs)) deep (d ++ n ∷ []))) (children (below d now)))
    (step_entries now d (λ n. fsnode_after c now (fsnode (files cs)) deep (d ++ n ∷ []))
    (λ n inside alone. after_is cs c clear deep (d ++ n ∷ []) (let more : length (d ++ n ∷ []) ≡ length d + 1 = length_push d n in omega arith) inside (sym (file_at-files (cs ++ c ∷ []) (d ++ n ∷ [])) ∙ alone)))
    (is_renewed c d) refl

pub on_is : (cs : List Changeset) (c : Changeset) (d : Path) → AreClear (cs ++ c ∷ []) → is_dir (files (cs ++ c ∷ [])) d ≡ true → tree (cs ++ c ∷ []) d ≡ None → fsnode_on c (files (cs ++ c ∷ [])) (fsnode (files cs)) d ≡ fsnode (files (cs ++ c ∷ [])) d
on_is cs c d clear dir none = after_is cs c clear (depth (files (cs ++ c ∷ [])) + 1) d (omega arith) dir none

pub on_known : (c : Known) (older : List Known) (d : Path) → AreClear (changesets (c ∷ older)) → is_dir (files_in (c ∷ older)) d ≡ true → tree_at (c ∷ older) d ≡ None → fsnode_on c.changeset (files_in (c ∷ older)) (fsnode (files_in older)) d ≡ fsnode (files_in (c ∷ older)) d
on_known c older d clear dir none =
    let more = chain_more c older in
    ap (λ cs. fsnode_on c.changeset (files cs) (fsnode (files_in older)) d) more
    ∙ on_is (changesets (reverse older)) c.changeset d (clear_snoc (changesets (reverse older)) c.changeset (clear_chain older clear.1) clear.0) (ap (λ cs. is_dir (files cs) d) (sym more) ∙ dir) (ap (λ cs. tree cs d) (sym more) ∙ none)
    ∙ ap (λ cs. fsnode (files cs) d) (sym more)
