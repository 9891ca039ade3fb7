-- The unode of a directory, by its entries, its linknode and its parent.
use Rattle.std.proofs.Common.{◌≡◌, ℕ, zero, suc, ◌+◌, ◌-◌, ◌<◌, ◌≤◌, Bool, true, false, cond, ◌||◌, List, [], ◌∷◌, ◌++◌, map, length, drop, reverse, refl, sym, ap, subst, ◌∙◌, arith, add-one, ◌&&◌}
use Rattle.std.specs.Prelude.{Option, Some, None, find, bytes_eq, is_some, nat_lt, ◌==◌, option_map, unwrap_or}
use mathlib.Core.Bool.{true≢false}
use mathlib.Core.List.{reverse-cons}
use Rattle.std.specs.List.{AllByRecursion, list_any, cons_option}
use Rattle.std.specs.Option.{option_map_or}
use Rattle.std.specs.FinMap.{find as find_key}
use Rattle.std.proofs.lemmas.Bool.{or_left, or_right, or_parts, ltb-true, ltb-false, false_from_ne_true, ne_eqb}
use Rattle.std.proofs.lemmas.List.{map-append, length-drop, length_push}
use Rattle.sha2.specs.Sha256.{sha256}
use Rattle.changeset_model.specs.Path.{Path, text_of, is_prefix, is_strict_prefix}
use Rattle.changeset_model.specs.Changeset.{File, FileChange, Set, Delete, Changeset, set_at, self_conflict}
use Rattle.history_model.specs.History.{Known}
use Rattle.history_model.specs.Chain.{changesets}
use Rattle.history_model.specs.Tree.{decides, tree, files, file_at, is_file, is_dir, below, names, children, depth}
use Rattle.manifest_model.specs.Unode.{Unode, Manifest, FileUnode, UnodeEntry, UnodeFile, UnodeDir, is_renewed, unode_entry, linknode_of, no_unode, parents_by, file_unode, unode_within, was_file, was_dir, unode_id, unode, files_at}
use Rattle.manifest_model.proofs.Links.{file_at-files, unode_kept, unode_made, was_there, tree_on-cons}
use Rattle.manifest_laws.specs.Changes.{AreClear, reaches, is_reached, tree_at, files_in}
use Rattle.manifest_laws.specs.Entries.{unode_entries, entries_of, unode_entry_at, parents_on}
use Rattle.manifest_laws.proofs.Under.{Files, IsWithin, within_depth, no_children}
use Rattle.manifest_laws.proofs.Names.{Name, name_cmp, looked_up, file_by_below, dir_by_below, name_itself, is_among, keyed, file_at-below, among_names}
use Rattle.manifest_laws.proofs.Changes.{prefix_itself, none_decides, unreached}
use Rattle.manifest_laws.proofs.Flat.{IsLeft, set_decides, strict_under, is_left, left_below, unset_under, strict_from}
use Rattle.manifest_laws.proofs.Lists.{true_and_false, map_map}
use Rattle.manifest_model.proofs.Derivations.{or_case as or_either}
use Rattle.history_model.proofs.Landings.{prefix_self}
use Rattle.manifest_model.proofs.Links.{parents_are}

-- ---- how many elements more are allowed

rest_by : (n : ℕ) (d : Path) (f : Path × File) (rest : Files) (b : Bool) → n ≤ length d → length f.0 ≤ n → IsWithin 0 rest → IsWithin 0 (cons_option (cond b (Some (drop (length d) f.0, f.1)) None) rest)
rest_by n d f rest true h g hs = (let left : length (drop (length d) f.0) ≡ length f.0 - length d = length-drop (length d) f.0 in omega arith, hs)
rest_by n d f rest false h g hs = hs

none_longer : (n : ℕ) (d : Path) (fs : Files) → n ≤ length d → IsWithin n fs → IsWithin 0 (below d fs)
none_longer n d [] h g = tt
none_longer n d (f ∷ fs) h g = rest_by n d f (below d fs) (is_prefix d f.0) h g.0 (none_longer n d fs h g.1)

abbrev entry_by : (Name → Unode) → Name × Option File → Name × UnodeEntry
entry_by node child = (child.0, unode_entry child.1 (unode_id (node child.0)))

entries_same : (f g : Name → Unode) → ((n : Name) → f n ≡ g n) → (cs : List (Name × Option File)) → map (entry_by f) cs ≡ map (entry_by g) cs
entries_same f g e cs = λ i. map (entry_by (λ n. e n i)) cs

-- of a path with no path longer under it there are no entries, by whatever nodes, and else by equal ones
children_same : (f g : Name → Unode) (d : Path) (now : Files) → (length d < depth now → (n : Name) → f n ≡ g n) → (b : Bool) → nat_lt (length d) (depth now) ≡ b → map (entry_by f) (children (below d now)) ≡ map (entry_by g) (children (below d now))
children_same f g d now e true h = entries_same f g (e (ltb-true (length d) (depth now) h)) (children (below d now))
children_same f g d now e false h =
    let none = no_children (below d now) (none_longer (depth now) d now (ltb-false (length d) (depth now) h) (within_depth now)) in
    ap (map (entry_by f)) none ∙ sym (ap (map (entry_by g)) none)

module _ (c : Known) (now : Files) (was_f was_d : Path → Option Unode) where
  abbrev node_by : (Name → Unode) → Path → Unode
  node_by node p = option_map_or (file_unode c now was_f was_d p) (file_at now p) (
      cond (is_renewed c.changeset p)
      (Manifest (parents_by c now was_f was_d (was_d p)) c.id (map (entry_by node) (children (below p now))))
      (unwrap_or (was_d p) no_unode))

  node_same : (f g : Name → Unode) (p : Path) → (length p < depth now → (n : Name) → f n ≡ g n) → node_by f p ≡ node_by g p
  node_same f g p e =
      ap (λ entries. option_map_or (file_unode c now was_f was_d p) (file_at now p) (cond (is_renewed c.changeset p) (Manifest (parents_by c now was_f was_d (was_d p)) c.id entries) (unwrap_or (was_d p) no_unode)))
      (children_same f g p now e (nat_lt (length p) (depth now)) refl)

  -- enough are enough
  within_same : (n m : ℕ) (p : Path) → 0 < n → 0 < m → depth now < n + length p → depth now < m + length p → unode_within c now was_f was_d n p ≡ unode_within c now was_f was_d m p
  within_same zero m p h g k l = absurd (omega arith)
  within_same (suc n) zero p h g k l = absurd (omega arith)
  within_same (suc n) (suc m) p h g k l =
      node_same (λ e. unode_within c now was_f was_d n (p ++ e ∷ [])) (λ e. unode_within c now was_f was_d m (p ++ e ∷ [])) p
      (λ less e. let more : length (p ++ e ∷ []) ≡ length p + 1 = length_push p e in within_same n m (p ++ e ∷ []) (omega arith) (omega arith) (omega arith) (omega arith))

  -- the unode of a path by those of its children
  node_is : (p : Path) → unode_within c now was_f was_d (depth now + 1) p ≡ node_by (λ e. unode_within c now was_f was_d (depth now + 1) (p ++ e ∷ [])) p
  node_is p =
      ap (λ n. unode_within c now was_f was_d n p) (add-one (depth now))
      ∙ node_same (λ e. unode_within c now was_f was_d (depth now) (p ++ e ∷ [])) (λ e. unode_within c now was_f was_d (depth now + 1) (p ++ e ∷ [])) p
      (λ less e. let more : length (p ++ e ∷ []) ≡ length p + 1 = length_push p e in within_same (depth now) (depth now + 1) (p ++ e ∷ []) (omega arith) (omega arith) (omega arith) (omega arith))

-- ---- a chain of one more

pub chain_more : (c : Known) (older : List Known) → changesets (reverse (c ∷ older)) ≡ changesets (reverse older) ++ c.changeset ∷ []
chain_more c older = ap changesets (reverse-cons c older) ∙ map-append (λ k. k.changeset) (reverse older) (c ∷ [])

pub clear_snoc : (cs : List Changeset) (c : Changeset) → AreClear cs → self_conflict c ≡ None → AreClear (cs ++ c ∷ [])
clear_snoc [] c h g = (g, tt)
clear_snoc (b ∷ cs) c h g = (h.0, clear_snoc cs c h.1 g)

pub clear_chain : (ks : List Known) → AreClear (changesets ks) → AreClear (changesets (reverse ks))
clear_chain [] h = tt
clear_chain (c ∷ older) h = subst AreClear (sym (chain_more c older)) (clear_snoc (changesets (reverse older)) c.changeset (clear_chain older h.1) h.0)

-- ---- a directory that is renewed

file_none : (ks : List Known) (d : Path) → tree_at ks d ≡ None → file_at (files_in ks) d ≡ None
file_none ks d e = file_at-files (changesets (reverse ks)) d ∙ e

pub renewed_is : (c : Known) (older : List Known) (d : Path) → tree_at (c ∷ older) d ≡ None → is_renewed c.changeset d ≡ true → unode (c ∷ older) d ≡ Manifest (parents_on older d) c.id (unode_entries (c ∷ older) d)
renewed_is c older d none renewed =
    let now = files_in (c ∷ older) in
    let was_f = was_file (files_at older) (unode older) in
    let was_d = was_dir (files_at older) (unode older) in
    node_is c now was_f was_d d
    ∙ (λ i. option_map_or (file_unode c now was_f was_d d) (file_none (c ∷ older) d none i) (
    cond (renewed i)
    (Manifest (parents_by c now was_f was_d (was_d d)) c.id (unode_entries (c ∷ older) d))
    (unwrap_or (was_d d) no_unode)))
    ∙ ap (λ parents. Manifest parents c.id (unode_entries (c ∷ older) d)) (parents_are (option_map_or (λ files. is_dir files d) (files_at older) false) (unode older d))

-- ---- a directory that isn't

pub left_of : (c : Known) (older : List Known) (d : Path) → AreClear (changesets (c ∷ older)) → is_renewed c.changeset d ≡ false → is_dir (files_in (c ∷ older)) d ≡ true → IsLeft (changesets (reverse older)) c.changeset d
left_of c older d clear h dir = is_left (changesets (reverse older)) c.changeset d (clear_snoc (changesets (reverse older)) c.changeset (clear_chain older clear.1) clear.0) h (ap (λ cs. is_dir (files cs) d) (sym (chain_more c older)) ∙ dir)

was_by : (older : List Known) (d : Path) → (length d == 0) ≡ false → is_dir (files_in older) d ≡ true → option_map_or (λ files. is_dir files d) (files_at older) false ≡ true
was_by [] d deep h = sym (ap (λ b. b || false) deep) ∙ h
was_by (b ∷ rest) d deep h = h

pub kept_is : (c : Known) (older : List Known) (d : Path) → AreClear (changesets (c ∷ older)) → is_renewed c.changeset d ≡ false → is_dir (files_in (c ∷ older)) d ≡ true → unode (c ∷ older) d ≡ unode older d
kept_is c older d clear h dir =
    let left = left_of c older d clear h dir in
    let now = files_in (c ∷ older) in
    let was_f = was_file (files_at older) (unode older) in
    let was_d = was_dir (files_at older) (unode older) in
    let none : tree_at (c ∷ older) d ≡ None = ap (λ cs. tree cs d) (chain_more c older) ∙ left.no_file_after in
    node_is c now was_f was_d d
    ∙ (λ i. option_map_or (file_unode c now was_f was_d d) (file_none (c ∷ older) d none i) (
    cond (h i)
    (Manifest (parents_by c now was_f was_d (was_d d)) c.id (unode_entries (c ∷ older) d))
    (unwrap_or (cond (was_by older d left.deep left.was_dir i) (Some (unode older d)) None) no_unode)))

-- ---- the entries

pub keyed_same : {X : Type 0} (f g : Name → X) (ns : List Name) → ((n : Name) → is_among n ns ≡ true → f n ≡ g n) → keyed f ns ≡ keyed g ns
keyed_same f g [] e = refl
keyed_same f g (n ∷ ns) e = λ i. (n, e n (or_left (bytes_eq n n) (is_among n ns) (name_itself n)) i) ∷ keyed_same f g ns (λ m h. e m (or_right (bytes_eq m n) (is_among m ns) h)) i

pub keyed_entries : (ks : List Known) (d : Path) → unode_entries ks d ≡ keyed (λ n. unode_entry (file_at (files_in ks) (d ++ n ∷ [])) (unode_id (unode ks (d ++ n ∷ [])))) (names (below d (files_in ks)))
keyed_entries ks d =
    map_map (entry_by (λ n. unode ks (d ++ n ∷ []))) (λ n. (n, file_at (below d (files_in ks)) (n ∷ []))) (names (below d (files_in ks)))
    ∙ (λ i. map (λ n. (n, unode_entry (file_at-below d (files_in ks) (n ∷ []) i) (unode_id (unode ks (d ++ n ∷ []))))) (names (below d (files_in ks))))

pub not_root : (d : Path) (n : Name) → (length (d ++ n ∷ []) == 0) ≡ false
not_root d n = let more : length (d ++ n ∷ []) ≡ length d + 1 = length_push d n in ne_eqb (length (d ++ n ∷ [])) 0 (λ e. absurd (omega (arith, e)))

under_name : (d : Path) (n : Name) → is_strict_prefix d (d ++ n ∷ []) ≡ true
under_name d n = strict_from d (d ++ n ∷ []) (prefix_itself d (n ∷ [])) (let more : length (d ++ n ∷ []) ≡ length d + 1 = length_push d n in omega arith)

none_deeper : (d e : Path) → is_prefix d e ≡ true → (es : List (Path × FileChange)) → list_any (λ e. is_strict_prefix d e.0) es ≡ false → list_any (λ f. is_strict_prefix e f.0) es ≡ false
none_deeper d e inside [] h = refl
none_deeper d e inside (f ∷ es) h =
    let parts = or_parts (is_strict_prefix d f.0) (list_any (λ e. is_strict_prefix d e.0) es) h in
    (λ i. outside parts.0 i || none_deeper d e inside es parts.1 i)
  where
    outside : is_strict_prefix d f.0 ≡ false → is_strict_prefix e f.0 ≡ false
    outside out = false_from_ne_true (is_strict_prefix e f.0) (λ g. true_and_false (is_strict_prefix d f.0) (strict_under d e f.0 inside g) out)

-- a child of a directory that isn't renewed keeps its unode
child_kept : (c : Known) (older : List Known) (d : Path) → AreClear (changesets (c ∷ older)) → is_renewed c.changeset d ≡ false → is_dir (files_in (c ∷ older)) d ≡ true
    → (n : Name) → is_among n (names (below d (files_in (c ∷ older)))) ≡ true → unode (c ∷ older) (d ++ n ∷ []) ≡ unode older (d ++ n ∷ [])
child_kept c older d clear h dir n among =
    let left = left_of c older d clear h dir in
    let unset = unset_under c.changeset d (d ++ n ∷ []) left.outside (under_name d n) in
    let still : is_renewed c.changeset (d ++ n ∷ []) ≡ false = λ i. not_root d n i || none_deeper d (d ++ n ∷ []) (prefix_itself d (n ∷ [])) c.changeset.changes left.outside i in
    or_either (is_file (files_in (c ∷ older)) (d ++ n ∷ [])) (is_dir (files_in (c ∷ older)) (d ++ n ∷ []))
    (λ g. by_file unset (file_at (files_in (c ∷ older)) (d ++ n ∷ [])) refl g)
    (λ g. kept_is c older (d ++ n ∷ []) clear still g)
    (sym (among_names d (files_in (c ∷ older)) n) ∙ among)
  where
    by_file : set_at c.changeset (d ++ n ∷ []) ≡ None → (o : Option File) → file_at (files_in (c ∷ older)) (d ++ n ∷ []) ≡ o → is_some o ≡ true → unode (c ∷ older) (d ++ n ∷ []) ≡ unode older (d ++ n ∷ [])
    by_file unset None e g = absurd (true≢false (sym g))
    by_file unset (Some f) e g = unode_kept c older (d ++ n ∷ []) f (sym (file_at-files (changesets (reverse (c ∷ older))) (d ++ n ∷ [])) ∙ e) unset

pub entries_kept : (c : Known) (older : List Known) (d : Path) → AreClear (changesets (c ∷ older)) → is_renewed c.changeset d ≡ false → is_dir (files_in (c ∷ older)) d ≡ true → unode_entries older d ≡ unode_entries (c ∷ older) d
entries_kept c older d clear h dir =
    let left = left_of c older d clear h dir in
    let same : below d (files_in older) ≡ below d (files_in (c ∷ older)) = sym (left_below (changesets (reverse older)) c.changeset d left) ∙ ap (λ cs. below d (files cs)) (sym (chain_more c older)) in
    (λ i. map (entry_by (λ n. unode older (d ++ n ∷ []))) (children (same i)))
    ∙ map_map (entry_by (λ n. unode older (d ++ n ∷ []))) (λ n. (n, file_at (below d (files_in (c ∷ older))) (n ∷ []))) (names (below d (files_in (c ∷ older))))
    ∙ keyed_same (λ n. unode_entry (file_at (below d (files_in (c ∷ older))) (n ∷ [])) (unode_id (unode older (d ++ n ∷ [])))) (λ n. unode_entry (file_at (below d (files_in (c ∷ older))) (n ∷ [])) (unode_id (unode (c ∷ older) (d ++ n ∷ [])))) (names (below d (files_in (c ∷ older))))
    (λ n among. ap (λ node. unode_entry (file_at (below d (files_in (c ∷ older))) (n ∷ [])) (unode_id node)) (sym (child_kept c older d clear h dir n among)))
    ∙ sym (map_map (entry_by (λ n. unode (c ∷ older) (d ++ n ∷ []))) (λ n. (n, file_at (below d (files_in (c ∷ older))) (n ∷ []))) (names (below d (files_in (c ∷ older)))))

entries_by : (c : Known) (older : List Known) (d : Path) → AreClear (changesets (c ∷ older)) → is_dir (files_in (c ∷ older)) d ≡ true → tree_at (c ∷ older) d ≡ None
    → (is_dir (files_in older) d ≡ true → tree_at older d ≡ None → entries_of (unode older d) ≡ unode_entries older d)
    → (b : Bool) → is_renewed c.changeset d ≡ b → entries_of (unode (c ∷ older) d) ≡ unode_entries (c ∷ older) d
entries_by c older d clear dir none ih true h = ap entries_of (renewed_is c older d none h)
entries_by c older d clear dir none ih false h =
    let left = left_of c older d clear h dir in
    ap entries_of (kept_is c older d clear h dir) ∙ ih left.was_dir left.no_file_before ∙ entries_kept c older d clear h dir

-- the entries of a directory's unode are those of the directory at the changeset, also where the node is older
pub entries_are : (ks : List Known) (d : Path) → AreClear (changesets ks) → is_dir (files_in ks) d ≡ true → tree_at ks d ≡ None → entries_of (unode ks d) ≡ unode_entries ks d
entries_are [] d clear dir none = refl
entries_are (c ∷ older) d clear dir none = entries_by c older d clear dir none (entries_are older d clear.1) (is_renewed c.changeset d) refl

-- ---- the linknode

abbrev renewer : List Known → Path → Option Known
renewer ks d = find (λ k. is_renewed k.changeset d) ks

pub not_empty : (d : Path) → (length d == 0) ≡ false → is_dir (files_in []) d ≡ true → ⊥
not_empty d deep h = true≢false (sym h ∙ ap (λ b. b || false) deep)

link_by : (c : Known) (older : List Known) (d : Path) → AreClear (changesets (c ∷ older)) → is_dir (files_in (c ∷ older)) d ≡ true → tree_at (c ∷ older) d ≡ None
    → ((length d == 0) ≡ false → is_dir (files_in older) d ≡ true → tree_at older d ≡ None → option_map (λ k. k.id) (renewer older d) ≡ Some (linknode_of (unode older d)))
    → (b : Bool) → is_renewed c.changeset d ≡ b → option_map (λ k. k.id) (cond b (Some c) (renewer older d)) ≡ Some (linknode_of (unode (c ∷ older) d))
link_by c older d clear dir none ih true h = ap (λ n. Some (linknode_of n)) (sym (renewed_is c older d none h))
link_by c older d clear dir none ih false h =
    let left = left_of c older d clear h dir in
    ih left.deep left.was_dir left.no_file_before ∙ ap (λ n. Some (linknode_of n)) (sym (kept_is c older d clear h dir))

link_deep : (ks : List Known) (d : Path) → AreClear (changesets ks) → (length d == 0) ≡ false → is_dir (files_in ks) d ≡ true → tree_at ks d ≡ None → option_map (λ k. k.id) (renewer ks d) ≡ Some (linknode_of (unode ks d))
link_deep [] d clear deep dir none = absurd (not_empty d deep dir)
link_deep (c ∷ older) d clear deep dir none = link_by c older d clear dir none (link_deep older d clear.1) (is_renewed c.changeset d) refl

-- a directory's unode was made by the last that renews it
pub link_is_renewer : (c : Known) (older : List Known) (d : Path) → AreClear (changesets (c ∷ older)) → is_dir (files_in (c ∷ older)) d ≡ true → tree_at (c ∷ older) d ≡ None → option_map (λ k. k.id) (renewer (c ∷ older) d) ≡ Some (linknode_of (unode (c ∷ older) d))
link_is_renewer c older d clear dir none = link_by c older d clear dir none (link_deep older d clear.1) (is_renewed c.changeset d) refl

-- ---- the entry of a name

abbrev found_here : List Known → Path → UnodeEntry
found_here ks p = unode_entry (file_at (files_in ks) p) (unode_id (unode ks p))

pub entry_is : (ks : List Known) (d : Path) (n : Name) → AreClear (changesets ks) → is_dir (files_in ks) d ≡ true → tree_at ks d ≡ None
    → unode_entry_at (unode ks d) n ≡ cond (is_file (files_in ks) (d ++ n ∷ []) || is_dir (files_in ks) (d ++ n ∷ [])) (Some (found_here ks (d ++ n ∷ []))) None
entry_is ks d n clear dir none =
    ap (find_key name_cmp n) (entries_are ks d clear dir none ∙ keyed_entries ks d)
    ∙ looked_up (λ n. found_here ks (d ++ n ∷ [])) n (names (below d (files_in ks)))
    ∙ ap (λ b. cond b (Some (found_here ks (d ++ n ∷ []))) None) (among_names d (files_in ks) n)

file_is : (ks : List Known) (p : Path) (o : Option File) → tree_at ks p ≡ o → file_at (files_in ks) p ≡ o
file_is ks p o e = file_at-files (changesets (reverse ks)) p ∙ e

pub entry_of_file : (ks : List Known) (d : Path) (n : Name) (f : File) → AreClear (changesets ks) → is_dir (files_in ks) d ≡ true → tree_at ks d ≡ None → tree_at ks (d ++ n ∷ []) ≡ Some f → unode_entry_at (unode ks d) n ≡ Some (UnodeFile (unode_id (unode ks (d ++ n ∷ []))))
entry_of_file ks d n f clear dir none e =
    entry_is ks d n clear dir none
    ∙ (λ i. cond (is_some (file_is ks (d ++ n ∷ []) (Some f) e i) || is_dir (files_in ks) (d ++ n ∷ [])) (Some (unode_entry (file_is ks (d ++ n ∷ []) (Some f) e i) (unode_id (unode ks (d ++ n ∷ []))))) None)

pub entry_of_dir : (ks : List Known) (d : Path) (n : Name) → AreClear (changesets ks) → is_dir (files_in ks) d ≡ true → tree_at ks d ≡ None → tree_at ks (d ++ n ∷ []) ≡ None → is_dir (files_in ks) (d ++ n ∷ []) ≡ true → unode_entry_at (unode ks d) n ≡ Some (UnodeDir (unode_id (unode ks (d ++ n ∷ []))))
entry_of_dir ks d n clear dir none e h =
    entry_is ks d n clear dir none
    ∙ (λ i. cond (is_some (file_is ks (d ++ n ∷ []) None e i) || h i) (Some (unode_entry (file_is ks (d ++ n ∷ []) None e i) (unode_id (unode ks (d ++ n ∷ []))))) None)

pub entry_of_nothing : (ks : List Known) (d : Path) (n : Name) → AreClear (changesets ks) → is_dir (files_in ks) d ≡ true → tree_at ks d ≡ None → tree_at ks (d ++ n ∷ []) ≡ None → is_dir (files_in ks) (d ++ n ∷ []) ≡ false → unode_entry_at (unode ks d) n ≡ None
entry_of_nothing ks d n clear dir none e h =
    entry_is ks d n clear dir none
    ∙ (λ i. cond (is_some (file_is ks (d ++ n ∷ []) None e i) || h i) (Some (unode_entry (file_is ks (d ++ n ∷ []) None e i) (unode_id (unode ks (d ++ n ∷ []))))) None)

-- ---- since the last change

-- the unode of a directory, by the last changeset that renews it
pub since_renewed : (newer : List Known) (c : Known) (older : List Known) (d : Path) → AreClear (changesets (newer ++ c ∷ older)) → is_dir (files_in (newer ++ c ∷ older)) d ≡ true → tree_at (newer ++ c ∷ older) d ≡ None
    → AllByRecursion (λ k. is_renewed k.changeset d ≡ false) newer → is_renewed c.changeset d ≡ true → unode (newer ++ c ∷ older) d ≡ Manifest (parents_on older d) c.id (unode_entries (newer ++ c ∷ older) d)
since_renewed [] c older d clear dir none later renewed = renewed_is c older d none renewed
since_renewed (k ∷ newer) c older d clear dir none later renewed =
    let left = left_of k (newer ++ c ∷ older) d clear later.0 dir in
    kept_is k (newer ++ c ∷ older) d clear later.0 dir
    ∙ since_renewed newer c older d clear.1 left.was_dir left.no_file_before later.1 renewed
    ∙ ap (Manifest (parents_on older d) c.id) (entries_kept k (newer ++ c ∷ older) d clear later.0 dir)

-- the unode of a file, by the last changeset that sets it
pub since_set : (newer : List Known) (c : Known) (older : List Known) (p : Path) (f g : File) → tree_at (newer ++ c ∷ older) p ≡ Some f
    → AllByRecursion (λ k. set_at k.changeset p ≡ None) newer → set_at c.changeset p ≡ Some g → unode (newer ++ c ∷ older) p ≡ FileUnode (cond (is_some (tree_at older p)) (unode_id (unode older p) ∷ []) []) f.content f.kind (sha256 (text_of p)) c.id
since_set [] c older p f g at later sets = unode_made c older p f g at sets
since_set (k ∷ newer) c older p f g at later sets =
    unode_kept k (newer ++ c ∷ older) p f at later.0
    ∙ since_set newer c older p f g (was_there (changesets (reverse (newer ++ c ∷ older))) k.changeset p f later.0 (sym (tree_on-cons k (newer ++ c ∷ older) p) ∙ at)) later.1 sets

-- ---- an entry that a changeset doesn't reach

unset : (c : Changeset) (p : Path) → is_reached c p ≡ false → set_at c p ≡ None
unset c p h = by (set_at c p) refl
  where
    by : (o : Option File) → set_at c p ≡ o → set_at c p ≡ None
    by None e = e
    by (Some f) e = true_and_false (decides c p) (set_decides c p p f e (or_left (is_prefix p p) (is_prefix p p) (prefix_self p))) (none_decides p p (prefix_self p) c.changes h)

outside_of : (d : Path) (e : Path × FileChange) → reaches e d ≡ false → is_strict_prefix d e.0 ≡ false
outside_of d (p, Set f copied) h = ap (λ b. b && nat_lt (length d) (length p)) (or_parts (is_prefix p d) (is_prefix d p) h).1
outside_of d (p, Delete) h = ap (λ b. b && nat_lt (length d) (length p)) h

none_outside : (d : Path) (es : List (Path × FileChange)) → list_any (λ e. reaches e d) es ≡ false → list_any (λ e. is_strict_prefix d e.0) es ≡ false
none_outside d [] h = refl
none_outside d (e ∷ es) h = let parts = or_parts (reaches e d) (list_any (λ e. reaches e d) es) h in (λ i. outside_of d e parts.0 i || none_outside d es parts.1 i)

-- where it is there, what is at a path that a changeset doesn't reach keeps its unode
pub unreached_kept : (c : Known) (older : List Known) (d : Path) (n : Name) → AreClear (changesets (c ∷ older)) → is_reached c.changeset (d ++ n ∷ []) ≡ false
    → (is_file (files_in (c ∷ older)) (d ++ n ∷ []) || is_dir (files_in (c ∷ older)) (d ++ n ∷ [])) ≡ true → unode (c ∷ older) (d ++ n ∷ []) ≡ unode older (d ++ n ∷ [])
unreached_kept c older d n clear h there =
    let still : is_renewed c.changeset (d ++ n ∷ []) ≡ false = λ i. not_root d n i || none_outside (d ++ n ∷ []) c.changeset.changes h i in
    or_either (is_file (files_in (c ∷ older)) (d ++ n ∷ [])) (is_dir (files_in (c ∷ older)) (d ++ n ∷ []))
    (λ g. by_file (file_at (files_in (c ∷ older)) (d ++ n ∷ [])) refl g)
    (λ g. kept_is c older (d ++ n ∷ []) clear still g) there
  where
    by_file : (o : Option File) → file_at (files_in (c ∷ older)) (d ++ n ∷ []) ≡ o → is_some o ≡ true → unode (c ∷ older) (d ++ n ∷ []) ≡ unode older (d ++ n ∷ [])
    by_file None e g = absurd (true≢false (sym g))
    by_file (Some f) e g = unode_kept c older (d ++ n ∷ []) f (sym (file_at-files (changesets (reverse (c ∷ older))) (d ++ n ∷ [])) ∙ e) (unset c.changeset (d ++ n ∷ []) h)

guarded : {X : Type 0} (b : Bool) (x y : X) → (b ≡ true → x ≡ y) → cond b (Some x) None ≡ cond b (Some y) None
guarded true x y e = ap Some (e refl)
guarded false x y e = refl

pub entry_left : (c : Known) (older : List Known) (d : Path) (n : Name) → AreClear (changesets (c ∷ older)) → is_dir (files_in (c ∷ older)) d ≡ true → tree_at (c ∷ older) d ≡ None → is_dir (files_in older) d ≡ true → tree_at older d ≡ None
    → is_reached c.changeset (d ++ n ∷ []) ≡ false → unode_entry_at (unode (c ∷ older) d) n ≡ unode_entry_at (unode older d) n
entry_left c older d n clear dir none was_dir was_none h =
    let same : below (d ++ n ∷ []) (files_in (c ∷ older)) ≡ below (d ++ n ∷ []) (files_in older) = ap (λ cs. below (d ++ n ∷ []) (files cs)) (chain_more c older) ∙ unreached (changesets (reverse older)) c.changeset (d ++ n ∷ []) h in
    entry_is (c ∷ older) d n clear dir none
    ∙ guarded (is_file (files_in (c ∷ older)) (d ++ n ∷ []) || is_dir (files_in (c ∷ older)) (d ++ n ∷ [])) (found_here (c ∷ older) (d ++ n ∷ [])) (unode_entry (file_at (files_in (c ∷ older)) (d ++ n ∷ [])) (unode_id (unode older (d ++ n ∷ []))))
    (λ there. ap (λ node. unode_entry (file_at (files_in (c ∷ older)) (d ++ n ∷ [])) (unode_id node)) (unreached_kept c older d n clear h there))
    ∙ (λ i. cond (is_some (file_by_below (files_in (c ∷ older)) (files_in older) (d ++ n ∷ []) same i) || dir_by_below (files_in (c ∷ older)) (files_in older) (d ++ n ∷ []) same i)
    (Some (unode_entry (file_by_below (files_in (c ∷ older)) (files_in older) (d ++ n ∷ []) same i) (unode_id (unode older (d ++ n ∷ []))))) None)
    ∙ sym (entry_is older d n clear.1 was_dir was_none)

pub root_is_new : (c : Known) (older : List Known) → tree_at (c ∷ older) [] ≡ None → linknode_of (unode (c ∷ older) []) ≡ c.id
root_is_new c older none = ap linknode_of (renewed_is c older [] none refl)
