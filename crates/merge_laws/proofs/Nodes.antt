-- The unode of a path after a changeset with two parents, by those of both.
use Rattle.std.proofs.Common.{◌≡◌, ℕ, zero, suc, ◌+◌, ◌-◌, ◌<◌, ◌≤◌, Bool, true, false, cond, not, ◌&&◌, ◌||◌, List, [], ◌∷◌, ◌++◌, map, length, drop, refl, sym, ap, ◌∙◌, arith, add-one}
use Rattle.std.specs.Prelude.{Option, Some, None, filter_map, bytes_eq, is_some, nat_lt}
use Rattle.std.specs.List.{cons_option, dedup}
use Rattle.std.specs.Option.{option_map_or}
use Rattle.std.specs.Cmp.Lexicographic.{nat_list_eq_equiv}
use Rattle.std.proofs.lemmas.Bool.{ltb-true, ltb-false}
use Rattle.std.proofs.lemmas.List.{length-drop, length_push}
use Rattle.sha2.specs.Sha256.{sha256}
use Rattle.byte_fields.specs.Bytes.{Id}
use Rattle.changeset_model.specs.Path.{Path, text_of, is_prefix}
use Rattle.changeset_model.specs.Changeset.{File, set_at}
use Rattle.history_model.specs.History.{Known}
use Rattle.history_model.specs.Past.{Past, Begin, At}
use Rattle.history_model.specs.Tree.{files_in, file_at, is_file, is_dir, below, children, depth}
use Rattle.manifest_model.specs.Unode.{Unode, UnodeEntry, Manifest, FileUnode, is_renewed, no_unode, unode_entry, unode_id}
use Rattle.manifest_model.specs.Merged.{Side, files_before, dirs_before, parents_from, differ, kept, is_new_dir, file_unode_on, merged_within, side_of, unode_at}
use Rattle.manifest_laws.proofs.Names.{Name}
use Rattle.manifest_laws.proofs.Under.{IsWithin, within_depth, no_children}
use Rattle.merge_laws.specs.Resolved.{has_dir}
use Rattle.merge_laws.specs.Joined.{unode_entries_on}
use Rattle.merge_laws.proofs.Trees.{Files}

-- ---- how many elements more are allowed

rest_by : (n : ℕ) (d : Path) (f : Path × File) (rest : Files) (b : Bool) → n ≤ length d → length f.0 ≤ n → IsWithin 0 rest → IsWithin 0 (cons_option (cond b (Some (drop (length d) f.0, f.1)) None) rest)
rest_by n d f rest true h g hs = (let left : length (drop (length d) f.0) ≡ length f.0 - length d = length-drop (length d) f.0 in omega arith, hs)
rest_by n d f rest false h g hs = hs

none_longer : (n : ℕ) (d : Path) (fs : Files) → n ≤ length d → IsWithin n fs → IsWithin 0 (below d fs)
none_longer n d [] h g = tt
none_longer n d (f ∷ fs) h g = rest_by n d f (below d fs) (is_prefix d f.0) h g.0 (none_longer n d fs h g.1)

abbrev entry_by : (Name → Unode) → Name × Option File → Name × UnodeEntry
entry_by node child = (child.0, unode_entry child.1 (unode_id (node child.0)))

entries_same : (f g : Name → Unode) → ((n : Name) → f n ≡ g n) → (cs : List (Name × Option File)) → map (entry_by f) cs ≡ map (entry_by g) cs
entries_same f g e cs = λ i. map (entry_by (λ n. e n i)) cs

children_same : (f g : Name → Unode) (d : Path) (now : Files) → (length d < depth now → (n : Name) → f n ≡ g n) → (b : Bool) → nat_lt (length d) (depth now) ≡ b → map (entry_by f) (children (below d now)) ≡ map (entry_by g) (children (below d now))
children_same f g d now e true h = entries_same f g (e (ltb-true (length d) (depth now) h)) (children (below d now))
children_same f g d now e false h =
    let none = no_children (below d now) (none_longer (depth now) d now (ltb-false (length d) (depth now) h) (within_depth now)) in
    ap (map (entry_by f)) none ∙ sym (ap (map (entry_by g)) none)

module _ (c : Known) (now : Files) (sides : List Side) where
  abbrev pub node_by : (Name → Unode) → Path → Unode
  node_by node p = option_map_or (file_unode_on c now sides p) (file_at now p) (
      cond (is_new_dir c sides p)
      (Manifest (parents_from (dirs_before sides p)) c.id (map (entry_by node) (children (below p now))))
      (kept (dirs_before sides p)))

  node_same : (f g : Name → Unode) (p : Path) → (length p < depth now → (n : Name) → f n ≡ g n) → node_by f p ≡ node_by g p
  node_same f g p e =
      ap (λ entries. option_map_or (file_unode_on c now sides p) (file_at now p) (cond (is_new_dir c sides p) (Manifest (parents_from (dirs_before sides p)) c.id entries) (kept (dirs_before sides p))))
      (children_same f g p now e (nat_lt (length p) (depth now)) refl)

  -- enough are enough
  within_same : (n m : ℕ) (p : Path) → 0 < n → 0 < m → depth now < n + length p → depth now < m + length p → merged_within c now sides n p ≡ merged_within c now sides m p
  within_same zero m p h g k l = absurd (omega arith)
  within_same (suc n) zero p h g k l = absurd (omega arith)
  within_same (suc n) (suc m) p h g k l =
      node_same (λ e. merged_within c now sides n (p ++ e ∷ [])) (λ e. merged_within c now sides m (p ++ e ∷ [])) p
      (λ less e. let more : length (p ++ e ∷ []) ≡ length p + 1 = length_push p e in within_same n m (p ++ e ∷ []) (omega arith) (omega arith) (omega arith) (omega arith))

  -- the unode of a path by those of its children
  pub node_is : (p : Path) → merged_within c now sides (depth now + 1) p ≡ node_by (λ e. merged_within c now sides (depth now + 1) (p ++ e ∷ [])) p
  node_is p =
      ap (λ n. merged_within c now sides n p) (add-one (depth now))
      ∙ node_same (λ e. merged_within c now sides (depth now) (p ++ e ∷ [])) (λ e. merged_within c now sides (depth now + 1) (p ++ e ∷ [])) p
      (λ less e. let more : length (p ++ e ∷ []) ≡ length p + 1 = length_push p e in within_same (depth now) (depth now + 1) (p ++ e ∷ []) (omega arith) (omega arith) (omega arith) (omega arith))

-- ---- the nodes of both parents

abbrev pub one : {X : Type 0} → Bool → X → List X
one b x = cond b (x ∷ []) []

abbrev pub sides_of : Past → Past → List Side
sides_of first second = side_of first (unode_at first) ++ side_of second (unode_at second)

abbrev passes : (Files → Path → Bool) → Past → Path → Bool
passes t Begin p = false
passes t (At k first second) p = t (files_in (At k first second)) p

abbrev seen_by : (Files → Path → Bool) → List Side → Path → List Unode
seen_by t sides p = filter_map (λ (side : Side). cond (t side.files p) (Some (side.unode_at p)) None) sides

one_seen : (a : Bool) (u : Unode) → cons_option (cond a (Some u) None) [] ≡ one a u ++ []
one_seen true u = refl
one_seen false u = refl

last_seen : (b : Bool) (v : Unode) → cons_option (cond b (Some v) None) [] ≡ one b v
last_seen true v = refl
last_seen false v = refl

two_seen : (a b : Bool) (u v : Unode) → cons_option (cond a (Some u) None) (cons_option (cond b (Some v) None) []) ≡ one a u ++ one b v
two_seen true true u v = refl
two_seen true false u v = refl
two_seen false true u v = refl
two_seen false false u v = refl

seen_is : (t : Files → Path → Bool) (first second : Past) (p : Path) → seen_by t (sides_of first second) p ≡ one (passes t first p) (unode_at first p) ++ one (passes t second p) (unode_at second p)
seen_is t Begin Begin p = refl
seen_is t Begin (At k a b) p = last_seen (t (files_in (At k a b)) p) (unode_at (At k a b) p)
seen_is t (At k a b) Begin p = one_seen (t (files_in (At k a b)) p) (unode_at (At k a b) p)
seen_is t (At k a b) (At l e f) p = two_seen (t (files_in (At k a b)) p) (t (files_in (At l e f)) p) (unode_at (At k a b) p) (unode_at (At l e f) p)

dir_passes : (past : Past) (p : Path) → passes is_dir past p ≡ has_dir past p
dir_passes Begin p = refl
dir_passes (At k first second) p = refl

file_passes : (past : Past) (p : Path) → passes is_file past p ≡ is_file (files_in past) p
file_passes Begin p = refl
file_passes (At k first second) p = refl

dirs_are : (first second : Past) (p : Path) → dirs_before (sides_of first second) p ≡ one (has_dir first p) (unode_at first p) ++ one (has_dir second p) (unode_at second p)
dirs_are first second p = seen_is is_dir first second p ∙ (λ i. one (dir_passes first p i) (unode_at first p) ++ one (dir_passes second p i) (unode_at second p))

files_are : (first second : Past) (p : Path) → files_before (sides_of first second) p ≡ one (is_file (files_in first) p) (unode_at first p) ++ one (is_file (files_in second) p) (unode_at second p)
files_are first second p = seen_is is_file first second p ∙ (λ i. one (file_passes first p i) (unode_at first p) ++ one (file_passes second p i) (unode_at second p))

-- ---- of two nodes

two_parents : (a b : Bool) (u v : Unode) → parents_from (one a u ++ one b v) ≡ dedup bytes_eq (one a (unode_id u) ++ one b (unode_id v))
two_parents true true u v = refl
two_parents true false u v = refl
two_parents false true u v = refl
two_parents false false u v = refl

two_kept : (a b : Bool) (u v : Unode) → kept (one a u ++ one b v) ≡ cond a u (cond b v no_unode)
two_kept true true u v = refl
two_kept true false u v = refl
two_kept false true u v = refl
two_kept false false u v = refl

abbrev pub apart_by : Bool → Bool → Id → Id → Bool
apart_by a b x y = a && (b && not (bytes_eq x y))

differ_both : (x y : Id) → nat_lt 1 (length (dedup bytes_eq (x ∷ y ∷ []))) ≡ not (bytes_eq x y)
differ_both x y = ap (λ b. nat_lt 1 (length (cond b (x ∷ []) (x ∷ y ∷ [])))) (nat_list_eq_equiv.symm y x) ∙ by (bytes_eq x y)
  where
    by : (b : Bool) → nat_lt 1 (length (cond b (x ∷ []) (x ∷ y ∷ []))) ≡ not b
    by true = refl
    by false = refl

two_differ : (a b : Bool) (u v : Unode) → differ (one a u ++ one b v) ≡ apart_by a b (unode_id u) (unode_id v)
two_differ true true u v = differ_both (unode_id u) (unode_id v)
two_differ true false u v = refl
two_differ false true u v = refl
two_differ false false u v = refl

-- ---- the node of a path

module _ (c : Known) (first second : Past) (p : Path) where
  abbrev pub now : Files
  now = files_in (At c first second)

  abbrev pub sides : List Side
  sides = sides_of first second

  abbrev pub left_id : Id
  left_id = unode_id (unode_at first p)

  abbrev pub right_id : Id
  right_id = unode_id (unode_at second p)

  abbrev pub left_file : Bool
  left_file = is_file (files_in first) p

  abbrev pub right_file : Bool
  right_file = is_file (files_in second) p

  abbrev pub left_dir : Bool
  left_dir = has_dir first p

  abbrev pub right_dir : Bool
  right_dir = has_dir second p

  abbrev pub dir_by : Unode
  dir_by = cond (is_renewed c.changeset p || apart_by left_dir right_dir left_id right_id)
      (Manifest (dedup bytes_eq (one left_dir left_id ++ one right_dir right_id)) c.id (unode_entries_on (At c first second) p))
      (cond left_dir (unode_at first p) (cond right_dir (unode_at second p) no_unode))

  abbrev pub file_by : File → Unode
  file_by f = cond (is_some (set_at c.changeset p) || apart_by left_file right_file left_id right_id)
      (FileUnode (dedup bytes_eq (one left_file left_id ++ one right_file right_id)) f.content f.kind (sha256 (text_of p)) c.id)
      (cond left_file (unode_at first p) (cond right_file (unode_at second p) no_unode))

  abbrev dirs : List Unode
  dirs = dirs_before sides p

  abbrev files : List Unode
  files = files_before sides p

  pub dir_node : file_at now p ≡ None → unode_at (At c first second) p ≡ dir_by
  dir_node none =
      node_is c now sides p
      ∙ (λ i. option_map_or (file_unode_on c now sides p) (none i) (cond (is_new_dir c sides p) (Manifest (parents_from dirs) c.id (unode_entries_on (At c first second) p)) (kept dirs)))
      ∙ (λ i. cond (is_renewed c.changeset p || differs i) (Manifest (parents i) c.id (unode_entries_on (At c first second) p)) (left i))
    where
      differs : differ dirs ≡ apart_by left_dir right_dir left_id right_id
      differs = ap differ (dirs_are first second p) ∙ two_differ left_dir right_dir (unode_at first p) (unode_at second p)

      parents : parents_from dirs ≡ dedup bytes_eq (one left_dir left_id ++ one right_dir right_id)
      parents = ap parents_from (dirs_are first second p) ∙ two_parents left_dir right_dir (unode_at first p) (unode_at second p)

      left : kept dirs ≡ cond left_dir (unode_at first p) (cond right_dir (unode_at second p) no_unode)
      left = ap kept (dirs_are first second p) ∙ two_kept left_dir right_dir (unode_at first p) (unode_at second p)

  pub file_node : (f : File) → file_at now p ≡ Some f → unode_at (At c first second) p ≡ file_by f
  file_node f e =
      node_is c now sides p
      ∙ (λ i. option_map_or (file_unode_on c now sides p) (e i) (cond (is_new_dir c sides p) (Manifest (parents_from dirs) c.id (unode_entries_on (At c first second) p)) (kept dirs)))
      ∙ (λ i. cond (is_some (set_at c.changeset p) || differs i) (FileUnode (parents i) f.content f.kind (sha256 (text_of p)) c.id) (left i))
    where
      differs : differ files ≡ apart_by left_file right_file left_id right_id
      differs = ap differ (files_are first second p) ∙ two_differ left_file right_file (unode_at first p) (unode_at second p)

      parents : parents_from files ≡ dedup bytes_eq (one left_file left_id ++ one right_file right_id)
      parents = ap parents_from (files_are first second p) ∙ two_parents left_file right_file (unode_at first p) (unode_at second p)

      left : kept files ≡ cond left_file (unode_at first p) (cond right_file (unode_at second p) no_unode)
      left = ap kept (files_are first second p) ∙ two_kept left_file right_file (unode_at first p) (unode_at second p)
