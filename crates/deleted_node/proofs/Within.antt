-- The deleted node of a path has the path's link, and leads to the nodes of the paths that are longer by a name.
use Rattle.std.proofs.Common.{◌≡◌, ℕ, zero, suc, ◌≤◌, max, Bool, true, false, cond, ◌||◌, ◌&&◌, List, [], ◌∷◌, ◌++◌, length, drop, refl, sym, ap, ◌∙◌, append-nil, arith}
use Rattle.std.specs.Prelude.{Option, None, Some, filter_map, fold, bytes_eq, option_and_then, ◌==◌}
use mathlib.Core.Bool.{true≢false}
use Rattle.std.specs.List.{AllByRecursion, cons_option, dedup, list_any}
use Rattle.std.specs.Ordering.{eq_by_cmp}
use Rattle.std.specs.Cmp.Lexicographic.{texts_ties}
use Rattle.std.specs.FinMap.{find as find_key}
use Rattle.std.proofs.lemmas.Bool.{ne_eqb, or_parts}
use Rattle.byte_fields.specs.Bytes.{Id}
use Rattle.changeset_model.specs.Path.{Path, is_prefix, path_cmp}
use Rattle.history_model.specs.Past.{Past}
use Rattle.history_model.specs.Tree.{below, depth, first_element, names}
use Rattle.manifest_model.specs.Deleted.{DeletedNode, deleted, deleted_at, deleted_id, deleted_within, deletions, has_deleted}
use Rattle.history_model.proofs.Landings.{prefix_self}
use Rattle.manifest_model.proofs.Derivations.{tied_same}
use Rattle.manifest_laws.proofs.Lists.{and_assoc, filter_map-same, filter_map-twice}
use Rattle.manifest_laws.proofs.Names.{Name, among_dedup, first_tells, is_among, keyed, looked_up, name_cmp}
use Rattle.manifest_model.proofs.Deletions.{deletion_found}

abbrev pub Gone : Type 0
Gone = List (Path × Id)

-- ---- below a path that is below another

abbrev one_below : Path → Path × Id → Option (Path × Id)
one_below d e = cond (is_prefix d e.0) (Some (drop (length d) e.0, e.1)) None

below_both : (d r p : Path) (x : Id) → option_and_then (one_below r) (one_below d (p, x)) ≡ one_below (d ++ r) (p, x)
below_both [] r p x = refl
below_both (k ∷ d) r [] x = refl
below_both (k ∷ d) r (m ∷ p) x = by (bytes_eq k m) (below_both d r p x)
  where
    by : (b : Bool) → option_and_then (one_below r) (one_below d (p, x)) ≡ one_below (d ++ r) (p, x) → option_and_then (one_below r) (cond (b && is_prefix d p) (Some (drop (length d) p, x)) None) ≡ cond (b && is_prefix (d ++ r) p) (Some (drop (length (d ++ r)) p, x)) None
    by true h = h
    by false h = refl

below_twice : (d r : Path) (gone : Gone) → below r (below d gone) ≡ below (d ++ r) gone
below_twice d r gone = filter_map-twice (one_below r) (one_below d) gone ∙ filter_map-same (λ e. option_and_then (one_below r) (one_below d e)) (one_below (d ++ r)) gone (λ e. below_both d r e.0 e.1)

-- ---- depth

abbrev pub IsWithin : ℕ → Gone → Type 0
IsWithin n gone = AllByRecursion (λ e. length e.0 ≤ n) gone

deepest : (a : ℕ) (gone : Gone) → (a ≤ fold (λ most e. max most (length e.0)) a gone) × IsWithin (fold (λ most e. max most (length e.0)) a gone) gone
deepest a [] = (omega arith, tt)
deepest a (e ∷ gone) =
    let rest = deepest (max a (length e.0)) gone in
    let most : max a (length e.0) ≤ fold (λ most e. max most (length e.0)) (max a (length e.0)) gone = rest.0 in
    (omega arith, (omega arith, rest.1))

pub within_depth : (gone : Gone) → IsWithin (depth gone) gone
within_depth gone = (deepest 0 gone).1

shorter : (n k : ℕ) (p : Path) → length p ≤ n → length (drop k p) ≤ n
shorter n zero p h = h
shorter n (suc k) [] h = h
shorter n (suc k) (e ∷ p) h = shorter n k p (omega arith)

within_by : (n : ℕ) (d : Path) (e : Path × Id) (rest : Gone) (b : Bool) → length e.0 ≤ n → IsWithin n rest → IsWithin n (cons_option (cond b (Some (drop (length d) e.0, e.1)) None) rest)
within_by n d e rest true h hs = (shorter n (length d) e.0 h, hs)
within_by n d e rest false h hs = hs

pub within_below : (n : ℕ) (d : Path) (gone : Gone) → IsWithin n gone → IsWithin n (below d gone)
within_below n d [] h = tt
within_below n d (e ∷ gone) h = within_by n d e (below d gone) (is_prefix d e.0) h.0 (within_below n d gone h.1)

less_by : (n : ℕ) (k : Name) (e : Path × Id) (rest : Gone) → length e.0 ≤ suc n → IsWithin n rest → IsWithin n (cons_option (one_below (k ∷ []) e) rest)
less_by n k ([], x) rest h hs = hs
less_by n k (m ∷ p, x) rest h hs = by (bytes_eq k m)
  where
    by : (b : Bool) → IsWithin n (cons_option (cond (b && true) (Some (p, x)) None) rest)
    by true = (omega arith, hs)
    by false = hs

within_less : (n : ℕ) (k : Name) (gone : Gone) → IsWithin (suc n) gone → IsWithin n (below (k ∷ []) gone)
within_less n k [] h = tt
within_less n k (e ∷ gone) h = less_by n k e (below (k ∷ []) gone) h.0 (within_less n k gone h.1)

more : (n : ℕ) (gone : Gone) → IsWithin n gone → IsWithin (suc n) gone
more n [] h = tt
more n (e ∷ gone) h = (omega (arith, h.0), more n gone h.1)

no_first : (gone : Gone) → IsWithin 0 gone → filter_map (λ e. first_element e.0) gone ≡ []
no_first [] h = refl
no_first (([], x) ∷ gone) h = no_first gone h.1
no_first ((m ∷ p, x) ∷ gone) h = absurd (let k : suc (length p) ≤ 0 = h.0 in omega arith)

no_names : (gone : Gone) → IsWithin 0 gone → names gone ≡ []
no_names gone h = ap (dedup bytes_eq) (no_first gone h)

-- ---- how many elements more are allowed doesn't matter

abbrev with_nodes : Gone → (Name → DeletedNode) → List Name → DeletedNode
with_nodes gone node ns = record { link = find_key path_cmp [] gone; entries = keyed (λ n. deleted_id (node n)) ns }

nodes_same : (gone : Gone) (f g : Name → DeletedNode) → ((n : Name) → f n ≡ g n) → (ns : List Name) → with_nodes gone f ns ≡ with_nodes gone g ns
nodes_same gone f g e ns = λ i. with_nodes gone (λ n. e n i) ns

pub within_same : (n m : ℕ) (gone : Gone) → IsWithin n gone → IsWithin m gone → deleted_within n gone ≡ deleted_within m gone
within_same zero zero gone h g = refl
within_same zero (suc m) gone h g = ap (with_nodes gone (λ k. deleted_within m (below (k ∷ []) gone))) (sym (no_names gone h))
within_same (suc n) zero gone h g = ap (with_nodes gone (λ k. deleted_within n (below (k ∷ []) gone))) (no_names gone g)
within_same (suc n) (suc m) gone h g =
    nodes_same gone (λ k. deleted_within n (below (k ∷ []) gone)) (λ k. deleted_within m (below (k ∷ []) gone)) (λ k. within_same n m (below (k ∷ []) gone) (within_less n k gone h) (within_less m k gone g)) (names gone)

-- ---- the link

tied_below : (d q p : Path) → eq_by_cmp path_cmp (d ++ q) p ≡ (is_prefix d p && eq_by_cmp path_cmp q (drop (length d) p))
tied_below [] q p = refl
tied_below (k ∷ d) q [] = refl
tied_below (k ∷ d) q (m ∷ p) =
    first_tells (name_cmp k m) (path_cmp (d ++ q) p)
    ∙ (λ i. sym (texts_ties k m) i && tied_below d q p i)
    ∙ sym (and_assoc (bytes_eq k m) (is_prefix d p) (eq_by_cmp path_cmp q (drop (length d) p)))

found_by : (d q : Path) (e : Path × Id) (rest : Gone) (later : Option Id) → find_key path_cmp q rest ≡ later → (b t : Bool) → eq_by_cmp path_cmp q (drop (length d) e.0) ≡ t → find_key path_cmp q (cons_option (cond b (Some (drop (length d) e.0, e.1)) None) rest) ≡ cond (b && t) (Some e.1) later
found_by d q e rest later h true t s = (λ i. cond (s i) (Some e.1) (h i))
found_by d q e rest later h false t s = h

pub found_below : (d : Path) (gone : Gone) (q : Path) → find_key path_cmp q (below d gone) ≡ find_key path_cmp (d ++ q) gone
found_below d [] q = refl
found_below d (e ∷ gone) q =
    found_by d q e (below d gone) (find_key path_cmp (d ++ q) gone) (found_below d gone q) (is_prefix d e.0) (eq_by_cmp path_cmp q (drop (length d) e.0)) refl
    ∙ ap (λ b. cond b (Some e.1) (find_key path_cmp (d ++ q) gone)) (sym (tied_below d q e.0))

link_within : (n : ℕ) (gone : Gone) → (deleted_within n gone).link ≡ find_key path_cmp [] gone
link_within zero gone = refl
link_within (suc n) gone = refl

pub link_is : (past : Past) (d : Path) → (deleted past d).link ≡ deleted_at past d
link_is past d =
    link_within (depth (deletions past)) (below d (deletions past))
    ∙ found_below d (deletions past) []
    ∙ ap (λ p. find_key path_cmp p (deletions past)) (append-nil d)
    ∙ deletion_found past d

-- ---- the entries

prefix_below : (d r p : Path) → is_prefix (d ++ r) p ≡ (is_prefix d p && is_prefix r (drop (length d) p))
prefix_below [] r p = refl
prefix_below (k ∷ d) r [] = refl
prefix_below (k ∷ d) r (m ∷ p) = ap (λ b. bytes_eq k m && b) (prefix_below d r p) ∙ sym (and_assoc (bytes_eq k m) (is_prefix d p) (is_prefix r (drop (length d) p)))

any_by : (d r : Path) (e : Path × Id) (rest : Gone) (later : Bool) → list_any (λ g. is_prefix r g.0) rest ≡ later → (b : Bool) → list_any (λ g. is_prefix r g.0) (cons_option (cond b (Some (drop (length d) e.0, e.1)) None) rest) ≡ ((b && is_prefix r (drop (length d) e.0)) || later)
any_by d r e rest later h true = ap (λ b. is_prefix r (drop (length d) e.0) || b) h
any_by d r e rest later h false = h

pub any_below : (d r : Path) (gone : Gone) → list_any (λ g. is_prefix r g.0) (below d gone) ≡ list_any (λ g. is_prefix (d ++ r) g.0) gone
any_below d r [] = refl
any_below d r (e ∷ gone) =
    any_by d r e (below d gone) (list_any (λ g. is_prefix (d ++ r) g.0) gone) (any_below d r gone) (is_prefix d e.0)
    ∙ ap (λ b. b || list_any (λ g. is_prefix (d ++ r) g.0) gone) (sym (prefix_below d r e.0))

and_true : (b : Bool) → b ≡ (b && true)
and_true true = refl
and_true false = refl

among_firsts : (n : Name) (gone : Gone) → is_among n (filter_map (λ e. first_element e.0) gone) ≡ list_any (λ g. is_prefix (n ∷ []) g.0) gone
among_firsts n [] = refl
among_firsts n (([], x) ∷ gone) = among_firsts n gone
among_firsts n ((m ∷ p, x) ∷ gone) = λ i. and_true (bytes_eq n m) i || among_firsts n gone i

not_root : (d : Path) (n : Name) → (length (d ++ n ∷ []) == 0) ≡ false
not_root [] n = refl
not_root (k ∷ d) n = no_zero (length (d ++ n ∷ []))
  where
    no_zero : (k : ℕ) → (suc k == 0) ≡ false
    no_zero k = ne_eqb (suc k) 0 (λ e. absurd (omega (arith, e)))

among_names : (past : Past) (d : Path) (n : Name) → is_among n (names (below d (deletions past))) ≡ has_deleted past (d ++ n ∷ [])
among_names past d n =
    among_dedup n (filter_map (λ e. first_element e.0) (below d (deletions past)))
    ∙ among_firsts n (below d (deletions past))
    ∙ any_below d (n ∷ []) (deletions past)
    ∙ ap (λ b. b || list_any (λ e. is_prefix (d ++ n ∷ []) e.0) (deletions past)) (sym (not_root d n))

pub entries_are : (past : Past) (d : Path) → (deleted past d).entries ≡ keyed (λ n. deleted_id (deleted past (d ++ n ∷ []))) (names (below d (deletions past)))
entries_are past d =
    let gone = deletions past in
    let inside = within_below (depth gone) d gone (within_depth gone) in
    ap (λ (n : DeletedNode). n.entries) (within_same (depth gone) (suc (depth gone)) (below d gone) inside (more (depth gone) (below d gone) inside))
    ∙ (λ i. keyed (λ n. deleted_id (deleted_within (depth gone) (below_twice d (n ∷ []) gone i))) (names (below d gone)))

pub entry_is : (past : Past) (d : Path) (n : Name) → find_key name_cmp n (deleted past d).entries ≡ cond (has_deleted past (d ++ n ∷ [])) (Some (deleted_id (deleted past (d ++ n ∷ [])))) None
entry_is past d n =
    ap (find_key name_cmp n) (entries_are past d)
    ∙ looked_up (λ n. deleted_id (deleted past (d ++ n ∷ []))) n (names (below d (deletions past)))
    ∙ ap (λ b. cond b (Some (deleted_id (deleted past (d ++ n ∷ [])))) None) (among_names past d n)

-- ---- without a node

none_found : (d : Path) (gone : Gone) → list_any (λ e. is_prefix d e.0) gone ≡ false → find_key path_cmp d gone ≡ None
none_found d [] h = refl
none_found d (e ∷ gone) h =
    let parts = or_parts (is_prefix d e.0) (list_any (λ e. is_prefix d e.0) gone) h in
    by (none_found d gone parts.1) parts.0 (eq_by_cmp path_cmp d e.0) refl
  where
    by : find_key path_cmp d gone ≡ None → is_prefix d e.0 ≡ false → (b : Bool) → eq_by_cmp path_cmp d e.0 ≡ b → cond b (Some e.1) (find_key path_cmp d gone) ≡ None
    by later far true t = absurd (true≢false (sym (ap (is_prefix d) (sym (tied_same d e.0 t)) ∙ prefix_self d) ∙ far))
    by later far false t = later

pub nothing_without : (past : Past) (d : Path) → has_deleted past d ≡ false → deleted_at past d ≡ None
nothing_without past d h =
    let parts = or_parts (length d == 0) (list_any (λ e. is_prefix d e.0) (deletions past)) h in
    sym (deletion_found past d) ∙ none_found d (deletions past) parts.1
