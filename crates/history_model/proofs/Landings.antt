-- Where a landing's tree agrees with the draft's and where with the old head's; and stacks that may land in either order.
use Rattle.std.proofs.Common.{◌≡◌, ℕ, Bool, true, false, cond, ◌||◌, ◌&&◌, List, [], ◌∷◌, ◌++◌, map, refl, sym, ap, subst, ◌∙◌}
use Rattle.std.specs.Prelude.{Option, Some, None, Contains, flat_map}
use mathlib.Core.Bool.{true≢false}
use Rattle.std.specs.List.{AllByRecursion, list_any}
use Rattle.std.specs.Option.{option_and_then}
use Rattle.std.specs.Cmp.{nat_eq_equiv}
use Rattle.std.specs.Cmp.Lexicographic.{lists_equiv}
use Rattle.std.specs.declared.cmp.Ordering.{Ordering}
use Rattle.std.specs.declared.cmp.Ordering.TheVariants.{Less, Equal, Greater}
use Rattle.std.specs.Ordering.{is_eq}
use Rattle.std.specs.FinMap.{find as find_key}
use Rattle.byte_fields.specs.Bytes.{Id}
use Rattle.changeset_model.specs.Path.{Path, path_cmp, is_prefix, comparable}
use Rattle.changeset_model.specs.Changeset.{File, FileChange, Set, Delete, Changeset, file_of, set_at, touched_paths}
use Rattle.history_model.specs.Tree.{decides_at, decides, tree}
use Rattle.history_model.specs.Pushrebase.{rewrite}
use Rattle.changeset_model.proofs.Paths.{path_cmp-IsAntisymmetric, comparable-comm}
use Rattle.byte_fields.proofs.Lists.{weaker, each_of}
use Rattle.history_model.proofs.Touched.{nothing_decides}
use Rattle.changeset_model.proofs.Rising.{each_rising, from_rising}
use Rattle.history_model.proofs.Trees.{tree-append, tree-landed}
use Rattle.byte_fields.proofs.Lists.{all_both, both_parts}
use Rattle.changeset_model.proofs.Rising.{itself as members}
use Rattle.history_model.proofs.Trees.{tree-one as one_tree}

-- ---- what is touched is decided

pub prefix_self : (p : Path) → is_prefix p p ≡ true
prefix_self [] = refl
prefix_self (e ∷ p) = (λ i. (lists_equiv nat_eq_equiv).refl e i && prefix_self p i)

self_decides : (c : FileChange) (p : Path) → decides_at c p p ≡ true
self_decides (Set f copied) p = (λ i. prefix_self p i || is_prefix p p)
self_decides Delete p = (lists_equiv (lists_equiv nat_eq_equiv)).refl p

pub or_true : (a b : Bool) → b ≡ true → (a || b) ≡ true
or_true true b h = refl
or_true false b h = h

pub or_left : (a b : Bool) → a ≡ true → (a || b) ≡ true
or_left true b h = refl
or_left false b h = absurd (true≢false (sym h))

edits_decide : (es : List (Path × FileChange)) → AllByRecursion (λ p. list_any (λ f. decides_at f.1 f.0 p) es ≡ true) (map (λ e. e.0) es)
edits_decide [] = tt
edits_decide (e ∷ es) = (
  or_left (decides_at e.1 e.0 e.0) (list_any (λ f. decides_at f.1 f.0 e.0) es) (self_decides e.1 e.0),
  weaker _ _ (λ p h. or_true (decides_at e.1 e.0 p) (list_any (λ f. decides_at f.1 f.0 p) es) h) (map (λ e. e.0) es) (edits_decide es),
)

abbrev paths : List Changeset → List Path
paths cs = flat_map (λ c. map (λ e. e.0) c.changes) cs

members_decide : (cs : List Changeset) → AllByRecursion (λ p. list_any (λ c. decides c p) cs ≡ true) (paths cs)
members_decide [] = tt
members_decide (c ∷ cs) =
    all_both (λ p. (decides c p || list_any (λ c. decides c p) cs) ≡ true) (map (λ e. e.0) c.changes) (paths cs)
    (weaker _ _ (λ p h. or_left (decides c p) (list_any (λ c. decides c p) cs) h) (map (λ e. e.0) c.changes) (edits_decide c.changes))
    (weaker _ _ (λ p h. or_true (decides c p) (list_any (λ c. decides c p) cs) h) (paths cs) (members_decide cs))

touched_decided : (cs : List Changeset) (p : Path) → Contains (touched_paths cs) p → list_any (λ c. decides c p) cs ≡ true
touched_decided cs p touched = each_of (λ p. list_any (λ c. decides c p) cs ≡ true) (touched_paths cs) p (each_rising (λ p. list_any (λ c. decides c p) cs ≡ true) (paths cs) (members_decide cs)) touched

-- at a touched path the landing has what the draft has
pub landed_as_drafted : (root of_head stack : List Changeset) (head : Id) (moment : ℕ) (p : Path) → Contains (touched_paths stack) p → tree (of_head ++ rewrite stack head moment) p ≡ tree (root ++ stack) p
landed_as_drafted root of_head stack head moment p touched =
    let decided = touched_decided stack p touched in
    tree-landed of_head stack head moment p
    ∙ ap (λ b. cond b (tree stack p) (tree of_head p)) decided
    ∙ sym (tree-append root stack p ∙ ap (λ b. cond b (tree stack p) (tree root p)) decided)

-- at a path that is comparable to no touched one it has what the old head had
pub landed_as_head : (of_head stack : List Changeset) (head : Id) (moment : ℕ) (p : Path) → ((q : Path) → Contains (touched_paths stack) q → comparable p q ≡ false) → tree (of_head ++ rewrite stack head moment) p ≡ tree of_head p
landed_as_head of_head stack head moment p apart =
    let all = from_rising (λ q. comparable p q ≡ false) (paths stack) (weaker (Contains (touched_paths stack)) (λ q. comparable p q ≡ false) apart (touched_paths stack) (members (touched_paths stack))) in
    tree-landed of_head stack head moment p ∙ ap (λ b. cond b (tree stack p) (tree of_head p)) (nothing_decides p stack all)

-- ---- two stacks that are apart

not_found_by : (p : Path) (e : Path × FileChange) (es : List (Path × FileChange)) → ((p ≡ e.0) → ⊥) → find_key path_cmp p es ≡ None → (o : Ordering) → path_cmp p e.0 ≡ o → cond (is_eq o) (Some e.1) (find_key path_cmp p es) ≡ None
not_found_by p e es other later Less h = later
not_found_by p e es other later Equal h = absurd (other (path_cmp-IsAntisymmetric p e.0 h))
not_found_by p e es other later Greater h = later

-- a path that isn't among those of the changes isn't changed
not_found : (p : Path) (es : List (Path × FileChange)) → AllByRecursion (λ q. p ≡ q → ⊥) (map (λ e. e.0) es) → find_key path_cmp p es ≡ None
not_found p [] others = refl
not_found p (e ∷ es) others = not_found_by p e es others.0 (not_found p es others.1) (path_cmp p e.0) refl

either_none : (b : Bool) (o : Option File) → o ≡ None → cond b None o ≡ None
either_none true o h = refl
either_none false o h = h

nothing_by : (c : Changeset) (p : Path) (b : Bool) (o : Option File) → set_at c p ≡ None → o ≡ None → cond b (set_at c p) o ≡ None
nothing_by c p true o h g = h
nothing_by c p false o h g = g

-- changesets that don't touch a path set nothing there
nothing_set : (p : Path) (cs : List Changeset) → AllByRecursion (λ q. p ≡ q → ⊥) (paths cs) → tree cs p ≡ None
nothing_set p [] others = refl
nothing_set p (c ∷ cs) others =
    let parts = both_parts (λ q. p ≡ q → ⊥) (map (λ e. e.0) c.changes) (paths cs) others in
    let here : set_at c p ≡ None = ap (option_and_then file_of) (not_found p c.changes parts.0) in
    tree-append (c ∷ []) cs p
    ∙ (λ i. cond (list_any (λ d. decides d p) cs) (nothing_set p cs parts.1 i) (one_tree c p i))
    ∙ either_none (list_any (λ d. decides d p) cs) (cond (decides c p) (set_at c p) None) (nothing_by c p (decides c p) None here refl)

-- no path of the one is comparable with one of the other
abbrev pub AreApart : List Changeset → List Changeset → Type 0
AreApart first second = (l r : Path) → Contains (touched_paths first) l → Contains (touched_paths second) r → comparable l r ≡ false

each_apart : (first second : List Changeset) → AreApart first second → AllByRecursion (λ l. AllByRecursion (λ r. comparable l r ≡ false) (touched_paths second)) (touched_paths first)
each_apart first second apart =
    weaker (Contains (touched_paths first)) (λ l. AllByRecursion (λ r. comparable l r ≡ false) (touched_paths second))
    (λ l in_first. weaker (Contains (touched_paths second)) (λ r. comparable l r ≡ false) (λ r in_second. apart l r in_first in_second) (touched_paths second) (members (touched_paths second)))
    (touched_paths first) (members (touched_paths first))

-- where the second stack decides a path, the first doesn't touch it
others_decide : (p : Path) (first second : List Changeset) → AreApart first second → list_any (λ c. decides c p) second ≡ true → AllByRecursion (λ q. p ≡ q → ⊥) (paths first)
others_decide p first second apart decided =
    let all = from_rising (λ l. AllByRecursion (λ r. comparable l r ≡ false) (touched_paths second)) (paths first) (each_apart first second apart) in
    weaker (λ l. AllByRecursion (λ r. comparable l r ≡ false) (touched_paths second)) (λ q. p ≡ q → ⊥)
    (λ l none same. true≢false (sym (subst (λ q. list_any (λ c. decides c q) second ≡ true) same decided) ∙ nothing_decides l second (from_rising (λ r. comparable l r ≡ false) (paths second) none)))
    (paths first) all

order_by : (a b : Bool) (x y z : Option File) → (a ≡ true → b ≡ true → x ≡ y) → cond b y (cond a x z) ≡ cond a x (cond b y z)
order_by true true x y z same = sym (same refl refl)
order_by true false x y z same = refl
order_by false true x y z same = refl
order_by false false x y z same = refl

-- two stacks of which no touched paths are comparable, applied in either order, give one tree
pub either_order : (cs first second : List Changeset) → AreApart first second → (p : Path) → tree (cs ++ first ++ second) p ≡ tree (cs ++ second ++ first) p
either_order cs first second apart p =
    let apart' : AreApart second first = (λ l r in_second in_first. comparable-comm l r ∙ apart r l in_first in_second) in
    let decided_first = list_any (λ c. decides c p) first in
    let decided_second = list_any (λ c. decides c p) second in
    tree-append (cs ++ first) second p
    ∙ ap (λ o. cond decided_second (tree second p) o) (tree-append cs first p)
    ∙ order_by decided_first decided_second (tree first p) (tree second p) (tree cs p)
    (λ a b. nothing_set p first (others_decide p first second apart b) ∙ sym (nothing_set p second (others_decide p second first apart' a)))
    ∙ sym (tree-append (cs ++ second) first p ∙ ap (λ o. cond decided_first (tree first p) o) (tree-append cs second p))
