-- What a changeset does at a path, from what its edits do one after another.
--     by_change r o      what a change leaves where o was, if a set only replaces a file
use Rattle.std.proofs.Common.{◌≡◌, ℕ, ◌<◌, Bool, true, false, cond, ◌&&◌, ◌||◌, Option, Some, None, List, [], ◌∷◌, length, refl, sym, ap, subst, ◌∙◌, arith}
use Rattle.std.specs.Prelude.{option_map, is_some, nat_lt, bytes_eq, find, filter_map}
use Rattle.std.specs.List.{list_any, AllByRecursion}
use Rattle.std.specs.Option.{option_and_then}
use Rattle.std.specs.FinMap.{is_sorted, find as find_key}
use Rattle.std.specs.FinMap.Entries.{below_all}
use Rattle.byte_fields.proofs.Lists.{weaker}
use Rattle.std.specs.Cmp.Lexicographic.{nat_list_eq_equiv}
use Rattle.std.proofs.lemmas.Bool.{lt-ltb, false_from_ne_true}
use Rattle.changeset_model.specs.Path.{Path, path_cmp, path_lt, path_eq, is_prefix, is_strict_prefix}
use Rattle.changeset_model.specs.Changeset.{File, FileChange, Set, Delete, Changeset, file_of, self_conflict}
use Rattle.changeset_model.proofs.Rising.{path_lt_irreflexive}
use Rattle.history_model.specs.Tree.{decides_at}
use Rattle.repo_path.specs.Order.{path_eq_equiv, path_eq_ties}
use Rattle.std.specs.BTreeMap.{BTreeMap}
use Rattle.tree_fold.specs.declared.file.File.{File as Stored}
use Rattle.repo_path.proofs.Faults.{first_of_two as first_of, second_of_two as second_of}
use Rattle.tree_fold.specs.Fold.{IsFlat, is_set_of, clears, edited_once, edited, file_in, IsApart}
use Rattle.tree_fold.proofs.Files.{same_path, path_eq_itself, is_some-file_in}
use Rattle.byte_fields.proofs.Booleans.{either_false, or_false as or_none, or_true, unmapped}
use Rattle.byte_fields.proofs.Lists.{none_first, none_found}
use Rattle.changeset_model.proofs.Paths.{||-comm as or_swap}
use Rattle.history_model.proofs.Clashes.{not_both as clash}
use Rattle.history_model.proofs.Landings.{or_left, or_true as or_right, prefix_self as is_prefix_itself}

abbrev pub Edits : Type 0
Edits = List (Path × FileChange)

abbrev pub at : Path → Edits → Option FileChange
at p es = find_key path_cmp p es

abbrev pub by_change : Option FileChange → Option File → Option File
by_change None o = o
by_change (Some (Set f copied)) o = option_map (λ _. f) o
by_change (Some Delete) o = None

abbrev pub is_set : Option FileChange → Bool
is_set None = false
is_set (Some (Set f copied)) = true
is_set (Some Delete) = false

-- ---- the edit at a path

at_first : (p : Path) (e : Path × FileChange) (es : Edits) → at p (e ∷ es) ≡ cond (path_eq e.0 p) (Some e.1) (at p es)
at_first p e es = ap (λ b. cond b (Some e.1) (at p es)) (sym (path_eq_ties p e.0) ∙ path_eq_equiv.symm p e.0)

-- no edit is at this path
abbrev IsAway : Path → Edits → Type 0
IsAway p es = AllByRecursion (λ e. path_eq e.0 p ≡ false) es

less_apart : (p q : Path) → path_lt p q ≡ true → path_eq q p ≡ false
less_apart p q less = false_from_ne_true (path_eq q p) (λ e. clash (path_lt p q) less (ap (path_lt p) (same_path q p e) ∙ path_lt_irreflexive p))

away_behind : (p : Path) (es : Edits) → below_all path_cmp p es ≡ true → IsAway p es
away_behind p [] h = tt
away_behind p (e ∷ es) h = (less_apart p e.0 (first_of (path_lt p e.0) (below_all path_cmp p es) h), away_behind p es (second_of (path_lt p e.0) (below_all path_cmp p es) h))

once_away : (e : Path × FileChange) (p : Path) (o : Option File) → path_eq e.0 p ≡ false → edited_once e p o ≡ o
once_away (q, Set f copied) p o away = ap (λ b. cond b (option_map (λ _. f) o) o) away
once_away (q, Delete) p o away = ap (λ b. cond b None o) away

once_at : (e : Path × FileChange) (p : Path) (o : Option File) → path_eq e.0 p ≡ true → edited_once e p o ≡ by_change (Some e.1) o
once_at (q, Set f copied) p o same = ap (λ b. cond b (option_map (λ _. f) o) o) same
once_at (q, Delete) p o same = ap (λ b. cond b None o) same

edited-away : (es : Edits) (p : Path) (o : Option File) → IsAway p es → edited es p o ≡ o
edited-away [] p o away = refl
edited-away (e ∷ es) p o away = ap (edited es p) (once_away e p o away.0) ∙ edited-away es p o away.1

edited_by : (e : Path × FileChange) (es : Edits) (p : Path) (o : Option File) → below_all path_cmp e.0 es ≡ true → edited es p o ≡ by_change (at p es) o → (b : Bool) → path_eq e.0 p ≡ b → edited es p (edited_once e p o) ≡ by_change (cond b (Some e.1) (at p es)) o
edited_by e es p o below ih true same =
    ap (edited es p) (once_at e p o same) ∙ edited-away es p (by_change (Some e.1) o) (subst (λ q. IsAway q es) (same_path e.0 p same) (away_behind e.0 es below))
edited_by e es p o below ih false away = ap (edited es p) (once_away e p o away) ∙ ih

-- where the paths rise, the edits do at a path what the edit at it does
pub edited-at : (es : Edits) (p : Path) (o : Option File) → is_sorted path_cmp es ≡ true → edited es p o ≡ by_change (at p es) o
edited-at [] p o rises = refl
edited-at (e ∷ es) p o rises =
    edited_by e es p o (first_of (below_all path_cmp e.0 es) (is_sorted path_cmp es) rises) (edited-at es p o (second_of (below_all path_cmp e.0 es) (is_sorted path_cmp es) rises)) (path_eq e.0 p) refl
    ∙ ap (λ r. by_change r o) (sym (at_first p e es))

set_away : (e : Path × FileChange) (p : Path) → path_eq e.0 p ≡ false → is_set_of p e ≡ false
set_away (q, Set f copied) p away = away
set_away (q, Delete) p away = refl

set_here : (e : Path × FileChange) (p : Path) → path_eq e.0 p ≡ true → is_set_of p e ≡ is_set (Some e.1)
set_here (q, Set f copied) p same = same
set_here (q, Delete) p same = refl

none_set : (es : Edits) (p : Path) → IsAway p es → list_any (is_set_of p) es ≡ false
none_set [] p away = refl
none_set (e ∷ es) p away = either_false (is_set_of p e) (list_any (is_set_of p) es) (set_away e p away.0) (none_set es p away.1)

set_by : (e : Path × FileChange) (es : Edits) (p : Path) → below_all path_cmp e.0 es ≡ true → list_any (is_set_of p) es ≡ is_set (at p es) → (b : Bool) → path_eq e.0 p ≡ b → (is_set_of p e || list_any (is_set_of p) es) ≡ is_set (cond b (Some e.1) (at p es))
set_by e es p below ih true same =
    (λ i. set_here e p same i || none_set es p (subst (λ q. IsAway q es) (same_path e.0 p same) (away_behind e.0 es below)) i) ∙ or_none (is_set (Some e.1))
set_by e es p below ih false away = (λ i. set_away e p away i || ih i)

pub any-set : (es : Edits) (p : Path) → is_sorted path_cmp es ≡ true → list_any (is_set_of p) es ≡ is_set (at p es)
any-set [] p rises = refl
any-set (e ∷ es) p rises =
    set_by e es p (first_of (below_all path_cmp e.0 es) (is_sorted path_cmp es) rises) (any-set es p (second_of (below_all path_cmp e.0 es) (is_sorted path_cmp es) rises)) (path_eq e.0 p) refl
    ∙ ap is_set (sym (at_first p e es))

-- ---- what is decided

bytes_same : (e f : List ℕ) → bytes_eq e f ≡ true → bytes_eq f e ≡ true
bytes_same e f h = nat_list_eq_equiv.symm f e ∙ h

shorter : (p q : Path) → is_prefix p q ≡ true → path_eq q p ≡ false → length p < length q
shorter [] [] h away = absurd (cc)
shorter [] (f ∷ q) h away = omega arith
shorter (e ∷ p) [] h away = absurd (cc)
shorter (e ∷ p) (f ∷ q) h away =
    let rest : path_eq q p ≡ false = by (bytes_eq f e) (path_eq q p) (bytes_same e f (first_of (bytes_eq e f) (is_prefix p q) h)) away in
    let less : length p < length q = shorter p q (second_of (bytes_eq e f) (is_prefix p q) h) rest in
    omega arith
  where
    by : (a b : Bool) → a ≡ true → (a && b) ≡ false → b ≡ false
    by true b t h = h
    by false b t h = absurd (cc)

strict : (p q : Path) → path_eq q p ≡ false → is_prefix p q ≡ is_strict_prefix p q
strict p q away = by (is_prefix p q) refl
  where
    by : (b : Bool) → is_prefix p q ≡ b → b ≡ (b && nat_lt (length p) (length q))
    by true h = sym (lt-ltb (length p) (length q) (shorter p q h away))
    by false h = refl

decides_away : (e : Path × FileChange) (p : Path) → path_eq e.0 p ≡ false → decides_at e.1 e.0 p ≡ clears p e
decides_away (q, Set f copied) p away =
    (λ i. strict q p (path_eq_equiv.symm p q ∙ away) i || strict p q away i) ∙ or_swap (is_strict_prefix q p) (is_strict_prefix p q)
decides_away (q, Delete) p away = away

decides_here : (e : Path × FileChange) (p : Path) → path_eq e.0 p ≡ true → decides_at e.1 e.0 p ≡ true
decides_here (q, Set f copied) p same = or_left (is_prefix q p) (is_prefix p q) (ap (is_prefix q) (sym (same_path q p same)) ∙ is_prefix_itself q)
decides_here (q, Delete) p same = same

three : (a b c : Bool) → (a || (b || c)) ≡ (b || (a || c))
three true b c = sym (or_true b)
three false b c = refl

decided_by : (e : Path × FileChange) (es : Edits) (p : Path) → list_any (λ e. decides_at e.1 e.0 p) es ≡ (is_some (at p es) || list_any (clears p) es) → (b : Bool) → path_eq e.0 p ≡ b → (decides_at e.1 e.0 p || list_any (λ e. decides_at e.1 e.0 p) es) ≡ (is_some (cond b (Some e.1) (at p es)) || (clears p e || list_any (clears p) es))
decided_by e es p ih true same = ap (λ b. b || list_any (λ e. decides_at e.1 e.0 p) es) (decides_here e p same)
decided_by e es p ih false away = (λ i. decides_away e p away i || ih i) ∙ three (clears p e) (is_some (at p es)) (list_any (clears p) es)

-- a changeset decides the paths of its edits, and those above and under a path that it sets
pub decides-at : (es : Edits) (p : Path) → list_any (λ e. decides_at e.1 e.0 p) es ≡ (is_some (at p es) || list_any (clears p) es)
decides-at [] p = refl
decides-at (e ∷ es) p =
    decided_by e es p (decides-at es p) (path_eq e.0 p) refl
    ∙ ap (λ r. is_some r || (clears p e || list_any (clears p) es)) (sym (at_first p e es))

-- ---- set paths

none_clears : (p : Path) (es : Edits) → ((q : Path) → list_any (is_set_of q) es ≡ true → (is_strict_prefix p q ≡ false) × (is_strict_prefix q p ≡ false)) → list_any (clears p) es ≡ false
none_clears p [] apart = refl
none_clears p ((q, Set f copied) ∷ es) apart =
    let here = apart q (or_left (path_eq q q) (list_any (is_set_of q) es) (path_eq_itself q)) in
    either_false (is_strict_prefix p q || is_strict_prefix q p) (list_any (clears p) es) (either_false (is_strict_prefix p q) (is_strict_prefix q p) here.0 here.1) (none_clears p es (λ r h. apart r (or_right (path_eq q r) (list_any (is_set_of r) es) h)))
none_clears p ((q, Delete) ∷ es) apart = none_clears p es apart

-- a set path isn't cleared
pub set_stays : (es : Edits) (p : Path) → IsApart es → list_any (is_set_of p) es ≡ true → list_any (clears p) es ≡ false
set_stays es p apart set = none_clears p es (λ q h. (apart p q set h, apart q p h set))

-- what is above or under a set path is cleared
pub set_clears : (es : Edits) (p q : Path) → list_any (is_set_of p) es ≡ true → (is_strict_prefix q p || is_strict_prefix p q) ≡ true → list_any (clears q) es ≡ true
set_clears [] p q set near = absurd (cc)
set_clears ((r, Set f copied) ∷ es) p q set near = by (path_eq r p) refl (set_clears es p q) set
  where
    by : (b : Bool) → path_eq r p ≡ b → (list_any (is_set_of p) es ≡ true → (is_strict_prefix q p || is_strict_prefix p q) ≡ true → list_any (clears q) es ≡ true) → (b || list_any (is_set_of p) es) ≡ true → ((is_strict_prefix q r || is_strict_prefix r q) || list_any (clears q) es) ≡ true
    by true same later h = or_left (is_strict_prefix q r || is_strict_prefix r q) (list_any (clears q) es) (ap (λ s. is_strict_prefix q s || is_strict_prefix s q) (same_path r p same) ∙ near)
    by false away later h = or_right (is_strict_prefix q r || is_strict_prefix r q) (list_any (clears q) es) (later h near)
set_clears ((r, Delete) ∷ es) p q set near = set_clears es p q set near

-- ---- all at once

replaced : {A : Type 0} (x : A) (o : Option A) → is_some o ≡ true → option_map (λ _. x) o ≡ Some x
replaced x None h = absurd (cc)
replaced x (Some y) h = refl

gone : {A : Type 0} (c : Bool) (o : Option A) → cond (c && is_some o) None o ≡ cond c None o
gone true None = refl
gone true (Some x) = refl
gone false o = refl

same_both : {A : Type 0} (b : Bool) (x : A) → cond b x x ≡ x
same_both true x = refl
same_both false x = refl

at_once_by : (r : Option FileChange) (c : Bool) (o mid : Option File) → (is_set r ≡ true → is_some mid ≡ true) → (is_set r ≡ false → mid ≡ o) → (is_set r ≡ true → c ≡ false) → cond (c && is_some o) None (by_change r mid) ≡ cond (is_some r || c) (option_and_then file_of r) o
at_once_by None c o mid there kept stays = ap (cond (c && is_some o) None) (kept refl) ∙ gone c o
at_once_by (Some (Set f copied)) c o mid there kept stays = ap (λ c. cond (c && is_some o) None (option_map (λ _. f) mid)) (stays refl) ∙ replaced f mid (there refl)
at_once_by (Some Delete) c o mid there kept stays = same_both (c && is_some o) None

-- what the edits of rising paths leave, once the files in the way are gone, is what the changeset decides
pub at_once : (es : Edits) (p : Path) (o mid : Option File) → is_sorted path_cmp es ≡ true → IsApart es → (list_any (is_set_of p) es ≡ true → is_some mid ≡ true) → (list_any (is_set_of p) es ≡ false → mid ≡ o) → cond (list_any (clears p) es && is_some o) None (edited es p mid) ≡ cond (list_any (λ e. decides_at e.1 e.0 p) es) (option_and_then file_of (at p es)) o
at_once es p o mid rises apart there kept =
    ap (cond (list_any (clears p) es && is_some o) None) (edited-at es p mid rises)
    ∙ at_once_by (at p es) (list_any (clears p) es) o mid (λ h. there (any-set es p rises ∙ h)) (λ h. kept (any-set es p rises ∙ h)) (λ h. set_stays es p apart (any-set es p rises ∙ h))
    ∙ ap (λ b. cond b (option_and_then file_of (at p es)) o) (sym (decides-at es p))

-- ---- no file lies under another

set_of_some : (r : Option FileChange) → is_some (option_and_then file_of r) ≡ true → is_set r ≡ true
set_of_some None h = absurd (cc)
set_of_some (Some (Set f copied)) h = refl
set_of_some (Some Delete) h = absurd (cc)

-- a file is there after the changeset: it was set, or was there before and isn't decided
abbrev IsLeft : Edits → Path → Option File → Type 0
IsLeft es p o = is_some (cond (list_any (λ e. decides_at e.1 e.0 p) es) (option_and_then file_of (at p es)) o) ≡ true

was_set : (es : Edits) (p : Path) (o : Option File) → is_sorted path_cmp es ≡ true → IsLeft es p o → list_any (λ e. decides_at e.1 e.0 p) es ≡ true → list_any (is_set_of p) es ≡ true
was_set es p o rises left decided =
    any-set es p rises ∙ set_of_some (at p es) (ap (λ b. is_some (cond b (option_and_then file_of (at p es)) o)) (sym decided) ∙ left)

was_there : (es : Edits) (p : Path) (o : Option File) → IsLeft es p o → list_any (λ e. decides_at e.1 e.0 p) es ≡ false → is_some o ≡ true
was_there es p o left undecided = ap (λ b. is_some (cond b (option_and_then file_of (at p es)) o)) (sym undecided) ∙ left

decides_cleared : (es : Edits) (p : Path) → list_any (clears p) es ≡ true → list_any (λ e. decides_at e.1 e.0 p) es ≡ true
decides_cleared es p h = decides-at es p ∙ or_right (is_some (at p es)) (list_any (clears p) es) h

pub stays_flat : (es : Edits) (p q : Path) (o r : Option File) → is_sorted path_cmp es ≡ true → IsApart es → (is_some o ≡ true → is_some r ≡ true → is_strict_prefix p q ≡ false) → IsLeft es p o → IsLeft es q r → is_strict_prefix p q ≡ false
stays_flat es p q o r rises apart flat left right = by (list_any (λ e. decides_at e.1 e.0 p) es) (list_any (λ e. decides_at e.1 e.0 q) es) refl refl
  where
    by : (b d : Bool) → list_any (λ e. decides_at e.1 e.0 p) es ≡ b → list_any (λ e. decides_at e.1 e.0 q) es ≡ d → is_strict_prefix p q ≡ false
    by true true e g = apart p q (was_set es p o rises left e) (was_set es q r rises right g)
    by true false e g = false_from_ne_true (is_strict_prefix p q) (λ u. clash (list_any (λ e. decides_at e.1 e.0 q) es) (decides_cleared es q (set_clears es p q (was_set es p o rises left e) (or_right (is_strict_prefix q p) (is_strict_prefix p q) u))) g)
    by false true e g = false_from_ne_true (is_strict_prefix p q) (λ u. clash (list_any (λ e. decides_at e.1 e.0 p) es) (decides_cleared es p (set_clears es q p (was_set es q r rises right g) (or_left (is_strict_prefix p q) (is_strict_prefix q p) u))) e)
    by false false e g = flat (was_there es p o left e) (was_there es q r right g)

-- ---- a changeset without a self-conflict

abbrev sets : Edits → List (Path × File)
sets es = filter_map (λ e. option_map (λ f. (e.0, f)) (file_of e.1)) es

of_set : (P : Path → Type 0) (es : Edits) (p : Path) → AllByRecursion (λ s. P s.0) (sets es) → list_any (is_set_of p) es ≡ true → P p
of_set P [] p all h = absurd (cc)
of_set P ((q, Set f copied) ∷ es) p all h = by (path_eq q p) refl (of_set P es p all.1) h
  where
    by : (b : Bool) → path_eq q p ≡ b → (list_any (is_set_of p) es ≡ true → P p) → (b || list_any (is_set_of p) es) ≡ true → P p
    by true same later h = subst P (same_path q p same) all.0
    by false away later h = later h
of_set P ((q, Delete) ∷ es) p all h = of_set P es p all h

pub apart_without_conflict : (c : Changeset) → self_conflict c ≡ None → IsApart c.changes
apart_without_conflict c none p q set other =
    let ss = sets c.changes in
    let each = weaker (λ (long : Path × File). option_map (λ (short : Path × File). (short.0, long.0)) (find (λ short. is_strict_prefix short.0 long.0) ss) ≡ None) (λ long. AllByRecursion (λ short. is_strict_prefix short.0 long.0 ≡ false) ss)
    (λ long h. none_found (λ short. is_strict_prefix short.0 long.0) ss (unmapped (λ short. (short.0, long.0)) (find (λ short. is_strict_prefix short.0 long.0) ss) h)) ss
    (none_first (λ long. option_map (λ short. (short.0, long.0)) (find (λ short. is_strict_prefix short.0 long.0) ss)) ss none) in
    of_set (λ s. is_strict_prefix s q ≡ false) c.changes p (of_set (λ l. AllByRecursion (λ short. is_strict_prefix short.0 l ≡ false) ss) c.changes q each other) set

-- ---- maps

pub flat_after : (m n : BTreeMap Path Stored) (es : Edits) → is_sorted path_cmp es ≡ true → IsApart es → IsFlat m.entries → ((p : Path) → file_in n p ≡ cond (list_any (λ e. decides_at e.1 e.0 p) es) (option_and_then file_of (at p es)) (file_in m p)) → IsFlat n.entries
flat_after m n es rises apart flat decided p q here there =
    stays_flat es p q (file_in m p) (file_in m q) rises apart (λ h g. flat p q (sym (is_some-file_in m p) ∙ h) (sym (is_some-file_in m q) ∙ g))
    (ap is_some (sym (decided p)) ∙ is_some-file_in n p ∙ here) (ap is_some (sym (decided q)) ∙ is_some-file_in n q ∙ there)
