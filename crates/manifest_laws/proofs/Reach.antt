-- What the edits of a changeset do at a path directly in a directory.
use Rattle.std.proofs.Common.{◌≡◌, ◌⊎◌, inl, inr, ℕ, Bool, true, false, cond, ◌&&◌, ◌||◌, List, [], ◌∷◌, ◌++◌, refl, sym, ap, ◌∙◌}
use Rattle.std.specs.Prelude.{Option, Some, None, bytes_eq}
use mathlib.Core.Bool.{true≢false}
use Rattle.std.specs.List.{list_any}
use Rattle.std.specs.Option.{option_and_then}
use Rattle.std.specs.Ordering.{eq_by_cmp}
use Rattle.std.specs.FinMap.{is_sorted, find as find_key}
use Rattle.std.specs.FinMap.Entries.{below_all}
use Rattle.std.proofs.lemmas.Bool.{and_parts, or_parts, or_left, or_right, false_from_ne_true}
use Rattle.changeset_model.specs.Path.{Path, path_cmp, path_eq, is_prefix, is_strict_prefix}
use Rattle.changeset_model.specs.Changeset.{File, FileChange, Set, Delete, file_of}
use Rattle.history_model.specs.Tree.{decides_at}
use Rattle.manifest_model.proofs.Derivations.{tied_same}
use Rattle.manifest_laws.specs.Changes.{reaches, covers}
use Rattle.manifest_laws.proofs.Names.{same_name, name_itself}
use Rattle.manifest_laws.proofs.Changes.{prefix_itself, prefix_trans}
use Rattle.manifest_laws.proofs.Flat.{tied_self, is_strict_or_same}
use Rattle.manifest_laws.proofs.Lists.{none_some, true_and_false}
use Rattle.manifest_model.proofs.Derivations.{or_case as or_either}
use Rattle.manifest_laws.proofs.Folded.{not_found, apart_same}

abbrev pub Edits : Type 0
Edits = List (Path × FileChange)

-- ---- paths

path_same : (p q : Path) → path_eq p q ≡ true → p ≡ q
path_same [] [] h = refl
path_same [] (k ∷ q) h = absurd (true≢false (sym h))
path_same (k ∷ p) [] h = absurd (true≢false (sym h))
path_same (k ∷ p) (m ∷ q) h = let parts = and_parts (bytes_eq k m) (path_eq p q) h in λ i. same_name k m parts.0 i ∷ path_same p q parts.1 i

pub prefix_push : (r d : Path) (n : List ℕ) → is_prefix r (d ++ n ∷ []) ≡ true → (is_prefix r d ≡ true) ⊎ (r ≡ d ++ n ∷ [])
prefix_push [] d n h = inl refl
prefix_push (k ∷ r) [] n h = by r (and_parts (bytes_eq k n) (is_prefix r []) h)
  where
    by : (r : Path) → (bytes_eq k n ≡ true) × (is_prefix r [] ≡ true) → (is_prefix (k ∷ r) [] ≡ true) ⊎ (k ∷ r ≡ n ∷ [])
    by [] parts = inr (λ i. same_name k n parts.0 i ∷ [])
    by (m ∷ r) parts = absurd (true≢false (sym parts.1))
prefix_push (k ∷ r) (m ∷ d) n h =
    let parts = and_parts (bytes_eq k m) (is_prefix r (d ++ n ∷ [])) h in
    by parts.0 (prefix_push r d n parts.1)
  where
    by : bytes_eq k m ≡ true → (is_prefix r d ≡ true) ⊎ (r ≡ d ++ n ∷ []) → (is_prefix (k ∷ r) (m ∷ d) ≡ true) ⊎ (k ∷ r ≡ m ∷ d ++ n ∷ [])
    by same (inl g) = inl (λ i. same i && g i)
    by same (inr e) = inr (λ i. same_name k m same i ∷ e i)

untied : (p r : Path) → r ≡ p → eq_by_cmp path_cmp p r ≡ true
untied p r e = ap (eq_by_cmp path_cmp p) e ∙ tied_self p

-- ---- an edit elsewhere

-- what is found at the path, by whether the first edit is there
not_first : (p r : Path) (change : FileChange) (rest : Option FileChange) → (b : Bool) → eq_by_cmp path_cmp p r ≡ b → cond b (Some change) rest ≡ None → (eq_by_cmp path_cmp p r ≡ false) × (rest ≡ None)
not_first p r change rest true e h = absurd (cc)
not_first p r change rest false e h = (e, h)

above_only : (d : Path) (n : List ℕ) (r : Path) → eq_by_cmp path_cmp (d ++ n ∷ []) r ≡ false → is_prefix r d ≡ false → is_prefix r (d ++ n ∷ []) ≡ false
above_only d n r other out = false_from_ne_true (is_prefix r (d ++ n ∷ [])) (λ g. by (prefix_push r d n g))
  where
    by : (is_prefix r d ≡ true) ⊎ (r ≡ d ++ n ∷ []) → ⊥
    by (inl h) = true_and_false (is_prefix r d) h out
    by (inr e) = true_and_false (eq_by_cmp path_cmp (d ++ n ∷ []) r) (untied (d ++ n ∷ []) r e) other

under_only : (p r : Path) → eq_by_cmp path_cmp p r ≡ false → is_strict_prefix p r ≡ false → is_prefix p r ≡ false
under_only p r other out = false_from_ne_true (is_prefix p r) (λ g. by (is_strict_or_same p r g))
  where
    by : (r ≡ p) ⊎ (is_strict_prefix p r ≡ true) → ⊥
    by (inl e) = true_and_false (eq_by_cmp path_cmp p r) (untied p r e) other
    by (inr h) = true_and_false (is_strict_prefix p r) h out

-- an edit that sets a path under this one
abbrev pub sets_under : Path → Path × FileChange → Bool
sets_under p (q, Set f copied) = is_strict_prefix p q
sets_under p (q, Delete) = false

undecided_at : (d : Path) (n : List ℕ) (r : Path) (change : FileChange) → eq_by_cmp path_cmp (d ++ n ∷ []) r ≡ false → covers (r, change) d ≡ false → sets_under (d ++ n ∷ []) (r, change) ≡ false → decides_at change r (d ++ n ∷ []) ≡ false
undecided_at d n r (Set f copied) other out none = λ i. above_only d n r other out i || under_only (d ++ n ∷ []) r other none i
undecided_at d n r Delete other out none = false_from_ne_true (path_eq r (d ++ n ∷ [])) (λ g. true_and_false (eq_by_cmp path_cmp (d ++ n ∷ []) r) (untied (d ++ n ∷ []) r (path_same r (d ++ n ∷ []) g)) other)

pub undecided : (d : Path) (n : List ℕ) (es : Edits) → find_key path_cmp (d ++ n ∷ []) es ≡ None → list_any (λ e. covers e d) es ≡ false → list_any (sets_under (d ++ n ∷ [])) es ≡ false → list_any (λ e. decides_at e.1 e.0 (d ++ n ∷ [])) es ≡ false
undecided d n [] none out unset = refl
undecided d n ((r, change) ∷ es) none out unset =
    let first = not_first (d ++ n ∷ []) r change (find_key path_cmp (d ++ n ∷ []) es) (eq_by_cmp path_cmp (d ++ n ∷ []) r) refl none in
    let outs = or_parts (covers (r, change) d) (list_any (λ e. covers e d) es) out in
    let sets = or_parts (sets_under (d ++ n ∷ []) (r, change)) (list_any (sets_under (d ++ n ∷ [])) es) unset in
    (λ i. undecided_at d n r change first.0 outs.0 sets.0 i || undecided d n es first.1 outs.1 sets.1 i)

unreached_at : (d : Path) (n : List ℕ) (r : Path) (change : FileChange) → eq_by_cmp path_cmp (d ++ n ∷ []) r ≡ false → covers (r, change) d ≡ false → is_strict_prefix (d ++ n ∷ []) r ≡ false → reaches (r, change) (d ++ n ∷ []) ≡ false
unreached_at d n r (Set f copied) other out none = λ i. above_only d n r other out i || under_only (d ++ n ∷ []) r other none i
unreached_at d n r Delete other out none = under_only (d ++ n ∷ []) r other none

pub unreached : (d : Path) (n : List ℕ) (es : Edits) → find_key path_cmp (d ++ n ∷ []) es ≡ None → list_any (λ e. covers e d) es ≡ false → list_any (λ e. is_strict_prefix (d ++ n ∷ []) e.0) es ≡ false → list_any (λ e. reaches e (d ++ n ∷ [])) es ≡ false
unreached d n [] none out unset = refl
unreached d n ((r, change) ∷ es) none out unset =
    let first = not_first (d ++ n ∷ []) r change (find_key path_cmp (d ++ n ∷ []) es) (eq_by_cmp path_cmp (d ++ n ∷ []) r) refl none in
    let outs = or_parts (covers (r, change) d) (list_any (λ e. covers e d) es) out in
    let sets = or_parts (is_strict_prefix (d ++ n ∷ []) r) (list_any (λ e. is_strict_prefix (d ++ n ∷ []) e.0) es) unset in
    (λ i. unreached_at d n r change first.0 outs.0 sets.0 i || unreached d n es first.1 outs.1 sets.1 i)

-- ---- a set above

covers_push_at : (d : Path) (n : List ℕ) (r : Path) (change : FileChange) → covers (r, change) d ≡ true → covers (r, change) (d ++ n ∷ []) ≡ true
covers_push_at d n r (Set f copied) h = prefix_trans r d (d ++ n ∷ []) h (prefix_itself d (n ∷ []))
covers_push_at d n r Delete h = absurd (true≢false (sym h))

pub covers_push : (d : Path) (n : List ℕ) (es : Edits) → list_any (λ e. covers e d) es ≡ true → list_any (λ e. covers e (d ++ n ∷ [])) es ≡ true
covers_push d n [] h = absurd (true≢false (sym h))
covers_push d n (e ∷ es) h =
    or_either (covers e d) (list_any (λ e. covers e d) es)
    (λ g. or_left (covers e (d ++ n ∷ [])) (list_any (λ e. covers e (d ++ n ∷ [])) es) (covers_push_at d n e.0 e.1 g))
    (λ g. or_right (covers e (d ++ n ∷ [])) (list_any (λ e. covers e (d ++ n ∷ [])) es) (covers_push d n es g)) h

covers_decides_at : (p r : Path) (change : FileChange) → covers (r, change) p ≡ true → decides_at change r p ≡ true
covers_decides_at p r (Set f copied) h = or_left (is_prefix r p) (is_prefix p r) h
covers_decides_at p r Delete h = absurd (true≢false (sym h))

pub covers_decides : (p : Path) (es : Edits) → list_any (λ e. covers e p) es ≡ true → list_any (λ e. decides_at e.1 e.0 p) es ≡ true
covers_decides p [] h = absurd (true≢false (sym h))
covers_decides p (e ∷ es) h =
    or_either (covers e p) (list_any (λ e. covers e p) es)
    (λ g. or_left (decides_at e.1 e.0 p) (list_any (λ e. decides_at e.1 e.0 p) es) (covers_decides_at p e.0 e.1 g))
    (λ g. or_right (decides_at e.1 e.0 p) (list_any (λ e. decides_at e.1 e.0 p) es) (covers_decides p es g)) h

uncovered_at : (d : Path) (n : List ℕ) (r : Path) (change : FileChange) → eq_by_cmp path_cmp (d ++ n ∷ []) r ≡ false → covers (r, change) d ≡ false → covers (r, change) (d ++ n ∷ []) ≡ false
uncovered_at d n r (Set f copied) other out = above_only d n r other out
uncovered_at d n r Delete other out = refl

pub uncovered : (d : Path) (n : List ℕ) (es : Edits) → find_key path_cmp (d ++ n ∷ []) es ≡ None → list_any (λ e. covers e d) es ≡ false → list_any (λ e. covers e (d ++ n ∷ [])) es ≡ false
uncovered d n [] none out = refl
uncovered d n ((r, change) ∷ es) none out =
    let first = not_first (d ++ n ∷ []) r change (find_key path_cmp (d ++ n ∷ []) es) (eq_by_cmp path_cmp (d ++ n ∷ []) r) refl none in
    let outs = or_parts (covers (r, change) d) (list_any (λ e. covers e d) es) out in
    (λ i. uncovered_at d n r change first.0 outs.0 i || uncovered d n es first.1 outs.1 i)

is_delete : (change : FileChange) → ◌≡◌ {A = Option FileChange} (Some change) (Some Delete) → (r p : Path) → covers (r, change) p ≡ false
is_delete (Set f copied) e r p = absurd (cc)
is_delete Delete e r p = refl

-- a deleted path isn't covered but where its directory is
pub uncovered_deleted : (d : Path) (n : List ℕ) (es : Edits) → is_sorted path_cmp es ≡ true → find_key path_cmp (d ++ n ∷ []) es ≡ Some Delete → list_any (λ e. covers e d) es ≡ false → list_any (λ e. covers e (d ++ n ∷ [])) es ≡ false
uncovered_deleted d n [] rise found out = refl
uncovered_deleted d n ((r, change) ∷ es) rise found out =
    let parts = and_parts (below_all path_cmp r es) (is_sorted path_cmp es) rise in
    let outs = or_parts (covers (r, change) d) (list_any (λ e. covers e d) es) out in
    by outs.0 outs.1 parts.0 (λ g. uncovered_deleted d n es parts.1 g outs.1) (eq_by_cmp path_cmp (d ++ n ∷ []) r) refl found
  where
    by : covers (r, change) d ≡ false → list_any (λ e. covers e d) es ≡ false → below_all path_cmp r es ≡ true
        → (find_key path_cmp (d ++ n ∷ []) es ≡ Some Delete → list_any (λ e. covers e (d ++ n ∷ [])) es ≡ false)
        → (b : Bool) → eq_by_cmp path_cmp (d ++ n ∷ []) r ≡ b → cond b (Some change) (find_key path_cmp (d ++ n ∷ []) es) ≡ Some Delete → (covers (r, change) (d ++ n ∷ []) || list_any (λ e. covers e (d ++ n ∷ [])) es) ≡ false
    by out outs later ih true e g = λ i. is_delete change g r (d ++ n ∷ []) i || uncovered d n es (not_found (d ++ n ∷ []) r (λ q h. apart_same (d ++ n ∷ []) r q e h) es later) outs i
    by out outs later ih false e g = λ i. uncovered_at d n r change e out i || ih g i

-- ---- a delete

path_itself : (p : Path) → path_eq p p ≡ true
path_itself [] = refl
path_itself (k ∷ p) = λ i. name_itself k i && path_itself p i

deletes_at : (p r : Path) (change : FileChange) → r ≡ p → ◌≡◌ {A = Option FileChange} (Some change) (Some Delete) → decides_at change r p ≡ true
deletes_at p r (Set f copied) e g = absurd (cc)
deletes_at p r Delete e g = ap (λ x. path_eq x p) e ∙ path_itself p

-- ---- a set under

abbrev pub HasSet : Path → Edits → Type 0
HasSet p es = (q : Path) × (f : File) × (is_strict_prefix p q ≡ true) × (option_and_then file_of (find_key path_cmp q es) ≡ Some f)

later_set : (p r : Path) (change : FileChange) (es : Edits) → below_all path_cmp r es ≡ true → (q : Path) (f : File) → option_and_then file_of (find_key path_cmp q es) ≡ Some f
    → (b : Bool) → eq_by_cmp path_cmp q r ≡ b → option_and_then file_of (cond b (Some change) (find_key path_cmp q es)) ≡ Some f
later_set p r change es later q f found true e = none_some f (ap (option_and_then file_of) (sym (not_found q r (λ x h. apart_same q r x e h) es later)) ∙ found)
later_set p r change es later q f found false e = found

first_set : (p r : Path) (change : FileChange) (es : Edits) → sets_under p (r, change) ≡ true → HasSet p ((r, change) ∷ es)
first_set p r (Set f copied) es h = (r, f, h, ap (λ b. option_and_then file_of (cond b (Some (Set f copied)) (find_key path_cmp r es))) (tied_self r))
first_set p r Delete es h = absurd (true≢false (sym h))

pub set_found : (p : Path) (es : Edits) → is_sorted path_cmp es ≡ true → list_any (sets_under p) es ≡ true → HasSet p es
set_found p [] rise h = absurd (true≢false (sym h))
set_found p ((r, change) ∷ es) rise h =
    let parts = and_parts (below_all path_cmp r es) (is_sorted path_cmp es) rise in
    or_either (sets_under p (r, change)) (list_any (sets_under p) es)
    (λ g. first_set p r change es g)
    (λ g. let rest = set_found p es parts.1 g in (rest.0, rest.1, rest.2, later_set p r change es parts.0 rest.0 rest.1 rest.3 (eq_by_cmp path_cmp rest.0 r) refl)) h

-- ---- a set at or above

abbrev pub HasCover : Path → Edits → Type 0
HasCover d es = (q : Path) × (f : File) × (is_prefix q d ≡ true) × (option_and_then file_of (find_key path_cmp q es) ≡ Some f)

first_cover : (d r : Path) (change : FileChange) (es : Edits) → covers (r, change) d ≡ true → HasCover d ((r, change) ∷ es)
first_cover d r (Set f copied) es h = (r, f, h, ap (λ b. option_and_then file_of (cond b (Some (Set f copied)) (find_key path_cmp r es))) (tied_self r))
first_cover d r Delete es h = absurd (true≢false (sym h))

pub cover_found : (d : Path) (es : Edits) → is_sorted path_cmp es ≡ true → list_any (λ e. covers e d) es ≡ true → HasCover d es
cover_found d [] rise h = absurd (true≢false (sym h))
cover_found d ((r, change) ∷ es) rise h =
    let parts = and_parts (below_all path_cmp r es) (is_sorted path_cmp es) rise in
    or_either (covers (r, change) d) (list_any (λ e. covers e d) es)
    (λ g. first_cover d r change es g)
    (λ g. let rest = cover_found d es parts.1 g in (rest.0, rest.1, rest.2, later_set r r change es parts.0 rest.0 rest.1 rest.3 (eq_by_cmp path_cmp rest.0 r) refl)) h

-- ---- a deleted path is decided

deletes_by : (p r : Path) (change : FileChange) (es : Edits) → (find_key path_cmp p es ≡ Some Delete → list_any (λ e. decides_at e.1 e.0 p) es ≡ true) → (b : Bool) → (b ≡ true → r ≡ p) → cond b (Some change) (find_key path_cmp p es) ≡ Some Delete → (decides_at change r p || list_any (λ e. decides_at e.1 e.0 p) es) ≡ true
deletes_by p r change es ih true same h = or_left (decides_at change r p) (list_any (λ e. decides_at e.1 e.0 p) es) (deletes_at p r change (same refl) h)
deletes_by p r change es ih false same h = or_right (decides_at change r p) (list_any (λ e. decides_at e.1 e.0 p) es) (ih h)

pub deletes : (p : Path) (es : Edits) → find_key path_cmp p es ≡ Some Delete → list_any (λ e. decides_at e.1 e.0 p) es ≡ true
deletes p [] h = absurd (cc)
deletes p ((r, change) ∷ es) h = deletes_by p r change es (deletes p es) (eq_by_cmp path_cmp p r) (λ t. sym (tied_same p r t)) h
