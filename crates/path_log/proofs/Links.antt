-- The members of a line that are logged, one after the other.
use Rattle.std.proofs.Common.{◌≡◌, ℕ, zero, suc, ◌+◌, ◌<◌, ◌≤◌, Bool, true, false, cond, List, [], ◌∷◌, ◌++◌, length, refl, sym, ap, subst, ◌∙◌, append_assoc, arith}
use Rattle.std.specs.Prelude.{Option, Some, None, IfSome, IsTrue, filter, find, unwrap_or}
use Rattle.std.specs.Option.{option_and_then, option_map_or}
use Rattle.std.proofs.lemmas.List.{append-nil, length_push}
use Rattle.path_log.specs.Line.{IsEarlier, last_logged, line, line_within, logged}

some_is : (n l : ℕ) → Some n ≡ Some l → n ≡ l
some_is n l e = ap (λ o. unwrap_or o n) e

none_some : (l : ℕ) → ◌≡◌ {A = Option ℕ} None (Some l) → ⊥
none_some l e = absurd cc

none_left : (logs : ℕ → Bool) (xs : List ℕ) → find logs xs ≡ None → filter logs xs ≡ []
none_left logs [] e = refl
none_left logs (x ∷ xs) e = by (none_left logs xs) (logs x) e
  where
    by : (find logs xs ≡ None → filter logs xs ≡ []) → (b : Bool) → cond b (Some x) (find logs xs) ≡ None → cond b (x ∷ filter logs xs) (filter logs xs) ≡ []
    by later true q = absurd (none_some x (sym q))
    by later false q = later q

-- what is logged from the parent of a member on
abbrev pub logged_from : (ℕ → Option ℕ) → (ℕ → Bool) → Option ℕ → List ℕ
logged_from parent logs o = option_map_or (logged parent logs) o []

-- xs is the last that is logged from n on, and what is logged before it
pub record IsLast (asked : ℕ → Bool) (parent : ℕ → Option ℕ) (logs : ℕ → Bool) (n l : ℕ) (xs : List ℕ) : Type 0 where
  pub low : l ≤ n
  pub may : IsTrue (asked l)
  pub is : xs ≡ l ∷ logged_from parent logs (parent l)

module _ (asked : ℕ → Bool) (parent : ℕ → Option ℕ) (earlier : IsEarlier asked parent) where
  -- a line is the same for each bound that is wide enough
  steady : (a b n : ℕ) → IsTrue (asked n) → n < a → n < b → line_within a parent n ≡ line_within b parent n
  steady zero b n may in_a in_b = absurd (omega arith)
  steady (suc a) zero n may in_a in_b = absurd (omega arith)
  steady (suc a) (suc b) n may in_a in_b = ap (λ xs. n ∷ xs) (by (λ m below. steady a b m below) (parent n) refl)
    where
      by : ((m : ℕ) → IsTrue (asked m) → m < a → m < b → line_within a parent m ≡ line_within b parent m) → (o : Option ℕ) → parent n ≡ o → option_map_or (line_within a parent) o [] ≡ option_map_or (line_within b parent) o []
      by later None e = refl
      by later (Some m) e =
          let s = earlier n m may e in
          let less : m < n = s.0 in
          later m s.1 (omega arith) (omega arith)

  module _ (logs : ℕ → Bool) where
    rest_is : (k n : ℕ) → IsTrue (asked n) → n ≤ k → (o : Option ℕ) → parent n ≡ o → filter logs (option_map_or (line_within k parent) o []) ≡ logged_from parent logs o
    rest_is k n may low None e = refl
    rest_is k n may low (Some m) e =
        let s = earlier n m may e in
        let less : m < n = s.0 in
        ap (filter logs) (steady k (suc m) m s.1 (omega arith) (omega arith))

    abbrev Later : ℕ → ℕ → Type 0
    Later k l = (m : ℕ) → IsTrue (asked m) → m < k → find logs (line_within k parent m) ≡ Some l → IsLast asked parent logs m l (filter logs (line_within k parent m))

    last_within : (k n l : ℕ) → IsTrue (asked n) → n < k → find logs (line_within k parent n) ≡ Some l → IsLast asked parent logs n l (filter logs (line_within k parent n))
    last_within zero n l may low e = absurd (omega arith)
    last_within (suc k) n l may low e = by_test (λ m below. last_within k m l below) (logs n) e
      where
        by_parent : Later k l → (o : Option ℕ) → parent n ≡ o → find logs (option_map_or (line_within k parent) o []) ≡ Some l → IsLast asked parent logs n l (filter logs (option_map_or (line_within k parent) o []))
        by_parent later None p q = absurd (none_some l q)
        by_parent later (Some m) p q =
            let s = earlier n m may p in
            let less : m < n = s.0 in
            let r = later m s.1 (omega arith) q in
            let lower : l ≤ m = r.low in
            record { low = omega arith; may = r.may; is = r.is }

        by_test : Later k l → (b : Bool) → cond b (Some n) (find logs (option_map_or (line_within k parent) (parent n) [])) ≡ Some l → IsLast asked parent logs n l (cond b (n ∷ filter logs (option_map_or (line_within k parent) (parent n) [])) (filter logs (option_map_or (line_within k parent) (parent n) [])))
        by_test later true q =
            subst (λ l. IsLast asked parent logs n l (n ∷ filter logs (option_map_or (line_within k parent) (parent n) []))) (some_is n l q)
            (record { low = omega arith; may = may; is = ap (λ xs. n ∷ xs) (rest_is k n may (omega arith) (parent n) refl) })
        by_test later false q = by_parent later (parent n) refl q

    pub last_is : (n l : ℕ) → IsTrue (asked n) → last_logged parent logs n ≡ Some l → IsLast asked parent logs n l (logged parent logs n)
    last_is n l may e = last_within (suc n) n l may (omega arith) e

    -- ---- as a walk goes along

    abbrev pub May : Option ℕ → Type 0
    May next = IfSome next (λ n. IsTrue (asked n))

    pub link_is : (next : Option ℕ) (here l : ℕ) → next ≡ Some here → May next → last_logged parent logs here ≡ Some l → IsLast asked parent logs here l (logged parent logs here)
    link_is next here l e may found = last_is here l (subst May e may) found

    pub parent_may : (l : ℕ) → IsTrue (asked l) → (o : Option ℕ) → o ≡ parent l → May o
    parent_may l may None e = tt
    parent_may l may (Some m) e = (earlier l m may (sym e)).1

    pub grown : (log new : List ℕ) (next : Option ℕ) (here l : ℕ) (o : Option ℕ) (total : List ℕ) → next ≡ Some here → IsLast asked parent logs here l (logged parent logs here) → new ≡ log ++ l ∷ [] → o ≡ parent l
        → log ++ logged_from parent logs next ≡ total → new ++ logged_from parent logs o ≡ total
    grown log new next here l o total e last more p so_far =
        (λ i. more i ++ logged_from parent logs (p i))
        ∙ append_assoc log (l ∷ []) (logged_from parent logs (parent l))
        ∙ ap (λ xs. log ++ xs) (sym last.is)
        ∙ ap (λ o. log ++ logged_from parent logs o) (sym e)
        ∙ so_far

    pub lower : (next : Option ℕ) (here l : ℕ) (o : Option ℕ) → next ≡ Some here → IsLast asked parent logs here l (logged parent logs here) → o ≡ parent l → option_map_or (λ n. n + 1) o 0 < option_map_or (λ n. n + 1) next 0
    lower next here l o e last p = subst (λ next. option_map_or (λ n. n + 1) o 0 < option_map_or (λ n. n + 1) next 0) (sym e) (by o p)
      where
        by : (o : Option ℕ) → o ≡ parent l → option_map_or (λ n. n + 1) o 0 < here + 1
        by None q = omega arith
        by (Some m) q =
            let s = earlier l m last.may (sym q) in
            let less : m < l = s.0 in
            let low : l ≤ here = last.low in
            omega arith

    pub stopped : (log : List ℕ) (next : Option ℕ) (here : ℕ) (total : List ℕ) → next ≡ Some here → last_logged parent logs here ≡ None → log ++ logged_from parent logs next ≡ total → log ≡ total
    stopped log next here total e none so_far =
        sym (append-nil log) ∙ ap (λ xs. log ++ xs) (sym (none_left logs (line parent here) none)) ∙ ap (λ o. log ++ logged_from parent logs o) (sym e) ∙ so_far

    pub ended : (log : List ℕ) (next : Option ℕ) (total : List ℕ) → next ≡ None → log ++ logged_from parent logs next ≡ total → log ≡ total
    ended log next total e so_far = sym (append-nil log) ∙ ap (λ o. log ++ logged_from parent logs o) (sym e) ∙ so_far

    -- ---- as each member is asked

    abbrev pub last_from : Option ℕ → Option ℕ
    last_from o = option_and_then (last_logged parent logs) o

    found_later : (n : ℕ) → IsTrue (asked n) → (o : Option ℕ) → parent n ≡ o → find logs (option_map_or (line_within n parent) o []) ≡ last_from o
    found_later n may None e = refl
    found_later n may (Some m) e =
        let s = earlier n m may e in
        let less : m < n = s.0 in
        ap (find logs) (steady n (suc m) m s.1 (omega arith) (omega arith))

    pub asked_on : (next : Option ℕ) (here : ℕ) (o total : Option ℕ) → next ≡ Some here → May next → logs here ≡ false → o ≡ parent here → last_from next ≡ total → last_from o ≡ total
    asked_on next here o total e may quiet p so_far =
        ap last_from p
        ∙ sym (found_later here (subst May e may) (parent here) refl)
        ∙ ap (λ b. cond b (Some here) (find logs (option_map_or (line_within here parent) (parent here) []))) (sym quiet)
        ∙ ap last_from (sym e)
        ∙ so_far

    pub asked_last : (next : Option ℕ) (here : ℕ) (total : Option ℕ) → next ≡ Some here → logs here ≡ true → last_from next ≡ total → Some here ≡ total
    asked_last next here total e loud so_far =
        ap (λ b. cond b (Some here) (find logs (option_map_or (line_within here parent) (parent here) []))) (sym loud) ∙ ap last_from (sym e) ∙ so_far

    pub asked_lower : (next : Option ℕ) (here : ℕ) (o : Option ℕ) → next ≡ Some here → May next → o ≡ parent here → option_map_or (λ n. n + 1) o 0 < option_map_or (λ n. n + 1) next 0
    asked_lower next here o e may p = subst (λ next. option_map_or (λ n. n + 1) o 0 < option_map_or (λ n. n + 1) next 0) (sym e) (by o p)
      where
        by : (o : Option ℕ) → o ≡ parent here → option_map_or (λ n. n + 1) o 0 < here + 1
        by None q = omega arith
        by (Some m) q =
            let s = earlier here m (subst May e may) (sym q) in
            let less : m < here = s.0 in
            omega arith

pub one_longer : (log new : List ℕ) (l : ℕ) → new ≡ log ++ l ∷ [] → length new ≡ length log + 1
one_longer log new l e = ap length e ∙ length_push log l
