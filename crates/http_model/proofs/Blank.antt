-- Empty lines before a message.
use Rattle.std.proofs.Common.{◌≡◌, ℕ, ◌≤◌, Bool, true, false, refl, List, [], ◌∷◌, ◌++◌, length, sym, ap, ◌∙◌, subst, arith}
use Rattle.std.specs.Prelude.{◌||◌, ◌&&◌, ◌==◌}
use Rattle.std.proofs.lemmas.Bool.{eqb-true, cond-false}
use Rattle.http_model.specs.Stream.{skip_blank}

-- bytes that begin with an empty line
abbrev pub is_blank : List ℕ → Bool
is_blank [] = false
is_blank (a ∷ []) = a == 10
is_blank (a ∷ b ∷ bytes) = (a == 10) || ((a == 13) && (b == 10))

pub skip_line_feed : (bytes : List ℕ) → skip_blank (10 ∷ bytes) ≡ skip_blank bytes
skip_line_feed [] = refl
skip_line_feed (b ∷ bytes) = refl

-- an induction over the empty lines that bytes begin with
pub by_lines : (P : List ℕ → Type 0)
    → ((bytes : List ℕ) → P bytes → P (10 ∷ bytes))
    → ((bytes : List ℕ) → P bytes → P (13 ∷ 10 ∷ bytes))
    → ((bytes : List ℕ) → is_blank bytes ≡ false → P bytes)
    → (bytes : List ℕ) → P bytes
by_lines P lf crlf stop [] = stop [] refl
by_lines P lf crlf stop (a ∷ []) = at_one (a == 10) refl
  where
    at_one : (t : Bool) → (a == 10) ≡ t → P (a ∷ [])
    at_one true is = subst (λ (x : ℕ). P (x ∷ [])) (sym (eqb-true a 10 is)) (lf [] (stop [] refl))
    at_one false not = stop (a ∷ []) not
by_lines P lf crlf stop (a ∷ b ∷ bytes) = at_two (by_lines P lf crlf stop (b ∷ bytes)) (by_lines P lf crlf stop bytes) (a == 10) refl (a == 13) refl (b == 10) refl
  where
    at_two : P (b ∷ bytes) → P bytes → (t : Bool) → (a == 10) ≡ t → (u : Bool) → (a == 13) ≡ u → (v : Bool) → (b == 10) ≡ v → P (a ∷ b ∷ bytes)
    at_two one two true is u cr v second = subst (λ (x : ℕ). P (x ∷ b ∷ bytes)) (sym (eqb-true a 10 is)) (lf (b ∷ bytes) one)
    at_two one two false not true cr true second = subst (λ (x : ℕ). P (x ∷ b ∷ bytes)) (sym (eqb-true a 13 cr)) (subst (λ (x : ℕ). P (13 ∷ x ∷ bytes)) (sym (eqb-true b 10 second)) (crlf bytes two))
    at_two one two false not true cr false second = stop (a ∷ b ∷ bytes) (rw (not, cr, second) refl)
    at_two one two false not false cr v second = stop (a ∷ b ∷ bytes) (rw (not, cr) refl)

-- bytes that don't begin with an empty line stay
pub skip_none : (bytes : List ℕ) → is_blank bytes ≡ false → skip_blank bytes ≡ bytes
skip_none [] none = refl
skip_none (a ∷ []) none = cond-false _ _ _ none
skip_none (a ∷ b ∷ bytes) none = by_tests (a == 10) refl ((a == 13) && (b == 10)) refl none
  where
    by_tests : (t : Bool) → (a == 10) ≡ t → (u : Bool) → ((a == 13) && (b == 10)) ≡ u → (t || u) ≡ false → skip_blank (a ∷ b ∷ bytes) ≡ a ∷ b ∷ bytes
    by_tests true is u crlf both = absurd (cc)
    by_tests false is true crlf both = absurd (cc)
    by_tests false is false crlf both = rw (is, crlf) refl

pub skip_skip : (bytes : List ℕ) → skip_blank (skip_blank bytes) ≡ skip_blank bytes
skip_skip = by_lines (λ bytes. skip_blank (skip_blank bytes) ≡ skip_blank bytes)
    (λ bytes before. ap skip_blank (skip_line_feed bytes) ∙ before ∙ sym (skip_line_feed bytes))
    (λ bytes before. before)
    (λ bytes none. ap skip_blank (skip_none bytes none))

-- no bytes begin with an empty line once the empty lines are dropped
pub skipped_is_not_blank : (bytes : List ℕ) → is_blank (skip_blank bytes) ≡ false
skipped_is_not_blank = by_lines (λ bytes. is_blank (skip_blank bytes) ≡ false)
    (λ bytes before. ap is_blank (skip_line_feed bytes) ∙ before)
    (λ bytes before. before)
    (λ bytes none. ap is_blank (skip_none bytes none) ∙ none)

pub skip-append : (bytes more : List ℕ) → skip_blank (skip_blank bytes ++ more) ≡ skip_blank (bytes ++ more)
skip-append bytes more = by_lines (λ bs. skip_blank (skip_blank bs ++ more) ≡ skip_blank (bs ++ more))
    (λ bs before. ap (λ x. skip_blank (x ++ more)) (skip_line_feed bs) ∙ before ∙ sym (skip_line_feed (bs ++ more)))
    (λ bs before. before)
    (λ bs none. ap (λ x. skip_blank (x ++ more)) (skip_none bs none)) bytes

not_blank-append : (bytes more : List ℕ) → 2 ≤ length bytes → is_blank bytes ≡ false → is_blank (bytes ++ more) ≡ false
not_blank-append [] more two none = absurd (omega arith)
not_blank-append (a ∷ []) more two none = absurd (omega arith)
not_blank-append (a ∷ b ∷ bytes) more two none = none

-- two bytes that are no empty line stand before whatever follows
pub skip_keeps : (bytes more : List ℕ) → 2 ≤ length (skip_blank bytes) → skip_blank (bytes ++ more) ≡ skip_blank bytes ++ more
skip_keeps bytes more two =
    sym (skip-append bytes more) ∙ skip_none (skip_blank bytes ++ more) (not_blank-append (skip_blank bytes) more two (skipped_is_not_blank bytes))

pub skip_shortens : (bytes : List ℕ) → length (skip_blank bytes) ≤ length bytes
skip_shortens = by_lines (λ bytes. length (skip_blank bytes) ≤ length bytes)
    (λ bytes before. let same = ap length (skip_line_feed bytes) in omega arith)
    (λ bytes before. omega arith)
    (λ bytes none. let same = ap length (skip_none bytes none) in omega arith)
