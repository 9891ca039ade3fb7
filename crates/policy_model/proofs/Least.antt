-- The first of rising paths that passes a test is the least that does.
use Rattle.std.proofs.Common.{◌≡◌, ◌<◌, ◌⊎◌, ℕ, zero, suc, Bool, true, false, cond, List, [], ◌∷◌, length, inl, inr, refl, sym, subst, ap, ◌∙◌, arith}
use Rattle.std.specs.Prelude.{not, find, Option, None, Some, option_map, Contains, slice_index_or}
use Rattle.byte_fields.proofs.Booleans.{same_some, unmapped as nothing_of}
use Rattle.byte_fields.proofs.Lists.{contains_head, contains_tail, each_of, none_found}
use Rattle.changeset_model.specs.Path.{Path, path_lt, IsRising}
use Rattle.policy_model.specs.Rules.{Rule, Denial, decide, is_allowed, denied, IsLeastDenied}

-- an element is the first one or one of the others
first_or_other : {X : Type 0} (x y : X) (xs : List X) → Contains (x ∷ xs) y → (x ≡ y) ⊎ Contains xs y
first_or_other {X} x y xs c = by c.0 c.1 c.2
  where
    by : (k : ℕ) → k < length (x ∷ xs) → slice_index_or (x ∷ xs) k y ≡ y → (x ≡ y) ⊎ Contains xs y
    by zero less is = inl is
    by (suc k) less is = inr (k, omega arith, is)

pub record IsLeast (t : Path → Bool) (ps : List Path) (p : Path) : Type 0 where
  pub among : Contains ps p
  pub passes : t p ≡ true
  pub least : (q : Path) → Contains ps q → t q ≡ true → (p ≡ q) ⊎ (path_lt p q ≡ true)

least_by : (t : Path → Bool) (r : Path) (ps : List Path) (p : Path) → IsRising (r ∷ ps) → (find t ps ≡ Some p → IsLeast t ps p) → (b : Bool) → t r ≡ b → cond b (Some r) (find t ps) ≡ Some p → IsLeast t (r ∷ ps) p
least_by t r ps p rising ih true passes found =
    let same : r ≡ p = same_some r p found in
    record {
      among = subst (Contains (r ∷ ps)) same (contains_head r ps);
      passes = ap t (sym same) ∙ passes;
      least = λ q within also. by q (first_or_other r q ps within) same;
    }
  where
    by : (q : Path) → (r ≡ q) ⊎ Contains ps q → r ≡ p → (p ≡ q) ⊎ (path_lt p q ≡ true)
    by q (inl is) same = inl (sym same ∙ is)
    by q (inr within) same = inr (ap (λ (s : Path). path_lt s q) (sym same) ∙ each_of (λ s. path_lt r s ≡ true) ps q rising.0 within)
least_by t r ps p rising ih false fails found =
    let more = ih found in
    record {
      among = contains_tail r p ps more.among;
      passes = more.passes;
      least = λ q within also. by q also (first_or_other r q ps within) more;
    }
  where
    by : (q : Path) → t q ≡ true → (r ≡ q) ⊎ Contains ps q → IsLeast t ps p → (p ≡ q) ⊎ (path_lt p q ≡ true)
    by q also (inl is) more = absurd (let no : true ≡ false = sym also ∙ ap t (sym is) ∙ fails in cc)
    by q also (inr within) more = more.least q within also

pub least_found : (t : Path → Bool) (ps : List Path) (p : Path) → IsRising ps → find t ps ≡ Some p → IsLeast t ps p
least_found t [] p rising found = absurd (cc)
least_found t (r ∷ ps) p rising found = least_by t r ps p rising (least_found t ps p rising.1) (t r) refl found

-- ---- the denied path

not_true : (b : Bool) → not b ≡ true → b ≡ false
not_true true h = absurd (cc)
not_true false h = refl

true_not : (b : Bool) → b ≡ false → not b ≡ true
true_not true h = absurd (cc)
true_not false h = refl

unmapped : {X Y : Type 0} (f : X → Y) (o : Option X) (y : Y) → option_map f o ≡ Some y → (x : X) × (o ≡ Some x) × (f x ≡ y)
unmapped f None y h = absurd (cc)
unmapped f (Some x) y h = (x, refl, same_some (f x) y h)

found_in : (rules : List Rule) (name : List ℕ) (ps : List Path) (d : Denial) → denied rules name ps ≡ Some d → (p : Path) × (find (λ p. not (is_allowed rules name p)) ps ≡ Some p) × (◌≡◌ {A = Denial} (record { path = p; rule = decide rules name p }) d)
found_in rules name ps d h = unmapped (λ p. record { path = p; rule = decide rules name p }) (find (λ p. not (is_allowed rules name p)) ps) d h

pub rule_of_denied : (rules : List Rule) (name : List ℕ) (ps : List Path) (d : Denial) → denied rules name ps ≡ Some d → d.rule ≡ decide rules name d.path
rule_of_denied rules name ps d h =
    let found = found_in rules name ps d h in
    sym (ap (λ (e : Denial). e.rule) found.2) ∙ ap (decide rules name) (ap (λ (e : Denial). e.path) found.2)

pub denied_least : (rules : List Rule) (name : List ℕ) (ps : List Path) (d : Denial) → IsRising ps → denied rules name ps ≡ Some d → IsLeastDenied rules name ps d.path
denied_least rules name ps d rising h =
    let found = found_in rules name ps d h in
    let least = least_found (λ p. not (is_allowed rules name p)) ps found.0 rising found.1 in
    subst (IsLeastDenied rules name ps) (ap (λ (e : Denial). e.path) found.2) (record {
      among = least.among;
      refused = not_true (is_allowed rules name found.0) least.passes;
      least = λ q within refused. least.least q within (true_not (is_allowed rules name q) refused);
    })

-- ---- nothing is denied

not_none : (b : Bool) → not b ≡ false → b ≡ true
not_none true h = refl
not_none false h = absurd (cc)

pub all_allowed : (rules : List Rule) (name : List ℕ) (ps : List Path) (p : Path) → denied rules name ps ≡ None → Contains ps p → is_allowed rules name p ≡ true
all_allowed rules name ps p none within =
    not_none (is_allowed rules name p) (each_of (λ p. not (is_allowed rules name p) ≡ false) ps p
    (none_found (λ p. not (is_allowed rules name p)) ps (nothing_of (λ p. record { path = p; rule = decide rules name p }) (find (λ p. not (is_allowed rules name p)) ps) none)) within)
