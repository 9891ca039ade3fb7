-- The order of paths by their texts: a slash is below every other byte, and a text below each that it begins.
use Rattle.std.proofs.Common.{◌≡◌, ℕ, ◌+◌, ◌-◌, min, ◌<◌, ◌≤◌, Bool, true, false, cond, List, [], ◌∷◌, length, drop, refl, sym, ap, ◌∙◌, arith}
use Rattle.std.specs.Prelude.{◌==◌, bytes_eq, nat_eq, slice_index, nat_lt}
use Rattle.std.specs.declared.cmp.Ordering.{Ordering}
use Rattle.std.specs.declared.cmp.Ordering.TheVariants.{Less, Equal, Greater}
use Rattle.std.specs.Ordering.{nat_cmp, ordering_then, eq_by_cmp, is_eq}
use Rattle.std.specs.Cmp.Lexicographic.{slice_cmp, lists_ties}
use Rattle.std.specs.List.{onto_first}
use Rattle.std.proofs.lemmas.Bool.{ltb-true, ltb-false}
use Rattle.std.proofs.lemmas.Bool.Decides.{nat_tests}
use Rattle.std.proofs.lemmas.List.{drop_more, drop_all, length-drop}
use Rattle.changeset_model.specs.Path.{Path, elements, path_eq, path_cmp}
use Rattle.repo_path.specs.Order.{path_eq_ties}
use Rattle.repo_path.proofs.Elements.{elements_by}
use Rattle.changeset_model.proofs.Accepting.{elements_some as some_elements}

abbrev pub rank : ℕ → ℕ
rank b = cond (b == 0x2F) 0 (b + 1)

abbrev pub byte_cmp : ℕ → ℕ → Ordering
byte_cmp b c = nat_cmp (rank b) (rank c)

abbrev pub text_cmp : List ℕ → List ℕ → Ordering
text_cmp = slice_cmp byte_cmp

-- ---- elements

slash_below : (c : ℕ) (p q : Path) → (0 < length q) → (path_cmp ([] ∷ p) (onto_first c q) ≡ Less) × (path_cmp (onto_first c q) ([] ∷ p) ≡ Greater)
slash_below c p [] some = absurd (omega arith)
slash_below c p (f ∷ q) some = (refl, refl)

end_below : (p : Path) → (0 < length p) → (path_cmp ([] ∷ []) ([] ∷ p) ≡ Less) × (path_cmp ([] ∷ p) ([] ∷ []) ≡ Greater)
end_below [] some = absurd (omega arith)
end_below (e ∷ p) some = (refl, refl)

then_assoc : (a b c : Ordering) → ordering_then (ordering_then a b) c ≡ ordering_then a (ordering_then b c)
then_assoc Less b c = refl
then_assoc Equal b c = refl
then_assoc Greater b c = refl

by_bytes : (b c : ℕ) (p q : Path) → (0 < length p) → (0 < length q) → path_cmp (onto_first b p) (onto_first c q) ≡ ordering_then (nat_cmp b c) (path_cmp p q)
by_bytes b c [] q some other = absurd (omega arith)
by_bytes b c (e ∷ p) [] some other = absurd (omega arith)
by_bytes b c (e ∷ p) (f ∷ q) some other = then_assoc (nat_cmp b c) (slice_cmp nat_cmp e f) (path_cmp p q)

-- ---- texts

rise : (b c : ℕ) → nat_cmp b c ≡ nat_cmp (b + 1) (c + 1)
rise b c = grind (arith, nat_tests)

zero_below : (c : ℕ) → nat_cmp 0 (c + 1) ≡ Less
zero_below c = grind (arith, nat_tests)

above_zero : (c : ℕ) → nat_cmp (c + 1) 0 ≡ Greater
above_zero c = grind (arith, nat_tests)

both : (b c : ℕ) (p q : List ℕ) → path_cmp (elements p) (elements q) ≡ text_cmp p q → (t u : Bool) → path_cmp (elements_by t b p) (elements_by u c q) ≡ ordering_then (nat_cmp (cond t 0 (b + 1)) (cond u 0 (c + 1))) (text_cmp p q)
both b c p q ih true true = ih
both b c p q ih true false = (slash_below c (elements p) (elements q) (some_elements q)).0 ∙ ap (λ o. ordering_then o (text_cmp p q)) (sym (zero_below c))
both b c p q ih false true = (slash_below b (elements q) (elements p) (some_elements p)).1 ∙ ap (λ o. ordering_then o (text_cmp p q)) (sym (above_zero b))
both b c p q ih false false = by_bytes b c (elements p) (elements q) (some_elements p) (some_elements q) ∙ (λ i. ordering_then (rise b c i) (ih i))

first_ends : (c : ℕ) (q : List ℕ) (t : Bool) → path_cmp ([] ∷ []) (elements_by t c q) ≡ Less
first_ends c q true = (end_below (elements q) (some_elements q)).0
first_ends c q false = (slash_below c [] (elements q) (some_elements q)).0

second_ends : (b : ℕ) (p : List ℕ) (t : Bool) → path_cmp (elements_by t b p) ([] ∷ []) ≡ Greater
second_ends b p true = (end_below (elements p) (some_elements p)).1
second_ends b p false = (slash_below b [] (elements p) (some_elements p)).1

pub path_cmp-texts : (p q : List ℕ) → path_cmp (elements p) (elements q) ≡ text_cmp p q
path_cmp-texts [] [] = refl
path_cmp-texts [] (c ∷ q) = first_ends c q (c == 0x2F)
path_cmp-texts (b ∷ p) [] = second_ends b p (b == 0x2F)
path_cmp-texts (b ∷ p) (c ∷ q) = both b c p q (path_cmp-texts p q) (b == 0x2F) (c == 0x2F)

-- ---- equal texts

rank_ties : (b c : ℕ) → nat_eq b c ≡ eq_by_cmp byte_cmp b c
rank_ties b c = grind (arith, nat_tests)

pub path_eq-texts : (p q : List ℕ) → path_eq (elements p) (elements q) ≡ bytes_eq p q
path_eq-texts p q = path_eq_ties (elements p) (elements q) ∙ ap is_eq (path_cmp-texts p q) ∙ sym (lists_ties byte_cmp rank_ties p q)

-- ---- from a place on

settled : (o r : Ordering) → is_eq o ≡ false → ordering_then o r ≡ o
settled Less r h = refl
settled Equal r h = absurd (cc)
settled Greater r h = refl

pub cmp-step : (p q : List ℕ) (i : ℕ) → i < length p → i < length q → text_cmp (drop i p) (drop i q) ≡ ordering_then (byte_cmp (slice_index p i) (slice_index q i)) (text_cmp (drop (i + 1) p) (drop (i + 1) q))
cmp-step p q i h g = (λ k. text_cmp (drop_more p i 0 h k) (drop_more q i 0 g k))

pub cmp-same : (b c : ℕ) → b ≡ c → byte_cmp b c ≡ Equal
cmp-same b c e = ap (byte_cmp b) (sym e) ∙ grind (arith, nat_tests)

pub cmp-apart : (b c : ℕ) (r : Ordering) → (b ≡ c → ⊥) → ordering_then (byte_cmp b c) r ≡ byte_cmp b c
cmp-apart b c r n = settled (byte_cmp b c) r (sym (rank_ties b c) ∙ grind (arith, nat_tests))

first_is_empty : (q : List ℕ) → text_cmp [] q ≡ nat_cmp 0 (length q)
first_is_empty [] = refl
first_is_empty (c ∷ q) = grind (arith, nat_tests)

second_is_empty : (p : List ℕ) → text_cmp p [] ≡ nat_cmp (length p) 0
second_is_empty [] = refl
second_is_empty (b ∷ p) = grind (arith, nat_tests)

shifted : (a b i : ℕ) → i ≤ a → i ≤ b → nat_cmp (a - i) (b - i) ≡ nat_cmp a b
shifted a b i h g = grind (arith, nat_tests)

cmp_ended_by : (p q : List ℕ) (i : ℕ) → i ≤ length p → i ≤ length q → min (length p) (length q) ≤ i → (b : Bool) → nat_lt (length p) (length q) ≡ b → text_cmp (drop i p) (drop i q) ≡ nat_cmp (length p) (length q)
cmp_ended_by p q i h g ended true e =
    let less : length p < length q = ltb-true (length p) (length q) e in
    let all : length p ≤ i = omega arith in
    ap (λ t. text_cmp t (drop i q)) (drop_all i p all) ∙ first_is_empty (drop i q) ∙ (λ k. nat_cmp (none k) (length-drop i q k)) ∙ shifted (length p) (length q) i h g
  where
    none : 0 ≡ length p - i
    none = let less : length p < length q = ltb-true (length p) (length q) e in omega arith
cmp_ended_by p q i h g ended false e =
    let less : length q ≤ length p = ltb-false (length p) (length q) e in
    let all : length q ≤ i = omega arith in
    ap (text_cmp (drop i p)) (drop_all i q all) ∙ second_is_empty (drop i p) ∙ (λ k. nat_cmp (length-drop i p k) (none k)) ∙ shifted (length p) (length q) i h g
  where
    none : 0 ≡ length q - i
    none = let less : length q ≤ length p = ltb-false (length p) (length q) e in omega arith

pub cmp-ended : (p q : List ℕ) (i : ℕ) → i ≤ length p → i ≤ length q → min (length p) (length q) ≤ i → text_cmp (drop i p) (drop i q) ≡ nat_cmp (length p) (length q)
cmp-ended p q i h g ended = cmp_ended_by p q i h g ended (nat_lt (length p) (length q)) refl
