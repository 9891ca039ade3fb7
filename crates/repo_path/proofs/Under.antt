-- A path lies under another exactly where its text goes on after the other's with a slash.
use Rattle.std.proofs.Common.{◌≡◌, ℕ, ◌<◌, Bool, true, false, ◌&&◌, ◌||◌, List, [], ◌∷◌, length, take, drop, refl, sym, ap, ◌∙◌, arith}
use Rattle.std.specs.Prelude.{◌==◌, bytes_eq, nat_eq, nat_lt}
use Rattle.std.specs.List.{onto_first, starts_with}
use Rattle.std.specs.Cmp.Lexicographic.{pointwise}
use Rattle.std.proofs.lemmas.Bool.{eqb-true, eqb-false, eq-eqb, ne_eqb, lt-ltb}
use Rattle.changeset_model.specs.Path.{Path, elements, is_prefix, is_strict_prefix, comparable}
use Rattle.changeset_model.proofs.Texts.{alike, alike-comparable}
use Rattle.repo_path.proofs.Elements.{elements_by}
use Rattle.changeset_model.proofs.Accepting.{elements_some as some_elements}

abbrev slash_first : List ℕ → Bool
slash_first [] = false
slash_first (c ∷ q) = c == 0x2F

-- the first text is a front of the second, which goes on with a slash
abbrev goes_under : List ℕ → List ℕ → Bool
goes_under [] q = slash_first q
goes_under (b ∷ p) [] = false
goes_under (b ∷ p) (c ∷ q) = (c == b) && goes_under p q

-- ---- elements

empty_first : (p : Path) → (0 < length p) → is_strict_prefix ([] ∷ []) ([] ∷ p) ≡ true
empty_first p some = lt-ltb 1 (length ([] ∷ p)) (omega arith)

apart : (c : ℕ) (p q : Path) → (0 < length q) → (is_strict_prefix ([] ∷ p) (onto_first c q) ≡ false) × (is_strict_prefix (onto_first c q) ([] ∷ p) ≡ false)
apart c p [] some = absurd (omega arith)
apart c p (f ∷ q) some = (refl, refl)

longer : (p : Path) → (0 < length p) → is_strict_prefix ([] ∷ p) ([] ∷ []) ≡ false
longer [] some = absurd (omega arith)
longer (e ∷ p) some = refl

same_slash : (p q : Path) → is_strict_prefix ([] ∷ p) ([] ∷ q) ≡ is_strict_prefix p q
same_slash p q = ap (λ b. is_prefix p q && b) (grind (arith))

same_byte : (b : ℕ) (p q : Path) → (0 < length p) → (0 < length q) → is_strict_prefix (onto_first b p) (onto_first b q) ≡ is_strict_prefix p q
same_byte b [] q some other = absurd (omega arith)
same_byte b (e ∷ p) [] some other = absurd (omega arith)
same_byte b (e ∷ p) (f ∷ q) some other = (λ i. ((eq-eqb b b refl i && bytes_eq e f) && is_prefix p q) && nat_lt (length (e ∷ p)) (length (f ∷ q)))

other_byte : (b c : ℕ) (p q : Path) → (b == c) ≡ false → (0 < length p) → (0 < length q) → is_strict_prefix (onto_first b p) (onto_first c q) ≡ false
other_byte b c [] q h some other = absurd (omega arith)
other_byte b c (e ∷ p) [] h some other = absurd (omega arith)
other_byte b c (e ∷ p) (f ∷ q) h some other = (λ i. ((h i && bytes_eq e f) && is_prefix p q) && nat_lt (length (e ∷ p)) (length (f ∷ q)))

-- ---- texts

first_ends : (c : ℕ) (q : List ℕ) (t : Bool) → t ≡ is_strict_prefix ([] ∷ []) (elements_by t c q)
first_ends c q true = sym (empty_first (elements q) (some_elements q))
first_ends c q false = sym (apart c [] (elements q) (some_elements q)).0

second_ends : (b : ℕ) (p : List ℕ) (t : Bool) → false ≡ is_strict_prefix (elements_by t b p) ([] ∷ [])
second_ends b p true = sym (longer (elements p) (some_elements p))
second_ends b p false = sym (apart b [] (elements p) (some_elements p)).1

differ : (b c : ℕ) (t u : Bool) → (b == 0x2F) ≡ t → (c == 0x2F) ≡ u → (t ≡ u → ⊥) → (c == b) ≡ false
differ b c t u h g n = ne_eqb c b (λ same. n (sym h ∙ ap (λ x. x == 0x2F) (sym same) ∙ g))

both : (b c : ℕ) (p q : List ℕ) → goes_under p q ≡ is_strict_prefix (elements p) (elements q) → (t u s : Bool) → (b == 0x2F) ≡ t → (c == 0x2F) ≡ u → (c == b) ≡ s → (s && goes_under p q) ≡ is_strict_prefix (elements_by t b p) (elements_by u c q)
both b c p q ih true true true h g e = ih ∙ sym (same_slash (elements p) (elements q))
both b c p q ih true true false h g e = absurd (eqb-false c b e (eqb-true c 0x2F g ∙ sym (eqb-true b 0x2F h)))
both b c p q ih true false s h g e = ap (λ s. s && goes_under p q) (sym e ∙ differ b c true false h g (λ x. cc)) ∙ sym (apart c (elements p) (elements q) (some_elements q)).0
both b c p q ih false true s h g e = ap (λ s. s && goes_under p q) (sym e ∙ differ b c false true h g (λ x. cc)) ∙ sym (apart b (elements q) (elements p) (some_elements p)).1
both b c p q ih false false true h g e =
    ih ∙ sym (same_byte b (elements p) (elements q) (some_elements p) (some_elements q)) ∙ ap (λ c. is_strict_prefix (onto_first b (elements p)) (onto_first c (elements q))) (sym (eqb-true c b e))
both b c p q ih false false false h g e = sym (other_byte b c (elements p) (elements q) (ne_eqb b c (λ same. eqb-false c b e (sym same))) (some_elements p) (some_elements q))

goes_under-elements : (p q : List ℕ) → goes_under p q ≡ is_strict_prefix (elements p) (elements q)
goes_under-elements [] [] = refl
goes_under-elements [] (c ∷ q) = first_ends c q (c == 0x2F)
goes_under-elements (b ∷ p) [] = second_ends b p (b == 0x2F)
goes_under-elements (b ∷ p) (c ∷ q) = both b c p q (goes_under-elements p q) (b == 0x2F) (c == 0x2F) (c == b) refl refl refl

and_true : (b : Bool) → b ≡ (b && true)
and_true true = refl
and_true false = refl

eq_comm : (b c : ℕ) → (b == c) ≡ (c == b)
eq_comm b c = grind arith

slash_starts : (q : List ℕ) → slash_first q ≡ starts_with nat_eq q (0x2F ∷ [])
slash_starts [] = refl
slash_starts (c ∷ q) = eq_comm c 0x2F ∙ and_true (0x2F == c)

and_assoc : (a b c : Bool) → (a && (b && c)) ≡ ((a && b) && c)
and_assoc true b c = refl
and_assoc false b c = refl

-- by parts of the texts
by_parts : (p q : List ℕ) → goes_under p q ≡ (pointwise nat_eq (take (length p) q) p && slash_first (drop (length p) q))
by_parts [] q = refl
by_parts (b ∷ p) [] = refl
by_parts (b ∷ p) (c ∷ q) = ap (λ r. (c == b) && r) (by_parts p q) ∙ and_assoc (c == b) (pointwise nat_eq (take (length p) q) p) (slash_first (drop (length p) q))

pub under_after : (above text rest : List ℕ) → pointwise nat_eq (take (length above) text) above ≡ true → rest ≡ drop (length above) text → starts_with nat_eq rest (0x2F ∷ []) ≡ is_strict_prefix (elements above) (elements text)
under_after above text rest h e =
    sym (slash_starts rest) ∙ ap slash_first e ∙ ap (λ b. b && slash_first (drop (length above) text)) (sym h) ∙ sym (by_parts above text) ∙ goes_under-elements above text

pub not_under : (above text : List ℕ) → pointwise nat_eq (take (length above) text) above ≡ false → false ≡ is_strict_prefix (elements above) (elements text)
not_under above text h = ap (λ b. b && slash_first (drop (length above) text)) (sym h) ∙ sym (by_parts above text) ∙ goes_under-elements above text

-- ---- comparable

abbrev same_or_under : List ℕ → List ℕ → Bool
same_or_under p q = bytes_eq p q || goes_under p q || goes_under q p

split : (b s : Bool) (c : Bool) → b ≡ c → (x y z : Bool) → ((b && x) || (c && y) || (b && z)) ≡ (b && (x || y || z))
split true s true e x y z = refl
split true s false e x y z = absurd (cc)
split false s true e x y z = absurd (cc)
split false s false e x y z = refl

alike_same : (p q : List ℕ) → alike p q ≡ same_or_under p q
alike_same [] [] = refl
alike_same [] (c ∷ q) = by (c == 0x2F)
  where
    by : (b : Bool) → b ≡ (b || false)
    by true = refl
    by false = refl
alike_same (b ∷ p) [] = refl
alike_same (b ∷ p) (c ∷ q) = ap (λ r. (b == c) && r) (alike_same p q) ∙ sym (split (b == c) true (c == b) (eq_comm b c) (bytes_eq p q) (goes_under p q) (goes_under q p))

pub comparable-parts : (p q : List ℕ) → comparable (elements p) (elements q) ≡ (bytes_eq p q || is_strict_prefix (elements p) (elements q) || is_strict_prefix (elements q) (elements p))
comparable-parts p q = sym (alike-comparable p q) ∙ alike_same p q ∙ (λ i. bytes_eq p q || goes_under-elements p q i || goes_under-elements q p i)
