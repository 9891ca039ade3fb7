-- Texts of paths, cut at a slash.
use Rattle.std.proofs.Common.{◌≡◌, ◌≢◌, ℕ, ◌+◌, ◌<◌, suc, Bool, true, false, ◌&&◌, Some, None, List, [], ◌∷◌, ◌++◌, length, drop, get_or, refl, sym, ap, ◌∙◌, arith, append_assoc, Bor, Option}
use Rattle.std.specs.Prelude.{◌==◌, bytes_eq, nat_lt, MatchOption, IfSome, IfNone, IsTrue}
use Rattle.std.specs.List.{onto_first}
use Rattle.std.proofs.lemmas.Bool.{ne_eqb, lt-ltb, ltb-true, false_from_ne_true}
use Rattle.std.proofs.Math.Seq.{drop-append_seam}
use Rattle.std.proofs.lemmas.List.{length-append}
use Rattle.changeset_model.specs.Path.{Path, text_of, elements, is_prefix, is_strict_prefix}
use Rattle.repo_path.proofs.Elements.{elements_by}
use Rattle.changeset_model.proofs.Accepting.{elements_some as some_elements, text_of-elements}
use Rattle.bonsai.proofs.Between.{same_text as same_bytes}
use Rattle.changeset_model.proofs.Spelling.{bytes_eq_refl as bytes_itself}
use Rattle.repo_path.proofs.Faults.{first_of_two as first_of, second_of_two as second_of}

-- ---- joined by a slash

onto-append : (b : ℕ) (p q : Path) → 0 < length p → onto_first b (p ++ q) ≡ onto_first b p ++ q
onto-append b [] q some = absurd (omega arith)
onto-append b (e ∷ p) q some = refl

pub elements-joined : (a x : List ℕ) → elements (a ++ 0x2F ∷ x) ≡ elements a ++ elements x
elements-joined [] x = refl
elements-joined (b ∷ a) x = by (elements-joined a x) (b == 0x2F)
  where
    by : elements (a ++ 0x2F ∷ x) ≡ elements a ++ elements x → (t : Bool) → elements_by t b (a ++ 0x2F ∷ x) ≡ elements_by t b a ++ elements x
    by ih true = ap (λ p. [] ∷ p) ih
    by ih false = ap (onto_first b) ih ∙ onto-append b (elements a) (elements x) (some_elements a)

-- a text without a slash is one element
pub elements-unbroken : (t : List ℕ) → ((i : ℕ) → i < length t → get_or t i 0 ≢ 0x2F) → elements t ≡ t ∷ []
elements-unbroken [] none = refl
elements-unbroken (b ∷ t) none =
    ap (λ s. elements_by s b t) (ne_eqb b 0x2F (none 0 (omega arith))) ∙ ap (onto_first b) (elements-unbroken t (λ i less. none (suc i) (omega arith)))

pub elements-first : (t a x : List ℕ) → t ≡ a ++ 0x2F ∷ x → ((i : ℕ) → i < length a → get_or a i 0 ≢ 0x2F) → elements t ≡ a ∷ elements x
elements-first t a x e none = ap elements e ∙ elements-joined a x ∙ ap (λ p. p ++ elements x) (elements-unbroken a none)

pub not_alone : (a x : List ℕ) → false ≡ (length (a ∷ elements x) == 1)
not_alone a x = sym (ne_eqb (length (a ∷ elements x)) 1 (λ e. absurd (let some = some_elements x in omega arith)))

-- ---- under a path

prefix-append : (p q : Path) → is_prefix p (p ++ q) ≡ true
prefix-append [] q = refl
prefix-append (e ∷ p) q = (λ i. bytes_itself e i && prefix-append p q i)

pub strict-append : (p q : Path) → 0 < length q → is_strict_prefix p (p ++ q) ≡ true
strict-append p q some = (λ i. prefix-append p q i && lt-ltb (length p) (length (p ++ q)) (omega (arith, length-append {A = List ℕ})) i)

pub drop-front : (p q : Path) → drop (length p) (p ++ q) ≡ q
drop-front [] q = refl
drop-front (e ∷ p) q = drop-front p q

pub front_rest : (p q : Path) → is_prefix p q ≡ true → q ≡ p ++ drop (length p) q
front_rest [] q h = refl
front_rest (e ∷ p) [] h = absurd (cc)
front_rest (e ∷ p) (f ∷ q) h = (λ i. sym (same_bytes e f (first_of (bytes_eq e f) (is_prefix p q) h)) i ∷ front_rest p q (second_of (bytes_eq e f) (is_prefix p q) h) i)

pub text_of-joined : (p q : Path) → 0 < length p → 0 < length q → text_of (p ++ q) ≡ text_of p ++ 0x2F ∷ text_of q
text_of-joined [] q some other = absurd (omega arith)
text_of-joined (e ∷ []) [] some other = absurd (omega arith)
text_of-joined (e ∷ []) (f ∷ q) some other = refl
text_of-joined (e ∷ f ∷ p) q some other = ap (λ t. e ++ 0x2F ∷ t) (text_of-joined (f ∷ p) q (omega arith) other) ∙ sym (append_assoc e (0x2F ∷ text_of (f ∷ p)) (0x2F ∷ text_of q))

pub under_text : (a t : List ℕ) → is_strict_prefix (elements a) (elements t) ≡ true → (x : List ℕ) × (t ≡ a ++ 0x2F ∷ x)
under_text a t h =
    let p = elements a in
    let q = elements t in
    let rest = drop (length p) q in
    let cut : q ≡ p ++ rest = front_rest p q (first_of (is_prefix p q) (nat_lt (length p) (length q)) h) in
    let less : length p < length q = ltb-true (length p) (length q) (second_of (is_prefix p q) (nat_lt (length p) (length q)) h) in
    let lengths : length q ≡ length p + length rest = ap length cut ∙ length-append p rest in
    (text_of rest, sym (text_of-elements t) ∙ ap text_of cut ∙ text_of-joined p rest (some_elements a) (omega arith) ∙ ap (λ s. s ++ 0x2F ∷ text_of rest) (text_of-elements a))

-- ---- what is cut off

same_rest : (a x y : List ℕ) → a ++ x ≡ a ++ y → x ≡ y
same_rest a x y e = sym (drop-append_seam a x) ∙ ap (drop (length a)) e ∙ drop-append_seam a y

pub inside_of : (o : Option (Bor (List ℕ))) (d p : Path) (a t rest : List ℕ) → elements a ≡ d → elements t ≡ p → t ≡ a ++ rest → MatchOption o ((r : List ℕ) → rest ≢ 0x2F ∷ r) (λ x. rest ≡ 0x2F ∷ x.now) → IfSome o (λ x. IsTrue (is_strict_prefix d p) × (elements x.now ≡ drop (length d) p))
inside_of None d p a t rest dir path cut h = tt
inside_of (Some x) d p a t rest dir path cut h =
    let parts : p ≡ d ++ elements x.now = sym path ∙ ap elements (cut ∙ ap (λ r. a ++ r) h) ∙ elements-joined a x.now ∙ ap (λ d. d ++ elements x.now) dir in
    (ap (is_strict_prefix d) parts ∙ strict-append d (elements x.now) (some_elements x.now), sym (ap (drop (length d)) parts ∙ drop-front d (elements x.now)))

pub outside_of : (o : Option (Bor (List ℕ))) (d p : Path) (a t rest : List ℕ) → elements a ≡ d → elements t ≡ p → t ≡ a ++ rest → MatchOption o ((r : List ℕ) → rest ≢ 0x2F ∷ r) (λ x. rest ≡ 0x2F ∷ x.now) → IfNone o (is_strict_prefix d p ≡ false)
outside_of None d p a t rest dir path cut h = false_from_ne_true (is_strict_prefix d p) (λ under.
    let found = under_text a t ((λ i. is_strict_prefix (dir i) (path i)) ∙ under) in
    h found.0 (same_rest a rest (0x2F ∷ found.0) (sym cut ∙ found.1)))
outside_of (Some x) d p a t rest dir path cut h = tt

pub not_at_front : (d p : Path) (a t : List ℕ) → elements a ≡ d → elements t ≡ p → ((rest : List ℕ) → t ≢ a ++ rest) → is_strict_prefix d p ≡ false
not_at_front d p a t dir path lacks = false_from_ne_true (is_strict_prefix d p) (λ under.
    let found = under_text a t ((λ i. is_strict_prefix (dir i) (path i)) ∙ under) in
    lacks (0x2F ∷ found.0) found.1)
