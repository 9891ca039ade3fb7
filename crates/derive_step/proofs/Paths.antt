-- Paths and their texts.
use Rattle.std.proofs.Common.{◌≡◌, ◌≢◌, ℕ, ◌<◌, Bool, true, false, ◌&&◌, Some, None, List, [], ◌∷◌, ◌++◌, length, take, drop, get_or, refl, sym, ap, ◌∙◌, arith, append_assoc, Bor, Option}
use Rattle.std.specs.Prelude.{Result, Ok, Err, IfOk, ◌==◌, bytes_eq, nat_lt, nat_le, ◌||◌, MatchOption, IfSome, IfNone, unwrap_or}
use Rattle.std.specs.List.{list_all}
use Rattle.std.proofs.lemmas.Bool.{and_parts, lt-ltb, ltb-true, le-leb, leb-true, ne_eqb}
use Rattle.std.proofs.lemmas.List.{length-append, append_cancel_right, take-append-drop}
use Rattle.changeset_model.specs.Path.{Path, text_of, elements, is_element, is_path, path_eq, is_prefix, is_strict_prefix}
use Rattle.manifest_laws.proofs.Lists.{one_longer}
use Rattle.changeset_model.proofs.Accepting.{elements_some as some_elements, text_of-elements}
use Rattle.tree_fold.proofs.Texts.{elements-joined, elements-unbroken}
use Rattle.changeset_model.proofs.Spelling.{path_elements as elements_kept}
use Rattle.tree_fold.proofs.Texts.{text_of-joined}

-- ---- elements

element_of : (d : Path) (n : List ℕ) (q : Path) → list_all is_element (d ++ n ∷ q) ≡ true → is_element n ≡ true
element_of [] n q h = (and_parts (is_element n) (list_all is_element q) h).0
element_of (e ∷ d) n q h = element_of d n q (and_parts (is_element e) (list_all is_element (d ++ n ∷ q)) h).1

front_all : (d q : Path) → list_all is_element (d ++ q) ≡ true → list_all is_element d ≡ true
front_all [] q h = refl
front_all (e ∷ d) q h = let parts = and_parts (is_element e) (list_all is_element (d ++ q)) h in λ i. parts.0 i && front_all d q parts.1 i

-- a path that goes on from a directory by this name
pub goes_on : (d p : Path) (t n : List ℕ) (q : Path) → p ≡ d ++ elements t → elements t ≡ n ∷ q → is_path p ≡ true → (p ≡ d ++ n ∷ q) × (is_element n ≡ true)
goes_on d p t n q e g h =
    let parts : p ≡ d ++ n ∷ q = e ∙ ap (λ r. d ++ r) g in
    (parts, element_of d n q (ap (list_all is_element) (sym parts) ∙ elements_kept p h))

-- ---- a path above another or the same

pub prefix_either : (p q : Path) → is_prefix p q ≡ (path_eq p q || is_strict_prefix p q)
prefix_either [] [] = refl
prefix_either [] (e ∷ q) = sym (lt-ltb 0 (length (e ∷ q)) (omega arith))
prefix_either (e ∷ p) [] = refl
prefix_either (e ∷ p) (f ∷ q) = by (bytes_eq e f) (prefix_either p q)
  where
    by : (b : Bool) → is_prefix p q ≡ (path_eq p q || is_strict_prefix p q) → (b && is_prefix p q) ≡ ((b && path_eq p q) || ((b && is_prefix p q) && nat_lt (length (e ∷ p)) (length (f ∷ q))))
    by false ih = refl
    by true ih = ih ∙ ap (λ l. path_eq p q || (is_prefix p q && l)) (sym (one_longer (length p) (length q)))

pub none_gives : {P : Type 0} (o : Option (Bor (List ℕ))) → o ≡ None → IfNone o P → P
none_gives None e h = h
none_gives (Some x) e h = absurd (cc)

pub rest_gives : (t n : List ℕ) (o : Option (Bor (List ℕ))) (r : Bor (List ℕ)) → o ≡ Some r → IfSome o (λ rest. elements t ≡ n ∷ elements rest.now) → elements t ≡ n ∷ elements r.now
rest_gives t n None r e h = absurd (cc)
rest_gives t n (Some x) r e h = h ∙ ap (λ b. n ∷ elements b.now) (ap (λ o. unwrap_or o x) e)

-- ---- cut at a directory

pub inside_of : (o : Option (Bor (List ℕ))) (d p : Path) (a t rest : List ℕ) → elements a ≡ d → elements t ≡ p → t ≡ a ++ rest → MatchOption o ((r : List ℕ) → rest ≢ 0x2F ∷ r) (λ x. rest ≡ 0x2F ∷ x.now) → IfSome o (λ x. p ≡ d ++ elements x.now)
inside_of None d p a t rest dir path cut h = tt
inside_of (Some x) d p a t rest dir path cut h = sym path ∙ ap elements (cut ∙ ap (λ r. a ++ r) h) ∙ elements-joined a x.now ∙ ap (λ d. d ++ elements x.now) dir

-- the text t of a path that goes on from a directory by the text r
pub cut_text : (p d : Path) (t r : List ℕ) → t ≡ text_of p → 0 < length d → p ≡ d ++ elements r → t ≡ (text_of d ++ 0x2F ∷ []) ++ r
cut_text p d t r e some is =
    e ∙ ap text_of is ∙ text_of-joined d (elements r) some (some_elements r)
    ∙ ap (λ x. text_of d ++ 0x2F ∷ x) (text_of-elements r)
    ∙ sym (append_assoc (text_of d) (0x2F ∷ []) r)

pub front_of : (p d : Path) (t a r : List ℕ) → elements t ≡ p → t ≡ (a ++ 0x2F ∷ []) ++ r → p ≡ d ++ elements r → elements a ≡ d
front_of p d t a r e cut is =
    append_cancel_right (elements a) d (elements r)
    (sym (elements-joined a r) ∙ ap elements (sym (append_assoc a (0x2F ∷ []) r) ∙ sym cut) ∙ e ∙ is)

pub path_front : (d q : Path) → is_path (d ++ q) ≡ true → 0 < length d → 0 < length q → is_path d ≡ true
path_front d q h some other =
    let parts = and_parts (nat_lt 0 (length (d ++ q)) && list_all is_element (d ++ q)) (nat_le (length (text_of (d ++ q))) 4096) h in
    let short = leb-true (length (text_of (d ++ q))) 4096 parts.1 in
    let text = ap length (text_of-joined d q some other) ∙ length-append (text_of d) (0x2F ∷ text_of q) in
    let fits = le-leb (length (text_of d)) 4096 (omega arith) in
    λ i. (lt-ltb 0 (length d) some i && front_all d q (elements_kept (d ++ q) h) i) && fits i

pub of_front : {X : Type 0} (r : Result Path X) (p d : Path) → IfOk r (λ x. x ≡ p) → p ≡ d → IfOk r (λ x. x ≡ d)
of_front (Ok x) p d h e = h ∙ e
of_front (Err x) p d h e = tt

-- ---- cut at the last slash

pub last_of : (t a b : List ℕ) (i j : ℕ) → drop i t ≡ 0x2F ∷ drop j t → ((k : ℕ) → k < length (drop j t) → get_or (drop j t) k 0 ≢ 0x2F) → a ≡ take i t → elements t ≡ elements a ++ drop j t ∷ []
last_of t a b i j cut none e =
    ap elements (sym (take-append-drop i t) ∙ (λ k. sym e k ++ cut k))
    ∙ elements-joined a (drop j t)
    ∙ ap (λ q. elements a ++ q) (elements-unbroken (drop j t) none)

pub no_root : (p : Path) → is_path p ≡ true → (length p == 0) ≡ false
no_root p h =
    let some = ltb-true 0 (length p) (and_parts (nat_lt 0 (length p)) (list_all is_element p) (and_parts (nat_lt 0 (length p) && list_all is_element p) (nat_le (length (text_of p)) 4096) h).0).0 in
    ne_eqb (length p) 0 (λ e. absurd (omega arith))
