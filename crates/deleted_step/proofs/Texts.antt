-- Texts of paths, cut at their slashes.
use Rattle.std.proofs.Common.{◌≡◌, ◌≢◌, ℕ, ◌<◌, true, ◌&&◌, Some, None, List, [], ◌∷◌, ◌++◌, length, take, drop, get_or, refl, sym, ap, ◌∙◌, arith, append_assoc, Bor, Option}
use Rattle.std.specs.Prelude.{nat_lt, nat_le}
use Rattle.std.specs.List.{list_all}
use Rattle.std.specs.Option.{option_copied}
use Rattle.std.proofs.lemmas.Bool.{and_parts, lt-ltb, ltb-true, le-leb, leb-true}
use Rattle.std.proofs.lemmas.List.{length-append, append_cancel_right, take-append-drop}
use Rattle.changeset_model.specs.Path.{Path, text_of, elements, is_element, is_path}
use Rattle.changeset_model.proofs.Accepting.{elements_some as some_elements, text_of-elements}
use Rattle.changeset_model.proofs.Spelling.{path_elements as elements_kept}
use Rattle.tree_fold.proofs.Texts.{elements-joined, elements-unbroken, text_of-joined}
use Rattle.deleted_step.specs.Texts.{left, dir_of}

-- the text t of a path that goes on from a directory by the text r
pub cut_text : (p d : Path) (t r : List ℕ) → t ≡ text_of p → 0 < length d → p ≡ d ++ elements r → t ≡ (text_of d ++ 0x2F ∷ []) ++ r
cut_text p d t r e some is =
    e ∙ ap text_of is ∙ text_of-joined d (elements r) some (some_elements r)
    ∙ ap (λ x. text_of d ++ 0x2F ∷ x) (text_of-elements r)
    ∙ sym (append_assoc (text_of d) (0x2F ∷ []) r)

pub front_of : (p d : Path) (t a r : List ℕ) → elements t ≡ p → t ≡ (a ++ 0x2F ∷ []) ++ r → p ≡ d ++ elements r → elements a ≡ d
front_of p d t a r e cut is =
    append_cancel_right (elements a) d (elements r)
    (sym (elements-joined a r) ∙ ap elements (sym (append_assoc a (0x2F ∷ []) r) ∙ sym cut) ∙ e ∙ is)

-- cut at the last slash
pub last_of : (t a : List ℕ) (i j : ℕ) → drop i t ≡ 0x2F ∷ drop j t → ((k : ℕ) → k < length (drop j t) → get_or (drop j t) k 0 ≢ 0x2F) → a ≡ take i t → elements t ≡ elements a ++ drop j t ∷ []
last_of t a i j cut none e =
    ap elements (sym (take-append-drop i t) ∙ (λ k. sym e k ++ cut k))
    ∙ elements-joined a (drop j t)
    ∙ ap (λ q. elements a ++ q) (elements-unbroken (drop j t) none)

-- ---- rules of paths

element_of : (d : Path) (n : List ℕ) (q : Path) → list_all is_element (d ++ n ∷ q) ≡ true → is_element n ≡ true
element_of [] n q h = (and_parts (is_element n) (list_all is_element q) h).0
element_of (e ∷ d) n q h = element_of d n q (and_parts (is_element e) (list_all is_element (d ++ n ∷ q)) h).1

pub name_of : (p d : Path) (n : List ℕ) (q : Path) → is_path p ≡ true → p ≡ d ++ n ∷ q → is_element n ≡ true
name_of p d n q h e = element_of d n q (ap (list_all is_element) (sym e) ∙ elements_kept p h)

front_all : (d q : Path) → list_all is_element (d ++ q) ≡ true → list_all is_element d ≡ true
front_all [] q h = refl
front_all (e ∷ d) q h = let parts = and_parts (is_element e) (list_all is_element (d ++ q)) h in λ i. parts.0 i && front_all d q parts.1 i

path_front : (d q : Path) → is_path (d ++ q) ≡ true → 0 < length d → 0 < length q → is_path d ≡ true
path_front d q h some other =
    let parts = and_parts (nat_lt 0 (length (d ++ q)) && list_all is_element (d ++ q)) (nat_le (length (text_of (d ++ q))) 4096) h in
    let short = leb-true (length (text_of (d ++ q))) 4096 parts.1 in
    let text = ap length (text_of-joined d q some other) ∙ length-append (text_of d) (0x2F ∷ text_of q) in
    let fits = le-leb (length (text_of d)) 4096 (omega arith) in
    λ i. (lt-ltb 0 (length d) some i && front_all d q (elements_kept (d ++ q) h) i) && fits i

no_more : (d : Path) → d ++ [] ≡ d
no_more [] = refl
no_more (e ∷ d) = ap (λ p. e ∷ p) (no_more d)

pub front_path : (p d q : Path) → is_path p ≡ true → p ≡ d ++ q → 0 < length d → is_path d ≡ true
front_path p d [] h e some = ap is_path (sym (no_more d) ∙ sym e) ∙ h
front_path p d (n ∷ q) h e some = path_front d (n ∷ q) (ap is_path (sym e) ∙ h) some (omega arith)

-- ---- gone through from the root down

abbrev pub own : Option Path → Path
own None = []
own (Some p) = p

pub dir_of_ref : (o : Option (Bor Path)) (p : Option Path) → option_copied o ≡ p → dir_of o ≡ own p
dir_of_ref None p e = ap own e
dir_of_ref (Some x) p e = ap own e

pub some_snoc : (d : Path) (n : List ℕ) → 0 < length (d ++ n ∷ [])
some_snoc d n = let long = length-append d (n ∷ []) in omega (arith, long)

pub next_cut : (p d : Path) (rest : Option (Bor (List ℕ))) (text : Bor (List ℕ)) (n : List ℕ) (after : Option (Bor (List ℕ))) → p ≡ d ++ left rest → rest ≡ Some text → elements text.now ≡ n ∷ left after → p ≡ (d ++ n ∷ []) ++ left after
next_cut p d rest text n after cut is parts = cut ∙ ap (λ r. d ++ left r) is ∙ ap (λ q. d ++ q) parts ∙ sym (append_assoc d (n ∷ []) (left after))

pub path_some : (p : Path) → is_path p ≡ true → 0 < length p
path_some p h = ltb-true 0 (length p) (and_parts (nat_lt 0 (length p)) (list_all is_element p) (and_parts (nat_lt 0 (length p) && list_all is_element p) (nat_le (length (text_of p)) 4096) h).0).0
