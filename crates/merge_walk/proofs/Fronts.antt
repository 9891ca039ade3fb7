-- A path's front is a path.
use Rattle.std.proofs.Common.{◌≡◌, ◌+◌, ◌<◌, true, ◌&&◌, [], ◌∷◌, ◌++◌, length, refl, sym, ap, ◌∙◌, arith}
use Rattle.std.specs.Prelude.{nat_lt, nat_le}
use Rattle.std.specs.List.{list_all}
use Rattle.std.proofs.lemmas.Bool.{and_parts, lt-ltb, le-leb, leb-true}
use Rattle.std.proofs.lemmas.List.{length-append, append-nil}
use Rattle.changeset_model.specs.Path.{Path, text_of, is_element, is_path}
use Rattle.changeset_model.proofs.Spelling.{path_elements}
use Rattle.tree_fold.proofs.Texts.{text_of-joined}
use Rattle.manifest_laws.proofs.Names.{Name}

front_all : (d q : Path) → list_all is_element (d ++ q) ≡ true → list_all is_element d ≡ true
front_all [] q h = refl
front_all (e ∷ d) q h = let parts = and_parts (is_element e) (list_all is_element (d ++ q)) h in λ i. parts.0 i && front_all d q parts.1 i

path_front : (d q : Path) → is_path (d ++ q) ≡ true → 0 < length d → 0 < length q → is_path d ≡ true
path_front d q h some other =
    let parts = and_parts (nat_lt 0 (length (d ++ q)) && list_all is_element (d ++ q)) (nat_le (length (text_of (d ++ q))) 4096) h in
    let short = leb-true (length (text_of (d ++ q))) 4096 parts.1 in
    let text = ap length (text_of-joined d q some other) ∙ length-append (text_of d) (0x2F ∷ text_of q) in
    let fits = le-leb (length (text_of d)) 4096 (omega arith) in
    λ i. (lt-ltb 0 (length d) some i && front_all d q (path_elements (d ++ q) h) i) && fits i

pub front_ruled : (p v : Path) → is_path (p ++ v) ≡ true → (d : Path) (n : Name) → p ≡ d ++ n ∷ [] → is_path p ≡ true
front_ruled p [] h d n e = ap is_path (sym (append-nil p)) ∙ h
front_ruled p (k ∷ v) h d n e = path_front p (k ∷ v) h (let some : length p ≡ length d + 1 = ap length e ∙ length-append d (n ∷ []) in omega arith) (omega arith)
