-- Lists of marks: which places of a disk in memory were written.
use Rattle.std.proofs.Common.{◌≡◌, ℕ, ◌+◌, ◌-◌, ◌<◌, ◌≤◌, Bool, false, List, ◌++◌, length, take, drop, replicate, get_or, sym, ap, ◌∙◌, arith}
use Rattle.std.proofs.lemmas.List.{length-take, length-drop, length-replicate, get_or-take, get_or-drop, get_or-replicate, replicate-append-replicate, ext_get_or}

-- a list without a mark
pub none_marked : (marks : List Bool) → ((i : ℕ) → i < length marks → get_or marks i false ≡ false) → marks ≡ replicate (length marks) false
none_marked marks none =
    ext_get_or false marks (replicate (length marks) false) (sym (length-replicate (length marks) false))
    (λ i within. none i within ∙ sym (get_or-replicate (length marks) i false false within))

pub cleared : (marks filled : List Bool) (from n : ℕ) → from + n ≤ length marks → filled ≡ replicate n false → ((i : ℕ) → i < from → get_or marks i false ≡ false) → ((i : ℕ) → from + n ≤ i → get_or marks i false ≡ false) → take from marks ++ (filled ++ drop n (drop from marks)) ≡ replicate (length marks) false
cleared marks filled from n span fill before behind =
    let front_len = length-take from marks in
    let rest_len = length-drop from marks in
    let back_len = length-drop n (drop from marks) in
    let front = none_marked (take from marks) (λ i within. (let less : i < from = omega arith in get_or-take from marks i false less ∙ before i less)) in
    let back = none_marked (drop n (drop from marks)) (λ i within. get_or-drop n (drop from marks) i false ∙ (get_or-drop from marks (n + i) false ∙ behind (from + (n + i)) (omega arith))) in
    let whole : from + (n + (length marks - from - n)) ≡ length marks = omega arith in
    let front_is : length (take from marks) ≡ from = omega arith in
    let back_is : length (drop n (drop from marks)) ≡ length marks - from - n = omega arith in
    ap (λ xs. xs ++ (filled ++ drop n (drop from marks))) (front ∙ ap (λ k. replicate k false) front_is)
    ∙ ap (λ xs. replicate from false ++ (xs ++ drop n (drop from marks))) fill
    ∙ ap (λ xs. replicate from false ++ (replicate n false ++ xs)) (back ∙ ap (λ k. replicate k false) back_is)
    ∙ ap (λ xs. replicate from false ++ xs) (replicate-append-replicate n (length marks - from - n) false)
    ∙ replicate-append-replicate from (n + (length marks - from - n)) false
    ∙ ap (λ k. replicate k false) whole
