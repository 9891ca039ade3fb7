-- Texts that are written piece by piece.
use Rattle.std.proofs.Common.{◌≡◌, ℕ, ◌+◌, ◌<◌, ◌≤◌, List, [], ◌++◌, length, map, drop, get_or, refl, ap, sym, subst, ◌∙◌, append_assoc, add-one, Option, None, Some, Bor, Bool, true, Result, Ok, Err, OnErr, rules}
use Rattle.std.proofs.lemmas.List.{append-nil, drop_all}
use Rattle.std.proofs.Math.Seq.{drop-cons}
use Rattle.std.specs.List.{concat}
use Rattle.ports.specs.Faults.{Counts}
use Rattle.ports.specs.Streams.{Puts, PutsFront}
use Rattle.http_front.proofs.Steps.{puts_then}

-- a front of a text goes out, and so does one of all that it begins
pub front_of_more : (a b : List ℕ) (w x : Option (List ℕ)) → PutsFront a w x → PutsFront (a ++ b) w x
front_of_more a b None x p = p
front_of_more a b (Some written) x (front, (rest, is), puts) =
    (front, (rest ++ b, sym (append_assoc front rest b) ∙ ap (λ l. l ++ b) is), puts)

pub front_then : (a b : List ℕ) (w x y : Option (List ℕ)) → Puts a w x → PutsFront b x y → PutsFront (a ++ b) w y
front_then a b None x y p q = subst (λ o. PutsFront b o y) p q
front_then a b (Some written) x y p q = (let (front, (rest, is), puts) = subst (λ o. PutsFront b o y) p q in
    (a ++ front, (rest, append_assoc a front rest ∙ ap (λ l. a ++ l) is), puts ∙ ap (λ l. Some l) (append_assoc written a front)))

abbrev pub text_of : List (Bor (List ℕ)) → List ℕ
text_of pieces = concat (map (λ piece. piece.now) pieces)

-- the pieces from one place on are the one at it, and those behind
text_from : (pieces : List (Bor (List ℕ))) (i : ℕ) (none : Bor (List ℕ)) → i < length pieces →
    text_of (drop i pieces) ≡ (get_or pieces i none).now ++ text_of (drop (i + 1) pieces)
text_from pieces i none inside =
    ap text_of (drop-cons pieces i none inside) ∙ ap (λ j. (get_or pieces i none).now ++ text_of (drop j pieces)) (sym (add-one i))

-- what is still to be written makes the whole
pub record Remains (from : ℕ) (pieces : List (Bor (List ℕ))) (written now : Option (List ℕ)) : Type 0 where
  pub whole : (after : Option (List ℕ)) → Puts (text_of (drop from pieces)) now after → Puts (text_of pieces) written after
  pub front : (after : Option (List ℕ)) → PutsFront (text_of (drop from pieces)) now after → PutsFront (text_of pieces) written after

pub remains_all : (pieces : List (Bor (List ℕ))) (written : Option (List ℕ)) → Remains 0 pieces written written
remains_all pieces written = record { whole = λ after p. p; front = λ after p. p }

pub remains_next : (i : ℕ) (pieces : List (Bor (List ℕ))) (none : Bor (List ℕ)) (w x y : Option (List ℕ)) →
    Remains i pieces w x → i < length pieces → Puts (get_or pieces i none).now x y → Remains (i + 1) pieces w y
remains_next i pieces none w x y remains inside puts = (let from = sym (text_from pieces i none inside) in
    let piece = (get_or pieces i none).now in
    let rest = text_of (drop (i + 1) pieces) in record {
      whole = λ after p. remains.whole after (subst (λ l. Puts l x after) from (puts_then piece rest x y after puts p));
      front = λ after p. remains.front after (subst (λ l. PutsFront l x after) from (front_then piece rest x y after puts p));
    })

pub remains_front : (i : ℕ) (pieces : List (Bor (List ℕ))) (none : Bor (List ℕ)) (w x y : Option (List ℕ)) →
    Remains i pieces w x → i < length pieces → PutsFront (get_or pieces i none).now x y → PutsFront (text_of pieces) w y
remains_front i pieces none w x y remains inside puts =
    remains.front y (subst (λ l. PutsFront l x y) (sym (text_from pieces i none inside))
    (front_of_more (get_or pieces i none).now (text_of (drop (i + 1) pieces)) x y puts))

puts_nothing : (w : Option (List ℕ)) → Puts [] w w
puts_nothing None = refl
puts_nothing (Some written) = ap (λ l. Some l) (sym (append-nil written))

pub remains_none : (i : ℕ) (pieces : List (Bor (List ℕ))) (w x : Option (List ℕ)) →
    Remains i pieces w x → length pieces ≤ i → Puts (text_of pieces) w x
remains_none i pieces w x remains past =
    remains.whole x (subst (λ l. Puts (text_of l) x x) (sym (drop_all i pieces past)) (puts_nothing x))

pub on_err : {T E P : Type 0} (r : Result T E) → P → OnErr r P
on_err (Ok x) p = search rules
on_err (Err e) p = p

pub any_answer : (a b : ℕ) (failed : Bool) → Counts a b true → Counts a b failed
any_answer a b failed counts = record { grows = counts.grows; most = counts.most; cause = λ fails. counts.cause refl }
