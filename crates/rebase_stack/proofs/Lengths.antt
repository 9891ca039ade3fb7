-- How many bytes the encodings of a rewritten stack have. It is the same on each head.
use Rattle.std.proofs.Common.{◌≡◌, ℕ, ◌+◌, ◌<◌, List, [], ◌∷◌, ◌++◌, length, drop, map, refl, sym, ap, ◌∙◌, arith, true, length-append}
use Rattle.std.specs.Prelude.{slice_index_or}
use Rattle.std.specs.Arc.{arc_value}
use Rattle.std.specs.Int.{w32}
use Rattle.std.specs.declared.sync.Arc.{Arc}
use Rattle.sha2.proofs.Facts256.{length-sha256}
use Rattle.byte_fields.specs.Bytes.{Id, is_bytes, sized}
use Rattle.changeset_model.specs.Changeset.{Changeset, id_of, spelling}
use Rattle.history_model.specs.Pushrebase.{on_parent, rewrite}
use Rattle.bonsai.proofs.Lengths.{spelling_long}
use Rattle.changeset_model.proofs.Spelling.{len_of as id_long}
use Rattle.bonsai.specs.Encodings.{encodings}
use Rattle.rebase_stack.proofs.Rewriting.{rewrite_next}

length-sized : (bytes more : List ℕ) → length (sized w32 bytes ++ more) ≡ 4 + length bytes + length more
length-sized bytes more = let both = length-append bytes more in omega arith

on_any_parent : (c : Changeset) (a b : Id) (moment : ℕ) → length a ≡ length b → length (spelling (on_parent a moment c)) ≡ length (spelling (on_parent b moment c))
on_any_parent c a b moment e =
    let here = spelling_long (on_parent a moment c) in
    let there = spelling_long (on_parent b moment c) in
    let left = length-append a [] in
    let right = length-append b [] in
    omega arith

on_any_head : (cs : List Changeset) (a b : Id) (moment : ℕ) → length a ≡ length b → length (encodings (rewrite cs a moment)) ≡ length (encodings (rewrite cs b moment))
on_any_head [] a b moment e = refl
on_any_head (c ∷ cs) a b moment e =
    let first = on_parent a moment c in
    let second = on_parent b moment c in
    let here = length-sized (spelling first) (encodings (rewrite cs (id_of first) moment)) in
    let there = length-sized (spelling second) (encodings (rewrite cs (id_of second) moment)) in
    let one = on_any_parent c a b moment e in
    let rest = on_any_head cs (id_of first) (id_of second) moment (length-sha256 (spelling first) ∙ sym (length-sha256 (spelling second))) in
    omega arith

-- one changeset more is counted
pub count_one_more : {Z : Type 0} (stack : List (Arc Changeset Z)) (i : ℕ) (c : Arc Changeset Z) (head : Id) (moment n m total : ℕ) → i < length stack → c ≡ slice_index_or stack i c → is_bytes 32 head ≡ true
    → m ≡ length (spelling (on_parent head moment (arc_value c))) → n + length (encodings (rewrite (map arc_value (drop i stack)) head moment)) ≡ total
    → n + (4 + m) + length (encodings (rewrite (map arc_value (drop (i + 1) stack)) head moment)) ≡ total
count_one_more stack i c head moment n m total less is rule one before =
    let moved = on_parent head moment (arc_value c) in
    let left = map arc_value (drop (i + 1) stack) in
    let next = ap (λ cs. length (encodings cs)) (rewrite_next stack i c head moment less is) in
    let here = length-sized (spelling moved) (encodings (rewrite left (id_of moved) moment)) in
    let rest = on_any_head left head (id_of moved) moment (id_long head rule ∙ sym (length-sha256 (spelling moved))) in
    omega arith
