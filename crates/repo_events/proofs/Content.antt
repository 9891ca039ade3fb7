-- A content's frame, which is made in the room of its bytes.
use Rattle.std.proofs.Common.{◌≡◌, ℕ, ◌+◌, ◌-◌, List, [], ◌∷◌, ◌++◌, length, take, drop, slice_set, refl, sym, ap, ◌∙◌, arith, length-append, length-take-le, append_assoc}
use lib.Seq.{paste}
use Rattle.std.specs.Int.{w32, to_be_bytes}
use Rattle.std.specs.List.{copy_within}
use Rattle.std.proofs.lemmas.List.{drop_at, take_at, drop-drop}
use Rattle.std.proofs.lemmas.Grind.{drop-set_at}
use Rattle.std.proofs.lemmas.List.Edits.{length-paste}
use Rattle.history_model.specs.Journal.{framed}

-- the bytes that are added behind a content
abbrev added : List ℕ
added = 0 ∷ 0 ∷ 0 ∷ 0 ∷ 0 ∷ 0 ∷ []

module _ (bytes grown moved : List ℕ) (count : ℕ) (count_is : count ≡ length bytes) (grown_is : grown ≡ bytes ++ added) (moved_is : moved ≡ copy_within grown 0 count 5) where
  long : length grown ≡ length bytes + 6
  long = ap (λ xs. length xs) grown_is ∙ length-append bytes added

  whole : count - 0 ≡ length bytes
  whole = omega (arith, count_is)

  pasted : moved ≡ paste grown 5 grown (length bytes)
  pasted = moved_is ∙ ap (paste grown 5 grown) whole

  moved_long : length moved ≡ length bytes + 6
  moved_long = ap (λ xs. length xs) pasted ∙ length-paste grown 5 grown (length bytes) (omega (arith, long)) (omega (arith, long)) ∙ long

  behind : drop 5 moved ≡ bytes ++ 0 ∷ []
  behind =
      let n = length bytes in
      let turned : 5 + n ≡ n + 5 = omega arith in
      ap (drop 5) (pasted ∙ append_assoc (take 5 grown) (take n grown) (drop (5 + n) grown))
      ∙ drop_at (take 5 grown) (take n grown ++ drop (5 + n) grown) 5 (length-take-le 5 grown (omega (arith, long)))
      ∙ (λ i. take n (grown_is i) ++ drop (turned i) (grown_is i))
      ∙ ap (λ xs. xs ++ drop (n + 5) (bytes ++ added)) (take_at bytes added n refl)
      ∙ ap (λ xs. bytes ++ xs) (sym (drop-drop 5 n (bytes ++ added)) ∙ ap (drop 5) (drop_at bytes added n refl))

  pub content_written : (marked written : List ℕ) → marked ≡ slice_set moved 4 0x42 → written ≡ to_be_bytes w32 (count + 1) ++ drop 4 marked → written ≡ framed (0x42 ∷ bytes)
  content_written marked written marked_is written_is =
      let next : count + 1 ≡ length (0x42 ∷ bytes) = omega (arith, count_is) in
      let rest = ap (drop 4) marked_is ∙ drop-set_at moved 4 4 0x42 refl (omega (arith, moved_long)) ∙ ap (λ xs. 0x42 ∷ xs) behind in
      written_is ∙ (λ i. to_be_bytes w32 (next i) ++ rest i)
