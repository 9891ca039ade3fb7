-- The first of some ids that passes a test, and what is so where none does.
use Rattle.std.proofs.Common.{◌≡◌, ℕ, ◌+◌, ◌<◌, ◌≤◌, Bool, true, false, cond, List, [], ◌∷◌, drop, length, drop-cons, add-one, get_or, refl, sym, ap, ◌∙◌}
use Rattle.std.specs.Prelude.{find, Option, None, Some, option_map, is_none, is_some, IsSome, Ok}
use Rattle.std.specs.Option.{option_and_then}
use Rattle.std.specs.List.{All, AllByRecursion}
use Rattle.std.proofs.lemmas.List.{drop_all}
use Rattle.std.proofs.lemmas.List.Elements.{All-from_recursion}
use Rattle.byte_fields.specs.Bytes.{Id}
use Rattle.reply_model.specs.Reply as reply
use Rattle.reply_model.specs.Reply.{refuse_some}
use Rattle.content_table.specs.declared.stored.Stored.{Stored}
use Rattle.content_table.specs.declared.stored.Stored.TheVariants.{Content, Whole}
use Rattle.content_table.specs.declared.table.ContentTable.{ContentTable}
use Rattle.content_table.specs.Table.{stored_in, length_of, place_of, joined_of, lengths, places, is_whole_in}

module _ (f : Id → Bool) (xs : List Id) (i : ℕ) where
  next : (x : Id) → i < length xs → x ≡ get_or xs i x → find f (drop i xs) ≡ cond (f x) (Some x) (find f (drop (i + 1) xs))
  next x below is = ap (find f) (drop-cons xs i x below ∙ (λ j. sym is j ∷ drop (sym (add-one i) j) xs))

  pub found_here : (x : Id) → i < length xs → x ≡ get_or xs i x → f x ≡ true → find f (drop i xs) ≡ Some x
  found_here x below is passes = next x below is ∙ ap (λ b. cond b (Some x) (find f (drop (i + 1) xs))) passes

  pub found_on : (x : Id) → i < length xs → x ≡ get_or xs i x → f x ≡ false → find f (drop i xs) ≡ find f (drop (i + 1) xs)
  found_on x below is fails = next x below is ∙ ap (λ b. cond b (Some x) (find f (drop (i + 1) xs))) fails

  pub found_none : length xs ≤ i → find f (drop i xs) ≡ None
  found_none past = ap (find f) (drop_all i xs past)

-- ---- where all may be joined

none_refused : (o : Option Id) (e : Id → reply.Refusal) → refuse_some o e ≡ Ok tt → o ≡ None
none_refused None e h = refl
none_refused (Some x) e h = absurd cc

none_passes : (b : Bool) (x : Id) (rest : Option Id) → cond b (Some x) rest ≡ None → (b ≡ false) × (rest ≡ None)
none_passes true x rest h = absurd cc
none_passes false x rest h = (refl, h)

placed_one : (o : Option Stored) → is_none (option_map length_of o) ≡ false → is_some (option_and_then joined_of o) ≡ false → IsSome (option_and_then place_of o)
placed_one None stored single = absurd cc
placed_one (Some (Content place)) stored single = refl
placed_one (Some (Whole whole)) stored single = absurd cc

module _ (t : ContentTable) where
  placed_each : (ids : List Id) → find (λ x. is_none (lengths t x)) ids ≡ None → find (is_whole_in t) ids ≡ None → AllByRecursion (λ x. IsSome (places t x)) ids
  placed_each [] stored single = tt
  placed_each (x ∷ ids) stored single =
      let here = none_passes (is_none (lengths t x)) x (find (λ x. is_none (lengths t x)) ids) stored in
      let there = none_passes (is_whole_in t x) x (find (is_whole_in t) ids) single in
      (placed_one (stored_in t x) here.0 there.0, placed_each ids here.1 there.1)

  pub all_placed : (ids : List Id) → refuse_some (find (λ x. is_none (lengths t x)) ids) reply.NoPiece ≡ Ok tt → refuse_some (find (is_whole_in t) ids) reply.NotAPiece ≡ Ok tt → All (λ x. IsSome (places t x)) ids
  all_placed ids stored single =
      All-from_recursion (λ x. IsSome (places t x)) ids (placed_each ids (none_refused (find (λ x. is_none (lengths t x)) ids) reply.NoPiece stored) (none_refused (find (is_whole_in t) ids) reply.NotAPiece single))
