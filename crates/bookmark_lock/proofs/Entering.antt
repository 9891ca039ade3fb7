-- What one turn tells the seat.
use Rattle.std.proofs.Common.{◌++◌, ◌≡◌, ℕ, List, [], ◌∷◌, length, get_or, Bool, true, false, refl, sym, ap, ◌∙◌, subst, arith, length-append}
use Rattle.std.specs.Prelude.{All}
use Rattle.std.specs.Fn.{Once, FnOnceReturnsAtMut}
use denote.Ref.{MutBor}
use mathlib.Core.List.{IsPrefix}
use Rattle.disk_model.specs.Meaning.{Meaning}
use Rattle.history_model.specs.History.{Entry, entries_by}
use Rattle.bookmark_lock.specs.Opening.{Opening}
use Rattle.bookmark_lock.specs.Place.{Place, at_sight}
use Rattle.bookmark_lock.specs.Turns.{MayFind, IsTurn, Entered, sight_after}
use Rattle.byte_fields.proofs.Lists.{prefix_trans}
use Rattle.bookmark_lock.proofs.Rosters.{own_entry, others_entry}

snoc_same : (l : List Entry) (a b : Entry) → l ++ a ∷ [] ≡ l ++ b ∷ [] → a ≡ b
snoc_same [] a b e = cc e
snoc_same (x ∷ l) a b e = snoc_same l a b (cc e)

module _ {T : Type 0} (history : T → List Entry) (opening : T → Opening) (sealed reach : T → ℕ) (disk : T → Meaning) (most : ℕ) where
  own_one : (seat : Place) (before after : T) (added : Bool) → MayFind history opening sealed reach disk seat before → IsTurn history opening sealed reach disk most seat.number seat.unsealed before after added
      → (e : Entry) → history after ≡ history before ++ e ∷ [] → entries_by seat.number (history after) ≡ entries_by seat.number seat.front ++ e ∷ []
  own_one seat before after true found turn e is =
      let adds = turn.adds in
      let same : adds.0 ≡ e = snoc_same (history before) adds.0 e (sym adds.2 ∙ is) in
      let mine : e.who ≡ seat.number = sym (ap (λ (x : Entry). x.who) same) ∙ adds.1 in
      ap (entries_by seat.number) is ∙ (own_entry seat.number (history before) e mine ∙ ap (λ (l : List Entry). l ++ e ∷ []) found.goes_on.own)
  own_one seat before after false found turn e is =
      let same = turn.adds in absurd (omega (arith, ap length (sym same ∙ is), length-append (history before) (e ∷ [])))

  begins : (seat : Place) (before after : T) (added : Bool) → MayFind history opening sealed reach disk seat before → IsTurn history opening sealed reach disk most seat.number seat.unsealed before after added → IsPrefix seat.front (history after)
  begins seat before after true found turn = let adds = turn.adds in prefix_trans seat.front (history before) (history after) found.goes_on.begins (adds.0 ∷ [], sym adds.2)
  begins seat before after false found turn = let same = turn.adds in subst (λ (l : List Entry). IsPrefix seat.front l) (sym same) found.goes_on.begins

  joined : (seat : Place) (before after : T) (added : Bool) → MayFind history opening sealed reach disk seat before → IsTurn history opening sealed reach disk most seat.number seat.unsealed before after added
      → All (λ (n : ℕ). entries_by n (history after) ≡ entries_by n seat.front) seat.joined
  joined seat before after true found turn k d h =
      let adds = turn.adds in
      let n : ℕ = get_or seat.joined k d in
      ap (entries_by n) adds.2 ∙ (others_entry n (history before) adds.0 (λ same. found.apart k d h (same ∙ adds.1)) ∙ found.goes_on.joined k d h)
  joined seat before after false found turn k d h =
      let same = turn.adds in ap (entries_by (get_or seat.joined k d)) same ∙ found.goes_on.joined k d h

  pub entered : {F X : Type 0} (g : Once F (MutBor T × Unit {0}) ((Bool × X) × (MutBor T × Unit {0}))) (act : F) (seat : Place) (before after : T) (added : Bool) (answer : X)
      → MayFind history opening sealed reach disk seat before → FnOnceReturnsAtMut g act before (added, answer) after → IsTurn history opening sealed reach disk most seat.number seat.unsealed before after added
      → Entered history opening sealed reach disk g act seat (at_sight seat (sight_after history opening sealed reach disk seat.unsealed (history before) after)) answer
  entered g act seat before after added answer found ran turn = record {
    before = before;
    after = after;
    added = added;
    found = found;
    ran = ran;
    moved = refl;
    begins = begins seat before after added found turn;
    opened = turn.opened ∙ found.opened;
    seals = turn.seals;
    lasts = turn.lasts;
    adds = turn.adds;
    own_one = own_one seat before after added found turn;
    own_none = λ same. ap (entries_by seat.number) same ∙ found.goes_on.own;
    joined = joined seat before after added found turn;
  }
