-- The walk along a path: the rule that decides above each of its elements.
use Rattle.std.proofs.Common.{◌≡◌, ◌<◌, ◌≤◌, ◌+◌, ℕ, zero, suc, false, List, [], ◌∷◌, ◌++◌, length, take, get_or, Option, None, refl, sym, ap, ◌∙◌, arith, subst}
use Rattle.std.specs.Prelude.{◌==◌}
use Rattle.std.specs.Borrow.{Bor}
use Rattle.std.specs.BTreeMap.{BTreeMap}
use Rattle.std.specs.declared.string.String.{String}
use Rattle.std.proofs.lemmas.List.{take_more, take_all, length-take-le}
use Rattle.changeset_model.specs.Path.{Path, elements}
use Rattle.policy_model.specs.Rules.{Rule, decide}
use Rattle.land_policy.specs.Index.{IsFirsts, IsOwn, IsPlace, lesser, found_at}
use Rattle.land_policy.proofs.Fronts.{elements-slash, elements-parts}
use Rattle.land_policy.proofs.Deciding.{found_at_root, found_below}
use Rattle.land_policy.proofs.Places.{place_of-some}

-- the elements of a text but the last one, at which this rule decides
pub record Walked (rules : List Rule) (name text : List ℕ) (first : Option ℕ) : Type 0 where
  pub front : Path
  pub last : List ℕ
  pub parts : elements text ≡ front ++ last ∷ []
  pub decides : first ≡ decide rules name front

pub no_step : (rules : List Rule) (name : List ℕ) (first : Option ℕ) → first ≡ decide rules name [] → Walked rules name [] first
no_step rules name first h = record { front = []; last = []; parts = refl; decides = h }

-- a byte that is no slash
byte_on : (rules : List Rule) (name text : List ℕ) (c : ℕ) (first : Option ℕ) → (c == 0x2F) ≡ false → Walked rules name text first → Walked rules name (text ++ c ∷ []) first
byte_on rules name text c first h w = record { front = w.front; last = w.last ++ c ∷ []; parts = elements-parts c text w.front w.last h w.parts; decides = w.decides }

-- a text doesn't begin with a slash
past_first : (text : List ℕ) (n : ℕ) → IsPlace text → get_or text n 0 ≡ 0x2F → 0 < n
past_first text zero is h = absurd (is.begins h)
past_first text (suc n) is h = omega arith

module _ {Y : Type 0} (rules : List Rule) (name : List ℕ) (everyone : BTreeMap (String Y) ℕ) (own : Option (Bor (BTreeMap (String Y) ℕ))) (all_is : IsFirsts rules None everyone) (own_is : IsOwn rules name own) where
  pub root : found_at everyone own [] ≡ decide rules name []
  root = found_at_root rules name everyone own all_is own_is

  -- the whole text
  pub whole : (text : List ℕ) (first : Option ℕ) → 0 < length text → Walked rules name text first → lesser first (found_at everyone own text) ≡ decide rules name (elements text)
  whole text first some w =
      ap (λ (o : Option ℕ). lesser o (found_at everyone own text)) w.decides ∙ found_below rules name everyone own all_is own_is text w.front w.last (place_of-some text some ∙ w.parts)
      ∙ ap (decide rules name) (sym w.parts)

  -- a slash, which ends an element
  slash_on : (text : List ℕ) (first : Option ℕ) → 0 < length text → Walked rules name text first → Walked rules name (text ++ 0x2F ∷ []) (lesser first (found_at everyone own text))
  slash_on text first some w = record { front = elements text; last = []; parts = elements-slash text; decides = whole text first some w }

  -- the byte at a place is a slash
  pub slash_at : (text : List ℕ) (n : ℕ) (first next : Option ℕ) → IsPlace text → n < length text → get_or text n 0 ≡ 0x2F → next ≡ lesser first (found_at everyone own (take n text)) → Walked rules name (take n text) first → Walked rules name (take (n + 1) text) next
  slash_at text n first next is less h e w =
      subst (λ (o : Option ℕ). Walked rules name (take (n + 1) text) o) (sym e)
      (subst (λ (t : List ℕ). Walked rules name t (lesser first (found_at everyone own (take n text)))) (sym (take_more text n 0 less ∙ ap (λ (c : ℕ). take n text ++ c ∷ []) h))
      (slash_on (take n text) first (let len = length-take-le n text (omega arith) in let some = past_first text n is h in omega arith) w))

  -- at the end
  pub at_end : (text : List ℕ) (n : ℕ) (first : Option ℕ) → IsPlace text → length text ≤ n → Walked rules name (take n text) first → lesser first (found_at everyone own text) ≡ decide rules name (elements text)
  at_end text n first is over w = whole text first is.some (subst (λ (t : List ℕ). Walked rules name t first) (take_all n text over) w)

-- the byte at a place is no slash
pub other_at : (rules : List Rule) (name text : List ℕ) (n : ℕ) (first next : Option ℕ) → n < length text → (get_or text n 0 == 0x2F) ≡ false → next ≡ first → Walked rules name (take n text) first → Walked rules name (take (n + 1) text) next
other_at rules name text n first next less h e w =
    subst (λ (o : Option ℕ). Walked rules name (take (n + 1) text) o) (sym e)
    (subst (λ (t : List ℕ). Walked rules name t first) (sym (take_more text n 0 less)) (byte_on rules name (take n text) (get_or text n 0) first h w))
