-- A first parent is below its child.
use Rattle.std.proofs.Common.{◌≡◌, ℕ, ◌<◌, List, [], ◌∷◌, ◌++◌, length, reverse, sym, ap, subst, ◌∙◌, arith, ⊎_elim}
use Rattle.std.specs.Prelude.{Option, Some, None, IfSome, slice_get}
use Rattle.std.specs.Option.{option_and_then}
use Rattle.std.proofs.lemmas.Bool.{cases_eq}
use Rattle.std.proofs.lemmas.List.{length-reverse}
use Rattle.byte_fields.specs.Bytes.{Id}
use Rattle.byte_fields.proofs.Booleans.{same_some}
use Rattle.byte_fields.proofs.Lists.{get_next}
use Rattle.history_model.specs.History.{Known}
use Rattle.history_model.specs.Chain.{first_parent}
use Rattle.ancestry.proofs.Lines.{reverse-cons, slice_get-push_other}
use Rattle.changeset_store.specs.Store.{parent_at}
use Rattle.changeset_store.specs.Numbers.{number_among, parents_among}
use Rattle.changeset_store.proofs.Ancestors.{length-parents}
use Rattle.changeset_store.proofs.Numbering.{in_range}
use Rattle.changeset_store.proofs.Parents.{parents_at, parent_is}
use Rattle.manifest_store.specs.Lines.{IsStore}
use Rattle.manifest_store.proofs.Lines.{are_known, apart_back, links}

place_below : (ks : List Known) (n : ℕ) (p : Option ℕ) → slice_get (reverse (parents_among ks)) n ≡ Some p → n < length ks → IfSome p (λ q. q < n)
place_below [] n p e less = absurd (omega arith)
place_below (k ∷ older) n p e less =
    let mine = option_and_then (number_among older) (first_parent k.changeset) in
    let rest = reverse (parents_among older) in
    let len : length rest ≡ length older = length-reverse (parents_among older) ∙ length-parents older in
    let here : slice_get (rest ++ mine ∷ []) n ≡ Some p = ap (λ l. slice_get l n) (sym (reverse-cons mine (parents_among older))) ∙ e in
    ⊎_elim
    (λ same. subst (λ p. IfSome p (λ q. q < n)) (same_some mine p (sym (get_next rest mine) ∙ ap (slice_get (rest ++ mine ∷ [])) (len ∙ same) ∙ here)) (subst (λ m. IfSome mine (λ q. q < m)) same (mine_below (first_parent k.changeset))))
    (λ other. place_below older n p (sym (slice_get-push_other rest mine n (λ h. other (sym len ∙ h))) ∙ here) (omega arith))
    (cases_eq (length older) n)
  where
    mine_below : (o : Option Id) → IfSome (option_and_then (number_among older) o) (λ q. q < length older)
    mine_below None = tt
    mine_below (Some x) = in_range older x

module _ (ks : List Known) (s : IsStore ks) where
  pub parent_lower : (n q : ℕ) → n < length ks → parent_at ks n ≡ Some q → q < n
  parent_lower n q less e =
      let back : n < length (reverse ks) = let same = length-reverse ks in omega arith in
      let found = (parents_at (reverse ks) (apart_back ks s) s.parents n back).0 in
      subst (λ p. IfSome p (λ q. q < n)) (parent_is ks (links ks) (are_known ks s) n _ less found ∙ e) (place_below (reverse ks) n _ found back)
