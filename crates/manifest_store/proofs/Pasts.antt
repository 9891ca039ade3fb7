-- Pasts of known changesets by their numbers: each is made of the pasts of both parents, and stays where more become known.
use Rattle.std.proofs.Common.{◌≡◌, ℕ, ◌<◌, true, List, ◌++◌, length, refl, sym, ap, subst, ◌∙◌, arith}
use Rattle.std.specs.Prelude.{Option, Some, None, IfSome, option_map}
use Rattle.std.specs.Option.{option_and_then}
use Rattle.std.proofs.lemmas.List.{map-append}
use Rattle.byte_fields.specs.Bytes.{Id}
use Rattle.byte_fields.proofs.Booleans.{same_some}
use Rattle.history_model.specs.History.{Change, Known, known, is_known}
use Rattle.history_model.specs.Past.{At, second_of, past}
use Rattle.reply_model.proofs.Lines.{past_grows}
use Rattle.changeset_store.specs.Store.{number_in, parent_at, second_parent_at, known_at, changeset_at}
use Rattle.changeset_store.specs.Pasts.{past_at, past_at_some}
use Rattle.changeset_store.proofs.Pasts.{past_is, second_earlier, second_id}
use Rattle.changeset_store.proofs.Places.{known_at-append, changeset_at-append}
use Rattle.manifest_store.specs.Lines.{IsStore}
use Rattle.manifest_store.proofs.Lines.{story, known_story, known_here, are_known, links, parent_by}

module _ (ks : List Known) (s : IsStore ks) where
  -- both parents' pasts make a past
  pub past_step : (n : ℕ) → n < length ks → past_at ks n ≡ At (known_at ks n) (past_at_some ks (parent_at ks n)) (past_at_some ks (second_parent_at ks n))
  past_step n less = past_is ks (links ks) (are_known ks s) n less (second_parent_at ks n) refl

  pub second_before : (n p : ℕ) → n < length ks → second_parent_at ks n ≡ Some p → p < n
  second_before n p less e = subst (λ o. IfSome o (λ m. m < n)) e (second_earlier ks (links ks) (are_known ks s) n less (second_parent_at ks n) refl)

  -- who has a second parent knows it
  second_there : (n : ℕ) → n < length ks → (o : Option Id) → second_of (changeset_at ks n).parents ≡ o → IfSome o (λ q. is_known ks q ≡ true)
  second_there n less None e = tt
  second_there n less (Some q) e = by (second_parent_at ks n) refl (second_id ks (links ks) (are_known ks s) n less (second_parent_at ks n) refl ∙ e)
    where
      by : (o : Option ℕ) → second_parent_at ks n ≡ o → option_map (λ m. (known_at ks m).id) o ≡ Some q → is_known ks q ≡ true
      by None at same = absurd cc
      by (Some m) at same =
          let below : m < n = second_before n m less at in
          subst (λ x. is_known ks x ≡ true) (same_some (known_at ks m).id q same) (known_here ks m (omega arith))

-- ---- more become known

pub second_stays : (ks more : List Known) → IsStore ks → (n : ℕ) → n < length ks → second_parent_at (ks ++ more) n ≡ second_parent_at ks n
second_stays ks more own n less =
    ap (λ c. option_and_then (number_in (ks ++ more)) (second_of c.parents)) (changeset_at-append ks more n less)
    ∙ parent_by ks more own (second_of (changeset_at ks n).parents) (second_there ks own n less (second_of (changeset_at ks n).parents) refl)

pub past_stays : (ks more : List Known) (n : ℕ) → IsStore ks → IsStore (ks ++ more) → n < length ks → past_at (ks ++ more) n ≡ past_at ks n
past_stays ks more n own s less =
    let x = (known_at ks n).id in
    let here = known_story ks own.ids own.once in
    let whole : known (story ks ++ story more) ≡ ks ++ more = ap known (sym (map-append (λ k. record { who = 0; body = Change k.changeset }) ks more)) ∙ known_story (ks ++ more) s.ids s.once in
    ap (λ k. past (ks ++ more) k.id) (known_at-append ks more n less)
    ∙ ap (λ js. past js x) (sym whole) ∙ past_grows (story ks) (story more) x (ap (λ js. is_known js x) here ∙ known_here ks n less) ∙ ap (λ js. past js x) here
