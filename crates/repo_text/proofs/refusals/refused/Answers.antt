use Rattle.std.proofs.Common.{◌≡◌, refl, ap, ◌∙◌}
use Rattle.std.proofs.lemmas.Result.{IfOk-weaker}
use Rattle.session_model.specs.Bodies.{json}
use Rattle.repo_calls.specs.declared.refusal.Refusal.{Refusal}
use Rattle.repo_calls.specs.declared.refusal.Refusal.TheVariants as refusals
use Rattle.repo_text.specs.Refusing.{response_to}
use Rattle.repo_text.proofs.refusals.refused.Goals as goal

-- each is JSON
whole : (r : Refusal) → json (response_to r).status (response_to r).body ≡ response_to r
whole refusals.Down = refl
whole (refusals.TooLong length) = refl
whole (refusals.BadEncoding at) = refl
whole (refusals.SelfConflict short long) = refl
whole (refusals.BadParts length) = refl
whole refusals.OldFormat = refl
whole (refusals.NoPiece id) = refl
whole (refusals.NotAPiece id) = refl
whole (refusals.NoParent id) = refl
whole (refusals.NoContent path id) = refl
whole (refusals.WrongSize path wanted found) = refl
whole (refusals.Unresolved path) = refl
whole (refusals.Collision id) = refl
whole (refusals.NoChangeset id) = refl
whole (refusals.Moved found) = refl
whole refusals.NoBookmark = refl
whole refusals.NoRoot = refl
whole (refusals.TooFarBehind distance) = refl
whole refusals.AlreadyIn = refl
whole (refusals.StackTooLong count) = refl
whole (refusals.MergeInStack id) = refl
whole (refusals.MergeInRange id) = refl
whole (refusals.Denied place rule) = refl
whole (refusals.Clash left right) = refl
whole (refusals.TooLarge length) = refl
whole (refusals.BadPolicy line) = refl
whole (refusals.Full size length) = refl
whole refusals.Memory = refl

pub returns : goal.returns
returns c =
    let refusal = c.args.refusal.now in
    let body = (response_to refusal).body in
    IfOk-weaker c.with_body.result _ _ (λ r is. is ∙ ap (λ status. json status body) c.status_of.ensures ∙ whole refusal) (c.with_body.ensures body c.in_ok-value.ensures)
