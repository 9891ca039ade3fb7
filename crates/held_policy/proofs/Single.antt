-- What is decided on one path.
use Rattle.std.proofs.Common.{◌≡◌, ℕ, Bool, true, false, cond, not, List, [], ◌∷◌, inr, sym, ap, ◌∙◌}
use Rattle.std.specs.Prelude.{Option, None, Some, option_map, Ok, Err}
use Rattle.changeset_model.specs.Path.{Path}
use Rattle.policy_model.specs.Rules.{Rule, Denial, decide, is_allowed, denied}
use Rattle.reply_model.specs.Reply as reply
use Rattle.reply_model.specs.Reply.{refuse_some, denial}
use Rattle.reply_model.specs.After.{Refuses}
use Rattle.repo_calls.specs.declared.refusal.Refusal.{Refusal}
use Rattle.repo_calls.specs.Calls.{refused}
use Rattle.repo_calls.specs.Refusing.{IsRefusal}

module _ (rules : List Rule) (caller : List ℕ) (p : Path) where
  abbrev denial_by : Bool → Option Denial
  denial_by allowed = option_map (λ p. record { path = p; rule = decide rules caller p }) (cond (not allowed) (Some p) None)

  pub is_allowed_there : is_allowed rules caller p ≡ true → refuse_some (denied rules caller (p ∷ [])) denial ≡ Ok tt
  is_allowed_there h = ap (λ b. refuse_some (denial_by b) denial) h

  pub is_denied_there : (e : Refusal) (rule : Option ℕ) → is_allowed rules caller p ≡ false → rule ≡ decide rules caller p → refused e ≡ Refuses (reply.Denied p rule) → IsRefusal (refuse_some (denied rules caller (p ∷ [])) denial) e
  is_denied_there e rule h number same = inr (reply.Denied p rule, ap (λ b. refuse_some (denial_by b) denial) h ∙ ap (λ r. Err (reply.Denied p r)) (sym number), same)
