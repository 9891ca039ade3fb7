-- What the policy that is held decides, by its rules.
--     decided_by      the first path that isn't allowed is the same
use Rattle.std.proofs.Common.{◌≡◌, ℕ, List, refl, ap, ◌∙◌}
use Rattle.std.specs.Prelude.{Option, None, Some, option_map}
use Rattle.changeset_model.specs.Path.{Path}
use Rattle.history_model.specs.History.{Entry, policy_of}
use Rattle.policy_model.specs.Rules.{Rule}
use Rattle.policy_model.specs.Held.{rules_in, denied_under}
use Rattle.reply_model.specs.Reply.{denied_at}
use Rattle.held_policy.specs.Held.{denied_by}

by_text : (held : Option (List ℕ)) (caller : List ℕ) (ps : List Path) → denied_by (option_map rules_in held) caller ps ≡ denied_under held caller ps
by_text None caller ps = refl
by_text (Some text) caller ps = refl

pub decided_by : (h : List Entry) (caller : List ℕ) (ps : List Path) (rules : Option (List Rule)) → rules ≡ option_map rules_in (policy_of h) → denied_by rules caller ps ≡ denied_at h caller ps
decided_by h caller ps rules are = ap (λ rules. denied_by rules caller ps) are ∙ by_text (policy_of h) caller ps

pub decided_on : (h : List Entry) (caller : List ℕ) (ps qs : List Path) (rules : Option (List Rule)) → rules ≡ option_map rules_in (policy_of h) → ps ≡ qs → denied_by rules caller ps ≡ denied_at h caller qs
decided_on h caller ps qs rules are same = ap (denied_by rules caller) same ∙ decided_by h caller qs rules are

pub decided_for : (h : List Entry) (caller calls : List ℕ) (ps qs : List Path) (rules : Option (List Rule)) → rules ≡ option_map rules_in (policy_of h) → caller ≡ calls → ps ≡ qs → denied_by rules caller ps ≡ denied_at h calls qs
decided_for h caller calls ps qs rules are called same = (λ i. denied_by rules (called i) (same i)) ∙ decided_by h calls qs rules are
