-- The policy that is held.
--     held_stays, held_cleared      it is so after an entry that is no policy, and without the numbers of seats
--     last_set      a new one is held
--     holds_as      one is held where there is a last text
use Rattle.std.proofs.Common.{◌≡◌, ℕ, zero, suc, List, [], ◌∷◌, ◌++◌, length, refl, sym, ap, subst, ◌∙◌}
use Rattle.std.specs.Prelude.{Option, None, Some, Ok, is_some, slice_get}
use Rattle.std.specs.Option.{option_and_then, option_or}
use Rattle.std.proofs.lemmas.List.{length-map}
use Rattle.history_model.specs.History.{Body, Policy, Entry, bodies, stored, unnumbered, holds_policy, policy_text, policy_of, policy_at}
use Rattle.history_model.specs.Journal.{Header}
use Rattle.history_model.specs.Repository.{Repository}
use Rattle.history_model.proofs.Policies.{held_has_text}
use Rattle.policy_model.specs.Rules.{Rule}
use Rattle.policy_model.specs.Grammar.{parse}
use Rattle.reply_model.specs.After.{entry_by}
use Rattle.reply_model.proofs.Histories.{bodies-append}
use Rattle.repo_machine.specs.declared.held_rules.HeldRules.{HeldRules}
use Rattle.repo_machine.specs.Policies.{IsLastPolicy, IsHeld}
use Rattle.repo_machine.specs.Seats.{cleared}
use Rattle.repo_machine.proofs.Cleared.{bodies-cleared, policy_of-cleared}
use Rattle.repo_machine.proofs.Growing.{policy-push}

-- ---- what is stored at a number

got_on : (bs cs : List Body) (n : ℕ) (text : List ℕ) → option_and_then policy_text (slice_get bs n) ≡ Some text → option_and_then policy_text (slice_get (bs ++ cs) n) ≡ Some text
got_on [] cs n text e = absurd cc
got_on (b ∷ bs) cs zero text e = e
got_on (b ∷ bs) cs (suc n) text e = got_on bs cs n text e

got_last : (bs : List Body) (caller text : List ℕ) → option_and_then policy_text (slice_get (bs ++ Policy caller text ∷ []) (length bs)) ≡ Some text
got_last [] caller text = refl
got_last (b ∷ bs) caller text = got_last bs caller text

at_stays : (h : List Entry) (e : Entry) (n : ℕ) (text : List ℕ) → policy_at h n ≡ Some text → policy_at (h ++ e ∷ []) n ≡ Some text
at_stays h e n text there = ap (λ bs. option_and_then policy_text (slice_get bs n)) (bodies-append h (e ∷ [])) ∙ got_on (bodies h) (bodies (e ∷ [])) n text there

-- ---- one entry more

stays : (h : List Entry) (who : ℕ) (body : Body) → policy_text body ≡ None → (held : Option HeldRules) → IsHeld h held → IsHeld (h ++ entry_by who body ∷ []) held
stays h who body none None is = policy-push h who body ∙ ap (λ o. option_or o (policy_of h)) none ∙ is
stays h who body none (Some rules) is = record {
  text = is.text;
  last = policy-push h who body ∙ ap (λ o. option_or o (policy_of h)) none ∙ is.last;
  parses = is.parses;
  there = at_stays h (entry_by who body) rules.number is.text is.there;
}

pub held_stays : (h : List Entry) (who : ℕ) (body : Body) → policy_text body ≡ None → (held : Option HeldRules) → IsHeld h held → (after : List Entry) → after ≡ h ++ entry_by who body ∷ [] → IsHeld after held
held_stays h who body none held is after grows = subst (λ g. IsHeld g held) (sym grows) (stays h who body none held is)

pub last_set : (h : List Entry) (who : ℕ) (caller text : List ℕ) (rules : List Rule) (number : ℕ) → parse text ≡ Ok rules → number ≡ length (stored h) → (after : List Entry) → after ≡ h ++ entry_by who (Policy caller text) ∷ [] → IsLastPolicy after rules number
last_set h who caller text rules number parses is after grows = subst (λ g. IsLastPolicy g rules number) (sym grows) (record {
  text = text;
  last = policy-push h who (Policy caller text);
  parses = parses;
  there = (λ i. option_and_then policy_text (slice_get (bodies-append h (entry_by who (Policy caller text) ∷ []) i) ((is ∙ length-map (bodies h) unnumbered) i))) ∙ got_last (bodies h) caller text;
})

-- ---- without the numbers of seats

by_cleared : (h : List Entry) (held : Option HeldRules) → IsHeld h held → IsHeld (cleared h) held
by_cleared h None is = policy_of-cleared h ∙ is
by_cleared h (Some rules) is = record {
  text = is.text;
  last = policy_of-cleared h ∙ is.last;
  parses = is.parses;
  there = ap (λ bs. option_and_then policy_text (slice_get bs rules.number)) (bodies-cleared h) ∙ is.there;
}

pub held_cleared : (h : List Entry) (held : Option HeldRules) → IsHeld h held → (after : List Entry) → after ≡ cleared h → IsHeld after held
held_cleared h held is after clears = subst (λ g. IsHeld g held) (sym clears) (by_cleared h held is)

-- ---- what is decided by it

by_some : (h : List Entry) (held : Option HeldRules) → IsHeld h held → is_some held ≡ is_some (policy_of h)
by_some h None is = sym (ap is_some is)
by_some h (Some rules) is = sym (ap is_some is.last)

module _ (header : Header) (h : List Entry) (held : Option HeldRules) (is : IsHeld h held) (r : Repository) (same : ◌≡◌ {A = Repository} (record { header = header; history = h }) r) where
  held_in : IsHeld r.history held
  held_in = subst (λ (r : Repository). IsHeld r.history held) same is

  pub holds_as : is_some held ≡ holds_policy r.history
  holds_as = by_some r.history held held_in ∙ sym (held_has_text r.history)
