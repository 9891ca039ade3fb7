-- Policies.
--     IsHeld h held      its rules are those of the last policy's text, and its number in the log is that policy's. None where none is held
--     IsPolicyRead caller text read      the text was read: its rules and its record
--     IsReadOf caller text read      so it was, or this is the first line that breaks the grammar
use Rattle.std.specs.Prelude.{◌≡◌, ℕ, List, Option, None, Some, Ok, Err}
use Rattle.history_model.specs.History.{Entry, Policy, policy_of, policy_at}
use Rattle.policy_model.specs.Rules.{Rule}
use Rattle.policy_model.specs.Grammar.{parse}
use Rattle.repo_machine.specs.declared.held_rules.HeldRules.{HeldRules}
use Rattle.repo_machine.specs.declared.policies.ReadPolicy.{ReadPolicy}
use Rattle.repo_machine.specs.declared.policies.ReadText.{ReadText}
use Rattle.repo_machine.specs.declared.policies.ReadText.TheVariants as reads
use Rattle.repo_machine.specs.Made.{made_of, IsMadeReady}
use Rattle.repo_machine.specs.Judged.{Frames}

pub record IsLastPolicy (h : List Entry) (rules : List Rule) (number : ℕ) : Type 0 where
  pub text : List ℕ
  pub last : policy_of h ≡ Some text
  pub parses : parse text ≡ Ok rules
  pub there : policy_at h number ≡ Some text

abbrev pub IsHeld : List Entry → Option HeldRules → Type 0
IsHeld h None = policy_of h ≡ None
IsHeld h (Some held) = IsLastPolicy h held.rules held.number

pub record IsPolicyRead (caller text : List ℕ) (read : ReadPolicy) : Type 0 where
  pub parses : (rules : List Rule) × (parse text ≡ Ok rules)
  pub made_is : made_of read.made ≡ Policy caller text
  pub ready : IsMadeReady read.made
  pub frames : Frames (Some (Policy caller text)) read.frame.items

abbrev pub IsReadOf : List ℕ → List ℕ → ReadText → Type 0
IsReadOf caller text (reads.Policy read) = IsPolicyRead caller text read
IsReadOf caller text (reads.Bad line) = parse text ≡ Err line
