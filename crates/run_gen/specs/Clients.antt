-- What one client of a load did at its seat.
--     AreParents stacks outcome parents heads      the stacks stand on these parents, where landings left these heads: the first on the base, and each other on what the one before left
--     Ran header who from c seed stacks outcome to      client c landed so many stacks, or stopped in one of them
use Rattle.std.specs.Prelude.{◌≡◌, ℕ, ◌≤◌, List, [], ◌∷◌, ◌++◌, length, Result, Ok, Err}
use Rattle.byte_fields.specs.Bytes.{Id}
use Rattle.history_model.specs.History.{Entry}
use Rattle.history_model.specs.Journal.{Header}
use Rattle.run_gen.specs.Stacks.{base_id, stacks_of}
use Rattle.run_gen.specs.Answers.{Answered}
use Rattle.run_gen.specs.declared.fault.LoadFault.{LoadFault}

-- where the client stopped, the last stack is the one that it stopped in
abbrev pub AreParents : {X : Type 0} → ℕ → Result X LoadFault → List Id → List Id → Type 0
AreParents stacks (Ok x) parents heads = (length parents ≡ stacks) × (last : Id) × (parents ++ last ∷ [] ≡ base_id ∷ heads)
AreParents stacks (Err fault) parents heads = (length parents ≤ stacks) × (parents ≡ base_id ∷ heads)

pub record Ran {X : Type 0} (header : Header) (who : ℕ) (from : List Entry) (c seed stacks : ℕ) (outcome : Result X LoadFault) (to : List Entry) : Type 0 where
  pub parents : List Id
  pub heads : List Id
  pub are_parents : AreParents stacks outcome parents heads
  pub answered : Answered header who from (stacks_of c seed parents).asks heads outcome to
