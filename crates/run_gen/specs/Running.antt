-- How far a client has come.
--     IsAt header who from c seed j parent state to      client c landed j stacks, of which the last left this parent for the next, and its draws this state
use Rattle.std.specs.Prelude.{◌≡◌, ℕ, List, [], ◌∷◌, ◌++◌, length, Result, Ok}
use Rattle.byte_fields.specs.Bytes.{Id}
use Rattle.history_model.specs.History.{Entry}
use Rattle.history_model.specs.Journal.{Header}
use Rattle.run_gen.specs.Stacks.{base_id, stacks_of}
use Rattle.run_gen.specs.Answers.{Answered}
use Rattle.run_gen.specs.declared.fault.LoadFault.{LoadFault}

abbrev pub done : Result (Unit {0}) LoadFault
done = Ok tt

pub record IsAt (header : Header) (who : ℕ) (from : List Entry) (c seed j : ℕ) (parent : Id) (state : ℕ) (to : List Entry) : Type 0 where
  pub parents : List Id
  pub heads : List Id
  pub count : length parents ≡ j
  pub chained : parents ++ parent ∷ [] ≡ base_id ∷ heads
  pub stacks_is : (stacks_of c seed parents).stacks ≡ j
  pub state_is : (stacks_of c seed parents).state ≡ state
  pub answered : Answered header who from (stacks_of c seed parents).asks heads done to
