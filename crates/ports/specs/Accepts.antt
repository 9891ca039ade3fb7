-- What an accept gives.
--     is_link answer      whether the answer is a link;  is_end answer      whether it says that no more will come
--     Queue L      what an accept over memory is seen as
use Rattle.std.specs.Prelude.{ℕ, Bool, true, false, List, Option, None, Some, Result, Ok, Err}

abbrev pub is_link : {L E : Type 0} → Result (Option L) E → Bool
is_link (Ok (Some link)) = true
is_link (Ok None) = false
is_link (Err e) = false

abbrev pub is_end : {L E : Type 0} → Result (Option L) E → Bool
is_end (Ok (Some link)) = false
is_end (Ok None) = true
is_end (Err e) = false

-- the links left in order, how many were given, and whether it has answered that no more will come
pub record Queue (L : Type 0) : Type 0 where
  pub links : List L
  pub failing : List ℕ
  pub calls : ℕ
  pub faults : ℕ
  pub given : ℕ
  pub over : Bool
