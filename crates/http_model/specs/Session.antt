-- The requests of a stream, and how its session ends.
--     Takes bytes requests rest      the bytes are these requests, none of which ends the session, and then the rest, but for empty lines before it
--     Requests bytes requests end      the requests that a session takes from these bytes, which are no more than it may read, and how it ends
use Rattle.std.specs.Prelude.{◌≡◌, ℕ, ◌<◌, ◌≤◌, true, false, List, [], ◌∷◌, ◌++◌, length}
use Rattle.http_model.specs.declared.head_refusal.HeadRefusal.{HeadRefusal}
use Rattle.http_model.specs.Refusals.{status_of}
use Rattle.http_model.specs.Stream.{Request, Next, Whole, Partial, Refuses, skip_blank, Begins}

-- the most bytes that one session reads
abbrev pub most_read : ℕ
most_read = 1073741824

pub data End : Type 0 where
  -- the input ended at a message's end
  Ended : End
  -- the last request asked for it
  Closed : End
  -- the input ended inside a message, of which this many bytes were read
  Cut : (read : ℕ) → End
  -- no message can begin here
  Refused : (status : ℕ) → End
  -- all that a session may read was read, and no whole message and no refusal stands first
  Spent : End

abbrev pub Takes : List ℕ → List Request → List ℕ → Type 0
Takes bytes [] rest = skip_blank bytes ≡ skip_blank rest
Takes bytes (request ∷ requests) rest = (after : List ℕ) × Begins bytes (Whole request after) × (request.close ≡ false) × Takes after requests rest

-- what stands after these requests
abbrev pub Leaves : List ℕ → List Request → Next → Type 0
Leaves bytes requests next = (rest : List ℕ) × Takes bytes requests rest × Begins rest next

abbrev pub Requests : List ℕ → List Request → End → Type 0
Requests bytes requests Ended = Leaves bytes requests (Partial 0) × (length bytes < most_read)
Requests bytes requests Closed = (before : List Request) × (last : Request) × (rest : List ℕ) × (requests ≡ before ++ last ∷ []) × Leaves bytes before (Whole last rest) × (last.close ≡ true) × (length bytes ≤ most_read)
Requests bytes requests (Cut read) = Leaves bytes requests (Partial read) × (0 < read) × (length bytes < most_read)
Requests bytes requests (Refused status) = (refusal : HeadRefusal) × Leaves bytes requests (Refuses refusal) × (status_of refusal ≡ status) × (length bytes ≤ most_read)
Requests bytes requests Spent = (read : ℕ) × Leaves bytes requests (Partial read) × (length bytes ≡ most_read)
