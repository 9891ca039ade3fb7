-- Places of payloads in the file of a journal.
--     HasRecords gate size payloads file      from this gate on it has open records of these, and then the closing gate, directly before size
--     spans_from gate payloads      where these payloads stand;  first_span gate payloads      the first of them
use Rattle.std.specs.Prelude.{◌≡◌, ℕ, ◌+◌, ◌<◌, ◌≤◌, ◌^◌, List, [], ◌∷◌, ◌++◌, length, drop, All, Option, None, Some}
use Rattle.repo_journal.specs.Payloads.{records}
use Rattle.repo_journal.specs.declared.span.Span.{Span}

-- it lies behind the header, within the file
pub record IsInside (size : ℕ) (span : Span) : Type 0 where
  pub behind : 21 ≤ span.at
  pub within : span.at + span.length ≤ size

pub record HasRecords (gate size : ℕ) (payloads : List (List ℕ)) (file : List ℕ) : Type 0 where
  -- a length has four bytes
  pub small : All (λ payload. length payload < 2 ^ 32) payloads
  pub rest : List ℕ
  pub is : drop gate file ≡ records payloads ++ rest
  pub size_is : size ≡ gate + length (records payloads) + 1

abbrev pub spans_from : ℕ → List (List ℕ) → List Span
spans_from gate [] = []
spans_from gate (payload ∷ payloads) = record { at = gate + 5; length = length payload } ∷ spans_from (gate + 5 + length payload) payloads

abbrev pub first_span : ℕ → List (List ℕ) → Option Span
first_span gate [] = None
first_span gate (payload ∷ payloads) = Some (record { at = gate + 5; length = length payload })
