-- Going over the records of a file.
--     step_at file gate      what stands at a gate of a file, by the definition of opening
--     payload_at file span      the bytes at these places
--     IsNext gate size step      what stands there lies in a file of this size
--     Window      what a scanner is seen as;  Holds w file      its bytes are those of the file;  IsHeld w span      they cover these places
--     Grew count old new      bytes that got so many more behind them;  HasLetGo from at old new      bytes without those before a place
use Rattle.std.specs.Prelude.{◌≡◌, ◌⊎◌, ℕ, ◌+◌, ◌-◌, ◌≤◌, ◌<◌, ◌^◌, ◌==◌, nat_lt, if◌then◌else◌, List, [], ◌∷◌, length, take, drop, slice_index}
use Rattle.std.specs.Int.{w32, from_be_bytes}
use Rattle.repo_journal.specs.declared.header.TheConstants.{FIRST_GATE}
use Rattle.repo_journal.specs.declared.span.Span.{Span}
use Rattle.repo_journal.specs.declared.step.Step.{Step}
use Rattle.repo_journal.specs.declared.step.Step.TheVariants.{Closed, Record, Bad}

-- a record of this length, where so many bytes are left for it
abbrev pub sized_step : ℕ → ℕ → ℕ → Step
sized_step gate len left = if nat_lt left len then Bad gate else Record (record { at = gate + 5; length = len })

-- the bytes behind an open gate are a length of four bytes, and a payload
abbrev pub open_step : ℕ → List ℕ → Step
open_step gate bytes = if nat_lt (length bytes) 4 then Bad gate else sized_step gate (from_be_bytes w32 (take 4 bytes)) (length bytes - 4)

-- the bytes from the gate on
abbrev pub step_of : ℕ → List ℕ → Step
step_of gate [] = Bad gate
step_of gate (mark ∷ bytes) = if mark == 1 then open_step gate bytes else Closed

abbrev pub step_at : List ℕ → ℕ → Step
step_at file gate = step_of gate (drop gate file)

-- the bytes of a payload
abbrev pub payload_at : List ℕ → Span → List ℕ
payload_at file span = take span.length (drop span.at file)

-- the same by the first five bytes, and how many stand behind the gate
abbrev pub head_step : ℕ → List ℕ → ℕ → Step
head_step gate head behind =
    if slice_index head 0 == 1
    then (if nat_lt behind 4 then Bad gate else sized_step gate (from_be_bytes w32 (take 4 (drop 1 head))) (behind - 4))
    else Closed

-- where the next gate stands
abbrev pub gate_after : ℕ → Step → ℕ
gate_after gate Closed = gate
gate_after gate (Record span) = span.at + span.length
gate_after gate (Bad at) = gate

-- a record that is passed lies in the file, and the next gate not behind its end
abbrev pub IsNext : ℕ → ℕ → Step → Type 0
IsNext gate size Closed = gate < size
IsNext gate size (Record span) = (span.at ≡ gate + 5) × (span.at + span.length ≤ size)
IsNext gate size (Bad at) = at ≡ gate

-- the bytes that are held, with the place of the first, the gate that is next, and how far the file reaches
pub record Window : Type 0 where
  pub bytes : List ℕ
  pub from : ℕ
  pub gate : ℕ
  pub size : ℕ

pub record IsInFile (bytes : List ℕ) (from gate size : ℕ) : Type 0 where
  pub ends : from + length bytes ≤ size
  pub behind : FIRST_GATE ≤ gate
  pub small : size < 2 ^ 63

abbrev pub Holds : Window → List ℕ → Type 0
Holds w file = w.bytes ≡ take (length w.bytes) (drop w.from file)

pub record IsHeld (w : Window) (span : Span) : Type 0 where
  pub begins : w.from ≤ span.at
  pub ends : span.at + span.length ≤ w.from + length w.bytes

pub record Grew (count : ℕ) (old new : List ℕ) : Type 0 where
  pub len : length new ≡ length old + count
  pub front : take (length old) new ≡ old

abbrev pub HasLetGo : ℕ → ℕ → List ℕ → List ℕ → Type 0
HasLetGo from at old new = (new ≡ []) ⊎ ((from ≤ at) × (new ≡ drop (at - from) old))
