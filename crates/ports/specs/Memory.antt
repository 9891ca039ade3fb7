-- Streams and openers over memory, each with a list of the calls that are to fail. Calls are counted from 0.
--     Supply, Store, Ends, Stock D      what a source, a sink, a link and an opener over memory are seen as
--     raised n      a count of 64 bits that was raised, if it isn't at its last value
--     read_len s room      how many bytes a read takes;  fits s len      whether a sink has room for a write
use Rattle.std.specs.Prelude.{ℕ, ◌+◌, ◌-◌, ◌^◌, ◌==◌, nat_le, Bool, List, length, min}
use Rattle.std.specs.List.{list_any}
use Rattle.ports.specs.Openers.{Shelf}

-- the bytes left, the most bytes of one read
pub record Supply : Type 0 where
  pub rest : List ℕ
  pub piece : ℕ
  pub failing : List ℕ
  pub calls : ℕ
  pub faults : ℕ

-- the bytes written, and the most that it has room for
pub record Store : Type 0 where
  pub written : List ℕ
  pub room : ℕ
  pub failing : List ℕ
  pub calls : ℕ
  pub faults : ℕ

pub record Ends : Type 0 where
  pub input : Supply
  pub output : Store

-- what stands under the names
pub record Stock (D : Type 0) : Type 0 where
  pub shelf : Shelf D
  pub failing : List ℕ
  pub calls : ℕ
  pub faults : ℕ

abbrev pub raised : ℕ → ℕ
raised n = min (n + 1) (2 ^ 64 - 1)

abbrev pub fails_at : List ℕ → ℕ → Bool
fails_at failing call = list_any (λ n. n == call) failing

abbrev pub read_len : Supply → ℕ → ℕ
read_len s room = min (min s.piece room) (length s.rest)

abbrev pub fits : Store → ℕ → Bool
fits s len = nat_le (length s.written + len) s.room
