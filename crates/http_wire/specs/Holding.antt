-- What a cutter holds.
use Rattle.std.specs.Prelude.{◌≡◌, ℕ, ◌+◌, ◌<◌, ◌≤◌, false, List, ◌++◌, length, take, drop, vec_capacity}
use Rattle.http_model.specs.Stream.{Partial, ends_head, skip_blank, Stands}
use Rattle.http_wire.specs.declared.cutter.TheConstants.{MOST_PIECE, MOST_REQUEST}
use Rattle.http_wire.specs.declared.head.TheConstants.{HEADER_ROOM}
use Rattle.http_wire.specs.declared.cutter.Cutter.TheInside.{Inside}

-- the bytes that are not consumed
abbrev pub held : Inside → List ℕ
held cutter = drop cutter.start cutter.bytes.items

-- no request and no refusal stands first, as long as there are fewer bytes than these
abbrev pub Awaits : List ℕ → ℕ → Type 0
Awaits bytes wanted = (more : List ℕ) → length (bytes ++ more) < wanted → (skip_blank (bytes ++ more) ≡ bytes ++ more) × Stands (bytes ++ more) (Partial (length (bytes ++ more)))

pub record IsHolding (cutter : Inside) : Type 0 where
  pub start : cutter.start ≤ length cutter.bytes.items
  pub room : MOST_REQUEST + MOST_PIECE ≤ vec_capacity cutter.bytes
  pub headers : HEADER_ROOM ≤ vec_capacity cutter.headers
  pub scanned : cutter.scanned ≤ length (held cutter)
  pub none : (n : ℕ) → n ≤ cutter.scanned → ends_head (take n (held cutter)) ≡ false
  pub awaits : Awaits (held cutter) cutter.wanted
  pub most : cutter.wanted ≤ MOST_REQUEST
