-- What stands first in bytes, as far as its head goes.
use Rattle.std.specs.Prelude.{◌≡◌, ℕ, ◌<◌, ◌≤◌, false, List, take, length, IsUtf8}
use Rattle.httparse.specs.declared.spans.RequestSpans.{RequestSpans}
use Rattle.httparse.specs.Grammar.{IsToken}
use Rattle.httparse.specs.Spans.{span_bytes, IsWithin}
use Rattle.http_model.specs.Head as model
use Rattle.http_model.specs.Stream.{Refuses, ends_head, IsHeadEnd, most_head, Stands}
use Rattle.http_wire.specs.Judging.{Frames}
use Rattle.http_wire.specs.declared.head.Framing.{Framing}
use Rattle.http_wire.specs.declared.head_outcome.HeadOutcome.{HeadOutcome}
use Rattle.http_wire.specs.declared.head_outcome.HeadOutcome.TheVariants.{Unfinished, Refused, Head}

-- the first len bytes are a head that passes its tests, with its parts at these places
pub record HasGoodHead (bytes : List ℕ) (len : ℕ) (spans : RequestSpans) (framing : Framing) : Type 0 where
  pub end : IsHeadEnd bytes len
  pub fits : len ≤ most_head
  pub head : model.Head
  pub reads : model.IsHead (take len bytes) head
  pub frames : Frames head framing
  pub method : span_bytes (take len bytes) spans.method ≡ head.method
  pub method_within : IsWithin len spans.method
  pub token : IsToken head.method
  pub target : span_bytes (take len bytes) spans.path ≡ head.target
  pub target_within : IsWithin len spans.path
  pub text : IsUtf8 head.target
  pub minor : spans.version ≡ head.minor
  pub version : spans.version ≤ 1

-- no front that is as short as a head ends in an empty line, and one may still come
pub record MayBecomeHead (bytes : List ℕ) : Type 0 where
  pub none : (n : ℕ) → n ≤ most_head → ends_head (take n bytes) ≡ false
  pub short : length bytes < most_head

abbrev pub StandsFirst : List ℕ → HeadOutcome → Type 0
StandsFirst bytes Unfinished = MayBecomeHead bytes
StandsFirst bytes (Refused refusal) = Stands bytes (Refuses refusal)
StandsFirst bytes (Head len spans framing) = HasGoodHead bytes len spans framing
