-- What the tests of a head say, seen at the spans of its parts.
use Rattle.std.specs.Prelude.{◌≡◌, ◌≤◌, ℕ, List, map, None, Some, Result, Ok, Err}
use Rattle.httparse.specs.declared.spans.HeaderSpan.{HeaderSpan}
use Rattle.httparse.specs.declared.spans.RequestSpans.{RequestSpans}
use Rattle.httparse.specs.Spans.{span_bytes, header_bytes}
use Rattle.http_model.specs.declared.head_refusal.HeadRefusal.{HeadRefusal}
use Rattle.http_model.specs.Head.{Head, caller_of, closes, lengths_of, body_length, most_body, refusal_of}
use Rattle.http_wire.specs.Callers.{caller_told}
use Rattle.http_wire.specs.declared.head.Framing.{Framing}

-- the head whose parts stand at these places
abbrev pub seen_head : List ℕ → RequestSpans → List HeaderSpan → Head
seen_head bytes spans headers = record {
  method = span_bytes bytes spans.method;
  target = span_bytes bytes spans.path;
  minor = spans.version;
  headers = map (header_bytes bytes) headers;
}

-- the head passes its tests, and asks for this
pub record Frames (head : Head) (framing : Framing) : Type 0 where
  pub passes : refusal_of head ≡ None
  pub body : framing.body ≡ body_length (lengths_of head)
  pub most : framing.body ≤ most_body
  pub caller : caller_told framing.caller ≡ caller_of head
  pub close : framing.close ≡ closes head

abbrev pub Judges : Head → Result Framing HeadRefusal → Type 0
Judges head (Ok framing) = Frames head framing
Judges head (Err refusal) = refusal_of head ≡ Some refusal
