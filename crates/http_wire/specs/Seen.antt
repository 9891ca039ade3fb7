-- A request as the definitions see it.
use Rattle.std.specs.Prelude.{ℕ, List}
use Rattle.std.specs.String.{string_bytes}
use Rattle.httparse.specs.declared.spans.RequestSpans.{RequestSpans}
use Rattle.httparse.specs.Spans.{span_bytes}
use Rattle.http_model.specs.Stream as model
use Rattle.http_wire.specs.Callers.{caller_told, caller_seen}
use Rattle.http_wire.specs.declared.head.Framing.{Framing}
use Rattle.http_wire.specs.declared.request.Version.{Version}
use Rattle.http_wire.specs.declared.request.Version.TheVariants.{Http10, Http11}
use Rattle.http_wire.specs.declared.request.Request.{Request}

abbrev pub minor_of : Version → ℕ
minor_of Http10 = 0
minor_of Http11 = 1

abbrev pub seen : Request → model.Request
seen request = record {
  method = request.method;
  target = string_bytes request.target;
  minor = minor_of request.version;
  caller = caller_seen request.caller;
  close = request.close;
  body = request.body.items;
}

-- the request whose parts stand at these places of its head, with what else the head asks for
abbrev pub request_at : List ℕ → RequestSpans → Framing → List ℕ → model.Request
request_at head spans framing body = record {
  method = span_bytes head spans.method;
  target = span_bytes head spans.path;
  minor = spans.version;
  caller = caller_told framing.caller;
  close = framing.close;
  body = body;
}
