use Rattle.std.proofs.Common.{◌≡◌, map, take, false}
use Rattle.std.specs.List.{list_any}
use Rattle.httparse.specs.Spans.{header_bytes}
use Rattle.http_model.specs.Head.{is_named}
use Rattle.http_wire.proofs.header_fields.has_header.Given as goal

abbrev pub invariant-headers : goal.invariant-headers
invariant-headers l = list_any (is_named l.name) (map (header_bytes l.bytes) (take l.header-index l.headers)) ≡ false
