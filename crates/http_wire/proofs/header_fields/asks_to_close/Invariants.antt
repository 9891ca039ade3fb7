use Rattle.std.proofs.Common.{◌≡◌, map, take, false, codes}
use Rattle.std.specs.List.{list_any}
use Rattle.httparse.specs.Spans.{header_bytes}
use Rattle.http_model.specs.Head.{values_of, names_close}
use Rattle.http_wire.proofs.header_fields.asks_to_close.Given as goal

abbrev pub invariant-headers : goal.invariant-headers
invariant-headers l = list_any names_close (values_of (codes "connection") (map (header_bytes l.bytes) (take l.header-index l.headers))) ≡ false
