use Rattle.std.proofs.Common.{◌≡◌, map, take, codes, List, [], ◌∷◌, ℕ, Option, None, Some, Bor}
use Rattle.httparse.specs.Spans.{header_bytes}
use Rattle.http_model.specs.Head.{values_of}
use Rattle.http_wire.proofs.header_fields.caller_given.Given as goal

abbrev pub texts_found : Option (Bor (List ℕ)) → List (List ℕ)
texts_found None = []
texts_found (Some text) = text.now ∷ []

abbrev pub invariant-headers : goal.invariant-headers
invariant-headers l = values_of (codes "caller") (map (header_bytes l.bytes) (take l.header-index l.headers)) ≡ texts_found l.found
