use Rattle.std.proofs.Common.{◌≡◌, length}
use Rattle.http_model.specs.Head.{names_close}
use Rattle.http_wire.proofs.connection.names_close.Given as goal

abbrev pub invariant-elements : goal.invariant-elements
invariant-elements l = names_close l.rest ≡ names_close l.value

abbrev pub decreases-elements : goal.decreases-elements
decreases-elements l = length l.rest
