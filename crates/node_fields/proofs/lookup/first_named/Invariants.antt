use Rattle.std.proofs.Common.{◌≡◌, ◌-◌}
use Rattle.node_fields.specs.Lookup.{named_in}
use Rattle.node_fields.proofs.lookup.first_named.Given as goal

-- what is left has the same under the name as all
abbrev pub invariant-looking : goal.invariant-looking
invariant-looking g l = named_in g.E.Entry.reader (l.count - l.counter) l.name l.left ≡ named_in g.E.Entry.reader l.count l.name l.bytes
