use Rattle.std.proofs.Common.{◌≡◌, ◌-◌}
use Rattle.session_model.specs.Stacks as model
use Rattle.routes.specs.Listed.{changesets_seen}
use Rattle.byte_fields.proofs.Run.{with_front}
use Rattle.routes.proofs.changeset_list.listed.Given as goal

-- what was read, with what is left to read, is what there is to read
abbrev pub invariant-loop : goal.invariant-loop
invariant-loop l = with_front (changesets_seen l.list.items) (model.listed (l.most - l.counter) l.rest) ≡ model.listed l.most l.bytes
