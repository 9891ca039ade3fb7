use Rattle.std.proofs.Common.{◌≡◌, drop}
use Rattle.repo_state.specs.Asking.{other_part}
use Rattle.repo_state.proofs.read_content.first_other.Given as goal

abbrev pub invariant-loop-part : goal.invariant-loop-part
invariant-loop-part l = other_part l.parts l.bytes ≡ other_part (drop l.part-index l.parts) l.rest
