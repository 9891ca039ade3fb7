use Rattle.std.proofs.Common.{◌≡◌, true, subst}
use Rattle.repository_tests.proofs.steps.found_for.Goals as goal
