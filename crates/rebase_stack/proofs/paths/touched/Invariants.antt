use Rattle.std.proofs.Common.{◌≡◌, take, map}
use Rattle.std.specs.Prelude.{flat_map}
use Rattle.rebase_stack.proofs.paths.touched.Given as goal

-- the paths of the changesets so far, as they come
abbrev pub invariant-loop-changeset : goal.invariant-loop-changeset
invariant-loop-changeset l = map (λ p. p.now) l.paths.items ≡ flat_map (λ c. map (λ e. e.0) c.changes) (map (λ c. c.now) (take l.changeset-index l.stack))
