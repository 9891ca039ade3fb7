use Rattle.std.proofs.Common.{◌≡◌, ◌++◌, take, map}
use Rattle.rebase_stack.proofs.paths.push_paths.Given as goal

-- the paths of the edits so far stand behind the others
abbrev pub invariant-loop-edit : goal.invariant-loop-edit
invariant-loop-edit l = map (λ p. p.now) l.paths.items ≡ map (λ p. p.now) l.fn.paths.items ++ map (λ e. e.path) (take l.edit-index l.edits)
