use Rattle.std.proofs.Common.{◌≡◌, ◌++◌, filter}
use Rattle.std.specs.Map.{keys_of}
use Rattle.changeset_model.specs.Path.{is_strict_prefix}
use Rattle.tree_fold.proofs.Ranges.{front}
use Rattle.tree_fold.proofs.cleared.push_under.Given as goal

-- what was appended, with what is left to append, is what is to be appended
abbrev pub invariant-loop-present : goal.invariant-loop-present
invariant-loop-present l = l.paths.items ++ keys_of (front l.path l.present-iterator) ≡ l.fn.paths.items ++ keys_of (filter (λ e. is_strict_prefix l.path e.0) l.files.entries)
