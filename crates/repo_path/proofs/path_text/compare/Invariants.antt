use Rattle.std.proofs.Common.{◌≡◌, drop}
use Rattle.repo_path.proofs.Order.{text_cmp}
use Rattle.repo_path.proofs.path_text.compare.Given as goal

-- so far the texts are the same, and what is left tells the order
abbrev pub invariant-loop-i : goal.invariant-loop-i
invariant-loop-i l = text_cmp (drop l.i l.left) (drop l.i l.right) ≡ text_cmp l.left l.right
