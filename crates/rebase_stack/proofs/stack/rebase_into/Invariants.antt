use Rattle.std.proofs.Common.{◌≡◌, ◌++◌, drop, map}
use Rattle.std.specs.Arc.{arc_value}
use Rattle.history_model.specs.Pushrebase.{rewrite}
use Rattle.bonsai.specs.Encodings.{encodings}
use Rattle.rebase_stack.proofs.stack.rebase_into.Given as goal

-- what was made and written, with what is left on the last of it, is the stack on the head
abbrev pub invariant-stack : goal.invariant-stack
invariant-stack l = record {
  made : l.commits.items ++ rewrite (map arc_value (drop l.commit-index l.stack)) l.parent l.moment ≡ rewrite (map arc_value l.stack) l.fn.head l.moment;
  written : l.out.items ++ encodings (rewrite (map arc_value (drop l.commit-index l.stack)) l.parent l.moment) ≡ l.fn.out.items ++ encodings (rewrite (map arc_value l.stack) l.fn.head l.moment);
}
