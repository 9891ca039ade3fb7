use Rattle.std.proofs.Common.{◌≡◌, ℕ, ◌≤◌, ◌+◌, ◌*◌, drop, length, map, true}
use Rattle.std.specs.Arc.{arc_value}
use Rattle.byte_fields.specs.Bytes.{Id, is_bytes}
use Rattle.history_model.specs.Pushrebase.{rewrite}
use Rattle.bonsai.specs.Encodings.{encodings}
use Rattle.rebase_stack.proofs.stack.rebased_length.Given as goal

-- the length so far and that of the rest
abbrev pub invariant-stack : goal.invariant-stack
invariant-stack l = record {
  sum : (head : Id) (moment : ℕ) → is_bytes 32 head ≡ true → l.bytes + length (encodings (rewrite (map arc_value (drop l.commit-index l.stack)) head moment)) ≡ length (encodings (rewrite (map arc_value l.stack) head moment));
  short : l.bytes ≤ 268_435_456 * l.commit-index;
}
