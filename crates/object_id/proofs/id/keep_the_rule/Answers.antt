use Rattle.std.proofs.Common.{length, arith}
use Rattle.std.proofs.lemmas.Bool.{and_from, eq-eqb}
use Rattle.byte_fields.proofs.FieldLemmas.{all_bytes}
use Rattle.object_id.proofs.id.keep_the_rule.Goals as goal

pub returns : goal.returns
returns c = let bytes = c.args.bytes.now in and_from _ _ (eq-eqb (length bytes) 32 c.requires) (all_bytes bytes (λ i. omega (arith, c.type_inv.bytes i)))
