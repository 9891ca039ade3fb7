use Rattle.std.proofs.Common.{arith}
use Rattle.manifest_model.proofs.Decoded.{manifest_valid}
use Rattle.unode.specs.Parts.{manifest_of_parts}
use Rattle.unode.proofs.reading.manifest_at.Goals as goal

pub invariant_of-manifest : goal.invariant_of-manifest
invariant_of-manifest c =
    let p = c.in_ok-parents in
    record { valid = manifest_valid c.args.bytes.now (manifest_of_parts p.parents p.linknode p.entries) p.rest.now (λ i. omega (arith, c.type_inv.bytes i)) p.ensures }
