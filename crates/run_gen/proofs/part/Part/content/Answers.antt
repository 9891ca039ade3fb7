use Rattle.std.proofs.Common.{ap, arith}
use Rattle.std.specs.Prelude.{length}
use Rattle.std.proofs.lemmas.Fmt.{length-decimal-le}
use Rattle.run_gen.proofs.part.Part.content.Goals as goal

pub returns-clause-short : goal.returns-clause-short
returns-clause-short c =
    let few = c.requires in
    omega (arith, ap length c.in_ok-text.ensures.ok, length-decimal-le 6 c.args.self.now.number (omega arith) (omega arith) (omega arith))
