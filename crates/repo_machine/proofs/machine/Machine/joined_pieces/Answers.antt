use Rattle.std.proofs.Common.{sym, ap, ◌∙◌}
use Rattle.std.specs.Prelude.{option_map}
use Rattle.repo_machine.proofs.Apart.{all_placed}
use Rattle.repo_machine.proofs.machine.Machine.joined_pieces.Goals as goal

pub placed-requires : goal.placed-requires
placed-requires c =
    all_placed _ _ c.self.invariant.1.legal c.self.inside.contents c.self.invariant.1.lengths_are c.self.invariant.5 c.args.id.now c.in-Some.parts.now (sym c.joined.ensures ∙ ap (option_map (λ parts. parts.now)) c.in-Some.is)
