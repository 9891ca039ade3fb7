use Rattle.std.proofs.Common.{◌≡◌, ◌⊎◌, ◌∙◌, rules, subst, sym, true}
use Rattle.ports.specs.Faults.{Rose}
use Rattle.command_line.proofs.Serving.{through_calm}
use Rattle.command_line.proofs.serve.serve_watched.Goals as goal

pub returns-clause-takes : goal.returns-clause-takes
returns-clause-takes g c = λ began.
    let closing = c.serve_all-closing in
    let parts = c.into_parts-accept in
    record {
      served_is = search rules;
      most = closing.ensures.share;
      grows = search rules;
      fault = λ failed. subst (λ n. Rose n (g.A.Accept.faults parts.result.0)) (sym c.requires.since) (parts.ensures.fault failed);
      through = λ calm. subst (λ a. (closing.result.served.count ≡ c.args.connections) ⊎ (g.A.Accept.over a ≡ true)) (sym parts.ensures.accept)
          (through_calm closing.result.served.count c.args.connections (g.A.Accept.over closing.result.accept.accept) _ closing.result.accept.failures (closing.ensures.through began) (parts.ensures.none calm));
      calm = λ calm. parts.ensures.calm calm ∙ sym c.requires.since;
    }
