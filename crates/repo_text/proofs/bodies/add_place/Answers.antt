use Rattle.std.proofs.Common.{ap, take, codes, ◌-◌, ◌++◌, ◌∙◌}
use Rattle.std.specs.Prelude.{decimal}
use Rattle.repo_text.proofs.Added.{three_added}
use Rattle.repo_text.proofs.bodies.add_place.Goals as goal

pub returns-clause-items : goal.returns-clause-items
returns-clause-items c =
    three_added _ _ (decimal c.args.at) _ _ _ _ c.put.ensures.items (c.put-2.ensures.items ∙ ap (λ l. c.put.new.out.items ++ l) (c.as_bytes.ensures.value ∙ c.format.ensures.text)) c.put-3.ensures.items
    ∙ ap (λ l. l ++ (codes ",\"at\":" ++ (decimal c.args.at ++ codes "}"))) (c.pop.ensures.rest ∙ ap (λ n. take (n - 1) c.args.body.now.items) c.args.body.now.ok.0)
