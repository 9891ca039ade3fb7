use Rattle.std.proofs.Common.{◌++◌, ◌∷◌, [], ap, ◌∙◌, append_assoc}
use Rattle.derive_step.proofs.renewal.put_nodes.Goals as goal

pub returns-clause-nodes : goal.returns-clause-nodes
returns-clause-nodes c =
    let old = c.args.nodes.now.items in
    let first = c.in_ok-encode.field-0.items in
    let second = c.in_ok-encode-2.field-0.items in
    c.in_ok-unode.ensures.nodes
    ∙ ap (λ ns. ns ++ second ∷ []) c.in_ok-fsnode.ensures.nodes
    ∙ append_assoc old (first ∷ []) (second ∷ [])
    ∙ (λ i. old ++ c.in_ok-encode.ensures.spelling i ∷ c.in_ok-encode-2.ensures.spelling i ∷ [])
