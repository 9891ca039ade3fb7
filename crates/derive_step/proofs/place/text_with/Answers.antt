use Rattle.std.proofs.Common.{◌++◌, ◌∷◌, [], ap, ◌∙◌}
use Rattle.derive_step.proofs.Texts.{joined_elements}
use Rattle.derive_step.proofs.place.text_with.Goals as goal

pub returns : goal.returns
returns c =
    joined_elements c.args.dir.now c.extend_from_slice.new.self.items c.as_str.result.now c.args.name.now c.as_str.ensures.elements c.requires
    (c.in_ok-extend_from_slice.ensures.items ∙ ap (λ t. t ++ c.args.name.now) (c.in_ok-push.ensures.items ∙ ap (λ t. t ++ 0x2F ∷ []) (c.in_ok-text.ensures.items ∙ c.as_bytes.ensures.value)))
