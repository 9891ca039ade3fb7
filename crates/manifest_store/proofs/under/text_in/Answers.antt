use Rattle.std.proofs.Common.{◌++◌, ◌∷◌, [], sym, ap, ◌∙◌}
use Rattle.changeset_model.specs.Path.{elements}
use Rattle.manifest_store.specs.Reads.{dir_of}
use Rattle.manifest_store.proofs.Levels.{joined_elements, one_element}
use Rattle.manifest_store.proofs.under.text_in.Goals as goal

pub returns-in_default : goal.returns-in_default
returns-in_default c =
    ap elements (c.in_ok-from_slice.ensures.items ∙ c.as_bytes.ensures.bytes)
    ∙ one_element c.args.name.now c.as_bytes.ensures.element
    ∙ ap (λ dir. dir_of dir ++ c.args.name.now ∷ []) (sym c.in_default.is)

pub returns : goal.returns
returns c =
    joined_elements c.in-Some.dir.now c.extend_from_slice.new.self.items c.as_str.result.now c.args.name.now c.as_str.ensures.elements c.as_bytes-3.ensures.element
    (c.in_ok-extend_from_slice.ensures.items ∙ (λ i. c.push.new.self.items ++ c.as_bytes-3.ensures.bytes i) ∙ ap (λ t. t ++ c.args.name.now) (c.in_ok-push.ensures.items ∙ ap (λ t. t ++ 0x2F ∷ []) (c.in_ok-text.ensures.items ∙ c.as_bytes-2.ensures.value)))
    ∙ ap (λ dir. dir_of dir ++ c.args.name.now ∷ []) (sym c.in-Some.is)
