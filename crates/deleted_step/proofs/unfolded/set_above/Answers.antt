use Rattle.std.proofs.Common.{[], ◌∷◌, ◌++◌, ap, ◌∙◌}
use Rattle.changeset_model.specs.Path.{elements, is_path}
use Rattle.changeset_model.proofs.Accepting.{elements_some as some_elements}
use Rattle.deleted_step.specs.Texts.{left}
use Rattle.deleted_step.proofs.Texts.{front_path}
use Rattle.deleted_step.proofs.unfolded.set_above.Goals as goal

pub path_of-requires : goal.path_of-requires
path_of-requires c =
    front_path (elements c.as_str.result.now) (elements c.in-Some.above.now) (c.parted_last.result.1.now ∷ []) (ap is_path c.as_str.ensures.elements ∙ c.as_str.ensures.path)
    (c.parted_last.ensures ∙ ap (λ a. left a ++ c.parted_last.result.1.now ∷ []) c.in-Some.is) (some_elements c.in-Some.above.now)
