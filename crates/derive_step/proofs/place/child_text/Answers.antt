use Rattle.derive_step.proofs.Texts.{text_alone}
use Rattle.derive_step.proofs.place.child_text.Goals as goal

pub returns-in-None : goal.returns-in-None
returns-in-None c = text_alone c.args.dir c.from_slice.result c.args.name.now c.in-None.is c.requires c.from_slice.ensures.items
