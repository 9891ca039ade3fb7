use Rattle.std.proofs.Common.{[]}
use Rattle.changeset_model.specs.Path.{elements}
use Rattle.derive_step.specs.Places.{dir_of}
use Rattle.derive_step.proofs.Paths.{goes_on, none_gives, rest_gives}
use Rattle.derive_step.proofs.place.place_in.Goals as goal

pub returns-in-None : goal.returns-in-None
returns-in-None c = goes_on (dir_of c.args.dir) c.args.path.now c.in-Some.text.now c.parted.result.0.now [] c.in-Some.ensures.inside (none_gives c.parted.result.1 c.in-None.is c.parted.ensures.alone) c.text_in.ensures.path

pub returns-in-Some-rest : goal.returns-in-Some-rest
returns-in-Some-rest c = goes_on (dir_of c.args.dir) c.args.path.now c.in-Some.text.now c.parted.result.0.now (elements c.in-Some-rest.rest.now) c.in-Some.ensures.inside (rest_gives c.in-Some.text.now c.parted.result.0.now c.parted.result.1 c.in-Some-rest.rest c.in-Some-rest.is c.parted.ensures.more) c.text_in.ensures.path
