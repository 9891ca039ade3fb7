use Rattle.std.proofs.Common.{ap}
use Rattle.std.specs.Prelude.{option_map}
use Rattle.derive_step.specs.Views.{before_seen}
use Rattle.derive_step.specs.Renewal.{before_of}
use Rattle.manifest_store.specs.Reads.{dir_of}
use Rattle.manifest_store.proofs.Gathered.{full_none, not_there, are_after, more_after, full_after, there_after}
use Rattle.manifest_store.proofs.dirs.add_dir.Goals as goal

pub returns-in_default-clause-full : goal.returns-in_default-clause-full
returns-in_default-clause-full c =
    full_none c.args.table.now.nodes (before_seen c.args.root.now) c.args.dirs.now c.requires.dirs (dir_of c.args.above) c.args.here.now c.args.name.now c.requires.here c.requires.above (option_map before_seen c.in_ok-nodes.field-0) (before_of c.nodes_at.result) c.nodes_at.ensures c.in_ok-nodes.ensures
    (ap (option_map before_seen) c.in_default.is)

pub returns-in_default-clause-there : goal.returns-in_default-clause-there
returns-in_default-clause-there c =
    not_there c.args.table.now.nodes (before_seen c.args.root.now) c.args.dirs.now c.requires.dirs (dir_of c.args.above) c.args.here.now c.args.name.now c.requires.here c.requires.above (option_map before_seen c.in_ok-nodes.field-0) (before_of c.nodes_at.result) c.nodes_at.ensures c.in_ok-nodes.ensures
    (ap (option_map before_seen) c.in_default.is)

pub returns-clause-dirs : goal.returns-clause-dirs
returns-clause-dirs c =
    are_after c.args.table.now.nodes (before_seen c.args.root.now) c.args.dirs.now c.requires.dirs (dir_of c.args.above) c.args.here.now c.args.name.now c.requires.here c.requires.above (option_map before_seen c.in_ok-nodes.field-0) (before_of c.nodes_at.result) c.nodes_at.ensures c.in_ok-nodes.ensures
    c.in-Some.nodes c.in_ok-copy.field-0 c.in_ok-copy.ensures c.insert.new.self c.in_ok-insert.ensures.updates (ap (option_map before_seen) c.in-Some.is)

pub returns-clause-more : goal.returns-clause-more
returns-clause-more c =
    more_after c.args.table.now.nodes (before_seen c.args.root.now) c.args.dirs.now c.requires.dirs (dir_of c.args.above) c.args.here.now c.args.name.now c.requires.here c.requires.above (option_map before_seen c.in_ok-nodes.field-0) (before_of c.nodes_at.result) c.nodes_at.ensures c.in_ok-nodes.ensures
    c.in-Some.nodes c.in_ok-copy.field-0 c.in_ok-copy.ensures c.insert.new.self c.in_ok-insert.ensures.updates (ap (option_map before_seen) c.in-Some.is)

pub returns-clause-full : goal.returns-clause-full
returns-clause-full c =
    full_after c.args.table.now.nodes (before_seen c.args.root.now) c.args.dirs.now c.requires.dirs (dir_of c.args.above) c.args.here.now c.args.name.now c.requires.here c.requires.above (option_map before_seen c.in_ok-nodes.field-0) (before_of c.nodes_at.result) c.nodes_at.ensures c.in_ok-nodes.ensures
    c.in-Some.nodes c.in_ok-copy.field-0 c.in_ok-copy.ensures c.insert.new.self c.in_ok-insert.ensures.updates (ap (option_map before_seen) c.in-Some.is)

pub returns-clause-there : goal.returns-clause-there
returns-clause-there c =
    there_after c.args.table.now.nodes (before_seen c.args.root.now) c.args.dirs.now c.requires.dirs (dir_of c.args.above) c.args.here.now c.args.name.now c.requires.here c.requires.above (option_map before_seen c.in_ok-nodes.field-0) (before_of c.nodes_at.result) c.nodes_at.ensures c.in_ok-nodes.ensures
    c.in-Some.nodes c.in_ok-copy.field-0 c.in_ok-copy.ensures c.insert.new.self c.in_ok-insert.ensures.updates (ap (option_map before_seen) c.in-Some.is)
