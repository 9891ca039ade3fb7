-- The paths of changesets, as a landing looks at them.
--     edited_paths cs      the paths that each sets or deletes, as they come
--     apart_checked paths cs      what the landing of a stack that touches these rising paths is refused for, over these changesets
use Rattle.std.specs.Prelude.{List, map, flat_map}
use Rattle.changeset_model.specs.Path.{Path, rising}
use Rattle.changeset_model.specs.Changeset.{Changeset}
use Rattle.history_model.specs.Pushrebase.{clash}
use Rattle.reply_model.specs.Reply as reply
use Rattle.reply_model.specs.Reply.{refuse_some}
use Rattle.repo_machine.specs.Landings.{Checked}

abbrev pub edited_paths : List Changeset → List Path
edited_paths cs = flat_map (λ c. map (λ e. e.0) c.changes) cs

abbrev pub apart_checked : List Path → List Changeset → Checked
apart_checked paths cs = refuse_some (clash paths (rising (edited_paths cs))) (λ pair. reply.Clash pair.0 pair.1)
