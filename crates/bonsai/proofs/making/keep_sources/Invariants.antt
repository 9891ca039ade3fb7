use Rattle.std.proofs.Common.{◌≡◌, drop}
use Rattle.bonsai.specs.Making.{keep_sources}
use Rattle.bonsai.specs.Versions.{version_view}
use Rattle.bonsai.specs.View.{edits_view}
use Rattle.bonsai.proofs.making.keep_sources.Given as goal

-- what is left tells the answer
abbrev pub invariant-loop-edit : goal.invariant-loop-edit
invariant-loop-edit l = keep_sources (version_view l.place.version) l.place.parents (edits_view (drop l.edit-index l.edits)) ≡ keep_sources (version_view l.place.version) l.place.parents (edits_view l.edits)
