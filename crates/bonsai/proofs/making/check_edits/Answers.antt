use Rattle.std.proofs.Common.{◌≡◌, true, length, sym, ◌∙◌, arith}
use Rattle.std.specs.Prelude.{nat_le}
use Rattle.std.proofs.lemmas.Bool.{le-leb, and_from}
use Rattle.std.proofs.lemmas.List.{length-map}
use Rattle.bonsai.specs.Versions.{version_view}
use Rattle.bonsai.specs.View.{edit_view, edits_view}
use Rattle.bonsai.proofs.Rules.{edits_keep}
use Rattle.bonsai.proofs.making.check_edits.Goals as goal

pub returns-clause-rules : goal.returns-clause-rules
returns-clause-rules c =
    let es = edits_view c.args.edits.now in
    let len = length-map c.args.edits.now edit_view in
    let few : nat_le (length es) 4096 ≡ true = le-leb (length es) 4096 (omega arith) in
    let each = edits_keep (version_view c.args.place.version) c.args.place.parents es (sym c.keep_sizes.ensures ∙ c.if-not-keep_sizes.false) (sym c.keep_sources.ensures ∙ c.if-not-keep_sources.false) in
    and_from _ _ (and_from _ _ few each) (sym c.are_rising.ensures ∙ c.if-not-are_rising.false)
