use Rattle.std.proofs.Common.{◌≡◌, Err, true, sym, ap, ◌∙◌}
use Rattle.std.specs.Option.{is_none}
use Rattle.history_model.specs.Bookmark.{is_name}
use Rattle.run_gen.proofs.names.name.Goals as goal

pub unreachable-requires : goal.unreachable-requires
unreachable-requires c =
    let bad = (c.parse.ensures.bad c.in-Err-BadName.field-0-0).0 (c.in-Err-BadName.is ∙ ap Err c.in-Err-BadName.field-0-is) in
    let fine : is_name c.args.text.now ≡ true = c.requires in
    let none = sym fine ∙ ap is_none bad in
    cc
