use Rattle.std.proofs.Common.{Option, Bor, true, false, ap, sym, ◌∙◌}
use Rattle.std.specs.Prelude.{option_map, option_to_list}
use Rattle.std.specs.List.{list_any}
use Rattle.changeset_model.specs.Path.{Path, path_eq}
use Rattle.tree_fold.specs.declared.file.File.{File}
use Rattle.tree_fold.proofs.Ranges.{last_above, none_above}
use Rattle.byte_fields.proofs.Booleans.{or_false}
use Rattle.tree_fold.proofs.cleared.file_above.Goals as goal

pub returns-in_err-before : goal.returns-in_err-before
returns-in_err-before c = λ p.
    ap (λ (o : Option (Bor Path)). list_any (λ q. path_eq q p) (option_to_list (option_map (λ q. q.now) o))) c.from_residual.ensures
    ∙ none_above c.args.files.now c.args.path.now ((c.range.ensures.in_range tt).5 c.in_err-before.ensures.steps.0) p

pub returns-then-is_strict_prefix : goal.returns-then-is_strict_prefix
returns-then-is_strict_prefix c = λ p.
    let e : Path × File = (c.in_ok-before.before.now, c.in_ok-before.field-0-1.now) in
    let is = c.in_ok-before.ensures.steps in
    let ranges = c.range.ensures.in_range tt in
    or_false _ ∙ last_above c.args.files.now c.args.path.now e c.requires (ranges.3 e _ is) (ranges.4 e _ is) true (sym c.is_strict_prefix.ensures ∙ c.if-is_strict_prefix.true) p

pub returns-else-is_strict_prefix : goal.returns-else-is_strict_prefix
returns-else-is_strict_prefix c = λ p.
    let e : Path × File = (c.in_ok-before.before.now, c.in_ok-before.field-0-1.now) in
    let is = c.in_ok-before.ensures.steps in
    let ranges = c.range.ensures.in_range tt in
    last_above c.args.files.now c.args.path.now e c.requires (ranges.3 e _ is) (ranges.4 e _ is) false (sym c.is_strict_prefix.ensures ∙ c.if-is_strict_prefix.false) p
