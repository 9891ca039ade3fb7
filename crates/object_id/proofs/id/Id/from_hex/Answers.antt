use Rattle.std.proofs.Common.{sym, ap, ◌∙◌}
use Rattle.std.specs.Prelude.{is_ok}
use mathlib.Core.Bool.{true≢false}
use Rattle.object_id.specs.Hex.{hex_fault}
use Rattle.object_id.proofs.Digits.{no_fault}
use Rattle.object_id.proofs.id.Id.from_hex.Goals as goal

pub unreachable-requires : goal.unreachable-requires
unreachable-requires c =
    let fine = no_fault c.args.text.now (ap hex_fault (sym c.as_bytes.ensures.value) ∙ sym c.hex_fault_of.ensures ∙ c.in_default.is) in
    true≢false (sym fine ∙ ap is_ok (sym c.from_hex.ensures ∙ c.in-Err.is))
