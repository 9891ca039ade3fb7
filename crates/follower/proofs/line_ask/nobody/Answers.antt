use Rattle.std.proofs.Common.{◌≡◌, ℕ, None, Some, Err, refl, sym, ap, ◌∙◌}
use Rattle.history_model.specs.Bookmark.{name_fault}
use Rattle.reply_model.specs.Opening.{nobody}
use Rattle.follower.proofs.line_ask.nobody.Goals as goal

none_at : name_fault nobody ≡ None
none_at = refl

is_name : (at : ℕ) → name_fault nobody ≡ Some at → ⊥
is_name at e = let none : None ≡ Some at = sym none_at ∙ e in absurd cc

pub unreachable-requires : goal.unreachable-requires
unreachable-requires c = is_name c.in-Err-BadName.field-0-0 ((c.in-Err-BadName.ensures.bad c.in-Err-BadName.field-0-0).0 (ap Err c.in-Err-BadName.field-0-is))
