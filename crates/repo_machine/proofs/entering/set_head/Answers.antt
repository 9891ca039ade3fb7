use Rattle.std.proofs.Common.{sym, ap, ◌∙◌}
use Rattle.std.specs.Prelude.{is_some}
use mathlib.Core.Bool.{true≢false}
use Rattle.std.specs.Cmp.Lexicographic.{nat_list_cmp_total}
use Rattle.std.proofs.lemmas.Map.Lookups.{exact_bytes}
use Rattle.std.proofs.lemmas.Map.Views.{btree_map_contains_key_iff}
use Rattle.repo_machine.proofs.entering.set_head.Goals as goal

-- the bookmark has a place
pub returns-in_default : goal.returns-in_default
returns-in_default c = absurd (true≢false (sym ((btree_map_contains_key_iff nat_list_cmp_total exact_bytes c.args.heads.now c.args.name.now).1 c.requires) ∙ ap is_some (sym c.in_default.ensures.value)))
