use Rattle.std.proofs.Common.{sym, ◌∙◌}
use Rattle.std.specs.Cmp.Lexicographic.{nat_list_cmp_total}
use Rattle.std.proofs.lemmas.Map.Lookups.{exact_bytes}
use Rattle.std.proofs.lemmas.Map.Views.{btree_map_contains_key_iff}
use Rattle.repo_machine.proofs.Growing.{is_put, none_put}
use Rattle.repo_machine.proofs.preparing.place_name.Goals as goal

pub returns-then-contains_key-clause-placed : goal.returns-then-contains_key-clause-placed
returns-then-contains_key-clause-placed c = (btree_map_contains_key_iff nat_list_cmp_total exact_bytes c.args.heads.now c.args.name.now).0 (sym c.contains_key.ensures ∙ c.if-contains_key.true)

pub returns-clause-heads : goal.returns-clause-heads
returns-clause-heads c = none_put _ _ c.in_ok-copy.field-0 c.args.name.now c.in_ok-copy.ensures (sym c.contains_key.ensures ∙ c.if-contains_key.false) c.in_ok-insert.ensures.updates.0

pub returns-clause-placed : goal.returns-clause-placed
returns-clause-placed c = (btree_map_contains_key_iff nat_list_cmp_total exact_bytes c.insert.new.self c.args.name.now).0 (is_put _ _ c.in_ok-copy.field-0 c.args.name.now _ c.in_ok-copy.ensures c.in_ok-insert.ensures.updates.0)
