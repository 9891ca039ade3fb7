use Rattle.std.proofs.Common.{◌≡◌, ◌+◌, true, cond, None}
use Rattle.std.specs.Prelude.{IfSome}
use Rattle.std.specs.Option.{option_and_then, option_map_or}
use Rattle.node_table.specs.Table.{is_settled}
use Rattle.manifest_store.specs.PathLines.{has_file_at, last_logged_at}
use Rattle.manifest_store.proofs.links.SettledLinesLines.file_link.Given as goal

-- what was logged last is what was at the next, which has a file
abbrev pub invariant-ends : goal.invariant-ends
invariant-ends l = record {
  told : option_and_then (last_logged_at l.self.changesets.now.known l.path) l.next ≡ cond (has_file_at l.self.changesets.now.known l.path l.at) (last_logged_at l.self.changesets.now.known l.path l.at) None;
  settled : IfSome l.next (λ n. is_settled l.self.table.now n ≡ true);
  file : IfSome l.next (λ n. has_file_at l.self.changesets.now.known l.path n ≡ true);
}

abbrev pub decreases-ends : goal.decreases-ends
decreases-ends l = option_map_or (λ n. n + 1) l.next 0
