use Rattle.manifest_store.proofs.Taken.{adds_none, adds_copy, taken_above, taken_under, taken_nowhere, itself_new, itself_old, found_none, found_file, found_dir, then_same, then_that, deep_path, past_there}
use Rattle.manifest_store.proofs.moves.add_set.Goals as goal

pub returns-in_default-clause-gone : goal.returns-in_default-clause-gone
returns-in_default-clause-gone c = λ past s.
    let q = c.args.path.now in
    let none = found_none past q c.entry_before.result c.in_default.is (c.entry_before.ensures.entry past s) in
    then_same c.add_file_above.result _ _ c.args.moved.now.gone.items c.add_file_above.new.gone.items (λ p. taken_above past s.right q p none.1) (c.add_file_above.ensures past s)

pub returns-in_default-clause-come : goal.returns-in_default-clause-come
returns-in_default-clause-come c = λ past s.
    let q = c.args.path.now in
    let none = found_none past q c.entry_before.result c.in_default.is (c.entry_before.ensures.entry past s) in
    then_that c.add_file_above.result
    (adds_copy _ c.args.moved.now.come.items c.push.new.self.items q c.in_ok-copy.field-0 c.in_ok-push.ensures.items c.in_ok-copy.ensures (λ p. itself_new past s.right q p none.0))

pub returns-in_default-dir_id-clause-gone : goal.returns-in_default-dir_id-clause-gone
returns-in_default-dir_id-clause-gone c = λ past s.
    let q = c.args.path.now in
    let file = c.in_default-dir_id.ensures.file in
    let there = found_file past q c.entry_before.result c.in-Some.entry file.0 c.in-Some.is file.1 (c.entry_before.ensures.entry past s) in
    adds_none _ c.args.moved.now.gone.items (λ p. taken_nowhere past s.right q p there)

pub returns-in_default-dir_id-clause-come : goal.returns-in_default-dir_id-clause-come
returns-in_default-dir_id-clause-come c = λ past s.
    let q = c.args.path.now in
    let file = c.in_default-dir_id.ensures.file in
    let there = found_file past q c.entry_before.result c.in-Some.entry file.0 c.in-Some.is file.1 (c.entry_before.ensures.entry past s) in
    adds_none _ c.args.moved.now.come.items (λ p. itself_old past s.right q p there)

pub returns-clause-gone : goal.returns-clause-gone
returns-clause-gone c = λ past s.
    let q = c.args.path.now in
    let some = c.entry_before.ensures.path in
    let dir = found_dir past q c.entry_before.result c.in-Some.entry c.in-Some-dir_id.id c.in-Some.is c.in-Some-dir_id.ensures.directory (c.entry_before.ensures.entry past s) in
    then_same c.add_files_under.result _ _ c.args.moved.now.gone.items c.add_files_under.new.gone.items (λ p. taken_under past s.right q p (deep_path q some) dir.1.0)
    (c.add_files_under.ensures past (past_there c.args.table.now.nodes c.args.parent.now past q some s dir.1.0) dir.1)

pub returns-clause-come : goal.returns-clause-come
returns-clause-come c = λ past s.
    let q = c.args.path.now in
    let dir = found_dir past q c.entry_before.result c.in-Some.entry c.in-Some-dir_id.id c.in-Some.is c.in-Some-dir_id.ensures.directory (c.entry_before.ensures.entry past s) in
    then_that c.add_files_under.result
    (adds_copy _ c.args.moved.now.come.items c.push-2.new.self.items q c.in_ok-copy-2.field-0 c.in_ok-push-2.ensures.items c.in_ok-copy-2.ensures (λ p. itself_new past s.right q p dir.0))
