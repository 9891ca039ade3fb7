use Rattle.std.proofs.Common.{◌≡◌, ◌&&◌, ◌++◌, ◌∷◌, [], sym, ap, subst, ◌∙◌}
use Rattle.std.specs.Prelude.{Some, option_map}
use Rattle.bonsai.specs.View.{edits_view}
use Rattle.byte_fields.proofs.Lists.{all_push}
use Rattle.changeset_model.specs.Path.{Path, is_path, is_prefix}
use Rattle.fsnode.specs.Parts.{entry_seen}
use Rattle.manifest_store.specs.declared.brought.Brought.{Brought}
use Rattle.manifest_store.specs.Brought.{AreBroughtFrom, IsBroughtFrom, is_brought, own}
use Rattle.manifest_store.specs.Moves.{Adds, has_file}
use Rattle.manifest_store.specs.Reads.{dir_of}
use Rattle.manifest_store.proofs.Coming.{is_file_there, own_path, pushed, with_added, with_dir, with_nothing}
use Rattle.manifest_store.proofs.Levels.{IsChild, child_is, ruled, unruled}
use Rattle.manifest_store.proofs.brought.add_child.Goals as goal

pub returns-in_default-clause-files : goal.returns-in_default-clause-files
returns-in_default-clause-files c = λ past other left right found there p.
    let d = own c.args.dir.now.path in
    let n = c.args.child.now.name in
    let same = own_path c.as_ref.result c.args.dir.now.path c.as_ref.ensures.value in
    with_nothing past other (edits_view c.args.decided.now.edits.now) right d n c.args.come.now.items c.args.next.now.items
    (ap (λ d. is_path (d ++ n ∷ [])) (sym same) ∙ unruled (dir_of c.as_ref.result ++ n ∷ []) c.in_ok-path.field-0 c.in_ok-path.ensures c.in_default.is) p

pub returns-in_ok-add_file-in-File-clause-files : goal.returns-in_ok-add_file-in-File-clause-files
returns-in_ok-add_file-in-File-clause-files c = λ past other left right found there p.
    let d = own c.args.dir.now.path in
    let n = c.args.child.now.name in
    let q = d ++ n ∷ [] in
    let es = edits_view c.args.decided.now.edits.now in
    let same = own_path c.as_ref.result c.args.dir.now.path c.as_ref.ensures.value in
    let is : c.in-Some.path ≡ q = ruled c.in-Some.path (dir_of c.as_ref.result ++ n ∷ []) c.in_ok-path.field-0 c.in_ok-path.ensures c.in-Some.is ∙ ap (λ d. d ++ n ∷ []) same in
    let child = subst (λ e. IsChild other q (entry_seen e)) c.in-File.is (child_is other right d n (entry_seen c.args.child.now.entry) found) in
    with_added past other es right (λ p. is_brought past other es p && is_prefix q p) c.args.come.now.items c.add_file.new.come.items c.args.next.now.items
    (subst (λ (x : Path). Adds (λ p. is_brought past other es p && is_prefix x p) c.args.come.now.items c.add_file.new.come.items) is
    (c.in_ok-add_file-in-File.ensures past other right (ap (has_file other) is ∙ child) (is_file_there past left d n (option_map entry_seen c.entry_of-there.result) (c.entry_of-there.ensures ∙ there) ∙ ap (has_file past) (sym is)))) p

pub returns-in_ok-push-in-Directory-clause-files : goal.returns-in_ok-push-in-Directory-clause-files
returns-in_ok-push-in-Directory-clause-files c = λ past other left right found there p.
    let d = own c.args.dir.now.path in
    let n = c.args.child.now.name in
    let q = d ++ n ∷ [] in
    let same = own_path c.as_ref.result c.args.dir.now.path c.as_ref.ensures.value in
    let is : c.in-Some.path ≡ q = ruled c.in-Some.path (dir_of c.as_ref.result ++ n ∷ []) c.in_ok-path.field-0 c.in_ok-path.ensures c.in-Some.is ∙ ap (λ d. d ++ n ∷ []) same in
    let child = subst (λ e. IsChild other q (entry_seen e)) c.in-Directory.is (child_is other right d n (entry_seen c.args.child.now.entry) found) in
    with_dir past other (edits_view c.args.decided.now.edits.now) right (record { path = Some c.in-Some.path; first = c.dir_id_of.result; second = c.in-Directory.id }) c.args.come.now.items c.args.next.now.items c.push.new.self.items q c.in_ok-push-in-Directory.ensures.items is child.0 p

pub returns-in_ok-push-in-Directory-clause-directories : goal.returns-in_ok-push-in-Directory-clause-directories
returns-in_ok-push-in-Directory-clause-directories c = λ past other left right found there all.
    let d = own c.args.dir.now.path in
    let n = c.args.child.now.name in
    let q = d ++ n ∷ [] in
    let same = own_path c.as_ref.result c.args.dir.now.path c.as_ref.ensures.value in
    let is : c.in-Some.path ≡ q = ruled c.in-Some.path (dir_of c.as_ref.result ++ n ∷ []) c.in_ok-path.field-0 c.in_ok-path.ensures c.in-Some.is ∙ ap (λ d. d ++ n ∷ []) same in
    let child = subst (λ e. IsChild other q (entry_seen e)) c.in-Directory.is (child_is other right d n (entry_seen c.args.child.now.entry) found) in
    let dir : Brought = record { path = Some c.in-Some.path; first = c.dir_id_of.result; second = c.in-Directory.id } in
    subst (λ next. AreBroughtFrom past other next) (sym c.in_ok-push-in-Directory.ensures.items)
    (all_push (λ d. IsBroughtFrom past other d) c.args.next.now.items dir all (pushed past other left d n dir (option_map entry_seen c.entry_of-there.result) is child.1 (c.entry_of-there.ensures ∙ there) c.dir_id_of.ensures))
