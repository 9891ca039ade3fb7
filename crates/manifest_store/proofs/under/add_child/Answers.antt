use Rattle.std.proofs.Common.{◌++◌, ◌∷◌, [], sym, ap, subst, ◌∙◌}
use Rattle.byte_fields.proofs.Lists.{all_push}
use Rattle.fsnode.specs.Parts.{entry_seen}
use Rattle.manifest_store.specs.Moves.{IsDirectory}
use Rattle.manifest_store.specs.Levels.{AreDirectories}
use Rattle.manifest_store.proofs.Levels.{IsChild, child_is, ruled, unruled, with_file, with_dir, with_nothing}
use Rattle.manifest_store.proofs.under.add_child.Goals as goal

pub returns-in_default-clause-files : goal.returns-in_default-clause-files
returns-in_default-clause-files c = λ past right found p.
    let q = c.args.dir.now ++ c.args.child.now.name ∷ [] in
    with_nothing past right c.args.dir.now c.args.child.now.name c.args.gone.now.items c.args.left.now.items (unruled q c.in_ok-path.field-0 c.in_ok-path.ensures c.in_default.is) p

pub returns-in_ok-push-in-File-clause-files : goal.returns-in_ok-push-in-File-clause-files
returns-in_ok-push-in-File-clause-files c = λ past right found p.
    let q = c.args.dir.now ++ c.args.child.now.name ∷ [] in
    let is = ruled c.in-Some.path q c.in_ok-path.field-0 c.in_ok-path.ensures c.in-Some.is in
    let child = subst (λ e. IsChild past q (entry_seen e)) c.in-File.is (child_is past right c.args.dir.now c.args.child.now.name (entry_seen c.args.child.now.entry) found) in
    with_file past right q c.args.gone.now.items c.push.new.self.items c.args.left.now.items (c.in_ok-push-in-File.ensures.items ∙ ap (λ x. c.args.gone.now.items ++ x ∷ []) is) child p

pub returns-in_ok-push-in-Directory-clause-files : goal.returns-in_ok-push-in-Directory-clause-files
returns-in_ok-push-in-Directory-clause-files c = λ past right found p.
    let q = c.args.dir.now ++ c.args.child.now.name ∷ [] in
    let is = ruled c.in-Some.path q c.in_ok-path.field-0 c.in_ok-path.ensures c.in-Some.is in
    let child = subst (λ e. IsChild past q (entry_seen e)) c.in-Directory.is (child_is past right c.args.dir.now c.args.child.now.name (entry_seen c.args.child.now.entry) found) in
    with_dir past right (record { path = c.in-Some.path; id = c.in-Directory.id }) c.args.gone.now.items c.args.left.now.items c.push-in-Directory.new.self.items q c.in_ok-push-in-Directory.ensures.items is child.0 p

pub returns-in_ok-push-in-Directory-clause-directories : goal.returns-in_ok-push-in-Directory-clause-directories
returns-in_ok-push-in-Directory-clause-directories c = λ past right found all.
    let q = c.args.dir.now ++ c.args.child.now.name ∷ [] in
    let is = ruled c.in-Some.path q c.in_ok-path.field-0 c.in_ok-path.ensures c.in-Some.is in
    let child = subst (λ e. IsChild past q (entry_seen e)) c.in-Directory.is (child_is past right c.args.dir.now c.args.child.now.name (entry_seen c.args.child.now.entry) found) in
    subst (λ left. AreDirectories past left) (sym c.in_ok-push-in-Directory.ensures.items)
    (all_push (λ d. IsDirectory past d.path d.id) c.args.left.now.items (record { path = c.in-Some.path; id = c.in-Directory.id }) all (subst (λ x. IsDirectory past x c.in-Directory.id) (sym is) child.1))
