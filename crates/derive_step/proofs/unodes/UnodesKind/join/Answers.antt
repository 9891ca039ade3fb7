use Rattle.std.proofs.Common.{◌≡◌, ◌∷◌, ◌++◌, [], sym, subst}
use Rattle.std.specs.Prelude.{IfOk, option_map}
use Rattle.manifest_model.specs.Unode.{UnodeDir}
use Rattle.fsnode.specs.Parts.{children_seen as files_seen}
use Rattle.unode.specs.declared.entry.UnodeEntry.{UnodeEntry}
use Rattle.unode.specs.Parts.{entry_seen}
use Rattle.derive_step.specs.Places.{dir_of}
use Rattle.derive_step.specs.Join.{made_at}
use Rattle.derive_step.specs.Steps.{file_now, new_at, unode_join, unode_made_in}
use Rattle.derive_step.proofs.unodes.UnodesKind.join.Goals as goal

pub returns-in-File-clause-entry : goal.returns-in-File-clause-entry
returns-in-File-clause-entry c =
    let kind = c.args.self.now in
    let p = dir_of c.args.dir ++ c.args.name.now ∷ [] in
    let made = made_at (unode_made_in c.args.made_dirs.now) p in
    subst (λ (e : UnodeEntry). IfOk c.join_file.result (λ entry. option_map entry_seen entry ≡ unode_join kind.link p (file_now (files_seen kind.files.now) c.args.name.now) made (entry_seen e) (entry_seen c.args.both.1))) (sym c.in-File.is) (c.join_file.ensures.entry made)

pub returns-in-Directory-clause-entry : goal.returns-in-Directory-clause-entry
returns-in-Directory-clause-entry c =
    let kind = c.args.self.now in
    let p = dir_of c.args.dir ++ c.args.name.now ∷ [] in
    let now = file_now (files_seen kind.files.now) c.args.name.now in
    let made = made_at (unode_made_in c.args.made_dirs.now) p in
    subst (λ (e : UnodeEntry). IfOk c.join_dir.result (λ entry. option_map entry_seen entry ≡ unode_join kind.link p now made (entry_seen e) (entry_seen c.args.both.1))) (sym c.in-Directory.is) (c.join_dir.ensures (new_at kind.link p now (UnodeDir c.in-Directory.id) (entry_seen c.args.both.1)))
