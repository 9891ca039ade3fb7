use Rattle.std.proofs.Common.{◌≡◌, ◌∷◌, ◌++◌, [], sym, subst}
use Rattle.std.specs.Prelude.{IfOk, option_map}
use Rattle.manifest_model.specs.Unode.{UnodeFile}
use Rattle.fsnode.specs.Parts.{children_seen as files_seen}
use Rattle.unode.specs.declared.entry.UnodeEntry.{UnodeEntry}
use Rattle.unode.specs.Parts.{entry_seen}
use Rattle.derive_step.specs.Places.{dir_of}
use Rattle.derive_step.specs.Steps.{file_now, unode_join}
use Rattle.derive_step.proofs.unodes.join_file.Goals as goal

pub returns-in-File-clause-entry : goal.returns-in-File-clause-entry
returns-in-File-clause-entry c = λ made.
    let kind = c.args.kind.now in
    subst (λ (e : UnodeEntry). IfOk c.join_files.result (λ entry. option_map entry_seen entry ≡ unode_join kind.link (dir_of c.args.dir ++ c.args.name.now ∷ []) (file_now (files_seen kind.files.now) c.args.name.now) made (UnodeFile c.args.id.now) (entry_seen e))) (sym c.in-File.is) (c.join_files.ensures.entry made)
