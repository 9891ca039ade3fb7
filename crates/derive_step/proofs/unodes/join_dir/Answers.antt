use Rattle.std.proofs.Common.{◌≡◌, ◌∷◌, ◌++◌, [], sym, subst}
use Rattle.std.specs.Prelude.{IfOk, Some, option_map}
use Rattle.manifest_model.specs.Unode.{UnodeDir}
use Rattle.merge_laws.specs.Joined.{unode_joined}
use Rattle.unode.specs.declared.entry.UnodeEntry.{UnodeEntry}
use Rattle.unode.specs.Parts.{entry_seen}
use Rattle.derive_step.specs.Places.{dir_of}
use Rattle.derive_step.specs.Join.{made_at}
use Rattle.derive_step.specs.Steps.{unode_made_in}
use Rattle.derive_step.proofs.unodes.join_dir.Goals as goal

pub returns-in-Directory : goal.returns-in-Directory
returns-in-Directory c = λ new.
    subst (λ (e : UnodeEntry). IfOk c.join_dirs.result (λ entry. option_map entry_seen entry ≡ unode_joined new (made_at (unode_made_in c.args.made_dirs.now) (dir_of c.args.dir ++ c.args.name.now ∷ [])) (Some (UnodeDir c.args.id.now)) (Some (entry_seen e)))) (sym c.in-Directory.is) (c.join_dirs.ensures new)
