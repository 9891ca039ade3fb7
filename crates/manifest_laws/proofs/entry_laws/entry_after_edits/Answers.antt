use Rattle.manifest_laws.proofs.Folded.{folded}
use Rattle.manifest_laws.proofs.entry_laws.entry_after_edits.Goals as goal

pub returns-clause-fsnode : goal.returns-clause-fsnode
returns-clause-fsnode c = λ set_entry made is_file p es o h. folded set_entry made is_file p es o h

pub returns-clause-unode : goal.returns-clause-unode
returns-clause-unode c = λ set_entry made is_file p es o h. folded set_entry made is_file p es o h
