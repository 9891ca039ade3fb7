-- How contracts see the parts of an fsnode.
--     summary_seen s, entry_seen e, child_seen c, children_seen cs      a summary, an entry, an entry with its name, and a list of these
--     fsnode_of_parts s children      the fsnode with this summary and these entries
use Rattle.std.specs.Prelude.{ℕ, List, map}
use Rattle.std.specs.Global.{Vec}
use Rattle.manifest_model.specs.Fsnode.{Summary, FsEntry, FsFile, FsDir, Fsnode}
use Rattle.bonsai.specs.Kinds.{kind_view}
use Rattle.fsnode.specs.declared.summary.Summary.{Summary as RustSummary}
use Rattle.fsnode.specs.declared.entry.FsEntry.{FsEntry as RustEntry}
use Rattle.fsnode.specs.declared.entry.FsEntry.TheVariants as entries
use Rattle.node_fields.specs.declared.child.Child.{Child}

abbrev pub summary_seen : RustSummary → Summary
summary_seen s = record {
  child_files_count = s.child_files_count;
  child_files_total_size = s.child_files_total_size;
  child_dirs_count = s.child_dirs_count;
  descendant_files_count = s.descendant_files_count;
  descendant_files_total_size = s.descendant_files_total_size;
}

abbrev pub entry_seen : RustEntry → FsEntry
entry_seen (entries.File content kind size) = FsFile (record { content = content; kind = kind_view kind; size = size })
entry_seen (entries.Directory id summary) = FsDir id (summary_seen summary)

abbrev pub child_seen : Child RustEntry → List ℕ × FsEntry
child_seen c = (c.name, entry_seen c.entry)

abbrev pub children_seen : List (Child RustEntry) → List (List ℕ × FsEntry)
children_seen cs = map child_seen cs

abbrev pub fsnode_of_parts : RustSummary → Vec (Child RustEntry) → Fsnode
fsnode_of_parts s children = record { summary = summary_seen s; entries = children_seen children.items }
