-- Changesets as the definitions see them, without where they lie in memory.
--     source_view s      where a file was copied from
--     change_view c      what is done at a path;  edit_view e, edits_view es      with its path
--     fields_view f      the fields of a changeset
--     view_of version parents date told, parts_view p      a changeset of these parts
use Rattle.std.specs.Prelude.{ℕ, List, map, option_map, string_bytes}
use Rattle.changeset_model.specs.Path.{Path}
use Rattle.changeset_model.specs.Changeset as model
use Rattle.bonsai.specs.Kinds.{kind_view}
use Rattle.bonsai.specs.Versions.{version_view}
use Rattle.bonsai.specs.declared.copy_source.CopySource.{CopySource}
use Rattle.bonsai.specs.declared.change.Change.{Change}
use Rattle.bonsai.specs.declared.change.Change.TheVariants as changes
use Rattle.bonsai.specs.declared.edit.Edit.{Edit}
use Rattle.bonsai.specs.declared.fields.Fields.{Fields}
use Rattle.bonsai.specs.declared.moment.Date.{Date}
use Rattle.bonsai.specs.declared.told.Told.{Told}
use Rattle.bonsai.specs.declared.told.Parts.{Parts}
use Rattle.bonsai.specs.declared.version.Version.{Version}

abbrev pub source_view : CopySource → model.CopySource
source_view s = record { parent = s.parent; path = s.path }

abbrev pub change_view : Change → model.FileChange
change_view (changes.Set content kind size copied) = model.Set (record { content = content; kind = kind_view kind; size = size }) (option_map source_view copied)
change_view changes.Delete = model.Delete

abbrev pub edit_view : Edit → Path × model.FileChange
edit_view e = (e.path, change_view e.change)

abbrev pub edits_view : List Edit → List (Path × model.FileChange)
edits_view es = map edit_view es

abbrev pub fields_view : Fields → model.Changeset
fields_view f = record { version = version_view f.version; parents = f.parents.items; author = string_bytes f.author; seconds = f.seconds; offset = f.offset; message = string_bytes f.message; changes = edits_view f.edits.items }

abbrev pub view_of : Version → List (List ℕ) → Date → Told → model.Changeset
view_of version parents date told = record { version = version_view version; parents = parents; author = string_bytes told.author; seconds = date.seconds; offset = date.offset; message = string_bytes told.message; changes = edits_view told.edits.items }

abbrev pub parts_view : Parts → model.Changeset
parts_view p = view_of p.version p.parents.now p.date p.told.now
