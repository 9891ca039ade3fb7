-- What is read of the manifests of a known changeset.
--     fsnode_at ks n d, unode_at ks n p      of the changeset of a number: the bytes of the fsnode of a directory, and of the unode of a path
--     deleted_at ks n p      the bytes of the deleted node of a path
--     path_log_at ks n p      of a changeset, its first parent and so on those that set a path or have another file there than their first parent, newest first;  logged_ids ks n p      these, if any
--     history_at ks n p      the changesets that made the unode of a file, or one that this reaches through parents, newest first
--     IsAbsence fault read      what is absent, or want of memory
use Rattle.std.specs.Prelude.{◌≡◌, ◌==◌, ℕ, not, length, List, [], Option, None, Some, Result, Ok, Err}
use Rattle.std.specs.Borrow.{Bor}
use Rattle.byte_fields.specs.Bytes.{Id}
use Rattle.changeset_model.specs.Path.{Path}
use Rattle.history_model.specs.History.{Known, is_known}
use Rattle.history_model.specs.Past.{past}
use Rattle.history_model.specs.Tree.{files_of, is_file, is_dir}
use Rattle.manifest_model.specs.Fsnode.{fsnode, fsnode_bytes}
use Rattle.manifest_model.specs.Unode.{unode_bytes}
use Rattle.manifest_model.specs.Deleted.{deleted, deleted_bytes, has_deleted, path_log}
use Rattle.manifest_model.specs.Merged.{unode_at as unode_of_past, history_of}
use Rattle.reply_model.specs.Reply.{Absent, AbsentChangeset, NoPath, NotADir, NotAFile, present, refuse_if, ◌>>=◌}
use Rattle.changeset_store.specs.Store.{known_at}
use Rattle.manifest_store.specs.declared.fault.ManifestFault.{ManifestFault}
use Rattle.manifest_store.specs.declared.fault.ManifestFault.TheVariants as faults

-- the path of a directory, which is the root where none is given
abbrev pub dir_of : Option (Bor Path) → Path
dir_of None = []
dir_of (Some d) = d.now

-- by the changeset's id
abbrev pub fsnode_by : List Known → Id → Path → Result (List ℕ) Absent
fsnode_by ks x d = do
  _ ← present ks x d
  _ ← refuse_if (is_file (files_of ks x) d) NotADir
  Ok (fsnode_bytes (fsnode (files_of ks x) d))

abbrev pub unode_by : List Known → Id → Path → Result (List ℕ) Absent
unode_by ks x p = do
  _ ← present ks x p
  Ok (unode_bytes (unode_of_past (past ks x) p))

abbrev pub history_by : List Known → Id → Path → Result (List Id) Absent
history_by ks x p = do
  _ ← present ks x p
  _ ← refuse_if (is_dir (files_of ks x) p) NotAFile
  Ok (history_of ks x p)

abbrev pub fsnode_at : List Known → ℕ → Path → Result (List ℕ) Absent
fsnode_at ks n d = fsnode_by ks (known_at ks n).id d

abbrev pub unode_at : List Known → ℕ → Path → Result (List ℕ) Absent
unode_at ks n p = unode_by ks (known_at ks n).id p

abbrev pub history_at : List Known → ℕ → Path → Result (List Id) Absent
history_at ks n p = history_by ks (known_at ks n).id p

abbrev pub deleted_by : List Known → Id → Path → Result (List ℕ) Absent
deleted_by ks x p = do
  _ ← refuse_if (not (is_known ks x)) (AbsentChangeset x)
  _ ← refuse_if (not (has_deleted (past ks x) p)) NoPath
  Ok (deleted_bytes (deleted (past ks x) p))

abbrev pub deleted_at : List Known → ℕ → Path → Result (List ℕ) Absent
deleted_at ks n p = deleted_by ks (known_at ks n).id p

abbrev pub path_log_by : List Known → Id → Path → Result (List Id) Absent
path_log_by ks x p = do
  _ ← refuse_if (not (is_known ks x)) (AbsentChangeset x)
  _ ← refuse_if (length (path_log (past ks x) p) == 0) NoPath
  Ok (path_log (past ks x) p)

abbrev pub path_log_at : List Known → ℕ → Path → Result (List Id) Absent
path_log_at ks n p = path_log_by ks (known_at ks n).id p

abbrev pub logged_ids : List Known → ℕ → Path → List Id
logged_ids ks n p = path_log (past ks (known_at ks n).id) p

abbrev pub IsAbsence : {X : Type 0} → ManifestFault → Result X Absent → Type 0
IsAbsence faults.NoPath read = read ≡ Err NoPath
IsAbsence faults.NotADir read = read ≡ Err NotADir
IsAbsence faults.NotAFile read = read ≡ Err NotAFile
IsAbsence faults.Memory read = Unit {0}
