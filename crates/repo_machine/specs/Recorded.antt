-- What a rebased landing keeps ready.
--     IsRecorded l caller ids length told frame      its ids, the length of its payload where no caller is told and where this one is, the framed record that tells this one, and memory for the numbers of its changesets
--     telling l caller      the landing, if this caller is told
use Rattle.std.specs.Prelude.{◌≡◌, ◌≤◌, ◌&&◌, ℕ, List, None, Some, map, IsTrue, length as count}
use Rattle.byte_fields.specs.Bytes.{Id, is_bytes}
use Rattle.changeset_model.specs.Changeset.{id_of}
use Rattle.changeset_store.specs.Shared.{values}
use Rattle.history_model.specs.Bookmark.{is_name}
use Rattle.history_model.specs.History.{Land, Landing}
use Rattle.history_model.specs.Journal.{payload_len, most_payload}
use Rattle.reply_model.specs.Reply.{most_stack}
use Rattle.repo_machine.specs.declared.judged.LandMade.{LandMade}
use Rattle.repo_machine.specs.Made.{landing_made, HasNumbers}
use Rattle.repo_machine.specs.Judged.{Frames}

abbrev pub telling : Landing → List ℕ → Landing
telling l caller = record l { caller = Some caller }

pub record IsRecorded (l : LandMade) (caller : List ℕ) (ids : List Id) (length told : ℕ) (frame : List ℕ) : Type 0 where
  pub ready : HasNumbers l
  pub few : count (values l.new.items) ≤ most_stack
  pub rules : IsTrue (is_name l.kept.value.name && is_bytes 32 l.kept.value.draft)
  pub untold : l.kept.value.caller ≡ None
  pub ids_are : ids ≡ map id_of (values l.new.items)
  pub length_is : length ≡ payload_len (Land (landing_made l))
  pub told_is : told ≡ payload_len (Land (telling (landing_made l) caller))
  -- the record tells the caller, and is there unless the payload that tells none is too long
  pub frames : length ≤ most_payload → Frames (Some (Land (telling (landing_made l) caller))) frame
