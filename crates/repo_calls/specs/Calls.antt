-- What is asked of a repository and what it answers, as questions and answers of the definitions.
--     call_seen ask      a change
--     denied_path place      the elements that are decided on
--     granted_seen granted, refused e, change_answer result      its answer
--     content_answer, changeset_answer, bookmark_answer, landing_answer, policy_answer      the answer to each change
--     line_seen entry, lines_seen entries      what the log tells of an entry
use Rattle.std.specs.Prelude.{ℕ, List, map, Result, Ok, Err}
use Rattle.byte_fields.specs.Bytes.{Id}
use Rattle.changeset_model.specs.Path.{Path}
use Rattle.policy_model.specs.Rules.{bookmark_place, policy_place}
use Rattle.reply_model.specs.Reply as reply
use Rattle.reply_model.specs.Log.{LogLine, ContentLine, WholeLine, ChangesetLine, BookmarkLine, LandingLine, PolicyLine}
use Rattle.reply_model.specs.After.{Call, Asks, Joins, Answer, Grants, Refuses, Memory}
use Rattle.repo_calls.specs.declared.ask.Ask.{Ask}
use Rattle.repo_calls.specs.declared.ask.Ask.TheVariants as asks
use Rattle.repo_calls.specs.declared.ask.Granted.{Granted}
use Rattle.repo_calls.specs.declared.ask.Granted.TheVariants as grants
use Rattle.repo_calls.specs.declared.ask.Landed.{Landed}
use Rattle.repo_calls.specs.declared.denied.DeniedPlace.{DeniedPlace}
use Rattle.repo_calls.specs.declared.denied.DeniedPlace.TheVariants as places
use Rattle.repo_calls.specs.declared.refusal.Refusal.{Refusal}
use Rattle.repo_calls.specs.declared.refusal.Refusal.TheVariants as refusals
use Rattle.repo_calls.specs.declared.log.LogEntry.{LogEntry}
use Rattle.repo_calls.specs.declared.log.LogEntry.TheVariants as entries

-- of contents that are to be joined only the ids are asked, and not what is read of them
abbrev pub call_seen : Ask → Call
call_seen (asks.PutContent bytes) = Asks (reply.PutContent bytes.now)
call_seen (asks.PutWhole body) = Joins body.now
call_seen (asks.PutChangeset bytes) = Asks (reply.PutChangeset bytes.now)
call_seen (asks.SetBookmark caller name from to) = Asks (reply.SetBookmark caller.now name.now from to)
call_seen (asks.Land caller name draft moment) = Asks (reply.LandDraft caller.now name.now draft moment)
call_seen (asks.SetPolicy caller text) = Asks (reply.SetPolicy caller.now text.now)

abbrev pub granted_seen : Granted → reply.Granted
granted_seen (grants.Content id) = reply.ContentPut id
granted_seen (grants.Whole id size) = reply.WholePut id size
granted_seen (grants.Changeset id) = reply.ChangesetPut id
granted_seen grants.Bookmark = reply.BookmarkSet
granted_seen (grants.Landing landed) = reply.Landed landed.old landed.ids.items
granted_seen (grants.Policy number) = reply.PolicySet number

abbrev pub denied_path : DeniedPlace → Path
denied_path (places.Path path) = path
denied_path (places.Bookmark name) = bookmark_place name
denied_path places.Policy = policy_place

abbrev pub refused : Refusal → Answer
refused refusals.Down = Refuses reply.Down
refused (refusals.TooLong length) = Refuses (reply.TooLong length)
refused (refusals.BadEncoding at) = Refuses (reply.BadEncoding at)
refused (refusals.SelfConflict short long) = Refuses (reply.SelfConflict short long)
refused (refusals.BadParts length) = Refuses (reply.BadParts length)
refused refusals.OldFormat = Refuses reply.OldFormat
refused (refusals.NoPiece id) = Refuses (reply.NoPiece id)
refused (refusals.NotAPiece id) = Refuses (reply.NotAPiece id)
refused (refusals.NoParent id) = Refuses (reply.NoParent id)
refused (refusals.NoContent path id) = Refuses (reply.NoContent path id)
refused (refusals.WrongSize path wanted found) = Refuses (reply.WrongSize path wanted found)
refused (refusals.Unresolved path) = Refuses (reply.Unresolved path)
refused (refusals.Collision id) = Refuses (reply.Collision id)
refused (refusals.NoChangeset id) = Refuses (reply.NoChangeset id)
refused (refusals.Moved found) = Refuses (reply.Moved found)
refused refusals.NoBookmark = Refuses reply.NoBookmark
refused refusals.NoRoot = Refuses reply.NoRoot
refused (refusals.TooFarBehind distance) = Refuses (reply.TooFarBehind distance)
refused refusals.AlreadyIn = Refuses reply.AlreadyIn
refused (refusals.StackTooLong count) = Refuses (reply.StackTooLong count)
refused (refusals.MergeInStack id) = Refuses (reply.MergeInStack id)
refused (refusals.MergeInRange id) = Refuses (reply.MergeInRange id)
refused (refusals.Denied place rule) = Refuses (reply.Denied (denied_path place) rule)
refused (refusals.Clash left right) = Refuses (reply.Clash left right)
refused (refusals.TooLarge length) = Refuses (reply.TooLarge length)
refused (refusals.BadPolicy line) = Refuses (reply.BadPolicy line)
refused (refusals.Full size length) = Refuses (reply.Full size length)
refused refusals.Memory = Memory

abbrev pub change_answer : Result Granted Refusal → Answer
change_answer (Ok granted) = Grants (granted_seen granted)
change_answer (Err e) = refused e

abbrev pub content_answer : Result Id Refusal → Answer
content_answer (Ok id) = Grants (reply.ContentPut id)
content_answer (Err e) = refused e

abbrev pub changeset_answer : Result Id Refusal → Answer
changeset_answer (Ok id) = Grants (reply.ChangesetPut id)
changeset_answer (Err e) = refused e

abbrev pub bookmark_answer : Result (Unit {0}) Refusal → Answer
bookmark_answer (Ok done) = Grants reply.BookmarkSet
bookmark_answer (Err e) = refused e

abbrev pub landing_answer : Result Landed Refusal → Answer
landing_answer (Ok landed) = Grants (reply.Landed landed.old landed.ids.items)
landing_answer (Err e) = refused e

abbrev pub policy_answer : Result ℕ Refusal → Answer
policy_answer (Ok number) = Grants (reply.PolicySet number)
policy_answer (Err e) = refused e

abbrev pub line_seen : LogEntry → LogLine
line_seen (entries.Content id size) = ContentLine id size
line_seen (entries.Whole id size parts) = WholeLine id size parts.items
line_seen (entries.Changeset id) = ChangesetLine id
line_seen (entries.Bookmark name from to caller) = BookmarkLine (record { name = name; from = from; to = to; caller = caller })
line_seen (entries.Landing name old draft moment ids caller) = LandingLine caller name old draft moment ids.items
line_seen (entries.Policy caller rules) = PolicyLine caller rules

abbrev pub lines_seen : List LogEntry → List LogLine
lines_seen es = map line_seen es
