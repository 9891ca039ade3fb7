-- The responses to changes that are refused.
--     response_to refusal      the response, whatever was asked for
use Rattle.reply_model.specs.Reply as reply
use Rattle.session_model.specs.Responses.{Response}
use Rattle.session_model.specs.Bodies.{memory}
use Rattle.session_model.specs.Asking.{refused}
use Rattle.repo_calls.specs.Calls.{denied_path}
use Rattle.repo_calls.specs.declared.refusal.Refusal.{Refusal}
use Rattle.repo_calls.specs.declared.refusal.Refusal.TheVariants as refusals

abbrev pub response_to : Refusal → Response
response_to refusals.Down = refused reply.Down
response_to (refusals.TooLong length) = refused (reply.TooLong length)
response_to (refusals.BadEncoding at) = refused (reply.BadEncoding at)
response_to (refusals.SelfConflict short long) = refused (reply.SelfConflict short long)
response_to (refusals.BadParts length) = refused (reply.BadParts length)
response_to refusals.OldFormat = refused reply.OldFormat
response_to (refusals.NoPiece id) = refused (reply.NoPiece id)
response_to (refusals.NotAPiece id) = refused (reply.NotAPiece id)
response_to (refusals.NoParent id) = refused (reply.NoParent id)
response_to (refusals.NoContent path id) = refused (reply.NoContent path id)
response_to (refusals.WrongSize path wanted found) = refused (reply.WrongSize path wanted found)
response_to (refusals.Unresolved path) = refused (reply.Unresolved path)
response_to (refusals.Collision id) = refused (reply.Collision id)
response_to (refusals.NoChangeset id) = refused (reply.NoChangeset id)
response_to (refusals.Moved found) = refused (reply.Moved found)
response_to refusals.NoBookmark = refused reply.NoBookmark
response_to refusals.NoRoot = refused reply.NoRoot
response_to (refusals.TooFarBehind distance) = refused (reply.TooFarBehind distance)
response_to refusals.AlreadyIn = refused reply.AlreadyIn
response_to (refusals.StackTooLong count) = refused (reply.StackTooLong count)
response_to (refusals.MergeInStack id) = refused (reply.MergeInStack id)
response_to (refusals.MergeInRange id) = refused (reply.MergeInRange id)
response_to (refusals.Denied place rule) = refused (reply.Denied (denied_path place) rule)
response_to (refusals.Clash left right) = refused (reply.Clash left right)
response_to (refusals.TooLarge length) = refused (reply.TooLarge length)
response_to (refusals.BadPolicy line) = refused (reply.BadPolicy line)
response_to (refusals.Full size length) = refused (reply.Full size length)
response_to refusals.Memory = memory
