-- The response to a change that is refused is the one to its answer, whatever was asked for.
use Rattle.std.proofs.Common.{◌≡◌, refl}
use Rattle.reply_model.specs.After.{Call}
use Rattle.session_model.specs.Asking.{change_response}
use Rattle.repo_calls.specs.declared.refusal.Refusal.{Refusal}
use Rattle.repo_calls.specs.declared.refusal.Refusal.TheVariants as refusals
use Rattle.repo_calls.specs.Calls.{refused}
use Rattle.repo_text.specs.Refusing.{response_to}

pub change_response-refused : (call : Call) (r : Refusal) → change_response call (refused r) ≡ response_to r
change_response-refused call refusals.Down = refl
change_response-refused call (refusals.TooLong length) = refl
change_response-refused call (refusals.BadEncoding at) = refl
change_response-refused call (refusals.SelfConflict short long) = refl
change_response-refused call (refusals.BadParts length) = refl
change_response-refused call refusals.OldFormat = refl
change_response-refused call (refusals.NoPiece id) = refl
change_response-refused call (refusals.NotAPiece id) = refl
change_response-refused call (refusals.NoParent id) = refl
change_response-refused call (refusals.NoContent path id) = refl
change_response-refused call (refusals.WrongSize path wanted found) = refl
change_response-refused call (refusals.Unresolved path) = refl
change_response-refused call (refusals.Collision id) = refl
change_response-refused call (refusals.NoChangeset id) = refl
change_response-refused call (refusals.Moved found) = refl
change_response-refused call refusals.NoBookmark = refl
change_response-refused call refusals.NoRoot = refl
change_response-refused call (refusals.TooFarBehind distance) = refl
change_response-refused call refusals.AlreadyIn = refl
change_response-refused call (refusals.StackTooLong count) = refl
change_response-refused call (refusals.MergeInStack id) = refl
change_response-refused call (refusals.MergeInRange id) = refl
change_response-refused call (refusals.Denied place rule) = refl
change_response-refused call (refusals.Clash left right) = refl
change_response-refused call (refusals.TooLarge length) = refl
change_response-refused call (refusals.BadPolicy line) = refl
change_response-refused call (refusals.Full size length) = refl
change_response-refused call refusals.Memory = refl
