-- From the answer to a change to what a client was told.
use Rattle.std.proofs.Common.{◌≡◌, ℕ, true, ◌-◌, List, [], ◌∷◌, length, refl, ap, sym, ◌∙◌}
use mathlib.Core.Bool.{true≢false}
use Rattle.std.specs.Prelude.{None, Some, Result, Ok, Err, IfOk, slice_get}
use Rattle.byte_fields.specs.Bytes.{Id}
use Rattle.history_model.specs.History.{Entry}
use Rattle.history_model.specs.Journal.{Header}
use Rattle.reply_model.specs.Reply as reply
use Rattle.reply_model.specs.Reply.{Ask, PutContent, PutWhole, PutChangeset, SetBookmark, LandDraft, SetPolicy}
use Rattle.reply_model.specs.After.{After, Asks, BadBytes, DiskFault, Grants, ReadFault}
use Rattle.repo_calls.specs.Calls.{denied_path, granted_seen, refused}
use Rattle.repo_calls.specs.declared.ask.Granted.{Granted}
use Rattle.repo_calls.specs.declared.refusal.Refusal.{Refusal}
use Rattle.repo_calls.specs.declared.refusal.Refusal.TheVariants as refusals
use Rattle.repo_state.specs.State.{HasNoFault}
use Rattle.run_gen.specs.Answers.{Answered}
use Rattle.run_gen.specs.Calls.{last_id}
use Rattle.run_gen.specs.Grants.{FitsAsk}
use Rattle.run_gen.specs.declared.fault.LoadFault.{LoadFault}
use Rattle.run_gen.proofs.Fronts.{is_up, memory_sees}
use Rattle.run_gen.proofs.Granting.{judged_suits}
use Rattle.run_gen.proofs.Joined.{cut_off, one_refused}
use Rattle.run_gen.specs.Outcomes.{fault_of, heads_left}
use Rattle.run_gen.specs.Parts.{is_upload}
use Rattle.bonsai.proofs.Run.{one_less}

module _ (header : Header) (who : ℕ) (from to : List Entry) (ask : Ask) where
  pub fits : (granted : reply.Granted) → After header from who (Asks ask) (Grants granted) to → FitsAsk ask granted
  fits granted a = (judged_suits header a.before ask granted a.made.entry a.answers.1).fits

  pub stopped : HasNoFault to → (refusal : Refusal) → After header from who (Asks ask) (refused refusal) to → Answered {X = Granted} header who from (ask ∷ []) [] (Err (fault_of refusal)) to
  stopped none refusals.Down a = one_refused header who from to ask reply.Down a
  stopped none (refusals.TooLong length) a = one_refused header who from to ask (reply.TooLong length) a
  stopped none (refusals.BadEncoding at) a = one_refused header who from to ask (reply.BadEncoding at) a
  stopped none (refusals.SelfConflict short long) a = one_refused header who from to ask (reply.SelfConflict short long) a
  stopped none (refusals.BadParts length) a = one_refused header who from to ask (reply.BadParts length) a
  stopped none refusals.OldFormat a = one_refused header who from to ask reply.OldFormat a
  stopped none (refusals.NoPiece id) a = one_refused header who from to ask (reply.NoPiece id) a
  stopped none (refusals.NotAPiece id) a = one_refused header who from to ask (reply.NotAPiece id) a
  stopped none (refusals.NoParent id) a = one_refused header who from to ask (reply.NoParent id) a
  stopped none (refusals.NoContent path id) a = one_refused header who from to ask (reply.NoContent path id) a
  stopped none (refusals.WrongSize path wanted found) a = one_refused header who from to ask (reply.WrongSize path wanted found) a
  stopped none (refusals.Unresolved path) a = one_refused header who from to ask (reply.Unresolved path) a
  stopped none (refusals.Collision id) a = one_refused header who from to ask (reply.Collision id) a
  stopped none (refusals.NoChangeset id) a = one_refused header who from to ask (reply.NoChangeset id) a
  stopped none (refusals.Moved found) a = one_refused header who from to ask (reply.Moved found) a
  stopped none refusals.NoBookmark a = one_refused header who from to ask reply.NoBookmark a
  stopped none refusals.NoRoot a = one_refused header who from to ask reply.NoRoot a
  stopped none (refusals.TooFarBehind distance) a = one_refused header who from to ask (reply.TooFarBehind distance) a
  stopped none refusals.AlreadyIn a = one_refused header who from to ask reply.AlreadyIn a
  stopped none (refusals.StackTooLong count) a = one_refused header who from to ask (reply.StackTooLong count) a
  stopped none (refusals.MergeInStack id) a = one_refused header who from to ask (reply.MergeInStack id) a
  stopped none (refusals.MergeInRange id) a = one_refused header who from to ask (reply.MergeInRange id) a
  stopped none (refusals.Denied place rule) a = one_refused header who from to ask (reply.Denied (denied_path place) rule) a
  stopped none (refusals.Clash left right) a = one_refused header who from to ask (reply.Clash left right) a
  stopped none (refusals.TooLarge length) a = one_refused header who from to ask (reply.TooLarge length) a
  stopped none (refusals.BadPolicy line) a = one_refused header who from to ask (reply.BadPolicy line) a
  stopped none (refusals.Full size length) a = one_refused header who from to ask (reply.Full size length) a
  stopped none refusals.Memory a = cut_off header who from to (ask ∷ []) (memory_sees header from who ask to a none)

  -- where no call of the disk fails, no change meets a fault
  pub never_fails : After header from who (Asks ask) DiskFault to → HasNoFault to → ⊥
  never_fails a none = true≢false (sym (a.grows.failed a.answers.0) ∙ is_up to none)

  -- a change that joins no contents reads none
  pub never_unread : After header from who (Asks ask) ReadFault to → ⊥
  never_unread a = a.answers

  pub never_misread : (wanted found : Id) → After header from who (Asks ask) (BadBytes wanted found) to → ⊥
  never_misread wanted found a = a.answers

pub upload_leaves : (ask : Ask) (answer : Result Granted LoadFault) → is_upload ask ≡ true → IfOk answer (λ granted. FitsAsk ask (granted_seen granted)) → heads_left answer ≡ []
upload_leaves (PutContent bytes) (Ok granted) is fits = fits
upload_leaves (PutWhole body pieces) (Ok granted) is fits = fits
upload_leaves (PutChangeset bytes) (Ok granted) is fits = fits
upload_leaves (SetBookmark caller name from to) (Ok granted) is fits = absurd cc
upload_leaves (LandDraft caller name draft moment) (Ok granted) is fits = absurd cc
upload_leaves (SetPolicy caller text) (Ok granted) is fits = absurd cc
upload_leaves ask (Err fault) is fits = refl

-- ---- the head that a landing left

last_got : (x : Id) (ids : List Id) → slice_get (x ∷ ids) (length ids) ≡ Some (last_id x ids)
last_got x [] = refl
last_got x (y ∷ ids) = last_got y ids

some_is : (x y : Id) → Some x ≡ Some y → x ≡ y
some_is x y e = cc

pub last_is : (old : Id) (ids : List Id) (x : Id) → Some x ≡ slice_get ids (length ids - 1) → x ≡ last_id old ids
last_is old [] x e = absurd cc
last_is old (y ∷ ids) x e = some_is x (last_id y ids) (e ∙ ap (slice_get (y ∷ ids)) (one_less (length ids)) ∙ last_got y ids)

pub none_left : (ids : List Id) → None ≡ slice_get ids (length ids - 1) → ids ≡ []
none_left [] e = refl
none_left (y ∷ ids) e = absurd (cc (e ∙ ap (slice_get (y ∷ ids)) (one_less (length ids)) ∙ last_got y ids))
