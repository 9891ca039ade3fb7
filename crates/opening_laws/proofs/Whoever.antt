-- Where no policy is held, moves and landings are judged alike whoever asks.
use Rattle.std.proofs.Common.{◌≡◌, ℕ, false, cond, List, [], ◌∷◌, sym, ap, ◌∙◌}
use Rattle.std.specs.Prelude.{Option, None, Some, is_some, ok_or, find, not, nat_lt, length, option_map, ◌==◌}
use Rattle.byte_fields.specs.Bytes.{Id}
use Rattle.changeset_model.specs.Path.{Path}
use Rattle.changeset_model.specs.Changeset.{id_of, touched_paths}
use Rattle.history_model.specs.History.{Entry, is_down, known, is_known, holds_policy, policy_of}
use Rattle.history_model.specs.Bookmark.{head}
use Rattle.history_model.specs.Pushrebase.{fork, clash, rewrite, moment_of}
use Rattle.history_model.specs.Journal.{Header}
use Rattle.history_model.proofs.Policies.{held_has_text}
use Rattle.policy_model.specs.Rules.{bookmark_place}
use Rattle.policy_model.specs.Held.{denied_under}
use Rattle.reply_model.specs.Reply.{SetBookmark, LandDraft, told, denied_at, denial, is_merge, Down, NoBookmark, NoChangeset, NoRoot, TooFarBehind, AlreadyIn, StackTooLong, MergeInStack, MergeInRange, Clash, ◌>>=◌, refuse_if, refuse_some, most_range, most_stack, enter_landing, judge}
use Rattle.opening_laws.proofs.Opening.{set_same}

none_told : (h : List Entry) (caller other : List ℕ) → policy_of h ≡ None → told h caller ≡ told h other
none_told h caller other none =
    let free : holds_policy h ≡ false = held_has_text h ∙ ap is_some none in
    ap (λ b. cond b (Some caller) None) free ∙ sym (ap (λ b. cond b (Some other) None) free)

none_denied : (h : List Entry) (caller other : List ℕ) (ps : List Path) → policy_of h ≡ None → denied_at h caller ps ≡ denied_at h other ps
none_denied h caller other ps none = ap (λ o. denied_under o caller ps) none ∙ sym (ap (λ o. denied_under o other ps) none)

pub moves_for_any : (header : Header) (h : List Entry) (caller other name : List ℕ) (from to : Option Id) → policy_of h ≡ None → judge header h (SetBookmark caller name from to) ≡ judge header h (SetBookmark other name from to)
moves_for_any header h caller other name from to none =
    set_same header h caller other name from to (none_told h caller other none) (none_denied h caller other (bookmark_place name ∷ []) none)

pub lands_for_any : (header : Header) (h : List Entry) (caller other name : List ℕ) (draft : Id) (moment : ℕ) → policy_of h ≡ None → judge header h (LandDraft caller name draft moment) ≡ judge header h (LandDraft other name draft moment)
lands_for_any header h caller other name draft moment none =
    (λ i. refuse_if (is_down h) Down >>= λ _.
    ok_or (head h name) NoBookmark >>= λ old.
    refuse_if (not (is_known (known h) draft)) (NoChangeset draft) >>= λ _.
    ok_or (fork (known h) old draft) NoRoot >>= λ f.
    refuse_if (nat_lt most_range (length f.range)) (TooFarBehind (length f.range)) >>= λ _.
    refuse_if (length f.stack == 0) AlreadyIn >>= λ _.
    refuse_if (nat_lt most_stack (length f.stack)) (StackTooLong (length f.stack)) >>= λ _.
    refuse_some (option_map id_of (find is_merge f.stack)) MergeInStack >>= λ _.
    refuse_some (option_map id_of (find is_merge f.range)) MergeInRange >>= λ _.
    refuse_some (none_denied h caller other (touched_paths f.stack) none i) denial >>= λ _.
    refuse_some (clash (touched_paths f.stack) (touched_paths f.range)) (λ pair. Clash pair.0 pair.1) >>= λ _.
    enter_landing header h (none_told h caller other none i) name old draft (rewrite f.stack old moment) (moment_of f.stack moment))
