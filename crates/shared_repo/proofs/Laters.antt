-- The place of a seat, after more turns of its own.
use Rattle.std.proofs.Common.{◌≡◌, ℕ, ◌<◌, ◌≤◌, List, Bool, refl, ap, subst, ◌∙◌, arith}
use Rattle.std.specs.Prelude.{IfSome, filter, not}
use Rattle.byte_fields.proofs.Lists.{prefix_self, prefix_trans}
use Rattle.history_model.specs.History.{Entry, entries_by, is_breaking}
use Rattle.bookmark_lock.specs.Leaving.{Lasts}
use Rattle.bookmark_lock.specs.Opening.{Opening}
use Rattle.bookmark_lock.specs.Place.{Place, Site, Unsealed, moved, told_at}
use Rattle.bookmark_lock.specs.Turns.{stored_length}
use Rattle.bookmark_lock.proofs.Leavings.{lasts_none, lasts_then}
use Rattle.reply_model.specs.After.{SeesMore}
use Rattle.shared_repo.specs.Sealed.{GoesOn, IsLastTurn, IsLater, IsSeen}
use Rattle.shared_repo.proofs.Fronts.{sees_nothing, sees_twice}
use Rattle.shared_repo.proofs.LastTurns.{turn_later}
use Rattle.shared_repo.proofs.Stored.{stored_grows}
use Rattle.shared_repo.proofs.Turning.{moved_twice}

pub later_none : (seat : Place) → IsLater seat seat
later_none seat = record { moved_is = refl; begins = prefix_self seat.front; seals = omega arith; lasts = lasts_none seat.lock.opening.header (told_at seat) }

pub later_then : (a b c : Place) → IsLater a b → IsLater b c → IsLater a c
later_then a b c one two =
    let p = one.seals in
    let q = two.seals in
    let lock_is : b.lock ≡ a.lock = ap (λ (x : Place). x.lock) one.moved_is in
    record {
      moved_is = moved_twice a b c one.moved_is two.moved_is;
      begins = prefix_trans a.front b.front c.front one.begins two.begins;
      seals = omega arith;
      lasts = lasts_then a.lock.opening.header (told_at a) (told_at b) (told_at c) two.begins one.lasts (subst (λ (s : Site). Lasts s.opening.header (told_at b) (told_at c)) lock_is two.lasts);
    }

-- ---- while its group is under way

pub goes_none : (upto : ℕ) (seat : Place) → IfSome seat.unsealed (λ (u : Unsealed). u.last < upto) → GoesOn upto seat seat
goes_none upto seat keeps = record { sees = sees_nothing seat.front seat.number; later = later_none seat; keeps = keeps }

pub goes_then : (upto : ℕ) (a b c : Place) → GoesOn upto a b → GoesOn upto b c → GoesOn upto a c
goes_then upto a b c one two =
    let number : b.number ≡ a.number = ap (λ (x : Place). x.number) one.later.moved_is in
    record { sees = sees_twice a.front b.front c.front a.number one.sees (subst (λ (n : ℕ). SeesMore b.front n c.front) number two.sees); later = later_then a b c one.later two.later; keeps = two.keeps }

pub stored_later : (upto : ℕ) (a b : Place) → GoesOn upto a b → upto ≡ stored_length a.front → upto ≤ stored_length b.front
stored_later upto a b goes is = let more = stored_grows a.front b.front goes.sees.begins in omega arith

pub seen_later : (upto : ℕ) (a b c : Place) → GoesOn upto a b → IsSeen b c → IsSeen a c
seen_later upto a b c goes seen =
    let number : b.number ≡ a.number = ap (λ (x : Place). x.number) goes.later.moved_is in
    let p = goes.later.seals in
    let q = seen.seals in
    record {
      begins = prefix_trans a.front b.front c.front goes.sees.begins seen.begins;
      own = subst (λ (n : ℕ). filter (λ (e : Entry). not (is_breaking e.body)) (entries_by n c.front) ≡ filter (λ (e : Entry). not (is_breaking e.body)) (entries_by n b.front)) number seen.own
          ∙ ap (filter (λ (e : Entry). not (is_breaking e.body))) goes.sees.own;
      seals = omega arith;
      none = seen.none;
    }

pub last_later : {failed : Bool} (upto : ℕ) (opening : Opening) (a b c : Place) → a.lock.opening ≡ opening → GoesOn upto a b → IsLastTurn opening b failed c → IsLastTurn opening a failed c
last_later {failed} upto opening a b c opened goes t = turn_later opening a b c failed opened goes.later t
