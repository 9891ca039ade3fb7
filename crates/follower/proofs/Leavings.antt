-- What following leaves on the disk.
use Rattle.std.proofs.Common.{◌≡◌, ◌⊎◌, ℕ, zero, suc, ◌+◌, ◌<◌, ◌≤◌, Bool, true, false, List, [], ◌∷◌, ◌++◌, length, take, drop, refl, sym, ap, ◌∙◌, subst, inl, inr, arith, length-append}
use Rattle.std.specs.Prelude.{Option, None, Some, IsTrue}
use Rattle.std.specs.Option.{ForSome}
use Rattle.std.proofs.lemmas.Bool.{cases_lt}
use Rattle.std.proofs.lemmas.List.{append_assoc, append-nil, take-append-drop, take-append-le}
use Rattle.disk_model.specs.Meaning.{Meaning, LeftSince}
use Rattle.disk_model.specs.Images.{IsImage}
use Rattle.history_model.specs.History.{Body, Entry, bodies, is_down}
use Rattle.reply_model.specs.Legal.{IsLegal}
use Rattle.bookmark_lock.specs.Opening.{Opening}
use Rattle.repo_state.specs.Groups.{is_cut, is_cut_off, is_under_way, opens_at, reach_at, reach_of}
use Rattle.repo_state.specs.Images.{sealed_part, StandsFor, StandsNow, StandsSince}
use Rattle.repo_state.specs.State.{State, EndsWithin, IsSound}
use Rattle.repo_state.specs.declared.left.Left.{Left}
use Rattle.repo_state.proofs.GroupParts.{bodies_part, part_legal}
use Rattle.repo_state.proofs.LeftOver.{none_of}
use Rattle.follower.specs.declared.followed.FollowEnd.{FollowEnd}
use Rattle.follower.specs.Making.{count, Remains}
use Rattle.follower.specs.Following.{IsFollowed}
use Rattle.follower.specs.Left.{StandsFollowed, LeavesFollowed, HasFollowed, open_to, opened_at}

take_less : {X : Type 0} (k n : ℕ) (l : List X) → k ≤ n → take k (take n l) ≡ take k l
take_less zero n l less = refl
take_less (suc k) zero l less = absurd (omega (arith, less))
take_less (suc k) (suc n) [] less = refl
take_less (suc k) (suc n) (x ∷ l) less = ap (λ xs. x ∷ xs) (take_less k n l (omega arith))

-- ---- how far a crash may reach

none_open : (n : ℕ) (left : Option Left) → is_under_way left ≡ false → open_to left ≤ n
none_open n None idle = omega arith
none_open n (Some l) idle = by (is_cut l.at) refl
  where
    by : (cut : Bool) → is_cut l.at ≡ cut → opened_at l.upto (is_cut l.at) (opens_at l.at) ≤ n
    by true is = subst (λ cut. opened_at l.upto cut (opens_at l.at) ≤ n) (sym is) (omega arith)
    by false is = subst (λ (left : Option Left). open_to left ≤ n) (sym (none_of (Some l) is idle)) (omega arith)

-- a seal opens no group but such as it ends
pub opens_less : (upto : ℕ) (old new : State) → (upto ≤ old.sealed → new ≡ old) → (old.sealed < upto → is_under_way new.left ≡ false) → open_to new.left ≤ open_to old.left
opens_less upto old new still idle =
    elim (cases_lt old.sealed upto) as (λ _. open_to new.left ≤ open_to old.left) [ inl less ↦ none_open (open_to old.left) new.left (idle less) | inr more ↦ (let same = ap (λ (s : State). open_to s.left) (still more) in omega arith) ]

within_at : (k upto : ℕ) (cut opens : Bool) → upto ≤ k → opened_at upto cut opens ≤ k
within_at k upto true opens most = omega arith
within_at k upto false true most = most
within_at k upto false false most = omega arith

pub open_within : (h : List Entry) (n : ℕ) (left : Option Left) → ForSome left (EndsWithin h n) → open_to left ≤ count h
open_within h n None ends = omega arith
open_within h n (Some l) ends = within_at (count h) l.upto (is_cut l.at) (opens_at l.at) (ends l refl).1

far_at : (n upto : ℕ) (cut opens down : Bool) → cut ≡ down → (reach_at n upto opens ≤ n) ⊎ ((reach_at n upto opens ≤ opened_at upto cut opens) ⊎ (down ≡ true))
far_at n upto true opens down is = inr (inr (sym is))
far_at n upto false true down is = inr (inl (omega arith))
far_at n upto false false down is = inl (omega arith)

-- it reaches no further than what is sealed, or than the group that was opened, unless a seal failed
pub far : (n : ℕ) (left : Option Left) (h : List Entry) → is_cut_off left ≡ is_down h → (reach_of n left ≤ n) ⊎ ((reach_of n left ≤ open_to left) ⊎ (is_down h ≡ true))
far n None h cut = inl (omega arith)
far n (Some l) h cut = far_at n l.upto (is_cut l.at) (opens_at l.at) (is_down h) cut

-- so it reaches no entry but such as were there or were made
reach_done : (extra : List Body) (h : List Entry) (done : List Body) (after : List Entry) (sealed reach gate : ℕ) → Remains extra h done after sealed → gate ≤ count h → reach ≤ count after → (reach ≤ sealed) ⊎ ((reach ≤ gate) ⊎ (is_down after ≡ true)) → reach ≤ count h + length done
reach_done extra h done after sealed reach gate remains few within (inl less) = (let apart = remains.apart in omega arith)
reach_done extra h done after sealed reach gate remains few within (inr (inl less)) = omega arith
reach_done extra h done after sealed reach gate remains few within (inr (inr down)) =
    let all : bodies after ≡ bodies h ++ done = remains.entries ∙ ap (λ bs. bodies h ++ (done ++ bs)) (remains.whole down) ∙ ap (λ bs. bodies h ++ bs) (append-nil done) in
    let size = ap length all ∙ length-append (bodies h) done in
    omega arith

-- ---- images

module _ (opening : Opening) (h after : List Entry) (done extra : List Body) (sealed : ℕ) (remains : Remains extra h done after sealed) (legal : IsLegal opening.header after) (opened : opening.length ≤ count h) where
  -- the first entries
  part_stands : (n : ℕ) (image : List ℕ) → opening.length ≤ n → n ≤ count h + length done → StandsFor opening.header after n image → StandsFollowed opening h done image
  part_stands n image least most stands =
      let front = take n (bodies after) in
      let is : bodies (sealed_part n after) ≡ front = bodies_part n after in
      let split : bodies after ≡ (bodies h ++ done) ++ extra = remains.entries ∙ sym (append_assoc (bodies h) done extra) in
      let within : n ≤ length (bodies h ++ done) = (let both = length-append (bodies h) done in omega arith) in
      let front_is : front ≡ take n (bodies h ++ done) = ap (take n) split ∙ take-append-le n (bodies h ++ done) extra within in
      let opened_is : take opening.length front ≡ take opening.length (bodies h) =
      take_less opening.length n (bodies after) least ∙ ap (take opening.length) remains.entries ∙ take-append-le opening.length (bodies h) (done ++ extra) opened in
      record {
        history = sealed_part n after;
        stands = stands;
        legal = part_legal opening.header n after legal;
        later = drop opening.length front;
        begins = is ∙ sym (take-append-drop opening.length front) ∙ ap (λ bs. bs ++ drop opening.length front) opened_is;
        missing = drop n (bodies h ++ done);
        goes_on = sym (take-append-drop n (bodies h ++ done)) ∙ ap (λ bs. bs ++ drop n (bodies h ++ done)) (sym front_is ∙ sym is);
      }

  module _ (reach : ℕ) (least : opening.length ≤ sealed) (reaches : sealed ≤ reach) (most : reach ≤ count h + length done) where
    stands_now : (image : List ℕ) → StandsNow opening.header after sealed reach image → StandsFollowed opening h done image
    stands_now image stands = elim stands as (λ _. StandsFollowed opening h done image) [ inl part ↦ part_stands sealed image least (omega arith) part | inr whole ↦ part_stands reach image (omega arith) most whole ]

    stands_since : (image : List ℕ) → StandsSince opening.header opening.length after sealed reach image → StandsFollowed opening h done image
    stands_since image stands = elim stands as (λ _. StandsFollowed opening h done image) [ inl part ↦ (let less = part.2 in part_stands part.0 image part.1 (omega arith) part.3) | inr whole ↦ part_stands reach image (omega arith) most whole ]

pub has_followed : (opening : Opening) (h : List Entry) (before : ℕ) (rest : Option (List ℕ)) (after : List Entry) (sealed : ℕ) (left : Option Left) (gate : ℕ) (m : Meaning) (end : FollowEnd) → IsFollowed opening h before [] [] rest after sealed end → IsSound opening after sealed (reach_of sealed left) m → is_cut_off left ≡ is_down after
    → open_to left ≤ gate → gate ≤ count h → opening.length ≤ count h → HasFollowed opening h before rest after sealed m end
has_followed opening h before rest after sealed left gate m end followed sound cut less few opened =
    let reach = reach_of sealed left in
    let within : reach ≤ count after = sound.within in
    let most : reach ≤ count h + length followed.done = reach_done followed.extra h followed.done after sealed reach (open_to left) followed.remains (omega arith) within (far sealed left after cut) in
    record {
      followed = followed;
      leaves = λ honest. record {
        now = λ image is. stands_now opening h after followed.done followed.extra sealed followed.remains sound.legal opened reach sound.begins sound.reaches most image ((sound.leaves honest).now image is);
        since = λ image left. stands_since opening h after followed.done followed.extra sealed followed.remains sound.legal opened reach sound.begins sound.reaches most image ((sound.leaves honest).since image left);
      };
    }
