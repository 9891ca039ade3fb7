-- A file that follows a server.
use Rattle.std.proofs.Common.{◌≡◌, ℕ, List, [], ◌++◌, map, refl, sym, ap, ◌∙◌, subst, arith}
use Rattle.std.specs.Prelude.{IsTrue, Some}
use mathlib.Core.List.{IsPrefix}
use Rattle.std.proofs.lemmas.List.{append-nil, map-append, nil_from_length}
use Rattle.disk_model.specs.Images.{IsImage}
use Rattle.disk_model.specs.Meaning.{Meaning}
use Rattle.bookmark_lock.specs.Opening.{Opening}
use Rattle.history_model.specs.History.{Body, Entry, unnumbered, bodies, stored}
use Rattle.history_model.specs.Journal.{Header, Stands}
use Rattle.reply_model.proofs.Fronts.{prefix_then}
use Rattle.follower.specs.declared.followed.FollowEnd.{FollowEnd}
use Rattle.follower.specs.Following.{Follows, waiting}
use Rattle.follower.specs.Left.{HasFollowed, StandsFollowed}
use Rattle.follower_laws.specs.Endings.{HasFollowedWell, IsBehind}
use Rattle.follower_laws.proofs.Steps.{along_first}
use Rattle.follower_laws.proofs.Walk.{walk}

pub followed_well : (own : Opening) (server : Header) (h from last : List Entry) (bytes : List ℕ) (end : FollowEnd) (done extra : List Body) → IsBehind own.header server h from bytes last → Follows own h bytes [] end done extra → HasFollowedWell own.honest h done last end
followed_well own server h from last bytes end done extra behind follows = walk server own behind.header behind.second follows from last behind.up behind.serves (along_first from h behind.front)

pub file_ends : (opening : Opening) (server : Header) (h from last after : List Entry) (before sealed : ℕ) (bytes : List ℕ) (m : Meaning) (end : FollowEnd) → IsBehind opening.header server h from bytes last → (f : HasFollowed opening h before (Some bytes) after sealed m end) → HasFollowedWell opening.honest h f.followed.done last end
file_ends opening server h from last after before sealed bytes m end behind f = followed_well opening server h from last bytes end f.followed.done f.followed.extra behind (f.followed.told bytes refl)

front_stands : (opening : Opening) (h last : List Entry) (done : List Body) (image : List ℕ) (end : FollowEnd) → StandsFollowed opening h done image → HasFollowedWell opening.honest h done last end → (history : List Entry) × Stands opening.header image history × IsPrefix (stored history) (stored last)
front_stands opening h last done image end s well =
    let same : bodies s.history ++ s.missing ≡ bodies well.reached = sym s.goes_on ∙ sym well.reached_is in
    let front : IsPrefix (stored s.history) (stored well.reached) = (map unnumbered s.missing, sym (map-append unnumbered (bodies s.history) s.missing) ∙ ap (map unnumbered) same) in
    (s.history, s.stands, prefix_then (stored s.history) (stored well.reached) (stored last) front well.front)

pub file_images : (opening : Opening) (server : Header) (h from last after : List Entry) (before sealed : ℕ) (bytes image : List ℕ) (m : Meaning) (end : FollowEnd) → IsBehind opening.header server h from bytes last → HasFollowed opening h before (Some bytes) after sealed m end → IsTrue m.honest → IsImage m.state image → (history : List Entry) × Stands opening.header image history × IsPrefix (stored history) (stored last)
file_images opening server h from last after before sealed bytes image m end behind f honest i =
    front_stands opening h last f.followed.done image end ((f.leaves honest).now image i) (file_ends opening server h from last after before sealed bytes m end behind f)

-- where nothing waits, all that is stored is a front
pub file_stays : (opening : Opening) (server : Header) (h from last after : List Entry) (before sealed : ℕ) (bytes : List ℕ) (m : Meaning) (end : FollowEnd) → IsBehind opening.header server h from bytes last → HasFollowed opening h before (Some bytes) after sealed m end → waiting end ≡ 0 → IsPrefix (stored after) (stored last)
file_stays opening server h from last after before sealed bytes m end behind f none =
    let well = file_ends opening server h from last after before sealed bytes m end behind f in
    let done = f.followed.done in
    let remains = f.followed.remains in
    let few = f.followed.few in
    let extra : f.followed.extra ≡ [] = nil_from_length f.followed.extra (omega arith) in
    let all : bodies after ≡ bodies well.reached =
    remains.entries ∙ ap (λ (bs : List Body). bodies h ++ (done ++ bs)) extra ∙ ap (λ (bs : List Body). bodies h ++ bs) (append-nil done) ∙ sym well.reached_is in
    subst (λ (bs : List Body). IsPrefix (map unnumbered bs) (stored last)) (sym all) well.front
