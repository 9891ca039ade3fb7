-- Following goes on from one place to another, and ends.
use Rattle.std.proofs.Common.{◌≡◌, ℕ, ◌<◌, ◌≤◌, List, [], ◌∷◌, ◌++◌, length, map, refl, sym, ap, ◌∙◌, subst, inl, arith, length-append}
use Rattle.std.specs.Prelude.{Option}
use Rattle.std.proofs.lemmas.List.{append_assoc, append-nil, map-append}
use Rattle.history_model.specs.History.{Body, Entry, bodies}
use Rattle.bookmark_lock.specs.Opening.{Opening}
use Rattle.reply_model.specs.Log.{LogLine}
use Rattle.reply_model.specs.After.{entry_by}
use Rattle.follower.specs.declared.followed.FollowEnd.{FollowEnd}
use Rattle.follower.specs.Receiving.{IsAhead}
use Rattle.follower.specs.Hearing.{IsPageHeard}
use Rattle.follower.specs.Making.{IsMadeFor, Remains, count, with_done}
use Rattle.follower.specs.Following.{Follows, Ends, Turns, Enters, EndsAt, IsFollowed, waiting}
use Rattle.follower.proofs.Entries.{told_is_stored, bodies-push}
use Rattle.follower.specs.Walking.{Reached, Entered}

-- ---- histories

-- first these, and then those
done_on : (h : List Entry) (one two : List Body) → with_done (with_done h one) two ≡ with_done h (one ++ two)
done_on h one two = append_assoc h (map (entry_by 0) one) (map (entry_by 0) two) ∙ ap (λ es. h ++ es) (sym (map-append (entry_by 0) one two))

-- ---- places

pub begins : (opening : Opening) (h : List Entry) (n : ℕ) (lines : List LogLine) (held : List ℕ) (rest : Option (List ℕ)) → Reached opening h n lines held rest h n lines held rest
begins opening h n lines held rest = record {
  sofar = [];
  history_is = sym (append-nil h);
  entries = sym (append-nil (bodies h));
  seals = λ all. all;
  told = λ bytes ahead. (bytes, ahead, λ end done extra follows. follows);
}

pub goes_on : (opening : Opening) (a b c : List Entry) (na nb nc : ℕ) (ls ms ns : List LogLine) (ha hb hc : List ℕ) (ra rb rc : Option (List ℕ)) → Reached opening a na ls ha ra b nb ms hb rb → Reached opening b nb ms hb rb c nc ns hc rc → Reached opening a na ls ha ra c nc ns hc rc
goes_on opening a b c na nb nc ls ms ns ha hb hc ra rb rc one two = record {
  sofar = one.sofar ++ two.sofar;
  history_is = two.history_is ∙ ap (λ g. with_done g two.sofar) one.history_is ∙ done_on a one.sofar two.sofar;
  entries = two.entries ∙ ap (λ bs. bs ++ two.sofar) one.entries ∙ append_assoc (bodies a) one.sofar two.sofar;
  seals = λ all. two.seals (one.seals all);
  told = λ bytes ahead.
      let first = one.told bytes ahead in
      let second = two.told first.0 first.1 in
      (second.0, second.1, λ end done extra follows. subst (λ ds. Follows opening a bytes ls end ds extra) (sym (append_assoc one.sofar two.sofar done)) (first.2 end (two.sofar ++ done) extra (second.2 end done extra follows)));
}

-- a page with entries was read
pub turns : (opening : Opening) (h : List Entry) (n : ℕ) (lines : List LogLine) (total : ℕ) (held held' : List ℕ) (rest rest' : Option (List ℕ))
    → ((bytes : List ℕ) → IsAhead held rest bytes → IsPageHeard (count h) bytes lines total held' rest') → 0 < length lines → Reached opening h n [] held rest h n lines held' rest'
turns opening h n lines total held held' rest rest' heard some = record {
  sofar = [];
  history_is = sym (append-nil h);
  entries = sym (append-nil (bodies h));
  seals = λ all. all;
  told = λ bytes ahead.
      let page = heard bytes ahead in
      (page.0, page.1, λ end done extra follows. Turns h bytes page.0 lines total end done extra page.2 some follows);
}

-- an entry was made
pub enters : (opening : Opening) (h : List Entry) (n : ℕ) (line : LogLine) (lines : List LogLine) (held held' : List ℕ) (rest rest' : Option (List ℕ)) (after : List Entry) (sealed : ℕ)
    → Entered opening h line held rest after sealed held' rest' → Reached opening h n (line ∷ lines) held rest after sealed lines held' rest'
enters opening h n line lines held held' rest rest' after sealed e = record {
  sofar = e.body ∷ [];
  history_is = e.after_is;
  entries = pushed;
  seals = λ all. (let is = e.sealed_is in let more = ap length pushed ∙ length-append (bodies h) (e.body ∷ []) in omega arith);
  told = λ bytes ahead.
      let came = e.told bytes ahead in (
        came.0,
        came.1,
        λ end done extra follows.
            Enters h bytes came.0 e.fetched line lines e.body end done extra came.2 e.makes (subst (λ g. Follows opening g came.0 lines end done extra) e.after_is follows),
      );
}
  where
    pushed : bodies after ≡ bodies h ++ e.body ∷ []
    pushed = ap bodies e.after_is ∙ bodies-push h e.body (told_is_stored e.body line e.makes.told)

-- ---- ends

-- what remains after an end, seen from the place where it began
remains_from : (extra : List Body) (a b : List Entry) (sofar done : List Body) (after : List Entry) (sealed : ℕ) → bodies b ≡ bodies a ++ sofar → Remains extra b done after sealed → Remains extra a (sofar ++ done) after sealed
remains_from extra a b sofar done after sealed is r = record {
  entries = r.entries ∙ ap (λ bs. bs ++ (done ++ extra)) is ∙ append_assoc (bodies a) sofar (done ++ extra) ∙ ap (λ bs. bodies a ++ bs) (sym (append_assoc sofar done extra));
  apart = (let less = r.apart in let size = ap length is ∙ length-append (bodies a) sofar in let both = length-append sofar done in omega arith);
  whole = r.whole;
}

pub ends_after : (opening : Opening) (a b : List Entry) (na nb : ℕ) (ls ms : List LogLine) (ha hb : List ℕ) (ra rb : Option (List ℕ)) (after : List Entry) (sealed : ℕ) (end : FollowEnd)
    → Reached opening a na ls ha ra b nb ms hb rb → IsFollowed opening b nb ms hb rb after sealed end → IsFollowed opening a na ls ha ra after sealed end
ends_after opening a b na nb ls ms ha hb ra rb after sealed end reached followed = record {
  done = reached.sofar ++ followed.done;
  extra = followed.extra;
  remains = remains_from followed.extra a b reached.sofar followed.done after sealed reached.entries followed.remains;
  few = followed.few;
  made = subst (λ g. IsMadeFor opening.header g followed.extra) (ap (λ g. with_done g followed.done) reached.history_is ∙ done_on a reached.sofar followed.done) followed.made;
  seals = λ all calm.
      let is = followed.seals (reached.seals all) calm in
      let size = ap length reached.entries ∙ length-append (bodies a) reached.sofar in
      let both = length-append reached.sofar followed.done in
      omega arith;
  told = λ bytes ahead.
      let first = reached.told bytes ahead in
      first.2 end followed.done followed.extra (followed.told first.0 first.1);
}

-- it ends at this place, and these wait
pub ends_waiting : (opening : Opening) (h : List Entry) (before : ℕ) (lines : List LogLine) (held : List ℕ) (rest : Option (List ℕ)) (after : List Entry) (sealed : ℕ) (end : FollowEnd) (extra : List Body)
    → Remains extra h [] after sealed → length extra ≤ waiting end → IsMadeFor opening.header h extra → sealed ≡ before → ((bytes : List ℕ) → IsAhead held rest bytes → EndsAt opening h bytes lines end extra) → IsFollowed opening h before lines held rest after sealed end
ends_waiting opening h before lines held rest after sealed end extra remains few made same at = record {
  done = [];
  extra = extra;
  remains = remains;
  few = few;
  made = subst (λ g. IsMadeFor opening.header g extra) (sym (append-nil h)) made;
  seals = λ all calm. omega arith;
  told = λ bytes ahead. Ends h bytes lines end extra (at bytes ahead);
}

-- and none wait
pub ends_here : (opening : Opening) (h : List Entry) (before : ℕ) (lines : List LogLine) (held : List ℕ) (rest : Option (List ℕ)) (after : List Entry) (sealed : ℕ) (end : FollowEnd)
    → Remains [] h [] after sealed → sealed ≡ before → ((bytes : List ℕ) → IsAhead held rest bytes → EndsAt opening h bytes lines end []) → IsFollowed opening h before lines held rest after sealed end
ends_here opening h before lines held rest after sealed end remains same at = ends_waiting opening h before lines held rest after sealed end [] remains (omega arith) (inl refl) same at
