-- What one step of following does.
use Rattle.std.proofs.Common.{◌≡◌, ◌≢◌, ℕ, ◌+◌, ◌<◌, ◌≤◌, Bool, true, false, List, [], ◌∷◌, ◌++◌, length, get_or, drop, suc, refl, sym, ap, ◌∙◌, subst, inl, inr, arith}
use Rattle.std.specs.Prelude.{Option, None, Some, Err, ◌==◌, if◌then◌else◌}
use Rattle.std.specs.Option.{option_to_list}
use mathlib.Core.Bool.{true≢false}
use Rattle.std.proofs.lemmas.Bool.{eq-eqb, eqb-true}
use Rattle.std.proofs.Math.Numerals.{lt_of_le_of_ne}
use Rattle.history_model.specs.History.{Body, Entry}
use Rattle.std.proofs.Math.Seq.{drop-cons}
use Rattle.std.proofs.Math.ListN.{drop_of_length-le}
use Rattle.std.proofs.lemmas.List.{length-map}
use Rattle.history_model.specs.Journal.{Header, size}
use Rattle.bookmark_lock.specs.Opening.{Opening}
use Rattle.reply_model.specs.Log.{LogLine}
use Rattle.reply_model.specs.After.{entry_by}
use Rattle.repo_calls.specs.Calls.{line_seen, lines_seen}
use Rattle.repo_calls.specs.declared.log.LogEntry.{LogEntry}
use Rattle.follower.specs.declared.followed.FollowEnd.{FollowEnd}
use Rattle.follower.specs.declared.followed.FollowEnd.TheVariants as ends
use Rattle.follower.specs.declared.inbox.HearFault.{HearFault}
use Rattle.follower.specs.declared.inbox.HearFault.TheVariants.{LinkFault, BadReply, Memory}
use Rattle.follower.specs.declared.replayed.Replayed.{Replayed}
use Rattle.follower.specs.declared.replayed.Replayed.TheVariants as replays
use Rattle.follower.specs.Wanting.{wanted_of}
use Rattle.follower.specs.Receiving.{IsAhead}
use Rattle.follower.specs.Hearing.{HearsFetched, HearsPage, IsPageHeard, IsPageReply}
use Rattle.follower.specs.Making.{count, MadeFor, Remains, HasGrown}
use Rattle.follower.specs.Following.{Ends, Enters, EndsAt, IsFollowed}
use Rattle.follower.specs.Replaying.{IsReplayed, IsAtMost}
use Rattle.follower.specs.Walking.{Reached, ComesFrom, Entered, GoesOver, GoesInside, Further, GoesOn, heard_end, replayed_end, page_end}
use Rattle.follower.proofs.Entries.{still}
use Rattle.follower.proofs.Room.{grows_on, has_grown, less_room}
use Rattle.follower.proofs.Walked.{ends_after, ends_here, ends_waiting, enters, goes_on, turns}

-- ---- at an entry

at_entry : (opening : Opening) (h : List Entry) (line : LogLine) (held held' : List ℕ) (rest rest' : Option (List ℕ)) (sealed : ℕ) (fault : HearFault)
    → ((bytes : List ℕ) → IsAhead held rest bytes → HearsFetched (wanted_of (count h) line) bytes held' rest' (Err fault)) → sealed ≤ count h → (lines : List LogLine) → IsFollowed opening h sealed (line ∷ lines) held rest h sealed (heard_end (count h) fault)
at_entry opening h line held held' rest rest' sealed LinkFault told most lines = ends_here opening h sealed (line ∷ lines) held rest h sealed ends.LinkFault (still h h sealed refl most) refl (λ bytes ahead. refl)
at_entry opening h line held held' rest rest' sealed BadReply told most lines = ends_here opening h sealed (line ∷ lines) held rest h sealed (ends.BadReply (count h)) (still h h sealed refl most) refl (λ bytes ahead. (refl, refl, told bytes ahead))
at_entry opening h line held held' rest rest' sealed Memory told most lines = ends_here opening h sealed (line ∷ lines) held rest h sealed ends.Memory (still h h sealed refl most) refl (λ bytes ahead. inl refl)

-- nothing was heard for it
pub unheard_entry : (opening : Opening) (h : List Entry) (line : LogLine) (held held' : List ℕ) (rest rest' : Option (List ℕ)) (sealed number : ℕ) (fault : HearFault) → number ≡ count h
    → ((bytes : List ℕ) → IsAhead held rest bytes → HearsFetched (wanted_of number line) bytes held' rest' (Err fault)) → sealed ≤ count h → (lines : List LogLine) → IsFollowed opening h sealed (line ∷ lines) held rest h sealed (heard_end number fault)
unheard_entry opening h line held held' rest rest' sealed number fault is told most lines =
    subst (λ n. IsFollowed opening h sealed (line ∷ lines) held rest h sealed (heard_end n fault)) (sym is)
    (at_entry opening h line held held' rest rest' sealed fault (subst (λ n. (bytes : List ℕ) → IsAhead held rest bytes → HearsFetched (wanted_of n line) bytes held' rest' (Err fault)) is told) most lines)

disk_anywhere : (opening : Opening) (h : List Entry) (bytes : List ℕ) (lines : List LogLine) → EndsAt opening h bytes lines ends.DiskFault []
disk_anywhere opening h bytes [] = (refl, tt)
disk_anywhere opening h bytes (line ∷ lines) = refl

few_made : (entry : Option Body) → length (option_to_list entry) ≤ 1
few_made None = omega arith
few_made (Some body) = omega arith

few_for : (header : Header) (h : List Entry) (line : LogLine) (fetched : List ℕ) (extra : List Body) → MadeFor header h line fetched extra → length extra ≤ 1
few_for header h line fetched extra m = subst (λ es. length es ≤ 1) (sym m.extra_is) (few_made m.made.entry)

module _ (opening : Opening) (h : List Entry) (before : ℕ) (line : LogLine) (held held' : List ℕ) (rest rest' : Option (List ℕ)) (after : List Entry) (sealed : ℕ) (fetched : List ℕ)
    (came : (bytes : List ℕ) → IsAhead held rest bytes → ComesFrom (count h) line bytes fetched held' rest') where
  at_disk : (lines : List LogLine) (done : List Body) → IsAtMost opening h line fetched done → Remains [] h done after sealed → IsFollowed opening h before (line ∷ lines) held rest after sealed ends.DiskFault
  at_disk lines [] is remains = record { done = []; extra = []; remains = remains; few = omega arith; made = inl refl; seals = λ all calm. absurd (calm refl); told = λ bytes ahead. Ends h bytes (line ∷ lines) ends.DiskFault [] refl }
  at_disk lines (body ∷ []) makes remains = record {
    done = body ∷ [];
    extra = [];
    remains = remains;
    few = omega arith;
    made = inl refl;
    seals = λ all calm. absurd (calm refl);
    told = λ bytes ahead.
        let from = came bytes ahead in
        Enters h bytes from.0 fetched line lines body ends.DiskFault [] [] from.2 makes (Ends (h ++ entry_by 0 body ∷ []) from.0 lines ends.DiskFault [] (disk_anywhere opening (h ++ entry_by 0 body ∷ []) from.0 lines));
  }
  at_disk lines (body ∷ next ∷ later) is remains = absurd is

  pub went_over : (replayed : Replayed) → IsReplayed opening h line fetched after sealed replayed → (replayed ≢ replays.Same → replayed ≢ replays.DiskFault → sealed ≡ before) → GoesOver opening h before line held rest after sealed held' rest' (replayed_end (count h) replayed)
  went_over replays.Same r kept = record { body = r.0; fetched = fetched; makes = r.1; after_is = r.2; sealed_is = r.3; told = came }
  went_over replays.Differs r kept = λ lines. ends_waiting opening h before (line ∷ lines) held rest after sealed (ends.Differs (count h)) r.0 r.2 (few_for opening.header h line fetched r.0 r.1.answered) (inr (line, fetched, r.1.answered)) (kept (λ is. absurd cc) (λ is. absurd cc))
      (λ bytes ahead. (refl, fetched, (came bytes ahead).0, (came bytes ahead).2, r.1))
  went_over replays.Full r kept = λ lines. ends_here opening h before (line ∷ lines) held rest after sealed (ends.Full (count h)) r.1 (kept (λ is. absurd cc) (λ is. absurd cc))
      (λ bytes ahead. (refl, refl, fetched, (came bytes ahead).0, (came bytes ahead).2, r.0))
  went_over replays.DiskFault r kept = λ lines. at_disk lines r.0 r.1 r.2
  went_over replays.Memory r kept = λ lines. ends_waiting opening h before (line ∷ lines) held rest after sealed ends.Memory r.0 r.2 (few_for opening.header h line fetched r.0 r.1) (inr (line, fetched, r.1)) (kept (λ is. absurd cc) (λ is. absurd cc))
      (λ bytes ahead. inr (fetched, (came bytes ahead).0, (came bytes ahead).2, r.1))

-- it was fetched, and replayed
pub replayed_entry : (opening : Opening) (h : List Entry) (before : ℕ) (line : LogLine) (held held' : List ℕ) (rest rest' : Option (List ℕ)) (after : List Entry) (sealed number : ℕ) (fetched : List ℕ) (replayed : Replayed) → number ≡ count h
    → ((bytes : List ℕ) → IsAhead held rest bytes → ComesFrom number line bytes fetched held' rest') → IsReplayed opening h line fetched after sealed replayed → (replayed ≢ replays.Same → replayed ≢ replays.DiskFault → sealed ≡ before) → GoesOver opening h before line held rest after sealed held' rest' (replayed_end number replayed)
replayed_entry opening h before line held held' rest rest' after sealed number fetched replayed is came so kept =
    subst (λ n. GoesOver opening h before line held rest after sealed held' rest' (replayed_end n replayed)) (sym is)
    (went_over opening h before line held held' rest rest' after sealed fetched (subst (λ n. (bytes : List ℕ) → IsAhead held rest bytes → ComesFrom n line bytes fetched held' rest') is came) replayed so kept)

-- ---- at a question for a page

between : (opening : Opening) (h : List Entry) (held held' : List ℕ) (rest rest' : Option (List ℕ)) (sealed : ℕ) (fault : HearFault)
    → ((bytes : List ℕ) → IsAhead held rest bytes → HearsPage (count h) bytes held' rest' (Err fault)) → sealed ≤ count h → IsFollowed opening h sealed [] held rest h sealed (heard_end (count h) fault)
between opening h held held' rest rest' sealed LinkFault told most = ends_here opening h sealed [] held rest h sealed ends.LinkFault (still h h sealed refl most) refl (λ bytes ahead. (refl, tt))
between opening h held held' rest rest' sealed BadReply told most = ends_here opening h sealed [] held rest h sealed (ends.BadReply (count h)) (still h h sealed refl most) refl (λ bytes ahead. (refl, (refl, told bytes ahead)))
between opening h held held' rest rest' sealed Memory told most = ends_here opening h sealed [] held rest h sealed ends.Memory (still h h sealed refl most) refl (λ bytes ahead. (refl, tt))

-- no page was heard
pub unheard_page : (opening : Opening) (h : List Entry) (held held' : List ℕ) (rest rest' : Option (List ℕ)) (sealed number : ℕ) (fault : HearFault) → number ≡ count h
    → ((bytes : List ℕ) → IsAhead held rest bytes → HearsPage number bytes held' rest' (Err fault)) → sealed ≤ count h → IsFollowed opening h sealed [] held rest h sealed (heard_end number fault)
unheard_page opening h held held' rest rest' sealed number fault is told most =
    subst (λ n. IsFollowed opening h sealed [] held rest h sealed (heard_end n fault)) (sym is)
    (between opening h held held' rest rest' sealed fault (subst (λ n. (bytes : List ℕ) → IsAhead held rest bytes → HearsPage n bytes held' rest' (Err fault)) is told) most)

-- a page without entries was heard
pub empty_page : (opening : Opening) (h : List Entry) (held held' : List ℕ) (rest rest' : Option (List ℕ)) (sealed number total : ℕ) → number ≡ count h
    → ((bytes : List ℕ) → IsAhead held rest bytes → IsPageHeard number bytes [] total held' rest') → sealed ≤ count h → IsFollowed opening h sealed [] held rest h sealed (page_end number total)
empty_page opening h held held' rest rest' sealed number total is heard most = by (total == number) refl
  where
    here : (bytes : List ℕ) → IsAhead held rest bytes → IsPageHeard (count h) bytes [] total held' rest'
    here = subst (λ n. (bytes : List ℕ) → IsAhead held rest bytes → IsPageHeard n bytes [] total held' rest') is heard

    below : (bytes : List ℕ) → IsAhead held rest bytes → total ≤ count h
    below bytes ahead = elim ((here bytes ahead).2.2.counts) as (λ _. total ≤ count h) [ inl some ↦ absurd (let none = some.0 in omega arith) | inr none ↦ none.1 ]

    differ : (total == number) ≡ false → total ≢ count h
    differ other e = true≢false (sym (eq-eqb total number (e ∙ sym is)) ∙ other)

    by : (b : Bool) → (total == number) ≡ b → IsFollowed opening h sealed [] held rest h sealed (if b then ends.Same else ends.Differs total)
    by true same = ends_here opening h sealed [] held rest h sealed ends.Same (still h h sealed refl most) refl
        (λ bytes ahead. (refl, ((here bytes ahead).0, subst (λ n. IsPageReply (count h) bytes [] n (here bytes ahead).0) (eqb-true total number same ∙ is) (here bytes ahead).2)))
    by false other = ends_here opening h sealed [] held rest h sealed (ends.Differs total) (still h h sealed refl most) refl
        (λ bytes ahead. (refl, (lt_of_le_of_ne (below bytes ahead) (differ other), (here bytes ahead).0, (here bytes ahead).2)))

-- ---- over the entries of a page

module _ (opening : Opening) (h0 now : List Entry) (n0 n : ℕ) (all : List LogEntry) (i : ℕ) (x : LogEntry) (held0 held : List ℕ) (rest0 rest : Option (List ℕ)) (less : i < length all) (is : x ≡ get_or all i x)
    (reached : Reached opening h0 n0 (lines_seen all) held0 rest0 now n (lines_seen (drop i all)) held rest) (opening' : Opening) (same : opening' ≡ opening) where
  next_line : lines_seen (drop i all) ≡ line_seen x ∷ lines_seen (drop (i + 1) all)
  next_line =
      let next : suc i ≡ i + 1 = omega arith in
      ap lines_seen (drop-cons all i x less) ∙ ap (λ y. line_seen y ∷ lines_seen (drop (suc i) all)) (sym is)
      ∙ ap (λ n. line_seen x ∷ lines_seen (drop n all)) next

  here : Reached opening h0 n0 (lines_seen all) held0 rest0 now n (line_seen x ∷ lines_seen (drop (i + 1) all)) held rest
  here = subst (λ ls. Reached opening h0 n0 (lines_seen all) held0 rest0 now n ls held rest) next_line reached

  -- it was made
  pub entry_on : (after : List Entry) (sealed : ℕ) (held' : List ℕ) (rest' : Option (List ℕ)) → Entered opening' now (line_seen x) held rest after sealed held' rest' → Reached opening h0 n0 (lines_seen all) held0 rest0 after sealed (lines_seen (drop (i + 1) all)) held' rest'
  entry_on after sealed held' rest' entered =
      goes_on opening h0 now after n0 n sealed (lines_seen all) (line_seen x ∷ lines_seen (drop (i + 1) all)) (lines_seen (drop (i + 1) all)) held0 held held' rest0 rest rest' here
      (enters opening now n (line_seen x) (lines_seen (drop (i + 1) all)) held held' rest rest' after sealed (subst (λ o. Entered o now (line_seen x) held rest after sealed held' rest') same entered))

  -- following ends at it
  pub entry_end : (after : List Entry) (sealed : ℕ) (end : FollowEnd) → ((lines : List LogLine) → IsFollowed opening' now n (line_seen x ∷ lines) held rest after sealed end) → IsFollowed opening h0 n0 (lines_seen all) held0 rest0 after sealed end
  entry_end after sealed end followed =
      ends_after opening h0 now n0 n (lines_seen all) (line_seen x ∷ lines_seen (drop (i + 1) all)) held0 held rest0 rest after sealed end here
      (subst (λ o. IsFollowed o now n (line_seen x ∷ lines_seen (drop (i + 1) all)) held rest after sealed end) same (followed (lines_seen (drop (i + 1) all))))

-- one entry more was made
pub grown_on : (opening opening' : Opening) (h0 now after : List Entry) (line : LogLine) (held held' : List ℕ) (rest rest' : Option (List ℕ)) (sealed i : ℕ) → opening' ≡ opening → HasGrown opening.header h0 now i → Entered opening' now line held rest after sealed held' rest' → HasGrown opening.header h0 after (i + 1)
grown_on opening opening' h0 now after line held held' rest rest' sealed i same grown entered =
    let more = has_grown opening'.header now after line entered.fetched entered.body entered.makes entered.after_is in
    grows_on opening.header h0 now after i grown more.0 (subst (λ (o : Opening). size after ≤ o.header.capacity) same more.1)

-- all were made
pub page_done : (opening : Opening) (h0 now : List Entry) (n0 : ℕ) (all : List LogEntry) (i : ℕ) (held0 held : List ℕ) (rest0 rest : Option (List ℕ)) (sealed : ℕ) → i ≡ length all → Reached opening h0 n0 (lines_seen all) held0 rest0 now sealed (lines_seen (drop i all)) held rest → HasGrown opening.header h0 now i
    → GoesInside opening h0 n0 (lines_seen all) held0 rest0 now sealed held rest None
page_done opening h0 now n0 all i held0 held rest0 rest sealed is reached grown = (
  subst (λ ls. Reached opening h0 n0 (lines_seen all) held0 rest0 now sealed ls held rest) (ap lines_seen (drop_of_length-le all (omega arith))) reached,
  subst (HasGrown opening.header h0 now) (is ∙ sym (length-map all line_seen)) grown,
)

-- ---- over pages

pub page_goes : (opening : Opening) (h : List Entry) (before : ℕ) (lines : List LogLine) (total : ℕ) (held held1 held' : List ℕ) (rest rest1 rest' : Option (List ℕ)) (after : List Entry) (sealed : ℕ) (end : Option FollowEnd)
    → ((bytes : List ℕ) → IsAhead held rest bytes → IsPageHeard (count h) bytes lines total held1 rest1) → 0 < length lines → GoesInside opening h before lines held1 rest1 after sealed held' rest' end → GoesOn opening h before held rest after sealed held' rest' end
page_goes opening h before lines total held held1 held' rest rest1 rest' after sealed None heard some inside = record {
  reached = goes_on opening h h after before before sealed [] lines [] held held1 held' rest rest1 rest' (turns opening h before lines total held held1 rest rest1 heard some) inside.0;
  less = less_room opening.header h after (length lines) inside.1 some;
}
page_goes opening h before lines total held held1 held' rest rest1 rest' after sealed (Some end) heard some inside =
    ends_after opening h h before before [] lines held held1 rest rest1 after sealed end (turns opening h before lines total held held1 rest rest1 heard some) inside

module _ (opening opening' : Opening) (h0 now : List Entry) (n0 n : ℕ) (held0 held : List ℕ) (rest0 rest : Option (List ℕ)) (same : opening' ≡ opening) (reached : Reached opening h0 n0 [] held0 rest0 now n [] held rest) where
  pub pages_on : (after : List Entry) (sealed : ℕ) (held' : List ℕ) (rest' : Option (List ℕ)) → Further opening' now n held rest after sealed held' rest' → Reached opening h0 n0 [] held0 rest0 after sealed [] held' rest'
  pages_on after sealed held' rest' further =
      goes_on opening h0 now after n0 n sealed [] [] [] held0 held held' rest0 rest rest' reached (subst (λ o. Further o now n held rest after sealed held' rest') same further).reached

  pub pages_end : (after : List Entry) (sealed : ℕ) (end : FollowEnd) → IsFollowed opening' now n [] held rest after sealed end → IsFollowed opening h0 n0 [] held0 rest0 after sealed end
  pages_end after sealed end followed = ends_after opening h0 now n0 n [] [] held0 held rest0 rest after sealed end reached (subst (λ o. IsFollowed o now n [] held rest after sealed end) same followed)
