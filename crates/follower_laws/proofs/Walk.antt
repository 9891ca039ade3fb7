-- Following a server that keeps its rules.
use Rattle.std.proofs.Common.{◌≡◌, ℕ, ◌+◌, ◌<◌, Bool, true, false, List, [], ◌∷◌, ◌++◌, length, inl, inr, refl, sym, ap, subst, ◌∙◌, arith, length-append}
use Rattle.std.specs.Prelude.{IsTrue, Option, None, Some, slice_get, ◌||◌}
use Rattle.std.specs.Option.{option_and_then}
use Rattle.std.proofs.lemmas.List.{append_assoc, append-nil, length-map}
use Rattle.changeset_model.specs.Version.{Second}
use Rattle.history_model.specs.History.{Body, Content, Whole, Change, Book, Land, Policy, Fault, Entry, is_breaking, unnumbered, bodies, stored, is_down}
use Rattle.history_model.specs.Journal.{Header, is_header}
use Rattle.bookmark_lock.specs.Opening.{Opening}
use Rattle.reply_model.specs.Log.{LogLine, line_of, log_lines}
use Rattle.reply_model.specs.Legal.{IsLegal}
use Rattle.reply_model.specs.After.{entry_by, Answer, Grants, Refuses, Shows, Lacks, Roots, DiskFault, ReadFault, BadBytes, NodeCollision, Memory, Made}
use Rattle.reply_model.proofs.Histories.{bodies-append}
use Rattle.follower.specs.declared.followed.FollowEnd.{FollowEnd}
use Rattle.follower.specs.declared.followed.FollowEnd.TheVariants as ends
use Rattle.follower.specs.declared.wanted.Wanted.{Wanted}
use Rattle.follower.specs.Wanting.{wanted_of, IsAnswered, IsFetched, IsUnfetched}
use Rattle.follower.specs.Hearing.{IsPageReply}
use Rattle.follower.specs.Making.{count, Makes, IsAnother}
use Rattle.follower.specs.Following.{Follows, EndsBetween, EndsInside, EndsAt}
use Rattle.follower.specs.Following as following
use Rattle.follower_laws.specs.Again.{IsAgain, IsFetchFor, MayDiffer}
use Rattle.follower_laws.specs.Serving.{Serves}
use Rattle.follower_laws.specs.Endings.{EndsWell, HasFollowedWell}
use Rattle.follower_laws.proofs.Answered.{Setting, answered_again, made_same}
use Rattle.follower_laws.proofs.Stood.{stood_at, at_its_place}
use Rattle.follower_laws.proofs.Told.{AreTold}
use Rattle.follower_laws.proofs.Pages.{page_shown}
use Rattle.follower_laws.proofs.Replied.{wanted_by, wanted_told, entry_replied}
use Rattle.follower_laws.proofs.Unique.{answered_once, page_replied_once}
use Rattle.follower_laws.proofs.Steps.{Ended, AtPage, at_page, Fetched, NotFetched, AtLine, at_line, grown_to, legal_before, IsAlong, more_along, front_of, HasPage, page_of}

-- ---- at a page

pub page_at : (server : Header) (h own : List Entry) (bytes : List ℕ) (last : List Entry) → IsTrue (is_header server) → IsAlong h own [] → AtPage server h (count own) bytes last → HasPage own bytes
page_at server h own bytes last fits along (inl e) = record { now = last; rest = e.rest; is = page_of server h last own bytes e.text e.rest fits e.grown along e.writes e.bytes_are }
page_at server h own bytes last fits along (inr t) = record { now = t.now; rest = t.rest; is = page_of server h t.now own bytes t.text t.rest fits t.grown along t.writes t.bytes_are }

between : (opening : Opening) (own : List Entry) (bytes : List ℕ) (all : List Body) (end : FollowEnd) → HasPage own bytes → EndsBetween opening own bytes end → EndsWell opening.honest own all end
between opening own bytes all ends.Same page at = tt
between opening own bytes all ends.LinkFault page at = tt
between opening own bytes all (ends.BadReply number) page at = absurd (at.1 (log_lines page.now (count own)) (length (stored page.now)) page.rest page.is.page)
between opening own bytes all (ends.Differs number) page at =
    let same = page_replied_once (count own) bytes [] (log_lines page.now (count own)) number (length (stored page.now)) at.1 page.rest page.is.small at.2 page.is.page in
    absurd (let total = same.total_is in let below = page.is.below in let less = at.0 in omega arith)
between opening own bytes all (ends.Full number) page at = absurd at
between opening own bytes all ends.DiskFault page at = tt
between opening own bytes all ends.OldFormat page at = tt
between opening own bytes all ends.Memory page at = tt

-- a page that tells of none is the last one
no_lines : (server : Header) (h own : List Entry) (bytes : List ℕ) (last : List Entry) (lines : List LogLine) (total : ℕ) (rest : List ℕ) → IsTrue (is_header server) → IsAlong h own [] → Ended server h (count own) bytes last → IsPageReply (count own) bytes lines total rest → 0 < length lines → ⊥
no_lines server h own bytes last lines total rest fits along e page some =
    let has = page_of server h last own bytes e.text e.rest fits e.grown along e.writes e.bytes_are in
    let further = more_along server h last own [] e.grown along in
    let behind = further.now ++ further.later in
    let same = page_replied_once (count own) bytes lines (log_lines last (count own)) total (length (stored last)) rest e.rest has.small page has.page in
    let shown = page_shown server last (bodies own) behind e.grown.legal further.entries in
    let len : length (stored last) ≡ count own + length behind = length-map (bodies last) unnumbered ∙ ap length further.entries ∙ length-append (bodies own) behind in
    let all = e.all in
    let within = shown.within in
    let few = ap length same.lines_are in
    absurd (omega arith)

-- ---- at an entry

record Next (server : Header) (h own : List Entry) (line : LogLine) (lines : List LogLine) : Type 0 where
  body : Body
  now : List Body
  later : List Body
  entries : bodies h ≡ bodies own ++ body ∷ (now ++ later)
  told : line_of body ≡ Some line
  rest : AreTold now lines

next_by : (server : Header) (h own : List Entry) (line : LogLine) (lines : List LogLine) (now later : List Body) → bodies h ≡ bodies own ++ (now ++ later) → AreTold now (line ∷ lines) → Next server h own line lines
next_by server h own line lines [] later entries told = absurd told
next_by server h own line lines (b ∷ now) later entries told = record { body = b; now = now; later = later; entries = entries; told = told.0; rest = told.1 }

next_of : (server : Header) (h own : List Entry) (line : LogLine) (lines : List LogLine) → IsAlong h own (line ∷ lines) → Next server h own line lines
next_of server h own line lines along = next_by server h own line lines along.now along.later along.entries along.told

setting : (server header : Header) (h own : List Entry) (line : LogLine) (lines : List LogLine) (fetched : List ℕ) → IsLegal server h → header.version ≡ Second → is_down own ≡ false → (next : Next server h own line lines) → IsFetchFor next.body fetched → Setting server header own next.body fetched
setting server header h own line lines fetched legal second up next fetch =
    record { follows = (stood_at server h (bodies own) (next.now ++ next.later) next.body legal next.entries).follows; second = second; up = up; fetch = fetch }

needs_none : (b : Body) (number : ℕ) (line : LogLine) (fetched : List ℕ) → line_of b ≡ Some line → wanted_by number b ≡ None → IsFetchFor b fetched
needs_none (Content x n) number line fetched told none = absurd cc
needs_none (Whole x n parts) number line fetched told none = tt
needs_none (Change c) number line fetched told none = absurd cc
needs_none (Book move) number line fetched told none = tt
needs_none (Land landing) number line fetched told none = tt
needs_none (Policy caller text) number line fetched told none = absurd cc
needs_none (Fault breaking) number line fetched told none = absurd (let is = told in cc)

-- the server's history at an entry, with what it needs
record HasEntry (server : Header) (own : List Entry) (line : LogLine) (lines : List LogLine) (bytes : List ℕ) (last : List Entry) : Type 0 where
  now : List Entry
  legal : IsLegal server now
  next : Next server now own line lines
  fetched : List ℕ
  rest : List ℕ
  fetch : IsFetchFor next.body fetched
  serves : Serves server now (count own + 1) lines rest last
  -- and nothing else is fetched
  found : IsUnfetched (wanted_of (count own) line) bytes → ⊥
  only : (other left : List ℕ) → IsFetched (wanted_of (count own) line) bytes other left → IsFetchFor next.body other × (left ≡ rest)

entry_told : (server : Header) (h own : List Entry) (line : LogLine) (lines : List LogLine) (bytes : List ℕ) (last : List Entry) → IsAlong h own (line ∷ lines) → NotFetched server h (count own) line lines bytes last → HasEntry server own line lines bytes last
entry_told server h own line lines bytes last along not =
    let next = next_of server h own line lines along in
    let none : wanted_by (count own) next.body ≡ None = wanted_told next.body (count own) line next.told ∙ not.asks in
    record {
      now = h;
      legal = legal_before server h last (grown_to server not.serves);
      next = next;
      fetched = [];
      rest = bytes;
      fetch = needs_none next.body (count own) line [] next.told none;
      serves = not.serves;
      found = λ un. subst (λ (o : Option Wanted). IsUnfetched o bytes) not.asks un;
      only = λ other left f. (needs_none next.body (count own) line other next.told none, (subst (λ (o : Option Wanted). IsFetched o bytes other left) not.asks f).1);
    }

entry_fetched : (server : Header) (h own : List Entry) (line : LogLine) (lines : List LogLine) (bytes : List ℕ) (last : List Entry) → IsAlong h own (line ∷ lines) → Fetched server h (count own) line lines bytes last → HasEntry server own line lines bytes last
entry_fetched server h own line lines bytes last along f =
    let next = next_of server f.now own line lines (more_along server h f.now own (line ∷ lines) f.grown along) in
    let replied = entry_replied server f.now (bodies own) (next.now ++ next.later) next.body f.wanted f.text f.rest f.grown.legal next.entries (wanted_told next.body (count own) line next.told ∙ f.asks) f.writes in
    let answered : IsAnswered f.wanted bytes replied.0 f.rest = subst (λ (bs : List ℕ). IsAnswered f.wanted bs replied.0 f.rest) (sym f.bytes_are) replied.1 in
    record {
      now = f.now;
      legal = f.grown.legal;
      next = next;
      fetched = replied.0;
      rest = f.rest;
      fetch = replied.2;
      serves = f.serves;
      found = λ un. subst (λ (o : Option Wanted). IsUnfetched o bytes) f.asks un replied.0 f.rest answered;
      only = λ other left g. (
          let once = answered_once f.wanted bytes replied.0 other f.rest left answered (subst (λ (o : Option Wanted). IsFetched o bytes other left) f.asks g) in
          (subst (IsFetchFor next.body) once.0 replied.2, sym once.1)
          );
    }

entry_at : (server : Header) (h own : List Entry) (line : LogLine) (lines : List LogLine) (bytes : List ℕ) (last : List Entry) → IsAlong h own (line ∷ lines) → AtLine server h (count own) line lines bytes last → HasEntry server own line lines bytes last
entry_at server h own line lines bytes last along (inl not) = entry_told server h own line lines bytes last along not
entry_at server h own line lines bytes last along (inr f) = entry_fetched server h own line lines bytes last along f

-- another answer than the page's is that of an entry that may differ
differs_only : (honest : Bool) (b : Body) (line : LogLine) (answer : Answer) (made : Made) → line_of b ≡ Some line → IsAgain b answer made → IsAnother honest line made answer → MayDiffer honest b
differs_only honest b line (Grants granted) made told (inl same) other = absurd (other (ap (option_and_then line_of) same ∙ told))
differs_only honest b line (Grants granted) made told (inr two) other = inl two
differs_only honest b line (Refuses refusal) made told again other = absurd (other again)
differs_only honest b line (BadBytes wanted found) made told again other = inr (other, again)
differs_only honest b line DiskFault made told again other = absurd other
differs_only honest b line ReadFault made told again other = absurd other
differs_only honest b line Memory made told again other = absurd other
differs_only honest b line (Shows seen) made told again other = absurd other
differs_only honest b line (Lacks absent) made told again other = absurd other
differs_only honest b line (Roots fs un gone) made told again other = absurd other
differs_only honest b line (NodeCollision x) made told again other = absurd other

inside : (server : Header) (opening : Opening) (own : List Entry) (line : LogLine) (lines : List LogLine) (bytes : List ℕ) (last : List Entry) (end : FollowEnd) → opening.header.version ≡ Second → is_down own ≡ false → (has : HasEntry server own line lines bytes last) → slice_get (bodies last) (count own) ≡ Some has.next.body → (extra : List Body) → EndsInside opening own bytes line end extra → EndsWell opening.honest own (bodies last) end
inside server opening own line lines bytes last ends.Same second up has here extra at = tt
inside server opening own line lines bytes last ends.LinkFault second up has here extra at = tt
inside server opening own line lines bytes last (ends.BadReply number) second up has here extra at = absurd (has.found at.2)
inside server opening own line lines bytes last (ends.Differs number) second up has here extra at =
    let fetch = (has.only at.1 at.2 at.3).0 in
    let other = at.4 in
    let again = answered_again server opening.header own has.next.body line at.1 other.answered.answer other.answered.made (setting server opening.header has.now own line lines at.1 has.legal second up has.next fetch) has.next.told other.answered.answers in
    (at.0, has.next.body, ap (slice_get (bodies last)) at.0 ∙ here, differs_only opening.honest has.next.body line other.answered.answer other.answered.made has.next.told again other.another)
inside server opening own line lines bytes last (ends.Full number) second up has here extra at = tt
inside server opening own line lines bytes last ends.DiskFault second up has here extra at = tt
inside server opening own line lines bytes last ends.OldFormat second up has here extra at = tt
inside server opening own line lines bytes last ends.Memory second up has here extra at = tt

-- it stands at its place in what the server has stored in the end
place_of : (server : Header) (own : List Entry) (line : LogLine) (lines : List LogLine) (bytes : List ℕ) (last : List Entry) → (has : HasEntry server own line lines bytes last) → slice_get (bodies last) (count own) ≡ Some has.next.body
place_of server own line lines bytes last has =
    let grown = grown_to server has.serves in
    let later = (has.next.now ++ has.next.later) ++ bodies grown.more.0 in
    let all : bodies last ≡ bodies own ++ has.next.body ∷ later =
    ap bodies (sym grown.more.1) ∙ bodies-append has.now grown.more.0 ∙ ap (λ (bs : List Body). bs ++ bodies grown.more.0) has.next.entries
    ∙ append_assoc (bodies own) (has.next.body ∷ (has.next.now ++ has.next.later)) (bodies grown.more.0) in
    ap (λ (bs : List Body). slice_get bs (count own)) all ∙ at_its_place (bodies own) later has.next.body

-- ---- from the end on

ended : (server : Header) (opening : Opening) (h own : List Entry) (lines : List LogLine) (bytes : List ℕ) (last : List Entry) (end : FollowEnd) → IsTrue (is_header server) → opening.header.version ≡ Second → is_down own ≡ false → Serves server h (count own) lines bytes last → IsAlong h own lines → (extra : List Body) → EndsAt opening own bytes lines end extra → HasFollowedWell opening.honest own [] last end
ended server opening h own [] bytes last end fits second up serves along extra at = record {
  reached = own;
  reached_is = sym (append-nil (bodies own));
  front = front_of last own [] (more_along server h last own [] (grown_to server serves) along);
  well = between opening own bytes (bodies last) end (page_at server h own bytes last fits along (at_page server h (count own) bytes last serves)) at.1;
}
ended server opening h own (line ∷ lines) bytes last end fits second up serves along extra at =
    let has = entry_at server h own line lines bytes last along (at_line server h (count own) line lines bytes last serves) in
    record {
      reached = own;
      reached_is = sym (append-nil (bodies own));
      front = front_of last own (line ∷ lines) (more_along server h last own (line ∷ lines) (grown_to server serves) along);
      well = inside server opening own line lines bytes last end second up has (place_of server own line lines bytes last has) extra at;
    }

-- ---- one entry more

still_up : (own : List Entry) (b : Body) (line : LogLine) → line_of b ≡ Some line → is_down own ≡ false → is_down (own ++ entry_by 0 b ∷ []) ≡ false
still_up [] b line told up = calm b line told
  where
    calm : (b : Body) (line : LogLine) → line_of b ≡ Some line → (is_breaking b || false) ≡ false
    calm (Content x n) line told = refl
    calm (Whole x n parts) line told = refl
    calm (Change c) line told = refl
    calm (Book move) line told = refl
    calm (Land landing) line told = refl
    calm (Policy caller text) line told = refl
    calm (Fault breaking) line told = absurd cc
still_up (e ∷ own) b line told up = by (is_breaking e.body) up (still_up own b line told)
  where
    by : (t : Bool) → (t || is_down own) ≡ false → (is_down own ≡ false → is_down (own ++ entry_by 0 b ∷ []) ≡ false) → (t || is_down (own ++ entry_by 0 b ∷ [])) ≡ false
    by true e f = absurd cc
    by false e f = f e

one_more : (own : List Entry) (b : Body) (line : LogLine) → line_of b ≡ Some line → bodies (own ++ entry_by 0 b ∷ []) ≡ bodies own ++ b ∷ []
one_more own b line told = bodies-append own (entry_by 0 b ∷ []) ∙ ap (λ (bs : List Body). bodies own ++ bs) (by b line told)
  where
    by : (b : Body) (line : LogLine) → line_of b ≡ Some line → bodies (entry_by 0 b ∷ []) ≡ b ∷ []
    by (Content x n) line told = refl
    by (Whole x n parts) line told = refl
    by (Change c) line told = refl
    by (Book move) line told = refl
    by (Land landing) line told = refl
    by (Policy caller text) line told = refl
    by (Fault breaking) line told = absurd cc

counts_more : (own : List Entry) (b : Body) (line : LogLine) → line_of b ≡ Some line → count (own ++ entry_by 0 b ∷ []) ≡ count own + 1
counts_more own b line told = ap length (one_more own b line told) ∙ length-append (bodies own) (b ∷ [])

along_more : (server : Header) (h own : List Entry) (line : LogLine) (lines : List LogLine) (next : Next server h own line lines) (found : Body) → found ≡ next.body → line_of found ≡ Some line → IsAlong h (own ++ entry_by 0 found ∷ []) lines
along_more server h own line lines next found same told = record {
  now = next.now;
  later = next.later;
  entries = next.entries ∙ ap (λ (c : Body). bodies own ++ c ∷ (next.now ++ next.later)) (sym same) ∙ sym (append_assoc (bodies own) (found ∷ []) (next.now ++ next.later))
      ∙ ap (λ (bs : List Body). bs ++ (next.now ++ next.later)) (sym (one_more own found line told));
  told = next.rest;
}

entered : (opening : Opening) (own : List Entry) (found : Body) (line : LogLine) (done : List Body) (last : List Entry) (end : FollowEnd) → line_of found ≡ Some line → HasFollowedWell opening.honest (own ++ entry_by 0 found ∷ []) done last end → HasFollowedWell opening.honest own (found ∷ done) last end
entered opening own found line done last end told well = record {
  reached = well.reached;
  reached_is = well.reached_is ∙ ap (λ (bs : List Body). bs ++ done) (one_more own found line told) ∙ append_assoc (bodies own) (found ∷ []) done;
  front = well.front;
  well = well.well;
}

-- ---- all of it

turned : (server : Header) (opening : Opening) (h own : List Entry) (bytes : List ℕ) (last : List Entry) (lines : List LogLine) (total : ℕ) (rest : List ℕ) (done : List Body) (end : FollowEnd) → IsTrue (is_header server) → IsAlong h own [] → IsPageReply (count own) bytes lines total rest → 0 < length lines
    → ((g : List Entry) → Serves server g (count own) lines rest last → IsAlong g own lines → HasFollowedWell opening.honest own done last end) → AtPage server h (count own) bytes last → HasFollowedWell opening.honest own done last end
turned server opening h own bytes last lines total rest done end fits along page some go (inl e) = absurd (no_lines server h own bytes last lines total rest fits along e page some)
turned server opening h own bytes last lines total rest done end fits along page some go (inr t) =
    let has = page_of server h t.now own bytes t.text t.rest fits t.grown along t.writes t.bytes_are in
    let further = more_along server h t.now own [] t.grown along in
    let behind = further.now ++ further.later in
    let same = page_replied_once (count own) bytes lines (log_lines t.now (count own)) total (length (stored t.now)) rest t.rest has.small page has.page in
    let shown = page_shown server t.now (bodies own) behind t.grown.legal further.entries in
    let serves : Serves server t.now (count own) lines rest last =
    subst (λ (ls : List LogLine). Serves server t.now (count own) ls rest last) (sym same.lines_are) (subst (λ (bs : List ℕ). Serves server t.now (count own) (log_lines t.now (count own)) bs last) (sym same.rest_is) t.serves) in
    go t.now serves (record {
      now = shown.now;
      later = shown.later;
      entries = further.entries ∙ ap (λ (bs : List Body). bodies own ++ bs) shown.rest_is;
      told = subst (AreTold shown.now) (sym same.lines_are) shown.told;
    })

made_more : (server : Header) (opening : Opening) (own : List Entry) (bytes rest fetched : List ℕ) (line : LogLine) (lines : List LogLine) (found : Body) (done : List Body) (last : List Entry) (end : FollowEnd) → opening.header.version ≡ Second → is_down own ≡ false → IsFetched (wanted_of (count own) line) bytes fetched rest → Makes opening.header own line fetched found
    → ((g : List Entry) → is_down (own ++ entry_by 0 found ∷ []) ≡ false → Serves server g (count (own ++ entry_by 0 found ∷ [])) lines rest last → IsAlong g (own ++ entry_by 0 found ∷ []) lines → HasFollowedWell opening.honest (own ++ entry_by 0 found ∷ []) done last end)
    → HasEntry server own line lines bytes last → HasFollowedWell opening.honest own (found ∷ done) last end
made_more server opening own bytes rest fetched line lines found done last end second up fetch makes go has =
    let only = has.only fetched rest fetch in
    let same = made_same server opening.header own has.next.body found line fetched (setting server opening.header has.now own line lines fetched has.legal second up has.next only.0) has.next.told makes in
    let serves : Serves server has.now (count (own ++ entry_by 0 found ∷ [])) lines rest last =
    subst (λ (n : ℕ). Serves server has.now n lines rest last) (sym (counts_more own found line makes.told)) (subst (λ (bs : List ℕ). Serves server has.now (count own + 1) lines bs last) (sym only.1) has.serves) in
    entered opening own found line done last end makes.told (go has.now (still_up own found line makes.told up) serves (along_more server has.now own line lines has.next found same makes.told))

pub walk : (server : Header) (opening : Opening) → IsTrue (is_header server) → opening.header.version ≡ Second → {own : List Entry} {bytes : List ℕ} {lines : List LogLine} {end : FollowEnd} {done extra : List Body} → Follows opening own bytes lines end done extra → (h last : List Entry) → is_down own ≡ false → Serves server h (count own) lines bytes last → IsAlong h own lines → HasFollowedWell opening.honest own done last end
walk server opening fits second (following.Ends own bytes lines end extra at) h last up serves along = ended server opening h own lines bytes last end fits second up serves along extra at
walk server opening fits second (following.Turns own bytes rest lines total end done extra page some follows) h last up serves along =
    turned server opening h own bytes last lines total rest done end fits along page some (λ g serves along. walk server opening fits second follows g last up serves along) (at_page server h (count own) bytes last serves)
walk server opening fits second (following.Enters own bytes rest fetched line lines found end done extra fetch makes follows) h last up serves along =
    made_more server opening own bytes rest fetched line lines found done last end second up fetch makes
    (λ g up serves along. walk server opening fits second follows g last up serves along)
    (entry_at server h own line lines bytes last along (at_line server h (count own) line lines bytes last serves))
