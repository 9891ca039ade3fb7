-- What comes next of what a server writes.
--     AtPage server h n bytes last      a page
--     AtLine server h n line lines bytes last      what the next entry needs, if it needs something
--     IsAlong h own lines      a history of the server has stored these entries, and then those of which these lines tell
use Rattle.std.proofs.Common.{◌≡◌, ◌⊎◌, ℕ, ◌+◌, ◌<◌, ◌≤◌, ◌^◌, List, [], ◌∷◌, ◌++◌, map, length, inl, inr, refl, sym, ap, subst, ◌∙◌, arith, length-append}
use Rattle.std.specs.Prelude.{IsTrue, None, Some}
use mathlib.Core.List.{IsPrefix}
use Rattle.std.proofs.lemmas.List.{append_assoc, length-map, map-append}
use Rattle.history_model.specs.History.{Body, Entry, unnumbered, bodies, stored}
use Rattle.history_model.specs.Journal.{Header, is_header}
use Rattle.reply_model.specs.Log.{LogLine, log_lines}
use Rattle.reply_model.specs.Legal.{IsLegal}
use Rattle.reply_model.proofs.Fronts.{prefix_then}
use Rattle.reply_model.proofs.Histories.{bodies-append}
use Rattle.follower.specs.declared.wanted.Wanted.{Wanted}
use Rattle.follower.specs.declared.wanted.Wanted.TheVariants.{Page}
use Rattle.follower.specs.Wanting.{wanted_of}
use Rattle.follower.specs.Hearing.{IsPageReply}
use Rattle.follower.specs.Making.{count}
use Rattle.follower_laws.specs.Serving.{IsWritten, HasGrown, Serves, Ends, Turns, Tells, Fetches}
use Rattle.follower_laws.proofs.Stood.{goes_apart}
use Rattle.follower_laws.proofs.Told.{AreTold}
use Rattle.follower_laws.proofs.Pages.{few_stored}
use Rattle.follower_laws.proofs.Replied.{page_replied}

-- ---- apart

pub record Ended (server : Header) (h : List Entry) (n : ℕ) (bytes : List ℕ) (last : List Entry) : Type 0 where
  pub grown : HasGrown server h last
  pub all : length (stored last) ≡ n
  pub text : List ℕ
  pub rest : List ℕ
  pub writes : IsWritten last (Page n) text
  pub bytes_are : bytes ≡ text ++ rest

pub record Turned (server : Header) (h : List Entry) (n : ℕ) (bytes : List ℕ) (last : List Entry) : Type 0 where
  pub now : List Entry
  pub grown : HasGrown server h now
  pub some : n < length (stored now)
  pub text : List ℕ
  pub rest : List ℕ
  pub writes : IsWritten now (Page n) text
  pub bytes_are : bytes ≡ text ++ rest
  pub serves : Serves server now n (log_lines now n) rest last

abbrev pub AtPage : Header → List Entry → ℕ → List ℕ → List Entry → Type 0
AtPage server h n bytes last = Ended server h n bytes last ⊎ Turned server h n bytes last

pub at_page : (server : Header) (h : List Entry) (n : ℕ) (bytes : List ℕ) (last : List Entry) → Serves server h n [] bytes last → AtPage server h n bytes last
at_page server h n bytes last (Ends _ _ _ _ text rest grown all writes is) = inl (record { grown = grown; all = all; text = text; rest = rest; writes = writes; bytes_are = is })
at_page server h n bytes last (Turns _ now _ _ _ text rest grown some writes is serves) =
    inr (record { now = now; grown = grown; some = some; text = text; rest = rest; writes = writes; bytes_are = is; serves = serves })

pub record Fetched (server : Header) (h : List Entry) (n : ℕ) (line : LogLine) (lines : List LogLine) (bytes : List ℕ) (last : List Entry) : Type 0 where
  pub now : List Entry
  pub wanted : Wanted
  pub asks : wanted_of n line ≡ Some wanted
  pub grown : HasGrown server h now
  pub text : List ℕ
  pub rest : List ℕ
  pub writes : IsWritten now wanted text
  pub bytes_are : bytes ≡ text ++ rest
  pub serves : Serves server now (n + 1) lines rest last

pub record NotFetched (server : Header) (h : List Entry) (n : ℕ) (line : LogLine) (lines : List LogLine) (bytes : List ℕ) (last : List Entry) : Type 0 where
  pub asks : wanted_of n line ≡ None
  pub serves : Serves server h (n + 1) lines bytes last

abbrev pub AtLine : Header → List Entry → ℕ → LogLine → List LogLine → List ℕ → List Entry → Type 0
AtLine server h n line lines bytes last = NotFetched server h n line lines bytes last ⊎ Fetched server h n line lines bytes last

pub at_line : (server : Header) (h : List Entry) (n : ℕ) (line : LogLine) (lines : List LogLine) (bytes : List ℕ) (last : List Entry) → Serves server h n (line ∷ lines) bytes last → AtLine server h n line lines bytes last
at_line server h n line lines bytes last (Tells _ _ _ _ _ _ asks serves) = inl (record { asks = asks; serves = serves })
at_line server h n line lines bytes last (Fetches _ now _ _ _ _ wanted _ text rest asks grown writes is serves) =
    inr (record { now = now; wanted = wanted; asks = asks; grown = grown; text = text; rest = rest; writes = writes; bytes_are = is; serves = serves })

-- ---- histories that grow

grown_then : (server : Header) (h g last : List Entry) → HasGrown server h g → HasGrown server g last → HasGrown server h last
grown_then server h g last one two = record { more = prefix_then h g last one.more two.more; legal = two.legal }

pub grown_to : (server : Header) {h : List Entry} {n : ℕ} {lines : List LogLine} {bytes : List ℕ} {last : List Entry} → Serves server h n lines bytes last → HasGrown server h last
grown_to server (Ends h last n bytes text rest grown all writes is) = grown
grown_to server (Turns h g last n bytes text rest grown some writes is serves) = grown_then server h g last grown (grown_to server serves)
grown_to server (Tells h last n line lines bytes asks serves) = grown_to server serves
grown_to server (Fetches h g last n line lines wanted bytes text rest asks grown writes is serves) = grown_then server h g last grown (grown_to server serves)

pub legal_before : (server : Header) (h last : List Entry) → HasGrown server h last → IsLegal server h
legal_before server h last grown = (goes_apart server [] h grown.more.0 (subst (IsLegal server) (sym grown.more.1) grown.legal)).0

-- ---- the same entries

pub record IsAlong (h own : List Entry) (lines : List LogLine) : Type 0 where
  pub now : List Body
  pub later : List Body
  pub entries : bodies h ≡ bodies own ++ (now ++ later)
  pub told : AreTold now lines

pub more_along : (server : Header) (h g own : List Entry) (lines : List LogLine) → HasGrown server h g → IsAlong h own lines → IsAlong g own lines
more_along server h g own lines grown along =
    let more = bodies grown.more.0 in
    record {
      now = along.now;
      later = along.later ++ more;
      entries = ap bodies (sym grown.more.1) ∙ bodies-append h grown.more.0 ∙ ap (λ (bs : List Body). bs ++ more) along.entries
          ∙ append_assoc (bodies own) (along.now ++ along.later) more ∙ ap (λ (bs : List Body). bodies own ++ bs) (append_assoc along.now along.later more);
      told = along.told;
    }

body_back : (bs : List Body) → map (λ (e : Entry). e.body) (map unnumbered bs) ≡ bs
body_back [] = refl
body_back (b ∷ bs) = ap (λ cs. b ∷ cs) (body_back bs)

pub along_first : (h own : List Entry) → IsPrefix (stored own) (stored h) → IsAlong h own []
along_first h own front =
    let body_of : Entry → Body = λ e. e.body in
    record {
      now = [];
      later = map body_of front.0;
      entries = sym (body_back (bodies h)) ∙ ap (map body_of) (sym front.1) ∙ map-append body_of (stored own) front.0 ∙ ap (λ (bs : List Body). bs ++ map body_of front.0) (body_back (bodies own));
      told = tt;
    }

pub front_of : (h own : List Entry) (lines : List LogLine) → IsAlong h own lines → IsPrefix (stored own) (stored h)
front_of h own lines along =
    (map unnumbered (along.now ++ along.later), sym (map-append unnumbered (bodies own) (along.now ++ along.later)) ∙ ap (map unnumbered) (sym along.entries))

-- ---- the server's page

pub record IsPageOf (now own : List Entry) (bytes rest : List ℕ) : Type 0 where
  pub along : IsAlong now own []
  pub page : IsPageReply (count own) bytes (log_lines now (count own)) (length (stored now)) rest
  pub below : count own ≤ length (stored now)
  pub small : count own < 2 ^ 64

pub record HasPage (own : List Entry) (bytes : List ℕ) : Type 0 where
  pub now : List Entry
  pub rest : List ℕ
  pub is : IsPageOf now own bytes rest

pub page_of : (server : Header) (h g own : List Entry) (bytes text rest : List ℕ) → IsTrue (is_header server) → HasGrown server h g → IsAlong h own [] → IsWritten g (Page (count own)) text → bytes ≡ text ++ rest → IsPageOf g own bytes rest
page_of server h g own bytes text rest fits grown along writes is =
    let further = more_along server h g own [] grown along in
    let behind = further.now ++ further.later in
    let small = few_stored server g fits grown.legal in
    let len : length (stored g) ≡ count own + length behind = length-map (bodies g) unnumbered ∙ ap length further.entries ∙ length-append (bodies own) behind in
    record {
      along = further;
      page = subst (λ (bs : List ℕ). IsPageReply (count own) bs (log_lines g (count own)) (length (stored g)) rest) (sym is) (page_replied server g (bodies own) behind text rest fits grown.legal further.entries writes);
      below = omega arith;
      small = omega arith;
    }
