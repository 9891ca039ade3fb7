-- What a server writes is a reply to the question.
use Rattle.std.proofs.Common.{◌≡◌, ℕ, ◌+◌, ◌≤◌, false, List, ◌∷◌, ◌++◌, map, length, refl, sym, ap, subst, ◌∙◌, arith, length-append}
use Rattle.std.specs.Prelude.{IsTrue, Option, None, Some, Result, Ok, Err, MatchOption, ok_or}
use Rattle.std.proofs.lemmas.List.{length-map}
use Rattle.byte_fields.specs.Bytes.{Id, IsContent}
use Rattle.byte_fields.proofs.Booleans.{same_some}
use Rattle.changeset_model.specs.Changeset.{Changeset, id_of, spelling, most_content, most_encoded}
use Rattle.history_model.specs.History.{Body, Content, Whole, Change, Book, Land, Policy, Fault, Entry, unnumbered, bodies, stored, content_len}
use Rattle.history_model.specs.Journal.{Header, is_header}
use Rattle.reply_model.specs.Legal.{IsLegal}
use Rattle.reply_model.specs.Log.{LogLine, line_of, log_lines}
use Rattle.reply_model.specs.Reply.{Ask, PutContent, PutWhole, PutChangeset, SetBookmark, LandDraft, SetPolicy, ◌>>=◌, Seen, SeenBytes, Absent, AbsentContent, AbsentChangeset, NoPolicy, seen_log}
use Rattle.reply_model.specs.After.{Looks}
use Rattle.session_model.specs.Responses.{Response, text_of}
use Rattle.session_model.specs.Bodies.{log_body}
use Rattle.session_model.specs.Asking.{response}
use Rattle.reply_reader.specs.Replies.{IsReply}
use Rattle.reply_reader.specs.Fronts.{response_reply}
use Rattle.reply_reader.proofs.Written.{written_reply}
use Rattle.opening_laws.proofs.Made.{MadeBy, is_made}
use Rattle.opening_laws.proofs.Rules.{uploadable_of_next}
use Rattle.follower.specs.declared.wanted.Wanted.{Wanted}
use Rattle.follower.specs.declared.wanted.Wanted.TheVariants as wants
use Rattle.follower.specs.Wanting.{IsAnswered, wanted_of, limit_of}
use Rattle.follower.specs.Hearing.{IsPageReply}
use Rattle.follower_laws.specs.Again.{IsFetchFor}
use Rattle.follower_laws.specs.Serving.{IsWritten, question_of, answer_of}
use Rattle.follower_laws.proofs.Stood.{stood_at}
use Rattle.follower_laws.proofs.Kept.{content_kept, changeset_kept, policy_kept}
use Rattle.follower_laws.proofs.Lengths.{page_len}
use Rattle.follower_laws.proofs.Pages.{page_shown, few_stored, counted, all_told}

-- the response to a question that is answered so
abbrev response_to : Wanted → Result Seen Absent → Response
response_to wanted result = response (Looks (question_of wanted)) (answer_of result)

written : (h : List Entry) (wanted : Wanted) (text rest : List ℕ) (result : Result Seen Absent) (w : IsWritten h wanted text) → w.result ≡ result → (response_to wanted result).allow ≡ None → length (response_to wanted result).body ≤ limit_of wanted → limit_of wanted ≤ 67108864 → IsReply (limit_of wanted) (text ++ rest) (response_reply (response_to wanted result)) rest
written h wanted text rest result w is allow short most =
    subst (λ (t : List ℕ). IsReply (limit_of wanted) (t ++ rest) (response_reply (response_to wanted result)) rest)
    (sym (w.text_is ∙ ap (λ (r : Result Seen Absent). text_of (response_to wanted r) w.close false) is))
    (written_reply (limit_of wanted) (response_to wanted result) None w.close rest allow short most)

-- ---- a page

pub page_replied : (server : Header) (h : List Entry) (before rest : List Body) (text last : List ℕ) → IsTrue (is_header server) → IsLegal server h → bodies h ≡ before ++ rest → IsWritten h (wants.Page (length before)) text → IsPageReply (length before) (text ++ last) (log_lines h (length before)) (length (stored h)) last
page_replied server h before rest text last fits legal e w =
    let n = length before in
    let lines = log_lines h n in
    let total = length (stored h) in
    let shown = page_shown server h before rest legal e in
    let small = few_stored server h fits legal in
    let total_is : total ≡ n + length rest = length-map (bodies h) unnumbered ∙ ap length e ∙ length-append before rest in
    let within = shown.within in
    let short = page_len n lines total (omega arith) small shown.few shown.well in (
      log_body n lines total,
      written h (wants.Page n) text last (Ok (seen_log h n)) w w.sees refl short (omega arith),
      record { text_is = refl; told = all_told lines shown.well; counts = counted before rest lines total shown total_is; small = small },
    )

-- ---- what an entry needs

abbrev IsReplied : Header → List Entry → Wanted → Body → List ℕ → List ℕ → Type 0
IsReplied server h wanted body text last = (fetched : List ℕ) × IsAnswered wanted (text ++ last) fetched last × IsFetchFor body fetched

content_seen : (x : Id) (n : ℕ) (len : Option ℕ) (result : Result Seen Absent) → len ≡ Some n → MatchOption len (result ≡ Err (AbsentContent x)) (λ n. (bytes : List ℕ) × (result ≡ Ok (SeenBytes bytes)) × IsContent x n bytes) → (bytes : List ℕ) × (result ≡ Ok (SeenBytes bytes)) × IsContent x n bytes
content_seen x n len result e sees = subst (λ (o : Option ℕ). MatchOption o (result ≡ Err (AbsentContent x)) (λ n. (bytes : List ℕ) × (result ≡ Ok (SeenBytes bytes)) × IsContent x n bytes)) e sees

abbrev IsShortBody : Body → Type 0
IsShortBody (Content x n) = n ≤ most_content
IsShortBody (Whole x n parts) = Unit {0}
IsShortBody (Change c) = Unit {0}
IsShortBody (Book move) = Unit {0}
IsShortBody (Land landing) = Unit {0}
IsShortBody (Policy caller text) = length text ≤ 65536
IsShortBody (Fault breaking) = Unit {0}

abbrev changeset_shown : Id → Option Changeset → Result Seen Absent
changeset_shown x o = do
  c ← ok_or o (AbsentChangeset x)
  Ok (SeenBytes (spelling c))

abbrev policy_shown : Option (List ℕ) → Result Seen Absent
policy_shown o = do
  text ← ok_or o NoPolicy
  Ok (SeenBytes text)

abbrev pub wanted_by : ℕ → Body → Option Wanted
wanted_by number (Content x n) = Some (wants.Content x)
wanted_by number (Whole x n parts) = None
wanted_by number (Change c) = Some (wants.Changeset (id_of c))
wanted_by number (Book move) = None
wanted_by number (Land landing) = None
wanted_by number (Policy caller text) = Some (wants.Policy number)
wanted_by number (Fault breaking) = None

pub wanted_told : (b : Body) (number : ℕ) (line : LogLine) → line_of b ≡ Some line → wanted_by number b ≡ wanted_of number line
wanted_told (Content x n) number line e = ap (wanted_of number) (same_some _ line e)
wanted_told (Whole x n parts) number line e = ap (wanted_of number) (same_some _ line e)
wanted_told (Change c) number line e = ap (wanted_of number) (same_some _ line e)
wanted_told (Book move) number line e = ap (wanted_of number) (same_some _ line e)
wanted_told (Land landing) number line e = ap (wanted_of number) (same_some _ line e)
wanted_told (Policy caller text) number line e = ap (wanted_of number) (same_some _ line e)
wanted_told (Fault breaking) number line e = absurd cc

content_short : (h : List Entry) (ask : Ask) (x : Id) (n : ℕ) → MadeBy h ask (Content x n) → n ≤ most_content
content_short h (PutContent bytes) x n m = subst (λ (b : Body). IsShortBody b) (sym m.1) m.0
content_short h (PutWhole body pieces) x n m = absurd (let is = m.3 in cc)
content_short h (PutChangeset bytes) x n m = absurd (let is = m.3 in cc)
content_short h (SetBookmark caller name from to) x n m = absurd (let is = m.0 in cc)
content_short h (LandDraft caller name draft moment) x n m = absurd (let is = m.8 in cc)
content_short h (SetPolicy caller text) x n m = absurd (let is = m.0 in cc)

policy_short : (h : List Entry) (ask : Ask) (caller text : List ℕ) → MadeBy h ask (Policy caller text) → length text ≤ 65536
policy_short h (PutContent bytes) caller text m = absurd (let is = m.1 in cc)
policy_short h (PutWhole body pieces) caller text m = absurd (let is = m.3 in cc)
policy_short h (PutChangeset bytes) caller text m = absurd (let is = m.3 in cc)
policy_short h (SetBookmark who name from to) caller text m = absurd (let is = m.0 in cc)
policy_short h (LandDraft who name draft moment) caller text m = absurd (let is = m.8 in cc)
policy_short h (SetPolicy who given) caller text m = subst (λ (b : Body). IsShortBody b) (sym m.0) m.1

content_replied : (server : Header) (h : List Entry) (before later : List Body) (x : Id) (n : ℕ) (text last : List ℕ) → IsLegal server h → bodies h ≡ before ++ Content x n ∷ later → IsWritten h (wants.Content x) text → IsReplied server h (wants.Content x) (Content x n) text last
content_replied server h before later x n text last legal e w =
    let stood = stood_at server h before later (Content x n) legal e in
    let made = is_made server (map unnumbered before) (Content x n) refl stood.follows in
    let short = content_short (map unnumbered before) made.ask x n made.made in
    let seen = content_seen x n (content_len h x) w.result (content_kept server h before later x n legal e) w.sees in
    let len = seen.2.1 in
    (seen.0, written h (wants.Content x) text last (Ok (SeenBytes seen.0)) w seen.1 refl (omega arith) (omega arith), seen.2)

changeset_replied : (server : Header) (h : List Entry) (before later : List Body) (c : Changeset) (text last : List ℕ) → IsLegal server h → bodies h ≡ before ++ Change c ∷ later → IsWritten h (wants.Changeset (id_of c)) text → IsReplied server h (wants.Changeset (id_of c)) (Change c) text last
changeset_replied server h before later c text last legal e w =
    let stood = stood_at server h before later (Change c) legal e in
    let good = (uploadable_of_next server (map unnumbered before) (Change c) stood.legal refl stood.follows).0 in
    let short : length (spelling c) ≤ most_encoded = good.short in
    (spelling c, written h (wants.Changeset (id_of c)) text last (Ok (SeenBytes (spelling c))) w (w.sees ∙ ap (changeset_shown (id_of c)) (changeset_kept server h before later c legal e)) refl (omega arith) (omega arith), refl)

policy_replied : (server : Header) (h : List Entry) (before later : List Body) (caller given text last : List ℕ) → IsLegal server h → bodies h ≡ before ++ Policy caller given ∷ later → IsWritten h (wants.Policy (length before)) text → IsReplied server h (wants.Policy (length before)) (Policy caller given) text last
policy_replied server h before later caller given text last legal e w =
    let stood = stood_at server h before later (Policy caller given) legal e in
    let made = is_made server (map unnumbered before) (Policy caller given) refl stood.follows in
    let short = policy_short (map unnumbered before) made.ask caller given made.made in
    (given, written h (wants.Policy (length before)) text last (Ok (SeenBytes given)) w (w.sees ∙ ap policy_shown (policy_kept h before later caller given e)) refl (omega arith) (omega arith), refl)

pub entry_replied : (server : Header) (h : List Entry) (before later : List Body) (body : Body) (wanted : Wanted) (text last : List ℕ) → IsLegal server h → bodies h ≡ before ++ body ∷ later → wanted_by (length before) body ≡ Some wanted → IsWritten h wanted text → IsReplied server h wanted body text last
entry_replied server h before later (Content x n) wanted text last legal e asks w =
    let is = same_some (wants.Content x) wanted asks in
    subst (λ (q : Wanted). IsReplied server h q (Content x n) text last) is (content_replied server h before later x n text last legal e (subst (λ (q : Wanted). IsWritten h q text) (sym is) w))
entry_replied server h before later (Change c) wanted text last legal e asks w =
    let is = same_some (wants.Changeset (id_of c)) wanted asks in
    subst (λ (q : Wanted). IsReplied server h q (Change c) text last) is (changeset_replied server h before later c text last legal e (subst (λ (q : Wanted). IsWritten h q text) (sym is) w))
entry_replied server h before later (Policy caller given) wanted text last legal e asks w =
    let is = same_some (wants.Policy (length before)) wanted asks in
    subst (λ (q : Wanted). IsReplied server h q (Policy caller given) text last) is (policy_replied server h before later caller given text last legal e (subst (λ (q : Wanted). IsWritten h q text) (sym is) w))
entry_replied server h before later (Whole x n parts) wanted text last legal e asks w = absurd cc
entry_replied server h before later (Book move) wanted text last legal e asks w = absurd cc
entry_replied server h before later (Land landing) wanted text last legal e asks w = absurd cc
entry_replied server h before later (Fault breaking) wanted text last legal e asks w = absurd cc
