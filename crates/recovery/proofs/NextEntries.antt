-- The entry that a change with a payload makes: it is stored, and as long as the payload.
use Rattle.std.proofs.Common.{◌≡◌, ℕ, ◌+◌, ◌<◌, true, cond, List, [], ◌∷◌, ◌++◌, length, drop, sym, ap, subst, ◌∙◌, arith}
use Rattle.std.specs.Prelude.{None, Some, Err, bytes_eq}
use Rattle.std.specs.Option.{option_and_then}
use Rattle.std.specs.Result.{result_ok}
use Rattle.std.proofs.lemmas.Bool.{lt-ltb}
use Rattle.std.proofs.lemmas.Slice.Eq.{bytes_eq-Decides}
use Rattle.byte_fields.specs.Reading.{keeping, read}
use Rattle.changeset_model.proofs.Accepting.{keeping_ok}
use Rattle.history_model.specs.History.{Body, Entry, is_stored, unnumbered}
use Rattle.history_model.specs.Journal.{Header, most_payload, payload, payload_len, record_len, size}
use Rattle.history_model.specs.Payload.{body as read_body}
use Rattle.reply_model.specs.Reply.{is_ask, Ask, PutContent, PutWhole, PutChangeset, SetBookmark, LandDraft, SetPolicy, Judged, judge}
use Rattle.reply_model.specs.Opening.{ask_of, made_by, next_entry}
use Rattle.reply_model.proofs.Histories.{size-push}
use Rattle.opening_laws.proofs.Made.{MadeBy, MakesEach, Fitting, judge_makes}
use Rattle.byte_fields.proofs.Booleans.{ok_some}
use Rattle.reply_model.proofs.Opened.{then_some}
use Rattle.recovery.specs.Entering.{asked_entry}

-- what the change makes has the payload
record IsAsked (h : List Entry) (bytes : List ℕ) (ask : Ask) (body : Body) : Type 0 where
  made : MadeBy h ask body
  same : payload body (drop 1 bytes) ≡ bytes

is_asked : (header : Header) (h : List Entry) (bytes : List ℕ) (ask : Ask) (body : Body) → asked_entry header h bytes ask ≡ Some body → IsAsked h bytes ask body
is_asked header h bytes ask body e =
    let a = then_some (made_by header h bytes) (keeping (is_ask h) ask) body e in
    let k = keeping_ok (is_ask h) ask a.0 a.1 in
    let m = then_some (λ body. keeping (λ body. bytes_eq (payload body (drop 1 bytes)) bytes) body) (option_and_then (λ judged. judged.made) (result_ok (judge header h a.0))) body a.2 in
    let j = then_some {X = Judged} {Y = Body} (λ judged. judged.made) (result_ok (judge header h a.0)) m.0 m.1 in
    let kept = keeping_ok (λ body. bytes_eq (payload body (drop 1 bytes)) bytes) m.0 body m.2 in
    let made = subst (MakesEach (Fitting header h (MadeBy h a.0))) (ok_some (judge header h a.0) j.0 j.1) (judge_makes header h a.0) m.0 j.2 in
    record {
      made = subst (λ given. MadeBy h given body) (sym k.1) (subst (MadeBy h a.0) kept.1 made.0);
      same = ap (λ b. payload b (drop 1 bytes)) (sym kept.1) ∙ (bytes_eq-Decides (payload m.0 (drop 1 bytes)) bytes).0 kept.0;
    }

-- what is uploaded is the payload without its mark
abbrev pub IsUploaded : List ℕ → Ask → Type 0
IsUploaded bytes (PutContent content) = drop 1 bytes ≡ content
IsUploaded bytes (PutWhole body pieces) = Unit {0}
IsUploaded bytes (PutChangeset spelling) = Unit {0}
IsUploaded bytes (SetBookmark caller name from to) = Unit {0}
IsUploaded bytes (LandDraft caller name draft moment) = Unit {0}
IsUploaded bytes (SetPolicy caller text) = Unit {0}

long_as : (h : List Entry) (bytes : List ℕ) (body : Body) (ask : Ask) → IsUploaded bytes ask → MadeBy h ask body → payload body (drop 1 bytes) ≡ bytes → payload_len body ≡ length bytes
long_as h bytes body (PutContent content) uploaded made same =
    let len : length (drop 1 bytes) ≡ length content = ap (λ xs. length xs) uploaded in
    let whole : length (payload body (drop 1 bytes)) ≡ length bytes = ap (λ xs. length xs) same in
    let spelled : length (payload body (drop 1 bytes)) ≡ length (drop 1 bytes) + 1 = ap (λ b. length (payload b (drop 1 bytes))) made.1 ∙ one_more (drop 1 bytes) in
    let told : payload_len body ≡ 1 + length content = ap (λ b. payload_len b) made.1 in
    omega arith
  where
    one_more : (xs : List ℕ) → length (0x42 ∷ xs) ≡ length xs + 1
    one_more xs = omega arith
long_as h bytes body (PutWhole given pieces) uploaded made same =
    ap (λ b. payload_len b) made.3 ∙ sym (ap (λ b. length (payload b (drop 1 bytes))) made.3) ∙ ap (λ xs. length xs) same
long_as h bytes body (PutChangeset spelling) uploaded made same =
    ap (λ b. payload_len b) made.3 ∙ sym (ap (λ b. length (payload b (drop 1 bytes))) made.3) ∙ ap (λ xs. length xs) same
long_as h bytes body (SetBookmark caller name from to) uploaded made same =
    ap (λ b. payload_len b) made.0 ∙ sym (ap (λ b. length (payload b (drop 1 bytes))) made.0) ∙ ap (λ xs. length xs) same
long_as h bytes body (LandDraft caller name draft moment) uploaded made same =
    ap (λ b. payload_len b) made.8 ∙ sym (ap (λ b. length (payload b (drop 1 bytes))) made.8) ∙ ap (λ xs. length xs) same
long_as h bytes body (SetPolicy caller text) uploaded made same =
    ap (λ b. payload_len b) made.0 ∙ sym (ap (λ b. length (payload b (drop 1 bytes))) made.0) ∙ ap (λ xs. length xs) same

pub asked_long : (header : Header) (h : List Entry) (bytes : List ℕ) (ask : Ask) (body : Body) → IsUploaded bytes ask → asked_entry header h bytes ask ≡ Some body → payload_len body ≡ length bytes
asked_long header h bytes ask body uploaded e = let a = is_asked header h bytes ask body e in long_as h bytes body ask uploaded a.made a.same

-- with the entry the file is longer by the record
pub next_size : (h : List Entry) (bytes : List ℕ) (body : Body) → is_stored body ≡ true → payload_len body ≡ length bytes → size (h ++ unnumbered body ∷ []) ≡ size h + 5 + length bytes
next_size h bytes body stored len =
    let more : size (h ++ unnumbered body ∷ []) ≡ size h + (5 + payload_len body) = size-push h (unnumbered body) ∙ ap (λ b. size h + cond b (record_len body) 0) stored in
    omega arith

-- a payload that is too long stands for none
pub too_long : (file : List ℕ) (header : Header) (h : List Entry) (bytes : List ℕ) → most_payload < length bytes → next_entry file header h bytes ≡ None
too_long file header h bytes long =
    ap (λ b. option_and_then (made_by header h bytes) (option_and_then (keeping (is_ask h)) (option_and_then (ask_of file h bytes) (result_ok (cond b (Err most_payload) (read read_body bytes)))))) (lt-ltb most_payload (length bytes) long)
