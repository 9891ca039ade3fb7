-- A change, by the call that it is.
--     judges_call, refuses_call      what is judged of a change, of its call
--     judges_asked, refuses_asked      and back
--     refused_anyhow      a refusal that each change may have
--     pieces_refused      contents that are to be joined are refused before they are read
--     judges_whole, refuses_whole      what is judged of their whole
--     ask_refused      what is ready is a refusal
use Rattle.std.proofs.Common.{◌≡◌, ℕ, true, false, cond, inl, inr, List, refl, sym, ap, subst, ◌∙◌}
use Rattle.std.specs.Prelude.{is_some, length, Result, Ok, Err, IfOk, IfErr}
use Rattle.std.specs.List.{concat}
use Rattle.sha2.specs.Sha256.{sha256}
use Rattle.byte_fields.specs.Bytes.{Id}
use Rattle.history_model.specs.History.{Whole, Entry, is_down, content_len}
use Rattle.history_model.specs.Journal.{Header}
use Rattle.reply_model.specs.Reply as reply
use Rattle.reply_model.specs.Reply.{◌>>=◌, refuse_if, Ask, PutWhole, WholePut, Judged, parts_of, unchanged, entered, judge}
use Rattle.reply_model.specs.After.{Call, Asks, Joins, IsJoining}
use Rattle.reply_model.specs.Legal.{IsLegal}
use Rattle.repo_calls.specs.declared.refusal.Refusal.{Refusal}
use Rattle.repo_calls.specs.declared.refusal.Refusal.TheVariants as refusals
use Rattle.repo_calls.specs.declared.ask.Ask as asked
use Rattle.repo_calls.specs.declared.ask.Ask.TheVariants as asks
use Rattle.repo_calls.specs.Calls.{call_seen}
use Rattle.repo_calls.specs.Refusing.{IsRefusal, Gives}
use Rattle.repo_machine.specs.Asked.{JudgesCall, RefusesCall}
use Rattle.repo_machine.specs.Entering.{Judges}
use Rattle.repo_machine.specs.Held.{Room}
use Rattle.repo_machine.specs.Judged.{JudgedChange}
use Rattle.repo_machine.specs.declared.prepared.Ready.TheVariants as ready
use Rattle.repo_machine.specs.Prepared.{IsReadyTo}
use Rattle.repo_machine.specs.declared.found.Joined.{Joined}
use Rattle.repo_machine.specs.declared.found.Found.{Found}
use Rattle.repo_machine.specs.declared.found.Found.TheVariants as founds
use Rattle.repo_machine.specs.declared.prepared.Ready.{Ready}
use Rattle.repo_machine.specs.Found.{IsFoundWhole, IsFoundFor, IsFoundReady}
use Rattle.repo_machine.specs.Wholes.{pieces_judged, IsWholeOf}
use Rattle.repo_machine.proofs.MadeReady.{refused_as}
use Rattle.repo_machine.proofs.Pieces.{some_pieces}

module _ {header : Header} {h : List Entry} {ask : Ask} where
  pub judges_asked : {room : Room} {who : ℕ} {judged : JudgedChange} → JudgesCall header h room who (Asks ask) judged → Judges header h room who ask judged
  judges_asked {room} {who} {judged} j = subst (λ ask. Judges header h room who ask judged) j.asks j.judges

  pub refuses_asked : {e : Refusal} → RefusesCall header h (Asks ask) e → IsRefusal (judge header h ask) e
  refuses_asked {e} r = subst (λ ask. IsRefusal (judge header h ask) e) r.asks r.refuses

module _ (header : Header) (h : List Entry) (ask : Ask) (call : Call) (is : call ≡ Asks ask) where
  judges_one : (room : Room) (who : ℕ) (judged : JudgedChange) → Judges header h room who ask judged → JudgesCall header h room who call judged
  judges_one room who judged j = subst (λ call. JudgesCall header h room who call judged) (sym is) (record { ask = ask; asks = refl; judges = j })

  refuses_one : (e : Refusal) → IsRefusal (judge header h ask) e → RefusesCall header h call e
  refuses_one e r = subst (λ call. RefusesCall header h call e) (sym is) (record { ask = ask; asks = refl; refuses = r })

  pub judges_call : (result : Result JudgedChange Refusal) (room : Room) (who : ℕ) → IfOk result (Judges header h room who ask) → IfOk result (JudgesCall header h room who call)
  judges_call (Ok judged) room who j = judges_one room who judged j
  judges_call (Err e) room who j = tt

  pub refuses_call : (result : Result JudgedChange Refusal) → IfErr result (IsRefusal (judge header h ask)) → IfErr result (RefusesCall header h call)
  refuses_call (Ok judged) r = tt
  refuses_call (Err e) r = refuses_one e r

-- ---- contents that are to be joined

joins_with : (header : Header) (h : List Entry) (body : List ℕ) (pieces : List (List ℕ)) (e : Refusal) → IsJoining (parts_of header h body) h pieces → IsRefusal (judge header h (PutWhole body pieces)) e → RefusesCall header h (Joins body) e
joins_with header h body pieces e joining refuses = record { ask = PutWhole body pieces; asks = (pieces, joining, refl); refuses = refuses }

-- refusals before they are read
assoc : {A B : Type 0} (a : Result (Unit {0}) reply.Refusal) (b : Result A reply.Refusal) (f : A → Result B reply.Refusal) → (a >>= λ _. b >>= f) ≡ ((a >>= λ _. b) >>= f)
assoc (Ok x) b f = refl
assoc (Err e) b f = refl

abbrev joined : Header → List Entry → List (List ℕ) → List Id → Result Judged reply.Refusal
joined header h pieces parts =
    cond (is_some (content_len h (sha256 (concat pieces)))) (unchanged (WholePut (sha256 (concat pieces)) (length (concat pieces))))
    (entered header h (WholePut (sha256 (concat pieces)) (length (concat pieces))) (Whole (sha256 (concat pieces)) (length (concat pieces)) parts))

unread_refused : (header : Header) (h : List Entry) (body : List ℕ) (pieces : List (List ℕ)) (e : Refusal) → IsRefusal (pieces_judged header h body) e → IsRefusal (judge header h (PutWhole body pieces)) e
unread_refused header h body pieces e (inl memory) = inl memory
unread_refused header h body pieces e (inr (r, is, same)) =
    inr (r, assoc (refuse_if (is_down h) reply.Down) (parts_of header h body) (joined header h pieces) ∙ ap (λ p. p >>= joined header h pieces) is, same)

pub pieces_refused : (header : Header) (h : List Entry) → IsLegal header h → (body : List ℕ) (e : Refusal) → IsRefusal (pieces_judged header h body) e → RefusesCall header h (Joins body) e
pieces_refused header h legal body e refuses =
    let some = some_pieces header h legal body in
    joins_with header h body some.0 e some.1 (unread_refused header h body some.0 e refuses)

pub gives_refused : {X : Type 0} (view : X → List Id) (header : Header) (h : List Entry) → IsLegal header h → (body : List ℕ) (result : Result X Refusal) → Gives view (pieces_judged header h body) result → IfErr result (RefusesCall header h (Joins body))
gives_refused view header h legal body (Ok x) gives = tt
gives_refused view header h legal body (Err e) refuses = pieces_refused header h legal body e refuses

-- the whole
whole_joining : (header : Header) (h : List Entry) (body : List ℕ) (pieces : List (List ℕ)) (whole : Joined) → IsWholeOf header h body pieces whole → IsJoining (parts_of header h body) h pieces
whole_joining header h body pieces whole w = subst (λ p. IsJoining p h pieces) (sym w.asked) w.joined.are

module _ (header : Header) (h : List Entry) (body : List ℕ) (pieces : List (List ℕ)) (whole : Joined) (w : IsWholeOf header h body pieces whole) (call : Call) (is : call ≡ Joins body) where
  pub judges_whole : (result : Result JudgedChange Refusal) (room : Room) (who : ℕ) → IfOk result (Judges header h room who (PutWhole body pieces)) → IfOk result (JudgesCall header h room who call)
  judges_whole (Ok judged) room who j =
      subst (λ call. JudgesCall header h room who call judged) (sym is) (record { ask = PutWhole body pieces; asks = (pieces, whole_joining header h body pieces whole w, refl); judges = j })
  judges_whole (Err e) room who j = tt

  pub refuses_whole : (result : Result JudgedChange Refusal) → IfErr result (IsRefusal (judge header h (PutWhole body pieces))) → IfErr result (RefusesCall header h call)
  refuses_whole (Ok judged) r = tt
  refuses_whole (Err e) r = subst (λ call. RefusesCall header h call e) (sym is) (joins_with header h body pieces e (whole_joining header h body pieces whole w) r)

pub found_whole : (header : Header) (h : List Entry) (call : Call) (r : Ready) (body : List ℕ) (f : Found) (whole : Joined) → call ≡ Joins body → f ≡ founds.Joined whole → IsFoundReady header h call r f → (pieces : List (List ℕ)) × IsWholeOf header h body pieces whole
found_whole header h call r body f whole is found_is found = subst (IsFoundWhole header h body) found_is (subst (λ call. IsFoundReady header h call r f) is found)

-- ---- refusals that each change may have

one_asked : (header : Header) (h : List Entry) (ask : Ask) (e : Refusal) → IsRefusal (judge header h ask) e → RefusesCall header h (Asks ask) e
one_asked header h ask e refuses = record { ask = ask; asks = refl; refuses = refuses }

joins_anyhow : (header : Header) (h : List Entry) (body : List ℕ) (f : Found) → IsFoundWhole header h body f → (e : Refusal) → ((ask : Ask) → IsRefusal (judge header h ask) e) → RefusesCall header h (Joins body) e
joins_anyhow header h body founds.Nothing found e all = absurd found
joins_anyhow header h body (founds.Unresolved path) found e all = absurd found
joins_anyhow header h body (founds.Joined whole) found e all = joins_with header h body found.0 e (whole_joining header h body found.0 whole found.1) (all (PutWhole body found.0))

pub refused_anyhow : (header : Header) (h : List Entry) (a : asked.Ask) (f : Found) → IsFoundFor header h (call_seen a) f → (e : Refusal) → ((ask : Ask) → IsRefusal (judge header h ask) e) → RefusesCall header h (call_seen a) e
refused_anyhow header h (asks.PutContent bytes) f found e all = one_asked header h (reply.PutContent bytes.now) e (all (reply.PutContent bytes.now))
refused_anyhow header h (asks.PutWhole body) f found e all = joins_anyhow header h body.now f found e all
refused_anyhow header h (asks.PutChangeset bytes) f found e all = one_asked header h (reply.PutChangeset bytes.now) e (all (reply.PutChangeset bytes.now))
refused_anyhow header h (asks.SetBookmark caller name from to) f found e all = one_asked header h (reply.SetBookmark caller.now name.now from to) e (all (reply.SetBookmark caller.now name.now from to))
refused_anyhow header h (asks.Land caller name draft moment) f found e all = one_asked header h (reply.LandDraft caller.now name.now draft moment) e (all (reply.LandDraft caller.now name.now draft moment))
refused_anyhow header h (asks.SetPolicy caller text) f found e all = one_asked header h (reply.SetPolicy caller.now text.now) e (all (reply.SetPolicy caller.now text.now))

-- ---- by what is ready

module _ (header : Header) (h : List Entry) (call : Call) (e : Refusal) (result : Result JudgedChange Refusal) (refused : IsReadyTo call (ready.Refused e)) (up : is_down h ≡ false → result ≡ Err e) (down : is_down h ≡ true → result ≡ Err refusals.Down) where
  pub ask_refused : (ask : Ask) → call ≡ Asks ask → IfErr result (RefusesCall header h call)
  ask_refused ask is = refuses_call header h ask call is result (refused_as header h ask e result (subst (λ call. IsReadyTo call (ready.Refused e)) is refused) up down)
