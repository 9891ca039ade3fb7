-- The entries that a session adds, all of its seat.
use Rattle.std.proofs.Common.{◌≡◌, ℕ, ◌≤◌, Bool, true, false, List, [], ◌∷◌, ◌++◌, length, map, refl, sym, ap, subst, ◌∙◌, append_assoc, arith}
use Rattle.std.specs.Prelude.{◌||◌, not, cond, filter, option_map, option_to_list, Option}
use Rattle.std.proofs.lemmas.List.{append-nil}
use mathlib.Core.Logic.{inl, inr}
use mathlib.Core.List.{IsPrefix}
use Rattle.history_model.specs.History.{Body, Content, Whole, Change, Book, Land, Policy, Fault, Entry, bodies, stored, unnumbered, is_breaking, is_down, is_stored}
use Rattle.history_model.specs.Journal.{Header}
use Rattle.http_model.specs.Stream.{Request}
use Rattle.reply_model.specs.After.{Relation, Call, Asks, Joins, Looks, Derives, Answer, Grants, Memory, entry_by, entries_of}
use Rattle.reply_model.specs.Reply.{LogFrom, PutContent, PutWhole, PutChangeset, SetBookmark, LandDraft, SetPolicy}
use Rattle.session_model.specs.Asking as asking
use Rattle.session_model.specs.Asking.{Asked, asked}
use Rattle.stacked_calls.specs.Chain.{OnWay, AreGranted, SeesOn, Chained}
use Rattle.session_model.specs.Dating.{Dated}
use Rattle.session_model.specs.Session.{Answers, AnswersAsked, Serves}
use Rattle.http_front.specs.declared.ended.Ended.{Ended}
use Rattle.http_front.specs.declared.ended.Ended.TheVariants as ends
use Rattle.http_front.specs.Dating.{DatedBy}
use Rattle.http_front.specs.Serving.{EndsAs, Finished, Start}
use Rattle.repo_calls.specs.Replying.{Honestly}
use Rattle.repo_state.specs.Alone.{SealedAlone}
use Rattle.repo_state.specs.State.{faults_in}
use Rattle.command_line.specs.Sessions.{EntersNone, IsOfSeat}

-- the later history is the one before, and entries of the seat
pub record Adds (who : ℕ) (h after : List Entry) : Type 0 where
  pub more : List Entry
  pub after_is : after ≡ h ++ more
  pub own : IsOfSeat who more

nothing_added : (who : ℕ) (h after : List Entry) → after ≡ h → Adds who h after
nothing_added who h after same = record { more = []; after_is = same ∙ sym (append-nil h); own = tt }

of_seat-append : (who : ℕ) (a b : List Entry) → IsOfSeat who a → IsOfSeat who b → IsOfSeat who (a ++ b)
of_seat-append who [] b p q = q
of_seat-append who (e ∷ a) b p q = (p.0, of_seat-append who a b p.1 q)

of_seat-map : (who : ℕ) (bs : List Body) → IsOfSeat who (map (entry_by who) bs)
of_seat-map who [] = tt
of_seat-map who (b ∷ bs) = (refl, of_seat-map who bs)

of_seat-unnumbered : (bs : List Body) → IsOfSeat 0 (map unnumbered bs)
of_seat-unnumbered [] = tt
of_seat-unnumbered (b ∷ bs) = (refl, of_seat-unnumbered bs)

pub of_seat-stored : (h : List Entry) → h ≡ stored h → IsOfSeat 0 h
of_seat-stored h e = subst (IsOfSeat 0) (sym e) (of_seat-unnumbered (bodies h))

adds_then : (who : ℕ) (a b c : List Entry) → Adds who a b → Adds who b c → Adds who a c
adds_then who a b c p q = record {
  more = p.more ++ q.more;
  after_is = q.after_is ∙ ap (λ l. l ++ q.more) p.after_is ∙ append_assoc a p.more q.more;
  own = of_seat-append who p.more q.more p.own q.own;
}

replies_add : (n : ℕ) (header : Header) (h : List Entry) (who : ℕ) (call : Call) (answer : Answer) (after : List Entry) → SealedAlone n header h who call answer after → Adds who h after
replies_add n header h who call answer after s =
    let r = s.replies in
    record { more = entries_of who r.made; after_is = r.new_is; own = of_seat-map who (option_to_list r.made.entry ++ option_to_list (option_map Fault r.made.fault)) }

-- also a landing at a moment that a clock tells
dated_add : (tells : ℕ → Type 0) (honest : Bool) (n : ℕ) (header : Header) (h : List Entry) (who : ℕ) (call : Call) (answer : Answer) (after : List Entry) → Dated tells (Honestly honest (SealedAlone n)) header h who call answer after → Adds who h after
dated_add tells honest n header h who (Asks (PutContent bytes)) answer after r = replies_add n header h who (Asks (PutContent bytes)) answer after r.answered
dated_add tells honest n header h who (Asks (PutWhole body pieces)) answer after r = replies_add n header h who (Asks (PutWhole body pieces)) answer after r.answered
dated_add tells honest n header h who (Asks (PutChangeset bytes)) answer after r = replies_add n header h who (Asks (PutChangeset bytes)) answer after r.answered
dated_add tells honest n header h who (Asks (SetBookmark caller name from to)) answer after r = replies_add n header h who (Asks (SetBookmark caller name from to)) answer after r.answered
dated_add tells honest n header h who (Asks (LandDraft caller name draft moment)) answer after r = replies_add n header h who (Asks (LandDraft caller name draft r.0)) answer after r.2.answered
dated_add tells honest n header h who (Asks (SetPolicy caller text)) answer after r = replies_add n header h who (Asks (SetPolicy caller text)) answer after r.answered
dated_add tells honest n header h who (Joins body) answer after r = replies_add n header h who (Joins body) answer after r.answered
dated_add tells honest n header h who (Looks question) answer after r = replies_add n header h who (Looks question) answer after r.answered
dated_add tells honest n header h who (Derives x) answer after r = replies_add n header h who (Derives x) answer after r.answered

-- also the calls of a list, of which each is sealed by itself
granted_add : (tells : ℕ → Type 0) (honest : Bool) (n : ℕ) (end : Answer) (header : Header) (who : ℕ) (h : List Entry) (calls : List Call) (new : List Entry) → AreGranted (OnWay (DatedBy tells (Honestly honest (SealedAlone n)) EntersNone) end) header who h calls new → Adds who h new
granted_add tells honest n end header who h [] new is = nothing_added who h new is
granted_add tells honest n end header who h (call ∷ calls) new is = adds_then who h is.1 new (by is.2) (granted_add tells honest n end header who is.1 calls new is.3)
  where
    by : OnWay (DatedBy tells (Honestly honest (SealedAlone n)) EntersNone) end header h who call (Grants is.0) is.1 → Adds who h is.1
    by (inl r) = dated_add tells honest n header h who call (Grants is.0) is.1 r
    by (inr none) = absurd none.1

sees_add : (tells : ℕ → Type 0) (honest : Bool) (n : ℕ) (header : Header) (who : ℕ) (h new : List Entry) → SeesOn (Dated tells (Honestly honest (SealedAlone n))) header who h new → Adds who h new
sees_add tells honest n header who h new (inl same) = nothing_added who h new same
sees_add tells honest n header who h new (inr r) = dated_add tells honest n header h who (Looks (LogFrom 0)) Memory new r

chained_add : (tells : ℕ → Type 0) (honest : Bool) (n : ℕ) (header : Header) (who : ℕ) (h : List Entry) (calls : List Call) (at : ℕ) (answer : Answer) (after : List Entry) → Chained (DatedBy tells (Honestly honest (SealedAlone n)) EntersNone) header who h calls at answer after → Adds who h after
chained_add tells honest n header who h calls at answer after c =
    adds_then who h c.between after (granted_add tells honest n answer header who h c.earlier c.between c.granted)
    (adds_then who c.between c.then after (dated_add tells honest n header c.between who c.call answer c.then c.answered) (sees_add tells honest n header who c.then after c.sees))

asked_adds : (tells : ℕ → Type 0) (honest : Bool) (n : ℕ) (header : Header) (who : ℕ) (h : List Entry) (a : Asked) (q : Request) (out : List ℕ) (after : List Entry) → AnswersAsked (DatedBy tells (Honestly honest (SealedAlone n)) EntersNone) header who h a q out after → Adds who h after
asked_adds tells honest n header who h (asking.Calls call) q out after answers = dated_add tells honest n header h who call answers.answer after answers.answered
asked_adds tells honest n header who h (asking.Lists calls) q out after answers = chained_add tells honest n header who h calls answers.at answers.answer after answers.chained
asked_adds tells honest n header who h (asking.Fails r) q out after answers = nothing_added who h after answers.same

answers_add : (tells : ℕ → Type 0) (honest : Bool) (n : ℕ) (header : Header) (who : ℕ) (h : List Entry) (q : Request) (out : List ℕ) (after : List Entry) → Answers (DatedBy tells (Honestly honest (SealedAlone n)) EntersNone) header who h q out after → Adds who h after
answers_add tells honest n header who h q out after (inl answers) = asked_adds tells honest n header who h (asked q) q out after answers
answers_add tells honest n header who h q out after (inr alone) = nothing_added who h after alone.same

serves_add : (tells : ℕ → Type 0) (honest : Bool) (n : ℕ) (header : Header) (who : ℕ) (h : List Entry) (requests : List Request) (texts : List (List ℕ)) (after : List Entry) → Serves (DatedBy tells (Honestly honest (SealedAlone n)) EntersNone) header who h requests texts after → Adds who h after
serves_add tells honest n header who h [] [] after same = nothing_added who h after same
serves_add tells honest n header who h (q ∷ requests) (text ∷ texts) after serves =
    adds_then who h serves.0 after (answers_add tells honest n header who h q text serves.0 serves.1) (serves_add tells honest n header who serves.0 requests texts after serves.2)
serves_add tells honest n header who h [] (text ∷ texts) after serves = absurd serves
serves_add tells honest n header who h (q ∷ requests) [] after serves = absurd serves

ends_add : (tells : ℕ → Type 0) (honest : Bool) (n : ℕ) (header : Header) (who : ℕ) (h : List Entry) (s out : List ℕ) (after : List Entry) (end : Ended) → EndsAs (DatedBy tells (Honestly honest (SealedAlone n)) EntersNone) header who h s out after end → Adds who h after
ends_add tells honest n header who h s out after ends.Whole session = serves_add tells honest n header who h session.requests session.texts after session.serves
ends_add tells honest n header who h s out after ends.Closed session = serves_add tells honest n header who h session.requests session.texts after session.serves
ends_add tells honest n header who h s out after (ends.Cut read) session = serves_add tells honest n header who h session.requests session.texts after session.serves
ends_add tells honest n header who h s out after (ends.Refused status) session = serves_add tells honest n header who h session.requests session.texts after session.serves
ends_add tells honest n header who h s out after ends.Spent session = serves_add tells honest n header who h session.requests session.texts after session.serves
ends_add tells honest n header who h s out after ends.LinkFault broken = serves_add tells honest n header who h broken.requests broken.texts after broken.serves
ends_add tells honest n header who h s out after ends.Memory began = nothing_added who h after began.same

pub session_adds : (tells : ℕ → Type 0) (honest : Bool) (n : ℕ) (from : Start) (h : List Entry) (rest written : Option (List ℕ)) (end : Ended) → Finished (DatedBy tells (Honestly honest (SealedAlone n)) EntersNone) from h rest written end → Adds from.who from.history h
session_adds tells honest n from h rest written end finished = ends_add tells honest n from.header from.who from.history finished.read finished.out h end finished.ends

pub adds_prefix : (who : ℕ) (h after : List Entry) → Adds who h after → IsPrefix h after
adds_prefix who h after adds = (adds.more, sym adds.after_is)

pub adds_own : (who : ℕ) (h after : List Entry) → Adds who h after → IsOfSeat who h → IsOfSeat who after
adds_own who h after adds own = subst (IsOfSeat who) (sym adds.after_is) (of_seat-append who h adds.more own adds.own)

-- ---- a breaking fault is a fault

faulty : (b : Body) → is_breaking b ≡ true → is_stored b ≡ false
faulty (Content x n) e = absurd cc
faulty (Whole x n parts) e = absurd cc
faulty (Policy caller text) e = absurd cc
faulty (Change c) e = absurd cc
faulty (Book move) e = absurd cc
faulty (Land landing) e = absurd cc
faulty (Fault breaking) e = refl

abbrev faulty_ones : List Entry → List Entry
faulty_ones h = filter (λ (e : Entry). not (is_stored e.body)) h

one_here : (e : Entry) (h : List Entry) → is_stored e.body ≡ false → 1 ≤ faults_in (e ∷ h)
one_here e h is = subst (λ b. 1 ≤ length (cond (not b) (e ∷ faulty_ones h) (faulty_ones h))) (sym is) (omega arith)

one_later : (e : Entry) (h : List Entry) (stored : Bool) → 1 ≤ faults_in h → 1 ≤ length (cond (not stored) (e ∷ faulty_ones h) (faulty_ones h))
one_later e h true some = some
one_later e h false some = omega arith

here_or_later : (e : Entry) (h : List Entry) → (is_down h ≡ true → 1 ≤ faults_in h) → (b : Bool) → is_breaking e.body ≡ b → is_down (e ∷ h) ≡ true → 1 ≤ faults_in (e ∷ h)
here_or_later e h later true is down = one_here e h (faulty e.body is)
here_or_later e h later false is down = one_later e h (is_stored e.body) (later (sym (ap (λ b. b || is_down h) is) ∙ down))

pub down_has_fault : (h : List Entry) → is_down h ≡ true → 1 ≤ faults_in h
down_has_fault [] down = absurd cc
down_has_fault (e ∷ h) down = here_or_later e h (down_has_fault h) (is_breaking e.body) refl down
