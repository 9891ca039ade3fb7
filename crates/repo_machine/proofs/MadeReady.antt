-- What is made ready of an upload.
use Rattle.std.proofs.Common.{◌≡◌, ◌≢◌, ℕ, ◌<◌, ◌≤◌, ◌+◌, ◌-◌, Bool, true, false, inr, List, [], ◌∷◌, length, length-append, take, drop, refl, sym, ap, subst, ◌∙◌, suc, arith}
use Rattle.std.specs.Prelude.{Result, Ok, Err, Some, IfOk, IfErr}
use Rattle.std.proofs.lemmas.List.{take_at}
use Rattle.byte_fields.specs.Bytes.{Id, IsBytes, are_bytes}
use Rattle.changeset_model.specs.Changeset.{Changeset, spelling, most_content}
use Rattle.changeset_model.specs.Decoding.{decoded}
use Rattle.changeset_model.specs.Decoding as decoding
use Rattle.changeset_model.proofs.Accepting.{IsBytes-drop, IsBytes-take}
use Rattle.history_model.specs.History.{Body, Content, Whole, Change, Book, Land, Policy, Fault, Entry, is_down}
use Rattle.history_model.specs.Journal.{Header, IsPayload, payload_len, record_len, framed}
use Rattle.bonsai.specs.declared.decode_fault.DecodeFault.{DecodeFault}
use Rattle.bonsai.specs.declared.decode_fault.DecodeFault.TheVariants as faults
use Rattle.bonsai.specs.Decodes.{Refuses}
use Rattle.opening_laws.proofs.Lists.{are_IsBytes}
use Rattle.reply_model.specs.Reply.{Ask, judge, PutContent, PutChangeset, TooLong, BadEncoding, SelfConflict}
use Rattle.repo_calls.specs.declared.refusal.Refusal as refusal
use Rattle.repo_calls.specs.declared.refusal.Refusal.TheVariants as refusals
use Rattle.repo_calls.specs.Refusing.{IsRefusal}
use Rattle.sha2.specs.Sha256.{sha256}
use Rattle.repo_machine.specs.Judged.{Frames}
use Rattle.repo_machine.specs.Faults.{fault_refusal}
use Rattle.repo_machine.specs.Prepared.{IsRefusedAs, IsReadyContent, IsReadyChangeset, content_in}
use Rattle.repo_machine.proofs.Judging.{judged_long, refused_down}
use Rattle.repo_machine.proofs.Judging.{are_bytes-from}
use Rattle.repo_machine.proofs.Uploading.{fault_refused}

pub too_long : (bytes : List ℕ) (n : ℕ) → n ≡ length bytes → most_content < n → IsRefusedAs (PutContent bytes) (refusals.TooLong n)
too_long bytes n is over =
    let long : most_content < length bytes = subst (λ k. most_content < k) is over in
    subst (λ k. IsRefusedAs (PutContent bytes) (refusals.TooLong k)) (sym is)
    (record { refusal = TooLong (length bytes); same = refl; always = λ header h up. judged_long header h bytes up long })

pub faulty : (bytes : List ℕ) (fault : DecodeFault) → Refuses fault (decoded bytes) → fault ≢ faults.Memory → IsRefusedAs (PutChangeset bytes) (fault_refusal fault)
faulty bytes (faults.TooLong n) e known = record { refusal = TooLong n; same = refl; always = λ header h up. fault_refused header h bytes up (decoding.TooLong n) e }
faulty bytes (faults.BadEncoding at) e known = record { refusal = BadEncoding at; same = refl; always = λ header h up. fault_refused header h bytes up (decoding.BadEncoding at) e }
faulty bytes (faults.SelfConflict short long) e known = record { refusal = SelfConflict short long; same = refl; always = λ header h up. fault_refused header h bytes up (decoding.SelfConflict short long) e }
faulty bytes faults.Memory e known = absurd (known refl)

pub mapped_ok : {X E : Type 0} (r : Result X E) (P Q : X → Type 0) → ((x : X) → P x → Q x) → IfOk r P → IfOk r Q
mapped_ok (Ok x) P Q then h = then x h
mapped_ok (Err e) P Q then h = tt

pub content_framed : (x : Id) (bytes frame : List ℕ) → x ≡ sha256 bytes → frame ≡ framed (0x42 ∷ bytes) → Frames (Some (Content x (length bytes))) frame
content_framed x bytes frame is e = (0x42 ∷ bytes, (bytes, (sym is, refl), refl), e)

pub ready_changeset : (bytes : List ℕ) (c : Changeset) (frame : List ℕ) → bytes ≡ spelling c → decoded (spelling c) ≡ Ok c → IsBytes bytes → frame ≡ framed bytes → IsReadyChangeset c frame
ready_changeset bytes c frame spelled decodes are e = record {
  decodes = decodes;
  are = subst (λ b. are_bytes b ≡ true) spelled (are_bytes-from bytes are);
  frames = (bytes, ([], refl, spelled), e);
}

pub payload_length : (body : Body) (bytes : List ℕ) → IsPayload body bytes → length bytes ≡ payload_len body
payload_length (Content x n) bytes is = ap (λ xs. length xs) is.2 ∙ ap (λ k. suc k) is.1.1 ∙ omega arith
payload_length (Whole x n parts) bytes is = ap (λ xs. length xs) is.2
payload_length (Policy caller text) bytes is = ap (λ xs. length xs) is.2
payload_length (Change c) bytes is = ap (λ xs. length xs) is.2
payload_length (Book move) bytes is = ap (λ xs. length xs) is.2
payload_length (Land landing) bytes is = ap (λ xs. length xs) is.2
payload_length (Fault breaking) bytes is = ap (λ xs. length xs) is.2

framed_length : (payload : List ℕ) → length (framed payload) ≡ 5 + length payload
framed_length payload = let long = length-append payload (0 ∷ []) in omega arith

pub frame_length : (body : Body) (frame : List ℕ) → Frames (Some body) frame → length frame ≡ record_len body
frame_length body frame f = ap (λ xs. length xs) f.2 ∙ framed_length f.0 ∙ ap (λ n. 5 + n) (payload_length body f.0 f.1)

pub refused_as : {X : Type 0} (header : Header) (h : List Entry) (ask : Ask) (e : refusal.Refusal) (result : Result X refusal.Refusal) → IsRefusedAs ask e → (is_down h ≡ false → result ≡ Err e) → (is_down h ≡ true → result ≡ Err refusals.Down)
    → IfErr result (IsRefusal (judge header h ask))
refused_as header h ask e result refused up down = by (is_down h) refl
  where
    by : (b : Bool) → is_down h ≡ b → IfErr result (IsRefusal (judge header h ask))
    by true is = subst (λ r. IfErr r (IsRefusal (judge header h ask))) (sym (down is)) (refused_down header h ask is)
    by false is = subst (λ r. IfErr r (IsRefusal (judge header h ask))) (sym (up is)) (inr (refused.refusal, refused.always header h is, refused.same))

-- ---- a content that is read in its record

pub content_read : (bytes frame : List ℕ) → frame ≡ framed (0x42 ∷ bytes) → content_in frame ≡ bytes
content_read bytes frame is =
    let long : length frame - 1 ≡ suc (suc (suc (suc (suc (length bytes))))) = let all = ap (λ xs. length xs) is in let rest = length-append bytes (0 ∷ []) in omega arith in
    (λ i. drop 5 (take (long i) (is i)))
    ∙ take_at bytes (0 ∷ []) (length bytes) refl

pub framed_ready : (id : Id) (bytes frame : List ℕ) → id ≡ sha256 bytes → length bytes ≤ most_content → frame ≡ framed (0x42 ∷ bytes) → IsReadyContent (content_in frame) id frame
framed_ready id bytes frame is short e =
    subst (λ content. IsReadyContent content id frame) (sym (content_read bytes frame e)) (record { id_is = is; short = short; frames = content_framed id bytes frame is e })

-- a record has six bytes beside its content
pub ready_length : (bytes : List ℕ) (id : Id) (frame : List ℕ) → IsReadyContent bytes id frame → length frame ≡ length bytes + 6
ready_length bytes id frame ready = let long = frame_length (Content id (length bytes)) frame ready.frames in omega arith

-- how many bytes it has, by how many its record has
pub count_is : (id : Id) (frame : List ℕ) (long count : ℕ) → IsReadyContent (content_in frame) id frame → long ≡ length frame → count ≡ long - 6 → count ≡ length (content_in frame)
count_is id frame long count ready long_is is = let six = ready_length (content_in frame) id frame ready in omega arith

pub are_within : (frame : List ℕ) → are_bytes frame ≡ true → are_bytes (content_in frame) ≡ true
are_within frame are = are_bytes-from (content_in frame) (IsBytes-drop 5 (take (length frame - 1) frame) (IsBytes-take (length frame - 1) frame (are_IsBytes frame are)))
