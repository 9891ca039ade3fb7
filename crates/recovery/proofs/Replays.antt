-- What a payload stands for where a disk is read, by the change that it asks for.
use Rattle.std.proofs.Common.{◌≡◌, ℕ, ◌+◌, true, cond, List, [], ◌∷◌, ◌++◌, length, map, take, sym, ap, ◌∙◌}
use Rattle.std.specs.Prelude.{None, Some, Result, Ok, Err, OnOk, OnErr}
use Rattle.std.specs.List.{concat}
use Rattle.std.specs.Option.{option_and_then}
use Rattle.std.specs.Result.{result_ok}
use Rattle.std.proofs.lemmas.List.{map-append}
use Rattle.byte_fields.specs.Bytes.{Id}
use Rattle.byte_fields.specs.Reading.{keeping}
use Rattle.disk_model.specs.Meaning.{Meaning}
use Rattle.history_model.specs.History.{Body, Whole, Entry, is_stored, unnumbered, bodies, stored}
use Rattle.history_model.specs.Journal.{Header, held, payload, size}
use Rattle.history_model.specs.Payload.{payload_body}
use Rattle.reply_model.specs.Opening.{ask_of, made_by, next_entry}
use Rattle.reply_model.specs.Reply.{Ask, is_ask, ids_in, PutWhole}
use Rattle.reply_model.proofs.Histories.{bodies-append}
use Rattle.recovery.specs.declared.replay_fault.ReplayFault.{ReplayFault}
use Rattle.recovery.specs.declared.replay_fault.ReplayFault.TheVariants.{BadPayload, DiskFault, Memory}
use Rattle.recovery.specs.Entering.{asked_entry, Comes, Enters, Replays}
use Rattle.recovery.specs.Joining.{EntersWhole}
use Rattle.recovery.proofs.NextEntries.{IsUploaded, asked_long, next_size}

-- what is decoded asks for this change
next_asked : (file : List ℕ) (header : Header) (h : List Entry) (bytes : List ℕ) (body : Body) (ask : Ask) → payload_body bytes ≡ Ok body → ask_of file h bytes body ≡ Some ask → next_entry file header h bytes ≡ asked_entry header h bytes ask
next_asked file header h bytes body ask decoded asks =
    ap (λ r. option_and_then (made_by header h bytes) (option_and_then (keeping (is_ask h)) (option_and_then (ask_of file h bytes) (result_ok r)))) decoded
    ∙ ap (λ o. option_and_then (made_by header h bytes) (option_and_then (keeping (is_ask h)) o)) asks

module _ (m : Meaning) (header : Header) (h : List Entry) (bytes : List ℕ) where
  replays : (ask : Ask) (r : Result (Unit {0}) ReplayFault) (after : List Entry) → Comes m header h bytes (asked_entry header h bytes ask) → IsUploaded bytes ask → Enters h (asked_entry header h bytes ask) r after → Replays m header h bytes r after
  replays ask (Ok done) after comes uploaded e = (e.0, λ file told. comes file told ∙ e.1, e.2, asked_long header h bytes ask e.0 uploaded e.1, e.3)
  replays ask (Err BadPayload) after comes uploaded e = (λ file told. comes file told ∙ e.0, e.1)
  replays ask (Err DiskFault) after comes uploaded e = e
  replays ask (Err Memory) after comes uploaded e = e

  -- whatever the file holds
  pub replays_asked : (body : Body) (ask : Ask) (r : Result (Unit {0}) ReplayFault) (after : List Entry) → payload_body bytes ≡ Ok body → ((file : List ℕ) → ask_of file h bytes body ≡ Some ask) → IsUploaded bytes ask → Enters h (asked_entry header h bytes ask) r after → Replays m header h bytes r after
  replays_asked body ask r after decoded asks uploaded e = replays ask r after (λ file told. next_asked file header h bytes body ask decoded (asks file)) uploaded e

  -- as the file holds its parts
  pub replays_whole : (x : Id) (n : ℕ) (ids : List Id) (r : Result (Unit {0}) ReplayFault) (after : List Entry) → payload_body bytes ≡ Ok (Whole x n ids) → bytes ≡ payload (Whole x n ids) [] → EntersWhole m header h bytes (concat ids) r after → Replays m header h bytes r after
  replays_whole x n ids r after decoded spelled (pieces, read, e) =
      let ask = PutWhole (concat ids) pieces in
      replays ask r after
      (λ file told. (
      let there = told (ap (take 1) spelled) in
      next_asked file header h bytes (Whole x n ids) ask decoded
      (ap (λ file. Some (PutWhole (concat ids) (map (held file 16 (bodies h)) (ids_in (concat ids))))) there.1 ∙ ap (λ pieces. Some (PutWhole (concat ids) pieces)) (sym (read there.0)))))
      tt e

  -- ---- what is told of it

  pub replayed_ok : (r : Result (Unit {0}) ReplayFault) (after : List Entry) → Replays m header h bytes r after → OnOk r ((body : Body) × Comes m header h bytes (Some body) × (after ≡ h ++ unnumbered body ∷ []))
  replayed_ok (Ok done) after e = (e.0, e.1, e.4)
  replayed_ok (Err fault) after e = tt

  pub replayed_bad : (r : Result (Unit {0}) ReplayFault) (after : List Entry) → Replays m header h bytes r after → r ≡ Err BadPayload → Comes m header h bytes None
  replayed_bad (Ok done) after e is = absurd cc
  replayed_bad (Err BadPayload) after e is = e.0
  replayed_bad (Err DiskFault) after e is = absurd cc
  replayed_bad (Err Memory) after e is = absurd cc

  pub replayed_err : (r : Result (Unit {0}) ReplayFault) (after : List Entry) → Replays m header h bytes r after → OnErr r (after ≡ h)
  replayed_err (Ok done) after e = tt
  replayed_err (Err BadPayload) after e = e.1
  replayed_err (Err DiskFault) after e = e
  replayed_err (Err Memory) after e = e

  pub replayed_size : (r : Result (Unit {0}) ReplayFault) (after : List Entry) → Replays m header h bytes r after → OnOk r (size after ≡ size h + 5 + length bytes)
  replayed_size (Ok done) after e = ap size e.4 ∙ next_size h bytes e.0 e.2 e.3
  replayed_size (Err fault) after e = tt

  stored_push : (body : Body) → is_stored body ≡ true → stored (h ++ unnumbered body ∷ []) ≡ stored h ++ unnumbered body ∷ []
  stored_push body is =
      ap (map unnumbered) (bodies-append h (unnumbered body ∷ []))
      ∙ map-append unnumbered (bodies h) (bodies (unnumbered body ∷ []))
      ∙ (λ i. stored h ++ map unnumbered (cond (is i) (body ∷ []) []))

  same_stored : (after : List Entry) → after ≡ h → h ≡ stored h → after ≡ stored after
  same_stored after same was = same ∙ was ∙ ap stored (sym same)

  pub replayed_stored : (r : Result (Unit {0}) ReplayFault) (after : List Entry) → Replays m header h bytes r after → h ≡ stored h → after ≡ stored after
  replayed_stored (Ok done) after e was = e.4 ∙ ap (λ g. g ++ unnumbered e.0 ∷ []) was ∙ sym (ap stored e.4 ∙ stored_push e.0 e.2)
  replayed_stored (Err BadPayload) after e was = same_stored after e.1 was
  replayed_stored (Err DiskFault) after e was = same_stored after e was
  replayed_stored (Err Memory) after e was = same_stored after e was
