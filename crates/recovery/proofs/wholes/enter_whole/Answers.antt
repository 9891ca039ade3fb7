use Rattle.std.proofs.Common.{◌≡◌, ℕ, List, [], length, map, refl, sym, ap, subst, ◌∙◌, arith}
use Rattle.std.specs.Prelude.{Ok}
use Rattle.std.specs.List.{concat}
use Rattle.std.proofs.lemmas.List.{length-map}
use Rattle.std.proofs.lemmas.Result.{err_from_is_err_and}
use mathlib.Core.Bool.{true≢false}
use Rattle.byte_fields.specs.Bytes.{Id}
use Rattle.disk_model.specs.Meaning.{Meaning}
use Rattle.history_model.specs.History.{Entry, Whole}
use Rattle.history_model.specs.Journal.{Header, payload}
use Rattle.history_model.specs.Payload.{payload_body}
use Rattle.reply_model.specs.Reply.{PutWhole}
use Rattle.repo_calls.specs.Refusing.{IsRefusal}
use Rattle.repo_machine.specs.declared.found.Joined.{Joined}
use Rattle.repo_machine.specs.Wholes.{pieces_judged}
use Rattle.recovery.specs.Joining.{JoinsParts}
use Rattle.recovery.proofs.Asked.{enters_as, refused_asked, whole_asked, whole_differs}
use Rattle.recovery.proofs.Joined.{AsksFor, IsReadWhole, asks_for, is_read_whole, judged_here, not_joined, refused_whole}
use Rattle.recovery.proofs.WholePayloads.{IsWholePayload, whole_payload}
use Rattle.recovery.proofs.wholes.enter_whole.Goals as goal

of_payload : (bytes : List ℕ) (ids : List Id) → (x : Id) × (n : ℕ) × (payload_body bytes ≡ Ok (Whole x n ids)) × (bytes ≡ payload (Whole x n ids) []) → IsWholePayload bytes ids
of_payload bytes ids (x, n, decoded, spelled) = whole_payload bytes x n ids decoded spelled

joins_read : (m : Meaning) (header : Header) (h : List Entry) (ids found : List Id) (whole : Joined) → AsksFor header h ids found → JoinsParts m h ids (Ok whole) → IsReadWhole m header h (concat ids) whole
joins_read m header h ids found whole a joins = is_read_whole header h (concat ids) ids a.asked m whole a.bytes joins

pub ids_in-requires : goal.ids_in-requires
ids_in-requires g c = (of_payload c.args.payload.now c.args.ids.items c.requires.decoded).long

pub returns-in_err-parts-clause-enters : goal.returns-in_err-parts-clause-enters
returns-in_err-parts-clause-enters g c =
    let w = of_payload c.args.payload.now c.args.ids.items c.requires.decoded in
    let header = c.args.machine.now.header in
    let h = c.args.machine.now.history in
    let e = c.in_err-parts.field-0.0 in
    let refused = subst (λ b. IsRefusal (pieces_judged header h b) e) (c.ids_in.ensures ∙ w.body_is) c.in_err-parts.ensures.judged in
    let p = err_from_is_err_and c.from_residual.result c.from_residual.ensures.1 in
    rw (p.1, p.2) (refused_whole (g.D.Disk.meaning c.args.disk.now) header h c.args.payload.now (concat c.args.ids.items) e h refused refl)

pub join-requires-clause-ids : goal.join-requires-clause-ids
join-requires-clause-ids g c =
    let header = c.args.machine.now.header in
    let h = c.args.machine.now.history in
    let found = map (λ p. p.id) c.in_ok-parts.parts.items in
    let a = asks_for header h c.args.payload.now c.args.ids.items c.ids_in.result.now found (of_payload c.args.payload.now c.args.ids.items c.requires.decoded) (λ i. omega (arith, c.type_inv.payload i)) c.ids_in.ensures c.in_ok-parts.ensures.judged in
    ap (λ ps. map (λ p. p.id) ps) c.as_slice.ensures.value ∙ a.found_are

pub join-requires-clause-few : goal.join-requires-clause-few
join-requires-clause-few g c =
    let header = c.args.machine.now.header in
    let h = c.args.machine.now.history in
    let found = map (λ p. p.id) c.in_ok-parts.parts.items in
    let a = asks_for header h c.args.payload.now c.args.ids.items c.ids_in.result.now found (of_payload c.args.payload.now c.args.ids.items c.requires.decoded) (λ i. omega (arith, c.type_inv.payload i)) c.ids_in.ensures c.in_ok-parts.ensures.judged in
    let few = a.few in
    let count = length-map c.in_ok-parts.parts.items (λ p. p.id) in
    let same = ap (λ ps. length ps) c.as_slice.ensures.value in
    omega arith

pub returns-in_err-whole-clause-enters : goal.returns-in_err-whole-clause-enters
returns-in_err-whole-clause-enters g c =
    let header = c.args.machine.now.header in
    let h = c.args.machine.now.history in
    let found = map (λ p. p.id) c.in_ok-parts.parts.items in
    let a = asks_for header h c.args.payload.now c.args.ids.items c.ids_in.result.now found (of_payload c.args.payload.now c.args.ids.items c.requires.decoded) (λ i. omega (arith, c.type_inv.payload i)) c.ids_in.ensures c.in_ok-parts.ensures.judged in
    let m = g.D.Disk.meaning c.args.disk.now in
    let fault = c.in_err-whole.field-0.0 in
    let p = err_from_is_err_and c.from_residual-in_err-whole.result c.from_residual-in_err-whole.ensures.1 in
    rw (p.1, p.2) (not_joined header h (concat c.args.ids.items) c.args.ids.items a.asked m c.args.payload.now fault h c.in_err-whole.ensures.joins refl)

pub judge_whole-requires : goal.judge_whole-requires
judge_whole-requires g c =
    let header = c.args.machine.now.header in
    let h = c.args.machine.now.history in
    let found = map (λ p. p.id) c.in_ok-parts.parts.items in
    let a = asks_for header h c.args.payload.now c.args.ids.items c.ids_in.result.now found (of_payload c.args.payload.now c.args.ids.items c.requires.decoded) (λ i. omega (arith, c.type_inv.payload i)) c.ids_in.ensures c.in_ok-parts.ensures.judged in
    let m = g.D.Disk.meaning c.args.disk.now in
    let r = joins_read m header h c.args.ids.items found c.in_ok-whole.whole a c.in_ok-whole.ensures.joins in
    let body = concat c.args.ids.items in
    record { read = (body, r.pieces, r.is_whole) }

pub returns-in_err-judged-clause-enters : goal.returns-in_err-judged-clause-enters
returns-in_err-judged-clause-enters g c =
    let header = c.args.machine.now.header in
    let h = c.args.machine.now.history in
    let found = map (λ p. p.id) c.in_ok-parts.parts.items in
    let a = asks_for header h c.args.payload.now c.args.ids.items c.ids_in.result.now found (of_payload c.args.payload.now c.args.ids.items c.requires.decoded) (λ i. omega (arith, c.type_inv.payload i)) c.ids_in.ensures c.in_ok-parts.ensures.judged in
    let m = g.D.Disk.meaning c.args.disk.now in
    let r = joins_read m header h c.args.ids.items found c.in_ok-whole.whole a c.in_ok-whole.ensures.joins in
    let body = concat c.args.ids.items in
    let ask = PutWhole body r.pieces in
    let e = c.in_err-judged.field-0.0 in
    let p = err_from_is_err_and c.from_residual-in_err-judged.result c.from_residual-in_err-judged.ensures.1 in
    rw (p.1, p.2) (r.pieces, r.read, refused_asked header h c.args.payload.now ask ask e c.judge_whole.new.self.history refl (c.in_err-judged.ensures.err body r.pieces r.is_whole) c.judge_whole.ensures.history)

pub makes_payload-requires : goal.makes_payload-requires
makes_payload-requires g c =
    let header = c.args.machine.now.header in
    let h = c.args.machine.now.history in
    let found = map (λ p. p.id) c.in_ok-parts.parts.items in
    let a = asks_for header h c.args.payload.now c.args.ids.items c.ids_in.result.now found (of_payload c.args.payload.now c.args.ids.items c.requires.decoded) (λ i. omega (arith, c.type_inv.payload i)) c.ids_in.ensures c.in_ok-parts.ensures.judged in
    let m = g.D.Disk.meaning c.args.disk.now in
    let r = joins_read m header h c.args.ids.items found c.in_ok-whole.whole a c.in_ok-whole.ensures.joins in
    let body = concat c.args.ids.items in
    (c.in_ok-judged.ensures.ok body r.pieces r.is_whole).is_judged.frames

pub returns-then-not-makes_payload-clause-enters : goal.returns-then-not-makes_payload-clause-enters
returns-then-not-makes_payload-clause-enters g c =
    let header = c.args.machine.now.header in
    let h = c.args.machine.now.history in
    let found = map (λ p. p.id) c.in_ok-parts.parts.items in
    let a = asks_for header h c.args.payload.now c.args.ids.items c.ids_in.result.now found (of_payload c.args.payload.now c.args.ids.items c.requires.decoded) (λ i. omega (arith, c.type_inv.payload i)) c.ids_in.ensures c.in_ok-parts.ensures.judged in
    let m = g.D.Disk.meaning c.args.disk.now in
    let r = joins_read m header h c.args.ids.items found c.in_ok-whole.whole a c.in_ok-whole.ensures.joins in
    let body = concat c.args.ids.items in
    let judged = (c.in_ok-judged.ensures.ok body r.pieces r.is_whole).is_judged in (
      r.pieces,
      r.read,
      (
        whole_differs header h body r.pieces c.args.payload.now c.in_ok-judged.judged judged (λ p. true≢false (sym (c.makes_payload.ensures.1 p) ∙ c.if-not-makes_payload.true)),
        c.judge_whole.ensures.history,
      ),
    )

pub enter_judged-requires-clause-by : goal.enter_judged-requires-clause-by
enter_judged-requires-clause-by g c =
    let header = c.args.machine.now.header in
    let h = c.args.machine.now.history in
    let found = map (λ p. p.id) c.in_ok-parts.parts.items in
    let a = asks_for header h c.args.payload.now c.args.ids.items c.ids_in.result.now found (of_payload c.args.payload.now c.args.ids.items c.requires.decoded) (λ i. omega (arith, c.type_inv.payload i)) c.ids_in.ensures c.in_ok-parts.ensures.judged in
    let m = g.D.Disk.meaning c.args.disk.now in
    let r = joins_read m header h c.args.ids.items found c.in_ok-whole.whole a c.in_ok-whole.ensures.joins in
    let body = concat c.args.ids.items in
    (c.in_ok-judged.ensures.ok body r.pieces r.is_whole).by

pub enter_judged-requires-clause-judged : goal.enter_judged-requires-clause-judged
enter_judged-requires-clause-judged g c =
    let header = c.args.machine.now.header in
    let h = c.args.machine.now.history in
    let found = map (λ p. p.id) c.in_ok-parts.parts.items in
    let a = asks_for header h c.args.payload.now c.args.ids.items c.ids_in.result.now found (of_payload c.args.payload.now c.args.ids.items c.requires.decoded) (λ i. omega (arith, c.type_inv.payload i)) c.ids_in.ensures c.in_ok-parts.ensures.judged in
    let m = g.D.Disk.meaning c.args.disk.now in
    let r = joins_read m header h c.args.ids.items found c.in_ok-whole.whole a c.in_ok-whole.ensures.joins in
    let body = concat c.args.ids.items in
    judged_here c.judge_whole.new.self.header header c.judge_whole.new.self.history h c.judge_whole.new.self.room 0 (PutWhole body r.pieces) c.in_ok-judged.judged c.judge_whole.ensures.header c.judge_whole.ensures.history (c.in_ok-judged.ensures.ok body r.pieces r.is_whole)

pub enter_judged-requires-clause-room : goal.enter_judged-requires-clause-room
enter_judged-requires-clause-room g c =
    let header = c.args.machine.now.header in
    let h = c.args.machine.now.history in
    let found = map (λ p. p.id) c.in_ok-parts.parts.items in
    let a = asks_for header h c.args.payload.now c.args.ids.items c.ids_in.result.now found (of_payload c.args.payload.now c.args.ids.items c.requires.decoded) (λ i. omega (arith, c.type_inv.payload i)) c.ids_in.ensures c.in_ok-parts.ensures.judged in
    let m = g.D.Disk.meaning c.args.disk.now in
    let r = joins_read m header h c.args.ids.items found c.in_ok-whole.whole a c.in_ok-whole.ensures.joins in
    let body = concat c.args.ids.items in
    (c.in_ok-judged.ensures.ok body r.pieces r.is_whole).room_for

pub returns-clause-enters : goal.returns-clause-enters
returns-clause-enters g c =
    let header = c.args.machine.now.header in
    let h = c.args.machine.now.history in
    let found = map (λ p. p.id) c.in_ok-parts.parts.items in
    let a = asks_for header h c.args.payload.now c.args.ids.items c.ids_in.result.now found (of_payload c.args.payload.now c.args.ids.items c.requires.decoded) (λ i. omega (arith, c.type_inv.payload i)) c.ids_in.ensures c.in_ok-parts.ensures.judged in
    let m = g.D.Disk.meaning c.args.disk.now in
    let r = joins_read m header h c.args.ids.items found c.in_ok-whole.whole a c.in_ok-whole.ensures.joins in
    let body = concat c.args.ids.items in
    let judged = (c.in_ok-judged.ensures.ok body r.pieces r.is_whole).is_judged in (
      r.pieces,
      r.read,
      enters_as _ _ _ _ _ _
          (whole_asked header h body r.pieces c.args.payload.now c.in_ok-judged.judged judged (c.makes_payload.ensures.0 c.if-not-makes_payload.false))
          c.judge_whole.ensures.history c.enter_judged.ensures.enters,
    )
