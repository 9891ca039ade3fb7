-- Files of records and the histories that they stand for.
use Rattle.std.proofs.Common.{◌≡◌, ◌≢◌, ℕ, suc, ◌+◌, ◌-◌, ◌≤◌, cond, List, [], ◌∷◌, ◌++◌, length, take, drop, refl, sym, ap, subst, ◌∙◌, arith, append_assoc, append-nil}
use Rattle.std.specs.List.{AllByRecursion}
use Rattle.std.specs.Prelude.{slice_index, sum_by, IsTrue}
use Rattle.std.proofs.lemmas.List.{length-append}
use Rattle.std.proofs.lemmas.List.Sums.{sum_by-cons, sum_by-append}
use Rattle.std.proofs.Math.Seq.{take-length, take-append_seam, get_or-append_seam}
use Rattle.history_model.specs.History.{Body, Content, Whole, Change, Book, Land, Policy, Fault, Entry, bodies, is_stored}
use Rattle.history_model.specs.Journal.{Header, HoldsParts, IsPayload, HoldsRecords, Stands, header_bytes, is_header, framed, open_record, payload_len, record_len, size}
use Rattle.reply_model.specs.Legal.{IsLegal}
use Rattle.reply_model.proofs.Histories.{bodies-append}
use Rattle.reply_model.proofs.Opened.{have_parts}
use Rattle.blob_disk.proofs.Torn.{split}
use Rattle.repo_journal.specs.Payloads.{ArePayloads, records}
use Rattle.repo_journal.specs.Sealing.{AddsRecord, IsClosed, KeepsRecords}
use Rattle.repo_journal.specs.Groups.{group, with_group, AddsGroup}
use Rattle.repo_journal.proofs.Files.{length-open_record}
use Rattle.repo_journal.proofs.Groups.{before_gate, group_of_one, records-append}
use Rattle.byte_fields.proofs.Lists.{all_both as both_all}
use Rattle.repo_journal.proofs.Wholes.{each_same, each_still}

-- records, and behind them a gate that isn't open
pub record HasRecords (bodies : List Body) (bytes : List ℕ) : Type 0 where
  pub payloads : List (List ℕ)
  pub are : ArePayloads bodies payloads
  pub gate : ℕ
  pub rest : List ℕ
  pub is : bytes ≡ records payloads ++ gate ∷ rest
  pub closed : gate ≢ 1

pub has_records : (bs : List Body) (bytes : List ℕ) → HoldsRecords bs bytes → HasRecords bs bytes
has_records [] bytes held = record { payloads = []; are = tt; gate = held.0; rest = held.1; is = held.2; closed = held.3 }
has_records (body ∷ bs) bytes held =
    let later = has_records bs held.1 held.4 in
    record {
      payloads = held.0 ∷ later.payloads;
      are = (held.2, later.are);
      gate = later.gate;
      rest = later.rest;
      is = held.3 ∙ ap (λ xs. open_record held.0 ++ xs) later.is ∙ sym (append_assoc (open_record held.0) (records later.payloads) (later.gate ∷ later.rest));
      closed = later.closed;
    }

pub holds_records : (bs : List Body) (payloads : List (List ℕ)) (gate : ℕ) (rest : List ℕ) → ArePayloads bs payloads → gate ≢ 1 → HoldsRecords bs (records payloads ++ gate ∷ rest)
holds_records [] [] gate rest are closed = (gate, rest, refl, closed)
holds_records [] (p ∷ ps) gate rest are closed = absurd are
holds_records (body ∷ bs) [] gate rest are closed = absurd are
holds_records (body ∷ bs) (p ∷ ps) gate rest are closed =
    (p, records ps ++ gate ∷ rest, are.0, append_assoc (open_record p) (records ps) (gate ∷ rest), holds_records bs ps gate rest are.1 closed)

-- ---- lengths

payload_length : (body : Body) (bytes : List ℕ) → IsPayload body bytes → length bytes ≡ payload_len body
payload_length (Content x n) bytes is = ap (λ xs. length xs) is.2 ∙ ap (λ k. suc k) is.1.1 ∙ omega arith
payload_length (Whole x n parts) bytes is = ap (λ xs. length xs) is.2
payload_length (Policy caller text) bytes is = ap (λ xs. length xs) is.2
payload_length (Change c) bytes is = ap (λ xs. length xs) is.2
payload_length (Book move) bytes is = ap (λ xs. length xs) is.2
payload_length (Land landing) bytes is = ap (λ xs. length xs) is.2
payload_length (Fault breaking) bytes is = ap (λ xs. length xs) is.2

length-records : (bs : List Body) (payloads : List (List ℕ)) → ArePayloads bs payloads → length (records payloads) ≡ sum_by record_len bs
length-records [] [] are = refl
length-records [] (p ∷ ps) are = absurd are
length-records (body ∷ bs) [] are = absurd are
length-records (body ∷ bs) (p ∷ ps) are =
    let whole = length-append (open_record p) (records ps) in
    let this = length-open_record p in
    let payload = payload_length body p are.0 in
    let later = length-records bs ps are.1 in
    let sum = sum_by-cons record_len body bs in
    omega arith

-- what stands before the closing gate
abbrev front : Header → List (List ℕ) → List ℕ
front header payloads = header_bytes header ++ records payloads

length-front : (header : Header) (h : List Entry) (payloads : List (List ℕ)) → ArePayloads (bodies h) payloads → length (front header payloads) ≡ size h - 1
length-front header h payloads are =
    let width : length (header_bytes header) ≡ 16 = refl in
    let whole = length-append (header_bytes header) (records payloads) in
    let all = length-records (bodies h) payloads are in
    omega arith

-- a file with these payloads
pub stands_for : (header : Header) (h : List Entry) (payloads : List (List ℕ)) (gate : ℕ) (rest : List ℕ) → IsTrue (is_header header) → ArePayloads (bodies h) payloads → gate ≢ 1 → AllByRecursion (HoldsParts (header_bytes header ++ (records payloads ++ gate ∷ rest)) (bodies h)) (bodies h) → Stands header (header_bytes header ++ (records payloads ++ gate ∷ rest)) h
stands_for header h payloads gate rest valid are closed parts = (valid, records payloads ++ gate ∷ rest, refl, holds_records (bodies h) payloads gate rest are closed, parts)

-- the bytes before the closing gate, and a gate that isn't open
pub record Shape (header : Header) (h : List Entry) (bytes : List ℕ) : Type 0 where
  pub payloads : List (List ℕ)
  pub are : ArePayloads (bodies h) payloads
  pub front : take (size h - 1) bytes ≡ front header payloads
  pub closed : IsClosed (size h) bytes

pub shape_of : (header : Header) (h : List Entry) (bytes : List ℕ) → Stands header bytes h → Shape header h bytes
shape_of header h bytes stands =
    let r = has_records (bodies h) stands.1 stands.3 in
    let is : bytes ≡ front header r.payloads ++ r.gate ∷ r.rest = stands.2 ∙ ap (λ xs. header_bytes header ++ xs) r.is ∙ sym (append_assoc (header_bytes header) (records r.payloads) (r.gate ∷ r.rest)) in
    let len = length-front header h r.payloads r.are in
    let whole = length-append (front header r.payloads) (r.gate ∷ r.rest) in
    let all = ap (λ xs. length xs) is in
    record {
      payloads = r.payloads;
      are = r.are;
      front = ap (λ n. take n bytes) (sym len) ∙ ap (λ xs. take (length (front header r.payloads)) xs) is ∙ take-append_seam (front header r.payloads) (r.gate ∷ r.rest);
      closed = record {
        long = omega arith;
        gate = λ one. r.closed (sym (ap (λ n. slice_index bytes n) (sym len) ∙ ap (λ xs. slice_index xs (length (front header r.payloads))) is ∙ get_or-append_seam (front header r.payloads) r.gate r.rest 0) ∙ one);
      };
    }

pub keeps_stands : (header : Header) (h : List Entry) (before image : List ℕ) → Stands header before h → KeepsRecords (size h) before image → Stands header image h
keeps_stands header h before image stands kept =
    let shape = shape_of header h before stands in
    let long = kept.closed.long in
    let at = size h - 1 in
    let parts : image ≡ take at image ++ slice_index image at ∷ drop (suc at) image = split at image (omega arith) in
    let whole : image ≡ header_bytes header ++ (records shape.payloads ++ slice_index image at ∷ drop (suc at) image) =
    parts ∙ ap (λ xs. xs ++ slice_index image at ∷ drop (suc at) image) (kept.front ∙ shape.front) ∙ append_assoc (header_bytes header) (records shape.payloads) (slice_index image at ∷ drop (suc at) image) in
    let parts_held = each_same image before at kept.front (bodies h) (omega arith) (bodies h) stands.4 in
    subst (λ xs. Stands header xs h) (sym whole)
    (stands_for header h shape.payloads (slice_index image at) (drop (suc at) image) stands.0 shape.are kept.closed.gate
    (subst (λ xs. AllByRecursion (HoldsParts xs (bodies h)) (bodies h)) whole parts_held))

-- ---- more entries

pub are_payloads-append : (cs bs : List Body) (ps qs : List (List ℕ)) → ArePayloads cs ps → ArePayloads bs qs → ArePayloads (cs ++ bs) (ps ++ qs)
are_payloads-append [] bs [] qs first next = next
are_payloads-append [] bs (p ∷ ps) qs first next = absurd first
are_payloads-append (c ∷ cs) bs [] qs first next = absurd first
are_payloads-append (c ∷ cs) bs (p ∷ ps) qs first next = (first.0, are_payloads-append cs bs ps qs first.1 next)

-- the gate is open, and the group stands behind it
group_opened : (payload : List ℕ) (payloads : List (List ℕ)) (rest : List ℕ) → 1 ∷ (group (payload ∷ payloads) ++ rest) ≡ records (payload ∷ payloads) ++ 0 ∷ rest
group_opened payload payloads rest = ap (λ xs. 1 ∷ xs) (append_assoc (before_gate payload payloads) (0 ∷ []) rest)

-- a file with the payloads of all
module _ (header : Header) (h g : List Entry) (ps : List (List ℕ)) (before image rest : List ℕ) (stands : Stands header before h) (legal : IsLegal header h) (are : ArePayloads (bodies g) ps) where
  abbrev front_of : List ℕ
  front_of = take (size h - 1) before

  -- up to the closing gate
  abbrev file_of : List ℕ
  file_of = front_of ++ (records ps ++ 0 ∷ [])

  shape : Shape header h before
  shape = shape_of header h before stands

  front_len : length front_of ≡ size h - 1
  front_len = ap (λ xs. length xs) shape.front ∙ length-front header h shape.payloads shape.are

  adds_all : image ≡ front_of ++ (records ps ++ 0 ∷ rest) → AllByRecursion (HoldsParts file_of (bodies h ++ bodies g)) (bodies g) → Stands header image (h ++ g)
  adds_all is new =
      let whole : image ≡ header_bytes header ++ (records (shape.payloads ++ ps) ++ 0 ∷ rest) =
      is
      ∙ ap (λ xs. xs ++ (records ps ++ 0 ∷ rest)) shape.front
      ∙ append_assoc (header_bytes header) (records shape.payloads) (records ps ++ 0 ∷ rest)
      ∙ ap (λ xs. header_bytes header ++ xs) (sym (append_assoc (records shape.payloads) (records ps) (0 ∷ rest)) ∙ ap (λ xs. xs ++ 0 ∷ rest) (sym (records-append shape.payloads ps))) in
      let all = subst (λ bs. ArePayloads bs (shape.payloads ++ ps)) (sym (bodies-append h g)) (are_payloads-append (bodies h) (bodies g) shape.payloads ps shape.are are) in
      let longer : image ≡ file_of ++ rest = is ∙ sym (append_assoc front_of (records ps ++ 0 ∷ []) rest ∙ ap (λ xs. front_of ++ xs) (append_assoc (records ps) (0 ∷ []) rest)) in
      let same : take (length file_of) image ≡ take (length file_of) file_of = ap (λ xs. take (length file_of) xs) longer ∙ take-append_seam file_of rest ∙ sym (take-length file_of) in
      let first : take (size h - 1) image ≡ take (size h - 1) before = ap (λ n. take n image) (sym front_len) ∙ ap (λ xs. take (length front_of) xs) is ∙ take-append_seam front_of (records ps ++ 0 ∷ rest) in
      let fits : 16 + sum_by record_len (bodies h ++ bodies g) ≤ length file_of =
      (let sum = sum_by-append record_len (bodies h) (bodies g) in
      let len = length-append front_of (records ps ++ 0 ∷ []) in
      let tail = length-append (records ps) (0 ∷ []) in
      let these = length-records (bodies g) ps are in
      let before_it = front_len in
      omega arith) in
      let old_parts = each_still image before (size h - 1) first (bodies h) (omega arith) (bodies g) (bodies h) (have_parts header h legal) stands.4 in
      let new_parts = each_same image file_of (length file_of) same (bodies h ++ bodies g) fits (bodies g) new in
      let parts = subst (λ bs. AllByRecursion (HoldsParts image bs) bs) (sym (bodies-append h g)) (both_all (HoldsParts image (bodies h ++ bodies g)) (bodies h) (bodies g) old_parts new_parts) in
      subst (λ xs. Stands header xs (h ++ g)) (sym whole)
      (stands_for header (h ++ g) (shape.payloads ++ ps) 0 rest stands.0 all (λ one. omega arith)
      (subst (λ xs. AllByRecursion (HoldsParts xs (bodies (h ++ g))) (bodies (h ++ g))) whole parts))

pub group_stands : (header : Header) (h g : List Entry) (payload : List ℕ) (payloads : List (List ℕ)) (before image : List ℕ) → Stands header before h → IsLegal header h → ArePayloads (bodies g) (payload ∷ payloads) → AllByRecursion (HoldsParts (with_group (size h) (group (payload ∷ payloads)) before) (bodies h ++ bodies g)) (bodies g) → AddsGroup (size h) (group (payload ∷ payloads)) before image → Stands header image (h ++ g)
group_stands header h g payload payloads before image stands legal are parts added =
    adds_all header h g (payload ∷ payloads) before image added.rest stands legal are (added.is ∙ ap (λ xs. take (size h - 1) before ++ xs) (group_opened payload payloads added.rest)) parts

-- one more
pub adds_stands : (header : Header) (h : List Entry) (entry : Entry) (payload before image : List ℕ) → Stands header before h → IsLegal header h → IsTrue (is_stored entry.body) → IsPayload entry.body payload → AllByRecursion (HoldsParts (with_group (size h) (framed payload) before) (bodies h ++ entry.body ∷ [])) (entry.body ∷ []) → AddsRecord (size h) payload before image → Stands header image (h ++ entry ∷ [])
adds_stands header h entry payload before image stands legal stored is parts added =
    let front = take (size h - 1) before in
    let one : bodies (entry ∷ []) ≡ entry.body ∷ [] = (λ i. cond (stored i) (entry.body ∷ []) []) in
    let are = subst (λ bs. ArePayloads bs (payload ∷ [])) (sym one) (is, tt) in
    let in_group = subst (λ bytes. AllByRecursion (HoldsParts (with_group (size h) bytes before) (bodies h ++ entry.body ∷ [])) (entry.body ∷ [])) (group_of_one payload) parts in
    adds_all header h (entry ∷ []) (payload ∷ []) before image added.rest stands legal are
    (added.is ∙ ap (λ xs. front ++ (xs ++ 0 ∷ added.rest)) (sym (append-nil (open_record payload))))
    (subst (λ bs. AllByRecursion (HoldsParts (with_group (size h) (group (payload ∷ [])) before) (bodies h ++ bs)) bs) (sym one) in_group)

-- the file is as much longer as the group is long
pub group_size : (h g : List Entry) (payload : List ℕ) (payloads : List (List ℕ)) → ArePayloads (bodies g) (payload ∷ payloads) → size (h ++ g) ≡ size h + length (group (payload ∷ payloads))
group_size h g payload payloads are =
    let all = ap (λ bs. sum_by record_len bs) (bodies-append h g) in
    let split = sum_by-append record_len (bodies h) (bodies g) in
    let this = length-records (bodies g) (payload ∷ payloads) are in
    let gate = length-append (before_gate payload payloads) (0 ∷ []) in
    omega arith
