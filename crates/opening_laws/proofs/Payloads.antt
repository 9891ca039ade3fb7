-- A payload of an entry that may come next is read as this entry.
use Rattle.std.proofs.Common.{◌≡◌, ℕ, suc, ◌*◌, ◌<◌, ◌≤◌, ◌^◌, Bool, true, false, cond, not, ◌&&◌, ◌||◌, List, [], ◌∷◌, ◌++◌, map, length, take, refl, sym, ap, subst, ◌∙◌, arith, length-append}
use Rattle.std.specs.Prelude.{Option, None, Some, Ok, Err, IfSome, nat_lt, ◌==◌, position, is_none, if◌then◌else◌}
use Rattle.std.specs.List.{AllByRecursion, list_all, list_any, concat}
use Rattle.changeset_model.specs.Version.{version_byte, is_second}
use Rattle.std.specs.Option.{option_or, option_to_list}
use Rattle.std.specs.Result.{result_ok}
use Rattle.std.specs.Int.{w8, w16, w32, w64, to_be_bytes}
use Rattle.std.proofs.lemmas.Bool.{le-ltb, ltb-false, ltb-true, and_parts}
use Rattle.std.proofs.lemmas.List.{append-nil}
use Rattle.sha2.specs.Sha256.{sha256}
use Rattle.byte_fields.specs.Bytes.{Id, are_bytes, is_bytes, sized}
use Rattle.byte_fields.specs.Reading.{Reader, value, and_then, ◌>>=◌, field, number, keeping, as_one, times, read, whole, any, id}
use Rattle.byte_fields.proofs.FieldLemmas.{Reads, reads_then, reads_last, reads_field, keeps, reads_number, reads_with_len, spelled_8, spelled_16, spelled_32, spelled_64}
use Rattle.changeset_model.specs.Changeset.{Changeset, spelling, most_content, most_encoded}
use Rattle.changeset_model.specs.Decoding.{decoded}
use Rattle.changeset_model.proofs.Spelling.{from_author_bytes, reads_id}
use Rattle.history_model.specs.Bookmark.{is_name_byte, is_name}
use Rattle.history_model.specs.History.{Body, Content, Whole, Change, Book, Policy, Entry, is_stored, changesets_in, holds_policy}
use Rattle.history_model.specs.Pushrebase.{rewrite, moment_of}
use Rattle.history_model.specs.Journal.{Header, optional_id, moment_bytes, payload, payload_len, IsPayload, most_payload}
use Rattle.history_model.specs.Payload.{bookmark_name, flagged, optional, encoded, book, no_moment, a_moment, landing, with_caller, wrapper, by_mark, body, payload_body}
use Rattle.history_model.specs.Payload as reading
use Rattle.reply_model.specs.Reply.{is_ask, told, ids_in, are_pieces, Ask, PutContent, PutWhole, PutChangeset, SetBookmark, LandDraft, most_stack, SetPolicy}
use Rattle.reply_model.specs.Legal.{MayFollow, IsLegal}
use Rattle.changeset_model.proofs.Spelling.{len_of as len_32}
use Rattle.manifest_model.proofs.Nodes.{spelled_small as spelled_short}
use Rattle.opening_laws.proofs.Pieces.{ids_good, pieces_fit}
use Rattle.opening_laws.proofs.Made.{a_landing, landed_on, MadeBy, is_made}
use Rattle.opening_laws.proofs.Rules.{IsUploadable, digest_is, what_is_uploaded, is_decoded, head_is_id, uploadable_of_next}

-- ---- a mark, and what follows it

abbrev is_mark : ℕ → Bool
is_mark n = n == 0x42 || n == 0x43 || n == 0x4D || n == 0x4C || n == 0x4E || n == 0x57 || n == 0x41

abbrev MarkRead : ℕ → List ℕ → Body → Type 0
MarkRead mark rest b = by_mark mark rest ≡ Ok (b, [])

read_marked : (mark : ℕ) (rest : List ℕ) (b : Body) → is_mark mark ≡ true → length (mark ∷ rest) ≤ most_payload → MarkRead mark rest b → payload_body (mark ∷ rest) ≡ Ok b
read_marked mark rest b m short e =
    (λ i. cond (le-ltb most_payload (length (mark ∷ rest)) short i) (Err most_payload) (read body (mark ∷ rest)))
    ∙ ap (λ r. whole (length (mark ∷ rest)) (and_then r by_mark)) (reads_number w8 is_mark (mark ∷ []) mark (spelled_8 mark) m rest)
    ∙ ap (whole (length (mark ∷ rest))) e

-- to the end
to_end : {A : Type 0} (r : Reader A) (bytes : List ℕ) (x : A) → Reads r bytes x → r bytes ≡ Ok (x, [])
to_end r bytes x reads = ap r (sym (append-nil bytes)) ∙ reads []

-- ---- contents and changesets

read_content : (bytes : List ℕ) → length bytes ≤ most_content → payload_body (0x42 ∷ bytes) ≡ Ok (Content (sha256 bytes) (length bytes))
read_content bytes short = read_marked 0x42 bytes (Content (sha256 bytes) (length bytes)) refl (omega arith) refl

abbrev after_mark : Changeset → List ℕ
after_mark c = version_byte c.version ∷ length c.parents ∷ (concat c.parents ++ from_author_bytes c)

read_upload : (c : Changeset) → IsUploadable c → payload_body (spelling c) ≡ Ok (Change c)
read_upload c g =
    let view = λ (rest : List ℕ). result_ok (decoded (0x43 ∷ rest)) in
    let rest = after_mark c in
    let short : length (spelling c) ≤ most_encoded = g.short in
    read_marked 0x43 rest (Change c) refl (omega arith)
    (ap (λ r. and_then r (λ c. value (Change c))) (to_end (field (length rest) view) rest c (reads_field (length rest) view rest c refl (ap result_ok (is_decoded c g)))))

-- ---- bookmarks

short_by : (bad : Option ℕ) (n : ℕ) (long empty : Bool) → nat_lt 128 n ≡ long → is_none (option_or bad (if long then Some 128 else if empty then Some 0 else None)) ≡ true → n ≤ 128
short_by (Some at) n long empty e h = absurd cc
short_by None n true empty e h = absurd cc
short_by None n false empty e h = ltb-false 128 n e

name_is_short : (text : List ℕ) → is_name text ≡ true → length text ≤ 128
name_is_short text h = short_by (position (λ b. not (is_name_byte b)) (take 128 text)) (length text) (nat_lt 128 (length text)) (length text == 0) refl h

reads_name : (name : List ℕ) → is_name name ≡ true → Reads bookmark_name (sized w8 name) name
reads_name name h =
    let short = name_is_short name h in
    reads_with_len w8 any (keeping is_name) name name (spelled_short (length name) (omega arith)) refl (keeps is_name name h)

abbrev IsOptionalId : Option Id → Type 0
IsOptionalId o = IfSome o (λ x. is_bytes 32 x ≡ true)

reads_flagged : (o : Option Id) → IsOptionalId o → Reads (number w8 (λ n. nat_lt n 2) >>= flagged) (optional_id o) o
reads_flagged None h = reads_then (number w8 (λ n. nat_lt n 2)) flagged (0 ∷ []) [] 0 None (reads_number w8 (λ n. nat_lt n 2) (0 ∷ []) 0 (spelled_8 0) refl) (λ rest. refl)
reads_flagged (Some x) h =
    reads_then (number w8 (λ n. nat_lt n 2)) flagged (1 ∷ []) x 1 (Some x) (reads_number w8 (λ n. nat_lt n 2) (1 ∷ []) 1 (spelled_8 1) refl)
    (reads_last id (λ y. Some y) x x (reads_id x h))

reads_optional : (o : Option Id) → IsOptionalId o → Reads optional (optional_id o) o
reads_optional o h rest = ap (as_one (length (optional_id o ++ rest))) (reads_flagged o h rest)

abbrev a_move : List ℕ → Option Id → Option Id → Option (List ℕ) → Body
a_move name from to caller = Book (record { name = name; from = from; to = to; caller = caller })

reads_book : (name : List ℕ) (from to : Option Id) (caller : Option (List ℕ)) → is_name name ≡ true → IsOptionalId from → IsOptionalId to → Reads (book caller) (sized w8 name ++ (optional_id from ++ (optional_id to ++ []))) (a_move name from to caller)
reads_book name from to caller n f t =
    reads_then bookmark_name (λ name. optional >>= λ from. optional >>= λ to. value (a_move name from to caller)) (sized w8 name) (optional_id from ++ (optional_id to ++ [])) name (a_move name from to caller) (reads_name name n)
    (reads_then optional (λ from. optional >>= λ to. value (a_move name from to caller)) (optional_id from) (optional_id to ++ []) from (a_move name from to caller) (reads_optional from f)
    (reads_then optional (λ to. value (a_move name from to caller)) (optional_id to) [] to (a_move name from to caller) (reads_optional to t) (λ rest. refl)))

optional_len : (o : Option Id) → IsOptionalId o → length (optional_id o) ≤ 33
optional_len None h = omega arith
optional_len (Some x) h = let len = len_32 x h in omega arith

both_ids : (from to : Option Id) → list_all (is_bytes 32) (option_to_list from ++ option_to_list to) ≡ true → IsOptionalId from × IsOptionalId to
both_ids None None h = (tt, tt)
both_ids None (Some y) h = (tt, (and_parts (is_bytes 32 y) true h).0)
both_ids (Some x) None h = ((and_parts (is_bytes 32 x) true h).0, tt)
both_ids (Some x) (Some y) h = let both = and_parts (is_bytes 32 x) (is_bytes 32 y && true) h in (both.0, (and_parts (is_bytes 32 y) true both.1).0)

-- a caller who is told has a name
abbrev IsCaller : Option (List ℕ) → Type 0
IsCaller caller = IfSome caller (λ c. is_name c ≡ true)

abbrev may_be_wrapped : ℕ → Bool
may_be_wrapped n = n == 0x4D || n == 0x4C || n == 0x4E || n == 0x52

read_wrapped : (caller : List ℕ) (mark : ℕ) (rest : List ℕ) (b : Body) → is_name caller ≡ true → may_be_wrapped mark ≡ true → length (0x41 ∷ (sized w8 caller ++ (mark ∷ rest))) ≤ most_payload → Reads (with_caller caller mark) rest b → payload_body (0x41 ∷ (sized w8 caller ++ (mark ∷ rest))) ≡ Ok b
read_wrapped caller mark rest b n m short reads =
    read_marked 0x41 (sized w8 caller ++ (mark ∷ rest)) b refl short
    (to_end wrapper (sized w8 caller ++ (mark ∷ rest)) b
    (reads_then bookmark_name (λ caller. number w8 may_be_wrapped >>= λ mark. with_caller caller mark) (sized w8 caller) ((mark ∷ []) ++ rest) caller b (reads_name caller n)
    (reads_then (number w8 may_be_wrapped) (λ mark. with_caller caller mark) (mark ∷ []) rest mark b (reads_number w8 may_be_wrapped (mark ∷ []) mark (spelled_8 mark) m) reads)))

book_len : (name a b : List ℕ) → length name ≤ 128 → length a ≤ 33 → length b ≤ 33 → length (0x4D ∷ (sized w8 name ++ (a ++ (b ++ [])))) ≤ 196
book_len name a b n la lb =
    let x = length-append (sized w8 name) (a ++ (b ++ [])) in
    let y = length-append a (b ++ []) in
    let z = length-append b [] in
    omega arith

wrapped_len : (caller rest : List ℕ) → length caller ≤ 128 → length rest ≤ 196 → length (0x41 ∷ (sized w8 caller ++ rest)) ≤ most_payload
wrapped_len caller rest n l = let x = length-append (sized w8 caller) rest in omega arith

book_by : (name : List ℕ) (from to : Option Id) (caller : Option (List ℕ)) → is_name name ≡ true → IsOptionalId from → IsOptionalId to → IsCaller caller → payload_body (payload (a_move name from to caller) []) ≡ Ok (a_move name from to caller)
book_by name from to None n f t c =
    let rest = sized w8 name ++ (optional_id from ++ (optional_id to ++ [])) in
    let len : length (0x4D ∷ rest) ≤ 196 = book_len name (optional_id from) (optional_id to) (name_is_short name n) (optional_len from f) (optional_len to t) in
    read_marked 0x4D rest (a_move name from to None) refl (omega arith)
    (to_end (book None) rest (a_move name from to None) (reads_book name from to None n f t))
book_by name from to (Some caller) n f t c =
    let rest = sized w8 name ++ (optional_id from ++ (optional_id to ++ [])) in
    read_wrapped caller 0x4D rest (a_move name from to (Some caller)) c refl
    (wrapped_len caller (0x4D ∷ rest) (name_is_short caller c) (book_len name (optional_id from) (optional_id to) (name_is_short name n) (optional_len from f) (optional_len to t)))
    (reads_book name from to (Some caller) n f t)

told_fits : (b : Bool) (caller : List ℕ) → is_name caller ≡ true → IsCaller (cond b (Some caller) None)
told_fits true caller h = h
told_fits false caller h = tt

read_book : (h : List Entry) (caller name : List ℕ) (from to : Option Id) → is_ask h (SetBookmark caller name from to) ≡ true → payload_body (payload (a_move name from to (told h caller)) []) ≡ Ok (a_move name from to (told h caller))
read_book h caller name from to asked =
    let both = and_parts (is_name caller && is_name name) (list_all (is_bytes 32) (option_to_list from ++ option_to_list to)) asked in
    let names = and_parts (is_name caller) (is_name name) both.0 in
    let ids = both_ids from to both.1 in
    book_by name from to (told h caller) names.1 ids.0 ids.1 (told_fits (holds_policy h) caller names.0)

-- ---- policies

policy_len : (caller text : List ℕ) → length caller ≤ 128 → length text ≤ 65_536 → length (0x41 ∷ (sized w8 caller ++ (0x52 ∷ text))) ≤ most_payload
policy_len caller text n l = let x = length-append (sized w8 caller) (0x52 ∷ text) in omega arith

read_policy : (caller text : List ℕ) → is_name caller ≡ true → length text ≤ 65_536 → payload_body (payload (Policy caller text) []) ≡ Ok (Policy caller text)
read_policy caller text n short =
    read_marked 0x41 (sized w8 caller ++ (0x52 ∷ text)) (Policy caller text) refl (policy_len caller text (name_is_short caller n) short)
    (ap (λ r. and_then r (λ caller. number w8 may_be_wrapped >>= λ mark. with_caller caller mark)) (reads_name caller n (0x52 ∷ text))
    ∙ ap (λ r. and_then r (λ mark. with_caller caller mark)) (reads_number w8 may_be_wrapped (0x52 ∷ []) 0x52 (spelled_8 0x52) refl text))

-- ---- landings

reads_encoded : (c : Changeset) → IsUploadable c → Reads encoded (sized w32 (spelling c)) c
reads_encoded c g =
    let short : length (spelling c) ≤ most_encoded = g.short in
    reads_with_len w32 any (λ bytes. result_ok (decoded bytes)) (spelling c) c (spelled_32 (length (spelling c)) (omega arith)) refl (ap result_ok (is_decoded c g))

abbrev sized_all : List Changeset → List ℕ
sized_all cs = concat (map (λ c. sized w32 (spelling c)) cs)

reads_all : (cs : List Changeset) → AllByRecursion IsUploadable cs → Reads (times (length cs) encoded) (sized_all cs) cs
reads_all [] all = λ rest. refl
reads_all (c ∷ cs) all =
    reads_then encoded (λ c. times (length cs) encoded >>= λ cs. value (c ∷ cs)) (sized w32 (spelling c)) (sized_all cs) c (c ∷ cs) (reads_encoded c all.0)
    (reads_last (times (length cs) encoded) (λ cs. c ∷ cs) (sized_all cs) cs (reads_all cs all.1))

abbrev after_landing_mark : List ℕ → Id → Id → List Changeset → Option ℕ → List ℕ
after_landing_mark name old draft new moment = sized w8 name ++ (old ++ (draft ++ (moment_bytes moment ++ (to_be_bytes w16 (length new) ++ sized_all new))))

abbrev moment_reader : Option ℕ → Reader (Option ℕ)
moment_reader None = no_moment
moment_reader (Some moment) = a_moment

abbrev IsMoment : Option ℕ → Type 0
IsMoment moment = IfSome moment (λ t. t < 2 ^ 64)

reads_moment : (moment : Option ℕ) → IsMoment moment → Reads (moment_reader moment) (moment_bytes moment) moment
reads_moment None h = λ rest. refl
reads_moment (Some t) h = reads_last (number w64 any) (λ t. Some t) (to_be_bytes w64 t) t (reads_number w64 any (to_be_bytes w64 t) t (spelled_64 t h) refl)

record Right (name : List ℕ) (old draft : Id) (new : List Changeset) (moment : Option ℕ) (caller : Option (List ℕ)) : Type 0 where
  name_fits : is_name name ≡ true
  old_fits : is_bytes 32 old ≡ true
  draft_fits : is_bytes 32 draft ≡ true
  few : length new ≤ most_stack
  all : AllByRecursion IsUploadable new
  moment_fits : IsMoment moment
  caller_fits : IsCaller caller

reads_landing : (name : List ℕ) (old draft : Id) (new : List Changeset) (moment : Option ℕ) (caller : Option (List ℕ)) → Right name old draft new moment caller → Reads (landing caller (moment_reader moment)) (after_landing_mark name old draft new moment) (a_landing name old draft new moment caller)
reads_landing name old draft new moment caller r =
    let all_read = a_landing name old draft new moment caller in
    let counted = to_be_bytes w16 (length new) ++ sized_all new in
    let few : length new ≤ 100 = r.few in
    reads_then bookmark_name (λ name. id >>= λ old. id >>= λ draft. moment_reader moment >>= λ at. number w16 any >>= λ count. times count encoded >>= λ new. value (a_landing name old draft new at caller)) (sized w8 name) (old ++ (draft ++ (moment_bytes moment ++ counted))) name all_read (reads_name name r.name_fits)
    (reads_then id (λ old. id >>= λ draft. moment_reader moment >>= λ at. number w16 any >>= λ count. times count encoded >>= λ new. value (a_landing name old draft new at caller)) old (draft ++ (moment_bytes moment ++ counted)) old all_read (reads_id old r.old_fits)
    (reads_then id (λ draft. moment_reader moment >>= λ at. number w16 any >>= λ count. times count encoded >>= λ new. value (a_landing name old draft new at caller)) draft (moment_bytes moment ++ counted) draft all_read (reads_id draft r.draft_fits)
    (reads_then (moment_reader moment) (λ at. number w16 any >>= λ count. times count encoded >>= λ new. value (a_landing name old draft new at caller)) (moment_bytes moment) counted moment all_read (reads_moment moment r.moment_fits)
    (reads_then (number w16 any) (λ count. times count encoded >>= λ new. value (a_landing name old draft new moment caller)) (to_be_bytes w16 (length new)) (sized_all new) (length new) all_read (reads_number w16 any (to_be_bytes w16 (length new)) (length new) (spelled_16 (length new) (omega arith)) refl)
    (reads_last (times (length new) encoded) (λ new. a_landing name old draft new moment caller) (sized_all new) new (reads_all new r.all))))))

read_landing : (name : List ℕ) (old draft : Id) (new : List Changeset) (moment : Option ℕ) (caller : Option (List ℕ)) → Right name old draft new moment caller → payload_len (a_landing name old draft new moment caller) ≤ most_payload → payload_body (payload (a_landing name old draft new moment caller) []) ≡ Ok (a_landing name old draft new moment caller)
read_landing name old draft new None None r short =
    let rest = after_landing_mark name old draft new None in
    read_marked 0x4C rest (a_landing name old draft new None None) refl short (to_end (landing None no_moment) rest (a_landing name old draft new None None) (reads_landing name old draft new None None r))
read_landing name old draft new (Some t) None r short =
    let rest = after_landing_mark name old draft new (Some t) in
    read_marked 0x4E rest (a_landing name old draft new (Some t) None) refl short (to_end (landing None a_moment) rest (a_landing name old draft new (Some t) None) (reads_landing name old draft new (Some t) None r))
read_landing name old draft new None (Some caller) r short =
    read_wrapped caller 0x4C (after_landing_mark name old draft new None) (a_landing name old draft new None (Some caller)) r.caller_fits refl short (reads_landing name old draft new None (Some caller) r)
read_landing name old draft new (Some t) (Some caller) r short =
    read_wrapped caller 0x4E (after_landing_mark name old draft new (Some t)) (a_landing name old draft new (Some t) (Some caller)) r.caller_fits refl short (reads_landing name old draft new (Some t) (Some caller) r)

moment_is : (b : Bool) (moment : ℕ) → nat_lt moment (2 ^ 64) ≡ true → IsMoment (cond b (Some moment) None)
moment_is true moment h = ltb-true moment (2 ^ 64) h
moment_is false moment h = tt

-- ---- wholes

reads_ids : (xs : List Id) → AllByRecursion (λ x. is_bytes 32 x ≡ true) xs → Reads (times (length xs) id) (concat xs) xs
reads_ids [] all = λ rest. refl
reads_ids (x ∷ xs) all =
    reads_then id (λ x. times (length xs) id >>= λ xs. value (x ∷ xs)) x (concat xs) x (x ∷ xs) (reads_id x all.0)
    (reads_last (times (length xs) id) (λ xs. x ∷ xs) (concat xs) xs (reads_ids xs all.1))

concat_len : (xs : List Id) → AllByRecursion (λ x. is_bytes 32 x ≡ true) xs → length (concat xs) ≡ 32 * length xs
concat_len [] all = refl
concat_len (x ∷ xs) all =
    let one = len_32 x all.0 in
    let rest = concat_len xs all.1 in
    let sum = length-append x (concat xs) in
    omega arith

whole_len : (x : Id) (n : ℕ) (parts : List Id) → length x ≡ 32 → length (concat parts) ≡ 32 * length parts → length parts ≤ 64 → length (0x57 ∷ (x ++ (to_be_bytes w64 n ++ (to_be_bytes w16 (length parts) ++ concat parts)))) ≤ most_payload
whole_len x n parts one all few = let a = length-append x (to_be_bytes w64 n ++ (to_be_bytes w16 (length parts) ++ concat parts)) in omega arith

read_whole : (x : Id) (n : ℕ) (parts : List Id) → is_bytes 32 x ≡ true → n < 2 ^ 64 → length parts ≤ 64 → AllByRecursion (λ p. is_bytes 32 p ≡ true) parts → payload_body (payload (Whole x n parts) []) ≡ Ok (Whole x n parts)
read_whole x n parts fits small few all =
    let counted = to_be_bytes w16 (length parts) ++ concat parts in
    let rest = x ++ (to_be_bytes w64 n ++ counted) in
    read_marked 0x57 rest (Whole x n parts) refl (whole_len x n parts (len_32 x fits) (concat_len parts all) few)
    (to_end reading.whole rest (Whole x n parts)
    (reads_then id (λ x. number w64 any >>= λ len. number w16 any >>= λ count. times count id >>= λ parts. value (Whole x len parts)) x (to_be_bytes w64 n ++ counted) x (Whole x n parts) (reads_id x fits)
    (reads_then (number w64 any) (λ len. number w16 any >>= λ count. times count id >>= λ parts. value (Whole x len parts)) (to_be_bytes w64 n) counted n (Whole x n parts) (reads_number w64 any (to_be_bytes w64 n) n (spelled_64 n small) refl)
    (reads_then (number w16 any) (λ count. times count id >>= λ parts. value (Whole x n parts)) (to_be_bytes w16 (length parts)) (concat parts) (length parts) (Whole x n parts) (reads_number w16 any (to_be_bytes w16 (length parts)) (length parts) (spelled_16 (length parts) (omega arith)) refl)
    (reads_last (times (length parts) id) (λ parts. Whole x n parts) (concat parts) parts (reads_ids parts all))))))

rewrite_len : (stack : List Changeset) (head : Id) (moment : ℕ) → length (rewrite stack head moment) ≡ length stack
rewrite_len [] head moment = refl
rewrite_len (c ∷ cs) head moment = ap suc (rewrite_len cs _ moment)

-- ---- an entry that may come next

read_made : (header : Header) (h : List Entry) (ask : Ask) (b : Body) (bytes : List ℕ) → IsLegal header h → is_ask h ask ≡ true → MadeBy h ask b → AllByRecursion IsUploadable (changesets_in b) → IsPayload b bytes → payload_body bytes ≡ Ok b
read_made header h (PutContent given) b bytes legal asked m good p =
    let q = subst (λ b. IsPayload b bytes) m.1 p in
    ap payload_body q.2 ∙ read_content q.0 (subst (λ n. n ≤ most_content) (sym q.1.1) m.0) ∙ (λ i. Ok (Content (q.1.0 i) (q.1.1 i))) ∙ ap (λ b. Ok b) (sym m.1)
read_made header h (PutWhole given pieces) b bytes legal asked m good p =
    let q = subst (λ b. IsPayload b bytes) m.3 p in
    let both = and_parts (are_bytes given) (are_pieces h (ids_in given) pieces) asked in
    let ids = ids_good given both.0 m.0 in
    ap payload_body (q.2 ∙ ap (payload (Whole (sha256 (concat pieces)) (length (concat pieces)) (ids_in given))) q.1)
    ∙ read_whole (sha256 (concat pieces)) (length (concat pieces)) (ids_in given) (digest_is (concat pieces)) (pieces_fit header h (ids_in given) pieces legal both.1 m.2 ids.few) ids.few ids.each
    ∙ ap (λ b. Ok b) (sym m.3)
read_made header h (PutChangeset given) b bytes legal asked m good p =
    let q = subst (λ b. IsPayload b bytes) m.3 p in
    ap payload_body q.2 ∙ read_upload m.0 (what_is_uploaded given m.0 asked m.1).0 ∙ ap (λ b. Ok b) (sym m.3)
read_made header h (SetBookmark caller name from to) b bytes legal asked m good p =
    let q = subst (λ b. IsPayload b bytes) m.0 p in
    ap payload_body (q.2 ∙ ap (payload (a_move name from to (told h caller))) q.1) ∙ read_book h caller name from to asked ∙ ap (λ b. Ok b) (sym m.0)
read_made header h (LandDraft caller name draft moment) b bytes legal asked m good p =
    let q = subst (λ b. IsPayload b bytes) m.8 p in
    let last = and_parts (is_name caller && is_name name && is_bytes 32 draft) (nat_lt moment (2 ^ 64)) asked in
    let both = and_parts (is_name caller && is_name name) (is_bytes 32 draft) last.0 in
    let names = and_parts (is_name caller) (is_name name) both.0 in
    let new = rewrite m.1.stack m.0 moment in
    ap payload_body (q.2 ∙ ap (payload (landed_on h caller name draft moment m.0 m.1)) q.1)
    ∙ read_landing name m.0 draft new (moment_of m.1.stack moment) (told h caller) (record {
      name_fits = names.1;
      old_fits = head_is_id header h name m.0 legal m.2;
      draft_fits = both.1;
      few = subst (λ n. n ≤ most_stack) (sym (rewrite_len m.1.stack m.0 moment)) m.5;
      all = subst (λ b. AllByRecursion IsUploadable (changesets_in b)) m.8 good;
      moment_fits = moment_is (list_any (λ c. is_second c.version) m.1.stack) moment last.1;
      caller_fits = told_fits (holds_policy h) caller names.0;
    }) m.7
    ∙ ap (λ b. Ok b) (sym m.8)
read_made header h (SetPolicy caller text) b bytes legal asked m good p =
    let q = subst (λ b. IsPayload b bytes) m.0 p in
    ap payload_body q.2 ∙ read_policy caller text (and_parts (is_name caller) (are_bytes text) asked).0 m.1 ∙ ap (λ b. Ok b) (sym m.0)

pub payload_read : (header : Header) (h : List Entry) (b : Body) (bytes : List ℕ) → IsLegal header h → MayFollow header h b → is_stored b ≡ true → IsPayload b bytes → payload_body bytes ≡ Ok b
payload_read header h b bytes legal m s p =
    let made = is_made header h b s m in
    read_made header h made.ask b bytes legal made.asked made.made (uploadable_of_next header h b legal s m) p
