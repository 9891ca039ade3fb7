-- A file that stands for a legal history opens as its stored entries.
use Rattle.std.proofs.Common.{◌≡◌, ℕ, zero, suc, ◌+◌, ◌-◌, ◌<◌, ◌≤◌, ◌^◌, Bool, true, false, cond, not, List, [], ◌∷◌, ◌++◌, map, length, take, drop, refl, sym, ap, subst, ◌∙◌, arith, length-append}
use Rattle.std.specs.Prelude.{◌↔◌, ◌&&◌, ℤ, None, Some, Option, option_map, unwrap_or, find, ok_or, ◌==◌, Result, Ok, Err, IsTrue, bytes_eq, nat_lt, nat_le, is_some}
use mathlib.Core.Bool.{true≢false}
use Rattle.std.specs.List.{AllByRecursion, list_any, list_all, concat}
use Rattle.changeset_model.specs.Version.{Version, First, Second, is_second}
use Rattle.std.specs.Option.{option_and_then, option_map_or, option_eq, option_to_list}
use Rattle.std.specs.Result.{result_ok}
use Rattle.std.specs.Int.{w32, w64, from_be_bytes, to_be_bytes}
use Rattle.std.proofs.lemmas.Bool.{le-ltb, ltb-false, ne_eqb, leb-true, and_parts, and_from, or_parts}
use Rattle.std.proofs.lemmas.List.{append_assoc, append-nil}
use Rattle.std.proofs.lemmas.Slice.Eq.{bytes_eq-Decides}
use Rattle.sha2.specs.Sha256.{sha256}
use Rattle.byte_fields.specs.Bytes.{Id, IsBytes, are_bytes, is_bytes, sized}
use Rattle.byte_fields.specs.Reading.{any, keeping}
use Rattle.byte_fields.proofs.FieldLemmas.{all_bytes, keeps, reads_with_len, spelled_32, spelled_64}
use Rattle.changeset_model.specs.Changeset.{Changeset, id_of, touched_paths, most_content}
use Rattle.changeset_model.proofs.Accepting.{IsBytes-drop}
use Rattle.history_model.specs.History.{Body, Content, Whole, Book, Entry, is_stored, unnumbered, bodies, stored, is_down, known, is_known, content_len, holds_policy, policy_of}
use Rattle.history_model.specs.Bookmark.{is_name, head}
use Rattle.history_model.specs.Pushrebase.{Fork, fork, clash, seconds_at, offset_at, on_parent, rewrite, moment_of}
use Rattle.history_model.specs.Journal.{Header, is_header, mark, header_bytes, open_record, payload, most_payload, IsPayload, HoldsRecords, held, HoldsParts, Stands}
use Rattle.history_model.specs.Payload.{payload_body}
use Rattle.policy_model.specs.Rules.{Denial, bookmark_place}
use Rattle.policy_model.specs.Held.{denied_under}
use Rattle.history_model.proofs.Policies.{held_has_text}
use Rattle.changeset_model.specs.Path.{Path}
use Rattle.reply_model.specs.Reply.{is_ask, Ask, PutContent, PutWhole, PutChangeset, SetBookmark, LandDraft, ids_in, are_pieces, parts_of, told, is_merge, Refusal, Down, TooLong, NoChangeset, Moved, NoBookmark, NoRoot, TooFarBehind, AlreadyIn, StackTooLong, MergeInStack, MergeInRange, Clash, ContentPut, WholePut, BookmarkSet, Granted, Judged, ◌>>=◌, refuse_if, refuse_some, unchanged, entered, most_range, most_stack, enter_landing, land, judge, SetPolicy, denial, denied_at}
use Rattle.reply_model.specs.Legal.{MayFollow, GoesOn, IsLegal}
use Rattle.reply_model.specs.Opening.{Damaged, NotARepository, nobody, ask_of, made_by, next_entry, next_record, go_on, records, opens_with, version_in, opens}
use Rattle.reply_model.proofs.Histories.{bodies-append, IsLegal-push}
use Rattle.reply_model.proofs.Opened.{opens_as, flat_is, joined_more}
use Rattle.byte_fields.proofs.Booleans.{same_some}
use Rattle.opening_laws.proofs.Lists.{IsBytes-front, IsBytes-back}
use Rattle.opening_laws.proofs.Pieces.{ids_good, same_total}
use Rattle.opening_laws.proofs.Held.{held_pieces}
use Rattle.opening_laws.proofs.Made.{MadeBy, is_made}
use Rattle.opening_laws.proofs.Rules.{what_is_uploaded}
use Rattle.opening_laws.proofs.Payloads.{payload_read}
use Rattle.reply_model.proofs.Opened.{same_history as same_stored}

-- ---- the judge sees a content's digest and length

pub same_put : (header : Header) (h : List Entry) (bytes other : List ℕ) → sha256 bytes ≡ sha256 other → length bytes ≡ length other → judge header h (PutContent bytes) ≡ judge header h (PutContent other)
same_put header h bytes other x n =
    (λ i. refuse_if (is_down h) Down >>= λ _.
    refuse_if (nat_lt most_content (n i)) (TooLong (n i)) >>= λ _.
    cond (is_some (content_len h (x i))) (unchanged (ContentPut (x i))) (entered header h (ContentPut (x i)) (Content (x i) (n i))))

-- and of a whole the digest and length of its pieces, joined
same_join : (header : Header) (h : List Entry) (body : List ℕ) (pieces others : List (List ℕ)) → sha256 (concat pieces) ≡ sha256 (concat others) → length (concat pieces) ≡ length (concat others) → judge header h (PutWhole body pieces) ≡ judge header h (PutWhole body others)
same_join header h body pieces others x n =
    (λ i. refuse_if (is_down h) Down >>= λ _.
    parts_of header h body >>= λ parts.
    cond (is_some (content_len h (x i))) (unchanged (WholePut (x i) (n i))) (entered header h (WholePut (x i) (n i)) (Whole (x i) (n i) parts)))

-- ---- the next entry

next_by : (file : List ℕ) (header : Header) (h : List Entry) (bytes : List ℕ) (b : Body) (ask : Ask) (granted : Granted) → payload_body bytes ≡ Ok b → ask_of file h bytes b ≡ Some ask → is_ask h ask ≡ true → judge header h ask ≡ Ok (record { granted = granted; made = Some b }) → payload b (drop 1 bytes) ≡ bytes → next_entry file header h bytes ≡ Some b
next_by file header h bytes b ask granted read asks asked judged same =
    ap (λ r. option_and_then (made_by header h bytes) (option_and_then (keeping (is_ask h)) (option_and_then (ask_of file h bytes) (result_ok r)))) read
    ∙ ap (λ o. option_and_then (made_by header h bytes) (option_and_then (keeping (is_ask h)) o)) asks
    ∙ ap (λ o. option_and_then (made_by header h bytes) o) (keeps (is_ask h) ask asked)
    ∙ ap (λ r. option_and_then (λ b. keeping (λ b. bytes_eq (payload b (drop 1 bytes)) bytes) b) (option_and_then (λ (judged : Judged). judged.made) (result_ok r))) judged
    ∙ keeps (λ b. bytes_eq (payload b (drop 1 bytes)) bytes) b ((bytes_eq-Decides (payload b (drop 1 bytes)) bytes).1 same)

next_joined : (file : List ℕ) (header : Header) (h : List Entry) (more : List Body) (given : List ℕ) (pieces : List (List ℕ)) (granted : Granted) (b : Body) (bytes : List ℕ) → IsBytes file → HoldsRecords (bodies h ++ more) (drop 16 file) → HoldsParts file (bodies h ++ more) b → is_ask h (PutWhole given pieces) ≡ true → judge header h (PutWhole given pieces) ≡ Ok (record { granted = granted; made = Some b }) → MadeBy h (PutWhole given pieces) b → IsPayload b bytes → payload_body bytes ≡ Ok b → next_entry file header h bytes ≡ Some b
next_joined file header h more given pieces granted b bytes fits holds parts asked judged m p read =
    let q = subst (λ b. IsPayload b bytes) m.3 p in
    let xs = ids_in given in
    let both = and_parts (are_bytes given) (are_pieces h xs pieces) asked in
    let ids = ids_good given both.0 m.0 in
    let from_file = λ (body : List ℕ). map (held file 16 (bodies h)) (ids_in body) in
    let there = held_pieces h more file fits holds xs m.1 m.2 in
    let digest : sha256 (concat (from_file given)) ≡ sha256 (concat pieces) =
    ap sha256 (sym (flat_is (held file 16 (bodies h)) xs)) ∙ ap sha256 (sym (joined_more file (bodies h) more xs m.1)) ∙ subst (HoldsParts file (bodies h ++ more)) m.3 parts
    in
    let len = same_total h xs (from_file given) pieces there both.1 in
    let ask = PutWhole (concat xs) (from_file (concat xs)) in
    next_by file header h bytes b ask granted read (ap (ask_of file h bytes) m.3)
    (ap (λ body. is_ask h (PutWhole body (from_file body))) ids.back ∙ and_from _ _ both.0 there)
    (ap (λ body. judge header h (PutWhole body (from_file body))) ids.back ∙ same_join header h given (from_file given) pieces digest len ∙ judged)
    (ap (λ b. payload b (drop 1 bytes)) m.3 ∙ sym q.2)

nobody_is_named : is_name nobody ≡ true
nobody_is_named = refl

-- a caller who isn't told makes no difference
told_back : (b : Bool) (caller : List ℕ) → cond b (Some (unwrap_or (cond b (Some caller) None) nobody)) None ≡ cond b (Some caller) None
told_back true caller = refl
told_back false caller = refl

told_asked : (b : Bool) (caller : List ℕ) (rule : List ℕ → Bool) → rule caller ≡ true → rule nobody ≡ true → rule (unwrap_or (cond b (Some caller) None) nobody) ≡ true
told_asked true caller rule h g = h
told_asked false caller rule h g = g

-- and is denied nothing
denied_by : (b : Bool) (held : Option (List ℕ)) → b ≡ is_some held → (caller : List ℕ) (ps : List Path) → denied_under held (unwrap_or (cond b (Some caller) None) nobody) ps ≡ denied_under held caller ps
denied_by true held e caller ps = refl
denied_by false None e caller ps = refl
denied_by false (Some text) e caller ps = absurd (true≢false (sym e))

denied_back : (h : List Entry) (caller : List ℕ) (ps : List Path) → denied_at h (unwrap_or (told h caller) nobody) ps ≡ denied_at h caller ps
denied_back h caller ps = denied_by (holds_policy h) (policy_of h) (held_has_text h) caller ps

pub set_same : (header : Header) (h : List Entry) (who caller name : List ℕ) (from to : Option Id) → told h who ≡ told h caller → denied_at h who (bookmark_place name ∷ []) ≡ denied_at h caller (bookmark_place name ∷ []) → judge header h (SetBookmark who name from to) ≡ judge header h (SetBookmark caller name from to)
set_same header h who caller name from to same alike =
    (λ i. refuse_if (is_down h) Down >>= λ _.
    refuse_some (find (λ x. not (is_known (known h) x)) (option_to_list to)) NoChangeset >>= λ _.
    refuse_if (not (option_eq bytes_eq (head h name) from)) (Moved (head h name)) >>= λ _.
    refuse_some (alike i) denial >>= λ _.
    cond (option_eq bytes_eq from to) (unchanged BookmarkSet) (entered header h BookmarkSet (Book (record { name = name; from = from; to = to; caller = same i }))))

-- a moment that isn't told makes none
moment_fits : (b : Bool) (moment : ℕ) → nat_lt moment (2 ^ 64) ≡ true → nat_lt (unwrap_or (cond b (Some moment) None) 0) (2 ^ 64) ≡ true
moment_fits true moment h = h
moment_fits false moment h = refl

moment_by : (b : Bool) (moment : ℕ) → cond b (Some (unwrap_or (cond b (Some moment) None) 0)) None ≡ cond b (Some moment) None
moment_by true moment = refl
moment_by false moment = refl

same_moment : (stack : List Changeset) (moment : ℕ) → moment_of stack (unwrap_or (moment_of stack moment) 0) ≡ moment_of stack moment
same_moment stack moment = moment_by (list_any (λ c. is_second c.version) stack) moment

seconds_same : (v : Version) (s t : ℕ) (z : ℤ) → is_second v ≡ false → seconds_at s v z ≡ seconds_at t v z
seconds_same First s t z h = refl
seconds_same Second s t z h = absurd (true≢false h)

first_only : (stack : List Changeset) (x : Id) (s t : ℕ) → list_any (λ c. is_second c.version) stack ≡ false → rewrite stack x s ≡ rewrite stack x t
first_only [] x s t none = refl
first_only (c ∷ cs) x s t none =
    let both = or_parts (is_second c.version) (list_any (λ c. is_second c.version) cs) none in
    let one : on_parent x s c ≡ on_parent x t c = (λ i. record c { parents = x ∷ []; seconds = seconds_same c.version s t c.seconds both.0 i; offset = offset_at c.version c.offset }) in
    (λ i. one i ∷ rewrite cs (id_of (one i)) s) ∙ ap (λ (later : List Changeset). on_parent x t c ∷ later) (first_only cs (id_of (on_parent x t c)) s t both.1)

rewrite_by : (b : Bool) (stack : List Changeset) (x : Id) (moment : ℕ) → list_any (λ c. is_second c.version) stack ≡ b → rewrite stack x (unwrap_or (cond b (Some moment) None) 0) ≡ rewrite stack x moment
rewrite_by true stack x moment e = refl
rewrite_by false stack x moment e = first_only stack x 0 moment e

same_rewrite : (stack : List Changeset) (x : Id) (moment : ℕ) → rewrite stack x (unwrap_or (moment_of stack moment) 0) ≡ rewrite stack x moment
same_rewrite stack x moment = rewrite_by (list_any (λ c. is_second c.version) stack) stack x moment refl

-- a landing from the fork on
abbrev land_on : Header → List Entry → Option Denial → Option (List ℕ) → List ℕ → Id → Id → Fork → List Changeset → Option ℕ → Result Judged Refusal
land_on header h against caller name draft old f new at =
    refuse_if (nat_lt most_range (length f.range)) (TooFarBehind (length f.range)) >>= λ _.
    refuse_if (length f.stack == 0) AlreadyIn >>= λ _.
    refuse_if (nat_lt most_stack (length f.stack)) (StackTooLong (length f.stack)) >>= λ _.
    refuse_some (option_map id_of (find is_merge f.stack)) MergeInStack >>= λ _.
    refuse_some (option_map id_of (find is_merge f.range)) MergeInRange >>= λ _.
    refuse_some against denial >>= λ _.
    refuse_some (clash (touched_paths f.stack) (touched_paths f.range)) (λ pair. Clash pair.0 pair.1) >>= λ _.
    enter_landing header h caller name old draft new at

land_is : (header : Header) (h : List Entry) (caller name : List ℕ) (draft : Id) (moment : ℕ) (old : Id) (f : Fork) → head h name ≡ Some old → fork (known h) old draft ≡ Some f →
    land header h caller name draft moment ≡ (refuse_if (not (is_known (known h) draft)) (NoChangeset draft) >>= λ _. land_on header h (denied_at h caller (touched_paths f.stack)) (told h caller) name draft old f (rewrite f.stack old moment) (moment_of f.stack moment))
land_is header h caller name draft moment old f at forked =
    (λ i. ok_or (at i) NoBookmark >>= λ old.
    refuse_if (not (is_known (known h) draft)) (NoChangeset draft) >>= λ _.
    ok_or (fork (known h) old draft) NoRoot >>= λ f.
    land_on header h (denied_at h caller (touched_paths f.stack)) (told h caller) name draft old f (rewrite f.stack old moment) (moment_of f.stack moment))
    ∙ (λ i. refuse_if (not (is_known (known h) draft)) (NoChangeset draft) >>= λ _.
    ok_or (forked i) NoRoot >>= λ f.
    land_on header h (denied_at h caller (touched_paths f.stack)) (told h caller) name draft old f (rewrite f.stack old moment) (moment_of f.stack moment))

pub land_same : (header : Header) (h : List Entry) (who caller name : List ℕ) (draft : Id) (s t : ℕ) (old : Id) (f : Fork) → head h name ≡ Some old → fork (known h) old draft ≡ Some f → told h who ≡ told h caller → denied_at h who (touched_paths f.stack) ≡ denied_at h caller (touched_paths f.stack) → moment_of f.stack s ≡ moment_of f.stack t → rewrite f.stack old s ≡ rewrite f.stack old t → judge header h (LandDraft who name draft s) ≡ judge header h (LandDraft caller name draft t)
land_same header h who caller name draft s t old f at forked same alike moments new =
    ap (λ (r : Result Judged Refusal). refuse_if (is_down h) Down >>= λ _. r)
    (land_is header h who name draft s old f at forked
    ∙ (λ i. refuse_if (not (is_known (known h) draft)) (NoChangeset draft) >>= λ _. land_on header h (alike i) (same i) name draft old f (new i) (moments i))
    ∙ sym (land_is header h caller name draft t old f at forked))

next_made : (file : List ℕ) (header : Header) (h : List Entry) (more : List Body) (ask : Ask) (granted : Granted) (b : Body) (bytes : List ℕ) → IsBytes file → HoldsRecords (bodies h ++ more) (drop 16 file) → HoldsParts file (bodies h ++ more) b → is_ask h ask ≡ true → judge header h ask ≡ Ok (record { granted = granted; made = Some b }) → MadeBy h ask b → IsBytes bytes → IsPayload b bytes → payload_body bytes ≡ Ok b → next_entry file header h bytes ≡ Some b
next_made file header h more (PutContent given) granted b bytes whole holds parts asked judged m fits p read =
    let q = subst (λ b. IsPayload b bytes) m.1 p in
    let content = drop 1 bytes in
    let content_is : content ≡ q.0 = ap (drop 1) q.2 in
    next_by file header h bytes b (PutContent content) granted read (ap (ask_of file h bytes) m.1) (all_bytes content (IsBytes-drop 1 bytes fits))
    (same_put header h content given (ap sha256 content_is ∙ q.1.0) (ap length content_is ∙ q.1.1) ∙ judged)
    (ap (λ b. payload b content) m.1 ∙ ap (λ t. 0x42 ∷ t) content_is ∙ sym q.2)
next_made file header h more (PutWhole given pieces) granted b bytes whole holds parts asked judged m fits p read = next_joined file header h more given pieces granted b bytes whole holds parts asked judged m p read
next_made file header h more (PutChangeset given) granted b bytes whole holds parts asked judged m fits p read =
    let q = subst (λ b. IsPayload b bytes) m.3 p in
    let bytes_are : bytes ≡ given = q.2 ∙ sym (what_is_uploaded given m.0 asked m.1).1 in
    next_by file header h bytes b (PutChangeset bytes) granted read (ap (ask_of file h bytes) m.3) (ap are_bytes bytes_are ∙ asked)
    (ap (λ t. judge header h (PutChangeset t)) bytes_are ∙ judged)
    (ap (λ b. payload b (drop 1 bytes)) m.3 ∙ sym q.2)
next_made file header h more (SetBookmark caller name from to) granted b bytes whole holds parts asked judged m fits p read =
    let q = subst (λ b. IsPayload b bytes) m.0 p in
    let ids = and_parts (is_name caller && is_name name) (list_all (is_bytes 32) (option_to_list from ++ option_to_list to)) asked in
    let names = and_parts (is_name caller) (is_name name) ids.0 in
    next_by file header h bytes b (SetBookmark (unwrap_or (told h caller) nobody) name from to) granted read (ap (ask_of file h bytes) m.0)
    (told_asked (holds_policy h) caller (λ c. is_ask h (SetBookmark c name from to)) asked (and_from _ _ (and_from (is_name nobody) (is_name name) nobody_is_named names.1) ids.1))
    (set_same header h (unwrap_or (told h caller) nobody) caller name from to (told_back (holds_policy h) caller) (denied_back h caller (bookmark_place name ∷ [])) ∙ judged)
    (ap (λ b. payload b (drop 1 bytes)) m.0 ∙ sym q.2)
next_made file header h more (LandDraft caller name draft moment) granted b bytes whole holds parts asked judged m fits p read =
    let q = subst (λ b. IsPayload b bytes) m.8 p in
    let last = and_parts (is_name caller && is_name name && is_bytes 32 draft) (nat_lt moment (2 ^ 64)) asked in
    let both = and_parts (is_name caller && is_name name) (is_bytes 32 draft) last.0 in
    let names = and_parts (is_name caller) (is_name name) both.0 in
    let who = unwrap_or (told h caller) nobody in
    let at = unwrap_or (moment_of m.1.stack moment) 0 in
    let at_fits : nat_lt at (2 ^ 64) ≡ true = moment_fits (list_any (λ c. is_second c.version) m.1.stack) moment last.1 in
    let who_fits : is_name who ≡ true = told_asked (holds_policy h) caller is_name names.0 nobody_is_named in
    next_by file header h bytes b (LandDraft who name draft at) granted read (ap (ask_of file h bytes) m.8)
    (and_from _ _ (and_from _ _ (and_from (is_name who) (is_name name) who_fits names.1) both.1) at_fits)
    (land_same header h who caller name draft at moment m.0 m.1 m.2 m.4 (told_back (holds_policy h) caller) (denied_back h caller (touched_paths m.1.stack)) (same_moment m.1.stack moment) (same_rewrite m.1.stack m.0 moment) ∙ judged)
    (ap (λ b. payload b (drop 1 bytes)) m.8 ∙ sym q.2)
next_made file header h more (SetPolicy caller text) granted b bytes whole holds parts asked judged m fits p read =
    let q = subst (λ b. IsPayload b bytes) m.0 p in
    next_by file header h bytes b (SetPolicy caller text) granted read (ap (ask_of file h bytes) m.0) asked judged (ap (λ b. payload b (drop 1 bytes)) m.0 ∙ sym q.2)

next_is : (file : List ℕ) (header : Header) (h : List Entry) (more : List Body) (b : Body) (bytes : List ℕ) → IsBytes file → HoldsRecords (bodies h ++ more) (drop 16 file) → HoldsParts file (bodies h ++ more) b → IsLegal header h → MayFollow header h b → is_stored b ≡ true → IsBytes bytes → IsPayload b bytes → next_entry file header h bytes ≡ Some b
next_is file header h more b bytes whole holds parts legal m s fits p =
    let made = is_made header h b s m in
    next_made file header h more made.ask made.granted b bytes whole holds parts made.asked made.judged made.made fits p (payload_read header h b bytes legal m s p)

short_by : (bytes : List ℕ) (b : Body) (long : Bool) → nat_lt most_payload (length bytes) ≡ long → (r : Result Body ℕ) → cond long (Err most_payload) r ≡ Ok b → length bytes ≤ most_payload
short_by bytes b true e r h = absurd cc
short_by bytes b false e r h = ltb-false most_payload (length bytes) e

-- ---- the records

record_is : (file : List ℕ) (header : Header) (h : List Entry) (more : List Body) (b : Body) (bytes rest : List ℕ) → IsBytes file → HoldsRecords (bodies h ++ more) (drop 16 file) → HoldsParts file (bodies h ++ more) b → IsLegal header h → MayFollow header h b → is_stored b ≡ true → IsBytes bytes → IsPayload b bytes → next_record file header h (sized w32 bytes ++ rest) ≡ Ok (b, rest)
record_is file header h more b bytes rest whole holds parts legal m s fits p =
    let read = payload_read header h b bytes legal m s p in
    let short = short_by bytes b (nat_lt most_payload (length bytes)) refl _ read in
    reads_with_len w32 any (next_entry file header h) bytes b (spelled_32 (length bytes) (omega arith)) refl (next_is file header h more b bytes whole holds parts legal m s fits p) rest

abbrev AreStored : List Body → Type 0
AreStored bs = AllByRecursion (λ b. is_stored b ≡ true) bs

one_body : (b : Body) → is_stored b ≡ true → bodies (unnumbered b ∷ []) ≡ b ∷ []
one_body b s = λ i. cond (s i) (b ∷ []) []

closed : (file : List ℕ) (n : ℕ) (header : Header) (before : List Entry) (at gate : ℕ) (rest : List ℕ) → (gate ≡ 1 → ⊥) → records file (suc n) header before at (gate ∷ rest) ≡ Ok before
closed file n header before at gate rest shut =
    ap (λ b. cond b (go_on at (next_record file header before rest) (λ next. records file n header (before ++ unnumbered next.0 ∷ []) (at + 1 + (length rest - length next.1)) next.1)) (Ok before)) (ne_eqb gate 1 shut)

opened : (file : List ℕ) (n : ℕ) (header : Header) (before : List Entry) (at : ℕ) (b : Body) (bytes rest : List ℕ) → next_record file header before bytes ≡ Ok (b, rest) → records file (suc n) header before at (1 ∷ bytes) ≡ records file n header (before ++ unnumbered b ∷ []) (at + 1 + (length bytes - length rest)) rest
opened file n header before at b bytes rest e = ap (λ r. go_on at r (λ next. records file n header (before ++ unnumbered next.0 ∷ []) (at + 1 + (length bytes - length next.1)) next.1)) e

records_are : (later : List Body) (n : ℕ) (file : List ℕ) (header : Header) (before : List Entry) (at : ℕ) (bytes : List ℕ) → IsBytes file → HoldsRecords (bodies before ++ later) (drop 16 file) → AllByRecursion (HoldsParts file (bodies before ++ later)) later → length bytes ≤ n → IsBytes bytes → AreStored later → IsLegal header before → GoesOn header before (map unnumbered later) → HoldsRecords later bytes → records file n header before at bytes ≡ Ok (before ++ map unnumbered later)
records_are [] zero file header before at bytes whole all parts long fits s legal goes holds = absurd (let some = ap length holds.2 in omega arith)
records_are [] (suc n) file header before at bytes whole all parts long fits s legal goes holds =
    ap (records file (suc n) header before at) holds.2 ∙ closed file n header before at holds.0 holds.1 holds.3 ∙ ap (λ (h : List Entry). Ok h) (sym (append-nil before))
records_are (b ∷ later) zero file header before at bytes whole all parts long fits s legal goes holds = absurd (let some = ap length holds.3 in omega arith)
records_are (b ∷ later) (suc n) file header before at bytes whole all parts long fits s legal goes holds =
    let payload = holds.0 in
    let rest = holds.1 in
    let all_fit : IsBytes (open_record payload ++ rest) = subst IsBytes holds.3 fits in
    let front_fits = IsBytes-front (open_record payload) rest all_fit in
    let payload_fits : IsBytes payload = IsBytes-back (to_be_bytes w32 (length payload)) payload (λ i. front_fits (suc i)) in
    let rest_fits = IsBytes-back (open_record payload) rest all_fit in
    let sum = length-append (open_record payload) rest in
    let same = ap length holds.3 in
    let more = before ++ unnumbered b ∷ [] in
    let grown : bodies before ++ b ∷ later ≡ bodies more ++ later = sym (append_assoc (bodies before) (b ∷ []) later) ∙ ap (λ (t : List Body). t ++ later) (sym (bodies-append before (unnumbered b ∷ []) ∙ ap (λ (t : List Body). bodies before ++ t) (one_body b s.0))) in
    ap (records file (suc n) header before at) holds.3
    ∙ opened file n header before at b (sized w32 payload ++ rest) rest (record_is file header before (b ∷ later) b payload rest whole all parts.0 legal goes.0 s.0 payload_fits holds.2)
    ∙ records_are later n file header more (at + 1 + (length (sized w32 payload ++ rest) - length rest)) rest whole (subst (λ bs. HoldsRecords bs (drop 16 file)) grown all) (subst (λ bs. AllByRecursion (HoldsParts file bs) later) grown parts.1) (omega arith) rest_fits s.1 ((IsLegal-push header before (unnumbered b)).1 (legal, goes.0)) goes.1 holds.4
    ∙ ap (λ (h : List Entry). Ok h) (append_assoc before (unnumbered b ∷ []) (map unnumbered later))

-- ---- the file

stored_by : (b : Body) (bs : List Body) → AreStored bs → (t : Bool) → is_stored b ≡ t → AreStored (cond t (b ∷ bs) bs)
stored_by b bs all true e = (e, all)
stored_by b bs all false e = all

bodies_stored : (h : List Entry) → AreStored (bodies h)
bodies_stored [] = tt
bodies_stored (e ∷ h) = stored_by e.body (bodies h) (bodies_stored h) (is_stored e.body) refl

some_rest : (bs : List Body) (bytes : List ℕ) → HoldsRecords bs bytes → 1 ≤ length bytes
some_rest [] bytes holds = let some = ap length holds.2 in omega arith
some_rest (b ∷ bs) bytes holds = let some = ap length holds.3 in omega arith

limit : (header : Header) → IsTrue (is_header header) → header.capacity < 2 ^ 64
limit header h = let le : header.capacity ≤ 34_359_738_368 = leb-true header.capacity 34_359_738_368 (and_parts (nat_le 4_096 header.capacity) (nat_le header.capacity 34_359_738_368) h).1 in omega arith

version_at : (v : Version) → cond (bytes_eq (mark v) (mark First)) (Some First) (cond (bytes_eq (mark v) (mark Second)) (Some Second) None) ≡ Some v
version_at First = refl
version_at Second = refl

-- the version that the mark tells
version_is : (header : Header) (bytes rest : List ℕ) → bytes ≡ header_bytes header ++ rest → version_in bytes ≡ Some header.version
version_is header bytes rest e = ap version_in e ∙ version_at header.version

whole_file : (header : Header) (bytes rest : List ℕ) → IsTrue (is_header header) → bytes ≡ header_bytes header ++ rest → 1 ≤ length rest → opens bytes ≡ records bytes (length bytes) header [] 16 rest
whole_file header bytes rest good e some =
    let sum = ap length e ∙ length-append (header_bytes header) rest in
    let long : nat_lt (length bytes) 17 ≡ false = le-ltb (length bytes) 17 (omega arith) in
    let capacity : from_be_bytes w64 (take 8 (drop 8 bytes)) ≡ header.capacity = ap (λ t. from_be_bytes w64 (take 8 (drop 8 t))) e ∙ (spelled_64 header.capacity (limit header good)).back in
    (λ i. cond (long i) (Err NotARepository) (option_map_or (λ version. opens_with (record { capacity = capacity i; version = version }) bytes) (version_is header bytes rest e i) (Err NotARepository)))
    ∙ (λ i. cond (good i) (records bytes (length bytes) header [] 16 (ap (drop 16) e i)) (Err (Damaged 8)))

pub stands_opens : (header : Header) (bytes : List ℕ) (h : List Entry) → IsBytes bytes → Stands header bytes h → IsLegal header (stored h) → opens bytes ≡ Ok (stored h)
stands_opens header bytes h fits stands legal =
    let rest = stands.1 in
    let rest_fits = IsBytes-back (header_bytes header) rest (subst IsBytes stands.2 fits) in
    let sum = ap length stands.2 ∙ length-append (header_bytes header) rest in
    let all : HoldsRecords (bodies h) (drop 16 bytes) = subst (HoldsRecords (bodies h)) (sym (ap (drop 16) stands.2)) stands.3 in
    whole_file header bytes rest stands.0 stands.2 (some_rest (bodies h) rest stands.3)
    ∙ records_are (bodies h) (length bytes) bytes header [] 16 rest fits all stands.4 (omega arith) rest_fits (bodies_stored h) tt legal stands.3

pub opens_exactly : (bytes : List ℕ) (h : List Entry) → IsBytes bytes → ((opens bytes ≡ Ok h) ↔ ((header : Header) × Stands header bytes h × IsLegal header h × (h ≡ stored h)))
opens_exactly bytes h fits = (
  opens_as bytes h fits,
  λ s. stands_opens s.0 bytes h fits s.1 (subst (IsLegal s.0) s.3 s.2) ∙ ap (λ (h : List Entry). Ok h) (sym s.3),
)

-- the header that the first bytes tell
pub header_read : (header : Header) (bytes : List ℕ) (h : List Entry) → Stands header bytes h → from_be_bytes w64 (take 8 (drop 8 bytes)) ≡ header.capacity
header_read header bytes h stands = ap (λ t. from_be_bytes w64 (take 8 (drop 8 t))) stands.2 ∙ (spelled_64 header.capacity (limit header stands.0)).back

pub one_header : (header other : Header) (bytes : List ℕ) (h g : List Entry) → Stands header bytes h → Stands other bytes g → header ≡ other
one_header header other bytes h g s t = λ i. record { capacity = (sym (header_read header bytes h s) ∙ header_read other bytes g t) i; version = same_some header.version other.version (sym (version_is header bytes s.1 s.2) ∙ version_is other bytes t.1 t.2) i }

pub one_history : (header other : Header) (bytes : List ℕ) (h g : List Entry) → IsBytes bytes → Stands header bytes h → IsLegal header (stored h) → Stands other bytes g → IsLegal other (stored g) → stored h ≡ stored g
one_history header other bytes h g fits s legal t also = same_stored (stored h) (stored g) (sym (stands_opens header bytes h fits s legal) ∙ stands_opens other bytes g fits t also)
