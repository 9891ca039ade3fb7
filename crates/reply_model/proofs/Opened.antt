-- What a file opens as: a legal history for which the file stands.
use Rattle.std.proofs.Common.{◌≡◌, ℕ, zero, suc, ◌+◌, ◌-◌, ◌^◌, ◌≤◌, Bool, true, false, cond, not, ◌||◌, List, [], ◌∷◌, ◌++◌, map, length, take, drop, refl, sym, ap, subst, ◌∙◌, arith}
use Rattle.std.specs.Prelude.{Option, Some, None, is_none, option_map, flat_map, find, Result, Ok, Err, ◌==◌, bytes_eq, slice_index, nat_lt, unwrap_or, is_some, ok_or}
use mathlib.Core.Bool.{true≢false}
use Rattle.std.specs.List.{AllByRecursion, list_any, concat}
use Rattle.changeset_model.specs.Version.{Version, First, Second, is_second}
use Rattle.std.specs.Option.{option_or, option_map_or, option_and_then, option_eq, option_to_list}
use Rattle.std.specs.Result.{result_ok, result_err}
use Rattle.std.specs.Int.{w32, w64, from_be_bytes, to_be_bytes}
use Rattle.std.proofs.lemmas.Bool.{eqb-true, eqb-false, ltb-false}
use Rattle.std.proofs.lemmas.List.{append_assoc, append-nil, take-append-drop, length-take, length-drop, get_or-drop, ext_get_or}
use Rattle.std.proofs.lemmas.Slice.Eq.{bytes_eq-Decides}
use Rattle.sha2.specs.Sha256.{sha256}
use Rattle.byte_fields.specs.Bytes.{Id, IsBytes, sized, first_some}
use Rattle.changeset_model.specs.Changeset.{Changeset, id_of, sets_of, touched_paths, most_content}
use Rattle.byte_fields.specs.Reading.{any, keeping}
use Rattle.changeset_model.specs.Decoding.{decoded}
use Rattle.history_model.specs.History.{Body, Content, Whole, Change, Book, Land, Policy, Fault, Entry, is_stored, unnumbered, bodies, stored, is_down, known, is_known, length_in, content_len, is_whole, is_whole_with}
use Rattle.history_model.specs.Bookmark.{head}
use Rattle.history_model.specs.Pushrebase.{fork, clash, rewrite, moment_of}
use Rattle.history_model.specs.Journal.{Header, is_header, mark, header_bytes, payload, payload_len, most_payload, size, is_full, record_len, IsPayload, HoldsRecords, is_content_with, held, joined, HoldsParts, Stands}
use Rattle.history_model.specs.Payload.{payload_body}
use Rattle.policy_model.specs.Rules.{bookmark_place, policy_place}
use Rattle.policy_model.specs.Grammar.{parse}
use Rattle.reply_model.specs.Reply.{is_ask, ids_in, is_parts_len, BadParts, OldFormat, NoPiece, NotAPiece, parts_of, WholePut, PutWhole, Unresolved, unresolved_of, MergeInStack, MergeInRange, is_merge, told, Down, TooLong, NoParent, content_refusal, collides, Collision, NoChangeset, Moved, TooLarge, first_collision, NoBookmark, NoRoot, TooFarBehind, AlreadyIn, StackTooLong, Clash, most_range, most_stack, Ask, PutContent, PutChangeset, SetBookmark, LandDraft, Refusal, Granted, ContentPut, ChangesetPut, BookmarkSet, Landed, Judged, ◌>>=◌, Full, refuse_if, refuse_some, unchanged, entered, accepted, by_ask, judge, SetPolicy, denial, denied_at, BadPolicy, PolicySet}
use Rattle.reply_model.specs.Legal.{MayFollow, GoesOn, IsLegal, HasParts}
use Rattle.reply_model.specs.Opening.{OpenFault, Damaged, NotARepository, ask_of, made_by, next_entry, next_record, go_on, records, opens_with, version_in, opens}
use Rattle.changeset_model.proofs.Accepting.{IsBytes-drop, IsBytes-take, keeping_ok, wide32, wide64, with_len_ok}
use Rattle.byte_fields.proofs.Lists.{weaker, all_push}
use Rattle.std.proofs.lemmas.List.Folds.{list_any-append}
use Rattle.history_model.proofs.Landings.{or_left}
use Rattle.reply_model.proofs.Histories.{bodies-append, IsLegal-push}
use Rattle.reply_model.proofs.Stored.{stored-push}
use Rattle.reply_model.proofs.Granted.{MakesStored, judge_stored, follows_granted}
use Rattle.byte_fields.proofs.Booleans.{ok_some}

-- ---- what a change makes

abbrev IsPut : Id → ℕ → Ask → Type 0
IsPut x n (PutContent bytes) = (sha256 bytes ≡ x) × (length bytes ≡ n)
IsPut x n (PutWhole body pieces) = ⊥
IsPut x n (PutChangeset bytes) = ⊥
IsPut x n (SetBookmark caller name from to) = ⊥
IsPut x n (LandDraft caller name draft moment) = ⊥
IsPut x n (SetPolicy caller text) = ⊥

-- of contents that are held
abbrev pub AreHeld : List Body → List Id → Type 0
AreHeld all parts = AllByRecursion (λ p. list_any (is_content_with p) all ≡ true) parts

record IsJoined (all : List Body) (x : Id) (parts : List Id) (body : List ℕ) (pieces : List (List ℕ)) : Type 0 where
  id_is : sha256 (concat pieces) ≡ x
  parts_are : ids_in body ≡ parts
  are_held : AreHeld all parts

abbrev IsJoin : List Body → Id → List Id → Ask → Type 0
IsJoin all x parts (PutContent bytes) = ⊥
IsJoin all x parts (PutWhole body pieces) = IsJoined all x parts body pieces
IsJoin all x parts (PutChangeset bytes) = ⊥
IsJoin all x parts (SetBookmark caller name from to) = ⊥
IsJoin all x parts (LandDraft caller name draft moment) = ⊥
IsJoin all x parts (SetPolicy caller text) = ⊥

-- a content is made by an upload of it, and a whole of contents that are held
abbrev IsOf : List Body → Ask → Body → Type 0
IsOf all ask (Content x n) = IsPut x n ask
IsOf all ask (Whole x n parts) = IsJoin all x parts ask
IsOf all ask body = Unit {0}

abbrev MakesOf : List Body → Ask → Result Judged Refusal → Type 0
MakesOf all ask (Ok judged) = (body : Body) → judged.made ≡ Some body → IsOf all ask body
MakesOf all ask (Err refusal) = Unit {0}

record Makes (all : List Body) (ask : Ask) (r : Result Judged Refusal) : Type 0 where
  each : MakesOf all ask r

through_as : {A : Type 0} (all : List Body) (ask : Ask) (r : Result A Refusal) (f : A → Result Judged Refusal) → ((x : A) → r ≡ Ok x → Makes all ask (f x)) → Makes all ask (r >>= f)
through_as all ask (Ok x) f each = each x refl
through_as all ask (Err e) f each = record { each = tt }

through : {A : Type 0} (all : List Body) (ask : Ask) (r : Result A Refusal) (f : A → Result Judged Refusal) → ((x : A) → Makes all ask (f x)) → Makes all ask (r >>= f)
through all ask r f each = through_as all ask r f (λ x e. each x)

makes_none : (all : List Body) (ask : Ask) (granted : Granted) → Makes all ask (unchanged granted)
makes_none all ask granted = record { each = λ body e. absurd cc }

makes_entered : (all : List Body) (ask : Ask) (header : Header) (h : List Entry) (granted : Granted) (body : Body) → IsOf all ask body → Makes all ask (entered header h granted body)
makes_entered all ask header h granted body s =
    through all ask (refuse_if (is_full header h (payload_len body)) (Full (size h) (payload_len body))) (λ _. Ok (record { granted = granted; made = Some body }))
    (λ _. record { each = λ other e. subst (IsOf all ask) (ap (λ o. unwrap_or o body) e) s })

either : (all : List Body) (ask : Ask) (b : Bool) (x y : Result Judged Refusal) → Makes all ask x → Makes all ask y → Makes all ask (cond b x y)
either all ask true x y p q = p
either all ask false x y p q = q

-- ---- what may be joined is held

pub no_refusal : {X : Type 0} (o : Option X) (e : X → Refusal) (u : Unit {0}) → refuse_some o e ≡ Ok u → o ≡ None
no_refusal None e u h = refl
no_refusal (Some x) e u h = absurd cc

pub none_found : {X : Type 0} (t : X → Bool) (xs : List X) → find t xs ≡ None → AllByRecursion (λ x. t x ≡ false) xs
none_found t [] h = tt
none_found t (x ∷ xs) h = by (none_found t xs) (t x) h
  where
    by : (find t xs ≡ None → AllByRecursion (λ x. t x ≡ false) xs) → (b : Bool) → cond b (Some x) (find t xs) ≡ None → (b ≡ false) × AllByRecursion (λ x. t x ≡ false) xs
    by later true h = absurd cc
    by later false h = (refl, later h)

-- each entry with the id is a content or a whole
told_by : (b c : Bool) (n : ℕ) (o : Option ℕ) (p q : Bool) → (is_none o ≡ false → q ≡ false → p ≡ true) → is_none (option_or (cond b (Some n) None) o) ≡ false → (c || q) ≡ false → (c ≡ false → (b || p) ≡ true)
told_by true c n o p q later some none h = refl
told_by false true n o p q later some none h = absurd (true≢false h)
told_by false false n o p q later some none h = later some none

content_by : (x : Id) (b : Body) (h : List Entry) → (is_none (content_len h x) ≡ false → is_whole h x ≡ false → list_any (is_content_with x) (bodies h) ≡ true) → is_none (option_or (length_in x b) (content_len h x)) ≡ false → list_any (is_whole_with x) (cond (is_stored b) (b ∷ bodies h) (bodies h)) ≡ false → list_any (is_content_with x) (cond (is_stored b) (b ∷ bodies h) (bodies h)) ≡ true
content_by x (Content y n) h later some none = told_by (bytes_eq x y) false n (content_len h x) (list_any (is_content_with x) (bodies h)) (is_whole h x) later some none refl
content_by x (Whole y n parts) h later some none = whole_by (bytes_eq x y) some none
  where
    whole_by : (b : Bool) → is_none (option_or (cond b (Some n) None) (content_len h x)) ≡ false → (b || is_whole h x) ≡ false → list_any (is_content_with x) (bodies h) ≡ true
    whole_by true some none = absurd (true≢false none)
    whole_by false some none = later some none
content_by x (Change c) h later some none = later some none
content_by x (Book move) h later some none = later some none
content_by x (Land landing) h later some none = later some none
content_by x (Policy caller text) h later some none = later some none
content_by x (Fault breaking) h later some none = later some none

-- what has a length and is no whole is a content
is_content : (h : List Entry) (x : Id) → is_none (content_len h x) ≡ false → is_whole h x ≡ false → list_any (is_content_with x) (bodies h) ≡ true
is_content [] x some none = absurd (true≢false some)
is_content (e ∷ h) x some none = content_by x e.body h (is_content h x) some none

each_content : (h : List Entry) (xs : List Id) → AllByRecursion (λ x. is_none (content_len h x) ≡ false) xs → AllByRecursion (λ x. is_whole h x ≡ false) xs → AreHeld (bodies h) xs
each_content h [] some none = tt
each_content h (x ∷ xs) some none = (is_content h x some.0 none.0, each_content h xs some.1 none.1)

then_ok : {A B : Type 0} (r : Result A Refusal) (f : A → Result B Refusal) (y : B) → (r >>= f) ≡ Ok y → (x : A) × (r ≡ Ok x) × (f x ≡ Ok y)
then_ok (Ok x) f y e = (x, refl, e)
then_ok (Err r) f y e = absurd cc

ok_same : {A : Type 0} (x y : A) → ◌≡◌ {A = Result A Refusal} (Ok x) (Ok y) → x ≡ y
ok_same x y e = cc

pub parts_held : (header : Header) (h : List Entry) (body : List ℕ) (parts : List Id) → parts_of header h body ≡ Ok parts → (ids_in body ≡ parts) × AreHeld (bodies h) parts
parts_held header h body parts e =
    let a = then_ok (refuse_if (not (is_parts_len (length body))) (BadParts (length body))) (λ _. refuse_if (not (is_second header.version)) OldFormat >>= λ _. refuse_some (find (λ x. is_none (content_len h x)) (ids_in body)) NoPiece >>= λ _. refuse_some (find (is_whole h) (ids_in body)) NotAPiece >>= λ _. Ok (ids_in body)) parts e in
    let b = then_ok (refuse_if (not (is_second header.version)) OldFormat) (λ _. refuse_some (find (λ x. is_none (content_len h x)) (ids_in body)) NoPiece >>= λ _. refuse_some (find (is_whole h) (ids_in body)) NotAPiece >>= λ _. Ok (ids_in body)) parts a.2 in
    let c = then_ok (refuse_some (find (λ x. is_none (content_len h x)) (ids_in body)) NoPiece) (λ _. refuse_some (find (is_whole h) (ids_in body)) NotAPiece >>= λ _. Ok (ids_in body)) parts b.2 in
    let d = then_ok (refuse_some (find (is_whole h) (ids_in body)) NotAPiece) (λ _. Ok (ids_in body)) parts c.2 in
    let same = ok_same (ids_in body) parts d.2 in
    let all = each_content h (ids_in body) (none_found (λ x. is_none (content_len h x)) (ids_in body) (no_refusal (find (λ x. is_none (content_len h x)) (ids_in body)) NoPiece c.0 c.1)) (none_found (is_whole h) (ids_in body) (no_refusal (find (is_whole h) (ids_in body)) NotAPiece d.0 d.1)) in
    (same, subst (AreHeld (bodies h)) same all)

was_false : (b : Bool) (e : Refusal) (u : Unit {0}) → refuse_if b e ≡ Ok u → b ≡ false
was_false true e u h = absurd cc
was_false false e u h = refl

is_true : (b : Bool) → not b ≡ false → b ≡ true
is_true true h = refl
is_true false h = absurd (true≢false h)

pub parts_len : (header : Header) (h : List Entry) (body : List ℕ) (parts : List Id) → parts_of header h body ≡ Ok parts → is_parts_len (length body) ≡ true
parts_len header h body parts e =
    let a = then_ok (refuse_if (not (is_parts_len (length body))) (BadParts (length body))) (λ _. refuse_if (not (is_second header.version)) OldFormat >>= λ _. refuse_some (find (λ x. is_none (content_len h x)) (ids_in body)) NoPiece >>= λ _. refuse_some (find (is_whole h) (ids_in body)) NotAPiece >>= λ _. Ok (ids_in body)) parts e in
    is_true (is_parts_len (length body)) (was_false (not (is_parts_len (length body))) (BadParts (length body)) a.0 a.1)

pub none_whole : (header : Header) (h : List Entry) (body : List ℕ) (parts : List Id) → parts_of header h body ≡ Ok parts → AllByRecursion (λ x. is_whole h x ≡ false) (ids_in body)
none_whole header h body parts e =
    let a = then_ok (refuse_if (not (is_parts_len (length body))) (BadParts (length body))) (λ _. refuse_if (not (is_second header.version)) OldFormat >>= λ _. refuse_some (find (λ x. is_none (content_len h x)) (ids_in body)) NoPiece >>= λ _. refuse_some (find (is_whole h) (ids_in body)) NotAPiece >>= λ _. Ok (ids_in body)) parts e in
    let b = then_ok (refuse_if (not (is_second header.version)) OldFormat) (λ _. refuse_some (find (λ x. is_none (content_len h x)) (ids_in body)) NoPiece >>= λ _. refuse_some (find (is_whole h) (ids_in body)) NotAPiece >>= λ _. Ok (ids_in body)) parts a.2 in
    let c = then_ok (refuse_some (find (λ x. is_none (content_len h x)) (ids_in body)) NoPiece) (λ _. refuse_some (find (is_whole h) (ids_in body)) NotAPiece >>= λ _. Ok (ids_in body)) parts b.2 in
    let d = then_ok (refuse_some (find (is_whole h) (ids_in body)) NotAPiece) (λ _. Ok (ids_in body)) parts c.2 in
    none_found (is_whole h) (ids_in body) (no_refusal (find (is_whole h) (ids_in body)) NotAPiece d.0 d.1)

-- ---- what a change makes

makes : (header : Header) (h : List Entry) (ask : Ask) → Makes (bodies h) ask (by_ask header h ask)
makes header h (PutContent bytes) =
    let ask = PutContent bytes in
    through (bodies h) ask (refuse_if (nat_lt most_content (length bytes)) (TooLong (length bytes))) _ (λ _.
    either (bodies h) ask (is_some (content_len h (sha256 bytes))) _ _ (makes_none (bodies h) ask (ContentPut (sha256 bytes))) (makes_entered (bodies h) ask header h (ContentPut (sha256 bytes)) (Content (sha256 bytes) (length bytes)) (refl, refl)))
makes header h (PutChangeset bytes) =
    let ask = PutChangeset bytes in
    through (bodies h) ask (accepted (decoded bytes)) _ (λ c.
    through (bodies h) ask (refuse_some (find (λ p. not (is_known (known h) p)) c.parents) NoParent) _ (λ _.
    through (bodies h) ask (refuse_some (first_some (λ e. content_refusal e (content_len h e.1.content)) (sets_of c)) (λ refusal. refusal)) _ (λ _.
    through (bodies h) ask (refuse_some (unresolved_of (known h) c c.parents) Unresolved) _ (λ _.
    through (bodies h) ask (refuse_if (collides (known h) c) (Collision (id_of c))) _ (λ _.
    either (bodies h) ask (is_known (known h) (id_of c)) _ _ (makes_none (bodies h) ask (ChangesetPut (id_of c))) (makes_entered (bodies h) ask header h (ChangesetPut (id_of c)) (Change c) tt))))))
makes header h (PutWhole body pieces) =
    let ask = PutWhole body pieces in
    let x = sha256 (concat pieces) in
    let n = length (concat pieces) in
    through_as (bodies h) ask (parts_of header h body) _ (λ parts e. (let facts = parts_held header h body parts e in
    either (bodies h) ask (is_some (content_len h x)) _ _ (makes_none (bodies h) ask (WholePut x n)) (makes_entered (bodies h) ask header h (WholePut x n) (Whole x n parts) (record { id_is = refl; parts_are = facts.0; are_held = facts.1 }))))
makes header h (SetBookmark caller name from to) =
    let ask = SetBookmark caller name from to in
    through (bodies h) ask (refuse_some (find (λ x. not (is_known (known h) x)) (option_to_list to)) NoChangeset) _ (λ _.
    through (bodies h) ask (refuse_if (not (option_eq bytes_eq (head h name) from)) (Moved (head h name))) _ (λ _.
    through (bodies h) ask (refuse_some (denied_at h caller (bookmark_place name ∷ [])) denial) _ (λ _.
    either (bodies h) ask (option_eq bytes_eq from to) _ _ (makes_none (bodies h) ask BookmarkSet) (makes_entered (bodies h) ask header h BookmarkSet (Book (record { name = name; from = from; to = to; caller = told h caller })) tt))))
makes header h (LandDraft caller name draft moment) =
    let ask = LandDraft caller name draft moment in
    through (bodies h) ask (ok_or (head h name) NoBookmark) _ (λ old.
    through (bodies h) ask (refuse_if (not (is_known (known h) draft)) (NoChangeset draft)) _ (λ _.
    through (bodies h) ask (ok_or (fork (known h) old draft) NoRoot) _ (λ f.
    through (bodies h) ask (refuse_if (nat_lt most_range (length f.range)) (TooFarBehind (length f.range))) _ (λ _.
    through (bodies h) ask (refuse_if (length f.stack == 0) AlreadyIn) _ (λ _.
    through (bodies h) ask (refuse_if (nat_lt most_stack (length f.stack)) (StackTooLong (length f.stack))) _ (λ _.
    through (bodies h) ask (refuse_some (option_map id_of (find is_merge f.stack)) MergeInStack) _ (λ _.
    through (bodies h) ask (refuse_some (option_map id_of (find is_merge f.range)) MergeInRange) _ (λ _.
    through (bodies h) ask (refuse_some (denied_at h caller (touched_paths f.stack)) denial) _ (λ _.
    through (bodies h) ask (refuse_some (clash (touched_paths f.stack) (touched_paths f.range)) (λ pair. Clash pair.0 pair.1)) _ (λ _.
    through (bodies h) ask (refuse_if (nat_lt most_payload (payload_len (landed old (rewrite f.stack old moment) (moment_of f.stack moment)))) (TooLarge (payload_len (landed old (rewrite f.stack old moment) (moment_of f.stack moment))))) _ (λ _.
    through (bodies h) ask (refuse_some (first_collision (known h) (rewrite f.stack old moment)) Collision) _ (λ _.
    makes_entered (bodies h) ask header h (Landed old (map id_of (rewrite f.stack old moment))) (landed old (rewrite f.stack old moment) (moment_of f.stack moment)) tt))))))))))))
  where
    landed : Id → List Changeset → Option ℕ → Body
    landed old new at = Land (record { name = name; old = old; draft = draft; new = new; moment = at; caller = told h caller })
makes header h (SetPolicy caller text) =
    let ask = SetPolicy caller text in
    through (bodies h) ask (refuse_if (not (is_second header.version)) OldFormat) _ (λ _.
    through (bodies h) ask (refuse_some (result_err (parse text)) BadPolicy) _ (λ _.
    through (bodies h) ask (refuse_some (denied_at h caller (policy_place ∷ [])) denial) _ (λ _.
    makes_entered (bodies h) ask header h (PolicySet (length (stored h))) (Policy caller text) tt)))

judge_makes : (header : Header) (h : List Entry) (ask : Ask) → MakesOf (bodies h) ask (judge header h ask)
judge_makes header h ask = (through (bodies h) ask (refuse_if (is_down h) Down) _ (λ _. makes header h ask)).each

-- ---- the next entry of a file

pub then_some : {X Y : Type 0} (f : X → Option Y) (o : Option X) (y : Y) → option_and_then f o ≡ Some y → (x : X) × (o ≡ Some x) × (f x ≡ Some y)
then_some f None y e = absurd cc
then_some f (Some x) y e = (x, refl, e)

-- a whole's parts are contents that are held, and what the file holds of them has its id
abbrev IsWell : List ℕ → List Body → Body → Type 0
IsWell file all (Whole x n parts) = (sha256 (joined file all parts) ≡ x) × AreHeld all parts
IsWell file all body = Unit {0}

record IsNext (file : List ℕ) (header : Header) (h : List Entry) (bytes : List ℕ) (body : Body) : Type 0 where
  follows : MayFollow header h body
  is_kept : is_stored body ≡ true
  holds : IsPayload body bytes
  well : IsWell file (bodies h) body

put_is : (file : List ℕ) (h : List Entry) (bytes : List ℕ) (read : Body) (ask : Ask) (x : Id) (n : ℕ) → ask_of file h bytes read ≡ Some ask → IsPut x n ask → (sha256 (drop 1 bytes) ≡ x) × (length (drop 1 bytes) ≡ n)
put_is file h bytes read (PutWhole body pieces) x n e p = absurd p
put_is file h bytes read (PutChangeset other) x n e p = absurd p
put_is file h bytes read (SetBookmark caller name from to) x n e p = absurd p
put_is file h bytes read (LandDraft caller name draft moment) x n e p = absurd p
put_is file h bytes read (SetPolicy caller text) x n e p = absurd p
put_is file h bytes (Content y m) (PutContent other) x n e p = subst (λ t. (sha256 t ≡ x) × (length t ≡ n)) (sym (put_bytes (drop 1 bytes) other e)) p
  where
    bytes_put : Ask → List ℕ
    bytes_put (PutContent t) = t
    bytes_put (PutWhole t pieces) = t
    bytes_put (PutChangeset t) = t
    bytes_put (SetBookmark caller name from to) = name
    bytes_put (LandDraft caller name draft moment) = name
    bytes_put (SetPolicy caller text) = text

    put_bytes : (s t : List ℕ) → ◌≡◌ {A = Option Ask} (Some (PutContent s)) (Some (PutContent t)) → s ≡ t
    put_bytes s t e = ap (λ o. bytes_put (unwrap_or o (PutContent s))) e
put_is file h bytes (Whole y m parts) (PutContent other) x n e p = absurd cc
put_is file h bytes (Change c) (PutContent other) x n e p = absurd cc
put_is file h bytes (Book move) (PutContent other) x n e p = absurd cc
put_is file h bytes (Land landing) (PutContent other) x n e p = absurd cc
put_is file h bytes (Policy caller text) (PutContent other) x n e p = absurd cc
put_is file h bytes (Fault breaking) (PutContent other) x n e p = absurd cc

pub flat_is : (f : Id → List ℕ) (xs : List Id) → flat_map f xs ≡ concat (map f xs)
flat_is f [] = refl
flat_is f (x ∷ xs) = ap (λ t. f x ++ t) (flat_is f xs)

joined_by : (file : List ℕ) (all : List Body) (x : Id) (parts : List Id) (body other : List ℕ) (pieces : List (List ℕ)) → body ≡ other → map (held file 16 all) (ids_in body) ≡ pieces → IsJoined all x parts other pieces → (sha256 (joined file all parts) ≡ x) × AreHeld all parts
joined_by file all x parts body other pieces same read j =
    let ids : ids_in body ≡ parts = ap ids_in same ∙ j.parts_are in
    (ap (λ xs. sha256 (joined file all xs)) (sym ids) ∙ ap sha256 (flat_is (held file 16 all) (ids_in body) ∙ ap concat read) ∙ j.id_is, j.are_held)

join_is : (file : List ℕ) (h : List Entry) (bytes : List ℕ) (read : Body) (ask : Ask) (x : Id) (parts : List Id) → ask_of file h bytes read ≡ Some ask → IsJoin (bodies h) x parts ask → (sha256 (joined file (bodies h) parts) ≡ x) × AreHeld (bodies h) parts
join_is file h bytes read (PutContent other) x parts e j = absurd j
join_is file h bytes read (PutChangeset other) x parts e j = absurd j
join_is file h bytes read (SetBookmark caller name from to) x parts e j = absurd j
join_is file h bytes read (LandDraft caller name draft moment) x parts e j = absurd j
join_is file h bytes read (SetPolicy caller text) x parts e j = absurd j
join_is file h bytes (Content y m) (PutWhole other pieces) x parts e j = absurd cc
join_is file h bytes (Whole y m ps) (PutWhole other pieces) x parts e j = joined_by file (bodies h) x parts (concat ps) other pieces (ap (λ o. body_joined (unwrap_or o (PutWhole other pieces))) e) (ap (λ o. pieces_joined (unwrap_or o (PutWhole other pieces))) e) j
  where
    body_joined : Ask → List ℕ
    body_joined (PutContent t) = t
    body_joined (PutWhole t ps) = t
    body_joined (PutChangeset t) = t
    body_joined (SetBookmark caller name from to) = name
    body_joined (LandDraft caller name draft moment) = name
    body_joined (SetPolicy caller text) = text

    pieces_joined : Ask → List (List ℕ)
    pieces_joined (PutContent t) = []
    pieces_joined (PutWhole t ps) = ps
    pieces_joined (PutChangeset t) = []
    pieces_joined (SetBookmark caller name from to) = []
    pieces_joined (LandDraft caller name draft moment) = []
    pieces_joined (SetPolicy caller text) = []
join_is file h bytes (Change c) (PutWhole other pieces) x parts e j = absurd cc
join_is file h bytes (Book move) (PutWhole other pieces) x parts e j = absurd cc
join_is file h bytes (Land landing) (PutWhole other pieces) x parts e j = absurd cc
join_is file h bytes (Policy caller text) (PutWhole other pieces) x parts e j = absurd cc
join_is file h bytes (Fault breaking) (PutWhole other pieces) x parts e j = absurd cc

well_is : (file : List ℕ) (h : List Entry) (bytes : List ℕ) (read : Body) (ask : Ask) (body : Body) → ask_of file h bytes read ≡ Some ask → IsOf (bodies h) ask body → IsWell file (bodies h) body
well_is file h bytes read ask (Content x n) a p = tt
well_is file h bytes read ask (Whole x n parts) a p = join_is file h bytes read ask x parts a p
well_is file h bytes read ask (Change c) a p = tt
well_is file h bytes read ask (Book move) a p = tt
well_is file h bytes read ask (Land landing) a p = tt
well_is file h bytes read ask (Policy caller text) a p = tt
well_is file h bytes read ask (Fault breaking) a p = tt

payload_is : (file : List ℕ) (h : List Entry) (bytes : List ℕ) (read : Body) (ask : Ask) (body : Body) → ask_of file h bytes read ≡ Some ask → IsOf (bodies h) ask body → payload body (drop 1 bytes) ≡ bytes → IsPayload body bytes
payload_is file h bytes read ask (Content x n) a p e = (drop 1 bytes, put_is file h bytes read ask x n a p, sym e)
payload_is file h bytes read ask (Whole x n parts) a p e = ([], refl, sym e)
payload_is file h bytes read ask (Change c) a p e = ([], refl, sym e)
payload_is file h bytes read ask (Book move) a p e = ([], refl, sym e)
payload_is file h bytes read ask (Land landing) a p e = ([], refl, sym e)
payload_is file h bytes read ask (Policy caller text) a p e = ([], refl, sym e)
payload_is file h bytes read ask (Fault breaking) a p e = ([], refl, sym e)

next_by : (file : List ℕ) (header : Header) (h : List Entry) (bytes : List ℕ) (read : Body) (ask : Ask) (body : Body) (judged : Judged) → ask_of file h bytes read ≡ Some ask → is_ask h ask ≡ true → judge header h ask ≡ Ok judged → judged.made ≡ Some body → payload body (drop 1 bytes) ≡ bytes → IsNext file header h bytes body
next_by file header h bytes read ask body judged a asked e m p =
    let granted : judge header h ask ≡ Ok (record { granted = judged.granted; made = Some body }) = e ∙ ap (λ o. Ok (record { granted = judged.granted; made = o })) m in
    let s : is_stored body ≡ true = subst MakesStored e (judge_stored header h ask) body m in
    let made : IsOf (bodies h) ask body = subst (MakesOf (bodies h) ask) e (judge_makes header h ask) body m in
    record {
      follows = follows_granted header h ask judged.granted body asked s granted;
      is_kept = s;
      holds = payload_is file h bytes read ask body a made p;
      well = well_is file h bytes read ask body a made;
    }

next_is : (file : List ℕ) (header : Header) (h : List Entry) (bytes : List ℕ) (body : Body) → next_entry file header h bytes ≡ Some body → IsNext file header h bytes body
next_is file header h bytes body e =
    let read = result_ok (payload_body bytes) in
    let a = then_some (made_by header h bytes) (option_and_then (keeping (is_ask h)) (option_and_then (ask_of file h bytes) read)) body e in
    let b = then_some (keeping (is_ask h)) (option_and_then (ask_of file h bytes) read) a.0 a.1 in
    let c = then_some (ask_of file h bytes) read b.0 b.1 in
    let k = keeping_ok (is_ask h) b.0 a.0 b.2 in
    let ask_is : ask_of file h bytes c.0 ≡ Some a.0 = c.2 ∙ ap (λ ask. Some ask) k.1 in
    let asked : is_ask h a.0 ≡ true = subst (λ ask. is_ask h ask ≡ true) k.1 k.0 in
    let m = then_some (λ body. keeping (λ body. bytes_eq (payload body (drop 1 bytes)) bytes) body) (option_and_then (λ judged. judged.made) (result_ok (judge header h a.0))) body a.2 in
    let j = then_some {X = Judged} {Y = Body} (λ judged. judged.made) (result_ok (judge header h a.0)) m.0 m.1 in
    let kept = keeping_ok (λ body. bytes_eq (payload body (drop 1 bytes)) bytes) m.0 body m.2 in
    next_by file header h bytes c.0 a.0 body j.0 ask_is asked (ok_some (judge header h a.0) j.0 j.1) (j.2 ∙ ap (λ b. Some b) kept.1)
    (ap (λ b. payload b (drop 1 bytes)) (sym kept.1) ∙ (bytes_eq-Decides (payload m.0 (drop 1 bytes)) bytes).0 kept.0)

-- ---- what is held stays held

held_by : (file : List ℕ) (at : ℕ) (b : Body) (all more : List Body) (x : Id) → (list_any (is_content_with x) all ≡ true → held file (at + record_len b) (all ++ more) x ≡ held file (at + record_len b) all x) → (t : Bool) → (t || list_any (is_content_with x) all) ≡ true → cond t (take (record_len b - 6) (drop (at + 6) file)) (held file (at + record_len b) (all ++ more) x) ≡ cond t (take (record_len b - 6) (drop (at + 6) file)) (held file (at + record_len b) all x)
held_by file at b all more x later true h = refl
held_by file at b all more x later false h = later h

pub held_more : (file : List ℕ) (at : ℕ) (all more : List Body) (x : Id) → list_any (is_content_with x) all ≡ true → held file at (all ++ more) x ≡ held file at all x
held_more file at [] more x h = absurd (true≢false (sym h))
held_more file at (b ∷ all) more x h = held_by file at b all more x (held_more file (at + record_len b) all more x) (is_content_with x b) h

pub joined_more : (file : List ℕ) (all more : List Body) (parts : List Id) → AreHeld all parts → joined file (all ++ more) parts ≡ joined file all parts
joined_more file all more [] h = refl
joined_more file all more (x ∷ parts) h = (λ i. held_more file 16 all more x h.0 i ++ joined_more file all more parts h.1 i)

pub held_still : (all more : List Body) (parts : List Id) → AreHeld all parts → AreHeld (all ++ more) parts
held_still all more parts h =
    weaker (λ x. list_any (is_content_with x) all ≡ true) (λ x. list_any (is_content_with x) (all ++ more) ≡ true)
    (λ x t. list_any-append (is_content_with x) all more ∙ or_left (list_any (is_content_with x) all) (list_any (is_content_with x) more) t) parts h

well_more : (file : List ℕ) (all more : List Body) (b : Body) → IsWell file all b → IsWell file (all ++ more) b
well_more file all more (Content x n) w = tt
well_more file all more (Whole x n parts) w = (ap sha256 (joined_more file all more parts w.1) ∙ w.0, held_still all more parts w.1)
well_more file all more (Change c) w = tt
well_more file all more (Book move) w = tt
well_more file all more (Land landing) w = tt
well_more file all more (Policy caller text) w = tt
well_more file all more (Fault breaking) w = tt

abbrev AreWell : List ℕ → List Body → Type 0
AreWell file all = AllByRecursion (IsWell file all) all

one_well : (file : List ℕ) (all : List Body) (b : Body) → AreWell file all → IsWell file all b → AreWell file (all ++ b ∷ [])
one_well file all b each w = all_push (IsWell file (all ++ b ∷ [])) all b (weaker (IsWell file all) (IsWell file (all ++ b ∷ [])) (well_more file all (b ∷ [])) all each) (well_more file all (b ∷ []) b w)

holds_by : (file : List ℕ) (all : List Body) (b : Body) → IsWell file all b → HoldsParts file all b
holds_by file all (Content x n) w = tt
holds_by file all (Whole x n parts) w = w.0
holds_by file all (Change c) w = tt
holds_by file all (Book move) w = tt
holds_by file all (Land landing) w = tt
holds_by file all (Policy caller text) w = tt
holds_by file all (Fault breaking) w = tt

-- ---- the records

record Opens (file : List ℕ) (header : Header) (before h : List Entry) (bytes : List ℕ) : Type 0 where
  later : List Body
  holds : HoldsRecords later bytes
  legal : IsLegal header h
  bodies_are : bodies h ≡ bodies before ++ later
  stored_is : h ≡ stored h
  are_well : AreWell file (bodies h)

one_body : (b : Body) → is_stored b ≡ true → bodies (unnumbered b ∷ []) ≡ b ∷ []
one_body b s = λ i. cond (s i) (b ∷ []) []

stored_one_more : (before : List Entry) (b : Body) → is_stored b ≡ true → before ≡ stored before → before ++ unnumbered b ∷ [] ≡ stored (before ++ unnumbered b ∷ [])
stored_one_more before b s e =
    ap (λ (t : List Entry). t ++ unnumbered b ∷ []) e
    ∙ (λ i. stored before ++ map unnumbered (cond (sym s i) (b ∷ []) []))
    ∙ sym (stored-push before (unnumbered b))

ended : (file : List ℕ) (header : Header) (before h : List Entry) (gate : ℕ) (bytes : List ℕ) → (gate ≡ 1 → ⊥) → IsLegal header before → before ≡ stored before → AreWell file (bodies before) → before ≡ h → Opens file header before h (gate ∷ bytes)
ended file header before h gate bytes shut legal s wells e =
    subst (λ h. Opens file header before h (gate ∷ bytes)) e (record {
      later = [];
      holds = (gate, bytes, refl, shut);
      legal = legal;
      bodies_are = sym (append-nil (bodies before));
      stored_is = s;
      are_well = wells;
    })

one_more : (file : List ℕ) (header : Header) (before h : List Entry) (gate : ℕ) (bytes rest : List ℕ) (body : Body) → gate ≡ 1 → IsNext file header before bytes body → (tail : List ℕ) → rest ≡ sized w32 bytes ++ tail → Opens file header (before ++ unnumbered body ∷ []) h tail → Opens file header before h (gate ∷ rest)
one_more file header before h gate bytes rest body is_open next tail parts later = record {
  later = body ∷ later.later;
  holds = (bytes, tail, next.holds, (λ i. is_open i ∷ parts i), later.holds);
  legal = later.legal;
  bodies_are =
      later.bodies_are
      ∙ ap (λ (t : List Body). t ++ later.later) (bodies-append before (unnumbered body ∷ []) ∙ ap (λ (t : List Body). bodies before ++ t) (one_body body next.is_kept))
      ∙ append_assoc (bodies before) (body ∷ []) later.later;
  stored_is = later.stored_is;
  are_well = later.are_well;
}

pub same_history : (a b : List Entry) → ◌≡◌ {A = Result (List Entry) OpenFault} (Ok a) (Ok b) → a ≡ b
same_history a b e = cc

abbrev OpensAll : List ℕ → ℕ → Header → Type 0
OpensAll file n header =
    (before : List Entry) (at : ℕ) (bytes : List ℕ) (h : List Entry) → IsBytes bytes → IsLegal header before → before ≡ stored before → AreWell file (bodies before) → records file n header before at bytes ≡ Ok h → Opens file header before h bytes

record_by : (file : List ℕ) (n : ℕ) (header : Header) → OpensAll file n header → (before : List Entry) (at gate : ℕ) (bytes : List ℕ) (h : List Entry) → IsBytes bytes → IsLegal header before → before ≡ stored before → AreWell file (bodies before) → gate ≡ 1 → (r : Result (Body × List ℕ) ℕ) → next_record file header before bytes ≡ r → go_on at r (λ next. records file n header (before ++ unnumbered next.0 ∷ []) (at + 1 + (length bytes - length next.1)) next.1) ≡ Ok h → Opens file header before h (gate ∷ bytes)
record_by file n header later before at gate bytes h fits legal s wells is_open (Err left) r e = absurd cc
record_by file n header later before at gate bytes h fits legal s wells is_open (Ok next) r e =
    let sized_read = with_len_ok w32 (2 ^ 32) wide32 any (next_entry file header before) bytes next.0 next.1 fits r in
    let entry = next_is file header before sized_read.text next.0 sized_read.seen in
    let more = before ++ unnumbered next.0 ∷ [] in
    let grown : bodies more ≡ bodies before ++ next.0 ∷ [] = bodies-append before (unnumbered next.0 ∷ []) ∙ ap (λ (t : List Body). bodies before ++ t) (one_body next.0 entry.is_kept) in
    one_more file header before h gate sized_read.text bytes next.0 is_open entry next.1 sized_read.took.parts
    (later more (at + 1 + (length bytes - length next.1)) next.1 h sized_read.took.left
    ((IsLegal-push header before (unnumbered next.0)).1 (legal, entry.follows)) (stored_one_more before next.0 entry.is_kept s)
    (subst (AreWell file) (sym grown) (one_well file (bodies before) next.0 wells entry.well)) e)

gate_by : (file : List ℕ) (n : ℕ) (header : Header) → OpensAll file n header → (before : List Entry) (at gate : ℕ) (bytes : List ℕ) (h : List Entry) → IsBytes bytes → IsLegal header before → before ≡ stored before → AreWell file (bodies before) → (b : Bool) → (gate == 1) ≡ b → cond b (go_on at (next_record file header before bytes) (λ next. records file n header (before ++ unnumbered next.0 ∷ []) (at + 1 + (length bytes - length next.1)) next.1)) (Ok before) ≡ Ok h → Opens file header before h (gate ∷ bytes)
gate_by file n header later before at gate bytes h fits legal s wells true g e = record_by file n header later before at gate bytes h fits legal s wells (eqb-true gate 1 g) (next_record file header before bytes) refl e
gate_by file n header later before at gate bytes h fits legal s wells false g e = ended file header before h gate bytes (eqb-false gate 1 g) legal s wells (same_history before h e)

opens_from : (file : List ℕ) (n : ℕ) (header : Header) → OpensAll file n header
opens_from file zero header before at bytes h fits legal s wells e = absurd cc
opens_from file (suc n) header before at [] h fits legal s wells e = absurd cc
opens_from file (suc n) header before at (gate ∷ bytes) h fits legal s wells e =
    gate_by file n header (opens_from file n header) before at gate bytes h (λ i. fits (suc i)) legal s wells (gate == 1) refl e

-- ---- the file

pub drop_twice : (m n : ℕ) (bytes : List ℕ) → drop m (drop n bytes) ≡ drop (n + m) bytes
drop_twice m n bytes = ext_get_or 0 (drop m (drop n bytes)) (drop (n + m) bytes)
    (let a = length-drop m (drop n bytes) in let b = length-drop n bytes in let c = length-drop (n + m) bytes in omega arith)
    (λ i h. get_or-drop m (drop n bytes) i 0 ∙ get_or-drop n bytes (m + i) 0 ∙ ap (λ k. slice_index bytes k) (let e : n + (m + i) ≡ n + m + i = omega arith in e) ∙ sym (get_or-drop (n + m) bytes i 0))

abbrev header_of : Version → List ℕ → Header
header_of version bytes = record { capacity = from_be_bytes w64 (take 8 (drop 8 bytes)); version = version }

-- the bytes are those of the header, and the rest
header_parts : (version : Version) (bytes : List ℕ) → IsBytes bytes → 17 ≤ length bytes → take 8 bytes ≡ mark version → bytes ≡ header_bytes (header_of version bytes) ++ drop 16 bytes
header_parts version bytes fits long m =
    let back = length-drop 8 bytes in
    let front = length-take 8 (drop 8 bytes) in
    let len : length (take 8 (drop 8 bytes)) ≡ 8 = omega arith in
    let wide = wide64 (take 8 (drop 8 bytes)) len (IsBytes-take 8 (drop 8 bytes) (IsBytes-drop 8 bytes fits)) in
    sym (take-append-drop 8 bytes)
    ∙ (λ i. m i ++ sym (take-append-drop 8 (drop 8 bytes)) i)
    ∙ (λ i. mark version ++ (sym wide.0 i ++ drop_twice 8 8 bytes i))
    ∙ sym (append_assoc (mark version) (to_be_bytes w64 (from_be_bytes w64 (take 8 (drop 8 bytes)))) (drop 16 bytes))

abbrev IsOpened : List ℕ → List Entry → Type 0
IsOpened bytes h = (header : Header) × Stands header bytes h × IsLegal header h × (h ≡ stored h)

opened_by : (version : Version) (bytes : List ℕ) (h : List Entry) → IsBytes bytes → 17 ≤ length bytes → take 8 bytes ≡ mark version → (b : Bool) → is_header (header_of version bytes) ≡ b → cond b (records bytes (length bytes) (header_of version bytes) [] 16 (drop 16 bytes)) (Err (Damaged 8)) ≡ Ok h → IsOpened bytes h
opened_by version bytes h fits long m false good e = absurd cc
opened_by version bytes h fits long m true good e =
    let header = header_of version bytes in
    let o = opens_from bytes (length bytes) header [] 16 (drop 16 bytes) h (IsBytes-drop 16 bytes fits) tt refl tt e in
    (header, (good, drop 16 bytes, header_parts version bytes fits long m, subst (λ bs. HoldsRecords bs (drop 16 bytes)) (sym o.bodies_are) o.holds, weaker (IsWell bytes (bodies h)) (HoldsParts bytes (bodies h)) (holds_by bytes (bodies h)) (bodies h) o.are_well), o.legal, o.stored_is)

version_by : (bytes : List ℕ) (version : Version) → (a b : Bool) → bytes_eq (take 8 bytes) (mark First) ≡ a → bytes_eq (take 8 bytes) (mark Second) ≡ b → cond a (Some First) (cond b (Some Second) None) ≡ Some version → take 8 bytes ≡ mark version
version_by bytes version true b e g h = (bytes_eq-Decides (take 8 bytes) (mark First)).0 e ∙ ap (λ o. mark (unwrap_or o First)) h
version_by bytes version false true e g h = (bytes_eq-Decides (take 8 bytes) (mark Second)).0 g ∙ ap (λ o. mark (unwrap_or o First)) h
version_by bytes version false false e g h = absurd cc

marked_by : (bytes : List ℕ) (h : List Entry) → IsBytes bytes → 17 ≤ length bytes → (o : Option Version) → version_in bytes ≡ o → option_map_or (λ version. opens_with (header_of version bytes) bytes) o (Err NotARepository) ≡ Ok h → IsOpened bytes h
marked_by bytes h fits long None v e = absurd cc
marked_by bytes h fits long (Some version) v e =
    opened_by version bytes h fits long (version_by bytes version (bytes_eq (take 8 bytes) (mark First)) (bytes_eq (take 8 bytes) (mark Second)) refl refl v) (is_header (header_of version bytes)) refl e

file_by : (bytes : List ℕ) (h : List Entry) → IsBytes bytes → (b : Bool) → nat_lt (length bytes) 17 ≡ b → cond b (Err NotARepository) (option_map_or (λ version. opens_with (header_of version bytes) bytes) (version_in bytes) (Err NotARepository)) ≡ Ok h → IsOpened bytes h
file_by bytes h fits true t e = absurd cc
file_by bytes h fits false t e = marked_by bytes h fits (ltb-false (length bytes) 17 t) (version_in bytes) refl e

-- a file that opens stands for the history that it opens as, which is legal and of stored entries
pub opens_as : (bytes : List ℕ) (h : List Entry) → IsBytes bytes → opens bytes ≡ Ok h → (header : Header) × Stands header bytes h × IsLegal header h × (h ≡ stored h)
opens_as bytes h fits e = file_by bytes h fits (nat_lt (length bytes) 17) refl e

-- ---- the parts of wholes

join_held : (all : List Body) (x : Id) (parts : List Id) (ask : Ask) → IsJoin all x parts ask → AreHeld all parts
join_held all x parts (PutContent bytes) j = absurd j
join_held all x parts (PutWhole body pieces) j = j.are_held
join_held all x parts (PutChangeset bytes) j = absurd j
join_held all x parts (SetBookmark caller name from to) j = absurd j
join_held all x parts (LandDraft caller name draft moment) j = absurd j
join_held all x parts (SetPolicy caller text) j = absurd j

pub has_parts : (header : Header) (h : List Entry) (b : Body) → MayFollow header h b → HasParts (bodies h) b
has_parts header h (Content x n) m = tt
has_parts header h (Whole x n parts) m = join_held (bodies h) x parts m.0 (subst (MakesOf (bodies h) m.0) m.3 (judge_makes header h m.0) (Whole x n parts) refl)
has_parts header h (Change c) m = tt
has_parts header h (Book move) m = tt
has_parts header h (Land landing) m = tt
has_parts header h (Policy caller text) m = tt
has_parts header h (Fault breaking) m = tt

has_more : (all more : List Body) (b : Body) → HasParts all b → HasParts (all ++ more) b
has_more all more (Content x n) p = tt
has_more all more (Whole x n parts) p = held_still all more parts p
has_more all more (Change c) p = tt
has_more all more (Book move) p = tt
has_more all more (Land landing) p = tt
has_more all more (Policy caller text) p = tt
has_more all more (Fault breaking) p = tt

abbrev HaveParts : List Body → Type 0
HaveParts all = AllByRecursion (HasParts all) all

one_has : (all : List Body) (b : Body) (s : Bool) → HaveParts all → HasParts all b → HaveParts (all ++ cond s (b ∷ []) [])
one_has all b true each p = all_push (HasParts (all ++ b ∷ [])) all b (weaker (HasParts all) (HasParts (all ++ b ∷ [])) (has_more all (b ∷ [])) all each) (has_more all (b ∷ []) b p)
one_has all b false each p = subst HaveParts (sym (append-nil all)) each

have_on : (header : Header) (before h : List Entry) → HaveParts (bodies before) → GoesOn header before h → HaveParts (bodies (before ++ h))
have_on header before [] each goes = subst (λ es. HaveParts (bodies es)) (sym (append-nil before)) each
have_on header before (e ∷ h) each goes =
    subst (λ es. HaveParts (bodies es)) (append_assoc before (e ∷ []) h)
    (have_on header (before ++ e ∷ []) h (subst HaveParts (sym (bodies-append before (e ∷ []))) (one_has (bodies before) e.body (is_stored e.body) each (has_parts header before e.body goes.0))) goes.1)

pub have_parts : (header : Header) (h : List Entry) → IsLegal header h → AllByRecursion (HasParts (bodies h)) (bodies h)
have_parts header h legal = have_on header [] h tt legal
