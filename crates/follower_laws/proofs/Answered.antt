-- How a call is answered that asks for a server's entry.
use Rattle.std.proofs.Common.{◌≡◌, ◌⊎◌, ℕ, true, false, List, length, inl, inr, refl, sym, ap, subst, ◌∙◌}
use Rattle.std.specs.Prelude.{Option, None, Some, Result, Ok, Err}
use Rattle.std.specs.List.{concat}
use Rattle.std.proofs.lemmas.Bool.{and_parts}
use Rattle.sha2.specs.Sha256.{sha256}
use Rattle.byte_fields.specs.Bytes.{Id, are_bytes}
use Rattle.byte_fields.proofs.Booleans.{same_some}
use Rattle.changeset_model.specs.Version.{Second}
use Rattle.history_model.specs.History.{Body, Content, Whole, Change, Book, Land, Policy, Fault, Entry, is_down, stored}
use Rattle.history_model.specs.Journal.{Header}
use Rattle.reply_model.specs.Reply.{Ask, PutContent, PutWhole, PutChangeset, SetBookmark, LandDraft, SetPolicy, Granted, Judged, Refusal, Full, ids_in, are_pieces, parts_of, is_ask, judge}
use Rattle.reply_model.specs.Log.{LogLine, WholeLine, line_of}
use Rattle.reply_model.specs.Legal.{MayFollow}
use Rattle.reply_model.specs.After.{Answer, Grants, Refuses, Shows, Lacks, Roots, DiskFault, ReadFault, BadBytes, NodeCollision, Memory, Made, Answers, Call, Asks, Joins, IsJoining}
use Rattle.reply_model.proofs.Stored.{is_ask-stored}
use Rattle.opening_laws.proofs.Made.{MadeBy, is_made}
use Rattle.opening_laws.proofs.Pieces.{ids_good}
use Rattle.follower.specs.Making.{call_of, Makes}
use Rattle.follower_laws.specs.Again.{IsAgain, IsFetchFor, IsTwofold, HaveTwo}
use Rattle.follower_laws.proofs.Anew.{HasMade, IsPlain, ask_in, made_anew, call_is, told_is_stored}
use Rattle.follower_laws.proofs.Elsewhere.{of_second, granted_in_second, made_elsewhere}
use Rattle.follower_laws.proofs.Wholes.{same_or_two, parts_granted, parts_elsewhere, whole_full}

abbrev IsMadeHere : Header → List Entry → Ask → Granted → Body → Type 0
IsMadeHere own h ask granted body = HasMade own h ask granted body ⊎ ((size len : ℕ) × (judge own h ask ≡ Err (Full size len)))

same_made : (r : Result Judged Refusal) (one other : Granted) (body : Body) (made : Option Body) → r ≡ Ok (record { granted = one; made = Some body }) → r ≡ Ok (record { granted = other; made = made }) → made ≡ Some body
same_made r one other body made a b = let both = sym b ∙ a in ap made_in both
  where
    made_in : Result Judged Refusal → Option Body
    made_in (Ok judged) = judged.made
    made_in (Err refusal) = None

not_granted : (r : Result Judged Refusal) (judged : Judged) (refusal : Refusal) → r ≡ Ok judged → r ≡ Err refusal → ⊥
not_granted r judged refusal a b = absurd (let both = sym a ∙ b in cc)

same_refusal : (r : Result Judged Refusal) (one other : Refusal) → r ≡ Err one → r ≡ Err other → one ≡ other
same_refusal r one other a b = let both = sym a ∙ b in cc

-- ---- a change

granted_so : (own : Header) (h : List Entry) (ask : Ask) (granted other : Granted) (body : Body) (made : Option Body) → IsMadeHere own h ask granted body → judge own h ask ≡ Ok (record { granted = other; made = made }) → made ≡ Some body
granted_so own h ask granted other body made (inl is) e = same_made (judge own h ask) granted other body made is e
granted_so own h ask granted other body made (inr (size, len, full)) e = absurd (not_granted (judge own h ask) (record { granted = other; made = made }) (Full size len) e full)

refused_so : (own : Header) (h : List Entry) (ask : Ask) (granted : Granted) (body : Body) (refusal : Refusal) → IsMadeHere own h ask granted body → judge own h ask ≡ Err refusal → (size length : ℕ) × (refusal ≡ Full size length)
refused_so own h ask granted body refusal (inl is) e = absurd (not_granted (judge own h ask) (record { granted = granted; made = Some body }) refusal is e)
refused_so own h ask granted body refusal (inr (size, len, full)) e = (size, len, same_refusal (judge own h ask) refusal (Full size len) e full)

plainly : (own : Header) (h : List Entry) (ask : Ask) (granted : Granted) (body : Body) (answer : Answer) (made : Made) → IsMadeHere own h ask granted body → Answers own h (Asks ask) answer made → IsAgain body answer made
plainly own h ask granted body (Grants other) made is a = inl (granted_so own h ask granted other body made.entry is a.1)
plainly own h ask granted body (Refuses refusal) made is a = refused_so own h ask granted body refusal is a.1
plainly own h ask granted body (BadBytes wanted found) made is a = absurd a
plainly own h ask granted body DiskFault made is a = tt
plainly own h ask granted body ReadFault made is a = tt
plainly own h ask granted body Memory made is a = tt
plainly own h ask granted body (Shows seen) made is a = absurd a
plainly own h ask granted body (Lacks absent) made is a = absurd a
plainly own h ask granted body (Roots fs un gone) made is a = absurd a
plainly own h ask granted body (NodeCollision x) made is a = absurd a.1

-- ---- a whole

record IsJoined (own : Header) (h : List Entry) (parts : List Id) (pieces : List (List ℕ)) (granted : Granted) (body : Body) : Type 0 where
  up : is_down h ≡ false
  among : parts_of own h (concat parts) ≡ Ok parts
  read : are_pieces h parts pieces ≡ true
  whole : body ≡ Whole (sha256 (concat pieces)) (length (concat pieces)) parts
  here : IsMadeHere own h (PutWhole (concat parts) pieces) granted body

joined_so : (own : Header) (h : List Entry) (parts : List Id) (pieces others : List (List ℕ)) (granted other : Granted) (body : Body) (made : Option Body) → IsJoined own h parts pieces granted body → judge own h (PutWhole (concat parts) others) ≡ Ok (record { granted = other; made = made }) → (pieces ≡ others) ⊎ HaveTwo parts → (made ≡ Some body) ⊎ IsTwofold body
joined_so own h parts pieces others granted other body made is e (inl same) =
    inl (granted_so own h (PutWhole (concat parts) pieces) granted other body made is.here (ap (λ (ps : List (List ℕ)). judge own h (PutWhole (concat parts) ps)) same ∙ e))
joined_so own h parts pieces others granted other body made is e (inr two) =
    inr (sha256 (concat pieces), length (concat pieces), parts, is.whole, two)

joined : (own : Header) (h : List Entry) (parts : List Id) (pieces : List (List ℕ)) (granted : Granted) (body : Body) (answer : Answer) (made : Made) → IsJoined own h parts pieces granted body → Answers own h (Joins (concat parts)) answer made → IsAgain body answer made
joined own h parts pieces granted body (Grants other) made is a =
    let read : are_pieces h parts a.1 ≡ true = subst (λ (r : Result (List Id) Refusal). IsJoining r h a.1) is.among a.2 in
    joined_so own h parts pieces a.1 granted other body made.entry is a.3 (same_or_two h parts pieces a.1 is.read read)
joined own h parts pieces granted body (Refuses refusal) made is a = whole_full own h (concat parts) a.1 parts refusal is.up is.among a.3
joined own h parts pieces granted body (BadBytes wanted found) made is a =
    (sha256 (concat pieces), length (concat pieces), parts, is.whole)
joined own h parts pieces granted body DiskFault made is a = tt
joined own h parts pieces granted body ReadFault made is a = tt
joined own h parts pieces granted body Memory made is a = tt
joined own h parts pieces granted body (Shows seen) made is a = absurd a
joined own h parts pieces granted body (Lacks absent) made is a = absurd a
joined own h parts pieces granted body (Roots fs un gone) made is a = absurd a
joined own h parts pieces granted body (NodeCollision x) made is a = absurd a.1

-- ---- of what the log tells

abbrev whole_in : List Id → Body → List Id
whole_in other (Whole x n parts) = parts
whole_in other (Content x n) = other
whole_in other (Change c) = other
whole_in other (Book move) = other
whole_in other (Land landing) = other
whole_in other (Policy caller text) = other
whole_in other (Fault breaking) = other

-- the change behind a whole
record WasJoined (server : Header) (h : List Entry) (x : Id) (n : ℕ) (parts : List Id) : Type 0 where
  pieces : List (List ℕ)
  granted : Granted
  asked : is_ask h (PutWhole (concat parts) pieces) ≡ true
  ids : ids_in (concat parts) ≡ parts
  made : HasMade server h (PutWhole (concat parts) pieces) granted (Whole x n parts)
  whole : Whole x n parts ≡ Whole (sha256 (concat pieces)) (length (concat pieces)) parts

was_joined : (server : Header) (h : List Entry) (x : Id) (n : ℕ) (parts : List Id) (ask : Ask) (granted : Granted) → is_ask h ask ≡ true → HasMade server h ask granted (Whole x n parts) → MadeBy h ask (Whole x n parts) → WasJoined server h x n parts
was_joined server h x n parts (PutContent bytes) granted asked e m = absurd (let is = m.1 in cc)
was_joined server h x n parts (PutChangeset bytes) granted asked e m = absurd (let is = m.3 in cc)
was_joined server h x n parts (SetBookmark caller name from to) granted asked e m = absurd (let is = m.0 in cc)
was_joined server h x n parts (LandDraft caller name draft moment) granted asked e m = absurd (let is = m.8 in cc)
was_joined server h x n parts (SetPolicy caller text) granted asked e m = absurd (let is = m.0 in cc)
was_joined server h x n parts (PutWhole given pieces) granted asked e m =
    let parts_are : parts ≡ ids_in given = ap (whole_in parts) m.3 in
    let both = and_parts (are_bytes given) (are_pieces h (ids_in given) pieces) asked in
    let back : concat parts ≡ given = ap concat parts_are ∙ (ids_good given both.0 m.0).back in
    record {
      pieces = pieces;
      granted = granted;
      asked = ap (λ (body : List ℕ). is_ask h (PutWhole body pieces)) back ∙ asked;
      ids = ap ids_in back ∙ sym parts_are;
      made = ap (λ (body : List ℕ). judge server h (PutWhole body pieces)) back ∙ e;
      whole = m.3 ∙ ap (Whole (sha256 (concat pieces)) (length (concat pieces))) (sym parts_are);
    }

whole_joined : (server own : Header) (h : List Entry) (x : Id) (n : ℕ) (parts : List Id) → own.version ≡ Second → is_down h ≡ false → (was : WasJoined server (stored h) x n parts) → IsJoined own h parts was.pieces was.granted (Whole x n parts)
whole_joined server own h x n parts second up was =
    let ask = PutWhole (concat parts) was.pieces in
    let second_made = granted_in_second server.capacity server.version (stored h) ask (record { granted = was.granted; made = Some (Whole x n parts) }) was.made in
    let parts_are = parts_granted (of_second server.capacity) (stored h) (concat parts) was.pieces (record { granted = was.granted; made = Some (Whole x n parts) }) second_made in
    let asked = and_parts (are_bytes (concat parts)) (are_pieces h (ids_in (concat parts)) was.pieces) (sym (is_ask-stored h ask) ∙ was.asked) in
    record {
      up = up;
      among = parts_elsewhere server.capacity own h (concat parts) parts second (parts_are ∙ ap (λ (xs : List Id). Ok xs) was.ids);
      read = subst (λ (xs : List Id). are_pieces h xs was.pieces ≡ true) was.ids asked.1;
      whole = was.whole;
      here = made_elsewhere server own h ask was.granted (Whole x n parts) second up was.made;
    }

pub record Setting (server own : Header) (h : List Entry) (body : Body) (fetched : List ℕ) : Type 0 where
  pub follows : MayFollow server (stored h) body
  pub second : own.version ≡ Second
  pub up : is_down h ≡ false
  pub fetch : IsFetchFor body fetched

plain_again : (server own : Header) (h : List Entry) (body : Body) (line : LogLine) (fetched : List ℕ) (answer : Answer) (made : Made) → IsPlain body → Setting server own h body fetched → line_of body ≡ Some line → Answers own h (call_of line fetched) answer made → IsAgain body answer made
plain_again server own h body line fetched answer made plain s told a =
    let anew = made_anew server (stored h) body fetched (told_is_stored body line told) s.follows plain s.fetch in
    plainly own h (ask_in body fetched) anew.0 body answer made
    (made_elsewhere server own h (ask_in body fetched) anew.0 body s.second s.up anew.1)
    (subst (λ (call : Call). Answers own h call answer made) (call_is body line fetched plain told) a)

pub answered_again : (server own : Header) (h : List Entry) (body : Body) (line : LogLine) (fetched : List ℕ) (answer : Answer) (made : Made) → Setting server own h body fetched → line_of body ≡ Some line → Answers own h (call_of line fetched) answer made → IsAgain body answer made
answered_again server own h (Whole x n parts) line fetched answer made s told a =
    let made_so = is_made server (stored h) (Whole x n parts) refl s.follows in
    let was = was_joined server (stored h) x n parts made_so.ask made_so.granted made_so.asked made_so.judged made_so.made in
    joined own h parts was.pieces was.granted (Whole x n parts) answer made (whole_joined server own h x n parts s.second s.up was)
    (subst (λ (l : LogLine). Answers own h (call_of l fetched) answer made) (sym (same_some _ line told)) a)
answered_again server own h (Content x n) line fetched answer made s told a = plain_again server own h (Content x n) line fetched answer made tt s told a
answered_again server own h (Change c) line fetched answer made s told a = plain_again server own h (Change c) line fetched answer made tt s told a
answered_again server own h (Book move) line fetched answer made s told a = plain_again server own h (Book move) line fetched answer made tt s told a
answered_again server own h (Land landing) line fetched answer made s told a = plain_again server own h (Land landing) line fetched answer made tt s told a
answered_again server own h (Policy caller text) line fetched answer made s told a = plain_again server own h (Policy caller text) line fetched answer made tt s told a
answered_again server own h (Fault breaking) line fetched answer made s told a = absurd (let some = told in cc)

-- ---- the entry itself

told_whole : (b : Body) (x : Id) (n : ℕ) (parts : List Id) → line_of b ≡ Some (WholeLine x n parts) → b ≡ Whole x n parts
told_whole (Content y m) x n parts e = absurd cc
told_whole (Whole y m ps) x n parts e = (λ i. by (same_some _ _ e i))
  where
    by : LogLine → Body
    by (WholeLine y m ps) = Whole y m ps
    by line = Whole x n parts
told_whole (Change c) x n parts e = absurd cc
told_whole (Book move) x n parts e = absurd cc
told_whole (Land landing) x n parts e = absurd cc
told_whole (Policy caller text) x n parts e = absurd cc
told_whole (Fault breaking) x n parts e = absurd cc

same_by : (own : Header) (h : List Entry) (body found : Body) (line : LogLine) → line_of body ≡ Some line → line_of found ≡ Some line → (◌≡◌ {A = Option Body} (Some found) (Some body)) ⊎ IsTwofold body → found ≡ body
same_by own h body found line told also (inl same) = same_some found body same
same_by own h body found line told also (inr (x, n, parts, is, may)) =
    told_whole found x n parts (also ∙ sym told ∙ ap line_of is) ∙ sym is

pub made_same : (server own : Header) (h : List Entry) (body found : Body) (line : LogLine) (fetched : List ℕ) → Setting server own h body fetched → line_of body ≡ Some line → Makes own h line fetched found → found ≡ body
made_same server own h body found line fetched s told makes =
    same_by own h body found line told makes.told (answered_again server own h body line fetched (Grants makes.granted) (record { entry = Some found; fault = None }) s told makes.answers)
