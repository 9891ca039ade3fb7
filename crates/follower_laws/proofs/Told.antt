-- What the log tells of a legal history's entries keeps its rules.
--     IsToldWell line      it does, and names at most 100 ids
--     AreTold bs lines      the lines are told of these entries, in order
use Rattle.std.proofs.Common.{◌≡◌, ℕ, suc, ◌≤◌, ◌<◌, ◌^◌, Bool, true, false, cond, List, [], ◌∷◌, ◌++◌, map, length, refl, sym, ap, subst, arith}
use Rattle.std.specs.Prelude.{◌&&◌, ◌==◌, Option, None, Some, IfSome, IsTrue, is_none, nat_lt, position, take, count_by, not}
use mathlib.Core.Bool.{true≢false}
use Rattle.std.specs.List.{AllByRecursion, list_all, concat, cons_option}
use Rattle.std.specs.Option.{option_or, option_to_list}
use Rattle.std.proofs.lemmas.Bool.{and_parts, ltb-false, ltb-true}
use Rattle.std.proofs.lemmas.List.Sums.{count_by-le-length}
use Rattle.byte_fields.specs.Bytes.{Id, are_bytes, is_bytes}
use Rattle.changeset_model.specs.Changeset.{Changeset, id_of}
use Rattle.history_model.specs.History.{Body, Content, Whole, Change, Book, Land, Policy, Fault, Entry, is_stored, unnumbered, holds_policy}
use Rattle.history_model.specs.Bookmark.{is_name, is_name_byte}
use Rattle.history_model.specs.Journal.{Header}
use Rattle.history_model.specs.Pushrebase.{rewrite}
use Rattle.reply_model.specs.Reply.{Ask, PutContent, PutWhole, PutChangeset, SetBookmark, LandDraft, SetPolicy, is_ask, ids_in, are_pieces}
use Rattle.reply_model.specs.Log.{LogLine, ContentLine, WholeLine, ChangesetLine, BookmarkLine, LandingLine, PolicyLine, line_of, lines_of}
use Rattle.reply_model.specs.Legal.{MayFollow, GoesOn, IsLegal}
use Rattle.reply_model.proofs.Histories.{IsLegal-push}
use Rattle.opening_laws.proofs.Made.{MadeBy, is_made}
use Rattle.opening_laws.proofs.Pieces.{ids_good, pieces_fit}
use Rattle.opening_laws.proofs.Rules.{digest_is, head_is_id}
use Rattle.page_reader.specs.Pages.{IsId, IsTold}

abbrev pub IsFew : LogLine → Type 0
IsFew (ContentLine x size) = Unit {0}
IsFew (WholeLine x size parts) = length parts ≤ 100
IsFew (ChangesetLine x) = Unit {0}
IsFew (BookmarkLine move) = Unit {0}
IsFew (LandingLine caller name old draft moment ids) = length ids ≤ 100
IsFew (PolicyLine caller rules) = Unit {0}

pub record IsToldWell (line : LogLine) : Type 0 where
  pub told : IsTold line
  pub few : IsFew line

abbrev pub TellsWell : Body → Type 0
TellsWell b = IfSome (line_of b) IsToldWell

-- ---- names and ids

name_by : (bad : Option ℕ) (n : ℕ) (long empty : Bool) → nat_lt 128 n ≡ long → is_none (option_or bad (cond long (Some 128) (cond empty (Some 0) None))) ≡ true → n ≤ 128
name_by (Some at) n long empty e h = absurd cc
name_by None n true empty e h = absurd cc
name_by None n false empty e h = ltb-false 128 n e

pub name_is_short : (text : List ℕ) → is_name text ≡ true → length text ≤ 128
name_is_short text h = name_by (position (λ b. not (is_name_byte b)) (take 128 text)) (length text) (nat_lt 128 (length text)) (length text == 0) refl h

both_ids : (from to : Option Id) → list_all (is_bytes 32) (option_to_list from ++ option_to_list to) ≡ true → IfSome from IsId × IfSome to IsId
both_ids None None h = (tt, tt)
both_ids None (Some y) h = (tt, (and_parts (is_bytes 32 y) true h).0)
both_ids (Some x) None h = ((and_parts (is_bytes 32 x) true h).0, tt)
both_ids (Some x) (Some y) h = let both = and_parts (is_bytes 32 x) (is_bytes 32 y && true) h in (both.0, (and_parts (is_bytes 32 y) true both.1).0)

caller_fits : (b : Bool) (caller : List ℕ) → is_name caller ≡ true → IfSome (cond b (Some caller) None) (λ c. IsTrue (is_name c))
caller_fits true caller h = h
caller_fits false caller h = tt

moment_fits : (b : Bool) (moment : ℕ) → moment < 2 ^ 64 → IfSome (cond b (Some moment) None) (λ m. m < 2 ^ 64)
moment_fits true moment h = h
moment_fits false moment h = tt

all_ids : (cs : List Changeset) → AllByRecursion IsId (map id_of cs)
all_ids [] = tt
all_ids (c ∷ cs) = (digest_is _, all_ids cs)

rewrite_len : (stack : List Changeset) (x : Id) (moment : ℕ) → length (map id_of (rewrite stack x moment)) ≡ length stack
rewrite_len [] x moment = refl
rewrite_len (c ∷ cs) x moment = ap suc (rewrite_len cs _ moment)

-- ---- each entry

told_by : (header : Header) (h : List Entry) (ask : Ask) (b : Body) → IsLegal header h → is_ask h ask ≡ true → MadeBy h ask b → TellsWell b
told_by header h (PutContent bytes) b legal asked m = subst TellsWell (sym m.1) (record { told = (digest_is bytes, (let most = m.0 in omega arith)); few = tt })
told_by header h (PutWhole given pieces) b legal asked m =
    let both = and_parts (are_bytes given) (are_pieces h (ids_in given) pieces) asked in
    let ids = ids_good given both.0 m.0 in
    let few = ids.few in
    subst TellsWell (sym m.3) (record { told = (digest_is (concat pieces), pieces_fit header h (ids_in given) pieces legal both.1 m.2 few, ids.each); few = omega arith })
told_by header h (PutChangeset bytes) b legal asked m = subst TellsWell (sym m.3) (record { told = digest_is _; few = tt })
told_by header h (SetBookmark caller name from to) b legal asked m =
    let ids = and_parts (is_name caller && is_name name) (list_all (is_bytes 32) (option_to_list from ++ option_to_list to)) asked in
    let names = and_parts (is_name caller) (is_name name) ids.0 in
    let both = both_ids from to ids.1 in
    subst TellsWell (sym m.0) (record { told = (names.1, both.0, both.1, caller_fits (holds_policy h) caller names.0); few = tt })
told_by header h (LandDraft caller name draft moment) b legal asked m =
    let last = and_parts (is_name caller && is_name name && is_bytes 32 draft) (nat_lt moment (2 ^ 64)) asked in
    let both = and_parts (is_name caller && is_name name) (is_bytes 32 draft) last.0 in
    let names = and_parts (is_name caller) (is_name name) both.0 in
    let small : moment < 2 ^ 64 = ltb-true moment (2 ^ 64) last.1 in
    let new = rewrite m.1.stack m.0 moment in
    let len = rewrite_len m.1.stack m.0 moment in
    let few = m.5 in
    subst TellsWell (sym m.8) (record {
      told = (names.1, head_is_id header h name m.0 legal m.2, both.1, moment_fits _ moment small, all_ids new, caller_fits (holds_policy h) caller names.0);
      few = omega arith;
    })
told_by header h (SetPolicy caller text) b legal asked m =
    let few = count_by-le-length (λ b. b == 0x0A) text in
    let short = m.1 in
    subst TellsWell (sym m.0) (record { told = ((and_parts (is_name caller) (are_bytes text) asked).0, omega arith); few = tt })

pub told_well : (header : Header) (h : List Entry) (b : Body) → IsLegal header h → is_stored b ≡ true → MayFollow header h b → TellsWell b
told_well header h b legal s m = let made = is_made header h b s m in told_by header h made.ask b legal made.asked made.made

-- ---- entries in a row

abbrev pub AreTold : List Body → List LogLine → Type 0
AreTold [] [] = Unit {0}
AreTold [] (line ∷ lines) = ⊥
AreTold (b ∷ bs) [] = ⊥
AreTold (b ∷ bs) (line ∷ lines) = (line_of b ≡ Some line) × AreTold bs lines

abbrev pub AreStored : List Body → Type 0
AreStored bs = AllByRecursion (λ b. is_stored b ≡ true) bs

pub line_told : (b : Body) → is_stored b ≡ true → (line : LogLine) × (line_of b ≡ Some line)
line_told (Content x n) s = (ContentLine x n, refl)
line_told (Whole x n parts) s = (WholeLine x n parts, refl)
line_told (Change c) s = (ChangesetLine (id_of c), refl)
line_told (Book move) s = (BookmarkLine move, refl)
line_told (Land landing) s = (LandingLine landing.caller landing.name landing.old landing.draft landing.moment (map id_of landing.new), refl)
line_told (Policy caller text) s = (PolicyLine caller (count_by (λ b. b == 0x0A) text), refl)
line_told (Fault breaking) s = absurd (true≢false (sym s))

pub record AreToldWell (bs : List Body) (lines : List LogLine) : Type 0 where
  pub told : AreTold bs lines
  pub well : AllByRecursion IsToldWell lines
  pub len : length lines ≡ length bs

pub lines_told : (header : Header) (before : List Entry) (bs : List Body) → IsLegal header before → AreStored bs → GoesOn header before (map unnumbered bs) → AreToldWell bs (lines_of (map unnumbered bs))
lines_told header before [] legal all goes = record { told = tt; well = tt; len = refl }
lines_told header before (b ∷ bs) legal all goes =
    let one = line_told b all.0 in
    let well : IsToldWell one.0 = subst (λ (o : Option LogLine). IfSome o IsToldWell) one.1 (told_well header before b legal all.0 goes.0) in
    let rest = lines_told header (before ++ unnumbered b ∷ []) bs ((IsLegal-push header before (unnumbered b)).1 (legal, goes.0)) all.1 goes.1 in
    let here : lines_of (map unnumbered (b ∷ bs)) ≡ one.0 ∷ lines_of (map unnumbered bs) = ap (λ o. cons_option o (lines_of (map unnumbered bs))) one.1 in
    subst (AreToldWell (b ∷ bs)) (sym here) (record { told = (one.1, rest.told); well = (well, rest.well); len = ap suc rest.len })
