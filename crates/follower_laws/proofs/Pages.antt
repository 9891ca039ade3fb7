-- The page of a legal history's log.
--     IsShown before rest lines      the lines of the page that begins behind these entries, of those that are stored
use Rattle.std.proofs.Common.{◌≡◌, ℕ, ◌+◌, ◌≤◌, ◌<◌, ◌^◌, Bool, true, false, cond, List, [], ◌∷◌, ◌++◌, map, length, take, drop, inl, inr, refl, sym, ap, subst, ◌∙◌, arith, length-append}
use Rattle.std.specs.Prelude.{IsTrue, sum_by, nat_le}
use Rattle.std.specs.List.{AllByRecursion}
use Rattle.std.proofs.lemmas.Bool.{and_parts, leb-true}
use Rattle.std.proofs.lemmas.List.{take-map, drop-map, take-append-drop, length-take, length-map, map-append}
use Rattle.std.proofs.lemmas.List.Sums.{sum_by-cons}
use Rattle.std.proofs.Math.Seq.{drop-append_seam}
use Rattle.byte_fields.proofs.Lists.{both_parts}
use Rattle.history_model.specs.History.{Body, Entry, is_stored, unnumbered, bodies, stored}
use Rattle.history_model.specs.Journal.{Header, is_header, record_len}
use Rattle.reply_model.specs.Legal.{GoesOn, IsLegal}
use Rattle.reply_model.specs.Log.{LogLine, lines_of, log_lines}
use Rattle.opening_laws.proofs.Sizes.{history_fits}
use Rattle.page_reader.specs.Pages.{IsTold, Counts}
use Rattle.follower_laws.proofs.Stood.{stored_apart, goes_apart}
use Rattle.follower_laws.proofs.Told.{IsToldWell, AreTold, AreStored, AreToldWell, lines_told}

-- ---- what is stored

stored_by : (b : Body) (bs : List Body) → AreStored bs → (t : Bool) → is_stored b ≡ t → AreStored (cond t (b ∷ bs) bs)
stored_by b bs all true e = (e, all)
stored_by b bs all false e = all

pub all_stored : (h : List Entry) → AreStored (bodies h)
all_stored [] = tt
all_stored (e ∷ h) = stored_by e.body (bodies h) (all_stored h) (is_stored e.body) refl

page_is : (before rest : List Body) → take 100 (drop (length before) (map unnumbered (before ++ rest))) ≡ map unnumbered (take 100 rest)
page_is before rest =
    ap (take 100) (drop-map unnumbered (length before) (before ++ rest) ∙ ap (map unnumbered) (drop-append_seam before rest))
    ∙ take-map unnumbered 100 rest

pub record IsShown (before rest : List Body) (lines : List LogLine) : Type 0 where
  pub now : List Body
  pub later : List Body
  pub rest_is : rest ≡ now ++ later
  pub told : AreTold now lines
  pub well : AllByRecursion IsToldWell lines
  pub some : 0 < length rest → 0 < length lines
  pub few : length lines ≤ 100
  pub within : length lines ≤ length rest

rest_stored : (h : List Entry) (before rest : List Body) → bodies h ≡ before ++ rest → AreStored rest
rest_stored h before rest e = (both_parts (λ b. is_stored b ≡ true) before rest (subst AreStored e (all_stored h))).1

shown_by : (before now later : List Body) (lines : List LogLine) → AreToldWell now lines → length now ≤ 100 → (0 < length (now ++ later) → 0 < length now) → IsShown before (now ++ later) lines
shown_by before now later lines well few some =
    let len = well.len in
    let sum = length-append now later in
    record { now = now; later = later; rest_is = refl; told = well.told; well = well.well; some = λ more. (let one = some more in omega arith); few = omega arith; within = omega arith }

pub page_shown : (header : Header) (h : List Entry) (before rest : List Body) → IsLegal header h → bodies h ≡ before ++ rest → IsShown before rest (log_lines h (length before))
page_shown header h before rest legal e =
    let now = take 100 rest in
    let later = drop 100 rest in
    let apart : now ++ later ≡ rest = take-append-drop 100 rest in
    let goes = (stored_apart header h before rest legal e) in
    let here = goes_apart header (map unnumbered before) (map unnumbered now) (map unnumbered later) (subst (GoesOn header (map unnumbered before)) (ap (map unnumbered) (sym apart) ∙ map-append unnumbered now later) goes.1) in
    let all = both_parts (λ b. is_stored b ≡ true) now later (subst AreStored (sym apart) (rest_stored h before rest e)) in
    let well = lines_told header (map unnumbered before) now goes.0 all.0 here.0 in
    let lines : log_lines h (length before) ≡ lines_of (map unnumbered now) = ap (λ bs. lines_of (take 100 (drop (length before) (map unnumbered bs)))) e ∙ ap lines_of (page_is before rest) in
    let len = length-take 100 rest in
    let whole = ap length apart in
    subst (λ (ls : List LogLine). IsShown before rest ls) (sym lines)
    (subst (λ (bs : List Body). IsShown before bs (lines_of (map unnumbered now))) apart (shown_by before now later (lines_of (map unnumbered now)) well (omega arith) (λ more. omega arith)))

-- ---- how many there are

many_by : (bs : List Body) → length bs ≤ sum_by record_len bs
many_by [] = omega arith
many_by (b ∷ bs) =
    let rest = many_by bs in
    let sum = sum_by-cons record_len b bs in
    omega arith

pub few_stored : (header : Header) (h : List Entry) → IsTrue (is_header header) → IsLegal header h → length (stored h) < 2 ^ 64
few_stored header h fits legal =
    let both = and_parts (nat_le 4096 header.capacity) (nat_le header.capacity 34359738368) fits in
    let least : 4096 ≤ header.capacity = leb-true 4096 header.capacity both.0 in
    let most : header.capacity ≤ 34359738368 = leb-true header.capacity 34359738368 both.1 in
    let all = history_fits header h (omega arith) legal in
    let many = many_by (bodies h) in
    let len = length-map (bodies h) unnumbered in
    omega arith

pub counted : (before rest : List Body) (lines : List LogLine) (total : ℕ) → IsShown before rest lines → total ≡ length before + length rest → Counts (length before) (length lines) total
counted before [] lines total shown e = let none = shown.within in inr (omega arith, omega arith)
counted before (b ∷ rest) lines total shown e =
    let some = shown.some (omega arith) in
    let few = shown.few in
    let within = shown.within in
    inl (some, few, omega arith)

pub all_told : (lines : List LogLine) → AllByRecursion IsToldWell lines → AllByRecursion IsTold lines
all_told [] all = tt
all_told (line ∷ lines) all = (all.0.told, all_told lines all.1)
