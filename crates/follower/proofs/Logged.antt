-- What the log tells once a change was granted.
use Rattle.std.proofs.Common.{◌≡◌, ◌≢◌, ℕ, ◌≤◌, true, false, cond, List, [], ◌∷◌, ◌++◌, length, map, drop, take, refl, sym, ap, ◌∙◌, subst, arith}
use Rattle.std.specs.Prelude.{Option, None, Some, filter_map}
use Rattle.std.specs.Option.{option_to_list, option_and_then}
use mathlib.Core.Bool.{true≢false}
use Rattle.std.proofs.lemmas.List.{append-nil, length-map}
use Rattle.std.proofs.Math.Seq.{drop-append_seam}
use Rattle.std.proofs.Math.ListN.{drop_of_length-le}
use Rattle.history_model.specs.History.{Body, Content, Whole, Change, Book, Land, Policy, Fault, Entry, bodies, is_down, is_stored, stored, unnumbered}
use Rattle.history_model.specs.Journal.{Header}
use Rattle.reply_model.specs.Log.{LogLine, line_of, log_lines}
use Rattle.reply_model.specs.Reply.{Granted, page_len}
use Rattle.reply_model.specs.After.{Made, Answers, Grants, entries_of, entry_by}
use Rattle.reply_model.proofs.Opened.{then_some}
use Rattle.reply_model.proofs.Stored.{stored-push}
use Rattle.landing_core.proofs.Down.{down-stored}
use Rattle.follower.specs.Making.{call_of, count, made_line, Makes, Remains}
use Rattle.follower.proofs.Refused.{GrantedSo, without_entry}
use Rattle.follower.proofs.Entries.{bodies-push}

abbrev only : Option Body → Made
only entry = record { entry = entry; fault = None }

calm_is : (made : Made) → made.fault ≡ None → made ≡ only made.entry
calm_is made calm = λ i. record { entry = made.entry; fault = calm i }

-- ---- its lines

count_stored : (h : List Entry) → length (stored h) ≡ count h
count_stored h = length-map (bodies h) unnumbered

one_line : (body : Body) → filter_map (λ (e : Entry). line_of e.body) (unnumbered body ∷ []) ≡ option_to_list (line_of body)
one_line (Content x n) = refl
one_line (Whole x n parts) = refl
one_line (Change c) = refl
one_line (Book move) = refl
one_line (Land landing) = refl
one_line (Policy caller text) = refl
one_line (Fault breaking) = refl

none_after : (h : List Entry) → log_lines (h ++ []) (count h) ≡ []
none_after h =
    ap (λ g. log_lines g (count h)) (append-nil h)
    ∙ ap (λ es. filter_map (λ (e : Entry). line_of e.body) (take page_len es)) (drop_of_length-le (stored h) (let size = count_stored h in omega arith))

one_after : (h : List Entry) (body : Body) → is_stored body ≡ true → log_lines (h ++ entry_by 0 body ∷ []) (count h) ≡ option_to_list (line_of body)
one_after h body is =
    let all : stored (h ++ entry_by 0 body ∷ []) ≡ stored h ++ unnumbered body ∷ [] = stored-push h (entry_by 0 body) ∙ ap (λ b. stored h ++ map unnumbered (cond b (body ∷ []) [])) is in
    let last : drop (count h) (stored (h ++ entry_by 0 body ∷ [])) ≡ unnumbered body ∷ [] =
    ap (drop (count h)) all ∙ ap (λ n. drop n (stored h ++ unnumbered body ∷ [])) (sym (count_stored h)) ∙ drop-append_seam (stored h) (unnumbered body ∷ []) in
    ap (λ es. filter_map (λ (e : Entry). line_of e.body) (take page_len es)) last ∙ one_line body

lines_only : (h : List Entry) (entry : Option Body) → ((body : Body) → entry ≡ Some body → is_stored body ≡ true) → log_lines (h ++ entries_of 0 (only entry)) (count h) ≡ option_to_list (option_and_then line_of entry)
lines_only h None is = none_after h
lines_only h (Some body) is = one_after h body (is body refl)

pub lines_made : (h after : List Entry) (made : Made) → GrantedSo h made → after ≡ h ++ entries_of 0 made → log_lines after (count h) ≡ option_to_list (made_line made)
lines_made h after made so is = ap (λ g. log_lines g (count h)) (is ∙ ap (λ m. h ++ entries_of 0 m) (calm_is made so.calm)) ∙ lines_only h made.entry so.stored

-- ---- what it made

only_one : (o : Option LogLine) (line : LogLine) → option_to_list o ≡ line ∷ [] → o ≡ Some line
only_one None line e = absurd cc
only_one (Some found) line e = cc

pub record MadeSo (header : Header) (h : List Entry) (line : LogLine) (fetched : List ℕ) (after : List Entry) : Type 0 where
  pub body : Body
  pub makes : Makes header h line fetched body
  pub after_is : after ≡ h ++ entry_by 0 body ∷ []

pub same_line : (header : Header) (h after : List Entry) (line : LogLine) (fetched : List ℕ) (granted : Granted) (made : Made) → GrantedSo h made → Answers header h (call_of line fetched) (Grants granted) made
    → after ≡ h ++ entries_of 0 made → log_lines after (count h) ≡ line ∷ [] → MadeSo header h line fetched after
same_line header h after line fetched granted made so answers is told =
    let some = then_some line_of made.entry line (only_one (made_line made) line (sym (lines_made h after made so is) ∙ told)) in
    let made_is : made ≡ only (Some some.0) = λ i. record { entry = some.1 i; fault = so.calm i } in
    record {
      body = some.0;
      makes = record { granted = granted; answers = subst (Answers header h (call_of line fetched) (Grants granted)) made_is answers; told = some.2 };
      after_is = is ∙ ap (λ m. h ++ entries_of 0 m) made_is;
    }

pub other_line : (h after : List Entry) (line : LogLine) (made : Made) → GrantedSo h made → after ≡ h ++ entries_of 0 made → log_lines after (count h) ≢ line ∷ [] → made_line made ≢ Some line
other_line h after line made so is other = λ told. other (lines_made h after made so is ∙ ap option_to_list told)

-- ---- what remains of it

remains_only : (h : List Entry) (entry : Option Body) (sealed : ℕ) → is_down h ≡ false → ((body : Body) → entry ≡ Some body → is_stored body ≡ true) → sealed ≤ count h → Remains (option_to_list entry) h [] (h ++ entries_of 0 (only entry)) sealed
remains_only h None sealed up is most = record {
  entries = without_entry h None ∙ sym (append-nil (bodies h));
  apart = omega arith;
  whole = λ down. refl;
}
remains_only h (Some body) sealed up is most = record {
  entries = bodies-push h body (is body refl);
  apart = omega arith;
  whole = λ down. absurd (true≢false (sym down ∙ down-stored h (entry_by 0 body) (is body refl) ∙ up));
}

-- nothing of it stands on the disk
pub remains_made : (h after : List Entry) (made : Made) (sealed : ℕ) → GrantedSo h made → after ≡ h ++ entries_of 0 made → sealed ≤ count h → Remains (option_to_list made.entry) h [] after sealed
remains_made h after made sealed so is most =
    subst (λ g. Remains (option_to_list made.entry) h [] g sealed) (sym (is ∙ ap (λ m. h ++ entries_of 0 m) (calm_is made so.calm))) (remains_only h made.entry sealed so.up so.stored most)
