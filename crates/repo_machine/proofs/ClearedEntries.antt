-- The machine's entries without seats' numbers.
--     unseated e, all_unseated es      the entry and the entries with the number 0
use Rattle.std.proofs.Common.{◌≡◌, ℕ, suc, ◌+◌, Bool, cond, List, [], ◌∷◌, refl, sym, ap, subst, ◌∙◌, ◌<◌, ◌≤◌, ◌++◌, length, take, get_or, set, arith}
use Rattle.std.specs.Prelude.{Option, None, Some, IfSome}
use Rattle.std.specs.List.{AllByRecursion}
use Rattle.std.proofs.lemmas.List.{map-append, take_more, take_more_set, take_all, length-map}
use Rattle.byte_fields.specs.Bytes.{Id}
use Rattle.history_model.specs.History.{Known, Content, is_down, known, content_len}
use Rattle.history_model.specs.History as model
use Rattle.history_model.specs.Journal.{Header}
use Rattle.content_table.specs.declared.place.Place.{Place}
use Rattle.repo_machine.specs.declared.records.Entry.{Entry}
use Rattle.repo_machine.specs.Indexes.{AreIndexes, StandsAt, AreAt, AreJoined}
use Rattle.repo_machine.specs.Records.{entry_of, history_of, IsWithin, is_kept, kept_from}
use Rattle.repo_machine.specs.Seats.{cleared, unseated, all_unseated}
use Rattle.repo_machine.proofs.Cleared.{is_down-cleared, known-cleared, content_len-cleared, head-cleared, size-cleared, IsLegal-cleared}
use Rattle.repo_machine.proofs.Tables.{joined-cleared}
use Rattle.std.proofs.Math.ListN.{get_or-map}
use Rattle.std.proofs.Math.Seq.{map-set_same}

history_by : (ks : List Known) (es : List Entry) → history_of ks (all_unseated es) ≡ cleared (history_of ks es)
history_by ks [] = refl
history_by ks (e ∷ es) = ap (λ h. entry_of ks (unseated e) ∷ h) (history_by ks es)

within_by : (count : ℕ) (es : List Entry) → AllByRecursion (IsWithin count) es → AllByRecursion (IsWithin count) (all_unseated es)
within_by count [] all = all
within_by count (e ∷ es) all = (all.0, within_by count es all.1)

kept_by : (n : ℕ) (es : List Entry) → kept_from n (all_unseated es) ≡ kept_from n es
kept_by n [] = refl
kept_by n (e ∷ es) = ap (λ l. cond (is_kept e) (n ∷ l) l) (kept_by (suc n) es)

indexes-cleared : (header : Header) (h : List model.Entry) (ks : List Known) (heads : List ℕ → Option Id) (lengths : Id → Option ℕ) (size : ℕ) (down : Bool) → AreIndexes header h ks heads lengths size down → AreIndexes header (cleared h) ks heads lengths size down
indexes-cleared header h ks heads lengths size down are = record {
  header_fits = are.header_fits;
  legal = IsLegal-cleared header h are.legal;
  down_is = are.down_is ∙ sym (is_down-cleared h);
  known_are = are.known_are ∙ sym (known-cleared h);
  heads_are = λ name. are.heads_are name ∙ sym (head-cleared h name);
  lengths_are = λ x. are.lengths_are x ∙ sym (content_len-cleared h x);
  size_is = are.size_is ∙ sym (size-cleared h);
  size_fits = are.size_fits;
}

stands_cleared : (h : List model.Entry) (x : Id) (o : Option Place) → IfSome o (StandsAt h x) → IfSome o (StandsAt (cleared h) x)
stands_cleared h x None at = tt
stands_cleared h x (Some p) at = record {
  before = cleared at.before;
  who = 0;
  later = cleared at.later;
  history_is = ap cleared at.history_is ∙ map-append (λ (e : model.Entry). model.unnumbered e.body) at.before (record { who = at.who; body = Content x p.length } ∷ at.later);
  at_is = at.at_is ∙ sym (ap (λ n. n + 5) (size-cleared at.before));
}

places-cleared : (h : List model.Entry) (places : Id → Option Place) → AreAt h places → AreAt (cleared h) places
places-cleared h places are x = stands_cleared h x (places x) (are x)

-- ---- as the machine has them

module _ (ks : List Known) (es after : List Entry) (clears : after ≡ all_unseated es) where
  pub history_unseated : history_of ks after ≡ cleared (history_of ks es)
  history_unseated = ap (history_of ks) clears ∙ history_by ks es

  pub within_unseated : (count : ℕ) → AllByRecursion (IsWithin count) es → AllByRecursion (IsWithin count) after
  within_unseated count all = subst (AllByRecursion (IsWithin count)) (sym clears) (within_by count es all)

  pub kept_unseated : (kept : List ℕ) → kept ≡ kept_from 0 es → kept ≡ kept_from 0 after
  kept_unseated kept are = are ∙ sym (ap (kept_from 0) clears ∙ kept_by 0 es)

  pub indexes_unseated : (header : Header) (heads : List ℕ → Option Id) (lengths : Id → Option ℕ) (size : ℕ) (down : Bool) → AreIndexes header (history_of ks es) ks heads lengths size down → AreIndexes header (history_of ks after) ks heads lengths size down
  indexes_unseated header heads lengths size down are = subst (λ h. AreIndexes header h ks heads lengths size down) (sym history_unseated) (indexes-cleared header (history_of ks es) ks heads lengths size down are)

  pub places_unseated : (places : Id → Option Place) → AreAt (history_of ks es) places → AreAt (history_of ks after) places
  places_unseated places are = subst (λ h. AreAt h places) (sym history_unseated) (places-cleared (history_of ks es) places are)

  pub joined_unseated : (joins : Id → Option (List Id)) → AreJoined (history_of ks es) joins → AreJoined (history_of ks after) joins
  joined_unseated joins are = subst (λ h. AreJoined h joins) (sym history_unseated) (joined-cleared (history_of ks es) joins are)

pub record IsUnseatedTo (i : ℕ) (es old : List Entry) : Type 0 where
  pub same : all_unseated es ≡ all_unseated old
  pub front : take i es ≡ take i (all_unseated old)

pub unseated_none : (es : List Entry) → IsUnseatedTo 0 es es
unseated_none es = record { same = refl; front = refl }

pub unseated_more : (i : ℕ) (es old : List Entry) (d : Entry) → i < length es → IsUnseatedTo i es old → IsUnseatedTo (i + 1) (set es i (unseated (get_or es i d))) old
unseated_more i es old d below so_far =
    let e = unseated (get_or es i d) in
    let here : e ≡ get_or (all_unseated old) i (unseated d) = sym (get_or-map unseated es i d) ∙ ap (λ (l : List Entry). get_or l i (unseated d)) so_far.same in
    let long = length-map es unseated in
    let also : length (all_unseated es) ≡ length (all_unseated old) = ap (λ (l : List Entry). length l) so_far.same in
    record {
      same = map-set_same unseated es i e d refl ∙ so_far.same;
      front = take_more_set es i e below ∙ (λ j. so_far.front j ++ here j ∷ []) ∙ sym (take_more (all_unseated old) i (unseated d) (omega arith));
    }

pub unseated_all : (i : ℕ) (es old : List Entry) → length es ≤ i → IsUnseatedTo i es old → es ≡ all_unseated old
unseated_all i es old past so_far =
    let long = length-map es unseated in
    let also : length (all_unseated es) ≡ length (all_unseated old) = ap (λ (l : List Entry). length l) so_far.same in
    sym (take_all i es past) ∙ so_far.front ∙ take_all i (all_unseated old) (omega arith)
