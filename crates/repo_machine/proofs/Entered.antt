-- An entry more, by the indexes.
use Rattle.std.proofs.Common.{◌≡◌, ℕ, ◌+◌, Bool, true, false, List, [], ◌∷◌, ◌++◌, refl, sym, ap, subst, ◌∙◌, arith}
use Rattle.std.specs.Prelude.{Option, None, Some, ◌||◌, ◌&&◌, cond, IfSome, bytes_eq}
use Rattle.std.proofs.lemmas.List.{append_assoc, append-nil}
use Rattle.std.proofs.lemmas.Slice.Eq.{bytes_eq-Decides}
use Rattle.byte_fields.proofs.Lists.{option_or-None}
use Rattle.history_model.specs.Repository.{Repository}
use Rattle.reply_model.proofs.Lines.{known-append}
use Rattle.repo_machine.proofs.Growing.{head-push, content_len-push}
use Rattle.std.proofs.lemmas.List.Folds.{list_any-append}
use Rattle.byte_fields.specs.Bytes.{Id}
use Rattle.history_model.specs.History.{Body, Content, Whole, Change, Book, Land, Policy, Fault, Entry, Known, is_down, is_stored, is_breaking, known, content_len}
use Rattle.history_model.specs.Bookmark.{head}
use Rattle.history_model.specs.Journal.{Header, payload_len, record_len}
use Rattle.history_model.specs.Journal as journal
use Rattle.reply_model.specs.After.{entry_by}
use Rattle.reply_model.specs.Legal.{IsLegal}
use Rattle.reply_model.proofs.Histories.{IsLegal-push, size-push}
use Rattle.reply_model.proofs.Granted.{follows_granted}
use Rattle.content_table.specs.declared.place.Place.{Place}
use Rattle.repo_machine.specs.Indexes.{AreIndexes, StandsAt, AreAt}
use Rattle.repo_machine.specs.Entering.{Enterable}
use Rattle.repo_machine.proofs.Judging.{entered_made}
use Rattle.byte_fields.proofs.Booleans.{or_false}

record_length : (h : List Entry) (who : ℕ) (body : Body) → is_stored body ≡ true → journal.size (h ++ entry_by who body ∷ []) ≡ journal.size h + 5 + payload_len body
record_length h who body stored = size-push h (entry_by who body) ∙ ap (λ b. journal.size h + cond b (record_len body) 0) stored ∙ omega arith

stored_stands : (body : Body) → is_stored body ≡ true → is_breaking body ≡ false
stored_stands (Content x n) e = refl
stored_stands (Whole x n parts) e = refl
stored_stands (Policy caller text) e = refl
stored_stands (Change c) e = refl
stored_stands (Book move) e = refl
stored_stands (Land landing) e = refl
stored_stands (Fault breaking) e = absurd cc

down_pushed : (h : List Entry) (who : ℕ) (body : Body) → is_down (h ++ entry_by who body ∷ []) ≡ (is_down h || is_breaking body)
down_pushed h who body = list_any-append (λ e. is_breaking e.body) h (entry_by who body ∷ []) ∙ ap (λ b. is_down h || b) (or_false (is_breaking body))

module _ {header : Header} {h : List Entry} {ks : List Known} {heads : List ℕ → Option Id} {lengths : Id → Option ℕ} {size : ℕ} {down : Bool} (k : AreIndexes header h ks heads lengths size down) (who : ℕ) (body : Body) (can : Enterable header h body) (stored : is_stored body ≡ true) (after : List Entry) (grows : after ≡ h ++ entry_by who body ∷ []) where
  pub legal_grown : IsLegal header after
  legal_grown =
      subst (IsLegal header) (sym grows)
      ((IsLegal-push header h (entry_by who body)).1 (k.legal, follows_granted header h can.can.ask can.can.granted body can.can.asks stored (can.can.judged ∙ entered_made header h can.can.granted body can.fits)))

  pub indexes_grown : (ks' : List Known) (heads' : List ℕ → Option Id) (lengths' : Id → Option ℕ) (size' : ℕ) → ks' ≡ known (h ++ entry_by who body ∷ []) → ((name : List ℕ) → heads' name ≡ head (h ++ entry_by who body ∷ []) name) → ((x : Id) → lengths' x ≡ content_len (h ++ entry_by who body ∷ []) x) → size' ≡ size + (5 + payload_len body) → AreIndexes header after ks' heads' lengths' size' down
  indexes_grown ks' heads' lengths' size' ks_are heads_are lengths_are size_is =
      let size_now : size' ≡ journal.size h + 5 + payload_len body = (let was = k.size_is in omega arith) in
      record {
        header_fits = k.header_fits;
        legal = legal_grown;
        down_is = k.down_is ∙ sym (ap is_down grows ∙ down_pushed h who body ∙ ap (λ b. is_down h || b) (stored_stands body stored) ∙ or_false (is_down h));
        known_are = ks_are ∙ ap known (sym grows);
        heads_are = λ name. heads_are name ∙ ap (λ g. head g name) (sym grows);
        lengths_are = λ x. lengths_are x ∙ ap (λ g. content_len g x) (sym grows);
        size_is = size_now ∙ sym (record_length h who body stored) ∙ ap journal.size (sym grows);
        size_fits = (let fits = can.fits in omega arith);
      }

-- ---- places

stands_on : (h : List Entry) (e : Entry) (x : Id) (o : Option Place) → IfSome o (StandsAt h x) → IfSome o (StandsAt (h ++ e ∷ []) x)
stands_on h e x None at = tt
stands_on h e x (Some p) at = record {
  before = at.before;
  who = at.who;
  later = at.later ++ e ∷ [];
  history_is = ap (λ (h : List Entry). h ++ e ∷ []) at.history_is ∙ append_assoc at.before (entry_by at.who (Content x p.length) ∷ at.later) (e ∷ []);
  at_is = at.at_is;
}

pub places_stay : (h : List Entry) (e : Entry) (places : Id → Option Place) → AreAt h places → (after : List Entry) → after ≡ h ++ e ∷ [] → AreAt after places
places_stay h e places are after grows = subst (λ g. AreAt g places) (sym grows) (λ x. stands_on h e x (places x) (are x))

place_by : (h : List Entry) (who : ℕ) (x y : Id) (place : Place) (o : Option Place) (after : List Entry) → after ≡ h ++ entry_by who (Content x place.length) ∷ [] → place.at ≡ journal.size h + 5 → IfSome o (StandsAt after y) → (b : Bool) → bytes_eq x y ≡ b → IfSome (cond b (Some place) o) (StandsAt after y)
place_by h who x y place o after grows at before true e = record {
  before = h;
  who = who;
  later = [];
  history_is = grows ∙ ap (λ x. h ++ entry_by who (Content x place.length) ∷ []) ((bytes_eq-Decides x y).0 e);
  at_is = at;
}
place_by h who x y place o after grows at before false e = before

pub places_put : (h : List Entry) (who : ℕ) (x : Id) (place : Place) (places places' : Id → Option Place) → AreAt h places → ((y : Id) → places' y ≡ cond (bytes_eq x y) (Some place) (places y)) → (after : List Entry) → after ≡ h ++ entry_by who (Content x place.length) ∷ [] → place.at ≡ journal.size h + 5 → AreAt after places'
places_put h who x place places places' are puts after grows at y =
    subst (λ o. IfSome o (StandsAt after y)) (sym (puts y))
    (place_by h who x y place (places y) after grows at (places_stay h (entry_by who (Content x place.length)) places are after grows y) (bytes_eq x y) refl)

-- ---- a fault

module _ {header : Header} {h : List Entry} {ks : List Known} {heads : List ℕ → Option Id} {lengths : Id → Option ℕ} {size : ℕ} {down : Bool} (k : AreIndexes header h ks heads lengths size down) (who : ℕ) (breaking : Bool) (once : (breaking && is_down h) ≡ false) (after : List Entry) (grows : after ≡ h ++ entry_by who (Fault breaking) ∷ []) where
  pub legal_faulted : IsLegal header after
  legal_faulted = subst (IsLegal header) (sym grows) ((IsLegal-push header h (entry_by who (Fault breaking))).1 (k.legal, once))

  pub indexes_faulted : (down' : Bool) → down' ≡ (down || breaking) → AreIndexes header after ks heads lengths size down'
  indexes_faulted down' is =
      let same : journal.size after ≡ journal.size h = ap journal.size grows ∙ size-push h (entry_by who (Fault breaking)) ∙ omega arith in
      record {
        header_fits = k.header_fits;
        legal = legal_faulted;
        down_is = is ∙ ap (λ b. b || breaking) k.down_is ∙ sym (ap is_down grows ∙ down_pushed h who (Fault breaking));
        known_are = k.known_are ∙ sym (ap known grows ∙ known-append h (entry_by who (Fault breaking) ∷ []) ∙ append-nil (known h));
        heads_are = λ name. k.heads_are name ∙ sym (ap (λ g. head g name) grows ∙ head-push h who (Fault breaking) name);
        lengths_are = λ y. k.lengths_are y ∙ sym (ap (λ g. content_len g y) grows ∙ content_len-push h who (Fault breaking) y ∙ option_or-None (content_len h y));
        size_is = k.size_is ∙ sym same;
        size_fits = k.size_fits;
      }

-- ---- as the machine has it

pub enterable_as : {header : Header} {h : List Entry} (r : Repository) (body : Body) → ◌≡◌ {A = Repository} (record { header = header; history = h }) r → Enterable r.header r.history body → Enterable header h body
enterable_as r body is can = subst (λ r. Enterable r.header r.history body) (sym is) can
