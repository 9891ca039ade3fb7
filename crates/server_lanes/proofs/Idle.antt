-- Derivers, whose numbers no entry has.
use Rattle.std.specs.Prelude.{All}
use Rattle.std.proofs.Common.{◌≡◌, ◌+◌, ◌-◌, ◌≤◌, ◌∙◌, inl, inr, ◌==◌, false, ℕ, zero, suc, List, [], ◌∷◌, ◌++◌, length, get_or, Bool, true, cond, eq-eqb, refl, sym, ap, subst, arith, length-append}
use Rattle.std.proofs.lemmas.Bool.{cases_lt}
use Rattle.std.proofs.lemmas.List.{get_or_append_left, get_or-append-add}
use Rattle.std.proofs.lemmas.List.Elements.{All-contains, All-cons, All-nil}
use Rattle.history_model.specs.History.{Entry, entries_by}
use Rattle.bookmark_lock.specs.Place.{Place, joined_place}
use Rattle.bookmark_lock.specs.Fronts.{IsJoined}
use Rattle.server_lanes.specs.Derivers.{AreNumbered, AreUnused, HasNone}

pub numbered_push : (first : ℕ) (ds : List Place) (d : Place) → AreNumbered first ds → d.number ≡ first + length ds → AreNumbered first (ds ++ d ∷ [])
numbered_push first ds d all is k x below = elim (cases_lt k (length ds)) [
  | inl before ↦ ap (λ (p : Place). p.number) (get_or_append_left ds (d ∷ []) x k before) ∙ all k x before
  | inr behind ↦
      let last : k ≡ length ds + 0 = omega (arith, length-append ds (d ∷ [])) in
      subst (λ n. (get_or (ds ++ d ∷ []) n x).number ≡ first + n) (sym last) (ap (λ (p : Place). p.number) (get_or-append-add ds (d ∷ []) 0 x) ∙ (is ∙ omega arith))
]

module _ (lead deriver : Place) (seen : IsJoined lead deriver (joined_place lead deriver).front) where
  -- the lead has what it had of a seat that it joined earlier
  pub still_none : (earlier : Place) → HasNone lead earlier → HasNone (joined_place lead deriver) earlier
  still_none earlier h = record {
    joined = (suc h.joined.0, (let inside = h.joined.1 in omega arith), h.joined.2);
    none = All-contains (λ (m : ℕ). entries_by m (joined_place lead deriver).front ≡ entries_by m lead.front) lead.joined earlier.number seen.of_lead.joined h.joined ∙ h.none;
  }

  pub none_of_it : entries_by deriver.number deriver.front ≡ [] → HasNone (joined_place lead deriver) deriver
  none_of_it none = record { joined = (0, omega arith, refl); none = seen.of_other.own ∙ none }

-- derivers that are all joined
pub unused : (lead : Place) (first count : ℕ) (derivers : List Place) → count ≡ length derivers → AreNumbered first derivers → All (HasNone lead) derivers → AreUnused first count lead.front
unused lead first count derivers is numbers all n from below =
    let k = n - first in
    let has = all k lead (omega arith) in
    let number : (get_or derivers k lead).number ≡ n = numbers k lead (omega arith) ∙ omega arith in
    subst (λ m. entries_by m lead.front ≡ []) number has.none

none_here : (b : Bool) (e : Entry) (rest : List Entry) → cond b (e ∷ rest) rest ≡ [] → (b ≡ false) × (rest ≡ [])
none_here true e rest none = absurd (cc none)
none_here false e rest none = (refl, none)

-- every entry is of a lane where none is of a deriver
pub of_lanes : (lanes derivers : ℕ) (h : List Entry) → All (λ (e : Entry). e.who ≤ lanes + derivers) h → AreUnused (lanes + 1) derivers h → All (λ (e : Entry). e.who ≤ lanes) h
of_lanes lanes derivers [] all none = All-nil (λ (e : Entry). e.who ≤ lanes)
of_lanes lanes derivers (e ∷ h) all none =
    let most : e.who ≤ lanes + derivers = all zero e (omega arith) in
    let rest = of_lanes lanes derivers h (λ k d below. all (suc k) d (omega arith)) (λ n from below. (none_here (e.who == n) e (entries_by n h) (none n from below)).1) in
    let here : e.who ≤ lanes = elim (cases_lt lanes e.who) [
      | inl more ↦ absurd (cc (eq-eqb e.who e.who refl, (none_here (e.who == e.who) e (entries_by e.who h) (none e.who (omega arith) (omega arith))).0))
      | inr few ↦ few
    ] in
    All-cons (λ (e : Entry). e.who ≤ lanes) e h here rest
