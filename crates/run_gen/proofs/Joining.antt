-- One seat more is joined.
use Rattle.std.specs.Prelude.{All, Contains}
use Rattle.std.proofs.Common.{◌≡◌, ℕ, suc, List, [], ◌∷◌, ◌++◌, get_or, refl, ◌∙◌, subst, arith, length-append}
use Rattle.std.proofs.lemmas.List.Elements.{All-append, All-cons, All-contains, All-contains_itself}
use Rattle.history_model.specs.History.{entries_by}
use Rattle.byte_fields.proofs.Lists.{prefix_self, prefix_trans}
use Rattle.bookmark_lock.specs.Place.{Place, known, joined_place}
use Rattle.bookmark_lock.specs.Fronts.{GoesOn, IsJoined}
use Rattle.run_gen.specs.Joining.{HasAll, TakesIn}

later : (n m : ℕ) (ns : List ℕ) → Contains ns m → Contains (n ∷ ns) m
later n m ns c = (suc c.0, (let h = c.1 in omega arith), c.2)

none_of : {A : Type 0} (P : A → Type 0) → All P []
none_of P k d h = absurd (omega arith)

pub takes_none : (lead : Place) → TakesIn lead lead []
takes_none lead = record {
  place = refl;
  leads = refl;
  split = refl;
  out = omega arith;
  earlier = All-contains_itself lead.joined;
  own = record { begins = prefix_self lead.front; own = refl; joined = λ k d h. refl };
  each = none_of (HasAll lead);
}

module _ (first lead other : Place) (seats : List Place) (t : TakesIn first lead seats) (j : IsJoined lead other (joined_place lead other).front) where
  abbrev now : Place
  now = joined_place lead other

  -- the lead has what it had of a seat that it joined earlier
  same : (n : ℕ) → Contains lead.joined n → entries_by n now.front ≡ entries_by n lead.front
  same n c = All-contains (λ (m : ℕ). entries_by m now.front ≡ entries_by m lead.front) lead.joined n j.of_lead.joined c

  own_now : GoesOn (known first) now.front
  own_now = let o = t.own in record {
    begins = prefix_trans first.front lead.front now.front o.begins j.of_lead.begins;
    own = subst (λ (n : ℕ). entries_by n now.front ≡ entries_by n lead.front) t.leads j.of_lead.own ∙ o.own;
    joined = λ k d h. same (get_or first.joined k d) (t.earlier k d h) ∙ o.joined k d h;
  }

  has_all_now : (seat : Place) → HasAll lead seat → HasAll now seat
  has_all_now seat h = record { joined = later other.number seat.number lead.joined h.joined; begins = prefix_trans seat.front lead.front now.front h.begins j.of_lead.begins; entries = same seat.number h.joined ∙ h.entries }

  has_all_other : HasAll now other
  has_all_other = record { joined = (0, omega arith, refl); begins = j.of_other.begins; entries = j.of_other.own }

  pub takes_one : TakesIn first now (seats ++ other ∷ [])
  takes_one = record {
    place = t.place;
    leads = t.leads;
    split = t.split;
    out = let old = t.out in omega (arith, length-append seats (other ∷ []));
    earlier = λ k d h. later other.number (get_or first.joined k d) lead.joined (t.earlier k d h);
    own = own_now;
    each = All-append (HasAll now) seats (other ∷ []) (λ k d h. has_all_now (get_or seats k d) (t.each k d h)) (All-cons (HasAll now) other [] has_all_other (none_of (HasAll now)));
  }
