-- A lead that splits seats off one after another.
use Rattle.std.proofs.Common.{◌≡◌, ℕ, ◌+◌, ◌-◌, ◌≤◌, ◌∙◌, ap, sym, subst, arith}
use Rattle.bookmark_lock.specs.Place.{Place, Site, new_place}
use Rattle.server_lanes.specs.Lanes.{IsAt, LaneView, TallyView}

pub split_more : (first lead now : Place) (n : ℕ) → lead ≡ record first { split = first.split + n; out = first.out + n } → now ≡ record lead { split = lead.split + 1; out = lead.out + 1 }
    → now ≡ record first { split = first.split + (n + 1); out = first.out + (n + 1) }
split_more first lead now n before one =
    let split : first.split + n + 1 ≡ first.split + (n + 1) = omega arith in
    let out : first.out + n + 1 ≡ first.out + (n + 1) = omega arith in
    one ∙ (ap (λ (p : Place). record p { split = p.split + 1; out = p.out + 1 }) before ∙ (λ i. record first { split = split i; out = out i }))

pub parts_less : (old now : TallyView) (lanes n : ℕ) → old ≡ record { parts = lanes - n; served = 0; sealed = 0; told = 0 } → now ≡ record old { parts = old.parts - 1 }
    → now ≡ record { parts = lanes - (n + 1); served = 0; sealed = 0; told = 0 }
parts_less old now lanes n before one =
    let less : lanes - n - 1 ≡ lanes - (n + 1) = omega arith in
    one ∙ (ap (λ (t : TallyView). record t { parts = t.parts - 1 }) before ∙ (λ i. record { parts = less i; served = 0; sealed = 0; told = 0 }))

pub at_new : (site : Site) (lead seat : Place) (part : TallyView) (lane : LaneView) → lead.lock ≡ site → seat ≡ new_place lead → part ≡ record { parts = 1; served = 0; sealed = 0; told = 0 } → lane ≡ record { place = seat; tally = part } → IsAt site lane
at_new site lead seat part lane lock new part_is is = record {
  lock = ap (λ (l : LaneView). l.place.lock) is ∙ (ap (λ (p : Place). p.lock) new ∙ lock);
  part = ap (λ (l : LaneView). l.tally.parts) is ∙ ap (λ (t : TallyView). t.parts) part_is;
  seen = subst (λ (n : ℕ). n ≤ lane.place.sealed) (sym (ap (λ (l : LaneView). l.tally.sealed) is ∙ ap (λ (t : TallyView). t.sealed) part_is)) (omega arith);
}
