-- A lead that joins seats one after another.
use Rattle.std.proofs.Common.{ℕ, ◌+◌, ◌∙◌, ap, sym, arith}
use Rattle.history_model.specs.History.{entries_by}
use Rattle.byte_fields.proofs.Lists.{prefix_trans}
use Rattle.bookmark_lock.specs.Place.{Place}
use Rattle.server_lanes.specs.Lanes.{TakesBack}

pub takes_more : (first lead now : Place) (n : ℕ) → TakesBack first n lead → TakesBack lead 1 now → TakesBack first (n + 1) now
takes_more first lead now n t one = record {
  lock = one.lock ∙ t.lock;
  number = one.number ∙ t.number;
  split = one.split ∙ t.split;
  out = let a = t.out in let b = one.out in omega arith;
  own = ap (λ (w : ℕ). entries_by w now.front) (sym t.number) ∙ (one.own ∙ (ap (λ (w : ℕ). entries_by w lead.front) t.number ∙ t.own));
  begins = prefix_trans first.front lead.front now.front t.begins one.begins;
  seals = (let a = t.seals in let b = one.seals in omega arith);
}
