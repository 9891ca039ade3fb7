use Rattle.std.proofs.Common.{◌≡◌, [], subst, sym}
use Rattle.history_model.specs.History.{entries_by}
use Rattle.bookmark_lock.specs.Place.{Place, joined_place}
use Rattle.bookmark_lock.specs.Fronts.{IsJoined}
use Rattle.server_lanes.specs.Derivers.{HasNone}
use Rattle.server_lanes.proofs.Idle.{none_of_it, still_none}
use Rattle.server_lanes.proofs.derivers.join_deriver.Goals as goal

pub returns-clause-none : goal.returns-clause-none
returns-clause-none g c =
    let lead = c.args.lead.now in
    let seat = c.into_seat.result in
    let seen = subst (λ (p : Place). IsJoined lead seat p.front) c.join.ensures.lead c.join.ensures.joined in
    let none = subst (λ (d : Place). entries_by d.number d.front ≡ []) (sym c.into_seat.ensures) c.requires.deriver.none in
    let it = subst (λ (d : Place). HasNone (joined_place lead seat) d) c.into_seat.ensures (none_of_it lead seat seen none) in
    subst (λ (p : Place). HasNone p c.args.deriver) (sym c.join.ensures.lead) it

pub returns-clause-kept : goal.returns-clause-kept
returns-clause-kept g c = λ earlier h.
    let lead = c.args.lead.now in
    let seat = c.into_seat.result in
    let seen = subst (λ (p : Place). IsJoined lead seat p.front) c.join.ensures.lead c.join.ensures.joined in
    subst (λ (p : Place). HasNone p earlier) (sym c.join.ensures.lead) (still_none lead seat seen earlier h)
