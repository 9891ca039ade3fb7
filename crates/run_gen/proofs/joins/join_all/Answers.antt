use Rattle.std.proofs.Common.{◌++◌, ◌∷◌, [], List, subst, sym}
use Rattle.std.proofs.lemmas.List.{map-append}
use Rattle.bookmark_lock.specs.Place.{Place}
use Rattle.bookmark_lock.specs.Fronts.{IsJoined}
use Rattle.run_gen.specs.Joining.{TakesIn, seats_of}
use Rattle.run_gen.specs.declared.crew.Finished.{Finished}
use Rattle.run_gen.proofs.Joining.{takes_none, takes_one}
use Rattle.run_gen.proofs.joins.join_all.Goals as goal

pub loop-finished-init : goal.loop-finished-init
loop-finished-init g c = (tt, tt, takes_none c.args.lead.now)

pub loop-finished-preserved : goal.loop-finished-preserved
loop-finished-preserved g c =
    let lead = c.loop-finished.lead in
    let seat = c.in-Some.finished.seat in
    let joined = subst (λ (p : Place). IsJoined lead seat p.front) c.join.ensures.lead c.join.ensures.joined in
    let taken = subst (λ (p : Place). TakesIn c.args.lead.now p (seats_of c.loop-finished.yielded ++ seat ∷ [])) (sym c.join.ensures.lead) (takes_one c.args.lead.now lead seat (seats_of c.loop-finished.yielded) c.loop-finished.invariant.2 joined) in (
      tt,
      tt,
      subst (λ (ps : List Place). TakesIn c.args.lead.now c.join.new.lead ps) (sym (map-append (λ (f : Finished). f.seat) c.loop-finished.yielded (c.in-Some.finished ∷ []))) taken,
    )
