use Rattle.std.proofs.Common.{[], refl, sym, ap, ◌∙◌, arith}
use Rattle.history_model.specs.Journal.{Header}
use Rattle.follower.specs.declared.followed.FollowEnd.TheVariants.{OldFormat}
use Rattle.follower.proofs.Entries.{still}
use Rattle.follower.proofs.Walked.{ends_here}
use Rattle.follower.proofs.repository.end_of.Goals as goal

pub returns-in-First-clause-followed : goal.returns-in-First-clause-followed
returns-in-First-clause-followed g c =
    let s = c.args.state.now in
    let most = c.stored_length-stored.ensures.most in
    let is = c.stored_length-stored.ensures.length in
    ends_here s.opening s.history s.sealed [] [] (g.L.Link.rest c.args.link.now) s.history s.sealed OldFormat (still s.history s.history s.sealed refl (omega arith)) refl (λ bytes ahead. (refl, ap (λ (header : Header). header.version) (sym c.history_length-length.ensures.header) ∙ sym c.in-First.ensures))
