use Rattle.shared_repo.proofs.Landings.{counted_replies, none_same, where_ok}
use Rattle.shared_repo.proofs.Made.{exchange_adds, exchange_ends}
use Rattle.shared_repo.proofs.Lastings.{reach_same, state_same}
use Rattle.shared_repo.proofs.Turning.{still_turn}
use Rattle.history_model.specs.History.{is_down}
use Rattle.bookmark_lock.specs.Lasting.{entered}
use Rattle.std.proofs.Common.{ap, sym, arith, ◌∙◌, length}
use Rattle.shared_repo.proofs.turns.exchange_in.Goals as goal

pub returns-clause-turn : goal.returns-clause-turn
returns-clause-turn g c =
    let h = c.reserve.new.self.history in
    let same = c.reserve.ensures.history in
    let adds =
    exchange_adds c.reserve.new.self.header h c.exchange.new.self.history c.args.who c.args.rebased c.exchange.result c.exchange.ensures.exchanged c.history_length.result c.history_length-before.result
    c.history_length.ensures.length (c.history_length-before.ensures.length ∙ sym (ap length same)) c.differ-added.result c.differ-added.ensures in
    let kept = c.reserve.ensures.sealed in
    let still = c.exchange.ensures.sealed in
    record {
      opened = c.exchange.ensures.opening ∙ c.reserve.ensures.opening;
      adds = rw (← same) adds;
      seals = omega arith;
      lasts = state_same c.args.state.now.opening.header c.args.state.now c.exchange.new.self (still ∙ kept) (c.exchange.ensures.left ∙ c.reserve.ensures.left) (c.exchange.ensures.disk ∙ c.reserve.ensures.disk);
      few = λ up more. omega arith;
      ends = λ down.
          exchange_ends c.reserve.new.self.header h c.exchange.new.self.history c.args.who c.args.rebased c.exchange.result c.exchange.ensures.exchanged (ap is_down same ∙ down) ∙ ap entered same;
    }

pub returns-clause-reply : goal.returns-clause-reply
returns-clause-reply g c =
    counted_replies c.reserve.new.self.header c.args.state.now.opening.header c.reserve.new.self.history c.args.state.now.history c.exchange.new.self.history c.args.who c.args.rebased c.exchange.result _ _ c.exchange.ensures.exchanged
    (c.reserve.ensures.header ∙ c.history_length-before.ensures.header) c.reserve.ensures.history (sym c.outcome.ensures.same ∙ c.in-Some.is) c.with_counts.ensures.answer

pub exchange-requires-clause-room : goal.exchange-requires-clause-room
exchange-requires-clause-room g c = where_ok c.reserve.result (sym c.is_err.ensures.value ∙ c.if-is_err.false) c.reserve.ensures.room

pub returns-then-is_err-clause-turn : goal.returns-then-is_err-clause-turn
returns-then-is_err-clause-turn g c =
    let e = c.reserve.ensures in
    still_turn c.args.who c.args.state.now c.reserve.new.self e.history e.opening e.sealed (reach_same c.args.state.now c.reserve.new.self e.sealed e.left) e.disk

pub returns-in_default-clause-turn : goal.returns-in_default-clause-turn
returns-in_default-clause-turn g c =
    let one = c.reserve.ensures in
    let two = c.exchange.ensures in
    let same = none_same c.reserve.new.self.header c.reserve.new.self.history c.exchange.new.self.history c.args.who c.args.rebased c.exchange.result two.exchanged (sym c.outcome.ensures.same ∙ c.in_default.is) in
    still_turn c.args.who c.args.state.now c.exchange.new.self (same ∙ one.history) (two.opening ∙ one.opening) (two.sealed ∙ one.sealed)
    (reach_same c.args.state.now c.exchange.new.self (two.sealed ∙ one.sealed) (two.left ∙ one.left)) (two.disk ∙ one.disk)
