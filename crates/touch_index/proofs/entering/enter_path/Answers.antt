use Rattle.std.proofs.Common.{length, sym, ap, ◌∙◌}
use Rattle.std.specs.Prelude.{Contains}
use Rattle.std.proofs.lemmas.List.Elements.{All-more, All-weaker}
use Rattle.touch_index.specs.Lists.{numbers_at}
use Rattle.touch_index.proofs.Staying.{entered_in, last_is}
use Rattle.touch_index.proofs.entering.enter_path.Goals as goal

pub keys-preserved : goal.keys-preserved
keys-preserved c =
    let keys = c.as_slice-key-items.result.now in
    let i = c.keys.key-index in
    record {
      rises = c.in_ok-enter.ensures.rising;
      keeps = λ key n inside. c.in_ok-enter.ensures.keeps key n (c.keys.invariant.keeps key n inside);
      entered = All-more (λ key. Contains (numbers_at c.enter.new.self key) c.args.number) keys i 0 c.keys-test.true
          (All-weaker (λ key. Contains (numbers_at c.keys.under key) c.args.number) (λ key. Contains (numbers_at c.enter.new.self key) c.args.number) (λ key. c.in_ok-enter.ensures.keeps key c.args.number) _ c.keys.invariant.entered)
          c.in_ok-enter.ensures.there;
    }

pub returns-clause-entered : goal.returns-clause-entered
returns-clause-entered c =
    entered_in c.enter-2.new.self c.keys.under c.args.number c.args.path.now c.in_ok-keys.keys.items c.in_ok-keys.ensures.keys c.in_ok-keys.ensures.path
    c.as_slice-key-items.result.now c.as_slice-key-items.ensures.value c.keys.key-index c.keys-test.false c.keys.invariant.entered
    c.index.result.now (last_is c.in_ok-keys.keys.items _ c.index.result.now c.args.path.now c.in_ok-keys.ensures.keys c.in_ok-keys.ensures.path (c.len.ensures ∙ sym c.as_slice-key-items.ensures.len ∙ ap length c.as_slice-key-items.ensures.value) c.index.ensures)
    c.enter-2.result c.enter-2.ensures.there
