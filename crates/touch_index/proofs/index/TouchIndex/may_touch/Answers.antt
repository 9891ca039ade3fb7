use Rattle.std.proofs.Common.{length, subst, sym, ap, ◌∙◌}
use Rattle.std.specs.Prelude.{Contains}
use Rattle.std.specs.List.{All}
use Rattle.std.proofs.lemmas.List.{take_all}
use Rattle.std.proofs.lemmas.List.Elements.{All-more}
use Rattle.touch_index.specs.Lists.{numbers_at}
use Rattle.touch_index.proofs.Staying.{last_is}
use Rattle.touch_index.proofs.Asking.{IsOut, apart_from}
use Rattle.touch_index.proofs.index.TouchIndex.may_touch.Goals as goal

pub keys-preserved : goal.keys-preserved
keys-preserved g c =
    All-more (λ key. IsOut (g.R.Range.contains c.args.range.now) c.args.above (numbers_at c.args.self.now.at key)) c.as_slice-key-items.result.now c.keys.key-index 0 c.keys-test.true c.keys.invariant
    (λ n more inside there. c.may_have_later.ensures c.if-may_have_later.false n more inside (subst (λ ns. Contains ns n) (sym c.numbers.ensures) there))

pub returns : goal.returns
returns g c = λ no.
    let range = g.R.Range.contains c.args.range.now in
    let s = c.args.self.now in
    let last = last_is c.in-Ok.keys.items _ c.index-key.result.now c.args.path.now c.in-Ok.ensures.keys c.in-Ok.ensures.path (c.len.ensures ∙ sym c.as_slice-key-items.ensures.len ∙ ap length c.as_slice-key-items.ensures.value) c.index-key.ensures in
    apart_from range c.args.above s.at s.under c.args.path.now c.in-Ok.ensures.path
    (subst (All (λ key. IsOut range c.args.above (numbers_at s.at key))) (take_all c.keys.key-index c.as_slice-key-items.result.now c.keys-test.false ∙ c.as_slice-key-items.ensures.value ∙ c.in-Ok.ensures.keys) c.keys.invariant)
    (λ n more inside there. c.may_have_later-2.ensures no n more inside (subst (λ ns. Contains ns n) (ap (numbers_at s.under) (sym last) ∙ sym c.numbers-2.ensures) there))
