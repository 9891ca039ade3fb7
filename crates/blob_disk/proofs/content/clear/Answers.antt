use Rattle.std.proofs.Common.{◌≡◌, ◌+◌, ◌-◌, ◌≤◌, false, length, replicate, take, drop, ap, arith, ◌∙◌, length-take, length-drop, inl, inr}
use Rattle.std.proofs.lemmas.Bool.{cases_lt}
use Rattle.blob_disk.proofs.Marks.{cleared, none_marked}
use Rattle.blob_disk.proofs.content.clear.Goals as goal

pub returns-then-from-to : goal.returns-then-from-to
returns-then-from-to c =
    let span : c.args.from + (c.args.to - c.args.from) ≤ length c.args.marks.now = (let h = c.requires.span in omega arith) in
    let len : length (take (c.args.to - c.args.from) (drop c.args.from c.args.marks.now)) ≡ c.args.to - c.args.from = omega (arith, length-take (c.args.to - c.args.from) (drop c.args.from c.args.marks.now), length-drop c.args.from c.args.marks.now) in
    cleared c.args.marks.now c.fill.new.self c.args.from (c.args.to - c.args.from) span
    (c.fill.ensures.after (λ y same. same) ∙ ap (λ n. replicate n false) len)
    c.requires.before
    (λ i past. c.requires.behind i (omega arith))

pub returns-else-from-to : goal.returns-else-from-to
returns-else-from-to c = none_marked c.args.marks.now (λ i within. elim (cases_lt i c.args.from) [ inl less ↦ c.requires.before i less | inr more ↦ c.requires.behind i (omega arith) ])
