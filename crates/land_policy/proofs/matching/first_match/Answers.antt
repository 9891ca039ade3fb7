use Rattle.std.proofs.Common.{◌≡◌, ◌-◌, take, sym, ap, ◌∙◌, get_or, arith}
use Rattle.std.proofs.lemmas.Bool.{ne_eqb}
use Rattle.land_policy.specs.Index.{lesser, found_at}
use Rattle.land_policy.proofs.Walk.{no_step, root, slash_at, other_at, at_end}
use Rattle.land_policy.proofs.matching.first_match.Goals as goal
use Rattle.land_policy.proofs.matching.first_match.Goals.{then-byte-eq47, else-byte-eq47}

pub loop-end-init : goal.loop-end-init
loop-end-init c = λ rules name all_is own_is. no_step rules name c.first_here-first.result (c.first_here-first.ensures ∙ root rules name c.args.everyone.now c.args.own all_is own_is)

pub loop-end-preserved : goal.loop-end-preserved
loop-end-preserved c = λ rules name all_is own_is.
    let text = c.args.place.now in
    let n = c.loop-end.end in
    elim c.if-byte-eq47.branch [
      | then-byte-eq47 w ↦ slash_at rules name c.args.everyone.now c.args.own all_is own_is text n c.loop-end.first c.if-byte-eq47.first c.requires (omega arith) (ap (λ t. get_or t n 0) (sym c.as_bytes-byte-items.ensures.value) ∙ w.if-byte-eq47.true)
          (w.first-is ∙ w.lesser-first.ensures ∙ ap (lesser c.loop-end.first) (w.first_here.ensures ∙ ap (found_at c.args.everyone.now c.args.own) (w.range.ensures.value ∙ ap (λ k. take k text) (let same : n - 0 ≡ n = omega arith in same)))) (c.loop-end.invariant rules name all_is own_is)
      | else-byte-eq47 w ↦ other_at rules name text n c.loop-end.first c.if-byte-eq47.first (omega arith) (ne_eqb (get_or text n 0) 0x2F (λ same. w.if-byte-eq47.false (ap (λ t. get_or t n 0) c.as_bytes-byte-items.ensures.value ∙ same))) w.first-is (c.loop-end.invariant rules name all_is own_is)
    ]

pub returns : goal.returns
returns c = λ rules name all_is own_is. c.lesser.ensures ∙ ap (lesser c.loop-end.first) c.first_here-2.ensures ∙ at_end rules name c.args.everyone.now c.args.own all_is own_is c.args.place.now c.loop-end.end c.loop-end.first c.requires (omega arith) (c.loop-end.invariant rules name all_is own_is)
