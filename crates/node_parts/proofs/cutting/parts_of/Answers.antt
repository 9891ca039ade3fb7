use Rattle.std.proofs.Common.{◌≡◌, ◌+◌, ◌∙◌, List, [], ◌∷◌, ◌++◌, ap, sym, subst, arith}
use Rattle.std.specs.Prelude.{None, Some}
use Rattle.std.specs.Option.{option_copied}
use Rattle.node_parts.proofs.Cut.{HasCut, cut_first, cut_on}
use Rattle.node_parts.proofs.Runs.{Bytes}
use Rattle.node_parts.proofs.cutting.parts_of.Goals as goal

pub parts-init : goal.parts-init
parts-init g c = subst (λ ps. HasCut g.E.Entry.reader c.args.bytes.now c.args.count ps None c.args.bytes.now c.args.count) (sym c.new-parts.ensures.items) (cut_first g.E.Entry.reader c.args.bytes.now c.args.count)

pub parts-preserved : goal.parts-preserved
parts-preserved g c =
    let had = c.parts in
    let run = c.in-Some.run' in
    let fewer = c.in-Some-checked_sub in
    let less : fewer.fewer + run.entries ≡ had.remaining = (let le = fewer.ensures.0 in let is = fewer.ensures.1 in omega arith) in
    let grown : c.push.new.self.items ≡ had.parts.items ++ run.part.now ∷ [] = c.in_ok-push.ensures.items ∙ ap (λ (p : Bytes). had.parts.items ++ p ∷ []) c.in_ok-part.ensures in
    subst (λ (ps : List Bytes). HasCut g.E.Entry.reader c.args.bytes.now c.args.count ps (Some run.last.now) run.rest.now fewer.fewer) (sym grown)
    (cut_on g.E.Entry.reader c.args.bytes.now c.args.count had.parts.items (option_copied had.last) had.left.now had.remaining had.invariant run.part.now run.entries run.last.now run.rest.now c.in-Some.ensures fewer.fewer less)
