use Rattle.std.proofs.Common.{◌++◌, length, take, drop, sym, ap, ◌∙◌}
use Rattle.std.proofs.Math.Seq.{take-append_seam}
use Rattle.repo_machine.proofs.frame.Frame.into_bytes.Goals as goal

pub returns : goal.returns
returns c =
    let start = c.self.inside.start in
    let items = c.self.inside.bytes.items in
    let front = take start items in
    let back = drop start items in
    c.truncate.ensures.items
    ∙ ap (take c.len-count.result) c.rotate_left.ensures.items
    ∙ ap (λ n. take n (back ++ front)) (c.len-count.ensures ∙ ap length (sym c.self.view_is))
    ∙ take-append_seam back front
    ∙ c.self.view_is
