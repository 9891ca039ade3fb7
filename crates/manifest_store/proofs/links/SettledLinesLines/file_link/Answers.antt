use Rattle.std.proofs.Common.{◌≡◌, ℕ, Option, true, cond, None, sym, ap, subst, ◌∙◌}
use Rattle.std.specs.Prelude.{IfSome}
use Rattle.std.specs.Option.{option_and_then}
use Rattle.std.proofs.Math.Logic.{∥∥₁_elim}
use Rattle.std.specs.Coded.{Coded-set, coded_option, coded_ℕ}
use Rattle.node_table.specs.Table.{is_settled}
use Rattle.manifest_store.specs.PathLines.{has_file_at, last_logged_at}
use Rattle.manifest_store.proofs.LinkMoves.{ends_settled, ends_file, told_next}
use Rattle.manifest_store.proofs.links.SettledLinesLines.file_link.Goals as goal

pub ends-preserved-in-Some-parent : goal.ends-preserved-in-Some-parent
ends-preserved-in-Some-parent c =
    let lines = c.args.self.now in
    let ks = lines.changesets.now.known in
    let t = lines.table.now in
    let p = c.args.path.now in
    let n = c.in-Some.end in
    let total : Option ℕ = cond (has_file_at ks p c.args.at) (last_logged_at ks p c.args.at) None in
    let settled = subst (λ o. IfSome o (λ n. is_settled t n ≡ true)) c.in-Some.is c.ends.invariant.settled in
    let file = subst (λ o. IfSome o (λ n. has_file_at ks p n ≡ true)) c.in-Some.is c.ends.invariant.file in
    let so_far : last_logged_at ks p n ≡ total = ap (option_and_then (last_logged_at ks p)) (sym c.in-Some.is) ∙ c.ends.invariant.told in
    let next = c.maker_or_merge-next-in-Some-parent in
    record {
      told = ∥∥₁_elim lines.manifests (Coded-set (coded_option coded_ℕ) _ _) (λ a. told_next ks t a p n settled file (sym c.is_logged.ensures ∙ c.if-is_logged.false) total so_far c.in-Some-parent.parent c.in-Some-parent.ensures.parent next.result next.ensures.file next.ensures.end);
      settled = ends_settled ks t p c.in-Some-parent.parent next.result next.ensures.end;
      file = ends_file ks t p c.in-Some-parent.parent next.result next.ensures.end;
    }
