use Rattle.std.proofs.Common.{false, ◌∙◌, inl, sym, ap, subst}
use Rattle.std.specs.Option.{option_map_or}
use Rattle.node_table.specs.Table.{is_settled}
use Rattle.manifest_store.specs.Jobs.{IsNext}
use Rattle.settled_merge.proofs.Deriving.{done_known, done_right, done_ready, fewer_missing, itself, stay_settled}
use Rattle.settled_merge.proofs.derive.derive_past.Goals as goal

pub settle-requires-clause-known : goal.settle-requires-clause-known
settle-requires-clause-known c =
    let ks = c.args.changesets.now.known in
    let next = subst (IsNext ks c.loop-job.manifests c.in-Some.number) c.in-Some-2.is c.in_ok-job.ensures in
    done_known ks c.loop-job.manifests c.in-Some.number c.in-Some-2.job next c.in-Ok.done c.in-Ok.ensures.past

pub settle-requires-clause-derived : goal.settle-requires-clause-derived
settle-requires-clause-derived c =
    let ks = c.args.changesets.now.known in
    let next = subst (IsNext ks c.loop-job.manifests c.in-Some.number) c.in-Some-2.is c.in_ok-job.ensures in
    done_right ks c.loop-job.manifests c.in-Some.number c.in-Some-2.job next c.in-Ok.done c.in-Ok.ensures.past

pub loop-job-smaller : goal.loop-job-smaller
loop-job-smaller c =
    let ks = c.args.changesets.now.known in
    let next = subst (IsNext ks c.loop-job.manifests c.in-Some.number) c.in-Some-2.is c.in_ok-job.ensures in
    let ready = done_ready ks c.loop-job.manifests c.in-Some.number c.in-Some-2.job next c.in-Ok.done c.in-Ok.ensures.past in
    fewer_missing ks c.loop-job.manifests c.settle.new.self c.in-Some.number c.in-Some-2.job next c.in-Ok.done c.in-Ok.ensures.past c.in-Ok-settle.ensures.ok (c.in-Ok-settle.ensures.settled ready)

pub loop-job-preserved : goal.loop-job-preserved
loop-job-preserved c = record {
  manifests = c.settle.ensures.manifests;
  stay = λ n h. stay_settled c.args.changesets.now.known c.loop-job.manifests c.settle.new.self c.in-Ok.done c.in-Ok-settle.ensures.ok n (c.loop-job.invariant.stay n h);
}

pub returns-clause-settled : goal.returns-clause-settled
returns-clause-settled c = λ known.
    (let ks = c.args.changesets.now.known in
    let none = subst (IsNext ks c.loop-job.manifests c.in-Some.number) c.in_default-2.is c.in_ok-job.ensures in
    inl (ap (λ o. option_map_or (is_settled c.loop-job.manifests) o false) (sym c.in-Some.ensures.number) ∙ none c.in-Some.number (itself ks c.in-Some.number c.in-Some.ensures.in_range)))
