use Rattle.std.proofs.Common.{refl}
use Rattle.std.specs.Prelude.{option_map}
use Rattle.changeset_model.specs.Changeset.{id_of}
use Rattle.derive_step.specs.Views.{held_in}
use Rattle.derive_step.proofs.Given.{same_given, same_done}
use Rattle.derive_step.proofs.deletions.put_deleted.Goals as goal

pub returns-clause-made : goal.returns-clause-made
returns-clause-made c = λ k p q given.
    let d = c.args.deletions.now in
    let is_gone = c.deref.ensures.value in
    let is_come = c.deref-2.ensures.value in
    let all = same_given k p q d.gone.items d.come.items c.deref.result.now c.deref-2.result.now is_gone is_come (held_in d.nodes) (option_map (λ r. r.deleted) c.args.roots.now) c.deleted_root-top.result (id_of c.args.commit.now) c.id.result given c.id.ensures c.deleted_root-top.ensures in
    record {
      new = c.in_ok-done.done;
      of = same_done k p q d.gone.items d.come.items c.deref.result.now c.deref-2.result.now is_gone is_come c.in_ok-done.done (c.in_ok-done.ensures.done k p q all);
      top = refl;
      nodes = c.in_ok-append.ensures.items;
    }
