use Rattle.std.proofs.Common.{◌≡◌, ℕ, List, [], ◌∷◌, refl, ap, sym, ◌∙◌}
use Rattle.std.specs.Prelude.{option_map}
use Rattle.std.specs.List.{list_any}
use Rattle.std.specs.Map.{lookup}
use Rattle.std.specs.BTreeMap.{get, is_at}
use Rattle.bonsai.specs.View.{edits_view}
use Rattle.changeset_model.specs.Changeset.{id_of}
use Rattle.changeset_model.specs.Path.{Path, path_cmp}
use Rattle.history_model.specs.Past.{Begin, past_on}
use Rattle.derive_step.specs.Touched.{is_above}
use Rattle.derive_step.specs.Views.{before_seen, first_of, nodes_before, roots_before, second_of}
use Rattle.derive_step.specs.Renewal.{AreTouched}
use Rattle.derive_step.proofs.Derived.{are_before, are_touched, deleted_given, done_of, is_due, under_root_made}
use Rattle.deleted_step.specs.declared.fault.StepFault.TheVariants.{NoNode}
use Rattle.derive_step.proofs.Given.{err_again}
use Rattle.derive_step.proofs.Lines.{done_on, job_at}
use Rattle.derive_step.proofs.derivation.derive.Goals as goal

pub returns-in-Err-clause-past_memory : goal.returns-in-Err-clause-past_memory
returns-in-Err-clause-past_memory c = λ k p q of.
    let job = c.args.job in
    let first = c.roots_of-first_roots.ensures ∙ ap roots_before c.first_and_second-first.ensures.first in
    c.in-Err.ensures.memory k p q
    (deleted_given k p q job of (id_of c.deref-4.result.now) (option_map (λ r. r.deleted) c.roots_of-first_roots.result) (ap id_of (c.deref-4.ensures ∙ of.changeset) ∙ sym of.id) (ap (option_map (λ r. r.deleted)) first))

pub returns-in-Err-clause-memory : goal.returns-in-Err-clause-memory
returns-in-Err-clause-memory c = λ k older of. returns-in-Err-clause-past_memory c k (past_on older) Begin (job_at k older c.args.job of)

pub returns-in-Err-clause-no_node : goal.returns-in-Err-clause-no_node
returns-in-Err-clause-no_node c = λ id is. c.in-Err.ensures.no_node id (err_again c.in-Err.fault (NoNode id) is)

pub returns-clause-past : goal.returns-clause-past
returns-clause-past c = λ k p q of.
    let job = c.args.job in
    let dirs = c.add_differing.new.dirs in
    let had = c.in_ok-nodes.nodes.items in
    let mid = c.renew_dirs.new.nodes.items in
    let put = c.renew_root.new.nodes.items in
    let made = c.renew_dirs.new.made in
    let one = c.first_and_second-first.ensures.first in
    let two = c.first_and_second-first.ensures.second in
    let first = c.roots_of-first_roots.ensures ∙ ap roots_before one in
    let second = c.roots_of-second_roots.ensures ∙ ap roots_before two in
    let left = c.dirs_of-first_root.ensures in
    let right = c.dirs_of-second_root.ensures in
    let left_dirs : (n : List ℕ) (d : Path) → option_map before_seen (get path_cmp c.dirs_of-first_root.result.1 (n ∷ d)) ≡ nodes_before (first_of job.parents) (n ∷ d) = λ n d. left.dirs n d ∙ ap (λ x. nodes_before x (n ∷ d)) one in
    let right_dirs : (n : List ℕ) (d : Path) → option_map before_seen (get path_cmp c.dirs_of-second_root.result.1 (n ∷ d)) ≡ nodes_before (second_of job.parents) (n ∷ d) = λ n d. right.dirs n d ∙ ap (λ x. nodes_before x (n ∷ d)) two in
    let are_edits : edits_view c.edits.result.now ≡ k.changeset.changes = c.edits.ensures.edits ∙ ap (λ x. x.changes) (c.changeset.ensures ∙ c.deref.ensures ∙ of.changeset) in
    let touched : AreTouched k p q dirs = are_touched k p q job of dirs c.in_ok-touched.touched c.dirs_of-first_root.result.1 c.dirs_of-second_root.result.1 left_dirs right_dirs (λ x. c.in_ok-touched.ensures x ∙ ap (λ es. list_any (λ e. is_above x e.0) es) are_edits) c.in_ok-add_differing.ensures in
    let renewed = c.in_ok-renew_dirs.ensures k p q (is_due k p q job of c.deref-2.result.now c.deref-2.ensures) (are_before k p q job of p _ c.dirs_of-first_root.result.1 left_dirs of.first_nodes) (are_before k p q job of q _ c.dirs_of-second_root.result.1 right_dirs of.second_nodes) touched (λ x. ap (lookup (is_at (path_cmp x))) c.new-made.ensures.empty) in
    let root = c.in_ok-ids.ensures k p q (is_due k p q job of c.deref-3.result.now c.deref-3.ensures) (left.root ∙ ap (λ x. nodes_before x []) one ∙ of.first_nodes [] refl) (right.root ∙ ap (λ x. nodes_before x []) two ∙ of.second_nodes [] refl) (under_root_made k p q job of dirs touched made had mid renewed) in
    let gone = c.in-Ok.ensures.made k p q
    (deleted_given k p q job of (id_of c.deref-4.result.now) (option_map (λ r. r.deleted) c.roots_of-first_roots.result) (ap id_of (c.deref-4.ensures ∙ of.changeset) ∙ sym of.id) (ap (option_map (λ r. r.deleted)) first)) in
    let ids = c.in_ok-ids.ids in
    done_of k p q job of dirs touched (record { number = job.number; first = c.roots_of-first_roots.result; second = c.roots_of-second_roots.result; roots = c.roots_with-roots.result; nodes = c.put_deleted.new.nodes }) made had mid put ids gone.new c.len.ensures.ordered refl first second c.in_ok-nodes.ensures.items renewed root.0 root.1
    gone.of (c.roots_with-roots.ensures ∙ ap (λ x. record { fsnode = ids.fsnode; unode = ids.unode; deleted = x }) gone.top) gone.nodes

pub returns-clause-done : goal.returns-clause-done
returns-clause-done c = λ k older of. done_on k older c.args.job _ (returns-clause-past c k (past_on older) Begin (job_at k older c.args.job of))
