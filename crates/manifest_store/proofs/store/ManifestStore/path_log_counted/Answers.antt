use Rattle.std.proofs.Common.{◌≡◌, ℕ, true, ◌+◌, ◌*◌, ◌≤◌, ◌==◌, map, sym, ap, subst, ◌∙◌}
use Rattle.changeset_model.specs.Changeset.{id_of}
use Rattle.node_table.specs.Table.{Table, is_settled}
use Rattle.changeset_store.specs.Store.{changeset_at}
use Rattle.manifest_store.specs.Manifests.{AreManifests}
use Rattle.manifest_store.proofs.LogLinks.{are_known_numbers, as_many, earlier, log_missing, log_read}
use Rattle.manifest_store.proofs.store.ManifestStore.path_log_counted.Goals as goal

pub invariant_of-lines : goal.invariant_of-lines
invariant_of-lines g c =
    let ks = c.args.changesets.now.known in
    let a : AreManifests ks c.self.inside.table = subst (AreManifests ks) (sym c.self.view_is) c.requires.manifests in
    record { manifests = ∣ a ∣₁; earlier = earlier ks c.self.inside.table a }

pub returns-in_err-numbers-clause-cost : goal.returns-in_err-numbers-clause-cost
returns-in_err-numbers-clause-cost g c =
    let ks = c.args.changesets.now.known in
    let a : AreManifests ks c.self.inside.table = subst (AreManifests ks) (sym c.self.view_is) c.requires.manifests in
    let settled : is_settled c.self.inside.table c.args.number ≡ true = ap (λ (t : Table). is_settled t c.args.number) c.self.view_is ∙ c.requires.settled in
    subst (λ (k : ℕ). c.walk.new.steps ≤ c.args.steps.now + 2 * k + 2) (as_many ks c.self.inside.table a c.args.number settled c.args.path.now) c.walk.ensures.cost

pub returns-then-is_empty-clause-absent : goal.returns-then-is_empty-clause-absent
returns-then-is_empty-clause-absent g c =
    let ks = c.args.changesets.now.known in
    let a : AreManifests ks c.self.inside.table = subst (AreManifests ks) (sym c.self.view_is) c.requires.manifests in
    let settled : is_settled c.self.inside.table c.args.number ≡ true = ap (λ (t : Table). is_settled t c.args.number) c.self.view_is ∙ c.requires.settled in
    log_missing ks c.self.inside.table a c.args.number settled c.args.path.now c.in_ok-numbers.numbers.items c.in_ok-numbers.ensures.log
    (sym (c.is_empty.ensures ∙ ap (λ (k : ℕ). k == 0) c.in_ok-numbers.numbers.ok.0) ∙ c.if-is_empty.true)

pub returns-then-is_empty-clause-cost : goal.returns-then-is_empty-clause-cost
returns-then-is_empty-clause-cost g c =
    let ks = c.args.changesets.now.known in
    let a : AreManifests ks c.self.inside.table = subst (AreManifests ks) (sym c.self.view_is) c.requires.manifests in
    let settled : is_settled c.self.inside.table c.args.number ≡ true = ap (λ (t : Table). is_settled t c.args.number) c.self.view_is ∙ c.requires.settled in
    subst (λ (k : ℕ). c.walk.new.steps ≤ c.args.steps.now + 2 * k + 2) (as_many ks c.self.inside.table a c.args.number settled c.args.path.now) c.walk.ensures.cost

pub ids_at-requires : goal.ids_at-requires
ids_at-requires g c =
    let ks = c.args.changesets.now.known in
    let a : AreManifests ks c.self.inside.table = subst (AreManifests ks) (sym c.self.view_is) c.requires.manifests in
    let settled : is_settled c.self.inside.table c.args.number ≡ true = ap (λ (t : Table). is_settled t c.args.number) c.self.view_is ∙ c.requires.settled in
    are_known_numbers ks c.self.inside.table a c.args.number settled c.args.path.now c.deref.result.now (c.deref.ensures.value ∙ c.in_ok-numbers.ensures.log)

pub returns-in_err-ids_at-clause-cost : goal.returns-in_err-ids_at-clause-cost
returns-in_err-ids_at-clause-cost g c =
    let ks = c.args.changesets.now.known in
    let a : AreManifests ks c.self.inside.table = subst (AreManifests ks) (sym c.self.view_is) c.requires.manifests in
    let settled : is_settled c.self.inside.table c.args.number ≡ true = ap (λ (t : Table). is_settled t c.args.number) c.self.view_is ∙ c.requires.settled in
    subst (λ (k : ℕ). c.walk.new.steps ≤ c.args.steps.now + 2 * k + 2) (as_many ks c.self.inside.table a c.args.number settled c.args.path.now) c.walk.ensures.cost

pub returns-clause-cost : goal.returns-clause-cost
returns-clause-cost g c =
    let ks = c.args.changesets.now.known in
    let a : AreManifests ks c.self.inside.table = subst (AreManifests ks) (sym c.self.view_is) c.requires.manifests in
    let settled : is_settled c.self.inside.table c.args.number ≡ true = ap (λ (t : Table). is_settled t c.args.number) c.self.view_is ∙ c.requires.settled in
    subst (λ (k : ℕ). c.walk.new.steps ≤ c.args.steps.now + 2 * k + 2) (as_many ks c.self.inside.table a c.args.number settled c.args.path.now) c.walk.ensures.cost

pub returns-clause-ids : goal.returns-clause-ids
returns-clause-ids g c =
    let ks = c.args.changesets.now.known in
    let a : AreManifests ks c.self.inside.table = subst (AreManifests ks) (sym c.self.view_is) c.requires.manifests in
    let settled : is_settled c.self.inside.table c.args.number ≡ true = ap (λ (t : Table). is_settled t c.args.number) c.self.view_is ∙ c.requires.settled in
    log_read ks c.self.inside.table a c.args.number settled c.args.path.now c.in_ok-numbers.numbers.items c.in_ok-numbers.ensures.log
    (sym (c.is_empty.ensures ∙ ap (λ (k : ℕ). k == 0) c.in_ok-numbers.numbers.ok.0) ∙ c.if-is_empty.false)
    c.in_ok-ids_at.field-0.items (c.in_ok-ids_at.ensures ∙ ap (map (λ n. id_of (changeset_at ks n))) c.deref.ensures.value)
