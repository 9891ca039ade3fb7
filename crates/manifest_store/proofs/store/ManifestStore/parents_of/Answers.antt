use Rattle.std.proofs.Common.{◌≡◌, List, refl, sym, subst}
use Rattle.std.specs.Prelude.{Some, None}
use Rattle.bonsai.specs.View.{edits_view}
use Rattle.changeset_model.specs.Path.{Path}
use Rattle.changeset_model.specs.Changeset.{FileChange}
use Rattle.node_table.specs.Table.{Table}
use Rattle.changeset_store.specs.Store.{parent_at, second_parent_at}
use Rattle.derive_step.specs.declared.job.Parents.TheVariants.{Two}
use Rattle.manifest_store.specs.Parents.{AreParentsOf}
use Rattle.manifest_store.proofs.Jobs.{IsGrown, no_parents, one_parent, told_of, two_parents}
use Rattle.manifest_store.proofs.store.ManifestStore.parents_of.Goals as goal

pub returns-in_ok-add_apart-in-Some-Some : goal.returns-in_ok-add_apart-in-Some-Some
returns-in_ok-add_apart-in-Some-Some c =
    let ks = c.args.changesets.now.known in
    let n = c.args.number in
    let es : List (Path × FileChange) = edits_view c.args.edits.now in
    let t : Table = c.self.inside.table in
    let view : c.args.self.now ≡ t = sym c.self.view_is in
    let first = told_of t es c.parent.result (parent_at ks n) c.args.self.now c.in_ok-first.first (Some c.in-Some-Some.first) c.in_ok-first.ensures.of c.parent.ensures.parent view c.in-Some-Some.is-0 in
    let second = told_of t es c.second_parent.result (second_parent_at ks n) c.args.self.now c.in_ok-second.second (Some c.in-Some-Some.second) c.in_ok-second.ensures.of c.second_parent.ensures.parent view c.in-Some-Some.is-1 in
    let added = c.in_ok-add_apart-in-Some-Some.ensures in
    let one : IsGrown t.nodes c.in-Some-Some.first c.add_apart.new.first = record { roots = added.first_root.0; root = added.first_root.1; dirs = added.first_dirs; more = added.first_more } in
    let two : IsGrown t.nodes c.in-Some-Some.second c.add_apart.new.second = record { roots = added.second_root.0; root = added.second_root.1; dirs = added.second_dirs; more = added.second_more } in
    subst (λ (t : Table). AreParentsOf ks t n es (Two c.add_apart.new.first c.add_apart.new.second)) c.self.view_is
    (two_parents t es ks n c.in-Some-Some.first c.in-Some-Some.second c.add_apart.new.first c.add_apart.new.second first second one two added.gathered)

pub returns-in-Some-None : goal.returns-in-Some-None
returns-in-Some-None c =
    let ks = c.args.changesets.now.known in
    let n = c.args.number in
    let es : List (Path × FileChange) = edits_view c.args.edits.now in
    let t : Table = c.args.self.now in
    one_parent t es ks n c.in-Some-None.first
    (told_of t es c.parent.result (parent_at ks n) t c.in_ok-first.first (Some c.in-Some-None.first) c.in_ok-first.ensures.of c.parent.ensures.parent refl c.in-Some-None.is-0)
    (told_of t es c.second_parent.result (second_parent_at ks n) t c.in_ok-second.second None c.in_ok-second.ensures.of c.second_parent.ensures.parent refl c.in-Some-None.is-1)

pub returns-in-None-default : goal.returns-in-None-default
returns-in-None-default c =
    let ks = c.args.changesets.now.known in
    let n = c.args.number in
    let es : List (Path × FileChange) = edits_view c.args.edits.now in
    let t : Table = c.args.self.now in
    no_parents ks t c.requires.manifests n c.requires.known c.requires.ready es
    (told_of t es c.parent.result (parent_at ks n) t c.in_ok-first.first None c.in_ok-first.ensures.of c.parent.ensures.parent refl c.in-None-default.is-0)
