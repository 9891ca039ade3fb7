use Rattle.std.proofs.Common.{None, Some, ap, ◌∙◌, arith}
use Rattle.std.proofs.Math.Bridge.{le_prop}
use Rattle.std.proofs.Math.Logic.{∥∥₁_elim}
use Rattle.std.specs.Coded.{Coded-set, coded_bool, coded_option, coded_ℕ}
use Rattle.node_table.specs.Table.{is_settled}
use Rattle.manifest_store.specs.PathLines.{has_file_at, last_logged_at}
use Rattle.manifest_store.proofs.LinkMoves.{ends}
use Rattle.manifest_store.proofs.links.SettledLines.merge_or_link.Goals as goal

pub returns-in-Some-clause-settled : goal.returns-in-Some-clause-settled
returns-in-Some-clause-settled c =
    let lines = c.args.self.now in
    let ks = lines.changesets.now.known in
    let f = c.requires.link in
    ap (is_settled lines.table.now) c.max.ensures
    ∙ ∥∥₁_elim lines.manifests (Coded-set coded_bool _ _) (λ a. (ends ks lines.table.now a f.0 c.args.link c.args.at c.requires.settled f.1 (Some c.in-Some.merge) c.in-Some.ensures.nearest).settled)

pub returns-in-Some-clause-last : goal.returns-in-Some-clause-last
returns-in-Some-clause-last c = λ p is.
    let lines = c.args.self.now in
    let ks = lines.changesets.now.known in
    ap (last_logged_at ks p) c.max.ensures
    ∙ ∥∥₁_elim lines.manifests (Coded-set (coded_option coded_ℕ) _ _) (λ a. (ends ks lines.table.now a p c.args.link c.args.at c.requires.settled is (Some c.in-Some.merge) c.in-Some.ensures.nearest).last)

pub returns-in-None-clause-settled : goal.returns-in-None-clause-settled
returns-in-None-clause-settled c =
    let lines = c.args.self.now in
    let ks = lines.changesets.now.known in
    let f = c.requires.link in
    ∥∥₁_elim lines.manifests (Coded-set coded_bool _ _) (λ a. (ends ks lines.table.now a f.0 c.args.link c.args.at c.requires.settled f.1 None c.in-None.ensures.nearest).settled)

pub returns-in-None-clause-last : goal.returns-in-None-clause-last
returns-in-None-clause-last c = λ p is.
    let lines = c.args.self.now in
    let ks = lines.changesets.now.known in
    ∥∥₁_elim lines.manifests (Coded-set (coded_option coded_ℕ) _ _) (λ a. (ends ks lines.table.now a p c.args.link c.args.at c.requires.settled is None c.in-None.ensures.nearest).last)

pub returns-in-Some-clause-upto : goal.returns-in-Some-clause-upto
returns-in-Some-clause-upto c =
    let lines = c.args.self.now in
    let f = c.requires.link in
    ∥∥₁_elim lines.manifests le_prop (λ a. let upto = (ends lines.changesets.now.known lines.table.now a f.0 c.args.link c.args.at c.requires.settled f.1 (Some c.in-Some.merge) c.in-Some.ensures.nearest).upto in omega arith)

pub returns-in-Some-clause-file : goal.returns-in-Some-clause-file
returns-in-Some-clause-file c = λ p is.
    let lines = c.args.self.now in
    let ks = lines.changesets.now.known in
    ap (has_file_at ks p) c.max.ensures
    ∙ ∥∥₁_elim lines.manifests (Coded-set coded_bool _ _) (λ a. (ends ks lines.table.now a p c.args.link c.args.at c.requires.settled is (Some c.in-Some.merge) c.in-Some.ensures.nearest).file)

pub returns-in-None-clause-upto : goal.returns-in-None-clause-upto
returns-in-None-clause-upto c =
    let lines = c.args.self.now in
    let f = c.requires.link in
    ∥∥₁_elim lines.manifests le_prop (λ a. let upto = (ends lines.changesets.now.known lines.table.now a f.0 c.args.link c.args.at c.requires.settled f.1 None c.in-None.ensures.nearest).upto in omega arith)

pub returns-in-None-clause-file : goal.returns-in-None-clause-file
returns-in-None-clause-file c = λ p is.
    let lines = c.args.self.now in
    let ks = lines.changesets.now.known in
    ∥∥₁_elim lines.manifests (Coded-set coded_bool _ _) (λ a. (ends ks lines.table.now a p c.args.link c.args.at c.requires.settled is None c.in-None.ensures.nearest).file)
