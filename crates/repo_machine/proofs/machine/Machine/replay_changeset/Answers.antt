use Rattle.std.proofs.Common.{◌≡◌, true, refl, subst, arith}
use Rattle.std.specs.Arc.{arc_value}
use Rattle.byte_fields.specs.Bytes.{are_bytes}
use Rattle.changeset_model.specs.Changeset.{id_of, spelling}
use Rattle.history_model.specs.History.{Change}
use Rattle.reply_model.specs.Reply.{PutChangeset, ChangesetPut}
use Rattle.repo_machine.proofs.Judging.{are_bytes-from}
use Rattle.repo_machine.proofs.Granting.{all_prevented}
use Rattle.repo_machine.proofs.Replayed.{can_make, decides_nothing, decides_made, of_shared, replays_nothing, replays_made}
use Rattle.repo_machine.proofs.machine.Machine.replay_changeset.Goals as goal

pub returns-then-known-clause-ok : goal.returns-then-known-clause-ok
returns-then-known-clause-ok c =
    let are = subst (λ b. are_bytes b ≡ true) c.requires.spelled (are_bytes-from c.args.bytes.now (λ i. omega (arith, c.type_inv.bytes i))) in
    replays_nothing c.args.self.now.header c.args.self.now.history c.args.who (PutChangeset (spelling c.args.commit)) are (ChangesetPut (id_of c.args.commit)) (decides_nothing c.in_ok-known.known c.in_ok-known.ensures.ok c.if-known.true) _ refl

pub enter_replayed-requires-clause-can : goal.enter_replayed-requires-clause-can
enter_replayed-requires-clause-can c =
    let header = c.args.self.now.header in
    let h = c.args.self.now.history in
    let d = of_shared header h c.args.commit (arc_value c.in_ok-shared.shared) c.in_ok-known.known c.in_ok-shared.ensures.ok c.in_ok-known.ensures.ok in
    let are = subst (λ b. are_bytes b ≡ true) c.requires.spelled (are_bytes-from c.args.bytes.now (λ i. omega (arith, c.type_inv.bytes i))) in
    can_make header h c.args.who (PutChangeset (spelling c.args.commit)) are (ChangesetPut (id_of c.args.commit)) (Change (arc_value c.in_ok-shared.shared)) (decides_made c.in_ok-known.known d c.if-known.false)

pub enter_replayed-requires-clause-new : goal.enter_replayed-requires-clause-new
enter_replayed-requires-clause-new c =
    let header = c.args.self.now.header in
    let h = c.args.self.now.history in
    let d = of_shared header h c.args.commit (arc_value c.in_ok-shared.shared) c.in_ok-known.known c.in_ok-shared.ensures.ok c.in_ok-known.ensures.ok in
    d.new c.if-known.false

pub returns-clause-ok : goal.returns-clause-ok
returns-clause-ok c =
    let header = c.args.self.now.header in
    let h = c.args.self.now.history in
    let d = of_shared header h c.args.commit (arc_value c.in_ok-shared.shared) c.in_ok-known.known c.in_ok-shared.ensures.ok c.in_ok-known.ensures.ok in
    let are = subst (λ b. are_bytes b ≡ true) c.requires.spelled (are_bytes-from c.args.bytes.now (λ i. omega (arith, c.type_inv.bytes i))) in
    replays_made header h c.args.who (PutChangeset (spelling c.args.commit)) are (ChangesetPut (id_of c.args.commit)) (Change (arc_value c.in_ok-shared.shared)) (decides_made c.in_ok-known.known d c.if-known.false)
    c.enter_replayed.result c.enter_replayed.new.self.history c.enter_replayed.ensures.told c.enter_replayed.ensures.fits c.enter_replayed.ensures.grows

pub returns-clause-err : goal.returns-clause-err
returns-clause-err c =
    let header = c.args.self.now.header in
    let h = c.args.self.now.history in
    let d = of_shared header h c.args.commit (arc_value c.in_ok-shared.shared) c.in_ok-known.known c.in_ok-shared.ensures.ok c.in_ok-known.ensures.ok in
    all_prevented c.enter_replayed.result header h (PutChangeset (spelling c.args.commit)) (ChangesetPut (id_of c.args.commit)) (Change (arc_value c.in_ok-shared.shared)) (decides_made c.in_ok-known.known d c.if-known.false) c.enter_replayed.ensures.err
