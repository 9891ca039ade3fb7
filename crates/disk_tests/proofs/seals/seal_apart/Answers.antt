use Rattle.std.proofs.Common.{◌≡◌, length, drop, Some, ap, ◌∙◌}
use Rattle.std.proofs.lemmas.Result.{on_ok_weaker}
use Rattle.repo_journal.specs.Groups.{grown}
use Rattle.repo_journal.specs.Left.{left_at, length_of, opened}
use Rattle.repo_journal.specs.View.{JournalView}
use Rattle.repo_journal.specs.declared.left.At.TheVariants.{Opened}
use Rattle.disk_tests.proofs.Held.{behind_group}
use Rattle.disk_tests.proofs.seals.seal_apart.Goals as goal

pub open-requires-clause-laid : goal.open-requires-clause-laid
open-requires-clause-laid g c = (
  length c.args.journal.now.pending.bytes,
  ap (λ (j : JournalView). j.left) c.hold.ensures.same ∙ ap (λ (j : JournalView). j.left) c.in_ok-written.ensures.ok,
)

pub close-requires : goal.close-requires
close-requires g c = record {
  opened = (
    length c.args.journal.now.pending.bytes,
    ap (λ (j : JournalView). j.left) c.in_ok-opened.ensures.ok
        ∙ ap (left_at Opened) (ap (λ (j : JournalView). j.left) c.hold.ensures.same ∙ ap (λ (j : JournalView). j.left) c.in_ok-written.ensures.ok),
  );
}

pub returns-clause-waits : goal.returns-clause-waits
returns-clause-waits g c =
    let waited = c.args.journal.now.pending.bytes in
    let frame = c.args.behind.now in
    let left : c.open.new.self.left ≡ Some (opened (length waited)) =
    ap (λ (j : JournalView). j.left) c.in_ok-opened.ensures.ok
    ∙ ap (left_at Opened) (ap (λ (j : JournalView). j.left) c.hold.ensures.same ∙ ap (λ (j : JournalView). j.left) c.in_ok-written.ensures.ok) in
    let held : c.open.new.self.pending.bytes ≡ grown waited frame =
    ap (λ (j : JournalView). j.pending.bytes) c.in_ok-opened.ensures.ok
    ∙ c.hold.ensures.bytes
    ∙ ap (λ (j : JournalView). grown j.pending.bytes frame) c.in_ok-written.ensures.ok in
    on_ok_weaker c.close.result
    (λ behind _. behind ∙ (λ i. drop (length_of (left i)) (held i)) ∙ behind_group waited frame c.requires.group c.requires.framed)
    c.close.ensures.behind
