use Rattle.std.proofs.Common.{◌≡◌, length, ap, ◌∙◌}
use Rattle.std.specs.Prelude.{count_by}
use Rattle.history_model.specs.History.{known}
use Rattle.repo_machine.specs.Counting.{is_content, is_landing, is_content_entry, is_landing_entry, bookmarks}
use Rattle.repo_machine.specs.Records.{history_of}
use Rattle.repo_machine.proofs.Kept.{contents_counted, landings_counted}
use Rattle.repo_machine.proofs.Heads.{heads_counted}
use Rattle.repo_machine.proofs.machine.Machine.counts.Goals as goal

pub returns : goal.returns
returns c =
    let ks = c.self.inside.changesets.known in
    let es = c.self.inside.entries.items in
    let k = c.self.invariant.1 in
    let h = c.args.self.now.history in
    let same = c.as_slice-entries.ensures.value in
    let contents : c.contents_in.result ≡ count_by (λ e. is_content e.body) h =
    c.contents_in.ensures ∙ ap (count_by is_content_entry) same ∙ contents_counted ks es ∙ ap (λ m. count_by (λ e. is_content e.body) m.history) c.self.view_is in
    let landings : c.landings_in.result ≡ count_by (λ e. is_landing e.body) h =
    c.landings_in.ensures ∙ ap (count_by is_landing_entry) same ∙ landings_counted ks es ∙ ap (λ m. count_by (λ e. is_landing e.body) m.history) c.self.view_is in
    let changesets : c.from.result ≡ length (known h) = c.from.ensures ∙ c.len.ensures.len ∙ ap length k.known_are ∙ ap (λ m. length (known m.history)) c.self.view_is in
    let headed : c.heads_in.result ≡ bookmarks h = c.heads_in.ensures.count ∙ heads_counted c.self.inside.heads c.heads_in.ensures.ordered (history_of ks es) k.heads_are ∙ ap (λ m. bookmarks m.history) c.self.view_is in
    (λ i. record { entries = c.stored_length.ensures i; contents = contents i; changesets = changesets i; bookmarks = headed i; landings = landings i; size = c.size.ensures i })
