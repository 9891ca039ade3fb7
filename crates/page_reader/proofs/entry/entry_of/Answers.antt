use Rattle.std.proofs.Common.{codes, sym, ap, ◌∙◌}
use mathlib.Core.Bool.{true≢false}
use Rattle.serde_json.specs.Find.{get}
use Rattle.serde_json.specs.View.{view}
use Rattle.repo_calls.specs.Calls.{line_seen}
use Rattle.page_reader.proofs.Landings.{kind_of, kind_at, content_found, whole_found, changeset_found, bookmark_found, landing_found, policy_found, of_some_kind}
use Rattle.page_reader.proofs.entry.entry_of.Goals as goal

pub returns-in_err-kind-clause-found : goal.returns-in_err-kind-clause-found
returns-in_err-kind-clause-found c = λ n line told same. absurd (c.in_err-kind.ensures (kind_of line) (ap (get (codes "kind")) same ∙ kind_at n line))

pub returns-then-is_word-clause-found : goal.returns-then-is_word-clause-found
returns-then-is_word-clause-found c = λ n line told same.
    let kind = c.in_ok-kind.ensures (kind_of line) (ap (get (codes "kind")) same ∙ kind_at n line) in
    content_found c.content_of.result line_seen n line (view c.args.value.now) told (sym kind ∙ c.is_word.ensures.0 c.if-is_word.true) same c.content_of.ensures.found

pub returns-then-is_word-2-clause-found : goal.returns-then-is_word-2-clause-found
returns-then-is_word-2-clause-found c = λ n line told same.
    let kind = c.in_ok-kind.ensures (kind_of line) (ap (get (codes "kind")) same ∙ kind_at n line) in
    whole_found c.whole_of.result line_seen n line (view c.args.value.now) told (sym kind ∙ c.is_word-else-is_word.ensures.0 c.if-is_word-2.true) same c.whole_of.ensures.found

pub returns-then-is_word-3-clause-found : goal.returns-then-is_word-3-clause-found
returns-then-is_word-3-clause-found c = λ n line told same.
    let kind = c.in_ok-kind.ensures (kind_of line) (ap (get (codes "kind")) same ∙ kind_at n line) in
    changeset_found c.changeset_of.result line_seen n line (view c.args.value.now) told (sym kind ∙ c.is_word-else-is_word-2.ensures.0 c.if-is_word-3.true) same c.changeset_of.ensures.found

pub returns-then-is_word-4-clause-found : goal.returns-then-is_word-4-clause-found
returns-then-is_word-4-clause-found c = λ n line told same.
    let kind = c.in_ok-kind.ensures (kind_of line) (ap (get (codes "kind")) same ∙ kind_at n line) in
    bookmark_found c.bookmark_of.result line_seen n line (view c.args.value.now) told (sym kind ∙ c.is_word-else-is_word-3.ensures.0 c.if-is_word-4.true) same c.bookmark_of.ensures.found

pub returns-then-is_word-5-clause-found : goal.returns-then-is_word-5-clause-found
returns-then-is_word-5-clause-found c = λ n line told same.
    let kind = c.in_ok-kind.ensures (kind_of line) (ap (get (codes "kind")) same ∙ kind_at n line) in
    landing_found c.landing_of.result line_seen n line (view c.args.value.now) told (sym kind ∙ c.is_word-else-is_word-4.ensures.0 c.if-is_word-5.true) same c.landing_of.ensures.found

pub returns-then-is_word-6-clause-found : goal.returns-then-is_word-6-clause-found
returns-then-is_word-6-clause-found c = λ n line told same.
    let kind = c.in_ok-kind.ensures (kind_of line) (ap (get (codes "kind")) same ∙ kind_at n line) in
    policy_found c.policy_of.result line_seen n line (view c.args.value.now) told (sym kind ∙ c.is_word-else-is_word-5.ensures.0 c.if-is_word-6.true) same c.policy_of.ensures.found

pub returns-else-is_word-6-clause-found : goal.returns-else-is_word-6-clause-found
returns-else-is_word-6-clause-found c = λ n line told same.
    let kind = c.in_ok-kind.ensures (kind_of line) (ap (get (codes "kind")) same ∙ kind_at n line) in
    absurd (of_some_kind line (λ e. true≢false (sym (c.is_word.ensures.1 (kind ∙ e)) ∙ c.if-is_word.false)) (λ e. true≢false (sym (c.is_word-else-is_word.ensures.1 (kind ∙ e)) ∙ c.if-is_word-2.false)) (λ e. true≢false (sym (c.is_word-else-is_word-2.ensures.1 (kind ∙ e)) ∙ c.if-is_word-3.false)) (λ e. true≢false (sym (c.is_word-else-is_word-3.ensures.1 (kind ∙ e)) ∙ c.if-is_word-4.false)) (λ e. true≢false (sym (c.is_word-else-is_word-4.ensures.1 (kind ∙ e)) ∙ c.if-is_word-5.false)) (λ e. true≢false (sym (c.is_word-else-is_word-5.ensures.1 (kind ∙ e)) ∙ c.if-is_word-6.false)))
