use Rattle.std.proofs.Common.{◌++◌, ◌∷◌, cond, ap, sym, ◌∙◌}
use Rattle.std.specs.Prelude.{option_map}
use Rattle.std.specs.FinMap.{find as find_key}
use Rattle.std.specs.Ordering.{eq_by_cmp}
use Rattle.node_fields.specs.Children.{children_seen}
use Rattle.derive_step.specs.Merge.{entry_in}
use Rattle.derive_step.proofs.Entries.{by_name}
use Rattle.derive_step.proofs.Merged.{found_none, found_with, with_entry}
use Rattle.derive_step.proofs.merge.put.Goals as goal

pub returns-in_ok-push_front-clause-merge : goal.returns-in_ok-push_front-clause-merge
returns-in_ok-push_front-clause-merge g c =
    let seen = g.K.Kind.seen in
    let xs = children_seen seen c.args.entries.now.done.items in
    let ys = children_seen seen c.args.entries.now.left.items in
    let name = c.in_ok-name.ensures in
    with_entry g.K.Kind.is_kept c.args.name.now (seen c.in-Some.entry) xs xs ys (children_seen seen c.push_front.new.self.items)
    (ap (children_seen seen) c.in_ok-push_front.ensures.items ∙ ap (λ n. (n, seen c.in-Some.entry) ∷ ys) name)
    (λ i. xs) c.requires.before c.requires.after c.requires.merge

pub returns-in_ok-push_front-clause-put : goal.returns-in_ok-push_front-clause-put
returns-in_ok-push_front-clause-put g c = λ q.
    let seen = g.K.Kind.seen in
    let xs = children_seen seen c.args.entries.now.done.items in
    let ys = children_seen seen c.args.entries.now.left.items in
    let n = c.args.name.now in
    let name = c.in_ok-name.ensures in
    ap (λ zs. find_key by_name q (xs ++ zs)) (ap (children_seen seen) c.in_ok-push_front.ensures.items ∙ ap (λ m. (m, seen c.in-Some.entry) ∷ ys) name)
    ∙ found_with n q (seen c.in-Some.entry) xs ys c.requires.before
    ∙ ap (λ o. cond (eq_by_cmp by_name n q) (option_map seen o) (entry_in seen c.args.entries.now q)) (sym c.in-Some.is)

pub returns-in_default-clause-put : goal.returns-in_default-clause-put
returns-in_default-clause-put g c = λ q.
    let seen = g.K.Kind.seen in
    let n = c.args.name.now in
    found_none n q (children_seen seen c.args.entries.now.done.items) (children_seen seen c.args.entries.now.left.items) c.requires.before c.requires.after
    ∙ ap (λ o. cond (eq_by_cmp by_name n q) (option_map seen o) (entry_in seen c.args.entries.now q)) (sym c.in_default.is)
