use Rattle.std.proofs.Common.{◌≡◌, ◌<◌, ◌++◌, ◌∷◌, [], ℕ, List, ap, sym, subst, ◌∙◌, append_assoc, append-nil}
use mathlib.Core.Bool.{true≢false}
use Rattle.std.specs.FinMap.{is_sorted, find as find_key}
use Rattle.node_fields.specs.Children.{children_seen}
use Rattle.derive_step.specs.Places.{dir_of}
use Rattle.derive_step.specs.Merge.{entry_in}
use Rattle.derive_step.specs.Walk.{entry_among, made_in}
use Rattle.derive_step.specs.Join.{joined_by, joined_nodes, made_at, nodes_where}
use Rattle.derive_step.proofs.Entries.{by_name}
use Rattle.derive_step.proofs.Given.{always_ok, if_ok}
use Rattle.derive_step.proofs.JoinedWalk.{AreLater, joined_alone, later_start, none_left_of, one_more, rest_later, rest_nodes, rest_rises}
use Rattle.derive_step.proofs.Merged.{merge_start}
use Rattle.derive_step.proofs.join.joined_to.Goals as goal

pub joining-init : goal.joining-init
joining-init g c =
    let seen = g.K.Kind.seen in
    let start = c.all_left-entries in
    let d = dir_of c.args.dir in
    let all : c.from-left.result.items ≡ c.args.second.items = c.from-left.ensures.0 in
    let same : (n : List ℕ) → entry_in seen start.result n ≡ entry_among seen c.args.first.items n = λ n i. find_key by_name n (children_seen seen (start.ensures.done i) ++ children_seen seen (start.ensures.left i)) in
    record {
      merge = merge_start seen g.K.Kind.is_kept start.result c.args.first.items start.ensures.done start.ensures.left c.requires.first;
      later = subst (λ ds. AreLater (children_seen seen c.from-left.result.items) (children_seen seen ds)) (sym start.ensures.done) (later_start (children_seen seen c.from-left.result.items));
      rising = ap (λ ls. is_sorted by_name (children_seen seen ls)) all ∙ c.requires.second;
      entries = λ n i. joined_by (g.K.Kind.joined c.args.kind.now d n (made_at (made_in g.K.Kind.made c.args.made.now) (d ++ n ∷ []))) (same n i, find_key by_name n (children_seen seen (all i)));
      nodes = λ i. c.args.nodes.now.items ++ joined_nodes (g.K.Kind.own_joined c.args.kind.now d) (λ n. same n i) (children_seen seen (all i));
    }

pub join_child-requires-clause-before : goal.join_child-requires-clause-before
join_child-requires-clause-before g c = (subst (λ ls. AreLater (children_seen g.K.Kind.seen ls) (children_seen g.K.Kind.seen c.joining.entries.done.items)) c.in-Some.ensures.items c.joining.invariant.later).0

pub joining-preserved : goal.joining-preserved
joining-preserved g c =
    let seen = g.K.Kind.seen in
    let d = dir_of c.args.dir in
    let child = c.in-Some.child in
    let rest = children_seen seen c.pop_front.new.self.items in
    let old = c.joining.entries in
    let new = c.join_child.new.entries in
    let told = c.in_ok-join_child.ensures in
    let was = c.joining.invariant in
    let own = g.K.Kind.own_joined c.args.kind.now d in
    let join : (n : List ℕ) → _ = λ n. g.K.Kind.joined c.args.kind.now d n (made_at (made_in g.K.Kind.made c.args.made.now) (d ++ n ∷ [])) in
    let cut = ap (children_seen seen) c.in-Some.ensures.items in
    let rise = ap (is_sorted by_name) (sym cut) ∙ was.rising in
    record {
      merge = told.merge;
      later = rest_later join child.name (seen child.entry) rest rise (entry_in seen old) (entry_in seen new) told.entries (children_seen seen new.done.items) told.before;
      rising = rest_rises join child.name (seen child.entry) rest rise (entry_in seen old) (entry_in seen new) told.entries;
      entries = λ n.
          one_more join child.name (seen child.entry) rest rise (entry_in seen old) (entry_in seen new) told.entries n
          ∙ ap (λ ls. joined_by (join n) (entry_in seen old n, find_key by_name n ls)) (sym cut)
          ∙ was.entries n;
      nodes =
          ap (λ ns. c.join_child.new.nodes.items ++ ns) (rest_nodes join child.name (seen child.entry) rest rise (entry_in seen old) (entry_in seen new) told.entries own)
          ∙ ap (λ ns. ns ++ joined_nodes own (entry_in seen old) rest) told.nodes
          ∙ append_assoc c.joining.nodes.items (nodes_where (own child.name) (entry_in seen old child.name) (seen child.entry)) (joined_nodes own (entry_in seen old) rest)
          ∙ ap (λ ls. c.joining.nodes.items ++ joined_nodes own (entry_in seen old) ls) (sym cut)
          ∙ was.nodes;
    }

pub returns-clause-entries : goal.returns-clause-entries
returns-clause-entries g c =
    let seen = g.K.Kind.seen in
    let d = dir_of c.args.dir in
    let left = c.joining.left in
    let none : left.items ≡ [] = none_left_of left.items (λ some. absurd (true≢false (sym (c.in_default.ensures.variant.1 (subst (λ n. 0 < n) (sym left.ok.0) some))))) in
    let join : (n : List ℕ) → _ = λ n. g.K.Kind.joined c.args.kind.now d n (made_at (made_in g.K.Kind.made c.args.made.now) (d ++ n ∷ [])) in
    if_ok _ _ c.children_of.result (λ children told n.
    told n
    ∙ sym (joined_alone (join n) (entry_in seen c.joining.entries n))
    ∙ sym (ap (λ ls. joined_by (join n) (entry_in seen c.joining.entries n, find_key by_name n (children_seen seen ls))) none)
    ∙ c.joining.invariant.entries n) c.children_of.ensures.entries

pub returns-clause-nodes : goal.returns-clause-nodes
returns-clause-nodes g c =
    let seen = g.K.Kind.seen in
    let d = dir_of c.args.dir in
    let left = c.joining.left in
    let none : left.items ≡ [] = none_left_of left.items (λ some. absurd (true≢false (sym (c.in_default.ensures.variant.1 (subst (λ n. 0 < n) (sym left.ok.0) some))))) in
    let own = g.K.Kind.own_joined c.args.kind.now d in
    let all = sym (append-nil c.joining.nodes.items) ∙ sym (ap (λ ls. c.joining.nodes.items ++ joined_nodes own (entry_in seen c.joining.entries) (children_seen seen ls)) none) ∙ c.joining.invariant.nodes in
    always_ok c.children_of.result all
