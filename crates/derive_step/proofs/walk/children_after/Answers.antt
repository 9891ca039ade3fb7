use Rattle.std.proofs.Common.{◌≡◌, ◌++◌, ◌∷◌, ℕ, List, [], ap, ◌∙◌}
use Rattle.std.specs.FinMap.{find as find_key}
use Rattle.bonsai.specs.View.{edits_view}
use Rattle.node_fields.specs.Children.{children_seen}
use Rattle.derive_step.specs.Places.{dir_of}
use Rattle.derive_step.specs.Join.{joined_by, joined_nodes, made_at}
use Rattle.derive_step.specs.Merge.{entries_in}
use Rattle.derive_step.specs.Walk.{Sides, after, all_nodes, entries_among, made_in}
use Rattle.derive_step.proofs.Entries.{by_name}
use Rattle.derive_step.proofs.Given.{if_ok, on_ok}
use Rattle.derive_step.proofs.Merged.{ahead_start, merge_start, whole_rises}
use Rattle.derive_step.proofs.walk.children_after.Goals as goal

pub put_edits-requires-clause-merge : goal.put_edits-requires-clause-merge
put_edits-requires-clause-merge g c =
    let seen = g.K.Kind.seen in (
      merge_start seen g.K.Kind.is_kept c.all_left-first_left.result c.args.first.items c.all_left-first_left.ensures.done c.all_left-first_left.ensures.left c.requires.first,
      merge_start seen g.K.Kind.is_kept c.all_left-second_left.result c.args.second.items c.all_left-second_left.ensures.done c.all_left-second_left.ensures.left c.requires.second,
    )

pub put_edits-requires-clause-ahead : goal.put_edits-requires-clause-ahead
put_edits-requires-clause-ahead g c =
    let seen = g.K.Kind.seen in (
      ahead_start seen c.all_left-first_left.result (dir_of c.args.dir) (edits_view c.args.edits.now) c.all_left-first_left.ensures.done,
      ahead_start seen c.all_left-second_left.result (dir_of c.args.dir) (edits_view c.args.edits.now) c.all_left-second_left.ensures.done,
    )

pub joined-requires-clause-first : goal.joined-requires-clause-first
joined-requires-clause-first g c = whole_rises g.K.Kind.seen g.K.Kind.is_kept c.put_edits.new.entries.first c.in_ok-first_after.first_after.items c.in_ok-first_after.ensures.whole c.in_ok-put_edits.ensures.merge.0

pub joined-requires-clause-second : goal.joined-requires-clause-second
joined-requires-clause-second g c = whole_rises g.K.Kind.seen g.K.Kind.is_kept c.put_edits.new.entries.second c.in_ok-second_after.second_after.items c.in_ok-second_after.ensures.whole c.in_ok-put_edits.ensures.merge.1

pub returns-clause-entries : goal.returns-clause-entries
returns-clause-entries g c =
    let seen = g.K.Kind.seen in
    let d = dir_of c.args.dir in
    let set = g.K.Kind.set c.args.kind.now in
    let made = made_in g.K.Kind.made c.args.made.now in
    let es = edits_view c.args.edits.now in
    let started : (n : List ℕ) → entries_in seen (record { first = c.all_left-first_left.result; second = c.all_left-second_left.result }) n ≡ entries_among seen c.args.first.items c.args.second.items n =
    λ n i. (
      find_key by_name n (children_seen seen (c.all_left-first_left.ensures.done i) ++ children_seen seen (c.all_left-first_left.ensures.left i)),
      find_key by_name n (children_seen seen (c.all_left-second_left.ensures.done i) ++ children_seen seen (c.all_left-second_left.ensures.left i)),
    ) in
    let left : (n : List ℕ) → entries_among seen c.in_ok-first_after.first_after.items c.in_ok-second_after.second_after.items n ≡ after set made g.K.Kind.is_file d es (entries_among seen c.args.first.items c.args.second.items) n =
    λ n.
    (λ i. (find_key by_name n (c.in_ok-first_after.ensures.whole i), find_key by_name n (c.in_ok-second_after.ensures.whole i)))
    ∙ c.in_ok-put_edits.ensures.entries n
    ∙ (λ i. after set made g.K.Kind.is_file d es (λ m. started m i) n) in
    if_ok _ _ c.joined.result (λ children told n. told n ∙ ap (joined_by (g.K.Kind.joined c.args.kind.now d n (made_at made (d ++ n ∷ [])))) (left n)) c.joined.ensures.entries

pub returns-clause-nodes : goal.returns-clause-nodes
returns-clause-nodes g c =
    let seen = g.K.Kind.seen in
    let d = dir_of c.args.dir in
    let set = g.K.Kind.set c.args.kind.now in
    let own = g.K.Kind.own c.args.kind.now in
    let made = made_in g.K.Kind.made c.args.made.now in
    let es = edits_view c.args.edits.now in
    let second = children_seen seen c.in_ok-second_after.second_after.items in
    let start = entries_among seen c.args.first.items c.args.second.items in
    let started : (n : List ℕ) → entries_in seen (record { first = c.all_left-first_left.result; second = c.all_left-second_left.result }) n ≡ start n =
    λ n i. (
      find_key by_name n (children_seen seen (c.all_left-first_left.ensures.done i) ++ children_seen seen (c.all_left-first_left.ensures.left i)),
      find_key by_name n (children_seen seen (c.all_left-second_left.ensures.done i) ++ children_seen seen (c.all_left-second_left.ensures.left i)),
    ) in
    let left : (n : List ℕ) → entries_among seen c.in_ok-first_after.first_after.items c.in_ok-second_after.second_after.items n ≡ after set made g.K.Kind.is_file d es start n =
    λ n.
    (λ i. (find_key by_name n (c.in_ok-first_after.ensures.whole i), find_key by_name n (c.in_ok-second_after.ensures.whole i)))
    ∙ c.in_ok-put_edits.ensures.entries n
    ∙ (λ i. after set made g.K.Kind.is_file d es (λ m. started m i) n) in
    on_ok c.joined.result (λ told. record {
      second = second;
      rising = whole_rises seen g.K.Kind.is_kept c.put_edits.new.entries.second c.in_ok-second_after.second_after.items c.in_ok-second_after.ensures.whole c.in_ok-put_edits.ensures.merge.1;
      found = λ n. ap (λ (s : Sides g.K.Kind.Seen). s.1) (left n);
      nodes =
          told
          ∙ (λ i. (c.in_ok-put_edits.ensures.nodes ∙ (λ i. c.args.nodes.now.items ++ all_nodes set made g.K.Kind.is_file own d es (λ m. started m i))) i
          ++ joined_nodes (g.K.Kind.own_joined c.args.kind.now d) (λ n. (left n i).0) second);
    }) c.joined.ensures.nodes
