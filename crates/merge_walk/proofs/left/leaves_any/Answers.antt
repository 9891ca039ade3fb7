use Rattle.std.proofs.Common.{◌≡◌, ◌++◌, ◌∷◌, [], ◌<◌, ◌^◌, length, sym, ap, ◌∙◌, arith}
use Rattle.std.specs.Prelude.{filter_map}
use Rattle.std.specs.List.{list_any}
use Rattle.std.proofs.lemmas.List.{map-append}
use Rattle.fsnode.specs.Parts.{child_seen, children_seen}
use Rattle.merge_walk.specs.Left.{is_left_file, dir_in}
use Rattle.merge_walk.specs.View.{dir_seen, dirs_seen}
use Rattle.merge_walk.proofs.Searching.{search_begins, search_ends, search_goes_on, search_falls}
use Rattle.merge_walk.proofs.Weights.{few_items}
use Rattle.merge_walk.proofs.Costs.{due_falls, due_begins}
use Rattle.merge_walk.proofs.left.leaves_any.Goals as goal

pub returns-then-branch-clause-leaves : goal.returns-then-branch-clause-leaves
returns-then-branch-clause-leaves g c =
    let listed = g.D.Directories.listed c.args.dirs.now in
    search_ends listed c.args.change.now c.args.path.now c.args.id (dirs_seen c.loop-here.rest.items) (dirs_seen c.pop.new.self.items) (dir_seen c.in-Some.here) (children_seen c.as_slice.result.now)
    (ap dirs_seen c.in-Some.ensures.items ∙ map-append dir_seen c.pop.new.self.items (c.in-Some.here ∷ []))
    (ap children_seen c.as_slice.ensures.value ∙ c.in_ok-entries.ensures.entries)
    c.loop-here.invariant.search (g.met.D.Directories.rising c.args.dirs.now c.in-Some.here.id) (sym c.in_ok-leaves_here.ensures ∙ c.if-branch.true)

pub loop-here-smaller : goal.loop-here-smaller
loop-here-smaller g c =
    let listed = g.D.Directories.listed c.args.dirs.now in
    let few : length (children_seen c.in_ok-entries.entries.items) < 2 ^ 64 = few_items child_seen c.in_ok-entries.entries.items c.in_ok-entries.entries.len c.in_ok-entries.entries.cap c.in_ok-entries.entries.ok.0 c.in_ok-entries.entries.ok.1 c.in_ok-entries.entries.small in
    search_falls listed c.args.change.now c.args.path.now c.args.id (dirs_seen c.loop-here.rest.items) (dirs_seen c.pop.new.self.items) (dir_seen c.in-Some.here) (children_seen c.in_ok-entries.entries.items)
    (ap dirs_seen c.in-Some.ensures.items ∙ map-append dir_seen c.pop.new.self.items (c.in-Some.here ∷ []))
    c.in_ok-entries.ensures.entries
    (2 ^ 64) (dirs_seen c.push_dirs.new.rest.items) few
    (c.in_ok-push_dirs.ensures ∙ ap (λ es. dirs_seen c.pop.new.self.items ++ filter_map (dir_in c.in-Some.here.path) (children_seen es)) c.as_slice-in-Some.ensures.value)

pub loop-here-init : goal.loop-here-init
loop-here-init g c =
    let listed = g.D.Directories.listed c.args.dirs.now in
    let first : dirs_seen c.push.new.self.items ≡ (c.in_ok-copy.field-0, c.args.id) ∷ [] = ap dirs_seen (c.in_ok-push.ensures.items ∙ ap (λ ds. ds ++ record { path = c.in_ok-copy.field-0; id = c.args.id } ∷ []) c.new-rest.ensures.items) in
    let begun : dirs_seen c.push.new.self.items ≡ (c.args.path.now, c.args.id) ∷ [] = first ∙ ap (λ p. (p, c.args.id) ∷ []) c.in_ok-copy.ensures in
    let all = due_begins listed c.args.change.now c.args.path.now c.args.id (dirs_seen c.push.new.self.items) begun in
    record {
      search = search_begins listed c.args.change.now c.args.path.now c.args.id (dirs_seen c.push.new.self.items) begun;
      counted = omega arith;
      cost = omega arith;
    }

pub loop-here-preserved : goal.loop-here-preserved
loop-here-preserved g c =
    let listed = g.D.Directories.listed c.args.dirs.now in
    let change = c.args.change.now in
    let popped = ap dirs_seen c.in-Some.ensures.items ∙ map-append dir_seen c.pop.new.self.items (c.in-Some.here ∷ []) in
    let none = ap (λ es. list_any (is_left_file c.args.change.now c.in-Some.here.path) (children_seen es)) (sym c.as_slice.ensures.value) ∙ sym c.in_ok-leaves_here.ensures ∙ c.if-branch.false in
    let after = c.in_ok-push_dirs.ensures ∙ ap (λ es. dirs_seen c.pop.new.self.items ++ filter_map (dir_in c.in-Some.here.path) (children_seen es)) c.as_slice-in-Some.ensures.value in
    let falls = due_falls listed change (dirs_seen c.loop-here.rest.items) (dirs_seen c.pop.new.self.items) (dir_seen c.in-Some.here) (children_seen c.in_ok-entries.entries.items) popped c.in_ok-entries.ensures.entries (dirs_seen c.push_dirs.new.rest.items) none after in
    record {
      search = search_goes_on listed change c.args.path.now c.args.id (dirs_seen c.loop-here.rest.items) (dirs_seen c.pop.new.self.items) (dir_seen c.in-Some.here) (children_seen c.in_ok-entries.entries.items)
          popped c.in_ok-entries.ensures.entries (dirs_seen c.push_dirs.new.rest.items) c.loop-here.invariant.search (g.met.D.Directories.rising c.args.dirs.now c.in-Some.here.id) none after;
      counted = omega arith;
      cost = omega arith;
    }
