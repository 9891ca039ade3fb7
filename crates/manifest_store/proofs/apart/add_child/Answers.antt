use Rattle.std.proofs.Common.{◌≡◌, ◌++◌, ◌∷◌, [], refl, sym, ap, ◌∙◌}
use Rattle.std.specs.Prelude.{Some, option_map}
use Rattle.derive_step.specs.declared.job.Parent.{Parent}
use Rattle.derive_step.specs.Views.{before_seen}
use Rattle.manifest_store.specs.Nodes.{dir_under}
use Rattle.manifest_store.specs.Reads.{dir_of}
use Rattle.manifest_store.proofs.Levels.{ruled, unruled}
use Rattle.manifest_store.proofs.Differing.{none_first, none_second}
use Rattle.manifest_store.proofs.Grown.{child_there, deeper_pushed, has_with, no_such, parent_with, parents_with, reached_with, same_parents}
use Rattle.manifest_store.proofs.apart.add_child.Goals as goal

pub returns-in_default : goal.returns-in_default
returns-in_default c =
    let d0 = dir_of c.args.dir in
    let name = c.args.child.now.name in
    record {
      grown = same_parents c.args.table.now.nodes c.args.first.now c.args.second.now c.args.next.now.items c.requires.first c.requires.second;
      under = λ d path apart under. no_such d0 name d (unruled (d0 ++ name ∷ []) c.in_ok-path.field-0 c.in_ok-path.ensures c.in_default.is) path under;
      deeper = λ n less all. all;
    }

pub returns-in_default-2 : goal.returns-in_default-2
returns-in_default-2 c =
    let m = c.args.table.now.nodes in
    let p = c.args.first.now in
    let q = c.args.second.now in
    let d0 = dir_of c.args.dir in
    let name = c.args.child.now.name in
    let here = d0 ++ name ∷ [] in
    let there = child_there m p c.requires.first d0 here name refl c.requires.dir.0 c.args.child.now.first c.requires.first_ids in
    record {
      grown = same_parents m p q c.args.next.now.items c.requires.first c.requires.second;
      under = λ d path apart under. none_first m (before_seen p.root) (before_seen q.root) here d (sym there ∙ sym c.in_ok-one.ensures ∙ ap (option_map before_seen) c.in_default-2.is) apart under;
      deeper = λ n less all. all;
    }

pub returns-in_default-3 : goal.returns-in_default-3
returns-in_default-3 c =
    let m = c.args.table.now.nodes in
    let p = c.args.first.now in
    let q = c.args.second.now in
    let d0 = dir_of c.args.dir in
    let name = c.args.child.now.name in
    let here = d0 ++ name ∷ [] in
    let there = child_there m q c.requires.second d0 here name refl c.requires.dir.1 c.args.child.now.second c.requires.second_ids in
    record {
      grown = same_parents m p q c.args.next.now.items c.requires.first c.requires.second;
      under = λ d path apart under. none_second m (before_seen p.root) (before_seen q.root) here d (sym there ∙ sym c.in_ok-two.ensures ∙ ap (option_map before_seen) c.in_default-3.is) apart under;
      deeper = λ n less all. all;
    }

pub returns : goal.returns
returns c =
    let m = c.args.table.now.nodes in
    let p = c.args.first.now in
    let q = c.args.second.now in
    let next = c.args.next.now.items in
    let d0 = dir_of c.args.dir in
    let name = c.args.child.now.name in
    let here = d0 ++ name ∷ [] in
    let path = c.in-Some.path in
    let is : path ≡ here = ruled path here c.in_ok-path.field-0 c.in_ok-path.ensures c.in-Some.is in
    let one = c.in-Some-2.one in
    let two = c.in-Some-3.two in
    let x = c.args.child.now.first in
    let y = c.args.child.now.second in
    let seen_one : dir_under m x ≡ Some (before_seen one) = sym c.in_ok-one.ensures ∙ ap (option_map before_seen) c.in-Some-2.is in
    let seen_two : dir_under m y ≡ Some (before_seen two) = sym c.in_ok-two.ensures ∙ ap (option_map before_seen) c.in-Some-3.is in
    let p' : Parent = record p { dirs = c.insert.new.self } in
    let q' : Parent = record q { dirs = c.insert-2.new.self } in
    let first = parent_with m p c.requires.first d0 here name refl c.requires.dir.0 x c.requires.first_ids one c.in_ok-copy.field-0 (c.in_ok-copy.ensures ∙ is) c.insert.new.self c.in_ok-insert.ensures.updates seen_one in
    let second = parent_with m q c.requires.second d0 here name refl c.requires.dir.1 y c.requires.second_ids two c.in_ok-copy-2.field-0 (c.in_ok-copy-2.ensures ∙ is) c.insert-2.new.self c.in_ok-insert-2.ensures.updates seen_two in
    let first_has = has_with m p c.requires.first d0 here name refl c.requires.dir.0 x c.requires.first_ids one c.in_ok-copy.field-0 (c.in_ok-copy.ensures ∙ is) c.insert.new.self c.in_ok-insert.ensures.updates seen_one in
    let second_has = has_with m q c.requires.second d0 here name refl c.requires.dir.1 y c.requires.second_ids two c.in_ok-copy-2.field-0 (c.in_ok-copy-2.ensures ∙ is) c.insert-2.new.self c.in_ok-insert-2.ensures.updates seen_two in
    let after = c.push.new.self.items in
    let pushed : after ≡ next ++ here ∷ [] = c.in_ok-push.ensures.items ∙ ap (λ e. next ++ e ∷ []) is in
    record {
      grown = parents_with m p q p' q' next after here pushed first second (first_has, second_has);
      under = λ d path apart under. reached_with m p q p' q' next after here pushed first second (first_has, second_has) d under;
      deeper = λ n less all. deeper_pushed n next after d0 here name pushed refl less all;
    }
