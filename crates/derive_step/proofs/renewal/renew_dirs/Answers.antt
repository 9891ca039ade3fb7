use Rattle.std.proofs.Common.{sym, ap, refl, ◌∙◌}
use Rattle.std.specs.Prelude.{option_map}
use Rattle.std.specs.BTreeMap.{get}
use mathlib.Core.Bool.{true≢false}
use Rattle.changeset_model.specs.Path.{path_cmp}
use Rattle.derive_step.specs.Covering.{paths_seen, paths_set}
use Rattle.derive_step.specs.Views.{before_seen}
use Rattle.derive_step.proofs.Gone.{all_gone, gone_some, none_left, none_yet, one_less, still_left, touched_there, under_last}
use Rattle.derive_step.proofs.Renewed.{dir_seen}
use Rattle.derive_step.proofs.renewal.renew_dirs.Goals as goal

pub loop-dir-init : goal.loop-dir-init
loop-dir-init c = record {
  first = λ p there. refl;
  second = λ p there. refl;
  gone = λ k p q due one two touched new. none_yet k p q c.args.dirs c.args.made.now c.args.nodes.now.items new;
}

pub loop-dir-preserved : goal.loop-dir-preserved
loop-dir-preserved c =
    let dirs = c.args.dirs in
    let left = c.loop-dir.dirs in
    let made = c.loop-dir.made in
    let had = c.args.nodes.now.items in
    let put = c.loop-dir.nodes.items in
    let d = c.in-Some.dir in
    let has = c.in-Some.ensures.member in
    let took = c.take_nodes-first_there.ensures in
    let took_second = c.take_nodes-second_there.ensures in
    record {
      first = λ p in_rest. (let was = still_left left c.pop_last.new.self d c.in-Some.ensures.updates p in_rest in took.others p was.0 ∙ c.loop-dir.invariant.first p was.1);
      second = λ p in_rest. (let was = still_left left c.pop_last.new.self d c.in-Some.ensures.updates p in_rest in took_second.others p was.0 ∙ c.loop-dir.invariant.second p was.1);
      gone = λ k p q due one two touched new.
          let gone = c.loop-dir.invariant.gone k p q due one two touched new in
          let edits = c.edits.ensures.edits ∙ ap (λ x. x.changes) (c.changeset.ensures ∙ due.changeset) in
          let are_set = ap paths_seen c.as_slice-sets.ensures.value ∙ c.in_ok-paths.ensures ∙ ap paths_set edits in
          let here = touched_there k p q dirs touched had d (gone.within d has) in
          let some = gone_some k p q d (sym (touched d) ∙ gone.within d has) in
          let resolved = due.sound.resolved.0 in
          let there = dir_seen k p d (option_map before_seen c.take_nodes-first_there.result) (option_map before_seen (get path_cmp c.loop-dir.first d)) (took.nodes k.changeset resolved.rules resolved.clear are_set)
          (ap (option_map before_seen) (c.loop-dir.invariant.first d has) ∙ one d some here) in
          let there_second = dir_seen k q d (option_map before_seen c.take_nodes-second_there.result) (option_map before_seen (get path_cmp c.loop-dir.second d)) (took_second.nodes k.changeset resolved.rules resolved.clear are_set)
          (ap (option_map before_seen) (c.loop-dir.invariant.second d has) ∙ two d some here) in
          one_less k p q dirs touched had left made put gone d c.pop_last.new.self c.renew_dir.new.made c.renew_dir.new.nodes.items has c.in-Some.ensures.removal c.in-Some.ensures.updates
          (c.in_ok-renew_dir.ensures k p q due there there_second here (under_last k p q dirs touched had left made put gone d c.in-Some.ensures.greatest) (gone.fresh d has));
    }

pub returns : goal.returns
returns c = λ k p q due one two touched new.
    all_gone k p q c.args.dirs touched c.args.nodes.now.items c.loop-dir.dirs c.loop-dir.made c.loop-dir.nodes.items (c.loop-dir.invariant.gone k p q due one two touched new) (none_left c.loop-dir.dirs.keys (λ some. absurd (true≢false (sym (c.in_default.ensures.variant.1 some)))))
