use Rattle.std.proofs.Common.{◌≡◌, true, length}
use Rattle.std.specs.Prelude.{None}
use Rattle.std.specs.BTreeMap.{get}
use Rattle.std.specs.BTreeSet.{contains}
use Rattle.changeset_model.specs.Path.{Path, path_cmp}
use Rattle.history_model.specs.History.{Known}
use Rattle.history_model.specs.Past.{Past}
use Rattle.derive_step.specs.Renewal.{AreBefore, AreTouched, IsDue, IsGoneThrough}
use Rattle.derive_step.proofs.renewal.renew_dirs.Given as goal

abbrev pub invariant-loop-dir : goal.invariant-loop-dir
invariant-loop-dir l = record {
  first : (p : Path) → contains path_cmp l.dirs p ≡ true → get path_cmp l.first p ≡ get path_cmp l.fn.first p;
  second : (p : Path) → contains path_cmp l.dirs p ≡ true → get path_cmp l.second p ≡ get path_cmp l.fn.second p;
  gone : (c : Known) (p q : Past) → IsDue c p q l.commit → AreBefore c p q p l.fn.first → AreBefore c p q q l.fn.second → AreTouched c p q l.fn.dirs → ((d : Path) → get path_cmp l.fn.made d ≡ None) → IsGoneThrough c p q l.fn.dirs l.dirs l.made l.fn.nodes.items l.nodes.items;
}

abbrev pub decreases-loop-dir : goal.decreases-loop-dir
decreases-loop-dir l = length l.dirs.keys
