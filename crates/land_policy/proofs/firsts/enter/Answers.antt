use Rattle.std.proofs.Common.{sym, ap, ◌∙◌, Some, cond}
use Rattle.std.specs.Prelude.{string_bytes, bytes_eq}
use Rattle.std.specs.BTreeMap.{get_by_text}
use Rattle.std.proofs.lemmas.Map.Text.{btree_map_updates_text}
use Rattle.land_policy.proofs.Entering.{put}
use Rattle.land_policy.proofs.firsts.enter.Goals as goal

pub returns : goal.returns
returns c = λ key.
    let m = c.args.firsts.now in
    let place = c.args.place.now in
    let k = c.in_ok-key.key in
    put place key c.args.number (get_by_text m) (get_by_text c.insert.new.self key) (sym c.contains_key.ensures ∙ c.if-contains_key.false)
    (btree_map_updates_text (string_bytes k) m c.insert.new.self (Some c.args.number) c.in_ok-insert.ensures.updates key ∙ ap (λ t. cond (bytes_eq t key) (Some c.args.number) (get_by_text m key)) c.in_ok-key.ensures.ok)
