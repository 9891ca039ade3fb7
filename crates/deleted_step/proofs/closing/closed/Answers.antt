use Rattle.std.proofs.Common.{◌&&◌, ◌^◌, length, refl, ◌∙◌}
use Rattle.std.specs.Prelude.{nat_lt}
use Rattle.std.specs.List.{list_all}
use Rattle.std.specs.FinMap.{is_sorted}
use Rattle.std.specs.Ordering.{nat_cmp}
use Rattle.std.specs.Cmp.Lexicographic.{slice_cmp}
use Rattle.std.proofs.lemmas.Bool.{and_parts}
use Rattle.changeset_model.specs.Path.{is_element}
use Rattle.deleted_node.specs.Parts.{children_seen}
use Rattle.deleted_step.proofs.Entries.{same_node}
use Rattle.deleted_step.proofs.closing.closed.Goals as goal

pub returns : goal.returns
returns c = λ n rises of.
    let es = children_seen c.in_ok-entries.entries.items in
    let rules = and_parts (nat_lt (length es) (2 ^ 32) && list_all (λ e. is_element e.0) es) (is_sorted (slice_cmp nat_cmp) es) c.in_ok-entries.ensures.rising in
    (λ i. record { link = c.node_with.ensures.0 i; entries = children_seen (c.node_with.ensures.1 i).items })
    ∙ same_node c.args.opened n c.args.opened.link es rises of refl c.in_ok-entries.ensures.entries rules.1
