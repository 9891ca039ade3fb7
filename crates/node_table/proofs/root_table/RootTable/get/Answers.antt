use Rattle.std.proofs.Common.{◌∙◌, refl, sym, ap}
use Rattle.std.specs.Ordering.{nat_cmp}
use Rattle.std.specs.Cmp.{nat_cmp_total}
use Rattle.std.specs.FinMap as map
use Rattle.std.proofs.lemmas.Map.Lookups.{exact_unsigned}
use Rattle.node_table.proofs.Maps.{get_seen, as_they_are, option_as_it_is}
use Rattle.node_table.proofs.root_table.RootTable.get.Goals as goal

pub returns : goal.returns
returns c =
    let entries = c.self.inside.roots.entries in
    c.copied.ensures ∙ c.get.ensures.value
    ∙ sym (option_as_it_is _)
    ∙ sym (get_seen (λ n. n) (λ n. n) (λ n. refl) (λ r. r) nat_cmp_total exact_unsigned entries c.args.number)
    ∙ ap (λ es. map.get (map.from_entries {R = nat_cmp} es) c.args.number) (as_they_are entries)
    ∙ ap (λ m. map.get m c.args.number) c.self.view_is
