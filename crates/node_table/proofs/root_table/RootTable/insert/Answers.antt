use Rattle.std.proofs.Common.{◌∙◌, refl, sym, ap}
use Rattle.std.specs.Cmp.{nat_cmp_total}
use Rattle.std.specs.FinMap as map
use Rattle.std.proofs.lemmas.Map.Lookups.{exact_unsigned}
use Rattle.node_table.proofs.Maps.{put_seen, as_they_are}
use Rattle.node_table.proofs.root_table.RootTable.insert.Goals as goal

pub returns-clause-ok : goal.returns-clause-ok
returns-clause-ok c =
    let old = c.self.inside.roots.entries in
    let new = c.insert.new.self.entries in
    ap map.from_entries (sym (as_they_are new))
    ∙ put_seen (λ n. n) (λ n. n) (λ n. refl) (λ r. r) nat_cmp_total exact_unsigned old new c.args.number c.args.roots c.in_ok-insert.ensures.updates.0
    ∙ ap (λ es. map.insert (map.from_entries es) c.args.number c.args.roots) (as_they_are old)
    ∙ ap (λ m. map.insert m c.args.number c.args.roots) c.self.view_is
