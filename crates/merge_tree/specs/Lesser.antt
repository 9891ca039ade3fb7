-- The lesser of two paths.
--     lesser_of p q      the lesser of those that are there
use Rattle.std.specs.Prelude.{Option, None, Some}
use Rattle.std.specs.FinMap.Entries.{by_order}
use Rattle.changeset_model.specs.Path.{Path, path_cmp}

abbrev pub lesser_of : Option Path → Option Path → Option Path
lesser_of None q = q
lesser_of (Some p) None = Some p
lesser_of (Some p) (Some q) = by_order (path_cmp p q) (Some p) (Some q) (Some q)
