-- What needs memory.
--     HasEscape raw      a parameter that may have an escape
--     TakesMemory route      a route with a bookmark's or a caller's name or a path, which is copied, or of a list of changesets, or with an escape
use Rattle.std.specs.Prelude.{ℕ, ◌==◌, List, IsTrue}
use Rattle.std.specs.List.{list_any}
use Rattle.percent_encoding.specs.Percent.{percent_sign}
use Rattle.session_model.specs.declared.route_name.RouteName.{RouteName}
use Rattle.session_model.specs.declared.route_name.RouteName.TheVariants.{Contents, Content, Wholes, Changesets, Changeset, ChangesetList, Head, Move, Land, Stack, Policy, NumberedPolicy, Log, RootFsnode, Fsnode, RootUnode, Unode, RootDeleted, Deleted, History, PathLog, Copies}
use Rattle.session_model.specs.Routes.{Route, value}

abbrev pub HasEscape : List ℕ → Type 0
HasEscape raw = IsTrue (list_any (λ b. b == percent_sign) raw)

abbrev pub NeedsMemory : RouteName → (ℕ → List ℕ) → Type 0
NeedsMemory Contents value = ⊥
NeedsMemory Content value = HasEscape (value 0)
NeedsMemory Wholes value = ⊥
NeedsMemory Changesets value = ⊥
NeedsMemory Changeset value = HasEscape (value 0)
NeedsMemory ChangesetList value = Unit {0}
NeedsMemory Head value = Unit {0}
NeedsMemory Move value = Unit {0}
NeedsMemory Land value = Unit {0}
NeedsMemory Stack value = Unit {0}
NeedsMemory Policy value = Unit {0}
NeedsMemory NumberedPolicy value = HasEscape (value 0)
NeedsMemory Log value = HasEscape (value 0)
NeedsMemory RootFsnode value = HasEscape (value 0)
NeedsMemory Fsnode value = Unit {0}
NeedsMemory RootUnode value = HasEscape (value 0)
NeedsMemory Unode value = Unit {0}
NeedsMemory RootDeleted value = HasEscape (value 0)
NeedsMemory Deleted value = Unit {0}
NeedsMemory History value = Unit {0}
NeedsMemory PathLog value = Unit {0}
NeedsMemory Copies value = HasEscape (value 0)

abbrev pub TakesMemory : Route → Type 0
TakesMemory route = NeedsMemory route.name (value route)
