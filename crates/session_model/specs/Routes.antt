-- Which route a target has. Targets are of RFC 9112.
--     Pattern      a word, then the names of parameters, and of what takes the rest of the path, where something does
--     pattern_of name      the pattern of each route;  order      the routes in the order in which they are tried
--     is_target path      the target before any `?` begins with a slash and is UTF-8
--     values names rest parts      what the parameters take of the segments after the word: a segment each, and the rest, each of at least one byte
--     Route      a route, with the values of its parameters as they stand in the target;  value r n      the n-th value
--     route_of path      the route of the first pattern that the path matches, if it matches one
use Rattle.std.specs.Prelude.{ℕ, nat_eq, Bool, ◌&&◌, ◌==◌, if◌then◌else◌, List, [], ◌∷◌, length, drop, get_or, bytes_eq, codes, Option, None, Some, option_map}
use Rattle.std.specs.List.{starts_with}
use Rattle.byte_fields.specs.Bytes.{is_text, first_some}
use Rattle.changeset_model.specs.Path.{elements, text_of}
use Rattle.session_model.specs.declared.route_name.RouteName.{RouteName}
use Rattle.session_model.specs.declared.route_name.RouteName.TheVariants.{Contents, Content, Wholes, Changesets, Changeset, ChangesetList, Head, Move, Land, Stack, Policy, NumberedPolicy, Log, RootFsnode, Fsnode, RootUnode, Unode, RootDeleted, Deleted, History, PathLog, Copies}

pub record Pattern : Type 0 where
  pub word : List ℕ
  pub parameters : List (List ℕ)
  pub rest : Option (List ℕ)

abbrev pub of_word : List ℕ → List (List ℕ) → Pattern
of_word word parameters = record { word = word; parameters = parameters; rest = None }

-- of an id, and a path that takes the rest
abbrev pub of_path : List ℕ → Pattern
of_path word = record { word = word; parameters = codes "id" ∷ []; rest = Some (codes "path") }

abbrev pub pattern_of : RouteName → Pattern
pattern_of Contents = of_word (codes "content") []
pattern_of Content = of_word (codes "content") (codes "id" ∷ [])
pattern_of Wholes = of_word (codes "whole") []
pattern_of Changesets = of_word (codes "changeset") []
pattern_of Changeset = of_word (codes "changeset") (codes "id" ∷ [])
pattern_of ChangesetList = of_word (codes "changesets") []
pattern_of Head = of_word (codes "bookmark") (codes "name" ∷ [])
pattern_of Move = of_word (codes "bookmark") (codes "name" ∷ codes "from" ∷ codes "to" ∷ [])
pattern_of Land = of_word (codes "land") (codes "name" ∷ codes "id" ∷ [])
pattern_of Stack = of_word (codes "stack") (codes "name" ∷ [])
pattern_of Policy = of_word (codes "policy") []
pattern_of NumberedPolicy = of_word (codes "policy") (codes "number" ∷ [])
pattern_of Log = of_word (codes "log") (codes "from" ∷ [])
pattern_of RootFsnode = of_word (codes "fsnode") (codes "id" ∷ [])
pattern_of Fsnode = of_path (codes "fsnode")
pattern_of RootUnode = of_word (codes "unode") (codes "id" ∷ [])
pattern_of Unode = of_path (codes "unode")
pattern_of RootDeleted = of_word (codes "deleted") (codes "id" ∷ [])
pattern_of Deleted = of_path (codes "deleted")
pattern_of History = of_path (codes "history")
pattern_of PathLog = of_path (codes "pathlog")
pattern_of Copies = of_word (codes "copies") (codes "id" ∷ [])

-- a router keeps its routes in this order
abbrev pub order : List RouteName
order = Move ∷ Head ∷ Changeset ∷ ChangesetList ∷ Changesets ∷ Content ∷ Contents ∷ Copies ∷ Deleted ∷ RootDeleted ∷ Fsnode ∷ RootFsnode ∷ History ∷ Land ∷ Log ∷ PathLog ∷ NumberedPolicy ∷ Policy ∷ Stack ∷ Unode ∷ RootUnode ∷ Wholes ∷ []

pub record Route : Type 0 where
  pub name : RouteName
  pub values : List (List ℕ)

abbrev pub value : Route → ℕ → List ℕ
value r n = get_or r.values n []

abbrev pub is_target : List ℕ → Bool
is_target path = starts_with nat_eq path (codes "/") && is_text path

-- what stands between the slashes
abbrev pub segments : List ℕ → List (List ℕ)
segments path = elements (drop 1 path)

abbrev pub is_empty : List ℕ → Bool
is_empty segment = length segment == 0

abbrev pub values : List (List ℕ) → Option (List ℕ) → List (List ℕ) → Option (List (List ℕ))
values [] None [] = Some []
values [] None (part ∷ parts) = None
values [] (Some name) parts = if is_empty (text_of parts) then None else Some (text_of parts ∷ [])
values (name ∷ names) rest [] = None
values (name ∷ names) rest (part ∷ parts) = if is_empty part then None else option_map (λ later. part ∷ later) (values names rest parts)

abbrev pub route_by : RouteName → List (List ℕ) → Option Route
route_by name [] = None
route_by name (word ∷ parts) =
    let pattern = pattern_of name in
    if bytes_eq word pattern.word then option_map (λ vs. record { name = name; values = vs }) (values pattern.parameters pattern.rest parts) else None

abbrev pub route_of : List ℕ → Option Route
route_of path = first_some (λ name. route_by name (segments path)) order
