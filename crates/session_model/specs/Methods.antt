-- Methods.
--     method_text m      its name
--     methods_text ms      their names, as an `Allow` field has them;  has_method ms name      the method of this name is one of them
--     methods_of route      the methods that a route has
use Rattle.std.specs.Prelude.{ℕ, Bool, ◌||◌, List, codes, bytes_eq}
use Rattle.session_model.specs.declared.method.Method.{Method}
use Rattle.session_model.specs.declared.method.Method.TheVariants.{Get, Post, Put}
use Rattle.session_model.specs.declared.method.Methods.{Methods}
use Rattle.session_model.specs.declared.method.Methods.TheVariants.{One, GetAndPut}
use Rattle.session_model.specs.declared.route_name.RouteName.{RouteName}
use Rattle.session_model.specs.declared.route_name.RouteName.TheVariants.{Contents, Content, Wholes, Changesets, Changeset, ChangesetList, Head, Move, Land, Stack, Policy, NumberedPolicy, Log, RootFsnode, Fsnode, RootUnode, Unode, RootDeleted, Deleted, History, PathLog, Copies}

abbrev pub method_text : Method → List ℕ
method_text Get = codes "GET"
method_text Post = codes "POST"
method_text Put = codes "PUT"

abbrev pub methods_text : Methods → List ℕ
methods_text (One method) = method_text method
methods_text GetAndPut = codes "GET, PUT"

abbrev pub has_method : Methods → List ℕ → Bool
has_method (One method) name = bytes_eq name (method_text method)
has_method GetAndPut name = bytes_eq name (method_text Get) || bytes_eq name (method_text Put)

abbrev pub methods_of : RouteName → Methods
methods_of Contents = One Put
methods_of Content = One Get
methods_of Wholes = One Put
methods_of Changesets = One Put
methods_of Changeset = One Get
methods_of ChangesetList = One Put
methods_of Head = One Get
methods_of Move = One Put
methods_of Land = One Post
methods_of Stack = One Post
methods_of Policy = GetAndPut
methods_of NumberedPolicy = One Get
methods_of Log = One Get
methods_of RootFsnode = One Get
methods_of Fsnode = One Get
methods_of RootUnode = One Get
methods_of Unode = One Get
methods_of RootDeleted = One Get
methods_of Deleted = One Get
methods_of History = One Get
methods_of PathLog = One Get
methods_of Copies = One Get
