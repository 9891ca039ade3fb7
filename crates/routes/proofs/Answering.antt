-- What a request asks for, from its route.
use Rattle.std.proofs.Common.{◌≡◌, Some, Result, Ok, Err, true, ap}
use Rattle.http_model.specs.Head.{path_of}
use Rattle.http_model.specs.Stream.{Request}
use Rattle.session_model.specs.Methods.{has_method, methods_of}
use Rattle.session_model.specs.Responses.{Response}
use Rattle.session_model.specs.Routes.{Route, is_target, route_of}
use Rattle.session_model.specs.Asking.{Asked, Fails, asked, asked_or, by_route}
use Rattle.routes.specs.declared.asking.Call.{Call}
use Rattle.routes.specs.declared.route_refusal.RouteRefusal.{RouteRefusal}
use Rattle.routes.specs.declared.route_refusal.RouteRefusal.TheVariants.{BadTarget, NoRoute, Method, BadName, BadId, BadPath, BadNumber, BadCaller, BadList, Memory}
use Rattle.routes.specs.Failed.{failed, unless_memory, Reads}
use Rattle.routes.specs.Asked.{Asks, call_seen}

fails : (refusal : RouteRefusal) (read : Result Asked Response) → unless_memory refusal (read ≡ Err (failed refusal)) → unless_memory refusal (asked_or read ≡ Fails (failed refusal))
fails BadTarget read h = ap asked_or h
fails NoRoute read h = ap asked_or h
fails (Method methods) read h = ap asked_or h
fails (BadName at) read h = ap asked_or h
fails (BadId at) read h = ap asked_or h
fails (BadPath at) read h = ap asked_or h
fails BadNumber read h = ap asked_or h
fails BadCaller read h = ap asked_or h
fails (BadList at) read h = ap asked_or h
fails Memory read h = tt

asks : (r : Result Call RouteRefusal) (read : Result Asked Response) → Reads call_seen r read → Asks r (asked_or read)
asks (Ok call) read h = ap asked_or h
asks (Err refusal) read h = fails refusal read h

-- by a route, by its method
pub asks-route : (q : Request) (r : Result Call RouteRefusal) (route : Route)
    → is_target (path_of q.target) ≡ true → route_of (path_of q.target) ≡ Some route → has_method (methods_of route.name) q.method ≡ true
    → Reads call_seen r (by_route route q) → Asks r (asked q)
asks-route q r route target found by read = rw (target, found, by) (asks r (by_route route q) read)
