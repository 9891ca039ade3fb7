-- What the code makes of a request, as what the definitions say that it asks for.
--     call_seen call      what a call asks for
--     HasCalls call      a list has at least one call
--     Asks result asked      a request asks for this. Where memory ran out, nothing is said
use Rattle.std.specs.Prelude.{◌≡◌, ◌<◌, length, Result, Ok, Err}
use Rattle.reply_model.specs.After.{Looks}
use Rattle.repo_calls.specs.Calls as calls
use Rattle.repo_calls.specs.Asking.{question_seen}
use Rattle.stacked_calls.specs.Stacking.{calls_seen}
use Rattle.session_model.specs.Asking as model
use Rattle.routes.specs.declared.asking.Call.{Call}
use Rattle.routes.specs.declared.asking.Call.TheVariants.{Change, Read, List}
use Rattle.routes.specs.declared.route_refusal.RouteRefusal.{RouteRefusal}
use Rattle.routes.specs.Failed.{failed, unless_memory}

abbrev pub call_seen : Call → model.Asked
call_seen (Change ask) = model.Calls (calls.call_seen ask)
call_seen (Read question) = model.Calls (Looks (question_seen question))
call_seen (List asks) = model.Lists (calls_seen asks.items)

abbrev pub HasCalls : Call → Type 0
HasCalls (Change ask) = Unit {0}
HasCalls (Read question) = Unit {0}
HasCalls (List asks) = 0 < length asks.items

abbrev pub Asks : Result Call RouteRefusal → model.Asked → Type 0
Asks (Ok call) asked = asked ≡ call_seen call
Asks (Err refusal) asked = unless_memory refusal (asked ≡ model.Fails (failed refusal))
