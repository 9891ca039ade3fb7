-- What the Caller headers of a head say.
--     caller_told text      as they stand in the head;  caller_seen caller      as a request owns them
use Rattle.http_model.specs.Head as model
use Rattle.http_wire.specs.declared.header_fields.CallerText.{CallerText}
use Rattle.http_wire.specs.declared.header_fields.CallerText.TheVariants as texts
use Rattle.http_wire.specs.declared.request.Caller.{Caller}
use Rattle.http_wire.specs.declared.request.Caller.TheVariants as owned

abbrev pub caller_told : CallerText → model.CallerField
caller_told texts.Absent = model.Absent
caller_told (texts.Given value) = model.Given value.now
caller_told texts.Several = model.Several

abbrev pub caller_seen : Caller → model.CallerField
caller_seen owned.Absent = model.Absent
caller_seen (owned.Given value) = model.Given value.items
caller_seen owned.Several = model.Several
