-- What decoding returned is what the definitions read, unless memory ran out.
use Rattle.std.specs.Prelude.{◌≡◌, ℕ, Result, Ok, Err}
use Rattle.history_model.specs.History as model
use Rattle.repo_events.specs.declared.body.Body.{Body}
use Rattle.repo_events.specs.declared.payload_fault.PayloadFault.{PayloadFault}
use Rattle.repo_events.specs.declared.payload_fault.PayloadFault.TheVariants.{BadPayload, Memory}
use Rattle.repo_events.specs.Entries.{body_of}

abbrev pub Refuses : PayloadFault → Result model.Body ℕ → Type 0
Refuses (BadPayload at) answer = answer ≡ Err at
Refuses Memory answer = Unit {0}

abbrev pub Decodes : Result Body PayloadFault → Result model.Body ℕ → Type 0
Decodes (Ok body) answer = answer ≡ Ok (body_of body)
Decodes (Err fault) answer = Refuses fault answer
