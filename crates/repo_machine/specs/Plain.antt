-- A plain list of contents as a history.
--     body_of content, entry_of content, history_of contents      what they say
use Rattle.std.specs.Prelude.{List, map}
use Rattle.history_model.specs.History as model
use Rattle.repo_machine.specs.declared.plain.StoredContent.{StoredContent}

abbrev pub body_of : StoredContent → model.Body
body_of c = model.Content c.id c.length

abbrev pub entry_of : StoredContent → model.Entry
entry_of c = record { who = c.who; body = body_of c }

abbrev pub history_of : List StoredContent → List model.Entry
history_of cs = map entry_of cs
