use Rattle.std.proofs.Common.{sym, ◌∙◌}
use mathlib.Core.Bool.{true≢false}
use Rattle.serde_json.specs.Read.{read}
use Rattle.serde_json.specs.View.{view}
use Rattle.page_reader.specs.Values.{page_data}
use Rattle.page_reader.proofs.Lines.{page_is_read}
use Rattle.page_reader.proofs.Texts.{page_is_text}
use Rattle.page_reader.proofs.Pages.{told_alike, some_is_not_none}
use Rattle.page_reader.proofs.page.page_told.Goals as goal

pub returns-in-Ok-clause-found : goal.returns-in-Ok-clause-found
returns-in-Ok-clause-found c = λ from lines total small page.
    c.page_of.ensures.found from lines total page.told (told_alike (read c.args.text.now) (view c.in-Ok.value) (page_data from lines total) c.in-Ok.ensures.ok.1 (page_is_read from c.args.text.now lines total small page))

pub returns-in-Err-2-clause-found : goal.returns-in-Err-2-clause-found
returns-in-Err-2-clause-found c = λ from lines total small page.
    let none = c.in-Err.ensures.err (λ memory. true≢false (sym (c.is_memory.ensures.1 memory) ∙ c.if-is_memory.false)) (page_is_text from c.args.text.now lines total small page) in
    absurd (some_is_not_none (read c.args.text.now) (page_data from lines total) (page_is_read from c.args.text.now lines total small page) none)
