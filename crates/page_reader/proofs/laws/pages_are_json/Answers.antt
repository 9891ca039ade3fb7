use Rattle.page_reader.proofs.Lines.{page_is_read}
use Rattle.page_reader.proofs.Texts.{page_is_text}
use Rattle.page_reader.proofs.laws.pages_are_json.Goals as goal

pub returns-clause-utf8 : goal.returns-clause-utf8
returns-clause-utf8 c = page_is_text

pub returns-clause-value : goal.returns-clause-value
returns-clause-value c = page_is_read
