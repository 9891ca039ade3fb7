use Rattle.page_reader.proofs.Pages.{no_page_from}
use Rattle.page_reader.proofs.page.read_page.Goals as goal

pub returns-clause-no_page : goal.returns-clause-no_page
returns-clause-no_page c = no_page_from c.args.from c.args.text.now c.page_spelled.result _ c.page_spelled.ensures.found
