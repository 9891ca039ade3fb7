use Rattle.merge_laws.proofs.UnodeEntries.{entries_on, entries_rise, entries_found}
use Rattle.merge_laws.proofs.laws.unode_of_a_past_by_its_entries.Goals as goal

pub returns-clause-entries : goal.returns-clause-entries
returns-clause-entries c = λ past d all apart. entries_on past all apart d

pub returns-clause-rising : goal.returns-clause-rising
returns-clause-rising c = entries_rise

pub returns-clause-found : goal.returns-clause-found
returns-clause-found c = entries_found
