use Rattle.cat_pages.proofs.Listed.{chain_stays, entries_stay, history_stays}
use Rattle.cat_pages.proofs.laws.a_listing_stays.Goals as goal

pub returns-clause-chain : goal.returns-clause-chain
returns-clause-chain c = chain_stays

pub returns-clause-entries : goal.returns-clause-entries
returns-clause-entries c = entries_stay

pub returns-clause-history : goal.returns-clause-history
returns-clause-history c = history_stays
