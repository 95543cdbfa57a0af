use Rattle.iom_machine.proofs.GrantLemmas as grants
use Rattle.iom_machine.proofs.laws.grants_are_at_pages.Goals as goal

pub returns : goal.returns
returns c = grants.grants_are_at_pages
