use Rattle.iom_litmus.proofs.search.Search.find_places.Goals as goal

pub returns-clause-explored : goal.returns-clause-explored
returns-clause-explored g c = c.in_ok-explore_places.ensures.explored
