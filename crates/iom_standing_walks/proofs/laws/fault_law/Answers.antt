use Rattle.iom_standing_walks.proofs.FaultLemmas.{entry_faults_now, guest_entry_faults_now, page_ends_now}
use Rattle.iom_standing_walks.proofs.laws.fault_law.Goals as goal

pub returns-clause-entry : goal.returns-clause-entry
returns-clause-entry c = entry_faults_now c.guest_walk_reaches_leaf.ensures c.guest_walk_faults_else.ensures

pub returns-clause-page : goal.returns-clause-page
returns-clause-page c = page_ends_now c.guest_walk_reaches_leaf.ensures c.guest_walk_faults_else.ensures

pub returns-clause-guest_entry : goal.returns-clause-guest_entry
returns-clause-guest_entry c = guest_entry_faults_now
