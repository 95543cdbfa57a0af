use Rattle.iom_standing_walks.proofs.JudgedLemmas.{entry_is_judged_now, first_is_judged_now, page_is_judged_now, second_is_judged_now}
use Rattle.iom_standing_walks.proofs.laws.leaf_law.Goals as goal

pub returns-clause-first : goal.returns-clause-first
returns-clause-first c = first_is_judged_now c.walk_reaches_leaf.ensures c.walk_faults_else.ensures

pub returns-clause-second : goal.returns-clause-second
returns-clause-second c = second_is_judged_now c.guest_walk_reaches_leaf.ensures c.guest_walk_faults_else.ensures

pub returns-clause-entry : goal.returns-clause-entry
returns-clause-entry c = entry_is_judged_now c.guest_walk_reaches_leaf.ensures

pub returns-clause-page : goal.returns-clause-page
returns-clause-page c = page_is_judged_now c.guest_walk_reaches_leaf.ensures
