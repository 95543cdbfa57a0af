use Rattle.iom_stepped_board.proofs.SoundEvents as events
use Rattle.iom_stepped_board.proofs.laws.events_stay_beside.Goals as goal

pub returns-clause-commit : goal.returns-clause-commit
returns-clause-commit c = events.commit_beside

pub returns-clause-medium : goal.returns-clause-medium
returns-clause-medium c = events.medium_beside

pub returns-clause-timeout : goal.returns-clause-timeout
returns-clause-timeout c = events.timeout_beside

pub returns-clause-question : goal.returns-clause-question
returns-clause-question c = events.ask_beside

pub returns-clause-claim : goal.returns-clause-claim
returns-clause-claim c = events.forge_beside

pub returns-clause-loss : goal.returns-clause-loss
returns-clause-loss c = events.lost_beside

pub returns-clause-copy : goal.returns-clause-copy
returns-clause-copy c = events.copied_beside

pub returns-clause-delivery : goal.returns-clause-delivery
returns-clause-delivery c = events.delivered_beside
