use Rattle.iom_pointers.proofs.walk.+lead.Given as goal

-- the level of the table in hand
abbrev pub decreases-lead : goal.decreases-lead
decreases-lead l = l.hand.level
