use Rattle.iom_pointers.proofs.pointers.Pointers.+follow.Given as goal

-- the level of the table in hand
abbrev pub decreases-follow : goal.decreases-follow
decreases-follow l = l.hand.level
