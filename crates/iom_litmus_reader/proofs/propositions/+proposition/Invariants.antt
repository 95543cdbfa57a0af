use Rattle.iom_litmus_reader.proofs.propositions.+proposition.Given as goal

abbrev pub decreases-single_and : goal.decreases-single_and
decreases-single_and l = l.depth

abbrev pub decreases-joined_and : goal.decreases-joined_and
decreases-joined_and l = l.depth
