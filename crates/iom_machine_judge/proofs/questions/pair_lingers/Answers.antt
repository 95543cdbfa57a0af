use Rattle.iom_machine_judge.proofs.questions.pair_lingers.Goals as goal

pub returns : goal.returns
returns c = λ h past.
    let found = c.lingering.ensures.lingers h past (c.args.frame, c.args.rights) in
    ((λ yes. found.0 (c.is_pair.ensures.0 yes)), (λ lingers. c.is_pair.ensures.1 (found.1 lingers)))
