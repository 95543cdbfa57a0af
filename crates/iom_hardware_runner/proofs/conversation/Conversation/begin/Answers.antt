use Rattle.iom_hardware_runner.proofs.TextLemmas.{first_text}
use Rattle.iom_hardware_runner.proofs.conversation.Conversation.begin.Goals as goal

pub returns-clause-taken : goal.returns-clause-taken
returns-clause-taken c = λ is.
    let (setup, is_setup, came) = rw c.in-Some.is at c.in_ok-machine.ensures.begins in
    first_text c.args.text.now c.in-Some.machine setup is_setup came

pub returns-in_default-clause-refused : goal.returns-in_default-clause-refused
returns-in_default-clause-refused c = λ is. c.in_ok-machine.ensures.refused c.in_default.is
