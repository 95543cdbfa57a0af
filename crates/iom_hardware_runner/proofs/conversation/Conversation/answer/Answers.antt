use Rattle.std.proofs.Common.{subst, Option}
use Rattle.iom_hardware_runner.proofs.TextLemmas.{answered_text, refused_answer}
use Rattle.iom_hardware_runner.specs.Parts.{TookTexts}
use Rattle.iom_hardware_runner.specs.declared.machine.Machine.{Machine}
use Rattle.iom_hardware_runner.proofs.conversation.Conversation.answer.Goals as goal

pub returns-in-Some-clause-taken : goal.returns-in-Some-clause-taken
returns-in-Some-clause-taken c = λ texts took.
    answered_text texts c.args.text.now c.in-Some.machine c.take_line.new.self c.take_line.result c.take_line.ensures.taken
    (subst (λ (m : Option Machine). TookTexts texts m) c.in-Some.is took)

pub returns-in-None-clause-refused : goal.returns-in-None-clause-refused
returns-in-None-clause-refused c = λ speaks. refused_answer c.args.text.now c.args.self.now.machine c.begin.result c.in-None.is speaks c.begin.ensures.refused
