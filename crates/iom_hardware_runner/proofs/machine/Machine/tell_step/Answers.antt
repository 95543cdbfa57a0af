use Rattle.std.proofs.Common.{Bool, refl, sym, ap, ◌∙◌}
use Rattle.iom_hardware_runner.proofs.RunLemmas.{does_nothing, does_one, few_none, few_one}
use Rattle.iom_hardware_runner.specs.Parts.{AreFew, asks_at, does_itself}
use Rattle.iom_hardware_runner.specs.Runs.{is_own}
use Rattle.iom_hardware_runner.proofs.machine.Machine.tell_step.Goals as goal

pub returns-clause-acts : goal.returns-clause-acts
returns-clause-acts c =
    let can = does_itself c.args.self.now.teller c.args.self.now.helper in
    let pace = ap (λ (b : Bool). is_own b (asks_at c.args.self.now.helper) c.in-Some.said) (sym c.is_stepped.ensures) in
    does_one (AreFew can 1) c.args.self.now.teller c.tell.new.self.teller c.in-Some.said c.in_ok-words.ensures.reply
    (few_one can c.in-Some.said (pace ∙ sym c.does.ensures ∙ c.if-not-does.false))

pub returns-in_default-clause-acts : goal.returns-in_default-clause-acts
returns-in_default-clause-acts c =
    let can = does_itself c.args.self.now.teller c.args.self.now.helper in
    does_nothing (AreFew can 1) c.args.self.now.teller c.args.self.now.teller refl (few_none can 1)

pub returns-then-not-does-clause-acts : goal.returns-then-not-does-clause-acts
returns-then-not-does-clause-acts c =
    let can = does_itself c.args.self.now.teller c.args.self.now.helper in
    does_nothing (AreFew can 1) c.args.self.now.teller c.args.self.now.teller refl (few_none can 1)
