use Rattle.std.proofs.Common.{IsSomeAnd, false, sym}
use Rattle.std.proofs.lemmas.Bool.{false≢true}
use Rattle.iom_machine.specs.Devices.{device_of}
use Rattle.iom_machine.specs.Questions.{MayTell}
use Rattle.iom_machine_judge.proofs.LeftLemmas.{stays_by}
use Rattle.iom_machine_judge.proofs.questions.judge_deliver.Goals as goal

pub returns-in-None : goal.returns-in-None
returns-in-None c =
    rw c.in-Answered.is
    (stays_by false
    (λ before. IsSomeAnd (device_of before c.args.choice.now.device) (λ device. MayTell device.attachment before device.id c.args.choice.now.page c.in-Answered.reply)) c.args.kept.now
    (λ h past. let absent = sym c.in-None.ensures in rw absent ((λ never. absurd (false≢true never)), (λ never. absurd never))))

pub returns-in-Some : goal.returns-in-Some
returns-in-Some c =
    rw c.in-Answered.is
    (stays_by c.may_tell.result
    (λ before. IsSomeAnd (device_of before c.args.choice.now.device) (λ device. MayTell device.attachment before device.id c.args.choice.now.page c.in-Answered.reply)) c.args.kept.now
    (λ h past. let there = sym c.in-Some.ensures in rw there (c.may_tell.ensures h past)))
