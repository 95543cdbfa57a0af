use Rattle.std.proofs.Common.{rules, subst}
use Rattle.iom_litmus.specs.Candidates.{ListsColumns, ListsDeviceSteps, ListsMessageSteps}
use Rattle.iom_litmus.specs.Listed.{KeepsListed}
use Rattle.iom_litmus.proofs.CandidateLemmas.{candidates_are_enough}
use Rattle.iom_litmus.proofs.ListedLemmas.{KeepsListed-push, pushed_is_listed}
use Rattle.iom_litmus.proofs.candidates.candidates.Goals as goal

pub returns : goal.returns
returns g c =
    let last : KeepsListed c.add_device_steps.new.steps c.add_message_steps.new.steps = c.in_ok-add_message_steps.ensures.keeps in
    let later : KeepsListed c.push-2.new.self c.add_message_steps.new.steps = λ x there. last x (c.in_ok-add_device_steps.ensures.keeps x there) in
    candidates_are_enough g.S.System.readings c.args.test.now c.args.place.now c.add_message_steps.new.steps
    (λ column below. later _ (KeepsListed-push _ _ _ _ (KeepsListed-push _ _ _ _ (λ x there. there) c.in_ok-push.ensures.ok) c.in_ok-push-2.ensures.ok _
    (subst (λ (columns : _). ListsColumns columns c.add_columns.new.steps) (search rules) c.in_ok-add_columns.ensures.lists column below)))
    (later _ (KeepsListed-push _ _ _ _ (λ x there. there) c.in_ok-push-2.ensures.ok _ (pushed_is_listed _ _ _ c.in_ok-push.ensures.ok)))
    (later _ (pushed_is_listed _ _ _ c.in_ok-push-2.ensures.ok))
    (λ device there.
    let (commit, load) = subst (λ (devices : _). ListsDeviceSteps devices c.add_device_steps.new.steps) c.devices.ensures c.in_ok-add_device_steps.ensures.lists device there in
    (last _ commit, last _ load))
    (subst (λ (messages : _). ListsMessageSteps messages c.add_message_steps.new.steps) c.messages.ensures c.in_ok-add_message_steps.ensures.lists)
