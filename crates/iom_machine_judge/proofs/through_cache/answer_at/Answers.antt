use Rattle.std.proofs.Common.{refl, sym, subst, ◌∙◌}
use Rattle.std.proofs.lemmas.Bool.{false≢true}
use Rattle.iom_kept_state.specs.States.{state_of}
use Rattle.iom_machine.specs.declared.state.Device.{Device}
use Rattle.iom_machine.specs.ThroughCache.{MayAnswerThroughCache, state_after_cached}
use Rattle.iom_machine.proofs.StepLemmas.{read_again}
use Rattle.iom_machine_judge.proofs.AnsweredLemmas.{cached_so, stays_cached}
use Rattle.iom_machine_judge.proofs.DecidedLemmas.{comes, never_comes}
use Rattle.iom_machine_judge.proofs.through_cache.answer_at.Goals as goal

pub returns-then-not-may_answer : goal.returns-then-not-may_answer
returns-then-not-may_answer c = λ device at own.
    let same = read_again c.args.kept.now.devices c.args.place device c.index-as_slice-place.result at (rw c.as_slice.ensures at c.index-as_slice-place.is) in
    never_comes c.args.kept.now (λ before. MayAnswerThroughCache before device c.args.access c.args.frame c.args.outcome.now) (λ before. state_after_cached before device c.args.access c.args.frame c.args.outcome.now)
    (λ h past may. false≢true (sym c.if-not-may_answer.true ∙ (c.may_answer.ensures.may h past).1 (subst (λ (d : Device). MayAnswerThroughCache (state_of c.args.kept.now h) d c.args.access c.args.frame c.args.outcome.now) same may)))

pub returns-in_ok-accept : goal.returns-in_ok-accept
returns-in_ok-accept c = λ device at own.
    let same = read_again c.args.kept.now.devices c.args.place device c.index-as_slice-place.result at (rw c.as_slice.ensures at c.index-as_slice-place.is) in
    let answers = λ (h : _) (past : _). subst (λ (d : Device). MayAnswerThroughCache (state_of c.args.kept.now h) d c.args.access c.args.frame c.args.outcome.now) (sym same) ((c.may_answer.ensures.may h past).0 c.if-not-may_answer.false) in
    comes c.args.kept.now (record c.args.kept.now { devices = c.accept.new.devices }) (λ before. MayAnswerThroughCache before device c.args.access c.args.frame c.args.outcome.now) (λ before. state_after_cached before device c.args.access c.args.frame c.args.outcome.now)
    refl answers (λ h past. cached_so c.args.kept.now h device c.args.place c.in-Accepted.number c.args.access c.at_frame-sent.result c.args.frame c.accept.new.devices c.args.outcome.now c.in-Accepted.is own (answers h past) c.at_frame-sent.ensures (c.in_ok-accept.ensures device at))

pub returns-in_default : goal.returns-in_default
returns-in_default c = λ device at own.
    let same = read_again c.args.kept.now.devices c.args.place device c.index-as_slice-place.result at (rw c.as_slice.ensures at c.index-as_slice-place.is) in
    let answers = λ (h : _) (past : _). subst (λ (d : Device). MayAnswerThroughCache (state_of c.args.kept.now h) d c.args.access c.args.frame c.args.outcome.now) (sym same) ((c.may_answer.ensures.may h past).0 c.if-not-may_answer.false) in
    comes c.args.kept.now c.args.kept.now (λ before. MayAnswerThroughCache before device c.args.access c.args.frame c.args.outcome.now) (λ before. state_after_cached before device c.args.access c.args.frame c.args.outcome.now)
    refl answers (λ h past. stays_cached (state_of c.args.kept.now h) device c.args.access c.args.frame c.args.outcome.now c.in_default.not-Accepted)
