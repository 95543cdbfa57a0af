use Rattle.std.proofs.Common.{inl, inr}
use Rattle.iom_base.specs.Accesses.{read_of, write_of}
use Rattle.iom_machine.specs.Translated.{MayAnswerTranslated}
use Rattle.iom_machine_judge.proofs.DecidedLemmas.{there}
use Rattle.iom_machine_judge.proofs.LeftLemmas.{stays_by}
use Rattle.iom_machine_judge.proofs.acts.act_at.Goals as goal

pub returns-in-Medium : goal.returns-in-Medium
returns-in-Medium c = rw c.in-Medium.is c.insert.ensures

pub returns-in-Step : goal.returns-in-Step
returns-in-Step c = rw c.in-Step.is c.take_step.ensures

pub returns-in-Commit : goal.returns-in-Commit
returns-in-Commit c = rw c.in-Commit.is c.make.ensures

pub returns-in_ok-access-in-Read : goal.returns-in_ok-access-in-Read
returns-in_ok-access-in-Read c =
    let asked = c.in_ok-access-in-Read.ensures in
    elim c.in-Read.is [
      | inl (id, address, len, is) ↦ rw is (rw (rw is at asked) at c.answer_at-in-Read.ensures)
      | inr (id, address, bytes, is) ↦ rw is (rw (rw is at asked) at c.answer_at-in-Read.ensures)
    ]

pub returns-in_ok-access-in-ReadTranslated : goal.returns-in_ok-access-in-ReadTranslated
returns-in_ok-access-in-ReadTranslated c =
    let asked = c.in_ok-access-in-ReadTranslated.ensures in
    let read = c.index-as_slice-place.result in
    let is_read = rw c.as_slice.ensures at c.index-as_slice-place.is in
    elim c.in-ReadTranslated.is [
      | inl (id, address, len, is) ↦ rw is (there c.args.kept.now.devices c.args.place read _ is_read (λ at own.
          stays_by c.may_answer.result (λ before. MayAnswerTranslated before read (read_of address len) c.args.outcome.now) c.args.kept.now (λ h past. rw (rw is at asked) at (c.may_answer.ensures h))))
      | inr (id, address, bytes, is) ↦ rw is (there c.args.kept.now.devices c.args.place read _ is_read (λ at own.
          stays_by c.may_answer.result (λ before. MayAnswerTranslated before read (write_of address bytes) c.args.outcome.now) c.args.kept.now (λ h past. rw (rw is at asked) at (c.may_answer.ensures h))))
    ]

pub returns-in_ok-access-in-ReadThroughCache : goal.returns-in_ok-access-in-ReadThroughCache
returns-in_ok-access-in-ReadThroughCache c =
    let asked = c.in_ok-access-in-ReadThroughCache.ensures in
    elim c.in-ReadThroughCache.is [
      | inl (id, address, len, is) ↦ rw is (rw (rw is at asked) at c.answer_at.ensures)
      | inr (id, address, bytes, is) ↦ rw is (rw (rw is at asked) at c.answer_at.ensures)
    ]
