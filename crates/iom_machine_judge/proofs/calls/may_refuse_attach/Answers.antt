use Rattle.std.proofs.Common.{inl, inr}
use Rattle.iom_machine.proofs.FrameLemmas.{fewer_besides_none}
use Rattle.iom_kept_state.specs.States.{state_of}
use Rattle.iom_machine_judge.proofs.calls.may_refuse_attach.Goals as goal

pub returns-in-First : goal.returns-in-First
returns-in-First c = rw (c.in-NoFrames.is, c.in-First.is) (λ h past.
    let both = fewer_besides_none (state_of c.args.kept.now h) 3 in
    ((λ yes. both.0 ((c.are_fewer_free.ensures h past).0 yes)), (λ fewer. (c.are_fewer_free.ensures h past).1 (both.1 fewer))))

pub returns-in-Second : goal.returns-in-Second
returns-in-Second c = rw c.in-NoFrames.is (elim c.in-Second.is [
  | inl (size, is) ↦ rw is c.are_fewer_runs_free.ensures
  | inr (size, is) ↦ rw is c.are_fewer_runs_free.ensures
])
