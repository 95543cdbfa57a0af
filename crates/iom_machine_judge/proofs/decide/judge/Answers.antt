use Rattle.std.proofs.Common.{inl, inr}
use Rattle.iom_machine_judge.proofs.decide.judge.Goals as goal

pub returns-in-Restart : goal.returns-in-Restart
returns-in-Restart c = elim c.in-Restart.is [
  | inl is ↦ rw is (rw is at c.judge_unchanged-in-Restart.ensures)
  | inr (inl is) ↦ rw is (rw is at c.judge_unchanged-in-Restart.ensures)
  | inr (inr (inl is)) ↦ rw is (rw is at c.judge_unchanged-in-Restart.ensures)
  | inr (inr (inr is)) ↦ rw is (rw is at c.judge_unchanged-in-Restart.ensures)
]

pub returns-in-Deliver : goal.returns-in-Deliver
returns-in-Deliver c = elim c.in-Deliver.is [
  | inl (place, is) ↦ rw is (rw is at c.judge_unchanged.ensures)
  | inr (inl (place, is)) ↦ rw is (rw is at c.judge_unchanged.ensures)
  | inr (inr (place, is)) ↦ rw is (rw is at c.judge_unchanged.ensures)
]

pub returns-in-Poll : goal.returns-in-Poll
returns-in-Poll c = rw c.in-Poll.is c.judge_poll.ensures

pub returns-in-Poke : goal.returns-in-Poke
returns-in-Poke c = rw c.in-Poke.is (rw c.as_slice.ensures at c.judge_poke.ensures)

pub returns-in-Peek : goal.returns-in-Peek
returns-in-Peek c = rw c.in-Peek.is c.judge_peek.ensures

pub returns-in-Free : goal.returns-in-Free
returns-in-Free c = rw c.in-Free.is c.judge_free.ensures

pub returns-in-Read : goal.returns-in-Read
returns-in-Read c = elim c.in-Read.is [
  | inl (address, len, is) ↦ rw is (rw is at c.judge_act.ensures)
  | inr (inl (address, bytes, is)) ↦ rw is (rw is at c.judge_act.ensures)
  | inr (inr (inl (address, len, is))) ↦ rw is (rw is at c.judge_act.ensures)
  | inr (inr (inr (inl (address, bytes, is)))) ↦ rw is (rw is at c.judge_act.ensures)
  | inr (inr (inr (inr (inl (address, len, is))))) ↦ rw is (rw is at c.judge_act.ensures)
  | inr (inr (inr (inr (inr (inl (address, bytes, is)))))) ↦ rw is (rw is at c.judge_act.ensures)
  | inr (inr (inr (inr (inr (inr (inl (page, is))))))) ↦ rw is (rw is at c.judge_act.ensures)
  | inr (inr (inr (inr (inr (inr (inr (inl (serial, is)))))))) ↦ rw is (rw is at c.judge_act.ensures)
  | inr (inr (inr (inr (inr (inr (inr (inr (inl is)))))))) ↦ rw is (rw is at c.judge_act.ensures)
  | inr (inr (inr (inr (inr (inr (inr (inr (inr (inl (disk, is)))))))))) ↦ rw is (rw is at c.judge_act.ensures)
  | inr (inr (inr (inr (inr (inr (inr (inr (inr (inr (inl (size, descriptors, available, used, is))))))))))) ↦ rw is (rw is at c.judge_act.ensures)
  | inr (inr (inr (inr (inr (inr (inr (inr (inr (inr (inr (inl is))))))))))) ↦ rw is (rw is at c.judge_act.ensures)
  | inr (inr (inr (inr (inr (inr (inr (inr (inr (inr (inr (inr (inl is)))))))))))) ↦ rw is (rw is at c.judge_act.ensures)
  | inr (inr (inr (inr (inr (inr (inr (inr (inr (inr (inr (inr (inr (is))))))))))))) ↦ rw is (rw is at c.judge_act.ensures)
]

pub returns-in-Plug : goal.returns-in-Plug
returns-in-Plug c = elim c.in-Plug.is [
  | inl (id, what, is) ↦ rw is (rw is at c.judge_call-in-Plug.ensures)
  | inr (inl (id, mode, ats, is)) ↦ rw is (rw is at c.judge_call-in-Plug.ensures)
  | inr (inr (inl (id, is))) ↦ rw is (rw is at c.judge_call-in-Plug.ensures)
  | inr (inr (inr (id, page, frame, rights, is))) ↦ rw is (rw is at c.judge_call-in-Plug.ensures)
]

pub returns-in-Release : goal.returns-in-Release
returns-in-Release c = elim c.in-Release.is [
  | inl (id, page, is) ↦ rw is (rw is at c.judge_call.ensures)
  | inr (inl (id, is)) ↦ rw is (rw is at c.judge_call.ensures)
  | inr (inr (id, is)) ↦ rw is (rw is at c.judge_call.ensures)
]
