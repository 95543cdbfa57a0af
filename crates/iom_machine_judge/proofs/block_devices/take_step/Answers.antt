use Rattle.std.proofs.Common.{◌↔◌, IsTrue, inl, inr, sym, subst}
use Rattle.iom_kept_state.specs.States.{state_of}
use Rattle.iom_machine.specs.declared.state.Device.{Device}
use Rattle.iom_machine.specs.BlockDevices.{MayBe}
use Rattle.iom_machine.proofs.StepLemmas.{read_again}
use Rattle.iom_machine_judge.proofs.LeftLemmas.{stays_by}
use Rattle.iom_machine_judge.proofs.block_devices.take_step.Goals as goal

pub returns-in-Stepped : goal.returns-in-Stepped
returns-in-Stepped c = rw c.in-Stepped.is (λ device at own.
    let same = read_again c.args.kept.now.devices c.args.place device c.index-as_slice-place.result at (rw c.as_slice.ensures at c.index-as_slice-place.is) in
    stays_by c.may_be.result (λ before. MayBe before device c.args.access.now c.in-Stepped.step) c.args.kept.now
    (λ h past. subst (λ (d : Device). IsTrue c.may_be.result ↔ MayBe (state_of c.args.kept.now h) d c.args.access.now c.in-Stepped.step) (sym same) (c.may_be.ensures h)))

pub returns-in-Accepted : goal.returns-in-Accepted
returns-in-Accepted c = elim c.in-Accepted.is [
  | inl (number, is) ↦ rw is (rw is at c.begin.ensures)
  | inr (inl is) ↦ rw is (rw is at c.begin.ensures)
  | inr (inr (cause, is)) ↦ rw is (rw is at c.begin.ensures)
]
