use Rattle.std.proofs.Common.{◌≡◌, not, refl, rules, sym, subst, ◌∙◌}
use Rattle.std.proofs.lemmas.Bool.{false≢true}
use Rattle.iom_base.specs.declared.refusal.Refusal.TheVariants.{BadMedium}
use Rattle.iom_kept_state.specs.States.{state_of}
use Rattle.iom_machine.specs.declared.outcome.Outcome.TheVariants.{Refused}
use Rattle.iom_machine.specs.declared.state.Device.{Device}
use Rattle.iom_machine.specs.BlockDevices.{MayInsert, with_disk}
use Rattle.iom_machine.proofs.StepLemmas.{read_again}
use Rattle.iom_machine_judge.proofs.LeftLemmas.{stays_by}
use Rattle.iom_machine_judge.proofs.DecidedLemmas.{comes, never_comes, never_by}
use Rattle.iom_machine_judge.proofs.block_devices.insert.Goals as goal

pub returns-then-not-may : goal.returns-then-not-may
returns-then-not-may c = rw c.in-Done.is (λ device at own.
    let same = read_again c.args.kept.now.devices c.args.place device c.index-as_slice-place.result at (rw c.as_slice.ensures at c.index-as_slice-place.is) in
    never_comes c.args.kept.now (λ before. MayInsert c.args.disk before device) (λ before. with_disk c.args.disk before device)
    (λ h past may. false≢true (sym c.if-not-may.true ∙ (c.may_insert-may.ensures h).1 (subst (λ (d : Device). MayInsert c.args.disk (state_of c.args.kept.now h) d) same may))))

pub returns-in_ok-put_in-in-Done : goal.returns-in_ok-put_in-in-Done
returns-in_ok-put_in-in-Done c = rw c.in-Done.is (λ device at own.
    let same = read_again c.args.kept.now.devices c.args.place device c.index-as_slice-place.result at (rw c.as_slice.ensures at c.index-as_slice-place.is) in
    comes c.args.kept.now c.put_in.new.kept (λ before. MayInsert c.args.disk before device) (λ before. with_disk c.args.disk before device)
    c.in_ok-put_in-in-Done.ensures.grants
    (λ h past. subst (λ (d : Device). MayInsert c.args.disk (state_of c.args.kept.now h) d) (sym same) ((c.may_insert-may.ensures h).0 c.if-not-may.false))
    (λ h past. c.in_ok-put_in-in-Done.ensures.state device at own h))

pub returns-in-Refused-BadMedium : goal.returns-in-Refused-BadMedium
returns-in-Refused-BadMedium c =
    let refused : c.args.outcome.now ≡ Refused BadMedium = search rules in
    rw refused (λ device at own.
    let same = read_again c.args.kept.now.devices c.args.place device c.index-as_slice-place.result at (rw c.as_slice.ensures at c.index-as_slice-place.is) in
    stays_by (not c.may_insert-may.result) (λ before. (¬ MayInsert c.args.disk before device) × (BadMedium ≡ BadMedium)) c.args.kept.now
    (λ h past. let decides = never_by c.may_insert-may.result (MayInsert c.args.disk (state_of c.args.kept.now h) device) (rw (sym same) at (c.may_insert-may.ensures h)) in
    ((λ yes. (decides.0 yes, refl)), (λ both. decides.1 both.0))))
