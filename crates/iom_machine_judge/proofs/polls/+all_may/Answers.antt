use Rattle.std.proofs.Common.{◌≡◌, ◌∙◌, ◌<◌, ◌-◌, suc, Some, slice_get, length, refl, sym, arith}
use Rattle.std.proofs.lemmas.Bool.{false≢true}
use Rattle.std.proofs.lemmas.Option.{slice_get_read}
use Rattle.iom_ledger.specs.History.{confirmed_from}
use Rattle.iom_machine.specs.Devices.{DeviceMay}
use Rattle.iom_machine.proofs.InFlightLemmas.{All-at, All-by_parts}
use Rattle.iom_machine_judge.proofs.polls.+all_may.Goals as goal

pub returns-else-each_may : goal.returns-else-each_may
returns-else-each_may t c = λ h past.
    let some : 0 < length c.args.devices.now = omega (arith, c.in-len1-up.len_at_least) in
    let first : slice_get c.args.devices.now 0 ≡ Some c.device-item.result =
    slice_get_read c.args.devices.now _ 0 c.device-item.result refl some c.device-item.is in
    let decides = rw c.as_slice.ensures at (c.each_may.ensures h past) in (
      (λ yes. absurd (false≢true (sym c.if-each_may.false ∙ yes))),
      (λ all. absurd (false≢true (sym c.if-each_may.false ∙ decides.1
          (All-at (DeviceMay (confirmed_from c.args.first (suc (c.args.last - c.args.first)) h)) c.args.devices.now 0 c.device-item.result all first)))),
    )

pub returns-then-each_may : goal.returns-then-each_may
returns-then-each_may t c = λ h past.
    let some : 0 < length c.args.devices.now = omega (arith, c.in-len1-up.len_at_least) in
    let first : slice_get c.args.devices.now 0 ≡ Some c.device-item.result =
    slice_get_read c.args.devices.now _ 0 c.device-item.result refl some c.device-item.is in
    let decides = rw c.as_slice.ensures at (c.each_may.ensures h past) in
    let parts = All-by_parts (DeviceMay (confirmed_from c.args.first (suc (c.args.last - c.args.first)) h)) c.args.devices.now c.device-item.result first in
    ((λ yes. parts.0 (decides.0 c.if-each_may.true) ((c.all_may.ensures h past).0 yes)), (λ all. (c.all_may.ensures h past).1 (parts.1 all)))
