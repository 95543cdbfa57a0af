-- What a step of a block device leaves that begins an access.
use Rattle.std.proofs.Common.{◌≡◌, ℕ, Bool, Some, Result, Ok, Err, IfOk, get_or, slice_get, sym, ap, subst, ◌∙◌}
use Rattle.std.specs.declared.alloc.AllocError.{AllocError}
use Rattle.iom_base.specs.declared.access.Access.{Access}
use Rattle.iom_base.specs.Accesses.{MayWant}
use Rattle.iom_base.specs.DeviceKinds.{has_cache}
use Rattle.iom_kept_state.specs.declared.state.KeptState.{KeptState}
use Rattle.iom_kept_state.specs.States.{state_of, Decides}
use Rattle.iom_machine.specs.declared.outcome.Outcome.{Outcome}
use Rattle.iom_machine.specs.declared.state.Device.{Device}
use Rattle.iom_machine.specs.BlockDevices.{IsAnswered, Begins}
use Rattle.iom_machine.specs.Judging.{StandsAt}
use Rattle.iom_machine.proofs.StepLemmas.{read_again}
use Rattle.iom_machine_judge.proofs.LeftLemmas.{decides_alike}

-- a copy of the access is answered as the kind of the device that was read has it
pub begins_if_ok : (result : Result Bool AllocError) (b : Bool) (old new : KeptState) (place : ℕ) (read : Device) (access wanted : Access) (frame : ℕ) (outcome : Outcome)
    → MayWant access → wanted ≡ access → read ≡ get_or old.devices place read → has_cache read.kind ≡ b
    → IfOk result (λ may. (device : Device) → slice_get old.devices place ≡ Some device → StandsAt old.devices device.id place
    → Decides may old new (λ before after. IsAnswered b before device wanted frame outcome after))
    → IfOk result (λ may. (device : Device) → slice_get old.devices place ≡ Some device → StandsAt old.devices device.id place
    → Decides may old new (λ before after. Begins before device access frame outcome after))
begins_if_ok (Ok answer) b old new place read access wanted frame outcome may is_copy is kind decides = λ device at own.
    let same : device ≡ read = read_again old.devices place device read at is in
    let its_kind : has_cache device.kind ≡ b = ap (λ (d : Device). has_cache d.kind) same ∙ kind in
    decides_alike answer old new (λ before after. IsAnswered b before device wanted frame outcome after) (λ before after. Begins before device access frame outcome after)
    (λ h after. (
      (λ is_so. (may, subst (λ c. IsAnswered c (state_of old h) device access frame outcome after) (sym its_kind) (subst (λ a. IsAnswered b (state_of old h) device a frame outcome after) is_copy is_so))),
      (λ begins. subst (λ a. IsAnswered b (state_of old h) device a frame outcome after) (sym is_copy) (subst (λ c. IsAnswered c (state_of old h) device access frame outcome after) its_kind begins.1)),
    ))
    (decides device at own)
begins_if_ok (Err e) b old new place read access wanted frame outcome may is_copy is kind decides = decides
