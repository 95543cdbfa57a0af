use Rattle.std.proofs.Common.{◌≡◌, ◌&&◌, not, ◌∙◌, ℕ, Bool, true, false, List, Option, Some, None, is_some, get_or, refl, sym, ap, subst}
use Rattle.std.proofs.lemmas.Bool.{false≢true}
use Rattle.iom_driver.specs.declared.device.Device.{Device}
use Rattle.iom_driver.specs.declared.device.Stages.{Stages}
use Rattle.iom_driver.specs.Admitted.{MayBeAttached}
use Rattle.iom_driver.specs.Devices.{device_by_id, has_device, has_trusted_cache, owned_stages, owned_stages_of}
use Rattle.iom_driver.specs.Places.{IsAttachmentPlace}
use Rattle.iom_driver.specs.StateOf.{state_of}
use Rattle.iom_driver.proofs.AttachReasons.{not_started, no_such_device, already_attached, id_too_wide, not_trusted, may_attach}
use Rattle.iom_driver.proofs.Lists.{read_is}
use Rattle.iom_driver.proofs.Places.{attachment_is, trusted}
use Rattle.iom_driver.proofs.driver.Driver.admit_attach.Goals as goal

-- the device that is read at its place
found : (devices read : List Device) (id k : ℕ) (device : Device) → read ≡ devices → IsAttachmentPlace read id k → device ≡ get_or devices k device → device_by_id devices id ≡ Some device
found devices read id k device same place at =
    let here = subst (λ (ds : List Device). IsAttachmentPlace ds id k) same place in
    here.2 ∙ ap Some (sym (read_is devices k here.0 device here.1 at))

is_there : (devices : List Device) (id : ℕ) (device : Device) → device_by_id devices id ≡ Some device → has_device devices id ≡ true
is_there devices id device at = ap (λ (o : Option Device). is_some o) at

owns : (devices : List Device) (id : ℕ) (device : Device) (stages : Option Stages) → device_by_id devices id ≡ Some device → stages ≡ owned_stages device.attachment → owned_stages_of devices id ≡ stages
owns devices id device stages at is = ap owned_stages (attachment_is devices id device at) ∙ sym is

missing : {A : Type 0} (o : Option A) → is_some o ≡ false → o ≡ None
missing None none = refl
missing (Some x) none = absurd (false≢true (sym none))

lacks : (devices : List Device) (id : ℕ) (ats : Bool) (device : Device) (test answer : Bool) → device_by_id devices id ≡ Some device → test ≡ (ats && not device.trusted) → test ≡ answer
    → (ats && not (has_trusted_cache devices id)) ≡ answer
lacks devices id ats device test answer at is answered = trusted devices id ats device device at refl ∙ sym is ∙ answered

pub returns-then-not-self-clause-refused : goal.returns-then-not-self-clause-refused
returns-then-not-self-clause-refused c = not_started (state_of c.args.self.now) c.args.id c.args.ats c.if-not-self.true

pub returns-in_default-clause-refused : goal.returns-in_default-clause-refused
returns-in_default-clause-refused c =
    no_such_device (state_of c.args.self.now) c.args.id c.args.ats c.if-not-self.false
    (subst (λ (ds : List Device). device_by_id ds c.args.id ≡ None) c.deref.ensures.value c.in_default.ensures)

pub returns-then-is_some-clause-refused : goal.returns-then-is_some-clause-refused
returns-then-is_some-clause-refused c =
    let devices = c.args.self.now.devices.items in
    let device = c.index-device.result.now in
    let at = found devices c.deref.result.now c.args.id c.in-Some.place device c.deref.ensures.value c.in-Some.ensures c.index-device.ensures in
    let owned = owns devices c.args.id device c.owned_stages.result at c.owned_stages.ensures in
    already_attached (state_of c.args.self.now) c.args.id c.args.ats c.if-not-self.false (is_there devices c.args.id device at)
    (ap (λ (o : Option Stages). is_some o) owned ∙ sym c.is_some.ensures ∙ c.if-is_some.true)

pub returns-then-id-id_limit-clause-refused : goal.returns-then-id-id_limit-clause-refused
returns-then-id-id_limit-clause-refused c =
    let driver = c.args.self.now in
    let devices = driver.devices.items in
    let device = c.index-device.result.now in
    let at = found devices c.deref.result.now c.args.id c.in-Some.place device c.deref.ensures.value c.in-Some.ensures c.index-device.ensures in
    let owned = owns devices c.args.id device c.owned_stages.result at c.owned_stages.ensures in
    id_too_wide (state_of driver) c.args.id c.args.ats c.if-not-self.false (is_there devices c.args.id device at)
    (owned ∙ missing c.owned_stages.result (sym c.is_some.ensures ∙ c.if-is_some.false)) (rw c.id_limit.ensures at c.if-id-id_limit.true)

pub returns-then-lacks_trust-clause-refused : goal.returns-then-lacks_trust-clause-refused
returns-then-lacks_trust-clause-refused c =
    let driver = c.args.self.now in
    let devices = driver.devices.items in
    let id = c.args.id in
    let device = c.index-device.result.now in
    let at = found devices c.deref.result.now id c.in-Some.place device c.deref.ensures.value c.in-Some.ensures c.index-device.ensures in
    let owned = owns devices id device c.owned_stages.result at c.owned_stages.ensures in
    let may : MayBeAttached (state_of driver) id = record {
      started = c.if-not-self.false;
      plugged = is_there devices id device at;
      nothing = owned ∙ missing c.owned_stages.result (sym c.is_some.ensures ∙ c.if-is_some.false);
      narrow = rw c.id_limit.ensures at c.if-id-id_limit.false;
    } in
    not_trusted (state_of driver) id c.args.ats may (lacks devices id c.args.ats device c.lacks_trust.result true at c.lacks_trust.ensures c.if-lacks_trust.true)

pub returns : goal.returns
returns c =
    let driver = c.args.self.now in
    let devices = driver.devices.items in
    let id = c.args.id in
    let device = c.index-device.result.now in
    let at = found devices c.deref.result.now id c.in-Some.place device c.deref.ensures.value c.in-Some.ensures c.index-device.ensures in
    let owned = owns devices id device c.owned_stages.result at c.owned_stages.ensures in
    let may : MayBeAttached (state_of driver) id = record {
      started = c.if-not-self.false;
      plugged = is_there devices id device at;
      nothing = owned ∙ missing c.owned_stages.result (sym c.is_some.ensures ∙ c.if-is_some.false);
      narrow = rw c.id_limit.ensures at c.if-id-id_limit.false;
    } in
    record {
      admitted = may_attach (state_of driver) id c.args.ats may (lacks devices id c.args.ats device c.lacks_trust.result false at c.lacks_trust.ensures c.if-lacks_trust.false);
      may = may;
      place = subst (λ (ds : List Device). IsAttachmentPlace ds id c.in-Some.place) c.deref.ensures.value c.in-Some.ensures;
      refused = tt;
    }
