-- What `==` says of two devices as a driver keeps them.
use Rattle.std.proofs.Common.{◌≡◌, ℕ, Bool, refl, ap}
use Rattle.std.specs.Bool.{Decides}
use Rattle.std.specs.Cmp.{booleans_Decides}
use Rattle.std.proofs.lemmas.Bool.Decides.{Decides-like, Decides-and, Decides-eqb}
use Rattle.iom_base.specs.contracts.size.SizePartialEq.TheImpl as size
use Rattle.iom_base.specs.declared.size.Size.{Size}
use Rattle.iom_base.specs.declared.size.Size.TheVariants.{Sv39, Sv48}
use Rattle.iom_base.specs.contracts.mode.ModePartialEq.TheImpl as mode
use Rattle.iom_base.specs.declared.mode.Mode.{Mode}
use Rattle.iom_base.specs.declared.mode.Mode.TheVariants.{First, Second, Both}
use Rattle.iom_driver.specs.contracts.device.StagesPartialEq.TheImpl as stages
use Rattle.iom_driver.specs.declared.device.Stages.{Stages}
use Rattle.iom_driver.specs.contracts.device.AttachmentPartialEq.TheImpl as attachment
use Rattle.iom_driver.specs.declared.device.Attachment.{Attachment}
use Rattle.iom_driver.specs.declared.device.Attachment.TheVariants.{Detached, Attached, Quarantined, Leaving}
use Rattle.iom_driver.specs.contracts.device.DevicePartialEq.TheImpl as device
use Rattle.iom_driver.specs.declared.device.Device.{Device}

size_decides : (a b : Size) → Decides (size.ghosts.eq a b) (a ≡ b)
size_decides Sv39 Sv39 = (λ yes. refl, λ same. refl)
size_decides Sv39 Sv48 = (λ yes. absurd (cc yes), λ same. absurd (cc same))
size_decides Sv48 Sv39 = (λ yes. absurd (cc yes), λ same. absurd (cc same))
size_decides Sv48 Sv48 = (λ yes. refl, λ same. refl)

mode_decides : (a b : Mode) → Decides (mode.ghosts.eq a b) (a ≡ b)
mode_decides (First s) (First t) = Decides-like _ (λ same. ap First same) (λ same. cc same) (size_decides s t)
mode_decides (Second s) (Second t) = Decides-like _ (λ same. ap Second same) (λ same. cc same) (size_decides s t)
mode_decides (Both s) (Both t) = Decides-like _ (λ same. ap Both same) (λ same. cc same) (size_decides s t)
mode_decides (First s) (Second t) = (λ yes. absurd (cc yes), λ same. absurd (cc same))
mode_decides (First s) (Both t) = (λ yes. absurd (cc yes), λ same. absurd (cc same))
mode_decides (Second s) (First t) = (λ yes. absurd (cc yes), λ same. absurd (cc same))
mode_decides (Second s) (Both t) = (λ yes. absurd (cc yes), λ same. absurd (cc same))
mode_decides (Both s) (First t) = (λ yes. absurd (cc yes), λ same. absurd (cc same))
mode_decides (Both s) (Second t) = (λ yes. absurd (cc yes), λ same. absurd (cc same))

-- stages with the same parts are equal
stages_are : (mode other_mode : Mode) (root other_root number other_number : ℕ) (ats other_ats : Bool)
    → mode ≡ other_mode → root ≡ other_root → number ≡ other_number → ats ≡ other_ats
    → ◌≡◌ {A = Stages} (record { mode = mode; root = root; number = number; ats = ats }) (record { mode = other_mode; root = other_root; number = other_number; ats = other_ats })
stages_are mode other_mode root other_root number other_number ats other_ats same same_root same_number same_ats = cc

stages_decide : (a b : Stages) → Decides (stages.ghosts.eq a b) (a ≡ b)
stages_decide a b =
    Decides-like _ (λ parts. stages_are a.mode b.mode a.root b.root a.number b.number a.ats b.ats parts.0 parts.1.0 parts.1.1.0 parts.1.1.1)
    (λ same. (ap (λ (s : Stages). s.mode) same, (ap (λ (s : Stages). s.root) same, (ap (λ (s : Stages). s.number) same, ap (λ (s : Stages). s.ats) same))))
    (Decides-and _ _ (mode_decides a.mode b.mode) (Decides-and _ _ (Decides-eqb a.root b.root) (Decides-and _ _ (Decides-eqb a.number b.number) (booleans_Decides a.ats b.ats))))

attachment_decides : (a b : Attachment) → Decides (attachment.ghosts.eq a b) (a ≡ b)
attachment_decides Detached Detached = (λ yes. refl, λ same. refl)
attachment_decides (Attached s) (Attached t) = Decides-like _ (λ same. ap Attached same) (λ same. cc same) (stages_decide s t)
attachment_decides (Quarantined n s) (Quarantined m t) =
    Decides-like _ (λ parts. let number = parts.0 in let stage = parts.1 in cc) (λ same. (cc same, cc same)) (Decides-and _ _ (Decides-eqb n m) (stages_decide s t))
attachment_decides (Leaving n s) (Leaving m t) =
    Decides-like _ (λ parts. let number = parts.0 in let stage = parts.1 in cc) (λ same. (cc same, cc same)) (Decides-and _ _ (Decides-eqb n m) (stages_decide s t))
attachment_decides Detached (Attached t) = (λ yes. absurd (cc yes), λ same. absurd (cc same))
attachment_decides Detached (Quarantined m t) = (λ yes. absurd (cc yes), λ same. absurd (cc same))
attachment_decides Detached (Leaving m t) = (λ yes. absurd (cc yes), λ same. absurd (cc same))
attachment_decides (Attached s) Detached = (λ yes. absurd (cc yes), λ same. absurd (cc same))
attachment_decides (Attached s) (Quarantined m t) = (λ yes. absurd (cc yes), λ same. absurd (cc same))
attachment_decides (Attached s) (Leaving m t) = (λ yes. absurd (cc yes), λ same. absurd (cc same))
attachment_decides (Quarantined n s) Detached = (λ yes. absurd (cc yes), λ same. absurd (cc same))
attachment_decides (Quarantined n s) (Attached t) = (λ yes. absurd (cc yes), λ same. absurd (cc same))
attachment_decides (Quarantined n s) (Leaving m t) = (λ yes. absurd (cc yes), λ same. absurd (cc same))
attachment_decides (Leaving n s) Detached = (λ yes. absurd (cc yes), λ same. absurd (cc same))
attachment_decides (Leaving n s) (Attached t) = (λ yes. absurd (cc yes), λ same. absurd (cc same))
attachment_decides (Leaving n s) (Quarantined m t) = (λ yes. absurd (cc yes), λ same. absurd (cc same))

-- devices with the same parts are equal
device_is : (id other_id : ℕ) (trusted other_trusted : Bool) (attachment other_attachment : Attachment) → id ≡ other_id → trusted ≡ other_trusted → attachment ≡ other_attachment
    → ◌≡◌ {A = Device} (record { id = id; trusted = trusted; attachment = attachment }) (record { id = other_id; trusted = other_trusted; attachment = other_attachment })
device_is id other_id trusted other_trusted attachment other_attachment same same_trust same_attachment = cc

pub device_decides : (a b : Device) → Decides (device.ghosts.eq a b) (a ≡ b)
device_decides a b =
    Decides-like _ (λ parts. device_is a.id b.id a.trusted b.trusted a.attachment b.attachment parts.0 parts.1.0 parts.1.1)
    (λ same. (ap (λ (d : Device). d.id) same, (ap (λ (d : Device). d.trusted) same, ap (λ (d : Device). d.attachment) same)))
    (Decides-and _ _ (Decides-eqb a.id b.id) (Decides-and _ _ (booleans_Decides a.trusted b.trusted) (attachment_decides a.attachment b.attachment)))
