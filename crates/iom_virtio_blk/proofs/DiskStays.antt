-- A step of a block device leaves its disk where it is.
use Rattle.std.proofs.Common.{◌≡◌, ◌∙◌, inl, inr, ℕ, Bool, true, false, is_some, List, Option, Some, None, refl, sym, ap}
use Rattle.iom_virtio_blk.specs.declared.step.Call.{Call}
use Rattle.iom_virtio_blk.specs.declared.step.Call.TheVariants.{Read, Write, Flush}
use Rattle.iom_virtio_blk.specs.declared.step.Step.{Step}
use Rattle.iom_virtio_blk.specs.declared.step.Step.TheVariants as step
use Rattle.iom_virtio_blk.specs.Disks.{name_in, CalledWell, HasReason, HasFlushReason, KeepsSectors, Tears, sector_count}
use Rattle.iom_virtio_blk.specs.DiskStates.{DiskState}
use Rattle.iom_virtio_blk.specs.Blocks.{call_after, after_served}
use Rattle.iom_virtio_blk.specs.Steps.{Device, BlockDeviceSteps, Calls, UsesIn, GoesOnIn}
use Rattle.iom_virtqueue.specs.declared.phase.Phase.{Phase}
use Rattle.iom_virtqueue.specs.declared.phase.Phase.TheVariants.{Served}

well : (old new : Option DiskState) → CalledWell old new → name_in new ≡ name_in old
well None new called = absurd called
well (Some old) None called = absurd called
well (Some old) (Some new) called = ap Some called.name

-- a call that failed where there is a disk
reason : (old new : DiskState) (sector : ℕ) → HasReason (Some old) sector (Some new) → new.name ≡ old.name
reason old new sector (inl beyond) = ap (λ (disk : DiskState). disk.name) beyond.1
reason old new sector (inr fails) = fails.name

failed_read : (old new : Option DiskState) (sector : ℕ) → HasReason old sector new → KeepsSectors old new → name_in new ≡ name_in old
failed_read None None sector why same = refl
failed_read None (Some new) sector why same = absurd same
failed_read (Some old) None sector why same = absurd why
failed_read (Some old) (Some new) sector why same = ap Some (reason old new sector why)

failed_write : (old new : Option DiskState) (sector : ℕ) (bytes : List ℕ) → HasReason old sector new → Tears old sector bytes new → name_in new ≡ name_in old
failed_write None None sector bytes why tears = refl
failed_write None (Some new) sector bytes why tears = absurd tears
failed_write (Some old) None sector bytes why tears = absurd why
failed_write (Some old) (Some new) sector bytes why tears = ap Some (reason old new sector why)

failed_flush : (old new : Option DiskState) → HasFlushReason old new → KeepsSectors old new → name_in new ≡ name_in old
failed_flush None None why same = refl
failed_flush None (Some new) why same = absurd same
failed_flush (Some old) None why same = absurd why
failed_flush (Some old) (Some new) why same = ap Some why.name

called : (call : Option Call) (done : Bool) (old new : Option DiskState) (kept buffer : List ℕ) → Calls call done old kept new buffer → name_in new ≡ name_in old
called None true old new kept buffer calls = ap name_in calls.0
called None false old new kept buffer calls = absurd calls
called (Some (Read sector)) true old new kept buffer calls = well old new calls.2
called (Some (Read sector)) false old new kept buffer calls = failed_read old new sector calls.0 calls.1
called (Some (Write sector)) true old new kept buffer calls = well old new calls.2
called (Some (Write sector)) false old new kept buffer calls = failed_write old new sector kept calls.0 calls.1
called (Some Flush) true old new kept buffer calls = well old new calls.3
called (Some Flush) false old new kept buffer calls = failed_flush old new calls.0 calls.1

used : (phase : Phase) (old new : Device) → UsesIn phase old new → name_in new.disk ≡ name_in old.disk
used Served old new serves =
    called (call_after old.front (sector_count old.disk)) serves.0 old.disk new.disk (after_served old.front (sector_count old.disk)).buffer new.front.buffer serves.1
used phase old new takes = ap name_in takes.1

went : (made : Bool) (old new : Device) → GoesOnIn made old new → name_in new.disk ≡ name_in old.disk
went false old new same = ap (λ (d : Device). name_in d.disk) same
went true old new uses = used old.front.queue.phase old new uses

-- it is the same disk, if there is one
pub name_stays : (taken : Step) (old new : Device) → BlockDeviceSteps old taken new → name_in new.disk ≡ name_in old.disk
name_stays step.Down old new steps = ap (λ (d : Device). name_in d.disk) steps.1
name_stays step.Idle old new (inl (off, up, same)) = ap (λ (d : Device). name_in d.disk) same
name_stays step.Idle old new (inr (counts, takes)) = ap name_in takes.1
name_stays step.Waiting old new steps = ap (λ (d : Device). name_in d.disk) steps.2
name_stays (step.Chain fault) old new steps = ap name_in steps.3
name_stays (step.Finished head len) old new steps = ap name_in steps.4.1
name_stays (step.Wants want) old new steps = went old.front.is_made old new steps.4

has_name : (disk : Option DiskState) → is_some disk ≡ is_some (name_in disk)
has_name None = refl
has_name (Some disk) = refl

pub disk_stays : (taken : Step) (old new : Device) → BlockDeviceSteps old taken new → is_some new.disk ≡ is_some old.disk
disk_stays taken old new steps = has_name new.disk ∙ ap is_some (name_stays taken old new steps) ∙ sym (has_name old.disk)
