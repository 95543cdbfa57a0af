-- The steps that the judge decides together: those of events of one sort.
-- For the judge's own functions alone; no public contract cites these.
use Rattle.std.specs.Prelude.{◌≡◌, ℕ, Bool, true, false}
use Rattle.iom_base.specs.Accesses.{read_of, write_of}
use Rattle.iom_base.specs.DeviceKinds.{is_block_device, sends_untranslated, forges, sends_through_cache, asks_questions, is_any_kind}
use Rattle.iom_base.specs.declared.access.Access.{Access}
use Rattle.iom_base.specs.declared.device_kind.DeviceKind.{DeviceKind}
use Rattle.iom_machine.specs.declared.choice.Choice.{Choice}
use Rattle.iom_machine.specs.declared.event.Event.{Event}
use Rattle.iom_machine.specs.declared.event.Event.TheVariants as events
use Rattle.iom_machine.specs.declared.outcome.Outcome.{Outcome}
use Rattle.iom_machine.specs.declared.outcome.Outcome.TheVariants.{Done}
use Rattle.iom_machine.specs.declared.state.Device.{Device}
use Rattle.iom_machine.specs.declared.state.State.{State}
use Rattle.iom_machine.specs.BlockDevices.{Inserts, MaySet, IsStatus, TakesStep, IsAnswered}
use Rattle.iom_machine.specs.Machine.{Plugs, Attaches, Detaches, Grants, Releases, Quarantines, Revives, Restarts, Fetches, TimesOut, TakesRecord, Makes}
use Rattle.iom_machine.specs.Messages.{Sends, Delivers, Drops, Repeats}
use Rattle.iom_machine.specs.Translated.{MayAnswerTranslated}
use Rattle.iom_virtqueue.specs.Layouts.{layout_of}

-- the step of a call of the driver; no other event is one
abbrev pub CallStep : Choice → State → Event → Outcome → State → Type 0
CallStep choice old (events.Plug id what) outcome new = Plugs old id what outcome new
CallStep choice old (events.Attach id mode ats) outcome new = Attaches choice.directory choice.taken old id mode ats outcome new
CallStep choice old (events.Detach id) outcome new = Detaches old id outcome new
CallStep choice old (events.Grant id page frame rights) outcome new = Grants choice.taken old id page frame rights outcome new
CallStep choice old (events.Release id page) outcome new = Releases old id page outcome new
CallStep choice old (events.Quarantine id) outcome new = Quarantines old id outcome new
CallStep choice old (events.Revive id) outcome new = Revives old id outcome new
CallStep choice old _ outcome new = ⊥

-- the step of an event of the queues or of a message, which leaves the state as it is; no other event is one
abbrev pub UnchangedStep : Choice → State → Event → Outcome → State → Type 0
UnchangedStep choice old events.Restart outcome new = Restarts old outcome new
UnchangedStep choice old events.Fetch outcome new = Fetches old outcome new
UnchangedStep choice old events.Timeout outcome new = TimesOut old outcome new
UnchangedStep choice old events.Faults outcome new = TakesRecord old outcome new
UnchangedStep choice old (events.Deliver place) outcome new = Delivers choice.device choice.page old outcome new
UnchangedStep choice old (events.Drop place) outcome new = Drops old outcome new
UnchangedStep choice old (events.Repeat place) outcome new = Repeats old outcome new
UnchangedStep choice old _ outcome new = ⊥

-- which kinds of device can do what the event asks
abbrev pub able_to : Event → DeviceKind → Bool
able_to (events.Read id address len) = sends_untranslated
able_to (events.Write id address bytes) = sends_untranslated
able_to (events.ReadTranslated id address len) = forges
able_to (events.WriteTranslated id address bytes) = forges
able_to (events.Forge id serial) = forges
able_to (events.ReadThroughCache id address len) = sends_through_cache
able_to (events.WriteThroughCache id address bytes) = sends_through_cache
able_to (events.Ask id page) = asks_questions
able_to (events.Medium id disk) = is_block_device
able_to (events.Queue id size descriptors available used) = is_block_device
able_to (events.Step id) = is_block_device
able_to (events.Status id) = is_block_device
able_to _ = is_any_kind

-- the access that the event asks for, by whichever way; that of another event means nothing
abbrev pub asked_by : Event → Access
asked_by (events.Read id address len) = read_of address len
asked_by (events.ReadTranslated id address len) = read_of address len
asked_by (events.ReadThroughCache id address len) = read_of address len
asked_by (events.Write id address bytes) = write_of address bytes
asked_by (events.WriteTranslated id address bytes) = write_of address bytes
asked_by (events.WriteThroughCache id address bytes) = write_of address bytes
asked_by _ = read_of 0 0

-- what comes of the act of a device that is plugged in and can do what the event asks; no other event is an act
abbrev pub ActStep : ℕ → Access → Event → Device → State → Outcome → State → Type 0
ActStep frame access (events.Read id address len) device old outcome new = IsAnswered false old device (read_of address len) frame outcome new
ActStep frame access (events.Write id address bytes) device old outcome new = IsAnswered false old device (write_of address bytes) frame outcome new
ActStep frame access (events.ReadTranslated id address len) device old outcome new = MayAnswerTranslated old device (read_of address len) outcome × (new ≡ old)
ActStep frame access (events.WriteTranslated id address bytes) device old outcome new = MayAnswerTranslated old device (write_of address bytes) outcome × (new ≡ old)
ActStep frame access (events.ReadThroughCache id address len) device old outcome new = IsAnswered true old device (read_of address len) frame outcome new
ActStep frame access (events.WriteThroughCache id address bytes) device old outcome new = IsAnswered true old device (write_of address bytes) frame outcome new
ActStep frame access (events.Ask id page) device old outcome new = Sends old outcome new
ActStep frame access (events.Forge id serial) device old outcome new = Sends old outcome new
ActStep frame access (events.Reset id) device old outcome new = (outcome ≡ Done) × (new ≡ old)
ActStep frame access (events.Medium id disk) device old outcome new = Inserts disk old device outcome new
ActStep frame access (events.Queue id size descriptors available used) device old outcome new = MaySet (layout_of size descriptors available used) outcome × (new ≡ old)
ActStep frame access (events.Step id) device old outcome new = TakesStep old device access frame outcome new
ActStep frame access (events.Status id) device old outcome new = IsStatus outcome × (new ≡ old)
ActStep frame access (events.Commit id) device old outcome new = Makes old device outcome new
ActStep frame access _ device old outcome new = ⊥
