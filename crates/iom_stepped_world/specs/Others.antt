-- The events in which what is under way has no part but that it is given up, or that all begins anew.
use Rattle.std.specs.Prelude.{◌≡◌, ℕ, ◌^◌, ◌<◌, ⊤}
use Rattle.iom_machine.specs.declared.event.Event.{Event}
use Rattle.iom_machine.specs.declared.event.Event.TheVariants as events

-- what is under way stays at each of these
abbrev pub LeavesWalks : Event → Type 0
LeavesWalks (events.Plug id what) = ⊥
LeavesWalks (events.Detach id) = ⊥
LeavesWalks (events.Reset id) = ⊥
LeavesWalks (events.Revive id) = ⊥
LeavesWalks (events.Queue id size descriptors available used) = ⊥
LeavesWalks events.Fetch = ⊥
LeavesWalks (events.Read id address len) = ⊥
LeavesWalks (events.Write id address bytes) = ⊥
LeavesWalks (events.ReadTranslated id address len) = ⊥
LeavesWalks (events.WriteTranslated id address bytes) = ⊥
LeavesWalks (events.ReadThroughCache id address len) = ⊥
LeavesWalks (events.WriteThroughCache id address bytes) = ⊥
LeavesWalks (events.Step id) = ⊥
LeavesWalks event = ⊤

-- a reset, a revival and a queue that is set give the device's request up, where they are done
abbrev pub GivesUpWhenDone : Event → ℕ → Type 0
GivesUpWhenDone (events.Reset device) id = device ≡ id
GivesUpWhenDone (events.Revive device) id = device ≡ id
GivesUpWhenDone (events.Queue device size descriptors available used) id = device ≡ id
GivesUpWhenDone event id = ⊥

-- the device with the id is plugged in
abbrev pub Plugs : Event → ℕ → Type 0
Plugs (events.Plug device what) id = device ≡ id
Plugs event id = ⊥

-- what the event names is a page of the 64-bit address space
abbrev pub PagesFit : Event → Type 0
PagesFit (events.Ask id page) = page < 2 ^ 52
PagesFit event = ⊤
