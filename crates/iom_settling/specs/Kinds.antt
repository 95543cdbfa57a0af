-- The kinds of events that settling has. The order of its events (`AreInSettlingOrder`) names no others.
use Rattle.std.specs.Prelude.{◌≡◌, ⊤, List, [], ◌∷◌}
use Rattle.iom_machine.specs.declared.event.Event.{Event}
use Rattle.iom_machine.specs.declared.event.Event.TheVariants as events

-- each of them is so
abbrev pub AreAll : (Event → Type 0) → List Event → Type 0
AreAll Is [] = ⊤
AreAll Is (event ∷ later) = Is event × AreAll Is later

-- a delivery of the oldest message
abbrev pub IsDelivery : Event → Type 0
IsDelivery (events.Deliver place) = place ≡ 0
IsDelivery _ = ⊥

-- an event of settling: so it is no loss, no timeout and no reset, and asks for nothing
abbrev pub IsSettling : Event → Type 0
IsSettling (events.Commit device) = ⊤
IsSettling (events.Deliver place) = place ≡ 0
IsSettling events.Restart = ⊤
IsSettling events.Fetch = ⊤
IsSettling events.Poll = ⊤
IsSettling _ = ⊥
