-- A world goes through the events of an opening.
use Rattle.std.proofs.Common.{◌≡◌, ◌∙◌, ◌+◌, ◌<◌, ◌++◌, ℕ, List, [], ◌∷◌, length, take, get_or, sym, ap, subst}
use Rattle.std.proofs.lemmas.List.{take_more}
use Rattle.iom_machine.specs.declared.event.Event.{Event}
use Rattle.iom_machine.specs.declared.outcome.Outcome.{Outcome}
use Rattle.iom_world.specs.Happens.{Happens}
use Rattle.iom_virtio_blk.specs.declared.disk.Disk.{Ghosts}
use Rattle.iom_world.specs.declared.world.World.{World}
use Rattle.iom_world.specs.Shown.{shown_of}
use Rattle.iom_litmus_world.specs.Openings.{GoesThrough, Then}

-- through one event more
pub through_more : {D : Type 0} {d : Ghosts D} (events : List Event) (n : ℕ) (event : Event) (first old new : World D d) (outcome : Outcome) → n < length events → event ≡ get_or events n event
    → Happens (shown_of d.shown old) event outcome (shown_of d.shown new) → GoesThrough first (take n events) old → GoesThrough first (take (n + 1) events) new
through_more {d = d} events n event first old new outcome within is happens through =
    subst (λ (l : List Event). GoesThrough first l new)
    (ap (λ (e : Event). take n events ++ e ∷ []) is ∙ sym (take_more events n event within))
    (Then (take n events) old new event outcome through happens)
