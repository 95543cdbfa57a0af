-- What a line does, by its event.
use Rattle.std.proofs.Common.{ℕ, List, Result, Ok, Err, OnOk, IfOk, inl}
use Rattle.iom_machine.specs.declared.event.Event.{Event}
use Rattle.iom_litmus.specs.declared.reply.Reply.{Reply}
use Rattle.iom_virtio_blk.specs.declared.disk.Disk.{Ghosts}
use Rattle.iom_litmus_world.specs.Lines.{Says, LeadsBy}
use Rattle.iom_litmus_world.specs.Places.{Tested, AreListed}
use Rattle.iom_litmus_world.specs.Systems.{rules}

-- a line that says an event does what the event does
pub ran : {D : Type 0} (d : Ghosts D) {E : Type 0} (result : Result Reply E) (old new : Tested) (line : List ℕ) (event : Event) → Says line event → OnOk result (AreListed new)
    → IfOk result (λ reply. LeadsBy d event old.place reply new.place) → IfOk result (λ reply. (rules d).runs old line reply new)
ran d (Ok reply) old new line event says listed leads = (inl (event, says, leads), listed)
ran d (Err why) old new line event says listed leads = tt
