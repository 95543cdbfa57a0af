use Rattle.iom_hardware_session.specs.Shown.{shown_beside}
use Rattle.iom_hardware_session.specs.declared.beside.Beside.TheVariants.{Nothing}
use Rattle.iom_hardware_session.proofs.pointed_events.event.Goals as goal

pub returns-clause-effect : goal.returns-clause-effect
returns-clause-effect c = λ own. (
  shown_beside Nothing c.go_ahead.new.hardware,
  c.go_ahead.new.pointers,
  c.go_ahead.ensures.ahead,
  c.go_ahead.ensures.disks,
  c.go_ahead.ensures.blocks,
  c.event-answer.ensures.effect own,
  c.forget.ensures,
)
