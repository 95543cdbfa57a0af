use Rattle.std.proofs.Common.{inl, subst}
use Rattle.iom_board.specs.declared.board.Board.{Board}
use Rattle.iom_hardware_runner.specs.Traffic.{CanMakeRequests}
use Rattle.iom_hardware_runner.proofs.RunLemmas.{on_ok}
use Rattle.iom_hardware_runner.proofs.machine.Machine.direct.Goals as goal

pub returns-in-Ok-directed-clause-directed : goal.returns-in-Ok-directed-clause-directed
returns-in-Ok-directed-clause-directed c =
    let can : CanMakeRequests c.hardware-hardware.result.now c.args.device c.args.first c.args.last = rw c.in-Ok-directed.is at c.in-Ok.ensures.admitted in
    on_ok c.answer.result
    (inl (
      subst (λ (b : Board). CanMakeRequests b c.args.device c.args.first c.args.last) c.hardware-hardware.ensures can,
      rw c.in-Ok-directed.is at c.in-Ok.ensures.kept,
    ))
