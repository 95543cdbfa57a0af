-- An event happens, or the world settles, and is told.
use Rattle.std.proofs.Common.{sym, subst, arith}
use Rattle.iom_script.specs.declared.script.ScriptLine.{ScriptLine}
use Rattle.iom_telling.specs.Tellers.{GoesByLine}
use Rattle.iom_telling.proofs.LineLemmas.{event_told, settling_told}
use Rattle.iom_telling.proofs.script.tell_line.Goals as goal

pub returns-in-Event-clause-told : goal.returns-in-Event-clause-told
returns-in-Event-clause-told g c =
    subst (λ (l : ScriptLine). GoesByLine g.W.Write.contents g.D.Disk.shown c.args.teller.now l c.tell-outcome.new.self) (sym c.in-Event.is)
    (event_told g.W.Write.contents g.D.Disk.shown c.args.teller.now c.tell-outcome.new.self c.in-Event.event c.tell-outcome.result c.tell-outcome.ensures)

pub returns-in-Event-clause-counted : goal.returns-in-Event-clause-counted
returns-in-Event-clause-counted g c = let one = c.tell-outcome.ensures.happens.events in omega (arith, one)

pub returns-in-Settle-clause-told : goal.returns-in-Settle-clause-told
returns-in-Settle-clause-told g c =
    subst (λ (l : ScriptLine). GoesByLine g.W.Write.contents g.D.Disk.shown c.args.teller.now l c.settle-answer.new.world) (sym c.in-Settle.is)
    (settling_told g.W.Write.contents g.D.Disk.shown c.args.teller.now c.settle-answer.new.world c.settle-answer.result c.settle-answer.ensures.settled)

pub returns-in-Settle-clause-counted : goal.returns-in-Settle-clause-counted
returns-in-Settle-clause-counted g c = let few = c.settle-answer.ensures.counted in omega (arith, few)
