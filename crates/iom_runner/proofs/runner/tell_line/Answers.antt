-- An event happens, or the world settles.
use Rattle.std.proofs.Common.{inl, sym, subst, arith}
use Rattle.iom_world.specs.Shown.{shown_of}
use Rattle.iom_script.specs.declared.script.ScriptLine.{ScriptLine}
use Rattle.iom_runner.specs.Going.{LineHappens}
use Rattle.iom_runner.proofs.AlongLemmas.{event_happens}
use Rattle.iom_runner.proofs.runner.tell_line.Goals as goal

pub returns-in-Event-clause-reply : goal.returns-in-Event-clause-reply
returns-in-Event-clause-reply g c =
    let reply = c.run_one.ensures in (
      inl reply.0,
      reply.2,
      subst (λ (line : ScriptLine). LineHappens (shown_of g.D.Disk.shown c.args.world.now) line (inl reply.0) reply.2 (shown_of g.D.Disk.shown c.run_one.new.self)) (sym c.in-Event.is)
          (event_happens (shown_of g.D.Disk.shown c.args.world.now) (shown_of g.D.Disk.shown c.run_one.new.self) _ reply.0 reply.2 reply.1 reply.4),
      reply.3,
      reply.5,
      reply.6,
    )

pub returns-in-Event-clause-counted : goal.returns-in-Event-clause-counted
returns-in-Event-clause-counted g c = let one = c.run_one.ensures.1.events in omega (arith, one)

pub returns-in-Settle-clause-reply : goal.returns-in-Settle-clause-reply
returns-in-Settle-clause-reply g c =
    let reply = c.tell_settling.ensures.reply in (
      reply.0,
      reply.1,
      subst (λ (line : ScriptLine). LineHappens (shown_of g.D.Disk.shown c.args.world.now) line reply.0 reply.1 (shown_of g.D.Disk.shown c.tell_settling.new.world)) (sym c.in-Settle.is) reply.2,
      reply.3,
      reply.4,
      reply.5,
    )
