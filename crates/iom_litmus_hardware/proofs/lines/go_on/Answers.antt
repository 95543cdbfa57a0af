-- What a session says of a line, in one.
use Rattle.std.proofs.Common.{refl}
use Rattle.iom_hardware_session.specs.Shown.{shown_in}
use Rattle.iom_litmus_hardware.proofs.WholeLemmas.{still_whole}
use Rattle.iom_litmus_hardware.proofs.lines.go_on.Goals as goal

pub returns-clause-goes_on : goal.returns-clause-goes_on
returns-clause-goes_on c = λ claimed shows. let said = c.line.ensures in record {
  effect = said.effect;
  claimed = said.claimed claimed shows;
  trusted = said.trusted;
  admitted = said.admitted claimed shows;
  good = said.good claimed shows;
  wrong = said.wrong claimed shows;
  again = said.watched claimed shows;
  violated = said.violated claimed shows;
  allowed = said.allowed claimed shows;
  watched = refl;
}

pub returns-clause-whole : goal.returns-clause-whole
returns-clause-whole c = still_whole c.args.said.now c.line.result.answer (shown_in c.args.session.now) (shown_in c.line.new.self) c.line.ensures.effect
