use Rattle.std.proofs.Common.{◌||◌, Bool, ap, refl}
use Rattle.iom_hardware_runner.proofs.RunLemmas.{tells_line}
use Rattle.iom_hardware_runner.proofs.teller.Teller.step.Goals as goal

pub returns-clause-tells : goal.returns-clause-tells
returns-clause-tells c =
    let old = c.args.self.now in
    let new = c.line-stepped.new.self in
    let said = c.line-stepped.ensures in
    tells_line old.session new old.is_wrong (old.is_wrong || c.is_wrong.result) c.args.line.now c.line-stepped.result new.watched.items
    (λ claimed shows. record {
      effect = said.effect;
      claimed = said.claimed claimed shows;
      trusted = said.trusted;
      admitted = said.admitted claimed shows;
      good = said.good claimed shows;
      wrong = said.wrong claimed shows;
      again = said.watched claimed shows;
      violated = said.violated claimed shows;
      allowed = said.allowed claimed shows;
      watched = refl;
    })
    (ap (λ (b : Bool). old.is_wrong || b) c.is_wrong.ensures)
