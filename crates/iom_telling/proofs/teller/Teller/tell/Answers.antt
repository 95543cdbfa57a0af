-- Behind a fault nothing is told; else the event is.
use Rattle.std.proofs.Common.{[], ◌∷◌, ◌++◌, Option, refl, sym, subst}
use Rattle.iom_tell.specs.Told.{told_line}
use Rattle.iom_world.specs.Shown.{shown_of}
use Rattle.iom_telling.specs.declared.fault.TellingFault.{TellingFault}
use Rattle.iom_telling.specs.Tellers.{GoesOnTelling}
use Rattle.iom_telling.proofs.TellingLemmas.{line_alone}
use Rattle.iom_telling.proofs.teller.Teller.tell.Goals as goal

pub returns-in-Some : goal.returns-in-Some
returns-in-Some g c =
    let line = told_line (shown_of g.D.Disk.shown c.args.self.now.world) c.args.event.now c.step.result (shown_of g.D.Disk.shown c.step.new.self) in
    record {
      happens = c.step.ensures.happens;
      line = line ++ 10 ∷ [];
      told = line_alone c.args.self.now.explains line;
      goes = subst (λ (f : Option TellingFault). GoesOnTelling g.W.Write.contents f c.args.self.now.lines (line ++ 10 ∷ []) c.args.self.now.fault c.args.self.now.lines) (sym c.in-Some.is) (c.in-Some.is, refl);
      explains = refl;
    }

pub returns-in-None : goal.returns-in-None
returns-in-None g c =
    let one = c.tell_one.ensures.told in
    record {
      happens = c.tell_one.ensures.happens;
      line = one.text;
      told = one.told;
      goes = subst (λ (f : Option TellingFault). GoesOnTelling g.W.Write.contents f c.args.self.now.lines one.text c.tell_one.new.fault c.tell_one.new.lines) (sym c.in-None.is) one.has;
      explains = refl;
    }
