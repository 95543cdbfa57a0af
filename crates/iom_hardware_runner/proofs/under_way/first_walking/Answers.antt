use Rattle.std.proofs.Common.{◌∙◌, List, Option, option_map, Bor, sym, ap}
use Rattle.iom_board.specs.declared.board.Board.{Board}
use Rattle.iom_device.specs.declared.device.Device.{Device}
use Rattle.iom_hardware_runner.proofs.UnderWayLemmas.{stepped_none, walks_some}
use Rattle.iom_hardware_runner.specs.Parts.{first_walking}
use Rattle.iom_hardware_session.specs.Shown.{walks_in}
use Rattle.iom_walks.specs.Walks.{WalkRow}
use Rattle.iom_hardware_runner.proofs.under_way.first_walking.Goals as goal

pub returns-in-Some-clause-none : goal.returns-in-Some-clause-none
returns-in-Some-clause-none c =
    let session = c.args.session.now in
    let rows = c.in-Some.walks.now in
    stepped_none session.hardware.board.devices.items rows (walks_in session.beside) c.first_walking_of.result
    (sym c.walks.ensures ∙ ap (λ (o : Option (Bor (List WalkRow))). option_map (λ (w : Bor (List WalkRow)). w.now) o) c.in-Some.is)
    (c.first_walking_of.ensures ∙ ap (λ (d : List Device). first_walking rows d) (c.deref.ensures.value ∙ ap (λ (b : Board). b.devices.items) c.hardware.ensures))

pub returns-in-Some-clause-some : goal.returns-in-Some-clause-some
returns-in-Some-clause-some c =
    walks_some (walks_in c.args.session.now.beside) c.in-Some.walks.now c.first_walking_of.result
    (sym c.walks.ensures ∙ ap (λ (o : Option (Bor (List WalkRow))). option_map (λ (w : Bor (List WalkRow)). w.now) o) c.in-Some.is)
