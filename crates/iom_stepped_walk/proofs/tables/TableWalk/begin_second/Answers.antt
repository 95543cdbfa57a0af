-- A second stage alone, from its root.
use Rattle.std.proofs.Common.{◌∙◌, None, Some, Err, ap}
use Rattle.iom_walk_loads.specs.Loads.{Ends}
use Rattle.iom_stepped_walk.proofs.PositionLemmas.{second_begins}
use Rattle.iom_stepped_walk.proofs.tables.TableWalk.begin_second.Goals as goal

pub returns-in-Some : goal.returns-in-Some
returns-in-Some c = λ frames. second_begins frames c.args.size c.args.root c.args.address c.args.kind (Some c.in-Some.place) c.in-Some.ensures

pub returns-in-None : goal.returns-in-None
returns-in-None c = λ frames.
    ap (λ fault. Ends (Err fault)) c.guest_page_fault.ensures ∙ second_begins frames c.args.size c.args.root c.args.address c.args.kind None c.in-None.ensures
