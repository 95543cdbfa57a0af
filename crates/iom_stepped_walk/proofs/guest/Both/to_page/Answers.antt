-- To the page from the root of the second stage.
use Rattle.std.proofs.Common.{◌∙◌, None, Some, Err, ap}
use Rattle.iom_walk_loads.specs.Loads.{Ends}
use Rattle.iom_stepped_walk.proofs.PositionLemmas.{to_page_is}
use Rattle.iom_stepped_walk.proofs.guest.Both.to_page.Goals as goal

pub returns-in-Some : goal.returns-in-Some
returns-in-Some c = λ frames. to_page_is frames c.args.self c.args.page (Some c.in-Some.place) c.in-Some.ensures

pub returns-in-None : goal.returns-in-None
returns-in-None c = λ frames.
    ap (λ fault. Ends (Err fault)) c.guest_page_fault.ensures ∙ to_page_is frames c.args.self c.args.page None c.in-None.ensures
