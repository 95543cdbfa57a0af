-- One load on the way to the page that the guest's tables gave.
use Rattle.std.proofs.Common.{◌∙◌, length, Err, false, sym, ap}
use Rattle.iom_stage_walk.specs.Both.{guest_address}
use Rattle.iom_walk_loads.specs.Loads.{Ends}
use Rattle.iom_stepped_walk.proofs.PositionLemmas.{ended_ok, reported_access, toward_page_is}
use Rattle.iom_stepped_walk.specs.Positions.{remains}
use Rattle.iom_stepped_walk.specs.declared.place.Step.TheVariants.{Follow, Found, NoPage, Outside}
use Rattle.iom_stepped_walk.proofs.guest.Both.load_toward_page.Goals as goal

pub returns-in-Follow : goal.returns-in-Follow
returns-in-Follow g c = toward_page_is (g.B.Bytes.frames_of c.args.memory.now) c.args.self c.args.page c.args.place (Follow c.in-Follow.place) c.in-Follow.ensures

pub returns-in-Found : goal.returns-in-Found
returns-in-Found g c =
    ap (λ rights. ended_ok c.in-Found.frame rights c.args.page.level c.places.result) c.both_rights.ensures ∙ ap (ended_ok c.in-Found.frame _ c.args.page.level) c.places.ensures
    ∙ toward_page_is (g.B.Bytes.frames_of c.args.memory.now) c.args.self c.args.page c.args.place (Found c.in-Found.frame c.in-Found.rights c.in-Found.level) c.in-Found.ensures

pub returns-in-NoPage : goal.returns-in-NoPage
returns-in-NoPage g c =
    ap (λ fault. Ends (Err fault)) c.guest_page_fault.ensures
    ∙ toward_page_is (g.B.Bytes.frames_of c.args.memory.now) c.args.self c.args.page c.args.place NoPage c.in-NoPage.ensures

pub returns-in-Outside : goal.returns-in-Outside
returns-in-Outside g c =
    let m = g.B.Bytes.frames_of c.args.memory.now in
    ap (remains (length m)) c.access_fault.ensures
    ∙ ap (λ fault. Ends (Err fault)) (sym (reported_access c.args.self.asked.kind (guest_address c.args.page.number c.args.self.asked.address) false))
    ∙ toward_page_is m c.args.self c.args.page c.args.place Outside c.in-Outside.ensures
