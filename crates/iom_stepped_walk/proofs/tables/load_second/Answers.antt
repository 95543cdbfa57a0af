-- One load in a stage alone.
use Rattle.std.proofs.Common.{◌∙◌, Err, false, sym, ap}
use Rattle.iom_stage_walk.specs.Both.{plain}
use Rattle.iom_walk_loads.specs.Loads.{Ends}
use Rattle.iom_stepped_walk.proofs.PositionLemmas.{second_load_is, reported_access}
use Rattle.iom_stepped_walk.specs.declared.place.Step.TheVariants.{Follow, Found, NoPage, Outside}
use Rattle.iom_stepped_walk.proofs.tables.load_second.Goals as goal

pub returns-in-Follow : goal.returns-in-Follow
returns-in-Follow g c = second_load_is (g.B.Bytes.frames_of c.args.memory.now) c.args.asked c.args.place (Follow c.in-Follow.place) c.in-Follow.ensures

pub returns-in-Found : goal.returns-in-Found
returns-in-Found g c = second_load_is (g.B.Bytes.frames_of c.args.memory.now) c.args.asked c.args.place (Found c.in-Found.frame c.in-Found.rights c.in-Found.level) c.in-Found.ensures

pub returns-in-NoPage : goal.returns-in-NoPage
returns-in-NoPage g c =
    ap (λ fault. Ends (Err fault)) c.guest_page_fault.ensures
    ∙ second_load_is (g.B.Bytes.frames_of c.args.memory.now) c.args.asked c.args.place NoPage c.in-NoPage.ensures

pub returns-in-Outside : goal.returns-in-Outside
returns-in-Outside g c =
    ap (λ fault. Ends (Err fault)) (c.plain.ensures ∙ ap plain c.access_fault.ensures ∙ sym (reported_access c.args.asked.kind c.args.asked.address false))
    ∙ second_load_is (g.B.Bytes.frames_of c.args.memory.now) c.args.asked c.args.place Outside c.in-Outside.ensures
