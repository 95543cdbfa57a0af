-- One load on the way to an entry of a guest's table.
use Rattle.std.proofs.Common.{◌∙◌, length, Err, true, sym, ap}
use Rattle.iom_base.specs.Causes.{guest_page_fault_of}
use Rattle.iom_stage_walk.specs.Second.{reported}
use Rattle.iom_walk_loads.specs.Loads.{Ends}
use Rattle.iom_stepped_walk.proofs.PositionLemmas.{reported_access, toward_entry_is}
use Rattle.iom_stepped_walk.specs.Positions.{address_of, remains}
use Rattle.iom_stepped_walk.specs.declared.place.Step.TheVariants.{Follow, Found, NoPage, Outside}
use Rattle.iom_stepped_walk.proofs.guest.Both.load_toward_entry.Goals as goal

pub returns-in-Follow : goal.returns-in-Follow
returns-in-Follow g c =
    toward_entry_is (g.B.Bytes.frames_of c.args.memory.now) c.args.self c.args.entry c.args.place c.guest_address-guest.result (Follow c.in-Follow.place) c.guest_address-guest.ensures c.in-Follow.ensures

pub returns-in-Found : goal.returns-in-Found
returns-in-Found g c =
    toward_entry_is (g.B.Bytes.frames_of c.args.memory.now) c.args.self c.args.entry c.args.place c.guest_address-guest.result (Found c.in-Found.frame c.in-Found.rights c.in-Found.level) c.guest_address-guest.ensures c.in-Found.ensures

pub returns-in-NoPage : goal.returns-in-NoPage
returns-in-NoPage g c =
    ap (λ fault. Ends (Err fault)) (c.guest_page_fault.ensures ∙ ap (λ guest. reported (guest_page_fault_of c.args.self.asked.kind) guest true) c.guest_address-guest.ensures)
    ∙ toward_entry_is (g.B.Bytes.frames_of c.args.memory.now) c.args.self c.args.entry c.args.place c.guest_address-guest.result NoPage c.guest_address-guest.ensures c.in-NoPage.ensures

pub returns-in-Outside : goal.returns-in-Outside
returns-in-Outside g c =
    let m = g.B.Bytes.frames_of c.args.memory.now in
    ap (remains (length m)) c.access_fault.ensures
    ∙ ap (λ fault. Ends (Err fault)) (sym (reported_access c.args.self.asked.kind (address_of c.args.entry c.args.self.asked.address) true))
    ∙ toward_entry_is m c.args.self c.args.entry c.args.place c.guest_address-guest.result Outside c.guest_address-guest.ensures c.in-Outside.ensures
