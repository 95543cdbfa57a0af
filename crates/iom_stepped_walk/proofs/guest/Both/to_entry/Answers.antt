-- Down a guest's tables from the root of the second stage.
use Rattle.std.proofs.Common.{◌∙◌, None, Some, Err, true, ap}
use Rattle.iom_base.specs.Causes.{guest_page_fault_of}
use Rattle.iom_stage_walk.specs.Second.{reported}
use Rattle.iom_walk_loads.specs.Loads.{Ends}
use Rattle.iom_stepped_walk.proofs.PositionLemmas.{to_entry_is}
use Rattle.iom_stepped_walk.proofs.guest.Both.to_entry.Goals as goal

pub returns-in-Some : goal.returns-in-Some
returns-in-Some c = λ frames.
    to_entry_is frames c.args.self c.args.entry c.guest_address-guest.result (Some c.in-Some.place) c.guest_address-guest.ensures c.in-Some.ensures

pub returns-in-None : goal.returns-in-None
returns-in-None c = λ frames.
    ap (λ fault. Ends (Err fault)) (c.guest_page_fault.ensures ∙ ap (λ guest. reported (guest_page_fault_of c.args.self.asked.kind) guest true) c.guest_address-guest.ensures)
    ∙ to_entry_is frames c.args.self c.args.entry c.guest_address-guest.result None c.guest_address-guest.ensures c.in-None.ensures
