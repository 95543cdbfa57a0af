use Rattle.std.proofs.Common.{ℕ, refl, sym, subst}
use Rattle.iom_block_devices.specs.Changes.{block_with}
use Rattle.iom_machine.specs.declared.outcome.Outcome.{Outcome}
use Rattle.iom_world_effects.specs.BlockDevices.{TellsBlockStatus}
use Rattle.iom_world.specs.Blocks.{TellsStatusOf}
use Rattle.iom_world.specs.Shown.{parts_of, inside_of}
use Rattle.iom_world.proofs.OfHardware.{hardware_invariant}
use Rattle.iom_world.proofs.InsideTold.{status_in_parts}
use Rattle.iom_world.proofs.world.World.block_status.Goals as goal

pub status-answer-requires : goal.status-answer-requires
status-answer-requires g c = record { invariants = hardware_invariant c.args.self.now }

pub returns-clause-effect : goal.returns-clause-effect
returns-clause-effect g c =
    let world = c.args.self.now in
    let found = block_with (inside_of g.D.Disk.shown world).blocks c.args.id in
    subst (λ (reply : Outcome). (status : ℕ) × TellsBlockStatus (parts_of world) c.args.id status reply (parts_of world)) (sym c.status_answer.ensures)
    (status_in_parts (parts_of world) found c.args.id c.status-answer.result c.status-answer.ensures).0

pub returns-clause-inside : goal.returns-clause-inside
returns-clause-inside g c =
    let world = c.args.self.now in
    let inside = inside_of g.D.Disk.shown world in
    let found = block_with inside.blocks c.args.id in
    let reply = (status_in_parts (parts_of world) found c.args.id c.status-answer.result c.status-answer.ensures).1 in
    subst (λ (reply : Outcome). TellsStatusOf (parts_of world) inside c.args.id reply (parts_of world) inside) (sym c.status_answer.ensures) (reply.0, reply.1, refl)
