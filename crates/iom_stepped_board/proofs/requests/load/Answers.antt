use Rattle.std.proofs.Common.{Option, subst, refl}
use Rattle.iom_base.specs.DeviceKinds.{is_any_kind}
use Rattle.iom_base.specs.declared.device_kind.DeviceKind.{DeviceKind}
use Rattle.iom_board.specs.BoardParts.{BoardParts, board_parts}
use Rattle.iom_board.specs.Permits.{IsPermitted}
use Rattle.iom_board.proofs.Permitted.{added, done}
use Rattle.iom_iommu.specs.Parts.{flights_of}
use Rattle.iom_stepped_board.specs.Requests.{LoadsBeside}
use Rattle.iom_stepped_board.proofs.SoundBeside.{loaded_beside, loaded_sound}
use Rattle.iom_stepped_board.proofs.requests.load.Goals as goal

pub load-requires-clause-room : goal.load-requires-clause-room
load-requires-clause-room c some =
    let h = c.args.board.now in (
      added is_any_kind (flights_of h.iommu).rows h.devices.items c.args.id c.why_not_there.result c.requires.invariants.rows
          (subst (λ (known : Option DeviceKind). IsPermitted is_any_kind known c.why_not_there.result) c.kind_of.ensures c.why_not_there.ensures) c.in_default.is,
      c.requires.beside.room c.args.id some,
    )

pub returns-clause-effect : goal.returns-clause-effect
returns-clause-effect c =
    let h = c.args.board.now in
    let old : BoardParts = board_parts h in
    let new : BoardParts = record old { memory = c.load.new.memory; iommu = c.load.new.self } in
    record {
      by_device = done is_any_kind (LoadsBeside c.args.walks.now c.args.id c.load.new.walks) old c.args.id c.why_not_there.result c.load.result new
          (subst (λ (known : Option DeviceKind). IsPermitted is_any_kind known c.why_not_there.result) c.kind_of.ensures c.why_not_there.ensures) c.in_default.is
          (record { call = c.load.ensures.loaded; devices = refl; fabric = refl });
      refused = tt;
    }

pub returns-clause-invariants : goal.returns-clause-invariants
returns-clause-invariants c =
    let h = c.args.board.now in
    let old : BoardParts = board_parts h in
    let new : BoardParts = record old { memory = c.load.new.memory; iommu = c.load.new.self } in
    loaded_sound old new c.args.walks.now c.load.new.walks h.events c.args.id c.load.result c.requires.invariants
    (record { call = c.load.ensures.loaded; devices = refl; fabric = refl }) c.load.ensures.frames

pub returns-clause-beside : goal.returns-clause-beside
returns-clause-beside c =
    let h = c.args.board.now in
    let old : BoardParts = board_parts h in
    let new : BoardParts = record old { memory = c.load.new.memory; iommu = c.load.new.self } in
    loaded_beside old new c.args.walks.now c.load.new.walks c.args.id c.load.result c.requires.beside (record { call = c.load.ensures.loaded; devices = refl; fabric = refl })
