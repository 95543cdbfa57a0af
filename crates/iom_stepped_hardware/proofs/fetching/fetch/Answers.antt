use Rattle.iom_block_devices.specs.Shown.{shown_blocks}
use Rattle.iom_iommu.specs.Parts.{registers_of}
use Rattle.iom_iommu.specs.Stepped.{begins_anew}
use Rattle.iom_stepped_hardware.proofs.AskLemmas.{fetched_asks}
use Rattle.iom_stepped_hardware.proofs.fetching.fetch.Goals as goal

pub returns-clause-beside : goal.returns-clause-beside
returns-clause-beside g c =
    let old = c.args.hardware.now in
    let new = c.fetch.new.board in
    record {
      board = c.fetch.ensures.beside;
      asking = fetched_asks old.board.devices.items new.devices.items (shown_blocks g.D.Disk.shown old.blocks.items) (registers_of new.iommu).ddtp c.args.walks.now c.fetch.new.walks
          (begins_anew c.fetch.result) c.requires.beside.asking c.fetch.ensures.effect.devices c.fetch.ensures.anew;
    }
