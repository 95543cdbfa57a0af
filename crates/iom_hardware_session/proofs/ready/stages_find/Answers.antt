use Rattle.std.proofs.Common.{subst, sym}
use Rattle.iom_base.specs.Sizes.{levels_of}
use Rattle.iom_device_dir.specs.declared.stages.SecondStage.{SecondStage}
use Rattle.iom_hardware_session.specs.Ready.{StagesFind, address_of}
use Rattle.iom_hardware_session.proofs.ReadyLemmas.{second_finds}
use Rattle.iom_hardware_session.proofs.ready.stages_find.Goals as goal

pub returns-in-Tables : goal.returns-in-Tables
returns-in-Tables c =
    subst (λ (stage : SecondStage). StagesFind c.args.memory.now c.args.context.now.first_stage stage c.args.page c.args.kind c.of.result) (sym c.in-Tables.is)
    (second_finds c.args.memory.now (levels_of c.in-Tables.size) c.in-Tables.root.number c.number.result (address_of c.args.page) c.address_of.result c.args.kind c.walk_second.result c.of.result
    c.number.ensures.value c.address_of.ensures c.walk_second.ensures.reached c.walk_second.ensures.stopped c.of.ensures)
