-- The walk is that of the stages that aren't Bare.
use Rattle.iom_iommu.proofs.StageLemmas.{walks_first, walks_second, walks_both}
use Rattle.iom_iommu.proofs.translations.walk.Goals as goal

pub returns-in-Tables-Bare-clause-reached : goal.returns-in-Tables-Bare-clause-reached
returns-in-Tables-Bare-clause-reached c =
    (walks_first c.args.memory.now c.args.address c.args.kind c.args.context.now.first_stage c.args.context.now.second_stage c.walk_first.result
    c.in-Tables-Bare.size c.in-Tables-Bare.root c.number-in-Tables-Bare.result c.in-Tables-Bare.is-0 c.in-Tables-Bare.is-1 c.number-in-Tables-Bare.ensures.value
    c.walk_first.ensures.reached c.walk_first.ensures.stopped).0

pub returns-in-Tables-Bare-clause-stopped : goal.returns-in-Tables-Bare-clause-stopped
returns-in-Tables-Bare-clause-stopped c =
    (walks_first c.args.memory.now c.args.address c.args.kind c.args.context.now.first_stage c.args.context.now.second_stage c.walk_first.result
    c.in-Tables-Bare.size c.in-Tables-Bare.root c.number-in-Tables-Bare.result c.in-Tables-Bare.is-0 c.in-Tables-Bare.is-1 c.number-in-Tables-Bare.ensures.value
    c.walk_first.ensures.reached c.walk_first.ensures.stopped).1

pub returns-in-Bare-Tables-clause-reached : goal.returns-in-Bare-Tables-clause-reached
returns-in-Bare-Tables-clause-reached c =
    (walks_second c.args.memory.now c.args.address c.args.kind c.args.context.now.first_stage c.args.context.now.second_stage c.walk_second.result
    c.in-Bare-Tables.size c.in-Bare-Tables.root c.number.result c.in-Bare-Tables.is-0 c.in-Bare-Tables.is-1 c.number.ensures.value
    c.walk_second.ensures.reached c.walk_second.ensures.stopped).0

pub returns-in-Bare-Tables-clause-stopped : goal.returns-in-Bare-Tables-clause-stopped
returns-in-Bare-Tables-clause-stopped c =
    (walks_second c.args.memory.now c.args.address c.args.kind c.args.context.now.first_stage c.args.context.now.second_stage c.walk_second.result
    c.in-Bare-Tables.size c.in-Bare-Tables.root c.number.result c.in-Bare-Tables.is-0 c.in-Bare-Tables.is-1 c.number.ensures.value
    c.walk_second.ensures.reached c.walk_second.ensures.stopped).1

pub returns-in-Tables-Tables-clause-reached : goal.returns-in-Tables-Tables-clause-reached
returns-in-Tables-Tables-clause-reached c =
    (walks_both c.args.memory.now c.args.address c.args.kind c.args.context.now.first_stage c.args.context.now.second_stage c.walk_both.result
    c.in-Tables-Tables.first_size c.in-Tables-Tables.second_size c.in-Tables-Tables.first c.in-Tables-Tables.second c.number-number.result c.in-Tables-Tables.is-0 c.in-Tables-Tables.is-1
    c.number-number.ensures.value c.walk_both.ensures.reached c.walk_both.ensures.stopped).0

pub returns-in-Tables-Tables-clause-stopped : goal.returns-in-Tables-Tables-clause-stopped
returns-in-Tables-Tables-clause-stopped c =
    (walks_both c.args.memory.now c.args.address c.args.kind c.args.context.now.first_stage c.args.context.now.second_stage c.walk_both.result
    c.in-Tables-Tables.first_size c.in-Tables-Tables.second_size c.in-Tables-Tables.first c.in-Tables-Tables.second c.number-number.result c.in-Tables-Tables.is-0 c.in-Tables-Tables.is-1
    c.number-number.ensures.value c.walk_both.ensures.reached c.walk_both.ensures.stopped).1
