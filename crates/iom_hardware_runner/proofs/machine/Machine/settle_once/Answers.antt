use Rattle.std.proofs.Common.{◌∙◌, ap, refl}
use Rattle.std.specs.List.{AllPass}
use Rattle.iom_board.specs.declared.board.Board.{Board}
use Rattle.iom_iommu.specs.Parts.{registers_of}
use Rattle.iom_registers.specs.Queues.{command_head}
use Rattle.iom_hardware_runner.specs.Runs.{brings_to_rest, is_stepped}
use Rattle.iom_hardware_runner.proofs.RunLemmas.{all_one, does_one, rests_now, rests_stuck}
use Rattle.iom_hardware_runner.proofs.machine.Machine.settle_once.Goals as goal

pub returns-then-is_stuck-clause-settles : goal.returns-then-is_stuck-clause-settles
returns-then-is_stuck-clause-settles c =
    let stuck = c.is_stuck.ensures.0 c.if-is_stuck.true in
    rests_stuck c.args.self.now.teller c.tell.new.self.teller c.in-Some.step c.in_ok-tell.ensures.reply (c.is_fetch-is_fetch.ensures c.if-is_fetch.true) stuck.0
    (stuck.1 ∙ c.command_head-head.ensures.value ∙ ap command_head c.registers.ensures ∙ ap (λ (b : Board). command_head (registers_of b.iommu)) c.hardware.ensures)

pub returns-then-has_violated-clause-settles : goal.returns-then-has_violated-clause-settles
returns-then-has_violated-clause-settles c =
    let brings = brings_to_rest (is_stepped c.args.self.now.teller.session) in
    does_one (AllPass brings) c.args.self.now.teller c.tell.new.self.teller c.in-Some.step c.in_ok-tell.ensures.reply (all_one brings c.in-Some.step c.in-Some.ensures.some)

pub returns-else-has_violated-clause-settles : goal.returns-else-has_violated-clause-settles
returns-else-has_violated-clause-settles c =
    let brings = brings_to_rest (is_stepped c.args.self.now.teller.session) in
    does_one (AllPass brings) c.args.self.now.teller c.tell.new.self.teller c.in-Some.step c.in_ok-tell.ensures.reply (all_one brings c.in-Some.step c.in-Some.ensures.some)

pub returns-in_default-clause-settles : goal.returns-in_default-clause-settles
returns-in_default-clause-settles c =
    let teller = c.args.self.now.teller in rests_now teller teller refl c.in_default.ensures.none.0 c.in_default.ensures.none.1
