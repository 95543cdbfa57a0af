-- Where the queue is stopped or empty, the look is a whole fetch.
use Rattle.std.proofs.Common.{refl}
use Rattle.iom_iommu.proofs.LookLemmas.{looked_stopped, looked_empty}
use Rattle.iom_iommu.specs.declared.fetched.Fetched.TheVariants.{Empty, Stopped}
use Rattle.iom_board.proofs.LookLemmas.{looked}
use Rattle.iom_board.proofs.board.Board.look.Goals as goal

pub returns-in-Stopped : goal.returns-in-Stopped
returns-in-Stopped c =
    looked c.args.self.now Stopped c.look.new.self c.requires.invariants refl (looked_stopped c.args.self.now.memory c.args.self.now.iommu c.look.new.self c.in-Stopped.ensures)

pub returns-in-Empty : goal.returns-in-Empty
returns-in-Empty c =
    looked c.args.self.now Empty c.look.new.self c.requires.invariants refl (looked_empty c.args.self.now.memory c.args.self.now.iommu c.look.new.self c.in-Empty.ensures)
