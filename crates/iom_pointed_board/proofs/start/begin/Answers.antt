use Rattle.std.proofs.Common.{ap, subst}
use Rattle.iom_pointers.specs.Walks.{LeadsNowhere, LeadsTo}
use Rattle.iom_stepped_walk.specs.declared.hand.TableInHand.{TableInHand}
use Rattle.iom_pointed_board.specs.Starts.{AtPointer, AtRoot, PastPointer, at_pointer}
use Rattle.iom_pointed_board.proofs.start.begin.Goals as goal

pub returns-in-Some-lead : goal.returns-in-Some-lead
returns-in-Some-lead c =
    let translation = c.in-Some-lead.translation in
    AtPointer c.in-Some.pointer translation c.in-Some.ensures.some
    (subst (λ (hand : TableInHand). LeadsTo c.args.napot c.args.memory.now hand c.args.kind translation) c.hand-hand.ensures c.in-Some-lead.ensures.some)
    (ap (λ (hand : TableInHand). at_pointer c.args.space hand translation) c.hand-hand.ensures)

pub returns-in-None : goal.returns-in-None
returns-in-None c =
    PastPointer c.in-Some.pointer c.begin_at_root-in-None.result.found c.in-Some.ensures.some
    (subst (λ (hand : TableInHand). LeadsNowhere c.args.napot c.args.memory.now hand c.args.kind) c.hand-hand.ensures c.in-None.ensures.none)
    c.begin_at_root-in-None.ensures.found c.begin_at_root-in-None.ensures.begins

pub returns-in_default : goal.returns-in_default
returns-in_default c = AtRoot c.begin_at_root.result.found c.in_default.ensures.none c.begin_at_root.ensures.found c.begin_at_root.ensures.begins
