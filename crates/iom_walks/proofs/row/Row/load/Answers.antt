-- The row goes on, or its request ends.
use Rattle.iom_walks.proofs.RowLemmas.{row_ends, row_goes_on}
use Rattle.iom_walks.proofs.row.Row.load.Goals as goal

pub returns-in-GoesOn-clause-loaded : goal.returns-in-GoesOn-clause-loaded
returns-in-GoesOn-clause-loaded g c =
    row_goes_on (g.B.Bytes.frames_of c.args.memory.now) (g.C.TransCache.content c.args.translations.now) c.self.inside.device c.self.inside.bytes.items c.self.inside.standing c.in-Some.standing
    c.in-Some.is c.args.self.now c.self.view_is c.load-step.result.serving c.load-step.ensures.serving c.load-step.ensures.of_request c.in-GoesOn.walk c.in-GoesOn.is

pub returns-in-Served-clause-loaded : goal.returns-in-Served-clause-loaded
returns-in-Served-clause-loaded g c =
    row_ends (g.B.Bytes.frames_of c.args.memory.now) (g.C.TransCache.content c.args.translations.now) c.self.inside.device c.self.inside.bytes.items c.self.inside.standing c.in-Some.standing
    c.in-Some.is c.args.self.now c.self.view_is c.load-step.result.serving c.load-step.ensures.serving c.load-step.ensures.of_request c.in-Served.answer c.answered.result c.in-Served.is
    c.answered.ensures.request c.answered.ensures.len c.answered.ensures.answer
