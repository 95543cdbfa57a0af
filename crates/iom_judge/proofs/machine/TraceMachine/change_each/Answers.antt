use Rattle.std.proofs.Common.{◌++◌, ◌∙◌}
use Rattle.iom_judge.proofs.CertificateLemmas.{changed_more, tables_so_far, taken_alone}
use Rattle.iom_judge.proofs.machine.TraceMachine.change_each.Goals as goal

pub loop-index-preserved : goal.loop-index-preserved
loop-index-preserved c =
    let so_far = c.loop-index.invariant in
    let went = c.in_ok-go_on.ensures in
    let choice = went.0 in
    let index = c.loop-index.index in
    let more = changed_more c.args.self.now c.loop-index.self c.go_on.new.self c.args.device c.args.first c.in-Some.change c.event_of.result c.args.outcome.now index choice
    so_far.0 so_far.1 went.2.0 c.in-Some.ensures c.event_of.ensures so_far.2 so_far.4 went.2.1 went.2.2 in
    let alone = taken_alone c.args.device c.in-Some.change c.event_of.result choice c.event_of.ensures in
    let shown = c.shown_at.ensures c.event_of.result choice went.1.tables_taken in (
      so_far.0 ++ choice.taken,
      so_far.1 ++ went.2.0,
      more.0,
      tables_so_far c.args.device c.args.first c.args.outcome.now index c.args.has_tables so_far.0 choice.taken c.args.tables.now so_far.1
          so_far.2 so_far.3 (λ has first. alone ∙ (shown has).0 first) (λ has later. alone ∙ (shown has).1 later),
      more.1,
    )
