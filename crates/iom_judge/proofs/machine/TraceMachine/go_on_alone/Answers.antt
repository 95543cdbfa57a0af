use Rattle.std.specs.Option.{option_copied}
use Rattle.iom_judge.specs.Certified.{with_begun}
use Rattle.iom_judge.proofs.CertificateLemmas.{begun_is_shown, stepped_on, tables_shown}
use Rattle.iom_judge.proofs.machine.TraceMachine.go_on_alone.Goals as goal

pub returns : goal.returns
returns c =
    let shown = c.args.reply.now.shown in
    let chosen = c.choose.new.self.choice in
    let choice = with_begun shown chosen in (
      choice,
      record {
        tables_taken = tables_shown shown.tables c.args.reply.now.event.now shown chosen c.in_ok-choose.ensures.tables_taken;
        frame = c.in_ok-choose.ensures.frame;
        access = begun_is_shown (option_copied shown.began) chosen.access;
        returned = c.in_ok-choose.ensures.returned;
      },
      stepped_on c.args.self.now c.note.new.self c.may_come.new.kept c.args.reply.now.event.now c.args.reply.now.outcome.now choice
          (rw c.if-not-branch.false at c.in_ok-may_come.ensures) c.in_ok-check.ensures c.in_ok-check-2.ensures c.note.ensures.kept
          c.in_ok-note.ensures.given c.in_ok-note.ensures.takes c.in_ok-note.ensures.domains,
    )
