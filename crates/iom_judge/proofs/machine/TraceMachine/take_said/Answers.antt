use Rattle.iom_judge.proofs.CertificateLemmas.{if_ok}
use Rattle.iom_judge.proofs.machine.TraceMachine.take_said.Goals as goal

pub returns : goal.returns
returns c text says = rw c.in-Step.is
    (if_ok c.go_on.result _ _
    (λ went. (
      went.2.0,
      (
        went.0,
        record {
          tables_taken = c.where_shown.ensures _ went.1.tables_taken;
          frame = went.1.frame;
          access = went.1.access;
          returned = went.1.returned;
        },
        went.2.1,
      ),
      went.2.2,
    ))
    c.go_on.ensures)
