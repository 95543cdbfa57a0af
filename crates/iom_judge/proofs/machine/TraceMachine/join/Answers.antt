use Rattle.std.proofs.Common.{◌∙◌, ℕ, Some, ap, if◌then◌else◌, nat_eq, refl}
use Rattle.iom_judge.specs.Certified.{first_in}
use Rattle.iom_judge.specs.Happenings.{Joined}
use Rattle.iom_judge.proofs.CertificateLemmas.{beside_it}
use Rattle.iom_judge.proofs.SharingLemmas.{joins_so}
use Rattle.iom_judge.proofs.machine.TraceMachine.join.Goals as goal

pub returns : goal.returns
returns c =
    let attached = c.in_ok-go_on_showing.ensures in
    let held = c.grant_held.new.self in
    joins_so c.args.self.now c.go_on_showing.new.self held (record held { domains = c.join.new.self }) c.args.device c.args.with _ c.args.ats c.args.has_tables
    c.args.tables.now attached.0 attached.1.0 (c.where_shown.ensures attached.0.directory attached.1.1) attached.2 c.in_ok-grant_held.ensures
    (beside_it held held.handed c.join.new.self (Joined c.args.device c.args.with)
    (λ h past. let found = rw c.in-Some.is at (c.first_to_share.ensures h past) in record {
      may = rw found.0 at found.1;
      member = found.2;
      machine = refl;
      given = λ k. refl;
      takes_back = refl;
      domains = λ k. c.in_ok-join.ensures k
          ∙ ap (λ (first : ℕ). if nat_eq c.args.device k then Some first else first_in held.domains k) found.0;
    }))
