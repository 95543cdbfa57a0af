use Rattle.std.proofs.Common.{rules, ◌≡◌, ℕ, Option, sym, subst}
use Rattle.std.proofs.lemmas.Fn.{filter_same}
use Rattle.iom_base.specs.Disks.{without_disk}
use Rattle.iom_board.proofs.disks.take_out.Goals as goal

pub returns-in-Some : goal.returns-in-Some
returns-in-Some c =
    subst (λ (named : Option ℕ). c.retain.new.self.items ≡ without_disk named c.args.disks.now.items) (sym c.in-Some.is)
    (filter_same _ _ _ (λ x b f' call. search rules) _ _ c.retain.ensures.filtered)
