use Rattle.std.proofs.Common.{◌≡◌, ◌∙◌, length, refl, sym, subst}
use Rattle.iom_base.specs.declared.owner.Owner.TheVariants.{System, OneDevice}
use Rattle.iom_driver.specs.Layout.{AreFixed, completion_frame, directory_frame, fault_frame}
use Rattle.iom_driver.specs.StateOf.{state_of}
use Rattle.iom_driver.proofs.StandingLemmas.{frames_keep, leaves_standing, pages_stay}
use Rattle.iom_driver.proofs.Unchanged.{of_one}
use Rattle.iom_driver.proofs.laws.others_leave_standing.Goals as goal

pub returns-clause-others : goal.returns-clause-others
returns-clause-others c = λ driver old new stand keeps.
    let many : length old ≡ driver.frames = stand.size ∙ driver.invariants.sizes.owned in
    let fixed = subst (λ n. AreFixed driver.owners n) (sym many) driver.invariants.fixed in
    leaves_standing (state_of driver) (state_of driver) (length old) old new refl stand.tables
    (λ id stage was is. frames_keep old new driver.owners driver.ledger id stage.mode stage.root (stand.tables id stage was)
    (λ n own. keeps.bytes n (OneDevice id) own (of_one driver.owners (completion_frame (length old)) n id fixed.completion own)))
    (λ started.
    let here = stand.directory started in
    pages_stay driver.levels (directory_frame (length old)) old new driver.invariants.sizes.in_range here.tree keeps.size
    (λ f at. keeps.bytes f System (here.own f at).system (here.own f at).no_completion))

pub returns-clause-records : goal.returns-clause-records
returns-clause-records c = λ driver old new r s stand leaves.
    let many : length old ≡ driver.frames = stand.size ∙ driver.invariants.sizes.owned in
    let fixed = subst (λ n. AreFixed driver.owners n) (sym many) driver.invariants.fixed in
    leaves_standing (state_of driver) (state_of driver) (length old) old new refl stand.tables
    (λ id stage was is. frames_keep old new driver.owners driver.ledger id stage.mode stage.root (stand.tables id stage was)
    (λ n own. leaves.frames n (of_one driver.owners (fault_frame (length old)) n id fixed.fault own)))
    (λ started.
    let here = stand.directory started in
    pages_stay driver.levels (directory_frame (length old)) old new driver.invariants.sizes.in_range here.tree leaves.size
    (λ f at. leaves.frames f (here.own f at).no_fault))
