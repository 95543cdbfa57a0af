use Rattle.iom_judge.proofs.SharingLemmas.{held_one_more}
use Rattle.iom_judge.proofs.machine.TraceMachine.grant_held.Goals.{in-Some+in_ok-go_on_showing+in-Write-1, in-Some+in_ok-go_on_showing+in-WriteTranslated-1, in-Some+in_ok-go_on_showing+in-WriteThroughCache-1, in-Some+in_ok-go_on_showing+in-Poke-1, in-Some+in_ok-go_on_showing+in-Plug-1, in_default}
use Rattle.iom_judge.proofs.machine.TraceMachine.grant_held.Goals as goal

pub loop-index-preserved : goal.loop-index-preserved
loop-index-preserved c =
    let old = c.args.self.now in
    let before = c.loop-index.self in
    elim c.match-grant_of_held.branch [
      | in-Some+in_ok-go_on_showing+in-Write-1 w ↦ rw w.self-is
          (held_one_more old before w.go_on_showing.new.self c.args.device _ (rw w.in-Some.is at c.grant_of_held.ensures) c.loop-index.invariant w.in_ok-go_on_showing.ensures)
      | in-Some+in_ok-go_on_showing+in-WriteTranslated-1 w ↦ rw w.self-is
          (held_one_more old before w.go_on_showing.new.self c.args.device _ (rw w.in-Some.is at c.grant_of_held.ensures) c.loop-index.invariant w.in_ok-go_on_showing.ensures)
      | in-Some+in_ok-go_on_showing+in-WriteThroughCache-1 w ↦ rw w.self-is
          (held_one_more old before w.go_on_showing.new.self c.args.device _ (rw w.in-Some.is at c.grant_of_held.ensures) c.loop-index.invariant w.in_ok-go_on_showing.ensures)
      | in-Some+in_ok-go_on_showing+in-Poke-1 w ↦ rw w.self-is
          (held_one_more old before w.go_on_showing.new.self c.args.device _ (rw w.in-Some.is at c.grant_of_held.ensures) c.loop-index.invariant w.in_ok-go_on_showing.ensures)
      | in-Some+in_ok-go_on_showing+in-Plug-1 w ↦ rw w.self-is
          (held_one_more old before w.go_on_showing.new.self c.args.device _ (rw w.in-Some.is at c.grant_of_held.ensures) c.loop-index.invariant w.in_ok-go_on_showing.ensures)
      | in_default w ↦ rw w.self-is c.loop-index.invariant
    ]
