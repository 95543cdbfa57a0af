use Rattle.std.proofs.Common.{◌≡◌, [], take, sym, ◌∙◌, subst, arith}
use Rattle.iom_litmus.specs.Graphs.{IsSpareOf}
use Rattle.iom_litmus.specs.Listed.{AreListedOnce, KeepsListed}
use Rattle.iom_litmus.specs.Rules.{noting}
use Rattle.iom_litmus.proofs.ExpandLemmas.{IsExpanding, expanding_none, expanding_next_past, expanding_next_on, expanded_all, slice_get_grown}
use Rattle.iom_litmus.proofs.search.Search.take_steps.Goals.{in-Some+in_ok-push, in_default}
use Rattle.iom_litmus.proofs.search.Search.take_steps.Goals as goal

pub loop-step-init : goal.loop-step-init
loop-step-init g c = (
  (λ cell there. there),
  λ node is. (
    subst (λ spare. IsSpareOf c.args.self.now.test.now node spare) (sym c.requires.no_spare) tt,
    λ cells keeps. subst (λ edges. IsExpanding (noting g.S.System.rules cells) g.S.System.readings c.args.self.now.test.now node c.args.places.now c.args.places.now (take 0 c.args.steps.now) edges)
        (sym c.requires.no_edges)
        (expanding_none (noting g.S.System.rules cells) g.S.System.readings c.args.self.now.test.now node c.args.places.now c.args.steps.now),
  ),
)

pub loop-step-preserved : goal.loop-step-preserved
loop-step-preserved g c =
    let (kept, known) = c.loop-step.invariant in
    let more = c.in_ok-to.ensures.keeps in (
      (λ cell there. more cell (kept cell there)),
      λ node is.
          let (spare, expanding) = known node is in
          let there = slice_get_grown c.args.places.now c.loop-step.places c.args.current node (expanding c.loop-step.tries.changing (λ cell listed. listed)).grown is in (
            c.in_ok-to.ensures.spare node there spare,
            λ cells keeps.
                let e = expanding cells (λ cell listed. keeps cell (more cell listed)) in
                let explored = c.in_ok-to.ensures.explored node there spare cells keeps in
                elim c.match-branch-2.branch [
                  | in-Some+in_ok-push w ↦ expanding_next_on (noting g.S.System.rules cells) g.S.System.readings c.args.self.now.test.now node c.args.places.now c.loop-step.places c.explore_step.new.places
                      c.args.steps.now c.loop-step.edges c.match-branch-2.edges c.loop-step.step-index _ _ c.in_ok-to.field-0 e c.loop-step-test.true c.requires.once explored w.in-Some.is
                      (w.edges-is ∙ w.in_ok-push.ensures.ok)
                  | in_default w ↦ expanding_next_past (noting g.S.System.rules cells) g.S.System.readings c.args.self.now.test.now node c.args.places.now c.loop-step.places c.explore_step.new.places
                      c.args.steps.now c.loop-step.edges c.match-branch-2.edges c.loop-step.step-index _ c.in_ok-to.field-0 e c.loop-step-test.true c.requires.once explored w.in_default.is w.edges-is
                ],
          ),
    )

pub returns-clause-expanded : goal.returns-clause-expanded
returns-clause-expanded g c node is candidates cells keeps =
    let past = c.loop-step-test.false in
    let end = c.loop-step.auto.step-index-end in
    expanded_all (noting g.S.System.rules cells) g.S.System.readings c.args.self.now.test.now node c.args.places.now c.loop-step.places c.args.steps.now c.args.steps.now c.loop-step.edges
    c.loop-step.step-index ((c.loop-step.invariant.1 node is).1 cells keeps) (omega (arith, past, end)) candidates
    (record { once = c.requires.once; all = λ step there. there })
