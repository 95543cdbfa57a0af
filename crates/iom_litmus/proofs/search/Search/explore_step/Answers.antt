use Rattle.std.proofs.Common.{◌≡◌, ◌++◌, ◌∷◌, [], Some, None, sym, ap, ◌∙◌, subst}
use Rattle.std.proofs.lemmas.Bool.{false≢true}
use Rattle.iom_litmus.specs.Graphs.{WasTried, WasExplored, IsSpareOf, IsLeftOrNoted}
use Rattle.iom_litmus.specs.Listed.{KeepsListed}
use Rattle.iom_litmus.specs.Rules.{noting}
use Rattle.iom_litmus.proofs.AroundLemmas.{item_is}
use Rattle.iom_litmus.proofs.TryLemmas.{cannot_try, explored_none, explored_some, left_more}
use Rattle.iom_litmus.proofs.search.Search.explore_step.Goals as goal

pub returns-then-not-can_try-clause-explored : goal.returns-then-not-can_try-clause-explored
returns-then-not-can_try-clause-explored g c node is spare cells keeps =
    let same : c.in-Some.node.now ≡ node = item_is c.as_slice.result.now c.args.places.now c.args.current c.in-Some.node.now node c.as_slice.ensures c.in-Some.ensures.lookup.1 is in
    subst (λ n. WasExplored (noting g.S.System.rules cells) g.S.System.readings c.args.self.now.test.now n c.args.step c.args.places.now c.args.places.now None) same
    (cannot_try (noting g.S.System.rules cells) g.S.System.readings c.args.self.now.test.now c.in-Some.node.now c.args.step c.args.places.now
    (λ can. false≢true (sym c.if-not-can_try.true ∙ c.can_try.ensures.1 can)))

pub returns-in-Refused-clause-explored : goal.returns-in-Refused-clause-explored
returns-in-Refused-clause-explored g c node is spare cells keeps =
    let same : c.in-Some.node.now ≡ node = item_is c.as_slice.result.now c.args.places.now c.args.current c.in-Some.node.now node c.as_slice.ensures c.in-Some.ensures.lookup.1 is in
    subst (λ n. WasExplored (noting g.S.System.rules cells) g.S.System.readings c.args.self.now.test.now n c.args.step c.args.places.now c.args.places.now None) same
    (explored_none (noting g.S.System.rules cells) g.S.System.readings c.args.self.now.test.now c.in-Some.node.now c.in_ok-place.place c.in-Refused.left c.args.step c.args.places.now
    (c.in_ok-place.ensures.same (subst (λ n. IsSpareOf c.args.self.now.test.now n c.args.tries.now.spare) (sym same) spare))
    (subst (λ tried. WasTried g.S.System.rules g.S.System.readings c.args.self.now.test.now c.in_ok-place.place c.args.step tried) c.in-Refused.is c.in_ok-end.ensures)
    (left_more c.args.self.now.test.now c.in-Some.node.now c.args.step c.in-Refused.left c.give_back.new.self.changing cells keeps c.in_ok-give_back-in-Refused.ensures.noted))

pub returns-in-Refused-clause-spare : goal.returns-in-Refused-clause-spare
returns-in-Refused-clause-spare g c node is spare =
    let same : c.in-Some.node.now ≡ node = item_is c.as_slice.result.now c.args.places.now c.args.current c.in-Some.node.now node c.as_slice.ensures c.in-Some.ensures.lookup.1 is in
    subst (λ n. IsSpareOf c.args.self.now.test.now n c.give_back.new.self.spare) same c.in_ok-give_back-in-Refused.ensures.spare

pub returns-clause-explored : goal.returns-clause-explored
returns-clause-explored g c node is spare cells keeps =
    let same : c.in-Some.node.now ≡ node = item_is c.as_slice.result.now c.args.places.now c.args.current c.in-Some.node.now node c.as_slice.ensures c.in-Some.ensures.lookup.1 is in
    subst (λ n. WasExplored (noting g.S.System.rules cells) g.S.System.readings c.args.self.now.test.now n c.args.step c.args.places.now c.put.new.self (Some c.in_ok-number.number)) same
    (explored_some (noting g.S.System.rules cells) g.S.System.readings c.args.self.now.test.now c.in-Some.node.now c.in_ok-place.place c.in-Taken.end c.args.step c.in_ok-way.way
    c.args.places.now c.put.new.self c.in_ok-number.number
    (c.in_ok-place.ensures.same (subst (λ n. IsSpareOf c.args.self.now.test.now n c.args.tries.now.spare) (sym same) spare))
    (subst (λ tried. WasTried g.S.System.rules g.S.System.readings c.args.self.now.test.now c.in_ok-place.place c.args.step tried) c.in-Taken.is c.in_ok-end.ensures)
    (c.in_ok-way.ensures ∙ ap (λ way. way ++ c.args.step ∷ []) c.as_slice-2.ensures) c.in_ok-number.ensures.put)
