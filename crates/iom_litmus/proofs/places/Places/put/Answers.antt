use Rattle.std.proofs.Common.{◌≡◌, ◌++◌, ◌∷◌, [], IfOk, inl, inr, length, refl, sym, ap, ◌∙◌, subst, rules}
use Rattle.iom_litmus.specs.declared.node.Node.{Node}
use Rattle.iom_litmus.specs.Graphs.{WasPut}
use Rattle.iom_litmus.proofs.places.Places.put.Goals.{in-Ok, in-Err}
use Rattle.iom_litmus.proofs.places.Places.put.Goals as goal

pub returns-in-Some-clause-put : goal.returns-in-Some-clause-put
returns-in-Some-clause-put g c = inl (c.in-Some.ensures, refl)

pub returns-clause-put : goal.returns-clause-put
returns-clause-put g c =
    let node : Node g.row.S.Denot = record { place = c.args.place; way = c.args.way; outcome = c.in_ok-outcome.outcome; twin = c.copied-twin.result } in
    let is : c.push.new.self ≡ c.args.self.now ++ node ∷ [] = c.in_ok-push.ensures.ok ∙ ap (λ (n : Node g.row.S.Denot). c.self.inside.nodes ++ n ∷ []) c.keeping-node.ensures ∙ ap (λ nodes. nodes ++ node ∷ []) c.self.view_is in
    let at : length c.as_slice-number.result.now ≡ length c.args.self.now = search rules in
    let was : WasPut g.S.System.readings c.args.test.now c.args.way c.args.place c.args.self.now c.push.new.self (length c.as_slice-number.result.now) =
    inr (node, is, at, refl, refl, c.in_ok-outcome.ensures) in
    elim c.match-insert.branch [
      | in-Ok w ↦ subst (λ r. IfOk r (WasPut g.S.System.readings c.args.test.now c.args.way c.args.place c.args.self.now c.push.new.self)) (sym w.result-is) was
      | in-Err w ↦ subst (λ r. IfOk r (WasPut g.S.System.readings c.args.test.now c.args.way c.args.place c.args.self.now c.push.new.self)) (sym w.result-is) tt
    ]
