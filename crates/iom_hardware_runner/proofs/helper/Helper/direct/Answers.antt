use Rattle.std.proofs.Common.{◌≡◌, ◌∙◌, ◌++◌, ◌∷◌, ◌<◌, ℕ, List, length, get_or, set, take, drop, arith, suc, refl, sym, ap}
use Rattle.std.proofs.Math.Seq.{drop-cons}
use Rattle.std.proofs.lemmas.Bool.{eq-eqb}
use Rattle.std.proofs.lemmas.List.{set_split, take_at}
use Rattle.std.proofs.Math.ListN.{length-set}
use Rattle.iom_hardware_runner.specs.Traffic.{with_traffic}
use Rattle.iom_hardware_runner.specs.declared.helper.Traffic.{Traffic}
use Rattle.iom_hardware_runner.proofs.helper.Helper.direct.Goals as goal

-- the first row of the device gets the new pages
put_in_place : (row none : Traffic) (rows : List Traffic) (i : ℕ) → i < length rows → (get_or rows i none).device ≡ row.device
    → with_traffic row rows ≡ take i rows ++ with_traffic row (drop i rows) → set rows i row ≡ with_traffic row rows
put_in_place row none rows i within same seen =
    let placed : with_traffic row (get_or rows i none ∷ drop (suc i) rows) ≡ row ∷ drop (suc i) rows = rw (eq-eqb (get_or rows i none).device row.device same) refl in
    set_split rows i row within
    ∙ sym (seen ∙ ap (λ (l : List Traffic). take i rows ++ l) (ap (λ (l : List Traffic). with_traffic row l) (drop-cons rows i none within) ∙ placed))

pub returns-then-known-device-clause-kept : goal.returns-then-known-device-clause-kept
returns-then-known-device-clause-kept c =
    let row : Traffic = record { device = c.args.device; first = c.args.first; last = c.args.last } in
    let none : Traffic = record { device = 0; first = 0; last = 0 } in
    let rows = c.loop-known.known-items in
    let within : c.loop-known.known-index < length rows = omega (arith, c.loop-known-test.true, c.loop-known.auto.known-items) in
    let kept = c.args.self.now.traffic in
    let many : length (set rows c.loop-known.known-index row) ≡ kept.len =
    omega (arith, length-set {A = Traffic}, c.loop-known.auto.known-items, c.deref_mut-known-items.ensures.len) in
    take_at (set rows c.loop-known.known-index row) (drop (length (set rows c.loop-known.known-index row)) kept.items) kept.len many
    ∙ put_in_place row none rows c.loop-known.known-index within c.if-known-device.true c.loop-known.invariant.1 ∙ ap (λ (l : List Traffic). with_traffic row l) c.loop-known.invariant.0
