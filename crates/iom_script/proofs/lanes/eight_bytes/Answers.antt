use Rattle.std.proofs.Common.{◌≡◌, map, sym, subst, ap, ◌∙◌, take_all, arith}
use Rattle.std.proofs.lemmas.Bool.{false≢true}
use Rattle.iom_script.specs.Cuts.{digit_of_value, value_of_digit, IsHexOf}
use Rattle.iom_script.proofs.LaneLemmas.{AreValues, slice_bytes, hex_read, hex_not_read}
use Rattle.iom_script.proofs.lanes.eight_bytes.Goals as goal

pub returns-then-are_values : goal.returns-then-are_values
returns-then-are_values c =
    let text = c.args.digits.now in
    let are : c.values_of-values.result ≡ map value_of_digit text = c.values_of-values.ensures ∙ ap (map value_of_digit) (take_all 16 text (omega arith)) in
    hex_read text c.joined.result (slice_bytes text c.type_inv.digits) (subst AreValues are (c.are_values.ensures.0 c.if-are_values.true))
    (subst (λ values. IsHexOf (map digit_of_value values) c.joined.result) are c.joined.ensures)

pub returns-else-are_values : goal.returns-else-are_values
returns-else-are_values c =
    let text = c.args.digits.now in
    let are : c.values_of-values.result ≡ map value_of_digit text = c.values_of-values.ensures ∙ ap (map value_of_digit) (take_all 16 text (omega arith)) in
    hex_not_read text (λ all. false≢true (c.if-are_values.ensures.1 (subst AreValues (sym are) all)))
