-- The flags of a leaf that serves devices are all set.
use Rattle.std.proofs.Common.{◌==◌, bit_and, sym, ap, ◌∙◌, arith}
use Rattle.iom_stage_walk.specs.Fields.{flags_of, reserved_of}
use Rattle.iom_stage_walk.proofs.Masks.{leaf_mask}
use Rattle.iom_stage_walk.proofs.pte.Pte.is_served_leaf.Goals as goal

pub returns-then-reserved-eq0 : goal.returns-then-reserved-eq0
returns-then-reserved-eq0 c =
    ap (λ f. bit_and f 83 == 83) (c.bits.ensures tt ∙ ap (λ flags. flags.0) c.flags.ensures)
    ∙ leaf_mask (flags_of c.args.self).0 (reserved_of c.args.self) (omega arith) (sym c.reserved.ensures ∙ c.if-reserved-eq0.true)
