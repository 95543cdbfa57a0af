-- Of the flags that a pointer is told by, V alone is set.
use Rattle.std.proofs.Common.{nat_eq, ◌==◌, bit_and, sym, ap, ◌∙◌, arith}
use Rattle.iom_stage_walk.specs.Fields.{flags_of, reserved_of}
use Rattle.iom_stage_walk.proofs.Masks.{pointer_mask}
use Rattle.iom_stage_walk.proofs.pte.Pte.names_table.Goals as goal

pub returns-then-reserved-eq0 : goal.returns-then-reserved-eq0
returns-then-reserved-eq0 c =
    ap (λ v. nat_eq (bit_and c.bits.result 223) v) (c.bits-then-reserved-eq0.ensures tt)
    ∙ ap (λ f. bit_and f 223 == 1) (c.bits.ensures tt ∙ ap (λ flags. flags.0) c.flags.ensures)
    ∙ pointer_mask (flags_of c.args.self).0 (reserved_of c.args.self) (omega arith) (sym c.reserved.ensures ∙ c.if-reserved-eq0.true)
