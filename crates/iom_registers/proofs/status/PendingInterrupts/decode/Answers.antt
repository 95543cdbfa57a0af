use Rattle.std.proofs.Common.{◌∙◌, refl}
use Rattle.iom_registers.proofs.Bits.{test_low}
use Rattle.iom_registers.proofs.status.PendingInterrupts.decode.Goals as goal

pub returns : goal.returns
returns c =
    rw (
      test_low c.from_bits_retain-bits.result.0 c.args.value 1 c.contains.result (c.from_bits_retain-bits.ensures tt ∙ c.low_word.ensures) refl (c.contains.ensures tt),
      test_low c.from_bits_retain-bits.result.0 c.args.value 2 c.contains-2.result (c.from_bits_retain-bits.ensures tt ∙ c.low_word.ensures) refl (c.contains-2.ensures tt),
    ) refl
