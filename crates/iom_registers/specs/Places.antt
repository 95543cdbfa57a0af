-- Which register an access reaches (IOMMU specification, chapter 5, "Register layout"). An access is made at a register's
-- own offset, with its own width.
use Rattle.std.specs.Prelude.{ℕ, ◌==◌, List, [], ◌∷◌, Option, Some, None, Result, Ok, Err, if◌then◌else◌}
use Rattle.iom_registers.specs.declared.register.Register.{Register}
use Rattle.iom_registers.specs.declared.register.Register.TheVariants.{Capabilities, Fctl, Ddtp, Cqb, Cqh, Cqt, Fqb, Fqh, Fqt, Cqcsr, Fqcsr, Ipsr}
use Rattle.iom_registers.specs.declared.register.RegFault.{RegFault}
use Rattle.iom_registers.specs.declared.register.RegFault.TheVariants.{BadOffset, BadWidth}

-- the byte at which a register begins
abbrev pub register_offset : Register → ℕ
register_offset Capabilities = 0
register_offset Fctl = 8
register_offset Ddtp = 16
register_offset Cqb = 24
register_offset Cqh = 32
register_offset Cqt = 36
register_offset Fqb = 40
register_offset Fqh = 48
register_offset Fqt = 52
register_offset Cqcsr = 72
register_offset Fqcsr = 76
register_offset Ipsr = 84

-- how many bytes a register has
abbrev pub register_width : Register → ℕ
register_width Capabilities = 8
register_width Fctl = 4
register_width Ddtp = 8
register_width Cqb = 8
register_width Cqh = 4
register_width Cqt = 4
register_width Fqb = 8
register_width Fqh = 4
register_width Fqt = 4
register_width Cqcsr = 4
register_width Fqcsr = 4
register_width Ipsr = 4

abbrev pub all_registers : List Register
all_registers = Capabilities ∷ Fctl ∷ Ddtp ∷ Cqb ∷ Cqh ∷ Cqt ∷ Fqb ∷ Fqh ∷ Fqt ∷ Cqcsr ∷ Fqcsr ∷ Ipsr ∷ []

-- the register of these that begins at the offset
abbrev pub register_from : List Register → ℕ → Option Register
register_from [] offset = None
register_from (register ∷ rest) offset = if offset == register_offset register then Some register else register_from rest offset

-- a register that is accessed with this width; none began at the offset
abbrev pub with_width : Option Register → ℕ → Result Register RegFault
with_width None width = Err BadOffset
with_width (Some register) width = if width == register_width register then Ok register else Err BadWidth

-- the register that an access reaches, or why it is refused
abbrev pub register_at : ℕ → ℕ → Result Register RegFault
register_at offset width = with_width (register_from all_registers offset) width

-- what a read answers, by what the registers show
abbrev pub answer_of : (Register → ℕ) → Result Register RegFault → Result ℕ RegFault
answer_of shows (Ok register) = Ok (shows register)
answer_of shows (Err fault) = Err fault

-- what a write answers
abbrev pub done_of : Result Register RegFault → Result (Unit {0}) RegFault
done_of (Ok register) = Ok tt
done_of (Err fault) = Err fault

-- what a write leaves of a value, by what a write to each register leaves: a refused one leaves it as it is
abbrev pub changed_by : {X : Type 0} → (Register → ℕ → X) → X → ℕ → Result Register RegFault → X
changed_by after old value (Ok register) = after register value
changed_by after old value (Err fault) = old
