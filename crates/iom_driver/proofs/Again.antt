-- The command queue once it is turned off and on again: it is where it was, and empty.
use Rattle.std.proofs.Common.{◌≡◌, ◌%◌, ◌∙◌, ℕ, List, [], refl, sym, ap}
use Rattle.std.proofs.Math.Nat.{zero-mod}
use Rattle.iom_command_queue.specs.Waiting.{commands_in, distance, how_many}
use Rattle.iom_command_queue.proofs.Waits.{empty}
use Rattle.iom_registers.specs.declared.registers.Registers.{Registers}
use Rattle.iom_registers.specs.declared.register.Register.TheVariants.{Cqcsr, Cqt}
use Rattle.iom_registers.specs.Queues.{command_entries, command_head, command_tail}
use Rattle.iom_registers.specs.Table.{written}
use Rattle.iom_driver.specs.Directory.{KeepsDirectory}
use Rattle.iom_driver.specs.Ready.{IsRing, KeepsFaults}

-- after it is turned off, its tail is set to 0, and it is turned on
abbrev pub again : Registers → Registers
again r = written (written (written r Cqcsr 0) Cqt 0) Cqcsr 1

again_head : (frames : ℕ) (r : Registers) → IsRing frames r → command_head (again r) ≡ 0
again_head frames r ring = rw ring.on (zero-mod _)

again_tail : (frames : ℕ) (r : Registers) → IsRing frames r → command_tail (again r) ≡ 0
again_tail frames r ring = ap (λ n. n % command_entries r) (zero-mod (command_entries r)) ∙ zero-mod (command_entries r)

pub again_ring : (frames : ℕ) (r : Registers) → IsRing frames r → IsRing frames (again r)
again_ring frames r ring = record { on = rw ring.on refl; base = ring.base; entries = ring.entries }

pub again_named : (r : Registers) → KeepsDirectory r (again r)
again_named r = (refl, refl)

pub again_faults : (r : Registers) → KeepsFaults r (again r)
again_faults r = record { on = refl; base = refl; head = refl; tail = refl }

pub again_count : (frames : ℕ) (r : Registers) → IsRing frames r → how_many (again r) ≡ 0
again_count frames r ring =
    let size = command_entries r in
    ap (λ i. distance size i (command_tail (again r))) (again_head frames r ring) ∙ ap (λ t. distance size 0 t) (again_tail frames r ring)

pub again_empty : (memory : List (List ℕ)) (frames : ℕ) (r : Registers) → IsRing frames r → commands_in memory (again r) ≡ []
again_empty memory frames r ring = empty memory (again r) (again_head frames r ring ∙ sym (again_tail frames r ring))

-- the fault queue is kept, and kept again; and so is the place of the directory
pub faults_through : (r s t : Registers) → KeepsFaults r s → KeepsFaults s t → KeepsFaults r t
faults_through r s t one other = record { on = other.on ∙ one.on; base = other.base ∙ one.base; head = other.head ∙ one.head; tail = other.tail ∙ one.tail }

pub named_through : (r s t : Registers) → KeepsDirectory r s → KeepsDirectory s t → KeepsDirectory r t
named_through r s t one other = (other.0 ∙ one.0, other.1 ∙ one.1)
