-- What appending a command leaves of the registers and of memory: the tail moves on by one, and bytes change in the ring's frame alone.
use Rattle.std.proofs.Common.{◌≡◌, ◌≢◌, ◌+◌, ◌%◌, ◌<◌, ◌∙◌, ℕ, inl, inr, List, length, slice_get, refl, sym, ap, subst, arith}
use Rattle.std.proofs.Math.Nat.{mod-lt}
use Rattle.std.proofs.lemmas.Bool.Decides.{eqb_tells, nat_tests}
use Rattle.iom_command_queue.specs.declared.command.Command.{Command}
use Rattle.iom_command_queue.specs.Waiting.{distance, how_many, place_of, WritesCommand}
use Rattle.iom_registers.specs.declared.registers.Registers.{Registers}
use Rattle.iom_registers.specs.declared.register.Register.TheVariants.{Cqt}
use Rattle.iom_registers.specs.Queues.{command_entries, command_head, command_tail, next_index}
use Rattle.iom_registers.specs.Table.{written}
use Rattle.iom_registers.proofs.Modulo.{twice, next_below}
use Rattle.iom_driver.specs.Directory.{KeepsDirectory}
use Rattle.iom_driver.specs.Layout.{command_frame}
use Rattle.iom_driver.specs.Ready.{IsRing, KeepsFaults}
use Rattle.iom_driver.proofs.Again.{faults_through, named_through}
use Rattle.iom_driver.proofs.Ring.{in_ring}

-- the registers, once the tail moved on
abbrev pub moved : Registers → Registers
moved r = written r Cqt (next_index (command_entries r) (command_tail r))

pub moved_ring : (frames : ℕ) (r : Registers) → IsRing frames r → IsRing frames (moved r)
moved_ring frames r ring = record { on = ring.on; base = ring.base; entries = ring.entries }

pub moved_named : (r : Registers) → KeepsDirectory r (moved r)
moved_named r = (refl, refl)

pub moved_faults : (r : Registers) → KeepsFaults r (moved r)
moved_faults r = record { on = refl; base = refl; head = refl; tail = refl }

-- up to the next tail there is one more
one_more : (size head tail : ℕ) → head < size → tail < size → distance size head tail + 1 < size → distance size head (next_index size tail) ≡ distance size head tail + 1
one_more size head tail low below room = elim (eqb_tells (tail + 1) size) [
  | inl last ↦ rw last.0 (let e = last.1 in grind (arith, nat_tests))
  | inr inner ↦ rw inner.0 (let e = inner.1 in grind (arith, nat_tests))
]

pub moved_count : (r : Registers) → command_entries r ≡ 256 → how_many r + 1 < 256 → how_many (moved r) ≡ how_many r + 1
moved_count r entries room =
    let size = command_entries r in
    let some : 0 < size = omega (arith, entries) in
    let low : command_head r < size = mod-lt r.cqh some in
    let below : command_tail r < size = mod-lt r.cqt some in
    let inside : how_many r + 1 < size = omega (arith, entries, room) in
    ap (λ t. distance size (command_head r) t) (twice size (next_index size (command_tail r)) (next_below size (command_tail r) below))
    ∙ one_more size (command_head r) (command_tail r) low below inside

-- a frame that isn't the ring's keeps its bytes
pub other_frames : (r : Registers) (memory memory' : List (List ℕ)) (command : Command) → IsRing (length memory) r → WritesCommand memory (place_of r (command_tail r)) command memory'
    → (n : ℕ) → n ≢ command_frame (length memory) → slice_get memory' n ≡ slice_get memory n
other_frames r memory memory' command ring written n apart =
    let below : command_tail r < command_entries r = subst (λ m. r.cqt % m < m) (sym ring.entries) (mod-lt r.cqt (omega arith)) in
    written.other_frames n (λ same. apart (same ∙ in_ring r (length memory) (command_tail r) ring below))

-- what stays, whatever is appended
pub record GoesOn (r r' : Registers) (memory memory' : List (List ℕ)) : Type 0 where
  pub named : KeepsDirectory r r'
  pub faults : KeepsFaults r r'
  pub other_frames : (n : ℕ) → n ≢ command_frame (length memory) → slice_get memory' n ≡ slice_get memory n
  pub size : length memory' ≡ length memory

-- first by one, and then by another
pub goes_on : (r r' r'' : Registers) (memory memory' memory'' : List (List ℕ)) → GoesOn r r' memory memory' → GoesOn r' r'' memory' memory'' → GoesOn r r'' memory memory''
goes_on r r' r'' memory memory' memory'' first second = record {
  named = named_through r r' r'' first.named second.named;
  faults = faults_through r r' r'' first.faults second.faults;
  other_frames = λ n apart. second.other_frames n (subst (λ k. n ≢ command_frame k) (sym first.size) apart) ∙ first.other_frames n apart;
  size = second.size ∙ first.size;
}
