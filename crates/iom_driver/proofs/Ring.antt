-- The registers go on to name the driver's ring, and the list of the commands in it.
use Rattle.std.proofs.Common.{zero, suc, ◌≡◌, ◌+◌, ◌-◌, ◌*◌, ◌/◌, ◌%◌, ◌^◌, ◌<◌, ◌≤◌, ◌++◌, ◌∙◌, ℕ, true, Some, List, [], ◌∷◌, length, map, slice_get, refl, sym, ap, subst, arith, All}
use Rattle.std.proofs.lemmas.List.Elements.{All-nil}
use Rattle.std.proofs.Math.Nat.{zero-mod}
use Rattle.iom_command_queue.specs.declared.command.Command.{Command}
use Rattle.iom_command_queue.specs.declared.entry.QueueEntry.{QueueEntry}
use Rattle.iom_command_queue.specs.declared.entry.QueueEntry.TheVariants as stands
use Rattle.iom_command_queue.specs.Waiting.{commands_in, place_of}
use Rattle.iom_command_queue.proofs.Waits.{empty, stays_by_frames}
use Rattle.iom_fault_queue.specs.declared.entry.Entry.{Entry}
use Rattle.iom_fault_queue.specs.Ring.{records_in}
use Rattle.iom_fault_queue.proofs.Lists.{empty as no_records}
use Rattle.iom_registers.specs.declared.mmio.Mmio.{Ghosts}
use Rattle.iom_registers.specs.Bits.{bits}
use Rattle.iom_registers.specs.declared.directory.DirectoryPointer.{DirectoryPointer}
use Rattle.iom_registers.specs.declared.registers.Registers.{Registers}
use Rattle.iom_registers.specs.declared.register.Register.TheVariants.{Ddtp, Cqb, Cqcsr, Fqb, Fqcsr}
use Rattle.iom_registers.specs.Fields.{entry_count, ddtp_written, with_mode, mode_with_code, pointer_to}
use Rattle.iom_registers.specs.Queues.{command_base, command_entries, command_head, command_tail, directory_mode, directory_root, is_command_queue_on, fault_base, fault_entries, fault_head, fault_tail, is_fault_queue_on}
use Rattle.iom_registers.specs.Table.{written}
use Rattle.iom_driver.specs.Appends.{AppendsAll}
use Rattle.iom_driver.specs.Calls.{IsOff}
use Rattle.iom_driver.specs.Directory.{NamesDirectory, mode_of}
use Rattle.iom_driver.specs.Layout.{IsLevels, command_frame, cqb_of, ddtp_of, fqb_of}
use Rattle.iom_driver.specs.Ready.{IsRing, IsReport, IsFaultRing}

-- after a start
abbrev pub started : Registers → ℕ → ℕ → ℕ → Registers
started r ddtp cqb fqb = written (written (written (written (written r Ddtp ddtp) Cqb cqb) Cqcsr 1) Fqb fqb) Fqcsr 1

started_on : (r : Registers) (ddtp cqb fqb : ℕ) → IsOff r → is_command_queue_on (started r ddtp cqb fqb) ≡ true
started_on r ddtp cqb fqb off = rw (off.off, off.faults_off) refl

started_entries : (r : Registers) (ddtp frames fqb : ℕ) → IsOff r → command_entries (started r ddtp (cqb_of frames) fqb) ≡ 256
unfolding entry_count
started_entries r ddtp frames fqb off =
    let low : cqb_of frames / 2 ^ 0 % 2 ^ (4 + 1 - 0) ≡ 7 = omega arith in
    rw (off.off, off.faults_off) (rw low refl)

started_base : (r : Registers) (ddtp frames fqb : ℕ) → IsOff r → frames ≤ 4096 → command_base (started r ddtp (cqb_of frames) fqb) ≡ 4096 * (frames - 1)
started_base r ddtp frames fqb off le = rw (off.off, off.faults_off) (omega arith)

pub started_ring : (r : Registers) (ddtp frames fqb : ℕ) → IsOff r → frames ≤ 4096 → IsRing frames (started r ddtp (cqb_of frames) fqb)
started_ring r ddtp frames fqb off le = record {
  on = started_on r ddtp (cqb_of frames) fqb off;
  base = started_base r ddtp frames fqb off le;
  entries = started_entries r ddtp frames fqb off;
}

started_head : (r : Registers) (ddtp cqb fqb : ℕ) → IsOff r → command_head (started r ddtp cqb fqb) ≡ 0
started_head r ddtp cqb fqb off = rw (off.off, off.faults_off) (zero-mod _)

started_tail : (r : Registers) (ddtp cqb fqb : ℕ) → IsOff r → command_tail (started r ddtp cqb fqb) ≡ 0
started_tail r ddtp cqb fqb off = rw (off.off, off.faults_off, off.tail) (zero-mod _)

pub started_empty : (memory : List (List ℕ)) (r : Registers) (ddtp cqb fqb : ℕ) → IsOff r → commands_in memory (started r ddtp cqb fqb) ≡ []
started_empty memory r ddtp cqb fqb off = empty memory (started r ddtp cqb fqb) (started_head r ddtp cqb fqb off ∙ sym (started_tail r ddtp cqb fqb off))

-- and the fault queue is on, and empty
started_fault_head : (r : Registers) (ddtp cqb fqb : ℕ) → IsOff r → fault_head (started r ddtp cqb fqb) ≡ 0
started_fault_head r ddtp cqb fqb off = rw (off.off, off.faults_off, off.head) (zero-mod _)

started_fault_tail : (r : Registers) (ddtp cqb fqb : ℕ) → IsOff r → fault_tail (started r ddtp cqb fqb) ≡ 0
started_fault_tail r ddtp cqb fqb off = rw (off.off, off.faults_off) (zero-mod _)

pub started_unreported : (memory : List (List ℕ)) (r : Registers) (ddtp cqb fqb : ℕ) → IsOff r → records_in memory (started r ddtp cqb fqb) ≡ []
started_unreported memory r ddtp cqb fqb off = no_records memory (started r ddtp cqb fqb) (started_fault_head r ddtp cqb fqb off ∙ sym (started_fault_tail r ddtp cqb fqb off))

started_faults_on : (r : Registers) (ddtp cqb fqb : ℕ) → IsOff r → is_fault_queue_on (started r ddtp cqb fqb) ≡ true
started_faults_on r ddtp cqb fqb off = rw (off.off, off.faults_off) refl

started_fault_entries : (r : Registers) (ddtp cqb frames : ℕ) → IsOff r → fault_entries (started r ddtp cqb (fqb_of frames)) ≡ 128
unfolding entry_count
started_fault_entries r ddtp cqb frames off =
    let low : fqb_of frames / 2 ^ 0 % 2 ^ (4 + 1 - 0) ≡ 6 = omega arith in
    rw (off.off, off.faults_off) (rw low refl)

started_fault_base : (r : Registers) (ddtp cqb frames : ℕ) → IsOff r → frames ≤ 4096 → fault_base (started r ddtp cqb (fqb_of frames)) ≡ 4096 * (frames - 2)
started_fault_base r ddtp cqb frames off le = rw (off.off, off.faults_off) (omega arith)

pub started_fault_ring : (memory : List (List ℕ)) (r : Registers) (ddtp cqb frames : ℕ) → IsOff r → length memory ≡ frames → frames ≤ 4096 → IsFaultRing memory (started r ddtp cqb (fqb_of frames))
started_fault_ring memory r ddtp cqb frames off size le = record {
  on = started_faults_on r ddtp cqb (fqb_of frames) off;
  base = started_fault_base r ddtp cqb frames off le ∙ ap (λ n. 4096 * (n - 2)) (sym size);
  entries = started_fault_entries r ddtp cqb frames off;
  reports = subst (λ (es : List Entry). All IsReport es) (sym (started_unreported memory r ddtp cqb (fqb_of frames) off)) (All-nil IsReport);
}

-- a place of the ring lies in its frame
pub in_ring : (r : Registers) (frames j : ℕ) → IsRing frames r → j < command_entries r → place_of r j / 4096 ≡ command_frame frames
in_ring r frames j ring lt =
    let small : j < 256 = subst (λ n. j < n) ring.entries lt in
    let at : place_of r j ≡ 4096 * command_frame frames + 16 * j = ap (λ b. b + 16 * j) ring.base in
    rw at (omega (arith, small))

-- where the ring's frame keeps its bytes, the same commands wait
pub same_commands : (m n : List (List ℕ)) (r : Registers) → IsRing (length m) r → slice_get n (command_frame (length m)) ≡ slice_get m (command_frame (length m))
    → commands_in n r ≡ commands_in m r
same_commands m n r ring same = stays_by_frames m n r (λ j lt. rw (in_ring r (length m) j ring lt) same)

after_first : (xs : List QueueEntry) (x : QueueEntry) (ys : List QueueEntry) → (xs ++ x ∷ []) ++ ys ≡ xs ++ x ∷ ys
after_first [] x ys = refl
after_first (z ∷ zs) x ys = ap (λ ws. z ∷ ws) (after_first zs x ys)

none_after : (xs : List QueueEntry) → xs ++ [] ≡ xs
none_after [] = refl
none_after (x ∷ xs) = ap (λ ys. x ∷ ys) (none_after xs)

-- commands that are appended are the last of those that wait
pub all_last : {M : Type 0} (g : Ghosts M) (memory memory' : List (List ℕ)) (io io' : M) (commands : List Command) → AppendsAll g memory io commands memory' io'
    → commands_in memory' (g.registers io') ≡ commands_in memory (g.registers io) ++ map stands.Command commands
all_last g memory memory' io io' [] all = rw (all.0, all.1) (sym (none_after (commands_in memory (g.registers io))))
all_last g memory memory' io io' (command ∷ later) all =
    all_last g all.0 memory' all.1 io' later all.3
    ∙ ap (λ (xs : List QueueEntry). xs ++ map stands.Command later) all.2.list
    ∙ after_first (commands_in memory (g.registers io)) (stands.Command command) (map stands.Command later)

-- registers whose ddtp stays name the same directory
pub stays_named : (frames levels : ℕ) (old new : Registers) → (directory_mode new ≡ directory_mode old) × (directory_root new ≡ directory_root old) → NamesDirectory frames levels old
    → NamesDirectory frames levels new
stays_named frames levels old new same names = record { mode = same.0 ∙ names.mode; root = same.1 ∙ names.root }

started_pointer : (r : Registers) (ddtp cqb fqb : ℕ) → IsOff r → (started r ddtp cqb fqb).ddtp ≡ ddtp_written r.ddtp ddtp
started_pointer r ddtp cqb fqb off = rw (off.off, off.faults_off) refl

-- the number of iommu_mode is one above that of the levels
mode_above : (levels : ℕ) → IsLevels levels → mode_with_code (levels + 1) ≡ Some (mode_of levels)
mode_above zero range = absurd (omega arith)
mode_above (suc zero) range = refl
mode_above (suc (suc zero)) range = refl
mode_above (suc (suc (suc zero))) range = refl
mode_above (suc (suc (suc (suc n)))) range = absurd (omega arith)

-- after a start the registers name the directory
pub started_names : (r : Registers) (frames levels : ℕ) → IsOff r → frames ≤ 4096 → IsLevels levels → (cqb fqb : ℕ) → NamesDirectory frames levels (started r (ddtp_of frames levels) cqb fqb)
started_names r frames levels off few range cqb fqb =
    let low : bits 3 0 (ddtp_of frames levels) ≡ levels + 1 = omega (arith, range.1) in
    let high : bits 53 10 (ddtp_of frames levels) ≡ frames - 4 = omega (arith, range.1, few) in
    let pointer : (started r (ddtp_of frames levels) cqb fqb).ddtp ≡ pointer_to (mode_of levels) (ddtp_of frames levels) =
    started_pointer r (ddtp_of frames levels) cqb fqb off ∙ ap (λ m. with_mode r.ddtp m (ddtp_of frames levels)) (ap mode_with_code low ∙ mode_above levels range) in
    record { mode = ap (λ (p : DirectoryPointer). p.mode) pointer; root = ap (λ (p : DirectoryPointer). p.ppn) pointer ∙ high }
