-- `==` of register files decides whether they are one.
use Rattle.std.proofs.Common.{rules, Decides, ◌≡◌, ◌<◌, ◌^◌, ℕ, Bool, true, false, refl, subst, ◌&&◌, nat_eq}
use Rattle.std.proofs.Props.{props}
use Rattle.std.proofs.lemmas.Bool.{eqb-true}
use mathlib.Core.Bool.{beq}
use mathlib.Core.HLevel.{is_prop→PathP}
use mathlib.Core.Path.{PathP}
use Rattle.iom_registers.specs.contracts.directory.DirectoryModePartialEq.TheImpl as mode
use Rattle.iom_registers.specs.contracts.directory.DirectoryPointerPartialEq.TheImpl as pointer
use Rattle.iom_registers.specs.contracts.queue_base.QueueBasePartialEq.TheImpl as base
use Rattle.iom_registers.specs.contracts.status.CommandStatusPartialEq.TheImpl as command
use Rattle.iom_registers.specs.contracts.status.FaultStatusPartialEq.TheImpl as fault
use Rattle.iom_registers.specs.contracts.status.PendingInterruptsPartialEq.TheImpl as pending
use Rattle.iom_registers.specs.contracts.registers.RegistersPartialEq.TheImpl as registers
use Rattle.iom_registers.specs.contracts.registers.RegistersEq.TheImpl.Laws as file_eq
use Rattle.iom_registers.specs.declared.directory.DirectoryMode.{DirectoryMode}
use Rattle.iom_registers.specs.declared.directory.DirectoryPointer.{DirectoryPointer}
use Rattle.iom_registers.specs.declared.queue_base.QueueBase.{QueueBase}
use Rattle.iom_registers.specs.declared.status.CommandStatus.{CommandStatus}
use Rattle.iom_registers.specs.declared.status.FaultStatus.{FaultStatus}
use Rattle.iom_registers.specs.declared.status.PendingInterrupts.{PendingInterrupts}
use Rattle.iom_registers.specs.declared.registers.Registers.{Registers}

both : (x y : Bool) → x && y ≡ true → (x ≡ true) × (y ≡ true)
both true y e = (refl, e)
both false y e = absurd (cc)

one_bit : (x y : Bool) → beq x y ≡ true → x ≡ y
one_bit true true e = refl
one_bit false false e = refl
one_bit true false e = absurd (cc)
one_bit false true e = absurd (cc)

-- two proofs that a number is small are one
one_bound : (n : ℕ) {a b : ℕ} (e : a ≡ b) → (x : a < n) (y : b < n) → PathP (λ i. e i < n) x y
one_bound n e x y = is_prop→PathP (λ i. e i < n) (λ i. let p : IsProp (e i < n) = hlevel props in p) x y

one_mode : (a b : DirectoryMode) → mode.ghosts.eq a b ≡ true → a ≡ b
one_mode a b same = search rules

one_pointer : (a b : DirectoryPointer) → pointer.ghosts.eq a b ≡ true → a ≡ b
one_pointer a b same =
    let both_are = both (mode.ghosts.eq a.mode b.mode) (nat_eq a.ppn b.ppn) same in
    let ppn = eqb-true a.ppn b.ppn both_are.1 in
    λ i. record { mode = one_mode a.mode b.mode both_are.0 i; ppn = ppn i; in_range = one_bound (2 ^ 44) ppn a.in_range b.in_range i }

one_base : (a b : QueueBase) → base.ghosts.eq a b ≡ true → a ≡ b
one_base a b same =
    let both_are = both (nat_eq a.log2sz_less_1 b.log2sz_less_1) (nat_eq a.ppn b.ppn) same in
    let size = eqb-true a.log2sz_less_1 b.log2sz_less_1 both_are.0 in
    let ppn = eqb-true a.ppn b.ppn both_are.1 in
    λ i. record { log2sz_less_1 = size i; ppn = ppn i; sized = one_bound 32 size a.sized b.sized i; in_range = one_bound (2 ^ 44) ppn a.in_range b.in_range i }

one_command : (a b : CommandStatus) → command.ghosts.eq a b ≡ true → a ≡ b
one_command a b same =
    let cqen = both (beq a.cqen b.cqen) _ same in
    let cie = both (beq a.cie b.cie) _ cqen.1 in
    let cqmf = both (beq a.cqmf b.cqmf) _ cie.1 in
    let cmd_to = both (beq a.cmd_to b.cmd_to) _ cqmf.1 in
    let last = both (beq a.cmd_ill b.cmd_ill) (beq a.fence_w_ip b.fence_w_ip) cmd_to.1 in
    λ i. record {
      cqen = one_bit a.cqen b.cqen cqen.0 i;
      cie = one_bit a.cie b.cie cie.0 i;
      cqmf = one_bit a.cqmf b.cqmf cqmf.0 i;
      cmd_to = one_bit a.cmd_to b.cmd_to cmd_to.0 i;
      cmd_ill = one_bit a.cmd_ill b.cmd_ill last.0 i;
      fence_w_ip = one_bit a.fence_w_ip b.fence_w_ip last.1 i;
    }

one_fault : (a b : FaultStatus) → fault.ghosts.eq a b ≡ true → a ≡ b
one_fault a b same = search rules

one_pending : (a b : PendingInterrupts) → pending.ghosts.eq a b ≡ true → a ≡ b
one_pending a b same = search rules

one_file : (a b : Registers) → registers.ghosts.eq a b ≡ true → a ≡ b
one_file a b same =
    let ddtp = both (pointer.ghosts.eq a.ddtp b.ddtp) _ same in
    let cqb = both (base.ghosts.eq a.cqb b.cqb) _ ddtp.1 in
    let cqh = both (nat_eq a.cqh b.cqh) _ cqb.1 in
    let cqt = both (nat_eq a.cqt b.cqt) _ cqh.1 in
    let cqcsr = both (command.ghosts.eq a.cqcsr b.cqcsr) _ cqt.1 in
    let fqb = both (base.ghosts.eq a.fqb b.fqb) _ cqcsr.1 in
    let fqh = both (nat_eq a.fqh b.fqh) _ fqb.1 in
    let fqt = both (nat_eq a.fqt b.fqt) _ fqh.1 in
    let last = both (fault.ghosts.eq a.fqcsr b.fqcsr) (pending.ghosts.eq a.ipsr b.ipsr) fqt.1 in
    λ i. record {
      ddtp = one_pointer a.ddtp b.ddtp ddtp.0 i;
      cqb = one_base a.cqb b.cqb cqb.0 i;
      cqh = eqb-true a.cqh b.cqh cqh.0 i;
      cqt = eqb-true a.cqt b.cqt cqt.0 i;
      cqcsr = one_command a.cqcsr b.cqcsr cqcsr.0 i;
      fqb = one_base a.fqb b.fqb fqb.0 i;
      fqh = eqb-true a.fqh b.fqh fqh.0 i;
      fqt = eqb-true a.fqt b.fqt fqt.0 i;
      fqcsr = one_fault a.fqcsr b.fqcsr last.0 i;
      ipsr = one_pending a.ipsr b.ipsr last.1 i;
    }

pub file_decides : (a b : Registers) → Decides (registers.ghosts.eq a b) (a ≡ b)
file_decides a b = (one_file a b, λ same. subst (λ x. registers.ghosts.eq a x ≡ true) same (file_eq.laws-law.refl a))
