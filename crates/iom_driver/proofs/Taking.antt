-- What is taken of the fault queue: a record, since nothing else waits in it; and the registers go on to name its ring.
use Rattle.std.proofs.Common.{◌≡◌, ◌==◌, ℕ, suc, Bool, true, false, List, [], ◌∷◌, Option, Some, None, if◌then◌else◌, refl, sym, subst, All, arith}
use Rattle.std.proofs.lemmas.Bool.{eqb-true}
use Rattle.iom_fault_queue.specs.declared.entry.Entry.{Entry}
use Rattle.iom_fault_queue.specs.declared.entry.Entry.TheVariants as entry
use Rattle.iom_fault_queue.specs.Calls.{TakesEntry, oldest}
use Rattle.iom_fault_queue.specs.Fields.{Fields}
use Rattle.iom_fault_queue.specs.Ring.{records_in, record_at, record_place, record_of_entry}
use Rattle.iom_fault_queue.proofs.Lists.{empty}
use Rattle.iom_registers.specs.declared.mmio.Mmio.{Ghosts}
use Rattle.iom_registers.specs.declared.registers.Registers.{Registers}
use Rattle.iom_registers.specs.declared.register.Register.TheVariants.{Fqh, Fqcsr}
use Rattle.iom_registers.specs.Queues.{fault_head, fault_tail, is_fault_queue_on}
use Rattle.iom_registers.specs.Table.{written}
use Rattle.iom_driver.specs.Ready.{IsReport, IsFaultRing, IsReady, KeepsFaults}
use Rattle.iom_driver.specs.Reports.{TakesOldestRecord, cleared_flags}
use Rattle.iom_driver.specs.State.{DriverState}
use Rattle.iom_driver.proofs.FaultRings.{fault_ring_stays}

-- the first of a list of reports is one, and so are the others
first_report : (e : Entry) (es all : List Entry) → All IsReport all → all ≡ e ∷ es → IsReport e
first_report e es all reports is = let first : All IsReport (e ∷ es) = subst (λ (xs : List Entry). All IsReport xs) is reports in first 0 e (omega arith)

other_reports : (e : Entry) (es all : List Entry) → All IsReport all → all ≡ e ∷ es → All IsReport es
other_reports e es all reports is =
    let first : All IsReport (e ∷ es) = subst (λ (xs : List Entry). All IsReport xs) is reports in λ k d lt. first (suc k) d (omega (arith, lt))

-- what is taken is a record
by_entry : {M : Type 0} (g : Ghosts M) (memory : List (List ℕ)) (io io' : M) (e : Entry) → IsReport e → TakesEntry g.registers g.after memory io (Some e) io'
    → records_in memory (g.registers io) ≡ e ∷ records_in memory (g.registers io') → TakesOldestRecord g memory io (record_of_entry e) io'
by_entry g memory io io' (entry.Record f) is takes list = (takes, list)
by_entry g memory io io' entry.Illegal is takes list = absurd is
by_entry g memory io io' entry.Outside is takes list = absurd is

pub takes_report : {M : Type 0} (g : Ghosts M) (memory : List (List ℕ)) (io io' : M) (e : Entry) (found : Option Fields) → IsFaultRing memory (g.registers io)
    → TakesEntry g.registers g.after memory io (Some e) io' → records_in memory (g.registers io) ≡ e ∷ records_in memory (g.registers io') → found ≡ record_of_entry e
    → TakesOldestRecord g memory io found io'
takes_report g memory io io' e found ring takes list is =
    subst (λ o. TakesOldestRecord g memory io o io') (sym is)
    (by_entry g memory io io' e (first_report e (records_in memory (g.registers io')) (records_in memory (g.registers io)) ring.reports list) takes list)

-- the driver stays ready while the head moves on
pub ready_taken : (d : DriverState) (memory : List (List ℕ)) (r s : Registers) (e : Entry) (next : ℕ) → IsReady d memory r → d.started ≡ true → s ≡ written r Fqh next
    → records_in memory r ≡ e ∷ records_in memory s → IsReady d memory s
ready_taken d memory r s e next ready runs is list =
    let was = ready.faults runs in
    subst (λ x. IsReady d memory x) (sym is) record {
      stand = ready.stand;
      ring = λ started. let ring = ready.ring started in record { on = ring.on; base = ring.base; entries = ring.entries };
      faults = λ started. record {
        on = was.on;
        base = was.base;
        entries = was.entries;
        reports = subst (λ (x : Registers). All IsReport (records_in memory x)) is (other_reports e (records_in memory s) (records_in memory r) was.reports list);
      };
      directory = λ started. let named = ready.directory started in record { mode = named.mode; root = named.root };
    }

-- where none is taken none waits
no_entry : (test : Bool) (e : Entry) → ◌≡◌ {A = Option Entry} None (if test then None else Some e) → test ≡ true
no_entry true e is = refl
no_entry false e is = let bad : ◌≡◌ {A = Option Entry} None (Some e) = is in cc

pub none_waits : (memory : List (List ℕ)) (r : Registers) → None ≡ oldest memory r → records_in memory r ≡ []
none_waits memory r none =
    empty memory r (eqb-true (fault_head r) (fault_tail r) (no_entry (fault_head r == fault_tail r) (record_at memory (record_place r (fault_head r))) none))

-- and while fqmf and fqof are cleared
marks_kept : (r : Registers) → is_fault_queue_on r ≡ true → KeepsFaults r (written r Fqcsr cleared_flags)
marks_kept r on = record { on = rw on refl; base = refl; head = refl; tail = rw on refl }

pub ready_cleared : (d : DriverState) (memory : List (List ℕ)) (r s : Registers) → IsReady d memory r → d.started ≡ true → s ≡ written r Fqcsr cleared_flags → IsReady d memory s
ready_cleared d memory r s ready runs is =
    let was = ready.faults runs in
    subst (λ x. IsReady d memory x) (sym is) record {
      stand = ready.stand;
      ring = λ started. let ring = ready.ring started in record { on = ring.on; base = ring.base; entries = ring.entries };
      faults = λ started. fault_ring_stays memory memory r (written r Fqcsr cleared_flags) refl refl (marks_kept r was.on) was;
      directory = λ started. let named = ready.directory started in record { mode = named.mode; root = named.root };
    }
