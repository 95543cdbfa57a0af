-- A driver while the IOMMU reports a fault: no frame changes but that of the fault queue, and no register but those of that queue.
use Rattle.std.proofs.Common.{◌≡◌, ◌≢◌, ◌*◌, ◌∙◌, ℕ, Bool, true, false, List, length, Some, None, if◌then◌else◌, slice_get, refl, sym, ap, subst, All}
use Rattle.std.proofs.lemmas.List.{length-set}
use Rattle.std.proofs.lemmas.List.Elements.{All-push}
use Rattle.iom_fault_queue.specs.declared.entry.Entry.{Entry}
use Rattle.iom_fault_queue.specs.declared.entry.Entry.TheVariants as entry
use Rattle.iom_fault_queue.specs.declared.ring.Put.{Put}
use Rattle.iom_fault_queue.specs.declared.ring.Put.TheVariants.{Written, Overflow, Off}
use Rattle.iom_fault_queue.specs.Calls.{PutsRecord, after_put}
use Rattle.iom_fault_queue.specs.Fields.{Fields}
use Rattle.iom_fault_queue.specs.Ring.{records_in, is_full, is_tail_outside}
use Rattle.iom_fault_queue.proofs.Lists.{below}
use Rattle.iom_fault_queue.proofs.Orders.{puts_list}
use Rattle.iom_registers.specs.declared.registers.Registers.{Registers}
use Rattle.iom_registers.specs.declared.directory.DirectoryPointer.{DirectoryPointer}
use Rattle.iom_registers.specs.declared.status.CommandStatus.{CommandStatus}
use Rattle.iom_registers.specs.Fields.{entry_count, address}
use Rattle.iom_registers.specs.Queues.{fault_tail, is_fault_queue_on, is_fault_queue_marked, with_fqmf, with_fqof}
use Rattle.iom_driver.specs.Laws.{LeavesCommands, LeavesAllElse}
use Rattle.iom_driver.specs.Layout.{AreFixed, IsLevels, command_frame, fault_frame, directory_frame}
use Rattle.iom_driver.specs.Ready.{IsReport, IsFaultRing, IsReady}
use Rattle.iom_driver.specs.State.{DriverState}
use Rattle.iom_driver.proofs.Directories.{directory_stay, stands_in, in_stands}
use Rattle.iom_driver.proofs.FaultRings.{in_fault_ring}
use Rattle.iom_driver.proofs.Lists.{get_set_other}
use Rattle.iom_driver.proofs.Unchanged.{all_stay, of_one}

-- the registers that a report leaves
record Leaves (r s : Registers) : Type 0 where
  commands : LeavesCommands r s
  on : is_fault_queue_on s ≡ is_fault_queue_on r
  base : s.fqb ≡ r.fqb

dropped : (r s : Registers) (marked full outside : Bool) → (if marked then Some r else if full then Some (with_fqof r) else if outside then Some (with_fqmf r) else None) ≡ Some s → Leaves r s
dropped r s true full outside is = let e : r ≡ s = cc in subst (λ x. Leaves r x) e record {
  commands = record { base = refl; head = refl; tail = refl; status = refl; directory = refl };
  on = refl;
  base = refl;
}
dropped r s false true outside is = let e : with_fqof r ≡ s = cc in subst (λ x. Leaves r x) e record {
  commands = record { base = refl; head = refl; tail = refl; status = refl; directory = refl };
  on = refl;
  base = refl;
}
dropped r s false false true is = let e : with_fqmf r ≡ s = cc in subst (λ x. Leaves r x) e record {
  commands = record { base = refl; head = refl; tail = refl; status = refl; directory = refl };
  on = refl;
  base = refl;
}
dropped r s false false false is = let bad : None ≡ Some s = is in cc

leaves : (memory : List (List ℕ)) (r : Registers) (f : Fields) (put : Put) (new : List (List ℕ)) (s : Registers) → PutsRecord memory r f put new s → Leaves r s
leaves memory r f Written new s puts = subst (λ x. Leaves r x) (sym puts.3) record {
  commands = record { base = refl; head = refl; tail = refl; status = refl; directory = refl };
  on = refl;
  base = refl;
}
leaves memory r f Overflow new s puts = dropped r s (is_fault_queue_marked r) (is_full r) (is_tail_outside memory r) puts.1
leaves memory r f Off new s puts = subst (λ x. Leaves r x) (sym puts.2) record {
  commands = record { base = refl; head = refl; tail = refl; status = refl; directory = refl };
  on = refl;
  base = refl;
}

-- the frames
size_stays : (memory : List (List ℕ)) (r : Registers) (f : Fields) (put : Put) (new : List (List ℕ)) (s : Registers) → PutsRecord memory r f put new s → length new ≡ length memory
size_stays memory r f Written new s puts = ap (λ (m : List (List ℕ)). length m) puts.2.stored ∙ length-set memory _ _
size_stays memory r f Overflow new s puts = ap (λ (m : List (List ℕ)). length m) puts.2
size_stays memory r f Off new s puts = ap (λ (m : List (List ℕ)). length m) puts.1

frames_stay : (memory : List (List ℕ)) (r : Registers) (f : Fields) (put : Put) (new : List (List ℕ)) (s : Registers) → IsFaultRing memory r → PutsRecord memory r f put new s
    → (n : ℕ) → n ≢ fault_frame (length memory) → slice_get new n ≡ slice_get memory n
frames_stay memory r f Written new s ring puts n apart =
    let at = in_fault_ring memory r (fault_tail r) ring (below r.fqt r) in
    ap (λ (m : List (List ℕ)). slice_get m n) puts.2.stored ∙ get_set_other memory _ n _ (λ same. apart (same ∙ at))
frames_stay memory r f Overflow new s ring puts n apart = ap (λ (m : List (List ℕ)). slice_get m n) puts.2
frames_stay memory r f Off new s ring puts n apart = ap (λ (m : List (List ℕ)). slice_get m n) puts.1

-- what waits afterwards are records
reports_more : (put : Put) (f : Fields) (es : List Entry) → All IsReport es → All IsReport (after_put put f es)
reports_more Written f es all = All-push IsReport es (entry.Record f) all tt
reports_more Overflow f es all = all
reports_more Off f es all = all

pub ready_reported : (d : DriverState) (old new : List (List ℕ)) (r s : Registers) (f : Fields) (put : Put) → AreFixed d.owners (length old) → IsLevels d.levels → d.started ≡ true
    → IsReady d old r → PutsRecord old r f put new s → IsReady d new s × LeavesAllElse old new r s
ready_reported d old new r s f put fixed range runs ready puts =
    let was = ready.faults runs in
    let left = leaves old r f put new s puts in
    let size = size_stays old r f put new s puts in
    let frames = frames_stay old r f put new s was puts in (
      record {
        stand = record {
          size = size ∙ ready.stand.size;
          tables = all_stay old new d.owners d.ledger d.ledger d.devices ready.stand.tables
              (λ n id own. frames n (of_one d.owners (fault_frame (length old)) n id fixed.fault own)) (λ id page. refl);
          directory = λ started.
              stands_in (length old) new d.owners d.devices d.levels size
              (directory_stay (length old) old new d.owners d.owners d.devices d.devices d.levels range size
              (λ n own. (frames n own.no_fault, refl)) (λ id. refl) (λ id stage at. at)
              (in_stands (length old) old d.owners d.devices d.levels refl (ready.stand.directory started)));
        };
        ring = λ started.
            let ring = ready.ring started in
            record {
              on = ap (λ (c : CommandStatus). c.cqen) left.commands.status ∙ ring.on;
              base = ap address left.commands.base ∙ ring.base ∙ ap (λ n. 4096 * command_frame n) (sym size);
              entries = ap entry_count left.commands.base ∙ ring.entries;
            };
        faults = λ started. record {
          on = left.on ∙ was.on;
          base = ap address left.base ∙ was.base ∙ ap (λ n. 4096 * fault_frame n) (sym size);
          entries = ap entry_count left.base ∙ was.entries;
          reports = subst (λ (es : List Entry). All IsReport es) (sym (puts_list old r f put new s puts)) (reports_more put f (records_in old r) was.reports);
        };
        directory = λ started.
            let named = ready.directory started in
            record {
              mode = ap (λ (p : DirectoryPointer). p.mode) left.commands.directory ∙ named.mode;
              root = ap (λ (p : DirectoryPointer). p.ppn) left.commands.directory ∙ named.root ∙ ap directory_frame (sym size);
            };
      },
      record { size = size; frames = frames; registers = left.commands },
    )
