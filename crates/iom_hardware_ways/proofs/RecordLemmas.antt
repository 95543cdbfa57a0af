-- A fault record goes into a frame of the fault queue, or is lost; and where the queue stands stays.
use Rattle.std.proofs.Common.{◌≡◌, ◌⊎◌, ◌/◌, ◌%◌, ◌<◌, inl, inr, ℕ, Bool, true, false, List, [], map, slice_get, Contains, Option, None, Some, sym, ap, subst, arith, if◌then◌else◌}
use Rattle.std.specs.List.{range_with_len}
use Rattle.std.proofs.lemmas.List.Elements.{Contains-get_or}
use Rattle.std.proofs.lemmas.List.FromFn.{length-map-range_with_len, get_or-map-range_with_len}
use Rattle.iom_base.specs.Bytes.{with_bytes}
use Rattle.iom_device.specs.declared.device.Device.{Device}
use Rattle.iom_device_dir.specs.declared.context.Context.{Context as DeviceContext}
use Rattle.iom_device_dir.specs.Contents.{Content}
use Rattle.iom_fabric.specs.declared.fabric.OnLink.{OnLink}
use Rattle.iom_fault_queue.specs.Calls.{PutsRecord, dropping}
use Rattle.iom_fault_queue.specs.Fields.{Fields}
use Rattle.iom_fault_queue.specs.Grammar.{encoded_record}
use Rattle.iom_fault_queue.specs.Ring.{record_place, is_full, is_tail_outside}
use Rattle.iom_fault_queue.specs.declared.ring.Put.{Put}
use Rattle.iom_fault_queue.specs.declared.ring.Put.TheVariants.{Written, Overflow, Off}
use Rattle.iom_fault_queue.proofs.Lists.{below}
use Rattle.iom_inflight.specs.Flights.{FlightRow}
use Rattle.iom_registers.specs.Queues.{fault_entries, fault_tail, is_fault_queue_on, is_fault_queue_marked, with_fqof, with_fqmf, with_record_written}
use Rattle.iom_registers.specs.declared.registers.Registers.{Registers}
use Rattle.iom_tlb.specs.Content.{Translations}
use Rattle.iom_reach.specs.Memory.{DiffersAt}
use Rattle.iom_hardware_ways.specs.Scenes.{fault_frames_of}
use Rattle.iom_hardware_ways.proofs.FlightLemmas.{set_differs}
use Rattle.iom_hardware_ways.proofs.SceneParts.{scene_by}

-- registers that show the same scene, whatever else it is read off
abbrev pub ShowAlike : Registers → Registers → Type 0
ShowAlike one other =
    (trusted : ℕ → Bool) (memory : List (List ℕ)) (contexts : Content ℕ DeviceContext) (translations : Translations) (rows : List FlightRow) (devices : List Device) (fabric : List OnLink)
    → scene_by trusted memory one contexts translations rows devices fabric ≡ scene_by trusted memory other contexts translations rows devices fabric

pub alike : (one other : Registers) → one ≡ other → ShowAlike one other
alike one other same trusted memory contexts translations rows devices fabric = ap (λ r. scene_by trusted memory r contexts translations rows devices fabric) same

-- where a record is dropped a status bit is set at most
dropped : (memory : List (List ℕ)) (r s : Registers) → dropping memory r ≡ Some s → ShowAlike s r
dropped memory r s is = by (is_fault_queue_marked r) (is_full r) (is_tail_outside memory r) is
  where
    by : (marked full outside : Bool) → (if marked then Some r else if full then Some (with_fqof r) else if outside then Some (with_fqmf r) else None) ≡ Some s → ShowAlike s r
    by true full outside reply = alike s r (let e : r ≡ s = cc in sym e)
    by false true outside reply = alike s (with_fqof r) (let e : with_fqof r ≡ s = cc in sym e)
    by false false true reply = alike s (with_fqmf r) (let e : with_fqmf r ≡ s = cc in sym e)
    by false false false reply = absurd (cc)

pub recorded_alike : (memory : List (List ℕ)) (r : Registers) (f : Fields) (answer : Put) (new : List (List ℕ)) (s : Registers) → PutsRecord memory r f answer new s → ShowAlike s r
recorded_alike memory r f Written new s (on, none, stores, is) = alike s (with_record_written r) is
recorded_alike memory r f Overflow new s (on, drops, same) = dropped memory r s drops
recorded_alike memory r f Off new s (off, same, is) = alike s r is

-- the place at the tail is in a frame of the queue
tail_there : (r : Registers) → is_fault_queue_on r ≡ true → Contains (fault_frames_of r) (record_place r (fault_tail r) / 4096)
tail_there r on =
    let n = fault_entries r in
    let f : ℕ → ℕ = λ index. record_place r index / 4096 in
    let low : fault_tail r < n = below r.fqt r in
    subst (λ b. Contains (if b then map f (range_with_len 0 n) else []) (f (fault_tail r))) (sym on)
    (subst (Contains (map f (range_with_len 0 n))) (get_or-map-range_with_len f 0 n (fault_tail r) (fault_tail r) 0 low (omega arith))
    (Contains-get_or (map f (range_with_len 0 n)) (fault_tail r) 0 (subst (λ k. fault_tail r < k) (sym (length-map-range_with_len f 0 n)) low)))

pub recorded_there : (memory : List (List ℕ)) (r : Registers) (f : Fields) (answer : Put) (new : List (List ℕ)) (s : Registers) → PutsRecord memory r f answer new s
    → (◌≡◌ {A = ℕ → Option (List ℕ)} (slice_get new) (slice_get memory))
    ⊎ ((frame : ℕ) × Contains (fault_frames_of r) frame × DiffersAt frame (slice_get memory) (slice_get new))
recorded_there memory r f Overflow new s (on, drops, same) = inl (ap slice_get same)
recorded_there memory r f Off new s (off, same, is) = inl (ap slice_get same)
recorded_there memory r f Written new s (on, none, stores, is) =
    inr (
      record_place r (fault_tail r) / 4096,
      tail_there r on,
      subst (λ m. DiffersAt (record_place r (fault_tail r) / 4096) (slice_get memory) (slice_get m)) (sym stores.stored)
          (set_differs memory (record_place r (fault_tail r) / 4096) (with_bytes stores.frame (record_place r (fault_tail r) % 4096) (encoded_record f))),
    )
