-- What the calls of one row leave, from what the calls of its rings leave.
use Rattle.std.proofs.Common.{Some, subst, ◌≡◌, ◌+◌, ◌<◌, ◌≤◌, ◌∙◌, ℕ, List, [], ◌∷◌, length, take, drop, min, ◌-◌, ◌++◌, slice_get, slice_set, IsSomeAnd, refl, sym, ap}
use Rattle.circular_buffer.specs.Buffer.{Buffer, buffer, keep_last}
use Rattle.iom_inflight.specs.declared.header.AccessHeader.{AccessHeader}
use Rattle.iom_base.specs.Accesses.{offset_of}
use Rattle.iom_base.specs.Bytes.{with_bytes}
use Rattle.iom_base.specs.declared.access.AccessKind.TheVariants.{Write}
use Rattle.iom_inflight.specs.declared.made.MadeAt.{MadeAt}
use Rattle.iom_inflight.specs.Flights.{NumberedAccess, FlightRow, first_made, made_at}
use Rattle.iom_inflight.specs.Calls.{Performs}
use Rattle.iom_inflight.specs.Rings.{kept_bytes, access_with, accesses_with_bytes, AreRings}
use Rattle.iom_inflight.specs.Rows.{RowAccepts, RowMakesOne, IsMakeable}
use Rattle.iom_inflight.proofs.Accesses.{length-accesses_of, accesses_after_read, accesses_after_write}

-- the row that stands in these rings
abbrev pub row_in : ℕ → ℕ → List AccessHeader → List ℕ → FlightRow
row_in device accepted waiting bytes = record { device = device; accepted = accepted; waiting = accesses_with_bytes waiting bytes }

pub full_row : (device accepted : ℕ) (waiting : List AccessHeader) (bytes : List ℕ) (row : FlightRow) → row_in device accepted waiting bytes ≡ row → 8 ≤ length waiting → 8 ≤ length row.waiting
full_row device accepted waiting bytes row view le = subst (λ (r : FlightRow). 8 ≤ length r.waiting) view (rw (length-accesses_of waiting bytes) le)

pub length_row : (device accepted : ℕ) (waiting : List AccessHeader) (bytes : List ℕ) (row : FlightRow) → row_in device accepted waiting bytes ≡ row → length waiting ≡ length row.waiting
length_row device accepted waiting bytes row view = sym (length-accesses_of waiting bytes) ∙ ap (λ (r : FlightRow). length r.waiting) view

abbrev with_waiting : ℕ → ℕ → List NumberedAccess → FlightRow
with_waiting device accepted waiting = record { device = device; accepted = accepted; waiting = waiting }

-- one more access that keeps no bytes
pub accepts_read : (device accepted : ℕ) (waiting now : Buffer AccessHeader) (bytes : Buffer ℕ) (a : AccessHeader) (row : FlightRow)
    → row_in device accepted waiting.items bytes.items ≡ row → AreRings waiting bytes → kept_bytes a.kind a.len ≡ 0
    → now ≡ buffer (keep_last waiting.capacity (waiting.items ++ a ∷ [])) waiting.capacity → length waiting.items < 8
    → RowAccepts row (access_with a []).accepted a.number (Some (accepted + 1)) (row_in device (accepted + 1) now.items bytes.items)
accepts_read device accepted waiting now bytes a row view rings kept is few =
    let few_of : length (accesses_with_bytes waiting.items bytes.items) < 8 = rw (length-accesses_of waiting.items bytes.items) few in
    subst (λ (r : FlightRow). RowAccepts r (access_with a []).accepted a.number (Some (accepted + 1)) (row_in device (accepted + 1) now.items bytes.items)) view (
      few_of,
      refl,
      ap (with_waiting device (accepted + 1)) (accesses_after_read waiting now bytes a rings kept is few),
    )

-- one more access with its bytes
pub accepts_write : (device accepted : ℕ) (waiting now : Buffer AccessHeader) (bytes then : Buffer ℕ) (a : AccessHeader) (own : List ℕ) (count : ℕ) (row : FlightRow)
    → row_in device accepted waiting.items bytes.items ≡ row → AreRings waiting bytes → length own ≡ kept_bytes a.kind a.len → length own ≤ 4096
    → length waiting.items < 8 → now ≡ buffer (keep_last waiting.capacity (waiting.items ++ a ∷ [])) waiting.capacity
    → count ≡ min (length own) (bytes.capacity - length bytes.items) → then ≡ buffer (bytes.items ++ take count own) bytes.capacity
    → RowAccepts row (access_with a own).accepted a.number (Some (accepted + 1)) (row_in device (accepted + 1) now.items then.items)
accepts_write device accepted waiting now bytes then a own count row view rings kept le few is counted after =
    let few_of : length (accesses_with_bytes waiting.items bytes.items) < 8 = rw (length-accesses_of waiting.items bytes.items) few in
    subst (λ (r : FlightRow). RowAccepts r (access_with a own).accepted a.number (Some (accepted + 1)) (row_in device (accepted + 1) now.items then.items)) view (
      few_of,
      refl,
      ap (with_waiting device (accepted + 1)) (accesses_after_write waiting now bytes then a own count rings kept le few is counted after),
    )

made_of : (device : ℕ) (accepted : ℕ) (waiting : List NumberedAccess) (memory : List (List ℕ)) (made : MadeAt) (frame written : List ℕ) (offset : ℕ) → offset ≡ made.offset
    → Some made ≡ first_made device waiting → made.kind ≡ Write → IsMakeable (length memory) waiting → slice_get memory made.frame ≡ Some frame
    → IsSomeAnd (slice_get waiting 0) (λ (a : NumberedAccess). written ≡ with_bytes frame offset a.accepted.access.bytes)
    → RowMakesOne memory (record { device = device; accepted = accepted; waiting = waiting }) made (slice_set memory made.frame written)
    (record { device = device; accepted = accepted; waiting = drop 1 waiting })
made_of device accepted [] memory made frame written offset begins is kind makeable there stored = absurd stored
made_of device accepted (oldest ∷ later) memory made frame written offset begins is kind makeable there stored =
    let reply : made ≡ made_at device oldest.accepted = cc in
    let writes : oldest.accepted.access.kind ≡ Write = sym (ap (λ (m : MadeAt). m.kind) reply) ∙ kind in
    let on : made.frame ≡ oldest.accepted.frame = ap (λ (m : MadeAt). m.frame) reply in
    let at : offset ≡ offset_of oldest.accepted.access = begins ∙ ap (λ (m : MadeAt). m.offset) reply in
    record {
      oldest = oldest;
      later = later;
      waiting = refl;
      inside = makeable.0;
      within = makeable.1;
      reply = reply;
      performed = subst (λ k. Performs k memory oldest.accepted (slice_set memory made.frame written)) (sym writes) (
        frame,
        sym (ap (λ n. slice_get memory n) on) ∙ there,
        ap (λ n. slice_set memory n written) on
            ∙ ap (λ bs. slice_set memory oldest.accepted.frame bs) (stored ∙ ap (λ n. with_bytes frame n oldest.accepted.access.bytes) at),
      );
      after = refl;
    }

-- the oldest access, a write, is made
pub makes_write : (memory : List (List ℕ)) (old : FlightRow) (made : MadeAt) (frame written : List ℕ) (offset : ℕ) (new : FlightRow) → offset ≡ made.offset
    → Some made ≡ first_made old.device old.waiting → made.kind ≡ Write → IsMakeable (length memory) old.waiting → slice_get memory made.frame ≡ Some frame
    → IsSomeAnd (slice_get old.waiting 0) (λ (a : NumberedAccess). written ≡ with_bytes frame offset a.accepted.access.bytes)
    → new ≡ record old { waiting = drop 1 old.waiting } → RowMakesOne memory old made (slice_set memory made.frame written) new
makes_write memory old made frame written offset new begins is kind makeable there stored after =
    subst (λ (r : FlightRow). RowMakesOne memory old made (slice_set memory made.frame written) r) (sym after)
    (made_of old.device old.accepted old.waiting memory made frame written offset begins is kind makeable there stored)
