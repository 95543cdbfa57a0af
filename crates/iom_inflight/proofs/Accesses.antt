-- What the accesses of a row are after one more at the end of the rings, and one less at their front.
use Rattle.std.proofs.Common.{zero, suc, not, append-nil, ◌≡◌, ◌+◌, ◌-◌, ◌*◌, ◌<◌, ◌≤◌, ◌++◌, ◌==◌, ◌&&◌, ◌%◌, ◌∙◌, ℕ, List, [], ◌∷◌, length, take, drop, min, option_map, slice_get, refl, sym, ap, inl, inr, arith, length-append, length-drop}
use Rattle.std.specs.List.{list_all}
use Rattle.std.proofs.lemmas.Bool.Decides.{eqb_tells}
use Rattle.std.proofs.lemmas.List.{take-append-le, drop-append-le, take_all}
use Rattle.iom_base.specs.declared.access.AccessKind.{AccessKind}
use Rattle.circular_buffer.specs.Buffer.{Buffer, buffer, keep_last}
use Rattle.iom_inflight.specs.declared.header.AccessHeader.{AccessHeader}
use Rattle.iom_inflight.specs.Flights.{made_in, has_access, first_made, first_number, is_awaited}
use Rattle.iom_inflight.specs.Rings.{kept_bytes, access_with, accesses_with_bytes, bytes_kept, AreShort, AreRings, is_header_awaited}

-- each header has its access
pub length-accesses_of : (waiting : List AccessHeader) (bytes : List ℕ) → length (accesses_with_bytes waiting bytes) ≡ length waiting
length-accesses_of [] bytes = refl
length-accesses_of (a ∷ later) bytes = ap suc (length-accesses_of later (drop (kept_bytes a.kind a.len) bytes))

-- there is an access where there is a header
pub has_access_of : (waiting : List AccessHeader) (bytes : List ℕ) → has_access (accesses_with_bytes waiting bytes) ≡ not (length waiting == 0)
has_access_of [] bytes = refl
has_access_of (a ∷ later) bytes = elim (eqb_tells (suc (length later)) 0) [ inl e ↦ absurd (omega (arith, e.1)) | inr ne ↦ sym (ap not ne.0) ]

-- the oldest access is that of the oldest header
pub oldest_of : (device : ℕ) (waiting : List AccessHeader) (bytes : List ℕ)
    → first_made device (accesses_with_bytes waiting bytes)
    ≡ option_map (λ (a : AccessHeader). record { device = device; frame = a.frame; offset = a.address % 4096; len = a.len; kind = a.kind }) (slice_get waiting 0)
oldest_of device [] bytes = refl
oldest_of device (a ∷ later) bytes = refl

-- the oldest's number is the oldest header's
pub number_of : (waiting : List AccessHeader) (bytes : List ℕ) → first_number (accesses_with_bytes waiting bytes) ≡ option_map (λ (a : AccessHeader). a.number) (slice_get waiting 0)
number_of [] bytes = refl
number_of (a ∷ later) bytes = refl

-- the access at a place is that of the header there
pub made_of : (device place : ℕ) (waiting : List AccessHeader) (bytes : List ℕ)
    → made_in device (accesses_with_bytes waiting bytes) place
    ≡ option_map (λ (a : AccessHeader). record { device = device; frame = a.frame; offset = a.address % 4096; len = a.len; kind = a.kind }) (slice_get waiting place)
made_of device place [] bytes = refl
made_of device zero (a ∷ later) bytes = refl
made_of device (suc place) (a ∷ later) bytes = made_of device place later (drop (kept_bytes a.kind a.len) bytes)

-- none is awaited where no header is
pub drained_of : (before : ℕ) (kind : AccessKind) (waiting : List AccessHeader) (bytes : List ℕ)
    → list_all (λ a. not (is_header_awaited before kind a)) waiting ≡ list_all (λ a. not (is_awaited before kind a)) (accesses_with_bytes waiting bytes)
drained_of before kind [] bytes = refl
drained_of before kind (a ∷ later) bytes =
    ap (λ rest. not (is_header_awaited before kind a) && rest) (drained_of before kind later (drop (kept_bytes a.kind a.len) bytes))

-- one more at the end
pub accesses_of-append : (waiting : List AccessHeader) (a : AccessHeader) (bytes own : List ℕ) → length bytes ≡ bytes_kept waiting → length own ≡ kept_bytes a.kind a.len
    → accesses_with_bytes (waiting ++ a ∷ []) (bytes ++ own) ≡ accesses_with_bytes waiting bytes ++ access_with a own ∷ []
accesses_of-append [] a [] own all long = ap (λ bs. access_with a bs ∷ []) (take_all (kept_bytes a.kind a.len) own (omega (arith, long)))
accesses_of-append [] a (b ∷ bytes) own all long = absurd (omega (arith, all))
accesses_of-append (first ∷ later) a bytes own all long =
    let kept : ℕ = kept_bytes first.kind first.len in
    let enough : kept ≤ length bytes = omega (arith, all) in
    let rest : length (drop kept bytes) ≡ bytes_kept later = omega (arith, length-drop kept bytes, all) in
    ap (λ bs. access_with first bs ∷ accesses_with_bytes (later ++ a ∷ []) (drop kept (bytes ++ own))) (take-append-le kept bytes own enough)
    ∙ ap (λ bs. access_with first (take kept bytes) ∷ accesses_with_bytes (later ++ a ∷ []) bs) (drop-append-le kept bytes own enough)
    ∙ ap (λ rest. access_with first (take kept bytes) ∷ rest) (accesses_of-append later a (drop kept bytes) own rest long)

-- the bytes that are kept with one more
pub bytes_kept-append : (waiting : List AccessHeader) (a : AccessHeader) → bytes_kept (waiting ++ a ∷ []) ≡ bytes_kept waiting + kept_bytes a.kind a.len
bytes_kept-append [] a = omega arith
bytes_kept-append (first ∷ later) a = omega (arith, bytes_kept-append later a)

pub AreShort-append : (waiting : List AccessHeader) (a : AccessHeader) → AreShort waiting → kept_bytes a.kind a.len ≤ 4096 → AreShort (waiting ++ a ∷ [])
AreShort-append [] a short le = (le, tt)
AreShort-append (first ∷ later) a short le = (short.0, AreShort-append later a short.1 le)

-- short accesses fit
pub bytes_kept_le : (waiting : List AccessHeader) → AreShort waiting → bytes_kept waiting ≤ 4096 * length waiting
bytes_kept_le [] short = omega arith
bytes_kept_le (first ∷ later) short = omega (arith, short.0, bytes_kept_le later short.1)

-- a ring with room takes one more
pub pushed : (old new : Buffer AccessHeader) (a : AccessHeader) → new ≡ buffer (keep_last old.capacity (old.items ++ a ∷ [])) old.capacity
    → old.capacity ≡ 8 → length old.items < 8 → new ≡ buffer (old.items ++ a ∷ []) 8
pushed old new a is cap few =
    let none : length (old.items ++ a ∷ []) - old.capacity ≡ 0 = omega (arith, cap, length-append old.items (a ∷ [])) in
    is ∙ ap (λ n. buffer (drop n (old.items ++ a ∷ [])) old.capacity) none ∙ ap (λ n. buffer (old.items ++ a ∷ []) n) cap

-- a ring with room takes all of the bytes
pub filled : (old new : Buffer ℕ) (own : List ℕ) (count : ℕ) → count ≡ min (length own) (old.capacity - length old.items) → new ≡ buffer (old.items ++ take count own) old.capacity
    → old.capacity ≡ 8 * 4096 → length old.items + length own ≤ 8 * 4096 → new ≡ buffer (old.items ++ own) (8 * 4096)
filled old new own count counted is cap room =
    let all : length own ≤ count = omega (arith, counted, cap) in
    is ∙ rw (cap, take_all count own all) refl

-- fewer than eight accesses leave the bytes of one more their room
pub byte_room : (waiting : Buffer AccessHeader) (bytes : Buffer ℕ) (n : ℕ) → AreRings waiting bytes → length waiting.items < 8 → n ≤ 4096 → length bytes.items + n ≤ 8 * 4096
byte_room waiting bytes n rings few le = omega (arith, rings.all_kept, bytes_kept_le waiting.items rings.short)

-- the rings after one more access
pub rings_after : (waiting : Buffer AccessHeader) (bytes : Buffer ℕ) (a : AccessHeader) (own : List ℕ) → AreRings waiting bytes → kept_bytes a.kind a.len ≤ 4096 → length own ≡ kept_bytes a.kind a.len
    → AreRings (buffer (waiting.items ++ a ∷ []) 8) (buffer (bytes.items ++ own) (8 * 4096))
rings_after waiting bytes a own rings le long = record {
  places = refl;
  room = refl;
  short = AreShort-append waiting.items a rings.short le;
  all_kept = length-append bytes.items own ∙ (rw (rings.all_kept, long) (sym (bytes_kept-append waiting.items a)));
}

-- the rings after one more access that keeps no bytes
pub rings_after_read : (waiting now : Buffer AccessHeader) (bytes : Buffer ℕ) (a : AccessHeader) → AreRings waiting bytes → kept_bytes a.kind a.len ≡ 0
    → now ≡ buffer (keep_last waiting.capacity (waiting.items ++ a ∷ [])) waiting.capacity → length waiting.items < 8 → AreRings now bytes
rings_after_read waiting now bytes a rings kept is few = rw (pushed waiting now a is rings.places few) (record {
  places = refl;
  room = rings.room;
  short = AreShort-append waiting.items a rings.short (omega (arith, kept));
  all_kept = omega (arith, rings.all_kept, bytes_kept-append waiting.items a, kept);
})

-- it goes last
pub accesses_after_read : (waiting now : Buffer AccessHeader) (bytes : Buffer ℕ) (a : AccessHeader) → AreRings waiting bytes → kept_bytes a.kind a.len ≡ 0
    → now ≡ buffer (keep_last waiting.capacity (waiting.items ++ a ∷ [])) waiting.capacity → length waiting.items < 8
    → accesses_with_bytes now.items bytes.items ≡ accesses_with_bytes waiting.items bytes.items ++ access_with a [] ∷ []
accesses_after_read waiting now bytes a rings kept is few =
    ap (λ (w : Buffer AccessHeader). accesses_with_bytes w.items bytes.items) (pushed waiting now a is rings.places few)
    ∙ ap (λ bs. accesses_with_bytes (waiting.items ++ a ∷ []) bs) (sym (append-nil bytes.items))
    ∙ accesses_of-append waiting.items a bytes.items [] rings.all_kept (sym kept)

module _ (waiting now : Buffer AccessHeader) (bytes then : Buffer ℕ) (a : AccessHeader) (own : List ℕ) (count : ℕ) (rings : AreRings waiting bytes) (kept : length own ≡ kept_bytes a.kind a.len) (le : length own ≤ 4096)
    (few : length waiting.items < 8) (is : now ≡ buffer (keep_last waiting.capacity (waiting.items ++ a ∷ [])) waiting.capacity)
    (counted : count ≡ min (length own) (bytes.capacity - length bytes.items)) (after : then ≡ buffer (bytes.items ++ take count own) bytes.capacity) where
  written : then ≡ buffer (bytes.items ++ own) (8 * 4096)
  written = filled bytes then own count counted after rings.room (byte_room waiting bytes (length own) rings few le)

  -- the rings after one more access with its bytes
  pub rings_after_write : AreRings now then
  rings_after_write = rw (pushed waiting now a is rings.places few, written) (rings_after waiting bytes a own rings (omega (arith, kept, le)) kept)

  -- it goes last, with them
  pub accesses_after_write : accesses_with_bytes now.items then.items ≡ accesses_with_bytes waiting.items bytes.items ++ access_with a own ∷ []
  accesses_after_write =
      rw (pushed waiting now a is rings.places few, written) (accesses_of-append waiting.items a bytes.items own rings.all_kept kept)
