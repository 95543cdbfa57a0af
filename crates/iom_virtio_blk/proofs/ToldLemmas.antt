-- How the history of a disk goes on with a request.
use Rattle.std.proofs.Common.{◌≡◌, ◌≢◌, ◌∙◌, ℕ, ◌+◌, ◌-◌, ◌*◌, ◌/◌, ◌%◌, ◌<◌, ◌≤◌, ◌==◌, cond, Bool, true, false, nat_le, List, [], ◌∷◌, ◌++◌, length, take, drop, slice_get, Option, Some, None, refl, sym, ap, subst, arith, length-append}
use Rattle.std.proofs.lemmas.Grind.{common_steps}
use Rattle.std.proofs.lemmas.Bool.{eqb-false, eqb-true}
use Rattle.iom_virtqueue.specs.Chains.{Chain, byte_count}
use Rattle.iom_virtio_blk.specs.declared.request.RequestStatus.{RequestStatus}
use Rattle.iom_virtio_blk.specs.declared.request.RequestStatus.TheVariants.{Ok, IoError, Unsupported}
use Rattle.iom_virtio_blk.specs.declared.request.Plan.{Plan}
use Rattle.iom_virtio_blk.specs.declared.request.Plan.TheVariants.{ReadDisk, WriteDisk, FlushDisk, End}
use Rattle.iom_virtio_blk.specs.declared.step.Call.TheVariants.{Read, Write, Flush}
use Rattle.iom_virtio_blk.specs.declared.serving.Serving.{Serving}
use Rattle.iom_virtio_blk.specs.declared.serving.Job.{Job}
use Rattle.iom_virtio_blk.specs.declared.serving.Job.TheVariants.{Header, Reading, Writing, Ending}
use Rattle.iom_virtio_blk.specs.Disks.{KeepsSectors, DidRead, DidWrite, IsThere}
use Rattle.iom_virtio_blk.specs.DiskStates.{DiskState}
use Rattle.iom_virtio_blk.specs.Serving.{begun_serving, disk_call_of, with_header, call_with_header, with_written, call_with_written, with_data, call_with_data, data_in, data_out}
use Rattle.iom_virtio_blk.specs.Blocks.{overlaid}
use Rattle.iom_virtio_blk.specs.Steps.{Calls, settled}
use Rattle.iom_virtio_blk.specs.Histories.{Entry, gave, IsMap, InWork, recorded}
use Rattle.iom_virtio_blk.proofs.HistoryLemmas.{IsMap-kept, IsMap-begun, IsMap-more, IsMap-write, IsMap-tears}
use Rattle.iom_virtio_blk.proofs.SectorLemmas.{rest_grows, buffer_filled}

-- what is to be said of a request that did `job` and used these bytes
pub record Goes (job : Job) (got : List ℕ) (history : List Entry) (disk : Option DiskState) (s : Serving) (buffer : List ℕ) : Type 0 where
  pub map : IsMap (recorded job s.job s.sector got history) disk
  pub work : InWork s.job s buffer (recorded job s.job s.sector got history) disk

-- the sector that was read is there, also in the disk as it is then
DidRead-kept : (old new : Option DiskState) (sector : ℕ) (bytes : List ℕ) → KeepsSectors old new → DidRead old sector bytes → DidRead new sector bytes
DidRead-kept None new sector bytes kept did = absurd did
DidRead-kept (Some old) None sector bytes kept did = absurd kept
DidRead-kept (Some old) (Some new) sector bytes kept did = subst (λ m. slice_get m sector ≡ Some bytes) (sym kept) did

at_once : (disk : Option DiskState) (sector n : ℕ) (bytes : List ℕ) → n ≡ 0 → DidRead disk sector bytes → DidRead disk (sector + n / 512) bytes
at_once disk sector n bytes zero did = subst (λ at. DidRead disk at bytes) (let e : sector ≡ sector + n / 512 = omega arith in e) did

over : {P : Type 0} (n : ℕ) → n ≡ 16 → 16 < n → P
over n e lt = absurd (omega arith)

-- a whole header was read
read_case : (zero done : Bool) (sector : ℕ) (s : Serving) (got kept buffer : List ℕ) (history : List Entry) (old new : Option DiskState) → s.read ≡ 16 → s.wrote ≡ 0 → IsMap history old
    → Calls (cond zero None (Some (Read sector))) done old kept new buffer → Goes Header got history new (settled done (record s { sector = sector; job = cond zero (Ending Ok) Reading })) buffer
read_case true true sector s got kept buffer history old new read wrote map calls = record { map = rw calls.0 map; work = λ lt. over s.read read lt }
read_case true false sector s got kept buffer history old new read wrote map calls = absurd calls
read_case false true sector s got kept buffer history old new read wrote map calls =
    record { map = IsMap-kept history old new calls.1 map; work = at_once new sector s.wrote buffer wrote (DidRead-kept old new sector buffer calls.1 calls.0) }
read_case false false sector s got kept buffer history old new read wrote map calls = record { map = IsMap-kept history old new calls.1 map; work = tt }

write_case : (zero done : Bool) (sector : ℕ) (s : Serving) (got kept buffer : List ℕ) (history : List Entry) (old new : Option DiskState) → s.read ≡ 16 → IsThere old → IsMap history old
    → Calls None done old kept new buffer → Goes Header got history new (settled done (record s { sector = sector; job = cond zero (Ending Ok) Writing })) buffer
write_case true true sector s got kept buffer history old new read there map calls = record { map = rw calls.0 map; work = λ lt. over s.read read lt }
write_case zero false sector s got kept buffer history old new read there map calls = absurd calls
write_case false true sector s got kept buffer history old new read there map calls =
    record { map = rw calls.0 (IsMap-begun history old sector map); work = (rw calls.0 there, (refl, read), refl) }

flush_case : (done : Bool) (sector : ℕ) (s : Serving) (got kept buffer : List ℕ) (history : List Entry) (old new : Option DiskState) → s.read ≡ 16 → IsMap history old
    → Calls (Some Flush) done old kept new buffer → Goes Header got history new (settled done (record s { sector = sector; job = Ending Ok })) buffer
flush_case true sector s got kept buffer history old new read map calls = record { map = IsMap-kept history old new calls.1 map; work = λ lt. over s.read read lt }
flush_case false sector s got kept buffer history old new read map calls = record { map = IsMap-kept history old new calls.1 map; work = tt }

end_case : (end : RequestStatus) (done : Bool) (sector : ℕ) (s : Serving) (got kept buffer : List ℕ) (history : List Entry) (old new : Option DiskState) → s.read ≡ 16 → IsMap history old
    → Calls None done old kept new buffer → Goes Header got history new (settled done (record s { sector = sector; job = Ending end })) buffer
end_case end false sector s got kept buffer history old new read map calls = absurd calls
end_case Ok true sector s got kept buffer history old new read map calls = record { map = rw calls.0 map; work = λ lt. over s.read read lt }
end_case IoError true sector s got kept buffer history old new read map calls = record { map = rw calls.0 map; work = tt }
end_case Unsupported true sector s got kept buffer history old new read map calls = record { map = rw calls.0 map; work = tt }

begun-goes : (plan : Plan) (done : Bool) (sector : ℕ) (s : Serving) (chain : Chain) (got kept buffer : List ℕ) (history : List Entry) (old new : Option DiskState) → s.read ≡ 16 → s.wrote ≡ 0
    → (plan ≡ WriteDisk → IsThere old) → IsMap history old → Calls (disk_call_of plan sector chain) done old kept new buffer → Goes Header got history new (settled done (begun_serving plan sector s chain)) buffer
begun-goes ReadDisk done sector s chain got kept buffer history old new read wrote there map calls = read_case (data_in chain == 0) done sector s got kept buffer history old new read wrote map calls
begun-goes WriteDisk done sector s chain got kept buffer history old new read wrote there map calls = write_case (data_out chain == 0) done sector s got kept buffer history old new read (there refl) map calls
begun-goes FlushDisk done sector s chain got kept buffer history old new read wrote there map calls = flush_case done sector s got kept buffer history old new read map calls
begun-goes (End end) done sector s chain got kept buffer history old new read wrote there map calls = end_case end done sector s got kept buffer history old new read map calls

-- bytes of the header came
pub header-goes : (plan : Plan) (done : Bool) (sector : ℕ) (s : Serving) (chain : Chain) (got kept buffer : List ℕ) (history : List Entry) (old new : Option DiskState) → s.job ≡ Header → s.wrote ≡ 0
    → (plan ≡ WriteDisk → IsThere old) → IsMap history old → Calls (call_with_header s (length got) plan sector chain) done old kept new buffer
    → Goes Header got history new (settled done (with_header s (length got) plan sector chain)) buffer
header-goes plan done sector s chain got kept buffer history old new job wrote there map calls = by (s.read + length got == 16) refl calls where
  more : Serving
  more = record s { read = s.read + length got }

  partly : (d : Bool) → Calls None d old kept new buffer → Goes Header got history new (settled d more) buffer
  partly false c = absurd c
  partly true c = subst (λ (t : Serving). Goes Header got history new t buffer) same (record { map = rw c.0 map; work = tt }) where
    same : record { job = Header; sector = s.sector; read = s.read + length got; wrote = s.wrote } ≡ more
    same = ap (λ (j : Job). record { job = j; sector = s.sector; read = s.read + length got; wrote = s.wrote }) (sym job)

  by : (whole : Bool) → (s.read + length got == 16) ≡ whole → Calls (cond whole (disk_call_of plan sector chain) None) done old kept new buffer
      → Goes Header got history new (settled done (cond whole (begun_serving plan sector more chain) more)) buffer
  by true e c = begun-goes plan done sector more chain got kept buffer history old new (eqb-true (s.read + length got) 16 e) wrote there map c
  by false e c = partly done c

-- a piece of a sector was written to memory
written_case : (enough whole done : Bool) (w : ℕ) (s : Serving) (got kept buffer : List ℕ) (history : List Entry) (old new : Option DiskState) → s.read ≡ 16 → IsMap history old
    → (whole ≡ false → DidRead old (s.sector + w / 512) kept) → Calls (cond enough None (cond whole (Some (Read (s.sector + w / 512))) None)) done old kept new buffer
    → Goes Reading got history new (settled done (record s { wrote = w; job = cond enough (Ending Ok) Reading })) buffer
written_case true whole true w s got kept buffer history old new read map did calls = record { map = rw calls.0 map; work = λ lt. over s.read read lt }
written_case true whole false w s got kept buffer history old new read map did calls = absurd calls
written_case false true true w s got kept buffer history old new read map did calls =
    record { map = IsMap-kept history old new calls.1 map; work = DidRead-kept old new (s.sector + w / 512) buffer calls.1 calls.0 }
written_case false true false w s got kept buffer history old new read map did calls = record { map = IsMap-kept history old new calls.1 map; work = tt }
written_case false false true w s got kept buffer history old new read map did calls = record { map = rw calls.0 map; work = rw (calls.0, calls.1) (did refl) }
written_case false false false w s got kept buffer history old new read map did calls = absurd calls

pub reading-goes : (done : Bool) (len : ℕ) (s : Serving) (chain : Chain) (got kept buffer : List ℕ) (history : List Entry) (old new : Option DiskState) → s.read ≡ 16 → len ≤ 512 - s.wrote % 512 → IsMap history old
    → DidRead old (s.sector + s.wrote / 512) kept → Calls (call_with_written s len chain) done old kept new buffer → Goes Reading got history new (settled done (with_written s len chain)) buffer
reading-goes done len s chain got kept buffer history old new read few map did calls =
    written_case (nat_le (data_in chain) (s.wrote + len)) ((s.wrote + len) % 512 == 0) done (s.wrote + len) s got kept buffer history old new read map same calls where
      same : ((s.wrote + len) % 512 == 0) ≡ false → DidRead old (s.sector + (s.wrote + len) / 512) kept
      same e = let some : (s.wrote + len) % 512 ≢ 0 = eqb-false ((s.wrote + len) % 512) 0 e in
          subst (λ (q : ℕ). DidRead old (s.sector + q) kept) (let e : s.wrote / 512 ≡ (s.wrote + len) / 512 = omega arith in e) did

-- bytes of a sector came from memory: what is known of the OUT in work
pub record IsGiving (first : ℕ) (xs got buffer kept : List ℕ) (s : Serving) : Type 0 where
  pub sector : first ≡ s.sector
  pub read : s.read ≡ 16 + length xs
  pub full : length buffer ≡ 512
  pub few : (s.read - 16) % 512 + length got ≤ 512
  pub some : 1 ≤ length got
  pub rest : take (length xs % 512) buffer ≡ drop (length xs - length xs % 512) xs
  pub kept_is : kept ≡ overlaid buffer ((s.read - 16) % 512) got

-- the sector that they belong to isn't complete
more_case : (enough : Bool) (first : ℕ) (xs got buffer kept now : List ℕ) (s : Serving) (history : List Entry) (old new : Option DiskState) → IsGiving first xs got buffer kept s
    → (s.read + length got - 16) % 512 ≢ 0 → IsThere old → IsMap (gave first xs ∷ history) old → Calls None true old kept new now
    → Goes Writing got (gave first xs ∷ history) new (record s { read = s.read + length got; job = cond enough (Ending Ok) Writing }) now
more_case enough first xs got buffer kept now s history old new giving some there map calls = by enough where
  bytes : length (xs ++ got) ≡ length xs + length got
  bytes = length-append xs got

  grown : IsMap (gave first (xs ++ got) ∷ history) new
  grown = rw calls.0 (IsMap-more history old first xs got (rw bytes (let read = giving.read in let few = giving.few in omega arith)) map)

  given : (first ≡ s.sector) × (s.read + length got ≡ 16 + length (xs ++ got))
  given = (giving.sector, rw bytes (let read = giving.read in omega arith))

  place : (s.read - 16) % 512 ≡ length xs % 512
  place = ap (λ n. n % 512) (let read = giving.read in let e : s.read - 16 ≡ length xs = omega arith in e)

  fits : length xs % 512 + length got ≤ length buffer
  fits = let few = giving.few in let full = giving.full in omega arith

  rest : take (length (xs ++ got) % 512) now ≡ drop (length (xs ++ got) - length (xs ++ got) % 512) (xs ++ got)
  rest =
      let read = giving.read in let few = giving.few in
      let more : length (xs ++ got) % 512 ≡ length xs % 512 + length got = rw bytes (omega arith) in
      let before : length (xs ++ got) - length (xs ++ got) % 512 ≡ length xs - length xs % 512 = rw bytes (omega arith) in
      let is : now ≡ overlaid buffer (length xs % 512) got = calls.1 ∙ giving.kept_is ∙ ap (λ r. overlaid buffer r got) place in
      rw (before, more, is) (rest_grows buffer xs got (length xs % 512) (omega arith) fits giving.rest)

  by : (e : Bool) → Goes Writing got (gave first xs ∷ history) new (record s { read = s.read + length got; job = cond e (Ending Ok) Writing }) now
  by true = record { map = grown; work = λ lt. (rw calls.0 there, given) }
  by false = record { map = grown; work = (rw calls.0 there, given, rest) }

drop_whole : (xs : List ℕ) → drop (length xs - 0) xs ≡ []
drop_whole xs = grind (arith, common_steps)

-- the sector that they belong to is complete
whole_case : (enough done : Bool) (first : ℕ) (xs got buffer kept now : List ℕ) (s : Serving) (history : List Entry) (old new : Option DiskState) → IsGiving first xs got buffer kept s
    → (s.read + length got - 16) % 512 ≡ 0 → IsThere old → IsMap (gave first xs ∷ history) old
    → Calls (Some (Write (s.sector + ((s.read + length got - 16) / 512 - 1)))) done old kept new now
    → Goes Writing got (gave first xs ∷ history) new (settled done (record s { read = s.read + length got; job = cond enough (Ending Ok) Writing })) now
whole_case enough done first xs got buffer kept now s history old new giving whole there map calls = by enough done calls where
  bytes : length (xs ++ got) ≡ length xs + length got
  bytes = length-append xs got

  place : (s.read - 16) % 512 ≡ length xs % 512
  place = ap (λ n. n % 512) (let read = giving.read in let e : s.read - 16 ≡ length xs = omega arith in e)

  long : 512 * (length xs / 512) + 512 ≡ length (xs ++ got)
  long = rw bytes (let read = giving.read in let few = giving.few in let some = giving.some in omega arith)

  filled : length xs % 512 + length got ≡ 512
  filled = let read = giving.read in let few = giving.few in let some = giving.some in omega arith

  begins : length xs - length xs % 512 ≡ 512 * (length xs / 512)
  begins = omega arith

  sector_is : kept ≡ drop (512 * (length xs / 512)) (xs ++ got)
  sector_is = giving.kept_is ∙ ap (λ r. overlaid buffer r got) place ∙ buffer_filled buffer xs got (length xs % 512) giving.full (omega arith) filled giving.rest ∙ ap (λ n. drop n (xs ++ got)) begins

  at : s.sector + ((s.read + length got - 16) / 512 - 1) ≡ first + length xs / 512
  at = let sector = giving.sector in let read = giving.read in let few = giving.few in let some = giving.some in omega arith

  given : (first ≡ s.sector) × (s.read + length got ≡ 16 + length (xs ++ got))
  given = (giving.sector, rw bytes (let read = giving.read in omega arith))

  there_still : DidWrite old (s.sector + ((s.read + length got - 16) / 512 - 1)) kept new → IsThere new
  there_still did = still old new did where
    still : (o n : Option DiskState) → DidWrite o (s.sector + ((s.read + length got - 16) / 512 - 1)) kept n → IsThere n
    still None n d = absurd d
    still (Some o) None d = absurd d
    still (Some o) (Some n) d = tt

  rest : take (length (xs ++ got) % 512) now ≡ drop (length (xs ++ got) - length (xs ++ got) % 512) (xs ++ got)
  rest =
      let none : length (xs ++ got) % 512 ≡ 0 = omega (arith, long) in
      rw none (sym (drop_whole (xs ++ got)))

  by : (e d : Bool) → Calls (Some (Write (s.sector + ((s.read + length got - 16) / 512 - 1)))) d old kept new now
      → Goes Writing got (gave first xs ∷ history) new (settled d (record s { read = s.read + length got; job = cond e (Ending Ok) Writing })) now
  by true true c = record {
    map = IsMap-write history first xs got kept (length xs / 512) (s.sector + ((s.read + length got - 16) / 512 - 1)) old new long (omega arith) sector_is at c.0 map;
    work = λ lt. (there_still c.0, given);
  }
  by false true c = record {
    map = IsMap-write history first xs got kept (length xs / 512) (s.sector + ((s.read + length got - 16) / 512 - 1)) old new long (omega arith) sector_is at c.0 map;
    work = (there_still c.0, given, rest);
  }
  by e false c = record {
    map = IsMap-tears history first xs got kept (length xs / 512) (s.sector + ((s.read + length got - 16) / 512 - 1)) old new long (omega arith) sector_is at c.1 map;
    work = tt;
  }

-- bytes of data came for an OUT
pub data-goes : (done : Bool) (s : Serving) (chain : Chain) (first : ℕ) (xs got buffer kept now : List ℕ) (history : List Entry) (old new : Option DiskState) → IsGiving first xs got buffer kept s
    → IsThere old → IsMap (gave first xs ∷ history) old → Calls (call_with_data s (length got)) done old kept new now
    → Goes Writing got (gave first xs ∷ history) new (settled done (with_data s (length got) chain)) now
data-goes done s chain first xs got buffer kept now history old new giving there map calls = by ((s.read + length got - 16) % 512 == 0) refl done calls where
  by : (whole : Bool) → ((s.read + length got - 16) % 512 == 0) ≡ whole → (d : Bool) → Calls (cond whole (Some (Write (s.sector + ((s.read + length got - 16) / 512 - 1)))) None) d old kept new now
      → Goes Writing got (gave first xs ∷ history) new (settled d (record s { read = s.read + length got; job = cond (nat_le (byte_count chain.readable) (s.read + length got)) (Ending Ok) Writing })) now
  by true e d c = whole_case (nat_le (byte_count chain.readable) (s.read + length got)) d first xs got buffer kept now s history old new giving (eqb-true ((s.read + length got - 16) % 512) 0 e) there map c
  by false e true c = more_case (nat_le (byte_count chain.readable) (s.read + length got)) first xs got buffer kept now s history old new giving (eqb-false ((s.read + length got - 16) % 512) 0 e) there map c
  by false e false c = absurd c
