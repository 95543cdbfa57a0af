-- The elements of the used ring are written one after another, each whole.
use Rattle.std.proofs.Common.{◌≡◌, ◌≢◌, ◌∙◌, inl, inr, ℕ, ◌+◌, ◌==◌, ◌≤◌, Bool, true, false, cond, List, [], ◌∷◌, ◌++◌, length, take, drop, Option, Some, None, refl, sym, ap, subst, arith, append-nil, length-append, length-take}
use Rattle.std.proofs.Math.Seq.{take-add}
use Rattle.std.proofs.lemmas.Bool.{eqb-true}
use Rattle.std.proofs.lemmas.List.{take_all}
use Rattle.byteorder.specs.Endian.{little_bytes}
use Rattle.byteorder.specs.Numbers.{length-bytes_low_first}
use Rattle.iom_virtqueue.specs.declared.fault.ChainFault.{ChainFault}
use Rattle.iom_virtqueue.specs.declared.layout.Layout.{Layout}
use Rattle.iom_virtqueue.specs.declared.phase.Phase.{Phase}
use Rattle.iom_virtqueue.specs.declared.phase.Phase.TheVariants.{AvailableIndex, RingEntry, Table, Served, UsedElement, UsedIndex, Faulted}
use Rattle.iom_virtqueue.specs.Descriptors.{descriptor_of, next_of, number_at}
use Rattle.iom_virtqueue.specs.Queues.{QueueState, after_fault, after_in, element_piece, fault_in, goes_on_at, new_requests, with_phase}
use Rattle.iom_virtio_blk.specs.declared.front.Front.{Front}
use Rattle.iom_virtio_blk.specs.declared.serving.Job.{Job}
use Rattle.iom_virtio_blk.specs.declared.serving.Job.TheVariants.{Header, Reading, Writing, Ending}
use Rattle.iom_virtio_blk.specs.declared.step.Step.{Step}
use Rattle.iom_virtio_blk.specs.declared.step.Step.TheVariants.{Idle, Waiting, Down, Chain, Finished, Wants}
use Rattle.iom_virtio_blk.specs.Blocks.{queue_in}
use Rattle.iom_virtio_blk.specs.Steps.{Device, GoesOnIn, ServesWithDisk, BlockDeviceSteps, TakesQueue, UsesIn}
use Rattle.iom_virtio_blk.specs.Elements.{Byte, Done, IsWithin, IsWithinIn, Writes, begun, begun_in, bytes_from, done_at, element_of, element_place, in_work, wrote_at, wrote_by, wrote_in}
use Rattle.iom_virtio_blk.proofs.OrderLemmas.{queue_then}

bytes-append : (layout : Layout) (count offset : ℕ) (xs ys : List ℕ)
    → bytes_from layout count offset (xs ++ ys) ≡ bytes_from layout count offset xs ++ bytes_from layout count (offset + length xs) ys
bytes-append layout count offset [] ys = ap (λ n. bytes_from layout count n ys) (let e : offset ≡ offset + length {A = ℕ} [] = omega arith in e)
bytes-append layout count offset (x ∷ xs) ys =
    ap (λ (rest : List Byte). record { address = element_place layout count offset; value = x } ∷ rest)
    (bytes-append layout count (offset + 1) xs ys
    ∙ ap (λ n. bytes_from layout count (offset + 1) xs ++ bytes_from layout count n ys) (let e : offset + 1 + length xs ≡ offset + length (x ∷ xs) = omega arith in e))

element_long : (done : Done) → length (element_of done) ≡ 8
element_long done =
    let head : length (little_bytes 4 done.head) ≡ 4 = length-bytes_low_first 0 4 done.head in
    let len : length (little_bytes 4 done.len) ≡ 4 = length-bytes_low_first 0 4 done.len in
    omega (arith, head, len, length-append (little_bytes 4 done.head) (little_bytes 4 done.len))

-- more of an element
grows : (layout : Layout) (count written piece : ℕ) (element : List ℕ) → written ≤ length element
    → bytes_from layout count 0 (take written element) ++ bytes_from layout count written (take piece (drop written element)) ≡ bytes_from layout count 0 (take (written + piece) element)
grows layout count written piece element le =
    let long : 0 + length (take written element) ≡ written = omega (arith, length-take written element) in
    ap (λ n. bytes_from layout count 0 (take written element) ++ bytes_from layout count n (take piece (drop written element))) (sym long)
    ∙ sym (bytes-append layout count 0 (take written element) (take piece (drop written element)))
    ∙ ap (λ bytes. bytes_from layout count 0 bytes) (sym (take-add written piece element))

-- the queue goes on

within_grown : (q : QueueState) (written : ℕ) → written ≤ 8 → written + element_piece q written ≤ 8
within_grown q written le = omega arith

element_grown : (whole : Bool) (q : QueueState) (written : ℕ) → written ≤ 8 → (written + element_piece q written == 8) ≡ whole
    → begun_in (UsedElement written) q ++ wrote_in (UsedElement written) q ≡ begun (with_phase q (cond whole UsedIndex (UsedElement (written + element_piece q written))))
element_grown true q written le is =
    let long = element_long (in_work q) in
    let all : written + element_piece q written ≡ 8 = eqb-true (written + element_piece q written) 8 is in
    grows q.layout q.finished written (element_piece q written) (element_of (in_work q)) (omega (arith, long))
    ∙ ap (λ bytes. bytes_from q.layout q.finished 0 bytes)
    (take_all (written + element_piece q written) (element_of (in_work q)) (omega (arith, long, all)))
element_grown false q written le is =
    let long = element_long (in_work q) in
    grows q.layout q.finished written (element_piece q written) (element_of (in_work q)) (omega (arith, long))

within_after : (whole : Bool) (q : QueueState) (written : ℕ) → written ≤ 8 → IsWithinIn (cond whole UsedIndex (UsedElement (written + element_piece q written)))
within_after true q written le = tt
within_after false q written le = within_grown q written le

goes_in : (phase : Phase) (q : QueueState) (bytes : List ℕ) → phase ≢ Served → phase ≢ UsedIndex → phase ≢ Faulted → IsWithinIn phase
    → (begun_in phase q ++ wrote_in phase q ≡ begun (after_in phase q bytes)) × IsWithin (after_in phase q bytes)
goes_in AvailableIndex q bytes served ended fault within = by (new_requests (number_at 2 0 bytes) q.finished == 0)
  where
    by : (c : Bool) → ([] ≡ begun (with_phase q (cond c AvailableIndex RingEntry))) × IsWithinIn (cond c AvailableIndex RingEntry)
    by true = (refl, tt)
    by false = (refl, tt)
goes_in RingEntry q bytes served ended fault within = (refl, tt)
goes_in (Table index) q bytes served ended fault within = by (next_of (descriptor_of bytes))
  where
    by : (next : Option ℕ) → ([] ≡ begun_in (goes_on_at next) (after_in (Table index) q bytes)) × IsWithinIn (goes_on_at next)
    by None = (refl, tt)
    by (Some next) = (refl, tt)
goes_in Served q bytes served ended fault within = absurd (served refl)
goes_in (UsedElement written) q bytes served ended fault within = (
  element_grown (written + element_piece q written == 8) q written within refl,
  within_after (written + element_piece q written == 8) q written within,
)
goes_in UsedIndex q bytes served ended fault within = absurd (ended refl)
goes_in Faulted q bytes served ended fault within = absurd (fault refl)

kept_in : (phase : Phase) (q : QueueState) (bytes : List ℕ) → phase ≢ UsedIndex
    → ((after_in phase q bytes).layout ≡ q.layout) × ((after_in phase q bytes).finished ≡ q.finished)
kept_in AvailableIndex q bytes ended = (refl, refl)
kept_in RingEntry q bytes ended = (refl, refl)
kept_in (Table index) q bytes ended = (refl, refl)
kept_in Served q bytes ended = (refl, refl)
kept_in (UsedElement written) q bytes ended = (refl, refl)
kept_in UsedIndex q bytes ended = absurd (ended refl)
kept_in Faulted q bytes ended = (refl, refl)

-- it goes on without the end of a request
as_new : (old new then : QueueState) (wrote : List Byte) → new ≡ then → (then.layout ≡ old.layout) × (then.finished ≡ old.finished)
    → (begun old ++ wrote ≡ begun then) × IsWithin then → Writes old new wrote []
as_new old new then wrote is kept goes = subst (λ (q : QueueState). Writes old q wrote []) (sym is)
    (record { layout = kept.0; count = kept.1; bytes = goes.0; within = goes.1 })

unchanged : (old new : QueueState) → new ≡ old → IsWithin old → Writes old new [] []
unchanged old new same within = as_new old new old [] same (refl, refl) (append-nil (begun old), within)

takes_on : (old new : Device) → TakesQueue old new → old.front.queue.phase ≢ Served → old.front.queue.phase ≢ UsedIndex → old.front.queue.phase ≢ Faulted
    → IsWithin old.front.queue → Writes old.front.queue new.front.queue (wrote_in old.front.queue.phase old.front.queue) []
takes_on old new takes served ended fault within =
    let q = old.front.queue in
    as_new q new.front.queue (after_in q.phase q old.front.got.items) (wrote_in q.phase q) (queue_then old new takes)
    (kept_in q.phase q old.front.got.items ended) (goes_in q.phase q old.front.got.items served ended fault within)

-- a request that goes on, or whose status is written
served_in : (job : Job) (b : Front) → b.queue.phase ≡ Served → Writes b.queue (queue_in job b) [] []
served_in Header b is = unchanged b.queue b.queue refl (subst IsWithinIn (sym is) tt)
served_in Reading b is = unchanged b.queue b.queue refl (subst IsWithinIn (sym is) tt)
served_in Writing b is = unchanged b.queue b.queue refl (subst IsWithinIn (sym is) tt)
served_in (Ending end) b is = record {
  layout = refl;
  count = refl;
  bytes = append-nil (begun b.queue) ∙ ap (λ (p : Phase). begun_in p b.queue) is;
  within = omega arith;
}

serves_on : (old new : Device) → old.front.queue.phase ≡ Served → ServesWithDisk old new
    → Writes old.front.queue new.front.queue (wrote_in old.front.queue.phase old.front.queue) []
serves_on old new is (done, called, front) =
    let job = old.front.serving.job in
    subst (λ (wrote : List Byte). Writes old.front.queue new.front.queue wrote []) (sym (ap (λ (p : Phase). wrote_in p old.front.queue) is))
    (subst (λ (q : QueueState). Writes old.front.queue q [] []) (sym (ap (λ (f : Front). f.queue) front)) (served_in job old.front is))

faulted_on : (old new : Device) → old.front.queue.phase ≡ Faulted → TakesQueue old new
    → Writes old.front.queue new.front.queue (wrote_in old.front.queue.phase old.front.queue) []
faulted_on old new is takes =
    subst (λ (wrote : List Byte). Writes old.front.queue new.front.queue wrote []) (sym (ap (λ (p : Phase). wrote_in p old.front.queue) is))
    (unchanged old.front.queue new.front.queue
    (queue_then old new takes ∙ ap (λ (p : Phase). after_in p old.front.queue old.front.got.items) is) (subst IsWithinIn (sym is) tt))

uses_on : (old new : Device) (phase : Phase) → old.front.queue.phase ≡ phase → UsesIn phase old new → new.front.queue.phase ≢ AvailableIndex → IsWithin old.front.queue
    → Writes old.front.queue new.front.queue (wrote_in old.front.queue.phase old.front.queue) []
uses_on old new Served is used moved within = serves_on old new is used
uses_on old new AvailableIndex is used moved within = takes_on old new used (λ e. one (sym is ∙ e)) (λ e. two (sym is ∙ e)) (λ e. three (sym is ∙ e)) within
  where
    one : AvailableIndex ≡ Served → ⊥
    one e = cc

    two : AvailableIndex ≡ UsedIndex → ⊥
    two e = cc

    three : AvailableIndex ≡ Faulted → ⊥
    three e = cc
uses_on old new RingEntry is used moved within = takes_on old new used (λ e. one (sym is ∙ e)) (λ e. two (sym is ∙ e)) (λ e. three (sym is ∙ e)) within
  where
    one : RingEntry ≡ Served → ⊥
    one e = cc

    two : RingEntry ≡ UsedIndex → ⊥
    two e = cc

    three : RingEntry ≡ Faulted → ⊥
    three e = cc
uses_on old new (Table index) is used moved within = takes_on old new used (λ e. one (sym is ∙ e)) (λ e. two (sym is ∙ e)) (λ e. three (sym is ∙ e)) within
  where
    one : Table index ≡ Served → ⊥
    one e = cc

    two : Table index ≡ UsedIndex → ⊥
    two e = cc

    three : Table index ≡ Faulted → ⊥
    three e = cc
uses_on old new (UsedElement written) is used moved within = takes_on old new used (λ e. one (sym is ∙ e)) (λ e. two (sym is ∙ e)) (λ e. three (sym is ∙ e)) within
  where
    one : UsedElement written ≡ Served → ⊥
    one e = cc

    two : UsedElement written ≡ UsedIndex → ⊥
    two e = cc

    three : UsedElement written ≡ Faulted → ⊥
    three e = cc
uses_on old new UsedIndex is used moved within =
    absurd (moved (ap (λ (q : QueueState). q.phase) (queue_then old new used) ∙ ap (λ (p : Phase). (after_in p old.front.queue old.front.got.items).phase) is))
uses_on old new Faulted is used moved within = faulted_on old new is used

goes_on : (old new : Device) (made : Bool) → GoesOnIn made old new → (made ≡ true → new.front.queue.phase ≢ AvailableIndex) → IsWithin old.front.queue
    → Writes old.front.queue new.front.queue (wrote_by made old.front.queue) []
goes_on old new false same moved within = unchanged old.front.queue new.front.queue (ap (λ (d : Device). d.front.queue) same) within
goes_on old new true used moved within = uses_on old new old.front.queue.phase refl used (moved refl) within

-- what shows a fault is no element
no_element : (phase : Phase) (q : QueueState) (bytes : List ℕ) (fault : ChainFault) → fault_in phase q bytes ≡ Some fault → begun_in phase q ≡ []
no_element AvailableIndex q bytes fault is = refl
no_element RingEntry q bytes fault is = refl
no_element (Table index) q bytes fault is = refl
no_element Served q bytes fault is = refl
no_element (UsedElement written) q bytes fault is = absurd (none is)
  where
    none : None ≡ Some fault → ⊥
    none e = cc
no_element UsedIndex q bytes fault is = absurd (none is)
  where
    none : None ≡ Some fault → ⊥
    none e = cc
no_element Faulted q bytes fault is = refl

-- the end of a request
finishes : (old new : QueueState) (head len : ℕ) (bytes : List ℕ) → old.phase ≡ UsedIndex → head ≡ old.head → len ≡ old.written → new ≡ after_in UsedIndex old bytes
    → Writes old new [] (record { head = head; len = len } ∷ [])
finishes old new head len bytes is own count then =
    subst (λ (q : QueueState). Writes old q [] (record { head = head; len = len } ∷ [])) (sym then)
    (subst (λ (h : ℕ). Writes old (after_in UsedIndex old bytes) [] (record { head = h; len = len } ∷ [])) (sym own)
    (subst (λ (n : ℕ). Writes old (after_in UsedIndex old bytes) [] (record { head = old.head; len = n } ∷ [])) (sym count)
    (record {
      layout = refl;
      count = refl;
      bytes =
          append-nil (begun old) ∙ ap (λ (p : Phase). begun_in p old) is
          ∙ sym (append-nil (bytes_from old.layout old.finished 0 (element_of (in_work old))))
          ∙ sym (append-nil (bytes_from old.layout old.finished 0 (element_of (in_work old)) ++ []));
      within = tt;
    })))

pub steps_write : (old new : Device) (outcome : Step) → BlockDeviceSteps old outcome new → IsWithin old.front.queue
    → Writes old.front.queue new.front.queue (wrote_at old outcome) (done_at outcome)
steps_write old new Down steps within = unchanged old.front.queue new.front.queue (ap (λ (d : Device). d.front.queue) steps.1) within
steps_write old new Idle (inl steps) within = unchanged old.front.queue new.front.queue (ap (λ (d : Device). d.front.queue) steps.2) within
steps_write old new Idle (inr (counts, takes)) within =
    as_new old.front.queue new.front.queue (after_in AvailableIndex old.front.queue old.front.got.items) []
    (queue_then old new takes ∙ ap (λ (p : Phase). after_in p old.front.queue old.front.got.items) counts.1)
    (refl, refl)
    (let goes = goes_in AvailableIndex old.front.queue old.front.got.items (λ e. one e) (λ e. two e) (λ e. three e) tt in
    (append-nil (begun old.front.queue) ∙ ap (λ (p : Phase). begun_in p old.front.queue) counts.1 ∙ goes.0, goes.1))
  where
    one : AvailableIndex ≡ Served → ⊥
    one e = cc

    two : AvailableIndex ≡ UsedIndex → ⊥
    two e = cc

    three : AvailableIndex ≡ Faulted → ⊥
    three e = cc
steps_write old new Waiting steps within = unchanged old.front.queue new.front.queue (ap (λ (d : Device). d.front.queue) steps.2) within
steps_write old new (Chain fault) steps within =
    as_new old.front.queue new.front.queue (with_phase old.front.queue Faulted) []
    (ap (λ (f : Front). f.queue) steps.4 ∙ ap (λ shown. after_fault shown old.front.queue old.front.got.items) steps.2)
    (refl, refl)
    (append-nil (begun old.front.queue) ∙ no_element old.front.queue.phase old.front.queue old.front.got.items fault steps.2, tt)
steps_write old new (Finished head len) steps within =
    finishes old.front.queue new.front.queue head len old.front.got.items steps.1 steps.2 steps.3
    (queue_then old new steps.4 ∙ ap (λ (p : Phase). after_in p old.front.queue old.front.got.items) steps.1)
steps_write old new (Wants want) steps within = goes_on old new old.front.is_made steps.4 steps.3 within
