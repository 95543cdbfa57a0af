-- The words behind a keyword are those of an event: those of block devices.
use Rattle.std.proofs.Common.{◌≡◌, ℕ, List, ◌++◌, Option, Some, codes, ap, sym, subst, refl, ◌∙◌}
use Rattle.std.specs.Option.{option_map}
use Rattle.std.proofs.lemmas.List.{append_cancel_left}
use Rattle.iom_machine.specs.declared.event.Event.{Event}
use Rattle.iom_machine.specs.declared.event.Event.TheVariants.{Medium, Queue, Step, Status}
use Rattle.iom_script.specs.Words.{◌␣◌, IsDevice, IsNumber, IsAddress}
use Rattle.iom_script.specs.Reading.{Reads}
use Rattle.iom_script.specs.Cuts.{IsLineWith}
use Rattle.iom_script.specs.Grammar.{IsEventLine}
use Rattle.iom_script.proofs.FieldLemmas.{Followed}
use Rattle.iom_script.proofs.EventLemmas.{event_reads, other_line}

-- medium

abbrev pub MediumWords : List ℕ → ℕ × ℕ → Type 0
MediumWords text words = Followed IsDevice IsNumber text words

abbrev pub medium_event : ℕ × ℕ → Event
medium_event words = Medium words.0 words.1

pub medium_from : (text : List ℕ) (event : Event) → IsEventLine (codes "medium" ␣ text) event → (words : ℕ × ℕ) × MediumWords text words × (medium_event words ≡ event)
medium_from text (Medium device disk) q =
    ((device, disk), (q.1, (q.0, q.2, append_cancel_left (codes "medium ") text (q.0 ␣ q.1) q.4), q.3), refl)
medium_from text event q = absurd (other_line (codes "medium ") text event refl q)

pub medium_reads : (line text : List ℕ) → Reads (Some text) (λ more. line ≡ codes "medium " ++ more) → (result : Option (ℕ × ℕ)) → Reads result (MediumWords text)
    → Reads (option_map medium_event result) (IsLineWith (codes "medium ") line)
medium_reads line text begun result reads =
    event_reads medium_event (MediumWords text) (codes "medium ") line text result (λ v. refl) begun
    (λ words q. (q.1.0, q.0, q.1.1, q.2, ap (λ t. codes "medium" ␣ t) q.1.2))
    (medium_from text) reads

-- queue

abbrev pub QueueValues : Type 0
QueueValues = ℕ × (ℕ × (ℕ × (ℕ × ℕ)))

abbrev pub QueueWords : List ℕ → QueueValues → Type 0
QueueWords text words = Followed IsDevice (Followed IsNumber (Followed IsAddress (Followed IsAddress IsAddress))) text words

abbrev pub queue_event : QueueValues → Event
queue_event words = Queue words.0 words.1.0 words.1.1.0 words.1.1.1.0 words.1.1.1.1

pub queue_from : (text : List ℕ) (event : Event) → IsEventLine (codes "queue" ␣ text) event → (words : QueueValues) × QueueWords text words × (queue_event words ≡ event)
queue_from text (Queue device size descriptors available used) q =
    let two : ℕ × ℕ = (available, used) in
    let three : ℕ × (ℕ × ℕ) = (descriptors, two) in
    let four : ℕ × (ℕ × (ℕ × ℕ)) = (size, three) in (
      (device, four),
      (
        q.1 ␣ q.2 ␣ q.3 ␣ q.4,
        (q.0, q.5, append_cancel_left (codes "queue ") text (q.0 ␣ q.1 ␣ q.2 ␣ q.3 ␣ q.4) q.10),
        (q.2 ␣ q.3 ␣ q.4, (q.1, q.6, refl), (q.3 ␣ q.4, (q.2, q.7, refl), (q.4, (q.3, q.8, refl), q.9))),
      ),
      refl,
    )
queue_from text event q = absurd (other_line (codes "queue ") text event refl q)

pub queue_reads : (line text : List ℕ) → Reads (Some text) (λ more. line ≡ codes "queue " ++ more) → (result : Option QueueValues) → Reads result (QueueWords text)
    → Reads (option_map queue_event result) (IsLineWith (codes "queue ") line)
queue_reads line text begun result reads =
    event_reads queue_event (QueueWords text) (codes "queue ") line text result (λ v. refl) begun
    (λ words q. let size = q.2 in let table = size.2 in let available = table.2 in (
      q.1.0,
      size.1.0,
      table.1.0,
      available.1.0,
      available.0,
      q.1.1,
      size.1.1,
      table.1.1,
      available.1.1,
      available.2,
      ap (λ t. codes "queue" ␣ t) (q.1.2 ∙ ap (λ t. q.1.0 ␣ t) (size.1.2 ∙ ap (λ t. size.1.0 ␣ t) (table.1.2 ∙ ap (λ t. table.1.0 ␣ t) available.1.2))),
    ))
    (queue_from text) reads

-- step

abbrev pub step_event : ℕ → Event
step_event words = Step words

pub step_from : (text : List ℕ) (event : Event) → IsEventLine (codes "step" ␣ text) event → (words : ℕ) × IsDevice text words × (step_event words ≡ event)
step_from text (Step device) q =
    (device, subst (λ t. IsDevice t device) (sym (append_cancel_left (codes "step ") text q.0 q.2)) q.1, refl)
step_from text event q = absurd (other_line (codes "step ") text event refl q)

pub step_reads : (line text : List ℕ) → Reads (Some text) (λ more. line ≡ codes "step " ++ more) → (result : Option ℕ) → Reads result (IsDevice text)
    → Reads (option_map step_event result) (IsLineWith (codes "step ") line)
step_reads line text begun result reads =
    event_reads step_event (IsDevice text) (codes "step ") line text result (λ v. refl) begun
    (λ words q. (text, q, refl))
    (step_from text) reads

-- status

abbrev pub status_event : ℕ → Event
status_event words = Status words

pub status_from : (text : List ℕ) (event : Event) → IsEventLine (codes "status" ␣ text) event → (words : ℕ) × IsDevice text words × (status_event words ≡ event)
status_from text (Status device) q =
    (device, subst (λ t. IsDevice t device) (sym (append_cancel_left (codes "status ") text q.0 q.2)) q.1, refl)
status_from text event q = absurd (other_line (codes "status ") text event refl q)

pub status_reads : (line text : List ℕ) → Reads (Some text) (λ more. line ≡ codes "status " ++ more) → (result : Option ℕ) → Reads result (IsDevice text)
    → Reads (option_map status_event result) (IsLineWith (codes "status ") line)
status_reads line text begun result reads =
    event_reads status_event (IsDevice text) (codes "status ") line text result (λ v. refl) begun
    (λ words q. (text, q, refl))
    (status_from text) reads
