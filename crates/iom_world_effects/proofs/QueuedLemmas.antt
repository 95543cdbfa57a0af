-- What waits: queues one after the other, their first command, and the tickets up to a number.
use Rattle.std.proofs.Common.{◌≡◌, ◌+◌, ◌-◌, ◌≤◌, ◌<◌, ◌∙◌, ℕ, Bool, true, false, zero, suc, List, [], ◌∷◌, ◌++◌, inl, inr, Contains, Option, None, Some, refl, ap, subst, arith, map, if◌then◌else◌}
use Rattle.std.proofs.lemmas.List.Elements.{Contains-append_left, Contains-append_right}
use Rattle.iom_command_queue.specs.declared.command.Command.{Command as Commanded}
use Rattle.iom_command_queue.specs.declared.command.Command.TheVariants.{IotinvalVma, IotinvalGvma, IofenceC, IodirInvalDdt, AtsInval}
use Rattle.iom_command_queue.specs.declared.entry.QueueEntry.{QueueEntry}
use Rattle.iom_command_queue.specs.declared.entry.QueueEntry.TheVariants.{Command}
use Rattle.iom_coherence.specs.DriverCalls.{released_extent, queued_by_release}
use Rattle.iom_coherence.specs.Queue.{Extent, WholeSpace, QueuedCommand, DropTranslations, DropContext, Invalidate, Fence}
use Rattle.iom_coherence.specs.ToCome.{FencesRise}
use Rattle.iom_coherence.proofs.ListLemmas.{in_none, cons_cases, contains_head, contains_tail}
use Rattle.iom_base.specs.declared.mode.Mode.{Mode}
use Rattle.iom_base.specs.declared.mode.Mode.TheVariants.{First, Second, Both}
use Rattle.iom_driver.specs.Appends.{invalidation, space_invalidation, fence, dropped_range, device_invalidation, release_commands}
use Rattle.iom_driver.specs.declared.device.Stages.{Stages}
use Rattle.iom_tlb.specs.declared.space.Space.{Space}
use Rattle.iom_tlb.specs.declared.space.Space.TheVariants as space
use Rattle.iom_world_effects.specs.Read.{space_in}
use Rattle.iom_world_effects.specs.Queued.{IsInvalidation, IsQueuedAs, AreQueuedAs, ComeBefore, pending_after}
use Rattle.iom_world_effects.specs.Messages.{range_of}
use Rattle.iom_world_effects.specs.Traffic.{extent_of_range}

pub queued_append : (address : ℕ) (spaces : ℕ → Option Space) (entries more : List QueueEntry) (queued added : List QueuedCommand) → AreQueuedAs address spaces entries queued
    → AreQueuedAs address spaces more added → AreQueuedAs address spaces (entries ++ more) (queued ++ added)
queued_append address spaces [] more [] added these those = those
queued_append address spaces (entry ∷ entries) more (command ∷ later) added these those = (these.0, queued_append address spaces entries more later added these.1 those)
queued_append address spaces [] more (command ∷ later) added these those = absurd these
queued_append address spaces (entry ∷ entries) more [] added these those = absurd these

-- what is queued first, and the rest
pub queued_first : (address : ℕ) (spaces : ℕ → Option Space) (entry : QueueEntry) (entries : List QueueEntry) (queued : List QueuedCommand)
    → AreQueuedAs address spaces (entry ∷ entries) queued
    → (command : QueuedCommand) × (later : List QueuedCommand) × (queued ≡ command ∷ later) × IsQueuedAs address spaces entry command × AreQueuedAs address spaces entries later
queued_first address spaces entry entries [] these = absurd these
queued_first address spaces entry entries (command ∷ later) these = (command, later, refl, these.0, these.1)

-- the address spaces that the invalidations of a queue are about are still those of their devices
abbrev pub SpacesStay : (ℕ → Option Space) → (ℕ → Option Space) → List QueuedCommand → Type 0
SpacesStay before after queued = (device : ℕ) (space : Space) (extent : Extent) → Contains queued (DropTranslations device extent) → before device ≡ Some space → after device ≡ Some space

invalidates_still : (before after : ℕ → Option Space) (command : Commanded) (device : ℕ) (extent : Extent) (later : List QueuedCommand)
    → SpacesStay before after (DropTranslations device extent ∷ later) → IsInvalidation before device extent command → IsInvalidation after device extent command
invalidates_still before after command device extent later stay is = record {
  space = is.space;
  page = is.page;
  own = stay device is.space extent (contains_head (DropTranslations device extent) later) is.own;
  named = is.named;
  about = is.about;
}

one_still : (address : ℕ) (before after : ℕ → Option Space) (entry : QueueEntry) (command : QueuedCommand) (later : List QueuedCommand) → SpacesStay before after (command ∷ later)
    → IsQueuedAs address before entry command → IsQueuedAs address after entry command
one_still address before after (Command (IotinvalVma gscid pscid page)) (DropTranslations device extent) later stay is =
    invalidates_still before after (IotinvalVma gscid pscid page) device extent later stay is
one_still address before after (Command (IotinvalGvma gscid page)) (DropTranslations device extent) later stay is =
    invalidates_still before after (IotinvalGvma gscid page) device extent later stay is
one_still address before after (Command (IofenceC store wsi pr pw)) (Fence number) later stay is = is
one_still address before after (Command (IodirInvalDdt (Some id))) (DropContext device) later stay is = is
one_still address before after (Command (AtsInval id range)) (Invalidate device extent) later stay is = is
one_still address before after entry command later stay is = absurd is

pub queued_still : (address : ℕ) (before after : ℕ → Option Space) (entries : List QueueEntry) (queued : List QueuedCommand) → SpacesStay before after queued
    → AreQueuedAs address before entries queued → AreQueuedAs address after entries queued
queued_still address before after [] [] stay these = tt
queued_still address before after (entry ∷ entries) (command ∷ later) stay these = (
  one_still address before after entry command later stay these.0,
  queued_still address before after entries later (λ device space extent there. stay device space extent (contains_tail command later (DropTranslations device extent) there)) these.1,
)
queued_still address before after [] (command ∷ later) stay these = absurd these
queued_still address before after (entry ∷ entries) [] stay these = absurd these

-- what a release and a detach queue for a device's address space
pub queued_page : (address : ℕ) (spaces : ℕ → Option Space) (mode : Mode) (number page device : ℕ) → spaces device ≡ Some (space_in mode number)
    → IsQueuedAs address spaces (Command (invalidation mode number page)) (DropTranslations device (released_extent mode page))
queued_page address spaces (First size) number page device own = record { space = space.First number; page = Some page; own = own; named = refl; about = refl }
queued_page address spaces (Second size) number page device own = record { space = space.Second number; page = Some page; own = own; named = refl; about = refl }
queued_page address spaces (Both size) number page device own = record { space = space.Both number number; page = Some page; own = own; named = refl; about = refl }

pub queued_space : (address : ℕ) (spaces : ℕ → Option Space) (mode : Mode) (number device : ℕ) → spaces device ≡ Some (space_in mode number)
    → IsQueuedAs address spaces (Command (space_invalidation mode number)) (DropTranslations device WholeSpace)
queued_space address spaces (First size) number device own = record { space = space.First number; page = None; own = own; named = refl; about = refl }
queued_space address spaces (Second size) number device own = record { space = space.Second number; page = None; own = own; named = refl; about = refl }
queued_space address spaces (Both size) number device own = record { space = space.Both number number; page = None; own = own; named = refl; about = refl }

-- with ATS the device is asked to drop what the IOMMU dropped
queued_device : (mode : Mode) (page : ℕ) → released_extent mode page ≡ extent_of_range (range_of (dropped_range mode page))
queued_device (First size) page = refl
queued_device (Second size) page = refl
queued_device (Both size) page = refl

-- what a release queues in front of its fence
pub queued_release : (address : ℕ) (spaces : ℕ → Option Space) (id page : ℕ) (stage : Stages) → spaces id ≡ Some (space_in stage.mode stage.number)
    → AreQueuedAs address spaces (Command (invalidation stage.mode stage.number page) ∷ map Command (device_invalidation id stage page))
    (queued_by_release id (released_extent stage.mode page) stage.ats)
queued_release address spaces id page stage own = by stage.ats
  where
    by : (ats : Bool) → AreQueuedAs address spaces
        (Command (invalidation stage.mode stage.number page) ∷ map Command (if ats then AtsInval id (dropped_range stage.mode page) ∷ [] else []))
        (queued_by_release id (released_extent stage.mode page) ats)
    by true = (queued_page address spaces stage.mode stage.number page id own, ((refl, queued_device stage.mode page), tt))
    by false = (queued_page address spaces stage.mode stage.number page id own, tt)

-- its fence is the last
pub released_last : (id page address ticket : ℕ) (stage : Stages) → map Command (release_commands id stage page address ticket)
    ≡ (Command (invalidation stage.mode stage.number page) ∷ map Command (device_invalidation id stage page)) ++ Command (fence address ticket) ∷ []
released_last id page address ticket stage = by stage.ats
  where
    by : (ats : Bool)
        → map Command (invalidation stage.mode stage.number page ∷ (if ats then AtsInval id (dropped_range stage.mode page) ∷ [] else []) ++ fence address ticket ∷ [])
        ≡ (Command (invalidation stage.mode stage.number page) ∷ map Command (if ats then AtsInval id (dropped_range stage.mode page) ∷ [] else [])) ++ Command (fence address ticket) ∷ []
    by true = refl
    by false = refl

-- what comes in front of a fence still does, where more is queued: with none of the device's, or up to the fence itself
pub come_on : (device fence : ℕ) (queued more : List QueuedCommand) → ComeBefore device fence queued → ComeBefore device fence more → ComeBefore device fence (queued ++ more)
come_on device fence [] more these those = those
come_on device fence (DropTranslations d extent ∷ later) more these those =
    ((λ same. Contains-append_left later more (Fence fence) (these.0 same)), come_on device fence later more these.1 those)
come_on device fence (DropContext d ∷ later) more these those = come_on device fence later more these those
come_on device fence (Invalidate d extent ∷ later) more these those = come_on device fence later more these those
come_on device fence (Fence number ∷ later) more these those = come_on device fence later more these those

pub come_up_to : (device fence : ℕ) (queued more : List QueuedCommand) → Contains more (Fence fence) → ComeBefore device fence more → ComeBefore device fence (queued ++ more)
come_up_to device fence [] more there those = those
come_up_to device fence (DropTranslations d extent ∷ later) more there those =
    ((λ same. Contains-append_right later more (Fence fence) there), come_up_to device fence later more there those)
come_up_to device fence (DropContext d ∷ later) more there those = come_up_to device fence later more there those
come_up_to device fence (Invalidate d extent ∷ later) more there those = come_up_to device fence later more there those
come_up_to device fence (Fence number ∷ later) more there those = come_up_to device fence later more there those

-- and where the first is done
pub come_after : (device fence : ℕ) (command : QueuedCommand) (later : List QueuedCommand) → ComeBefore device fence (command ∷ later) → ComeBefore device fence later
come_after device fence (DropTranslations d extent) later these = these.1
come_after device fence (DropContext d) later these = these
come_after device fence (Invalidate d extent) later these = these
come_after device fence (Fence number) later these = these

-- a fence that waits is above those that are done
above_done : (fence low high : ℕ) (queued : List QueuedCommand) → FencesRise low queued high → Contains queued (Fence fence) → low < fence
above_done fence low high [] rise there = absurd (in_none (Fence fence) there)
above_done fence low high (DropTranslations d extent ∷ later) rise there = elim (cons_cases (DropTranslations d extent) later (Fence fence) there) [
  | inl same ↦ cc
  | inr rest ↦ above_done fence low high later rise rest
]
above_done fence low high (DropContext d ∷ later) rise there = elim (cons_cases (DropContext d) later (Fence fence) there) [
  | inl same ↦ cc
  | inr rest ↦ above_done fence low high later rise rest
]
above_done fence low high (Invalidate d extent ∷ later) rise there = elim (cons_cases (Invalidate d extent) later (Fence fence) there) [
  | inl same ↦ cc
  | inr rest ↦ above_done fence low high later rise rest
]
above_done fence low high (Fence number ∷ later) rise there = elim (cons_cases (Fence number) later (Fence fence) there) [
  | inl same ↦ let it : number ≡ fence = cc in subst (λ n. low < n) it rise.0
  | inr rest ↦
      let above = rise.0 in
      let more = above_done fence number high later rise.1 rest in omega (arith, above, more)
]

-- once the fence is done none of the device's is queued
pub none_left : (device fence low high : ℕ) (extent : Extent) (queued : List QueuedCommand) → ComeBefore device fence queued → FencesRise low queued high → fence ≤ low
    → ¬ Contains queued (DropTranslations device extent)
none_left device fence low high extent [] come rise done there = in_none (DropTranslations device extent) there
none_left device fence low high extent (DropTranslations d other ∷ later) come rise done there = elim (cons_cases (DropTranslations d other) later (DropTranslations device extent) there) [
  | inl same ↦
      let own : d ≡ device = cc in
      let above = above_done fence low high later rise (come.0 own) in omega (arith, done, above)
  | inr rest ↦ none_left device fence low high extent later come.1 rise done rest
]
none_left device fence low high extent (DropContext d ∷ later) come rise done there = elim (cons_cases (DropContext d) later (DropTranslations device extent) there) [
  | inl same ↦ cc
  | inr rest ↦ none_left device fence low high extent later come rise done rest
]
none_left device fence low high extent (Invalidate d other ∷ later) come rise done there = elim (cons_cases (Invalidate d other) later (DropTranslations device extent) there) [
  | inl same ↦ cc
  | inr rest ↦ none_left device fence low high extent later come rise done rest
]
none_left device fence low high extent (Fence number ∷ later) come rise done there = elim (cons_cases (Fence number) later (DropTranslations device extent) there) [
  | inl same ↦ cc
  | inr rest ↦
      let above = rise.0 in none_left device fence number high extent later come rise.1 (omega (arith, done, above)) rest
]

-- one more ticket
pub pending_push : (fence_of : ℕ → ℕ) (first n : ℕ)
    → pending_after fence_of first n ++ record { ticket = first + n + 1; fence = fence_of (first + n + 1) } ∷ [] ≡ pending_after fence_of first (suc n)
pending_push fence_of first zero = ap (λ k. record { ticket = k; fence = fence_of k } ∷ []) {x = first + 0 + 1} {y = first + 1} (omega arith)
pending_push fence_of first (suc n) =
    ap (λ l. record { ticket = first + 1; fence = fence_of (first + 1) } ∷ l)
    (ap (λ k. pending_after fence_of (first + 1) n ++ record { ticket = k; fence = fence_of k } ∷ []) {x = first + suc n + 1} {y = (first + 1) + n + 1} (omega arith)
    ∙ pending_push fence_of (first + 1) n)

pub pending_next : (fence_of : ℕ → ℕ) (confirmed given : ℕ) → confirmed ≤ given
    → pending_after fence_of confirmed (given - confirmed) ++ record { ticket = given + 1; fence = fence_of (given + 1) } ∷ []
    ≡ pending_after fence_of confirmed (given + 1 - confirmed)
pending_next fence_of confirmed given ordered =
    let n = given - confirmed in
    ap (λ k. pending_after fence_of confirmed n ++ record { ticket = k; fence = fence_of k } ∷ []) {x = given + 1} {y = confirmed + n + 1} (omega (arith, ordered))
    ∙ pending_push fence_of confirmed n ∙ ap (pending_after fence_of confirmed) {x = suc n} {y = given + 1 - confirmed} (omega (arith, ordered))
