-- What a delivery leaves: driver, accesses in flight and command queue are as they were, and the messages lead to less.
use Rattle.std.proofs.Common.{◌≡◌, ◌+◌, ◌<◌, ◌≤◌, ◌∙◌, ◌==◌, ℕ, suc, Bool, true, false, not, filter, nat_lt, is_some, List, [], ◌∷◌, ◌++◌, length, remove, Contains, Option, None, Some, slice_get, refl, sym, ap, subst, arith, if◌then◌else◌}
use Rattle.std.specs.Option.{option_map}
use Rattle.std.proofs.lemmas.Bool.{false≢true, eqb-true, le-leb}
use Rattle.iom_ats_cache.specs.Cache.{Cache}
use Rattle.iom_command_queue.specs.declared.slot.Slot.{Slot}
use Rattle.iom_command_queue.specs.OpenSlots.{OpenSlots, is_request, without_request}
use Rattle.iom_coherence.specs.Attachments.{caches_translations}
use Rattle.iom_coherence.proofs.ListLemmas.{contains_head, contains_tail, contains_from_filter}
use Rattle.iom_device.specs.declared.device.Device.{Device}
use Rattle.iom_device.specs.Caches.{device_with, kind_in, cache_in, cache_of, HasItsCache}
use Rattle.iom_device.specs.Calls.{Obeys}
use Rattle.iom_fabric.specs.declared.fabric.OnLink.{OnLink}
use Rattle.iom_fabric.specs.declared.message.Message.{Message}
use Rattle.iom_fabric.specs.declared.message.Message.TheVariants as sent
use Rattle.iom_fabric.specs.declared.message.Translation.{Translation}
use Rattle.iom_fabric.specs.declared.message.Translation.TheVariants.{Page, Refused}
use Rattle.iom_fault_queue.specs.declared.ring.Put.{Put}
use Rattle.iom_fault_queue.specs.declared.ring.Put.TheVariants.{Written, Overflow, Off}
use Rattle.iom_fault_queue.specs.Calls.{PutsRecord}
use Rattle.iom_fault_queue.specs.Fields.{Fields}
use Rattle.iom_fault_queue.specs.Ring.{is_full, is_tail_outside}
use Rattle.iom_iommu.specs.Parts.{registers_of, flights_of, slots_of, frames_of}
use Rattle.iom_iommu.specs.Questions.{RecordsUnless, AnswersQuestion}
use Rattle.iom_machine.specs.declared.outcome.Outcome.{Outcome}
use Rattle.iom_registers.specs.declared.registers.Registers.{Registers}
use Rattle.iom_registers.specs.Queues.{command_status, is_fault_queue_marked, with_fqmf, with_fqof}
use Rattle.iom_world_effects.specs.Deliveries.{Arrives, ArrivesIfAny, DeliversMessage, with_completion_sent}
use Rattle.iom_world_effects.specs.Messages.{with_sent}
use Rattle.iom_iommu.specs.OwnIommu.{Iommu}
use Rattle.iom_world_effects.specs.Parts.{Parts}
use Rattle.iom_world_effects.proofs.CacheSets.{kind_set}
use Rattle.iom_settling.specs.CatchingUp.{HasCache, NothingIsInFlight, TakesCommands}
use Rattle.iom_settling.specs.Weights.{weight, weights}
use Rattle.iom_settling.specs.Words.{is_word_of, HaveWords}
use Rattle.iom_settling.proofs.WeightLemmas.{weights_push}
use Rattle.iom_settling.proofs.WordLemmas.{words_push, words_rest, words_obeyed, words_closed, no_word}

-- A fault record is put into its queue, or dropped: the command queue is as it was.
dropped_status : (r s : Registers) (marked full outside : Bool)
    → (if marked then Some r else if full then Some (with_fqof r) else if outside then Some (with_fqmf r) else None) ≡ Some s → command_status s ≡ command_status r
dropped_status r s true full outside is = let same : r ≡ s = cc in ap command_status (sym same)
dropped_status r s false true outside is = let same : with_fqof r ≡ s = cc in ap command_status (sym same)
dropped_status r s false false true is = let same : with_fqmf r ≡ s = cc in ap command_status (sym same)
dropped_status r s false false false is = cc

put_status : (memory new : List (List ℕ)) (r s : Registers) (f : Fields) (put : Put) → PutsRecord memory r f put new s → command_status s ≡ command_status r
put_status memory new r s f Written puts = ap command_status puts.3
put_status memory new r s f Overflow puts = dropped_status r s (is_fault_queue_marked r) (is_full r) (is_tail_outside memory r) puts.1
put_status memory new r s f Off puts = ap command_status puts.2

recorded_status : (unless : Bool) (memory new : List (List ℕ)) (r s : Registers) (f : Fields) → RecordsUnless unless memory r f new s → command_status s ≡ command_status r
recorded_status true memory new r s f records = ap command_status records.1
recorded_status false memory new r s f records = put_status memory new r s f records.0 records.1

-- WHAT A DELIVERY LEAVES
pub record CarriesOn (old new : Parts) : Type 0 where
  pub driver : new.driver ≡ old.driver
  pub flights : flights_of new.iommu ≡ flights_of old.iommu
  pub status : command_status (registers_of new.iommu) ≡ command_status (registers_of old.iommu)
  pub frames : frames_of new.iommu ≡ frames_of old.iommu
  pub kinds : (id : ℕ) → kind_in new.devices id ≡ kind_in old.devices id

-- what is sent
pub sent_weight : (others : List OnLink) (device : ℕ) (message : Message) → weights (with_sent others device message) ≤ weights others + weight message
sent_weight others device message = by (nat_lt (length others) 64)
  where
    by : (b : Bool) → weights (if b then others ++ (record { device = device; message = message }) ∷ [] else others) ≤ weights others + weight message
    by true = let push = weights_push others (record { device = device; message = message }) in omega (arith, push)
    by false = omega arith

-- one message more
one_more : (others : List OnLink) (on : OnLink) → length (others ++ on ∷ []) ≤ suc (length others)
one_more [] on = omega arith
one_more (first ∷ others) on = let rest = one_more others on in omega (arith, rest)

-- where there is room
pub sent_there : (others : List OnLink) (device : ℕ) (message : Message) → length others < 64 → with_sent others device message ≡ others ++ (record { device = device; message = message }) ∷ []
sent_there others device message lt = ap (λ (b : Bool). if b then others ++ (record { device = device; message = message }) ∷ [] else others) (le-leb (suc (length others)) 64 lt)

-- A QUESTION
question_iommu : (old new : Parts) (device page : ℕ) (answer : Translation) → AnswersQuestion old.memory old.iommu device page answer new.memory new.iommu
    → (flights_of new.iommu ≡ flights_of old.iommu) × (command_status (registers_of new.iommu) ≡ command_status (registers_of old.iommu))
    × (slots_of new.iommu ≡ slots_of old.iommu) × (frames_of new.iommu ≡ frames_of old.iommu)
question_iommu old new device page (Page frame rights) answers =
    let tells = answers.0 in ((ap (λ parts. parts.flights) tells.rest), ap command_status (ap (λ parts. parts.registers) tells.rest), (ap (λ parts. parts.slots) tells.rest), (ap (λ parts. parts.frames) tells.rest))
question_iommu old new device page (Refused cause) refuses =
    ((ap (λ parts. parts.flights) refuses.rest), recorded_status _ old.memory new.memory (registers_of old.iommu) (registers_of new.iommu) _ refuses.recorded, (ap (λ parts. parts.slots) refuses.rest), (ap (λ parts. parts.frames) refuses.rest))

-- a device with a cache has it
pub cached_there : (devices : List Device) (id : ℕ) → ((device : Device) → Contains devices device → HasItsCache device) → HasCache devices id → (cache : Cache) × (cache_of devices id ≡ Some cache)
cached_there [] id own has = absurd (false≢true has)
cached_there (first ∷ others) id own has = by (first.id == id) (λ at. cached_there others id (λ device there. own device (contains_tail first others device there)) at) has
  where
    its : (cache : Option Cache) → is_some cache ≡ true → (found : Cache) × (cache ≡ Some found)
    its None is = absurd (false≢true is)
    its (Some cache) is = (cache, refl)

    by : (b : Bool) → (HasCache others id → (cache : Cache) × (cache_of others id ≡ Some cache))
        → caches_translations (option_map (λ (device : Device). device.kind) (if b then Some first else device_with others id)) ≡ true
        → (cache : Cache) × (cache_in (if b then Some first else device_with others id) ≡ Some cache)
    by true rest at = its first.cache (own first (contains_head first others) ∙ at)
    by false rest at = rest at

-- THE MESSAGE THAT ARRIVES, by what it is
module _ (old new : Parts) (reply : Outcome) (device : ℕ) (others : List OnLink) where
  pub arrived : (message : Message) → Arrives message old device others reply new → CarriesOn old new × (suc (weights new.fabric) ≤ weight message + weights others)
  arrived (sent.Ask epoch page) answers =
      let iommu = question_iommu old new device page answers.answer answers.call in
      let light = sent_weight others device (sent.Answer epoch page answers.answer) in
      let fabric : weights new.fabric ≡ weights (with_sent others device (sent.Answer epoch page answers.answer)) = ap weights answers.fabric in (
        record { driver = answers.driver; flights = iommu.0; status = iommu.1; frames = iommu.3; kinds = λ id. ap (λ (ds : List Device). kind_in ds id) answers.devices },
        omega (arith, light, fabric),
      )
  arrived (sent.Answer epoch page answer) takes =
      let fabric : weights new.fabric ≡ weights others = ap (λ (p : Parts). weights p.fabric) takes.rest in (
        record {
          driver = ap (λ (p : Parts). p.driver) takes.rest;
          flights = ap (λ (p : Parts). flights_of p.iommu) takes.rest;
          status = ap (λ (p : Parts). command_status (registers_of p.iommu)) takes.rest;
          frames = ap (λ (p : Parts). frames_of p.iommu) takes.rest;
          kinds = λ id. ap (λ (p : Parts). kind_in p.devices id) takes.rest ∙ kind_set old.devices device takes.after id;
        },
        omega (arith, fabric),
      )
  arrived (sent.InvReq serial range) obeys =
      let fabric : weights new.fabric ≡ weights (with_completion_sent others device obeys.done) = ap (λ (p : Parts). weights p.fabric) obeys.rest in
      let light = answered (cache_of old.devices device) obeys.done obeys.after obeys.cache in (
        record {
          driver = ap (λ (p : Parts). p.driver) obeys.rest;
          flights = ap (λ (p : Parts). flights_of p.iommu) obeys.rest;
          status = ap (λ (p : Parts). command_status (registers_of p.iommu)) obeys.rest;
          frames = ap (λ (p : Parts). frames_of p.iommu) obeys.rest;
          kinds = λ id. ap (λ (p : Parts). kind_in p.devices id) obeys.rest ∙ kind_set old.devices device obeys.after id;
        },
        omega (arith, fabric, light),
      )
    where
      answered : (cache : Option Cache) (done : Option Message) (after : Option Cache) → Obeys cache serial range done after → weights (with_completion_sent others device done) ≤ weights others + 1
      answered None None after is = omega arith
      answered None (Some done) after is = absurd is
      answered (Some cache) None after is = absurd is
      answered (Some cache) (Some done) after is =
          let light = sent_weight others device done in
          let one : weight done ≡ 1 = ap weight is.1.done in
          omega (arith, light, one)
  arrived (sent.InvDone serial) hears =
      let fabric : weights new.fabric ≡ weights others = ap weights hears.fabric in (
        record {
          driver = hears.driver;
          flights = ap (λ (i : Iommu). flights_of i) hears.call.left;
          status = ap (λ (i : Iommu). command_status (registers_of i)) hears.call.left;
          frames = ap (λ (i : Iommu). frames_of i) hears.call.left;
          kinds = λ id. ap (λ (ds : List Device). kind_in ds id) hears.devices;
        },
        omega (arith, fabric),
      )

-- MESSAGE 0 IS DELIVERED
pub delivered_first : (old new : Parts) (reply : Outcome) (on : OnLink) (others : List OnLink) → old.fabric ≡ on ∷ others → DeliversMessage old 0 reply new → Arrives on.message old on.device others reply new
delivered_first old new reply on others is delivers = subst (λ (ms : List OnLink). ArrivesIfAny (slice_get ms 0) old (remove ms 0) reply new) is delivers

pub delivered : (old new : Parts) (reply : Outcome) (on : OnLink) (others : List OnLink) → old.fabric ≡ on ∷ others → DeliversMessage old 0 reply new
    → CarriesOn old new × (suc (weights new.fabric) ≤ weights old.fabric)
delivered old new reply on others is delivers =
    let by = arrived old new reply on.device others on.message (delivered_first old new reply on others is delivers) in
    let light = by.1 in
    let all : weights old.fabric ≡ weight on.message + weights others = ap weights is in
    (by.0, omega (arith, light, all))

-- what was idle is idle still, and commands are taken still
pub still_idle : (old new : Parts) → CarriesOn old new → NothingIsInFlight old → NothingIsInFlight new
still_idle old new carries idle = rw (carries.flights) idle

pub still_taking : (old new : Parts) → CarriesOn old new → TakesCommands old → TakesCommands new
still_taking old new carries taking = rw (carries.status) taking

-- SLOTS AND WORDS
filter_fewer : {X : Type 0} (p : X → Bool) (xs : List X) → length (filter p xs) ≤ length xs
filter_fewer p [] = omega arith
filter_fewer p (x ∷ xs) = by (p x) (filter_fewer p xs)
  where
    by : (b : Bool) → length (filter p xs) ≤ length xs → length (if b then x ∷ filter p xs else filter p xs) ≤ suc (length xs)
    by true le = omega (arith, le)
    by false le = omega (arith, le)

module _ (old new : Parts) (reply : Outcome) (device : ℕ) (others : List OnLink) (few : length others < 64)
    (caches : (d : Device) → Contains old.devices d → HasItsCache d)
    (slot_owners : (slot : Slot) → Contains (slots_of old.iommu).open_slots slot → HasCache old.devices slot.device) where
  abbrev slots : List Slot
  slots = (slots_of old.iommu).open_slots

  kept : (fabric : List OnLink) → slots_of new.iommu ≡ slots_of old.iommu → new.fabric ≡ fabric → HaveWords slots fabric → length fabric ≤ suc (length others)
      → (HaveWords (slots_of new.iommu).open_slots new.fabric) × ((slot : Slot) → Contains (slots_of new.iommu).open_slots slot → Contains slots slot)
      × (length (slots_of new.iommu).open_slots ≤ length slots) × (length new.fabric ≤ suc (length others))
  kept fabric same is words short = (
    subst (λ (s : OpenSlots). HaveWords s.open_slots new.fabric) (sym same) (subst (λ (ms : List OnLink). HaveWords slots ms) (sym is) words),
    λ slot there. subst (λ (s : OpenSlots). Contains s.open_slots slot) same there,
    subst (λ (s : OpenSlots). length s.open_slots ≤ length slots) (sym same) (omega arith),
    subst (λ (ms : List OnLink). length ms ≤ suc (length others)) (sym is) short,
  )

  pub words_then : (message : Message) → Arrives message old device others reply new → HaveWords slots (record { device = device; message = message } ∷ others)
      → (HaveWords (slots_of new.iommu).open_slots new.fabric) × ((slot : Slot) → Contains (slots_of new.iommu).open_slots slot → Contains slots slot)
      × (length (slots_of new.iommu).open_slots ≤ length slots) × (length new.fabric ≤ suc (length others))
  words_then (sent.Ask epoch page) answers have =
      let answer : OnLink = record { device = device; message = sent.Answer epoch page answers.answer } in
      let iommu = question_iommu old new device page answers.answer answers.call in
      kept (others ++ answer ∷ []) iommu.2 (answers.fabric ∙ sent_there others device (sent.Answer epoch page answers.answer) few)
      (words_push slots others answer (words_rest slots (record { device = device; message = sent.Ask epoch page }) others (λ slot there. no_word slot device (sent.Ask epoch page) refl) have))
      (one_more others answer)
  words_then (sent.Answer epoch page answer) takes have =
      kept others (ap (λ (p : Parts). slots_of p.iommu) takes.rest) (ap (λ (p : Parts). p.fabric) takes.rest)
      (words_rest slots (record { device = device; message = sent.Answer epoch page answer }) others (λ slot there. no_word slot device (sent.Answer epoch page answer) refl) have) (omega arith)
  words_then (sent.InvReq serial range) obeys have = by (caches_translations (kind_in old.devices device)) refl
    where
      same_slots : slots_of new.iommu ≡ slots_of old.iommu
      same_slots = ap (λ (p : Parts). slots_of p.iommu) obeys.rest

      word : OnLink
      word = record { device = device; message = sent.InvDone serial }

      -- who has no cache was asked by nobody
      nobody : caches_translations (kind_in old.devices device) ≡ false → (slot : Slot) → Contains slots slot → is_word_of slot (record { device = device; message = sent.InvReq serial range }) ≡ false
      nobody none slot there = at (slot.device == device) refl
        where
          at : (b : Bool) → (slot.device == device) ≡ b → is_word_of slot (record { device = device; message = sent.InvReq serial range }) ≡ false
          at true is = absurd (false≢true (sym none ∙ subst (λ (d : ℕ). HasCache old.devices d) (eqb-true slot.device device is) (slot_owners slot there)))
          at false is = rw is refl

      obeyed : (cache : Option Cache) (done : Option Message) → cache_of old.devices device ≡ cache → obeys.done ≡ done → Obeys cache serial range done obeys.after → (found : Cache) × (cache_of old.devices device ≡ Some found)
          → with_completion_sent others device obeys.done ≡ others ++ record { device = device; message = sent.InvDone serial } ∷ []
      obeyed None _ at is it has = let none : ◌≡◌ {A = Option Cache} None (Some has.0) = sym at ∙ has.1 in cc
      obeyed (Some cache) None at is it has = absurd it
      obeyed (Some cache) (Some done) at is it has =
          ap (with_completion_sent others device) is
          ∙ sent_there others device done few
          ∙ ap (λ (m : Message). others ++ record { device = device; message = m } ∷ []) it.1.done

      unasked : (cache : Option Cache) (done : Option Message) → obeys.done ≡ done → Obeys cache serial range done obeys.after
          → (length (with_completion_sent others device obeys.done) ≤ suc (length others)) × (HaveWords slots others → HaveWords slots (with_completion_sent others device obeys.done))
      unasked None None is it = (subst (λ (d : Option Message). length (with_completion_sent others device d) ≤ suc (length others)) (sym is) (omega arith), λ words. subst (λ (d : Option Message). HaveWords slots (with_completion_sent others device d)) (sym is) words)
      unasked None (Some done) is it = absurd it
      unasked (Some cache) None is it = absurd it
      unasked (Some cache) (Some done) is it =
          let there = sent_there others device done few in
          let more : OnLink = record { device = device; message = done } in (
            subst (λ (d : Option Message). length (with_completion_sent others device d) ≤ suc (length others)) (sym is) (subst (λ (ms : List OnLink). length ms ≤ suc (length others)) (sym there) (one_more others more)),
            λ words. subst (λ (d : Option Message). HaveWords slots (with_completion_sent others device d)) (sym is) (subst (λ (ms : List OnLink). HaveWords slots ms) (sym there) (words_push slots others more words)),
          )

      by : (b : Bool) → caches_translations (kind_in old.devices device) ≡ b
          → (HaveWords (slots_of new.iommu).open_slots new.fabric) × ((slot : Slot) → Contains (slots_of new.iommu).open_slots slot → Contains slots slot)
          × (length (slots_of new.iommu).open_slots ≤ length slots) × (length new.fabric ≤ suc (length others))
      by true has =
          kept (others ++ word ∷ []) same_slots
          (ap (λ (p : Parts). p.fabric) obeys.rest ∙ obeyed (cache_of old.devices device) obeys.done refl refl obeys.cache (cached_there old.devices device caches has))
          (words_obeyed slots device serial range others have) (one_more others word)
      by false none =
          let rest = unasked (cache_of old.devices device) obeys.done refl obeys.cache in
          kept (with_completion_sent others device obeys.done) same_slots (ap (λ (p : Parts). p.fabric) obeys.rest)
          (rest.1 (words_rest slots (record { device = device; message = sent.InvReq serial range }) others (nobody none) have)) rest.0
  words_then (sent.InvDone serial) hears have =
      let left : slots_of new.iommu ≡ without_request (slots_of old.iommu) serial device = ap (λ (i : Iommu). slots_of i) hears.call.left in (
        subst (λ (s : OpenSlots). HaveWords s.open_slots new.fabric) (sym left)
            (subst (λ (ms : List OnLink). HaveWords (filter (λ slot. not (is_request serial device slot)) slots) ms) (sym hears.fabric) (words_closed slots device serial others have)),
        λ slot there. (contains_from_filter (λ s. not (is_request serial device s)) slots slot (subst (λ (s : OpenSlots). Contains s.open_slots slot) left there)).0,
        subst (λ (s : OpenSlots). length s.open_slots ≤ length slots) (sym left) (filter_fewer (λ slot. not (is_request serial device slot)) slots),
        subst (λ (ms : List OnLink). length ms ≤ suc (length others)) (sym hears.fabric) (omega arith),
      )
