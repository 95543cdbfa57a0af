-- What a call of the hardware does is what its event does to the parts of a world, whose driver stays.
use Rattle.std.specs.Option.{option_map, option_map_or}
use Rattle.std.proofs.Common.{◌≡◌, ◌⊎◌, ◌∙◌, inl, inr, ℕ, Bool, true, false, List, remove, slice_get, Option, None, Some, Result, Ok, Err, if◌then◌else◌, refl, sym, ap, subst}
use Rattle.iom_ats_cache.specs.Cache.{Cache}
use Rattle.iom_base.specs.Accesses.{at_frame}
use Rattle.iom_base.specs.declared.access.Access.{Access}
use Rattle.iom_base.specs.declared.device_kind.DeviceKind.{DeviceKind}
use Rattle.iom_base.specs.DeviceKinds.{asks_questions, forges, is_block_device}
use Rattle.iom_base.specs.declared.refusal.Refusal.{Refusal}
use Rattle.iom_base.specs.declared.refusal.Refusal.TheVariants.{NoSuchDevice, WrongKind}
use Rattle.iom_device.specs.declared.device.Device.{Device}
use Rattle.iom_device.specs.Caches.{IsAble, cache_of, device_with, epoch_in}
use Rattle.iom_fabric.specs.declared.fabric.OnLink.{OnLink}
use Rattle.iom_fabric.specs.declared.fabric.Repeat.{Repeat}
use Rattle.iom_fabric.specs.declared.message.Message.{Message}
use Rattle.iom_fabric.specs.declared.message.Message.TheVariants as sent
use Rattle.iom_fabric.specs.declared.message.Translation.{Translation}
use Rattle.iom_board.specs.ByDevice.{ByDevice}
use Rattle.iom_board.specs.Commits as hardware
use Rattle.iom_board.specs.declared.answers.CacheReply.{CacheReply}
use Rattle.iom_board.specs.declared.answers.CacheReply.TheVariants.{Miss, Replied}
use Rattle.iom_board.specs.declared.answers.Delivered.{Delivered}
use Rattle.iom_board.specs.declared.answers.Delivered.TheVariants as delivered
use Rattle.iom_board.specs.Deliveries.{TakesReply, MessageArrives, MessageArrivesIfAny, DeliversAtPlace}
use Rattle.iom_board.specs.BoardParts.{BoardParts}
use Rattle.iom_board.specs.Messages.{AsksTranslation, ClaimsCompletion, LosesMessage, CopiesMessage}
use Rattle.iom_iommu.specs.OwnIommu.{Iommu}
use Rattle.iom_board.specs.Plugging.{PutsDiskIntoDevice}
use Rattle.iom_board.specs.Requests.{Replies, RequestsAccess, RequestsTranslatedAccess}
use Rattle.iom_board.specs.ThroughCache.{GoesByCachedFrame, GoesByCache, RequestsAccessThroughCache}
use Rattle.iom_inflight.specs.declared.made.MadeAt.{MadeAt}
use Rattle.iom_iommu.specs.declared.fetched.Fetched.{Fetched}
use Rattle.iom_iommu.specs.declared.reply.Reply.{Reply}
use Rattle.iom_iommu.specs.Requests.{AnswersRequest}
use Rattle.iom_iommu.specs.Translated.{AnswersTranslated}
use Rattle.iom_machine.specs.declared.event.Event.TheVariants as events
use Rattle.iom_machine.specs.declared.outcome.Outcome.{Outcome}
use Rattle.iom_machine.specs.declared.outcome.Outcome.TheVariants as outcome
use Rattle.iom_world_effects.specs.Answers.{outcome_of_done}
use Rattle.iom_world_effects.specs.BlockDevices.{IsBlockDevice, InsertsMedium}
use Rattle.iom_world_effects.specs.Deliveries.{TakesInto, Arrives, ArrivesIfAny, DeliversMessage}
use Rattle.iom_world_effects.specs.Effect.{FetchesNext, fetch_named}
use Rattle.iom_machine.specs.Disks.{disks_after}
use Rattle.iom_world_effects.specs.Messages.{SendsOnLink, AsksQuestion, ForgesCompletion, DropsMessage, RepeatsMessage, outcome_of_repeat}
use Rattle.iom_world_effects.specs.Parts.{Parts}
use Rattle.iom_world_effects.specs.Places.{IsPresent}
use Rattle.iom_world_effects.specs.Recovery.{ResetsDevice, TimesOutFence}
use Rattle.iom_world_effects.specs.Requests.{IsReplied, AsksAccess, AsksTranslated, outcome_of_reply}
use Rattle.iom_world_effects.specs.ThroughCache.{FindsFrame, TriesCache, DeviceAsksThroughCache, cached_frame}
use Rattle.iom_world_effects.specs.Unable.{IsUnknown, IsUnable}
use Rattle.iom_world_effects.proofs.PresentLemmas.{kind_absent, kind_present}
use Rattle.iom_world.specs.OnHardware.{hardware_of, outcome_unless, outcome_of_cache_reply, outcome_of_sending, outcome_of_delivery}

-- parts are their hardware and their driver
pub same_parts : (old new : Parts) → hardware_of new ≡ hardware_of old → new.driver ≡ old.driver → new ≡ old
same_parts old new hardware driver =
    ap (λ (h : BoardParts). record { memory = h.memory; iommu = h.iommu; driver = new.driver; devices = h.devices; fabric = h.fabric }) hardware
    ∙ ap (λ d. record { memory = old.memory; iommu = old.iommu; driver = d; devices = old.devices; fabric = old.fabric }) driver

-- the hardware is this, and the driver stays
pub parts_with : (old new : Parts) (parts : BoardParts) → hardware_of new ≡ parts → new.driver ≡ old.driver
    → new ≡ record { memory = parts.memory; iommu = parts.iommu; driver = old.driver; devices = parts.devices; fabric = parts.fabric }
parts_with old new parts hardware driver =
    same_parts (record { memory = parts.memory; iommu = parts.iommu; driver = old.driver; devices = parts.devices; fabric = parts.fabric }) new hardware driver

-- a block device that is there
block_device : (devices : List Device) (id : ℕ) → IsAble is_block_device devices id → (device : Device) × IsBlockDevice devices id device
block_device devices id able = by (device_with devices id) refl able.1
  where
    by : (found : Option Device) → device_with devices id ≡ found → option_map (λ (device : Device). device.kind) found ≡ Some able.0 → (device : Device) × IsBlockDevice devices id device
    by None at is = cc
    by (Some device) at is = let same : device.kind ≡ able.0 = cc in (device, record { there = at; able = ap is_block_device same ∙ able.2 })

-- the disks at hand, once one is put in
pub disks_left : (disks left : List ℕ) (old new : BoardParts) (id disk : ℕ) (answer : Result (Unit {0}) Refusal) → PutsDiskIntoDevice disks old id disk answer new left
    → left ≡ disks_after (events.Medium id disk) (outcome_of_done answer) disks
disks_left disks left old new id disk answer (inl (none, kept)) = kept ∙ sym (ap (λ a. disks_after (events.Medium id disk) (outcome_of_done a) disks) none.answered)
disks_left disks left old new id disk answer (inr (inl (wrong, kept))) = kept ∙ sym (ap (λ a. disks_after (events.Medium id disk) (outcome_of_done a) disks) wrong.answered)
disks_left disks left old new id disk answer (inr (inr (inl refuses))) = refuses.kept ∙ sym (ap (λ a. disks_after (events.Medium id disk) (outcome_of_done a) disks) refuses.answered)
disks_left disks left old new id disk answer (inr (inr (inr takes))) = takes.taken ∙ sym (ap (λ a. disks_after (events.Medium id disk) (outcome_of_done a) disks) takes.answered)

module _ (old new : Parts) (driver : new.driver ≡ old.driver) where
  -- a call of a device
  by_device : {A : Type 0} (can : DeviceKind → Bool) (Call : BoardParts → A → BoardParts → Type 0) (Comes : Outcome → Type 0) (told_as : A → Outcome) (id : ℕ) (answer : Result A Refusal)
      → ((given : A) → Call (hardware_of old) given (hardware_of new) → Comes (told_as given))
      → ByDevice can Call (hardware_of old) id answer (hardware_of new)
      → IsUnknown old id (outcome_unless told_as answer) new ⊎ IsUnable can old id (outcome_unless told_as answer) new ⊎ (IsAble can old.devices id × Comes (outcome_unless told_as answer))
  by_device can Call Comes told_as id answer leads (inl none) =
      inl (record { absent = kind_absent old.devices id none.absent; reply_is = ap (outcome_unless told_as) none.answered; same = same_parts old new none.same driver })
  by_device can Call Comes told_as id answer leads (inr (inl wrong)) =
      inr (inl (record { kind = wrong.kind; there = wrong.there; cannot = wrong.cannot; reply_is = ap (outcome_unless told_as) wrong.answered; same = same_parts old new wrong.same driver }))
  by_device can Call Comes told_as id answer leads (inr (inr effect)) =
      inr (inr (effect.able, subst (λ it. Comes (outcome_unless told_as it)) (sym effect.answered) (leads effect.given effect.call)))

  replied : (Call : Reply → List (List ℕ) → Iommu → Type 0) (reply : Reply) → Replies Call (hardware_of old) reply (hardware_of new)
      → IsReplied Call old (outcome_of_reply reply) new
  replied Call reply replies = record { reply = reply; reply_is = refl; call = replies.call; driver = driver; devices = replies.devices; fabric = replies.fabric }

  pub asked_in_parts : (can : DeviceKind → Bool) (id : ℕ) (access : Access) (answer : Result Reply Refusal)
      → RequestsAccess can (hardware_of old) id access answer (hardware_of new) → AsksAccess can old id access (outcome_unless outcome_of_reply answer) new
  asked_in_parts can id access answer requests =
      by_device can _ (λ response. IsReplied (AnswersRequest old.memory old.iommu id access) old response new) outcome_of_reply id answer
      (λ reply call. replied (AnswersRequest old.memory old.iommu id access) reply call) requests

  pub translated_in_parts : (id : ℕ) (access : Access) (answer : Result Reply Refusal)
      → RequestsTranslatedAccess (hardware_of old) id access answer (hardware_of new) → AsksTranslated old id access (outcome_unless outcome_of_reply answer) new
  translated_in_parts id access answer requests =
      by_device forges _ (λ response. IsReplied (AnswersTranslated old.memory old.iommu id access) old response new) outcome_of_reply id answer
      (λ reply call. replied (AnswersTranslated old.memory old.iommu id access) reply call) requests

  looked : (frame : Option ℕ) (id : ℕ) (access : Access) (reply : CacheReply) → GoesByCachedFrame frame id access (hardware_of old) reply (hardware_of new)
      → FindsFrame frame old id access (outcome_of_cache_reply reply) new
  looked None id access Miss same = (refl, same_parts old new same driver)
  looked None id access (Replied reply) never = absurd never
  looked (Some frame) id access Miss never = absurd never
  looked (Some frame) id access (Replied reply) replies = replied (AnswersTranslated old.memory old.iommu id (at_frame frame access)) reply replies

  by_cache : (id : ℕ) (access : Access) (reply : CacheReply) → GoesByCache id access (hardware_of old) reply (hardware_of new)
      → TriesCache old id access (outcome_of_cache_reply reply) new
  by_cache id access reply (inl (outside, is, same)) = inl (outside, ap outcome_of_cache_reply is, same_parts old new same driver)
  by_cache id access reply (inr (inl (within, full, is, same))) = inr (inl (within, full, ap outcome_of_cache_reply is, same_parts old new same driver))
  by_cache id access reply (inr (inr (within, room, looks))) = inr (inr (within, room, looked (cached_frame old id access) id access reply looks))

  pub cached_in_parts : (can : DeviceKind → Bool) (id : ℕ) (access : Access) (answer : Result CacheReply Refusal)
      → RequestsAccessThroughCache can (hardware_of old) id access answer (hardware_of new) → DeviceAsksThroughCache can old id access (outcome_unless outcome_of_cache_reply answer) new
  cached_in_parts can id access answer requests =
      by_device can _ (λ response. TriesCache old id access response new) outcome_of_cache_reply id answer (λ reply call. by_cache id access reply call) requests

  pub question_in_parts : (id page : ℕ) (answer : Result Bool Refusal) → AsksTranslation (hardware_of old) id page answer (hardware_of new)
      → AsksQuestion old id page (outcome_unless outcome_of_sending answer) new
  question_in_parts id page answer asks =
      by_device asks_questions _ (λ response. SendsOnLink old id (sent.Ask (epoch_in old.devices id) page) response new) outcome_of_sending id answer
      (λ is_sent sends. record { reply_is = ap outcome_of_sending sends.room; sent = parts_with old new _ sends.sent driver }) asks

  pub forged_in_parts : (id serial : ℕ) (answer : Result Bool Refusal) → ClaimsCompletion (hardware_of old) id serial answer (hardware_of new)
      → ForgesCompletion old id serial (outcome_unless outcome_of_sending answer) new
  forged_in_parts id serial answer claims =
      by_device forges _ (λ response. SendsOnLink old id (sent.InvDone serial) response new) outcome_of_sending id answer
      (λ is_sent sends. record { reply_is = ap outcome_of_sending sends.room; sent = parts_with old new _ sends.sent driver }) claims

  pub dropped_in_parts : (place : ℕ) (found : Bool) → LosesMessage (hardware_of old) place found (hardware_of new)
      → DropsMessage old place (if found then outcome.Dropped else outcome.NoMessage) new
  dropped_in_parts place found loses =
      record { reply_is = ap (λ (b : Bool). if b then outcome.Dropped else outcome.NoMessage) loses.answered; dropped = parts_with old new _ loses.lost driver }

  pub repeated_in_parts : (place : ℕ) (became : Repeat) → CopiesMessage (hardware_of old) place became (hardware_of new) → RepeatsMessage old place (outcome_of_repeat became) new
  repeated_in_parts place became copies = record { reply_is = ap outcome_of_repeat copies.answered; repeated = parts_with old new _ copies.copied driver }

  taken_in : (cache : Option Cache) (epoch page : ℕ) (answer : Translation) (is : Delivered) (after : Option Cache) → TakesReply cache epoch page answer is after
      → TakesInto cache epoch page answer (outcome_of_delivery is) after
  taken_in None epoch page answer delivered.Ignored after none = (refl, none)
  taken_in (Some cache) epoch page answer (delivered.Taken taking) after (kept, takes, is) = (taking, kept, takes, refl, is)
  taken_in None epoch page answer delivered.NoMessage after never = absurd never
  taken_in None epoch page answer (delivered.Answered other) after never = absurd never
  taken_in None epoch page answer (delivered.Taken taking) after never = absurd never
  taken_in None epoch page answer (delivered.Invalidated serial) after never = absurd never
  taken_in None epoch page answer (delivered.Closed serial) after never = absurd never
  taken_in None epoch page answer (delivered.NotClosed serial) after never = absurd never
  taken_in (Some cache) epoch page answer delivered.NoMessage after never = absurd never
  taken_in (Some cache) epoch page answer (delivered.Answered other) after never = absurd never
  taken_in (Some cache) epoch page answer delivered.Ignored after never = absurd never
  taken_in (Some cache) epoch page answer (delivered.Invalidated serial) after never = absurd never
  taken_in (Some cache) epoch page answer (delivered.Closed serial) after never = absurd never
  taken_in (Some cache) epoch page answer (delivered.NotClosed serial) after never = absurd never

  arrived : (message : Message) (device : ℕ) (others : List OnLink) (is : Delivered) → MessageArrives message (hardware_of old) device others is (hardware_of new)
      → Arrives message old device others (outcome_of_delivery is) new
  arrived (sent.Ask epoch page) device others (delivered.Answered answer) arrives =
      record { answer = answer; reply_is = refl; call = arrives.call; fabric = arrives.fabric; driver = driver; devices = arrives.devices }
  arrived (sent.Answer epoch page answer) device others is takes =
      record { after = takes.after; cache = taken_in (cache_of old.devices device) epoch page answer is takes.after takes.cache; rest = parts_with old new _ takes.rest driver }
  arrived (sent.InvReq serial range) device others (delivered.Invalidated named) (is, (done, after, obeys, rest)) =
      record { done = Some done; after = after; cache = obeys; reply_is = ap outcome.Invalidated is; rest = parts_with old new _ rest driver }
  arrived (sent.InvReq serial range) device others delivered.Ignored (after, obeys, rest) =
      record { done = None; after = after; cache = obeys; reply_is = refl; rest = parts_with old new _ rest driver }
  arrived (sent.InvDone serial) device others (delivered.Closed named) (is, takes) =
      record { closed = true; reply_is = ap outcome.Closed is; call = takes.call; fabric = takes.fabric; memory = takes.memory; driver = driver; devices = takes.devices }
  arrived (sent.InvDone serial) device others (delivered.NotClosed named) (is, takes) =
      record { closed = false; reply_is = ap outcome.NotClosed is; call = takes.call; fabric = takes.fabric; memory = takes.memory; driver = driver; devices = takes.devices }
  arrived (sent.Ask epoch page) device others delivered.NoMessage never = absurd never
  arrived (sent.Ask epoch page) device others (delivered.Taken taking) never = absurd never
  arrived (sent.Ask epoch page) device others delivered.Ignored never = absurd never
  arrived (sent.Ask epoch page) device others (delivered.Invalidated serial) never = absurd never
  arrived (sent.Ask epoch page) device others (delivered.Closed serial) never = absurd never
  arrived (sent.Ask epoch page) device others (delivered.NotClosed serial) never = absurd never
  arrived (sent.InvReq serial range) device others delivered.NoMessage never = absurd never
  arrived (sent.InvReq serial range) device others (delivered.Answered answer) never = absurd never
  arrived (sent.InvReq serial range) device others (delivered.Taken taking) never = absurd never
  arrived (sent.InvReq serial range) device others (delivered.Closed named) never = absurd never
  arrived (sent.InvReq serial range) device others (delivered.NotClosed named) never = absurd never
  arrived (sent.InvDone serial) device others delivered.NoMessage never = absurd never
  arrived (sent.InvDone serial) device others (delivered.Answered answer) never = absurd never
  arrived (sent.InvDone serial) device others (delivered.Taken taking) never = absurd never
  arrived (sent.InvDone serial) device others delivered.Ignored never = absurd never
  arrived (sent.InvDone serial) device others (delivered.Invalidated named) never = absurd never

  pub delivered_in_parts : (place : ℕ) (is : Delivered) → DeliversAtPlace (hardware_of old) place is (hardware_of new) → DeliversMessage old place (outcome_of_delivery is) new
  delivered_in_parts place is delivers = by (slice_get old.fabric place) delivers
    where
      by : (on : Option OnLink) → MessageArrivesIfAny on (hardware_of old) (remove old.fabric place) is (hardware_of new)
          → ArrivesIfAny on old (remove old.fabric place) (outcome_of_delivery is) new
      by None (none, same) = (ap outcome_of_delivery none, same_parts old new same driver)
      by (Some on) arrives = arrived on.message on.device (remove old.fabric place) is arrives

  pub reset_in_parts : (id : ℕ) (answer : Result (Unit {0}) Refusal) → hardware.ResetsAnyDevice (hardware_of old) id answer (hardware_of new)
      → ResetsDevice old id (outcome_unless (λ done. outcome.Done) answer) new
  reset_in_parts id answer (inl none) =
      inl (record { absent = kind_absent old.devices id none.absent; reply_is = ap (outcome_unless (λ done. outcome.Done)) none.answered; same = same_parts old new none.same driver })
  reset_in_parts id answer (inr (inl wrong)) = absurd (never wrong.cannot)
    where
      never : ◌≡◌ {A = Bool} true false → ⊥
      never same = cc
  reset_in_parts id answer (inr (inr effect)) = inr (effect.able, ap (outcome_unless (λ done. outcome.Done)) effect.answered, parts_with old new _ effect.call.cleared driver)

  -- a disk is put in
  pub inserted_in_parts : (disks left : List ℕ) (id disk : ℕ) (answer : Result (Unit {0}) Refusal) → PutsDiskIntoDevice disks (hardware_of old) id disk answer (hardware_of new) left
      → InsertsMedium disks old id disk (outcome_of_done answer) new
  inserted_in_parts disks left id disk answer (inl (none, kept)) =
      inl (record { absent = kind_absent old.devices id none.absent; reply_is = ap outcome_of_done none.answered; same = same_parts old new none.same driver })
  inserted_in_parts disks left id disk answer (inr (inl (wrong, kept))) =
      inr (inl (record { kind = wrong.kind; there = wrong.there; cannot = wrong.cannot; reply_is = ap outcome_of_done wrong.answered; same = same_parts old new wrong.same driver }))
  inserted_in_parts disks left id disk answer (inr (inr (inl refuses))) =
      let found = block_device old.devices id refuses.able in
      let has = ap (λ (o : Option Device). option_map_or (λ (device : Device). device.has_disk) o false) found.1.there in
      inr (inr (found.0, found.1, inr ((λ may. refuses.cannot (has ∙ may.0, may.1)), ap outcome_of_done refuses.answered, same_parts old new refuses.same driver)))
  inserted_in_parts disks left id disk answer (inr (inr (inr takes))) =
      let found = block_device old.devices id takes.able in
      let has = ap (λ (o : Option Device). option_map_or (λ (device : Device). device.has_disk) o false) found.1.there in
      inr (inr (found.0, found.1, inl ((sym has ∙ takes.can.0, takes.can.1), ap outcome_of_done takes.answered, parts_with old new _ takes.put driver)))

  pub fetched_in_parts : (fetched : Fetched) → hardware.TakesCommand (hardware_of old) fetched (hardware_of new)
      → FetchesNext old (outcome.Fetched (fetch_named fetched)) new
  fetched_in_parts fetched takes =
      record { answer = fetched; reply_is = refl; call = takes.call; driver = driver; devices = takes.devices; fabric = takes.fabric }

  pub timed_out_in_parts : (has_effect : Bool) → hardware.GivesUpFence (hardware_of old) has_effect (hardware_of new)
      → TimesOutFence old (if has_effect then outcome.TimedOut else outcome.NoEffect) new
  timed_out_in_parts has_effect gives_up =
      record { answer = has_effect; reply_is = refl; call = gives_up.call; memory = gives_up.memory; driver = driver; devices = gives_up.devices; fabric = gives_up.fabric }

  -- a commit is refused where no device has the id alone
  pub uncommitted : (id : ℕ) (why : Refusal) → hardware.CommitsOldestAccess (hardware_of old) id (Err why) (hardware_of new) → IsUnknown old id (outcome.Refused why) new
  uncommitted id why (inl none) =
      record { absent = kind_absent old.devices id none.absent; reply_is = ap (outcome_unless {A = Option MadeAt} (λ made. outcome.Done)) none.answered; same = same_parts old new none.same driver }
  uncommitted id why (inr (inl wrong)) = absurd (never wrong.cannot)
    where
      never : ◌≡◌ {A = Bool} true false → ⊥
      never same = cc
  uncommitted id why (inr (inr effect)) = absurd (never effect.given effect.answered)
    where
      never : (given : Option MadeAt) → ◌≡◌ {A = Result (Option MadeAt) Refusal} (Err why) (Ok given) → ⊥
      never given same = cc

  -- else the oldest access is made, if there is one, and the device is there
  pub committed : (id : ℕ) (made : Option MadeAt) → hardware.CommitsOldestAccess (hardware_of old) id (Ok made) (hardware_of new)
      → IsPresent old.devices id × hardware.MakesAccess id (hardware_of old) made (hardware_of new)
  committed id made (inl none) = absurd (never none.answered)
    where
      never : ◌≡◌ {A = Result (Option MadeAt) Refusal} (Ok made) (Err NoSuchDevice) → ⊥
      never same = cc
  committed id made (inr (inl wrong)) = absurd (never wrong.answered)
    where
      never : ◌≡◌ {A = Result (Option MadeAt) Refusal} (Ok made) (Err WrongKind) → ⊥
      never same = cc
  committed id made (inr (inr effect)) =
      (kind_present old.devices id effect.able.0 effect.able.1, subst (λ (m : Option MadeAt). hardware.MakesAccess id (hardware_of old) m (hardware_of new)) (sym (is effect.given effect.answered)) effect.call)
    where
      is : (given : Option MadeAt) → ◌≡◌ {A = Result (Option MadeAt) Refusal} (Ok made) (Ok given) → made ≡ given
      is given same = cc
