use Rattle.std.proofs.Common.{◌≡◌, ◌∙◌, ℕ, List, Option, None, slice_set, refl, sym, ap, subst}
use Rattle.std.proofs.lemmas.Option.{get_or_from_slice_get}
use Rattle.iom_ats_cache.specs.Cache.{Cache}
use Rattle.iom_device.specs.declared.device.Device.{Device}
use Rattle.iom_fabric.specs.declared.message.Translation.{Translation}
use Rattle.iom_device.specs.Caches.{device_with, cache_in, cache_of, IsDevicePlace}
use Rattle.iom_board.specs.Deliveries.{TakesReply}
use Rattle.iom_board.specs.declared.answers.Delivered.TheVariants.{Ignored}
use Rattle.iom_device.proofs.CachePlaces.{with_none}
use Rattle.iom_board.proofs.deliveries.take_answer.Goals as goal

-- a device that isn't there has no cache, and ignores what comes for it
takes_none : (devices : List Device) (id epoch page : ℕ) (answer : Translation) → device_with devices id ≡ None
    → TakesReply (cache_of devices id) epoch page answer Ignored None
takes_none devices id epoch page answer none = rw (ap cache_in none) refl

pub returns-in-Some : goal.returns-in-Some
returns-in-Some c =
    let devices = c.args.devices.now.items in
    let after : Option Cache = c.take.new.device.cache in
    let is : IsDevicePlace devices c.args.id c.in-Some.place = subst (λ (ds : List Device). IsDevicePlace ds c.args.id c.in-Some.place) c.deref.ensures.value c.in-Some.ensures in
    let read : c.index_mut.result.now ≡ is.0 = c.index_mut.ensures.value ∙ get_or_from_slice_get devices c.in-Some.place is.0 c.index_mut.result.now is.1 in (
      after,
      subst (λ (cache : Option Cache). TakesReply cache c.args.epoch c.args.page c.args.answer c.take.result after)
          (ap (λ (d : Device). d.cache) read ∙ sym (ap cache_in is.2)) c.take.ensures.taken,
      ap (slice_set devices c.in-Some.place) (c.take.ensures.rest ∙ ap (λ (d : Device). record d { cache = after }) read) ∙ is.3 after,
    )

pub returns-in-None : goal.returns-in-None
returns-in-None c =
    let none : device_with c.args.devices.now.items c.args.id ≡ None = subst (λ (ds : List Device). device_with ds c.args.id ≡ None) c.deref.ensures.value c.in-None.ensures in
    (None, takes_none c.args.devices.now.items c.args.id c.args.epoch c.args.page c.args.answer none, sym (with_none c.args.devices.now.items c.args.id None none))
