-- What each call of a device's cache does, at the messages of address translation services (PCI Express Base Specification, sections 10.2 and 10.3) and at a reset.
use Rattle.std.specs.Prelude.{◌≡◌, ◌≢◌, ◌+◌, ℕ, []}
use Rattle.iom_fabric.specs.declared.message.Range.{Range}
use Rattle.iom_fabric.specs.declared.message.Translation.{Translation}
use Rattle.iom_fabric.specs.declared.message.Translation.TheVariants as translation
use Rattle.iom_fabric.specs.declared.message.Message.{Message}
use Rattle.iom_fabric.specs.declared.message.Message.TheVariants.{Ask, InvDone}
use Rattle.iom_ats_cache.specs.declared.taken.Taken.{Taken}
use Rattle.iom_ats_cache.specs.declared.taken.Taken.TheVariants as taken
use Rattle.iom_ats_cache.specs.Cache.{Cache, outside, with_entry}

-- THE RELATION of a question (Translation Request): it is for the page, in the cache's epoch
abbrev pub AsksInEpoch : Cache → ℕ → Message → Type 0
AsksInEpoch cache page message = message ≡ Ask cache.epoch page

-- THE RELATION of an answer (Translation Completion), with the epoch of its question. It is stale exactly where that isn't the cache's epoch, refused exactly where
-- it is and the answer is a refusal, and else kept. Only what is kept changes something: the page's entry, and not the epoch
abbrev pub TakesAnswer : Cache → ℕ → ℕ → Translation → Taken → Cache → Type 0
TakesAnswer old epoch page answer taken.Stale new = (epoch ≢ old.epoch) × (new ≡ old)
TakesAnswer old epoch page (translation.Refused cause) taken.Refused new = (epoch ≡ old.epoch) × (new ≡ old)
TakesAnswer old epoch page (translation.Page frame rights) taken.Refused new = ⊥
TakesAnswer old epoch page (translation.Page frame rights) taken.Kept new =
    (epoch ≡ old.epoch)
    × (new ≡ record { epoch = old.epoch; entries = with_entry old.entries (record { page = page; frame = frame; rights = rights }) })
TakesAnswer old epoch page (translation.Refused cause) taken.Kept new = ⊥

-- THE RELATION of an invalidation (Invalidate Request): what the range covers goes out and all else stays, the epoch rises by one, and the word that
-- it is done (Invalidate Completion) has the number of the request
pub record Invalidates (old : Cache) (serial : ℕ) (range : Range) (message : Message) (new : Cache) : Type 0 where
  pub done : message ≡ InvDone serial
  pub left : new ≡ record { epoch = old.epoch + 1; entries = outside range old.entries }

-- THE RELATION of a reset: everything goes out, and the epoch rises by one
abbrev pub ResetsCache : Cache → Cache → Type 0
ResetsCache old new = new ≡ record { epoch = old.epoch + 1; entries = [] }
