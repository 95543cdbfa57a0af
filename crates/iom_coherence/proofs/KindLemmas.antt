-- Kinds of devices.
use Rattle.std.proofs.Common.{◌≡◌, true, false, Option, None, Some, refl}
use Rattle.std.proofs.lemmas.Bool.{false≢true}
use Rattle.iom_base.specs.declared.device_kind.DeviceKind.{DeviceKind}
use Rattle.iom_base.specs.declared.device_kind.DeviceKind.TheVariants.{Raw, Ats, Block, CachedBlock}
use Rattle.iom_coherence.specs.Attachments.{caches_translations, may_forge}

-- a device with a cache of its own forges nothing
pub honest : (kind : Option DeviceKind) → caches_translations kind ≡ true → may_forge kind ≡ false
honest None has = refl
honest (Some Raw) has = absurd (false≢true has)
honest (Some Ats) has = refl
honest (Some Block) has = refl
honest (Some CachedBlock) has = refl
