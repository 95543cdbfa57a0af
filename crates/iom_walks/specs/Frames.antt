-- That the frames which requests name lie in memory.
use Rattle.std.specs.Prelude.{◌≡◌, ℕ, ◌<◌, Some}
use Rattle.iom_stepped_requests.specs.declared.request.Answer.{Answer}
use Rattle.iom_stepped_requests.specs.declared.request.Answer.TheVariants.{AsItIs, Cached, Reaches, Faults}
use Rattle.iom_stepped_requests.specs.declared.request.Kept.{Kept}
use Rattle.iom_stepped_requests.specs.declared.request.Kept.TheVariants as kept_as
use Rattle.iom_tlb.specs.Content.{Key, Translations}
use Rattle.iom_tlb.specs.declared.trans_cache.Translation.{Translation}

-- those of cached translations are among so many
abbrev pub AreCachedIn : ℕ → Translations → Type 0
AreCachedIn frames cached = (key : Key) (translation : Translation) → cached key ≡ Some translation → translation.frame < frames

-- that of what is to be kept
abbrev pub IsKeptIn : ℕ → Kept → Type 0
IsKeptIn frames kept_as.Nothing = Unit {0}
IsKeptIn frames (kept_as.Context device context) = Unit {0}
IsKeptIn frames (kept_as.Translation space page translation) = translation.frame < frames

-- that of an answer; one that is answered as it is names an address, and no frame
abbrev pub IsAnswerIn : ℕ → Answer → Type 0
IsAnswerIn frames AsItIs = Unit {0}
IsAnswerIn frames (Cached translation) = translation.frame < frames
IsAnswerIn frames (Reaches walked) = walked.frame < frames
IsAnswerIn frames (Faults fault) = Unit {0}
