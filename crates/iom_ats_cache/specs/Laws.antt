-- What the calls of a device's cache mean one after another.
use Rattle.std.specs.Prelude.{◌≡◌, ◌≢◌, ◌⊎◌, ◌+◌, ◌↔◌, ℕ, true, false, List, [], ◌∷◌, ◌++◌, Contains, Option, Some}
use Rattle.iom_base.specs.declared.access.AccessKind.{AccessKind}
use Rattle.iom_base.specs.declared.rights.Rights.{Rights}
use Rattle.iom_base.specs.Rights.{allows}
use Rattle.iom_fabric.specs.declared.message.Range.{Range}
use Rattle.iom_fabric.specs.declared.message.Translation.{Translation}
use Rattle.iom_fabric.specs.declared.message.Translation.TheVariants.{Page}
use Rattle.iom_fabric.specs.declared.message.Message.{Message}
use Rattle.iom_ats_cache.specs.declared.entry.Entry.{Entry}
use Rattle.iom_ats_cache.specs.declared.taken.Taken.{Taken}
use Rattle.iom_ats_cache.specs.declared.taken.Taken.TheVariants.{Kept, Stale, Refused}
use Rattle.iom_ats_cache.specs.Cache.{Cache, empty_cache, range_covers, frame_for, AreEntries}
use Rattle.iom_ats_cache.specs.Calls.{AsksInEpoch, TakesAnswer, Invalidates, ResetsCache}

-- a call of a device's cache, with what it answers
pub data AtcCall : Type 0 where
  look : ℕ → AccessKind → Option ℕ → AtcCall
  ask : ℕ → Message → AtcCall
  answer : ℕ → ℕ → Translation → Taken → AtcCall
  invalidate : ℕ → Range → Message → AtcCall
  reset : AtcCall

-- what the call does
abbrev pub CallsAtc : Cache → AtcCall → Cache → Type 0
CallsAtc old (look page kind found) new = (found ≡ frame_for old page kind) × (new ≡ old)
CallsAtc old (ask page message) new = AsksInEpoch old page message × (new ≡ old)
CallsAtc old (answer epoch page translation taken) new = TakesAnswer old epoch page translation taken new
CallsAtc old (invalidate serial range message) new = Invalidates old serial range message new
CallsAtc old reset new = ResetsCache old new

-- the calls of a new cache one after the other, the newest first, and the cache after them
abbrev pub RunsAtc : List AtcCall → Cache → Type 0
RunsAtc [] cache = cache ≡ empty_cache
RunsAtc (call ∷ earlier) cache = (between : Cache) × RunsAtc earlier between × CallsAtc between call cache

-- how many invalidations and resets are among the calls
abbrev pub rises_in : List AtcCall → ℕ
rises_in [] = 0
rises_in (look page kind found ∷ earlier) = rises_in earlier
rises_in (ask page message ∷ earlier) = rises_in earlier
rises_in (answer epoch page translation taken ∷ earlier) = rises_in earlier
rises_in (invalidate serial range message ∷ earlier) = rises_in earlier + 1
rises_in (reset ∷ earlier) = rises_in earlier + 1

-- The entry is what an answer for its page told, and that answer was kept: its epoch was the number of invalidations and resets before it. Since then no answer
-- for the page was kept, no invalidation covered it, and there was no reset
abbrev pub WasAnswered : Entry → List AtcCall → Type 0
WasAnswered entry [] = ⊥
WasAnswered entry (look page kind found ∷ earlier) = WasAnswered entry earlier
WasAnswered entry (ask page message ∷ earlier) = WasAnswered entry earlier
WasAnswered entry (answer epoch page translation Kept ∷ earlier) =
    ((page ≡ entry.page) × (epoch ≡ rises_in earlier) × (translation ≡ Page entry.frame entry.rights))
    ⊎ ((page ≢ entry.page) × WasAnswered entry earlier)
WasAnswered entry (answer epoch page translation Stale ∷ earlier) = WasAnswered entry earlier
WasAnswered entry (answer epoch page translation Refused ∷ earlier) = WasAnswered entry earlier
WasAnswered entry (invalidate serial range message ∷ earlier) = (range_covers range entry.page ≡ false) × WasAnswered entry earlier
WasAnswered entry (reset ∷ earlier) = ⊥

-- THE LAW on what is found
abbrev pub FindsOnlyWhatWasAnswered : Type 0
FindsOnlyWhatWasAnswered =
    (calls : List AtcCall) (cache : Cache) → RunsAtc calls cache
    → (page : ℕ) (kind : AccessKind) (frame : ℕ) → frame_for cache page kind ≡ Some frame
    → (entry : Entry) × (entry.page ≡ page) × (entry.frame ≡ frame) × (allows entry.rights kind ≡ true) × WasAnswered entry calls

-- the epoch is how often it rose: nothing clears it
abbrev pub EpochCounts : Type 0
EpochCounts = (calls : List AtcCall) (cache : Cache) → RunsAtc calls cache → cache.epoch ≡ rises_in calls

-- An answer is kept that has the epoch of a question. Then none of the calls since that question, the newest first, was an invalidation or a reset
abbrev pub KeepsOnlyWhatWasAskedSince : Type 0
KeepsOnlyWhatWasAskedSince =
    (since before : List AtcCall) (asked cache new : Cache) → RunsAtc before asked → RunsAtc (since ++ before) cache
    → (page : ℕ) (translation : Translation) → TakesAnswer cache asked.epoch page translation Kept new
    → rises_in since ≡ 0

-- at most 32 entries, and no page has two, whatever calls there were
abbrev pub PagesStayDistinct : Type 0
PagesStayDistinct = (calls : List AtcCall) (cache : Cache) → RunsAtc calls cache → AreEntries cache.entries

-- A frame is found for an access exactly where the page's entry has it, with a right that allows the kind
abbrev pub FindsThePagesEntry : Type 0
FindsThePagesEntry =
    (cache : Cache) → AreEntries cache.entries → (page : ℕ) (kind : AccessKind) (frame : ℕ)
    → (frame_for cache page kind ≡ Some frame)
    ↔ ((rights : Rights) × Contains cache.entries (record { page = page; frame = frame; rights = rights }) × (allows rights kind ≡ true))
