-- What a request of any kind changes beside its own outcome: what is cached, and the fault queue.
use Rattle.std.proofs.Common.{◌≡◌, ◌⊎◌, inl, inr, ℕ, List, Contains, Option, refl, ap}
use Rattle.iom_reach.specs.Memory.{Memory, WalkStep, DiffersAt}
use Rattle.iom_reach.specs.Transitions.{IsPartOf, IsPartWith, WalkGives, Forget, KeepContext, KeepTranslation, RecordFault}
use Rattle.iom_reach.specs.Scene.{Mapping, AddressSpace, SpacePage, Context, HardwareScene, HasDevice}
use Rattle.iom_reach.specs.Ways.{IsStored, IsSought, WalkBegins}
use Rattle.iom_hardware_ways.proofs.Turns.{Comes, nothing, one, in_succession}

-- contexts are forgotten, or the context of the device that the directory has, or that a walk under way finds, is kept
abbrev pub ContextsChange : HardwareScene → ℕ → (ℕ → Option Context) → Type 0
ContextsChange scene device kept =
    IsPartOf kept scene.contexts
    ⊎ ((context : Context) × HasDevice scene device × (IsStored scene device context ⊎ IsSought scene device context) × IsPartWith kept device context scene.contexts)

-- translations are forgotten, or what a walk gives is kept
abbrev pub TranslationsChange : HardwareScene → (SpacePage → Option Mapping) → Type 0
TranslationsChange scene kept =
    IsPartOf kept scene.translations
    ⊎ ((space : AddressSpace) × (table : ℕ) × (steps_to : ℕ → List WalkStep) × (page : ℕ) × (mapping : Mapping)
    × WalkBegins scene space table steps_to × WalkGives scene table steps_to mapping
    × IsPartWith kept (record { space = space; page = page }) mapping scene.translations)

-- memory stays, or a fault is recorded
abbrev pub MemoryChanges : HardwareScene → Memory → Type 0
MemoryChanges scene memory = (memory ≡ scene.memory) ⊎ ((frame : ℕ) × Contains scene.fault_frames frame × DiffersAt frame scene.memory memory)

translations_change : (s : HardwareScene) (kept : SpacePage → Option Mapping) → TranslationsChange s kept → Comes s (record s { translations = kept })
translations_change s kept (inl part) =
    one Forget tt s (record s { translations = kept }) (s.contexts, kept, (λ device context there. there), part, refl)
translations_change s kept (inr (space, table, steps_to, page, mapping, begins, walked, part)) =
    one KeepTranslation tt s (record s { translations = kept }) (space, table, steps_to, page, mapping, kept, begins, walked, part, refl)

contexts_change : (s : HardwareScene) (device : ℕ) (kept : ℕ → Option Context) → ContextsChange s device kept → Comes s (record s { contexts = kept })
contexts_change s device kept (inl part) =
    one Forget tt s (record s { contexts = kept }) (kept, s.translations, part, (λ at mapping there. there), refl)
contexts_change s device kept (inr (context, plugged, stored, part)) =
    one (KeepContext device) tt s (record s { contexts = kept }) (context, kept, plugged, stored, part, refl)

memory_changes : (s : HardwareScene) (memory : Memory) → MemoryChanges s memory → Comes s (record s { memory = memory })
memory_changes s memory (inl same) = nothing s (record s { memory = memory }) (ap (λ (m : Memory). record s { memory = m }) same)
memory_changes s memory (inr (frame, there, differs)) = one RecordFault tt s (record s { memory = memory }) (frame, memory, there, differs, refl)

-- all of it, one after another
pub all_change : (s : HardwareScene) (device : ℕ) (translations : SpacePage → Option Mapping) (contexts : ℕ → Option Context) (memory : Memory)
    → TranslationsChange s translations → ContextsChange s device contexts → MemoryChanges s memory
    → Comes s (record s { translations = translations; contexts = contexts; memory = memory })
all_change s device translations contexts memory first second third =
    let t = record s { translations = translations } in
    let c = record s { translations = translations; contexts = contexts } in
    in_succession s t (record s { translations = translations; contexts = contexts; memory = memory }) (translations_change s translations first)
    (in_succession t c (record s { translations = translations; contexts = contexts; memory = memory }) (contexts_change t device contexts second) (memory_changes c memory third))
