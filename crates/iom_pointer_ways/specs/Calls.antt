-- The calls of hardware that caches pointers to tables, and one after another.
use Rattle.std.specs.Prelude.{◌≡◌, ◌⊎◌, ℕ, ◌+◌, Bool, List, [], ◌∷◌, Contains, slice_get, ⊤}
use Rattle.iom_board.specs.BoardParts.{BoardParts}
use Rattle.iom_board.specs.Invariant.{BoardInvariant}
use Rattle.iom_hardware_ways.specs.Calls.{HardwareCall, CallEffect}
use Rattle.iom_hardware_ways.specs.Formats.{format_of}
use Rattle.iom_hardware_ways.specs.Scenes.{mapping_of}
use Rattle.iom_iommu.specs.Parts.{iommu_parts, translations_of}
use Rattle.iom_iommu.specs.declared.iommu.Iommu.{Iommu}
use Rattle.iom_pointers.specs.declared.pointer.Pointer.{Pointer}
use Rattle.iom_reach.specs.Memory.{Ends, WalkStep}
use Rattle.iom_reach.specs.Transitions.{IsContinued}
use Rattle.iom_reach.specs.Ways.{WalkBegins}
use Rattle.iom_stepped_ways.specs.Calls.{WritesUntrusted}
use Rattle.iom_stepped_ways.specs.Scenes.{address_space}
use Rattle.iom_tlb.specs.Content.{Keeps}
use Rattle.iom_tlb.specs.declared.space.Space.{Space}
use Rattle.iom_tlb.specs.declared.trans_cache.TransCache.{Ghosts as Cache}
use Rattle.iom_tlb.specs.declared.trans_cache.Translation.{Translation}
use Rattle.iom_pointer_ways.specs.Scenes.{walk_from, pointed_scene}

pub data PointedCall : Type 0 where
  -- a call of the board, which leaves the pointers
  Plain : (call : HardwareCall) → PointedCall
  -- the translation of a page is cached, to which a walk leads that may begin in the space: at a root, or at a pointer
  Fill : (space : Space) (page : ℕ) (translation : Translation) → PointedCall
  -- pointers are cached by which a walk passes, and forgotten
  Point : PointedCall

-- a walk that may begin in the space ends, for the page, at a leaf that gives the translation
abbrev pub IsLedTo : Bool → (ℕ → Bool) → BoardParts → List Pointer → Space → ℕ → Translation → Type 0
IsLedTo napot trusted parts pointers space page translation =
    (table : ℕ) × (steps_to : ℕ → List WalkStep) × WalkBegins (pointed_scene napot trusted parts pointers) (address_space space) table steps_to
    × Ends (format_of napot) (slice_get parts.memory) table (steps_to page) (mapping_of translation)

-- the IOMMU caches the translation, and nothing else of it changes
abbrev pub KeepsTranslation : {C : Type 0} {c : Cache C} → Iommu C c → Space → ℕ → Translation → Iommu C c → Type 0
KeepsTranslation {c = c} old space page translation new =
    Keeps c.SURE (translations_of old) (space, page) translation (translations_of new)
    × (iommu_parts new ≡ record (iommu_parts old) { translations = new.translations })

pub record Fills (napot : Bool) (trusted : ℕ → Bool) (old : BoardParts) (pointers : List Pointer) (space : Space) (page : ℕ) (translation : Translation) (new : BoardParts) : Type 0 where
  pub led : IsLedTo napot trusted old pointers space page translation
  pub kept : KeepsTranslation old.iommu space page translation new.iommu
  pub rest : new ≡ record old { iommu = new.iommu }

-- each pointer was cached before, or a walk that may begin in its space passes by it
abbrev pub ArePassed : Bool → (ℕ → Bool) → BoardParts → List Pointer → List Pointer → Type 0
ArePassed napot trusted parts pointers new_pointers =
    (pointer : Pointer) → Contains new_pointers pointer → Contains pointers pointer ⊎ IsContinued (pointed_scene napot trusted parts pointers) (walk_from pointer)

abbrev pub PointedEffect : Bool → (ℕ → Bool) → PointedCall → BoardParts → List Pointer → BoardParts → List Pointer → Type 0
PointedEffect napot trusted (Plain call) old pointers new new_pointers = CallEffect call old new × (new_pointers ≡ pointers)
PointedEffect napot trusted (Fill space page translation) old pointers new new_pointers = Fills napot trusted old pointers space page translation new × (new_pointers ≡ pointers)
PointedEffect napot trusted Point old pointers new new_pointers = (new ≡ old) × ArePassed napot trusted old pointers new_pointers

-- no write of a device that software trusts is made: that counts as a store of software
abbrev pub IsByHardware : (ℕ → Bool) → PointedCall → Type 0
IsByHardware trusted (Plain call) = WritesUntrusted trusted call
IsByHardware trusted (Fill space page translation) = ⊤
IsByHardware trusted Point = ⊤

-- These calls one after another, after so many events. Hardware keeps its invariant before each, as each call asks for it and leaves it
abbrev pub DoPointedInTurn : Bool → (ℕ → Bool) → ℕ → BoardParts → List Pointer → List PointedCall → BoardParts → List Pointer → Type 0
DoPointedInTurn napot trusted events old pointers [] new new_pointers = (new ≡ old) × (new_pointers ≡ pointers)
DoPointedInTurn napot trusted events old pointers (first ∷ others) new new_pointers =
    BoardInvariant old events × IsByHardware trusted first
    × ((between : BoardParts) × (between_pointers : List Pointer) × PointedEffect napot trusted first old pointers between between_pointers
    × DoPointedInTurn napot trusted (events + 1) between between_pointers others new new_pointers)
