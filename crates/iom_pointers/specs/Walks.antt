-- Where a walk leads that has a table in hand, by the formats of page tables.
use Rattle.std.specs.Prelude.{◌≡◌, ◌⊎◌, ℕ, ◌+◌, ◌%◌, ◌^◌, ◌<◌, ◌≤◌, Bool, true, false, List, length, map, slice_get}
use Rattle.iom_base.specs.Rights.{allows}
use Rattle.iom_base.specs.Tables.{table_entries}
use Rattle.iom_base.specs.declared.access.AccessKind.{AccessKind}
use Rattle.iom_base.specs.declared.rights.Rights.{Rights}
use Rattle.iom_hardware_ways.specs.Formats.{step_at, format_of}
use Rattle.iom_hardware_ways.specs.Scenes.{mapping_of}
use Rattle.iom_napot.specs.Entries.{leaf_order}
use Rattle.iom_reach.specs.Memory.{WalkStep, Ends}
use Rattle.iom_reach.specs.Scene.{Mapping}
use Rattle.iom_stepped_walk.specs.Indices.{indices_from}
use Rattle.iom_stepped_walk.specs.declared.hand.TableInHand.{TableInHand}
use Rattle.iom_tlb.specs.declared.trans_cache.Translation.{Translation}

-- the indices that are left there, and the steps
abbrev pub indices_in : TableInHand → List ℕ
indices_in hand = indices_from hand.is_wide hand.level hand.page

abbrev pub steps_in : TableInHand → List WalkStep
steps_in hand = map step_at (indices_in hand)

-- the walk from there on ends at a leaf that maps its page so, where walks know leaves of 64 KiB, or don't
abbrev pub EndsAt : Bool → List (List ℕ) → TableInHand → Mapping → Type 0
EndsAt napot memory hand mapping = Ends (format_of napot) (slice_get memory) hand.table.number (steps_in hand) mapping

-- IT LEADS to this translation, for an access of this kind: to a frame of memory
pub record LeadsTo (napot : Bool) (memory : List (List ℕ)) (hand : TableInHand) (kind : AccessKind) (translation : Translation) : Type 0 where
  pub ends : EndsAt napot memory hand (mapping_of translation)
  pub allowed : allows translation.rights kind ≡ true
  pub inside : translation.frame < length memory
  pub order : translation.order ≡ leaf_order napot memory hand.table.number (indices_in hand)

-- to none: it ends at no leaf, at one that lacks the kind of access, or outside memory
abbrev pub LeadsNowhere : Bool → List (List ℕ) → TableInHand → AccessKind → Type 0
LeadsNowhere napot memory hand kind =
    (mapping : Mapping) → EndsAt napot memory hand mapping → (allows mapping.rights kind ≡ false) ⊎ (length memory ≤ mapping.frame)

-- a leaf of this order in the table gives its page this translation, in a memory of so many frames
pub record IsLeafFor (hand : TableInHand) (base : ℕ) (rights : Rights) (order : ℕ) (kind : AccessKind) (frames : ℕ) (translation : Translation) : Type 0 where
  pub aligned : base % table_entries ^ hand.level ≡ 0
  pub allowed : allows rights kind ≡ true
  pub inside : translation.frame < frames
  pub frame_is : translation.frame ≡ base + hand.page % table_entries ^ hand.level
  pub rights_are : translation.rights ≡ rights
  pub order_is : translation.order ≡ order
