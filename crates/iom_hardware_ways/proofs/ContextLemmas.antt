-- Which context a request finds, and what the context cache keeps of it.
use Rattle.std.proofs.Common.{◌≡◌, ◌∙◌, inl, inr, ℕ, Bool, true, false, Option, None, Some, option_map, Result, Ok, Err, refl, sym, ap, if◌then◌else◌}
use Rattle.std.proofs.lemmas.Bool.Decides.{eqb_tells}
use Rattle.iom_base.specs.declared.cause.Cause.{Cause}
use Rattle.iom_base.specs.declared.cause.Cause.TheVariants.{TransactionTypeDisallowed}
use Rattle.iom_device_dir.specs.declared.context.Context.{Context as DeviceContext}
use Rattle.iom_device_dir.specs.Contents.{Content, IsSameContent, SetsOne}
use Rattle.iom_device_dir.specs.Located.{located_context}
use Rattle.iom_device_dir.specs.Paths.{fits_directory}
use Rattle.iom_board.specs.BoardParts.{BoardParts}
use Rattle.iom_iommu.specs.Parts.{registers_of, contexts_of}
use Rattle.iom_iommu.specs.Service.{found_context, context_or_cause, letting_ats, ats_context_in, ats_context_for, KeepsLocated, KeepsIn, KeepsContext}
use Rattle.iom_registers.specs.declared.directory.DirectoryMode.{DirectoryMode}
use Rattle.iom_registers.specs.declared.directory.DirectoryMode.TheVariants as mode
use Rattle.iom_registers.specs.Queues.{directory_mode, directory_root}
use Rattle.iom_reach.specs.Memory.{Tables}
use Rattle.iom_reach.specs.Transitions.{IsPartOf, IsPartWith}
use Rattle.iom_reach.specs.Scene.{Context, At, HasDevice}
use Rattle.iom_reach.specs.Ways.{MayFind}
use Rattle.iom_hardware_ways.specs.Formats.{context_of}
use Rattle.iom_hardware_ways.specs.Scenes.{directory_by, contexts_in, scene_of}
use Rattle.iom_hardware_ways.proofs.Changes.{ContextsChange}
use Rattle.iom_hardware_ways.proofs.FormatLemmas.{located_in}

-- a context that is shown of what is cached of a device
abbrev shown : Bool → Option DeviceContext → Option Context
shown fits cached = if fits then option_map context_of cached else None

none_shown : (fits : Bool) (cached : Option DeviceContext) (value : Context) → cached ≡ None → shown fits cached ≡ Some value → ⊥
none_shown true None value none is = cc
none_shown true (Some context) value none is = cc
none_shown false cached value none is = cc

one_shown : (fits : Bool) (cached : Option DeviceContext) (context : DeviceContext) (value : Context) → cached ≡ Some context → shown fits cached ≡ Some value → value ≡ context_of context
one_shown true None context value none is = absurd (cc)
one_shown true (Some own) context value same is =
    let e : own ≡ context = cc in
    let f : context_of own ≡ value = cc in
    sym f ∙ ap context_of e
one_shown false cached context value same is = absurd (cc)

-- the same contexts are shown
pub same_shown : (m : DirectoryMode) (old new : Content ℕ DeviceContext) → IsSameContent old new → IsPartOf (contexts_in m new) (contexts_in m old)
same_shown m old new same key value is = ap (shown (fits_directory m key)) (sym (same key)) ∙ is

-- one more is
pub sets_shown : (m : DirectoryMode) (id : ℕ) (context : DeviceContext) (old new : Content ℕ DeviceContext) → SetsOne old id context new
    → IsPartWith (contexts_in m new) id (context_of context) (contexts_in m old)
sets_shown m id context old new (here, lost, others) key value is = elim (eqb_tells key id) [
  | inl e ↦ inl (e.1, one_shown (fits_directory m key) (new key) context value (ap new e.1 ∙ here) is)
  | inr ne ↦ elim (others key ne.1) [
    | inl same ↦ inr (ap (shown (fits_directory m key)) (sym same) ∙ is)
    | inr (gone, none) ↦ absurd (none_shown (fits_directory m key) (new key) value none is)
  ]
]

-- what the context cache keeps is what the directory has
kept_located : (trusted : ℕ → Bool) (parts : BoardParts) (id : ℕ) (new : Content ℕ DeviceContext) (m : DirectoryMode) → m ≡ directory_mode (registers_of parts.iommu)
    → HasDevice (scene_of trusted parts) id → (cached : Option DeviceContext) (located : Result DeviceContext Cause)
    → located ≡ located_context parts.memory (registers_of parts.iommu).ddtp id
    → KeepsLocated cached located (contexts_of parts.iommu) id new
    → ContextsChange (scene_of trusted parts) id (contexts_in (directory_mode (registers_of parts.iommu)) new)
kept_located trusted parts id new m is plugged (Some context) located found same = inl (same_shown (directory_mode (registers_of parts.iommu)) (contexts_of parts.iommu) new same)
kept_located trusted parts id new m is plugged None (Err cause) found same = inl (same_shown (directory_mode (registers_of parts.iommu)) (contexts_of parts.iommu) new same)
kept_located trusted parts id new m is plugged None (Ok context) found (inr (none, same)) = inl (same_shown (directory_mode (registers_of parts.iommu)) (contexts_of parts.iommu) new same)
kept_located trusted parts id new m is plugged None (Ok context) found (inl sets) =
    inr (
      context_of context,
      plugged,
      inl (located_in (directory_mode (registers_of parts.iommu)) parts.memory (directory_root (registers_of parts.iommu)) id context (sym found)),
      sets_shown (directory_mode (registers_of parts.iommu)) id context (contexts_of parts.iommu) new sets,
    )

pub context_kept : (trusted : ℕ → Bool) (parts : BoardParts) (id : ℕ) (new : Content ℕ DeviceContext) → HasDevice (scene_of trusted parts) id
    → KeepsContext parts.memory (registers_of parts.iommu) (contexts_of parts.iommu) id new
    → ContextsChange (scene_of trusted parts) id (contexts_in (directory_mode (registers_of parts.iommu)) new)
context_kept trusted parts id new plugged keeps = by (directory_mode (registers_of parts.iommu)) refl keeps
  where
    by : (m : DirectoryMode) → m ≡ directory_mode (registers_of parts.iommu)
        → KeepsIn m (contexts_of parts.iommu id) (located_context parts.memory (registers_of parts.iommu).ddtp id) (contexts_of parts.iommu) id new
        → ContextsChange (scene_of trusted parts) id (contexts_in (directory_mode (registers_of parts.iommu)) new)
    by mode.Off is same = inl (same_shown (directory_mode (registers_of parts.iommu)) (contexts_of parts.iommu) new same)
    by mode.Bare is same = inl (same_shown (directory_mode (registers_of parts.iommu)) (contexts_of parts.iommu) new same)
    by mode.OneLevel is kept = kept_located trusted parts id new mode.OneLevel is plugged (contexts_of parts.iommu id) (located_context parts.memory (registers_of parts.iommu).ddtp id) refl kept
    by mode.TwoLevels is kept = kept_located trusted parts id new mode.TwoLevels is plugged (contexts_of parts.iommu id) (located_context parts.memory (registers_of parts.iommu).ddtp id) refl kept
    by mode.ThreeLevels is kept = kept_located trusted parts id new mode.ThreeLevels is plugged (contexts_of parts.iommu id) (located_context parts.memory (registers_of parts.iommu).ddtp id) refl kept

-- WHICH CONTEXT IS FOUND

-- there is a directory
abbrev pub HasDirectory : (ℕ → Bool) → BoardParts → Type 0
HasDirectory trusted parts = (tables : Tables) × ((scene_of trusted parts).directory ≡ At tables)

pub may_find : (trusted : ℕ → Bool) (parts : BoardParts) (id : ℕ) (context : DeviceContext) → HasDevice (scene_of trusted parts) id → HasDirectory trusted parts
    → context_or_cause parts.memory (registers_of parts.iommu) (contexts_of parts.iommu) id ≡ Ok context → MayFind (scene_of trusted parts) id (context_of context)
may_find trusted parts id context plugged directory found =
    by (fits_directory (directory_mode (registers_of parts.iommu)) id) refl (contexts_of parts.iommu id) refl found
  where
    by : (fits : Bool) → fits ≡ fits_directory (directory_mode (registers_of parts.iommu)) id → (cached : Option DeviceContext) → cached ≡ contexts_of parts.iommu id
        → (if fits then found_context cached (located_context parts.memory (registers_of parts.iommu).ddtp id) else Err TransactionTypeDisallowed) ≡ Ok context
        → MayFind (scene_of trusted parts) id (context_of context)
    by false fits cached at is = absurd (cc)
    by true fits (Some own) at is = (
      plugged,
      inl (
        directory,
        inl (ap (shown (fits_directory (directory_mode (registers_of parts.iommu)) id)) (sym at) ∙ ap (λ b. shown b (Some own)) (sym fits)
            ∙ ap (λ c. Some (context_of c)) (let same : own ≡ context = cc in same)),
      ),
    )
    by true fits None at is =
        (plugged, inl (directory, inr (located_in (directory_mode (registers_of parts.iommu)) parts.memory (directory_root (registers_of parts.iommu)) id context is)))

-- by a transaction of ATS
lets : (found : Result DeviceContext Cause) (context : DeviceContext) → letting_ats found ≡ Ok context → (found ≡ Ok context) × (context.en_ats ≡ true)
lets (Err cause) context is = absurd (cc)
lets (Ok own) context is = by own.en_ats refl is
  where
    by : (b : Bool) → own.en_ats ≡ b → (if b then Ok own else Err TransactionTypeDisallowed) ≡ Ok context → (◌≡◌ {A = Result DeviceContext Cause} (Ok own) (Ok context)) × (context.en_ats ≡ true)
    by false e reply = absurd (cc)
    by true e reply = let same : own ≡ context = cc in (reply, ap (λ (c : DeviceContext). c.en_ats) (sym same) ∙ e)

pub may_find_ats : (trusted : ℕ → Bool) (parts : BoardParts) (id : ℕ) (context : DeviceContext) → HasDevice (scene_of trusted parts) id
    → ats_context_for parts.memory (registers_of parts.iommu) (contexts_of parts.iommu) id ≡ Ok context
    → MayFind (scene_of trusted parts) id (context_of context) × (context.en_ats ≡ true)
may_find_ats trusted parts id context plugged found = by (directory_mode (registers_of parts.iommu)) refl found
  where
    at : HasDirectory trusted parts → letting_ats (context_or_cause parts.memory (registers_of parts.iommu) (contexts_of parts.iommu) id) ≡ Ok context
        → MayFind (scene_of trusted parts) id (context_of context) × (context.en_ats ≡ true)
    at directory is =
        let (own, set) = lets (context_or_cause parts.memory (registers_of parts.iommu) (contexts_of parts.iommu) id) context is in
        (may_find trusted parts id context plugged directory own, set)

    by : (m : DirectoryMode) → m ≡ directory_mode (registers_of parts.iommu)
        → ats_context_in m (context_or_cause parts.memory (registers_of parts.iommu) (contexts_of parts.iommu) id) ≡ Ok context
        → MayFind (scene_of trusted parts) id (context_of context) × (context.en_ats ≡ true)
    by mode.Off is reply = absurd (cc)
    by mode.Bare is reply = absurd (cc)
    by mode.OneLevel is reply = at (record { root = directory_root (registers_of parts.iommu); levels = 1 }, ap (λ k. directory_by k (directory_root (registers_of parts.iommu))) (sym is)) reply
    by mode.TwoLevels is reply = at (record { root = directory_root (registers_of parts.iommu); levels = 2 }, ap (λ k. directory_by k (directory_root (registers_of parts.iommu))) (sym is)) reply
    by mode.ThreeLevels is reply = at (record { root = directory_root (registers_of parts.iommu); levels = 3 }, ap (λ k. directory_by k (directory_root (registers_of parts.iommu))) (sym is)) reply
