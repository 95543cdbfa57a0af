-- What is reached by the tables of a context that was found, and what a device may keep.
use Rattle.std.proofs.Common.{◌≡◌, ◌⊎◌, inl, inr, ℕ, Bool, List, Option, Some, subst, sym}
use Rattle.iom_base.specs.Sizes.{levels_of}
use Rattle.iom_base.specs.declared.device_kind.DeviceKind.{DeviceKind}
use Rattle.iom_base.specs.declared.device_kind.DeviceKind.TheVariants as kinds
use Rattle.iom_base.specs.declared.ppn.Ppn.{Ppn}
use Rattle.iom_base.specs.declared.size.Size.{Size}
use Rattle.iom_device.specs.Caches.{epoch_of}
use Rattle.iom_device.specs.declared.device.Device.{Device}
use Rattle.iom_device_dir.specs.declared.context.Context.{Context as DeviceContext}
use Rattle.iom_device_dir.specs.declared.stages.FirstStage.{FirstStage as First}
use Rattle.iom_device_dir.specs.declared.stages.FirstStage.TheVariants as first
use Rattle.iom_device_dir.specs.declared.stages.SecondStage.{SecondStage as Second}
use Rattle.iom_device_dir.specs.declared.stages.SecondStage.TheVariants as second
use Rattle.iom_device_dir.specs.declared.values.GuestRoot.{GuestRoot}
use Rattle.iom_fabric.specs.declared.fabric.OnLink.{OnLink}
use Rattle.iom_napot.specs.Entries.{entries_in}
use Rattle.iom_table_survey.specs.Levels.{IsTableIn, IsMappedIn}
use Rattle.iom_table_survey.specs.Reaches.{AddsReach}
use Rattle.iom_table_survey.specs.Rows.{GrowsBy, IsInRun}
use Rattle.iom_table_survey.specs.declared.reach.Reach.{Reach}
use Rattle.iom_table_survey.proofs.AddLemmas.{adds_same, adds_none, reach_same, reach_none, reach_then}
use Rattle.iom_tlb.specs.declared.space.Space.{Space}
use Rattle.iom_way_survey.specs.Found.{space_of_context, HaveTableIn, HaveLeafIn, FoundTableIn, FoundLeafIn, IsInCache, IsAnsweredAmong, LetsKind}

-- the root of a second stage has four frames
pub tables_of_second : (napot : Bool) (memory : List (List ℕ)) (f : First) (s : Second) (size : Size) (root : GuestRoot) (number levels : ℕ) (old new : List ℕ)
    → s ≡ second.Tables size root → number ≡ root.number → levels ≡ levels_of size
    → GrowsBy old new (IsTableIn (entries_in napot memory) (IsInRun number 4) levels) → GrowsBy old new (HaveTableIn napot memory f s)
tables_of_second napot memory f s size root number levels old new is same many adds =
    subst (λ (x : Second). GrowsBy old new (HaveTableIn napot memory f x)) (sym is)
    (by f (subst (λ (n : ℕ). GrowsBy old new (IsTableIn (entries_in napot memory) (IsInRun n 4) (levels_of size))) same
    (subst (λ (l : ℕ). GrowsBy old new (IsTableIn (entries_in napot memory) (IsInRun number 4) l)) many adds)))
  where
    by : (g : First) → GrowsBy old new (IsTableIn (entries_in napot memory) (IsInRun root.number 4) (levels_of size)) → GrowsBy old new (HaveTableIn napot memory g (second.Tables size root))
    by first.Bare it = it
    by (first.Tables size' root') it = it

pub leaves_of_second : (napot : Bool) (memory : List (List ℕ)) (f : First) (s : Second) (size : Size) (root : GuestRoot) (number levels : ℕ) (old new : Reach)
    → s ≡ second.Tables size root → number ≡ root.number → levels ≡ levels_of size
    → AddsReach old new (IsMappedIn (entries_in napot memory) (IsInRun number 4) levels) → AddsReach old new (HaveLeafIn napot memory f s)
leaves_of_second napot memory f s size root number levels old new is same many adds =
    subst (λ (x : Second). AddsReach old new (HaveLeafIn napot memory f x)) (sym is)
    (by f (subst (λ (n : ℕ). AddsReach old new (IsMappedIn (entries_in napot memory) (IsInRun n 4) (levels_of size))) same
    (subst (λ (l : ℕ). AddsReach old new (IsMappedIn (entries_in napot memory) (IsInRun number 4) l)) many adds)))
  where
    by : (g : First) → AddsReach old new (IsMappedIn (entries_in napot memory) (IsInRun root.number 4) (levels_of size)) → AddsReach old new (HaveLeafIn napot memory g (second.Tables size root))
    by first.Bare it = it
    by (first.Tables size' root') it = it

-- that of a first stage has one
pub tables_of_first : (napot : Bool) (memory : List (List ℕ)) (f : First) (s : Second) (size : Size) (root : Ppn) (number levels : ℕ) (old new : List ℕ)
    → s ≡ second.Bare → f ≡ first.Tables size root → number ≡ root.number → levels ≡ levels_of size
    → GrowsBy old new (IsTableIn (entries_in napot memory) (IsInRun number 1) levels) → GrowsBy old new (HaveTableIn napot memory f s)
tables_of_first napot memory f s size root number levels old new bare is same many adds =
    subst (λ (x : Second). GrowsBy old new (HaveTableIn napot memory f x)) (sym bare)
    (subst (λ (g : First). GrowsBy old new (HaveTableIn napot memory g second.Bare)) (sym is)
    (subst (λ (n : ℕ). GrowsBy old new (IsTableIn (entries_in napot memory) (IsInRun n 1) (levels_of size))) same
    (subst (λ (l : ℕ). GrowsBy old new (IsTableIn (entries_in napot memory) (IsInRun number 1) l)) many adds)))

pub leaves_of_first : (napot : Bool) (memory : List (List ℕ)) (f : First) (s : Second) (size : Size) (root : Ppn) (number levels : ℕ) (old new : Reach)
    → s ≡ second.Bare → f ≡ first.Tables size root → number ≡ root.number → levels ≡ levels_of size
    → AddsReach old new (IsMappedIn (entries_in napot memory) (IsInRun number 1) levels) → AddsReach old new (HaveLeafIn napot memory f s)
leaves_of_first napot memory f s size root number levels old new bare is same many adds =
    subst (λ (x : Second). AddsReach old new (HaveLeafIn napot memory f x)) (sym bare)
    (subst (λ (g : First). AddsReach old new (HaveLeafIn napot memory g second.Bare)) (sym is)
    (subst (λ (n : ℕ). AddsReach old new (IsMappedIn (entries_in napot memory) (IsInRun n 1) (levels_of size))) same
    (subst (λ (l : ℕ). AddsReach old new (IsMappedIn (entries_in napot memory) (IsInRun number 1) l)) many adds)))

-- a context that has the address space, and one that has another
module _ (napot : Bool) (memory : List (List ℕ)) (own : Space) (found : Option DeviceContext) (context : DeviceContext) (is : found ≡ Some context) where
  pub found_tables : (old new : List ℕ) → space_of_context context ≡ Some own → GrowsBy old new (HaveTableIn napot memory context.first_stage context.second_stage) → GrowsBy old new (FoundTableIn napot memory own found)
  found_tables old new same adds = subst (λ (o : Option DeviceContext). GrowsBy old new (FoundTableIn napot memory own o)) (sym is)
      (adds_same old new (HaveTableIn napot memory context.first_stage context.second_stage) (FoundTableIn napot memory own (Some context)) adds (λ f (so, table). table) (λ f table. (same, table)))

  pub found_leaves : (old new : Reach) → space_of_context context ≡ Some own → AddsReach old new (HaveLeafIn napot memory context.first_stage context.second_stage) → AddsReach old new (FoundLeafIn napot memory own found)
  found_leaves old new same adds = subst (λ (o : Option DeviceContext). AddsReach old new (FoundLeafIn napot memory own o)) (sym is)
      (reach_same old new (HaveLeafIn napot memory context.first_stage context.second_stage) (FoundLeafIn napot memory own (Some context)) adds (λ kind f (so, leaf). leaf) (λ kind f leaf. (same, leaf)))

  pub other_tables : (row : List ℕ) → ¬ (space_of_context context ≡ Some own) → GrowsBy row row (FoundTableIn napot memory own found)
  other_tables row differs = subst (λ (o : Option DeviceContext). GrowsBy row row (FoundTableIn napot memory own o)) (sym is)
      (adds_none row (FoundTableIn napot memory own (Some context)) (λ f (so, table). differs so))

  pub other_leaves : (reach : Reach) → ¬ (space_of_context context ≡ Some own) → AddsReach reach reach (FoundLeafIn napot memory own found)
  other_leaves reach differs = subst (λ (o : Option DeviceContext). AddsReach reach reach (FoundLeafIn napot memory own o)) (sym is)
      (reach_none reach (FoundLeafIn napot memory own (Some context)) (λ kind f (so, leaf). differs so))

-- what a device with a cache may keep: what it has, and what is answered
pub lets_cached : (fabric : List OnLink) (device : Device) (kind : DeviceKind) (epoch : ℕ) (old between new : Reach) → (kind ≡ kinds.Ats) ⊎ (kind ≡ kinds.CachedBlock) → epoch ≡ epoch_of device.cache
    → AddsReach old between (IsInCache device.cache) → AddsReach between new (IsAnsweredAmong device.id epoch fabric) → AddsReach old new (LetsKind kind fabric device)
lets_cached fabric device kind epoch old between new which same cached answered = by which
  where
    both : AddsReach old new (λ own f. IsInCache device.cache own f ⊎ IsAnsweredAmong device.id (epoch_of device.cache) fabric own f)
    both = reach_then old between new (IsInCache device.cache) (IsAnsweredAmong device.id (epoch_of device.cache) fabric) cached
        (subst (λ (e : ℕ). AddsReach between new (IsAnsweredAmong device.id e fabric)) same answered)

    by : (kind ≡ kinds.Ats) ⊎ (kind ≡ kinds.CachedBlock) → AddsReach old new (LetsKind kind fabric device)
    by (inl is) = subst (λ (k : DeviceKind). AddsReach old new (LetsKind k fabric device)) (sym is) both
    by (inr is) = subst (λ (k : DeviceKind). AddsReach old new (LetsKind k fabric device)) (sym is) both
