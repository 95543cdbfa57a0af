-- A look in the cache and a walk of a context's stages, put together
use Rattle.std.proofs.Common.{◌≡◌, ◌/◌, ◌<◌, ℕ, Bool, List, length, Option, Some, None, Result, Ok, Err, IfOk, IfErr, refl, sym, ◌∙◌, subst}
use Rattle.std.specs.Prelude.{◌↔◌}
use Rattle.iom_base.specs.declared.access.AccessKind.{AccessKind}
use Rattle.iom_base.specs.declared.ppn.Ppn.{Ppn}
use Rattle.iom_base.specs.declared.size.Size.{Size}
use Rattle.iom_base.specs.Sizes.{levels_of}
use Rattle.iom_stage_walk.specs.declared.walked.Walked.{Walked}
use Rattle.iom_stage_walk.specs.declared.walked.WalkFault.{WalkFault}
use Rattle.iom_stage_walk.specs.Paths.{ReachesFirst, StopsFirst}
use Rattle.iom_stage_walk.specs.Second.{ReachesSecond, StopsSecond}
use Rattle.iom_stage_walk.specs.Both.{ReachesBoth, StopsBoth}
use Rattle.iom_device_dir.specs.declared.context.Context.{Context}
use Rattle.iom_device_dir.specs.declared.stages.FirstStage.{FirstStage}
use Rattle.iom_device_dir.specs.declared.stages.FirstStage.TheVariants.{Bare, Tables}
use Rattle.iom_device_dir.specs.declared.stages.SecondStage.{SecondStage}
use Rattle.iom_device_dir.specs.declared.stages.SecondStage.TheVariants as second
use Rattle.iom_device_dir.specs.declared.values.GuestRoot.{GuestRoot}
use Rattle.iom_tlb.specs.declared.space.Space.{Space}
use Rattle.iom_tlb.specs.declared.trans_cache.Translation.{Translation}
use Rattle.iom_tlb.specs.declared.space.Space.TheVariants as space
use Rattle.iom_tlb.specs.Content.{Key, Translations, TranslationsUnchanged}
use Rattle.iom_iommu.specs.Service.{own_page, cached_for, Walks, LooksOrWalks, Translates}
use Rattle.iom_iommu.specs.Stages.{space_through, ReachesThrough, StopsThrough}

-- what a walk reaches lies in memory
pub reached_inside : (first_stage : FirstStage) (second_stage : SecondStage) (memory : List (List ℕ)) (address : ℕ) (kind : AccessKind) (walked : Walked)
    → ReachesThrough first_stage second_stage memory address kind walked → walked.frame < length memory
reached_inside Bare second.Bare memory address kind walked reached = absurd reached
reached_inside (Tables size root) second.Bare memory address kind walked reached = reached.inside
reached_inside Bare (second.Tables size root) memory address kind walked reached = reached.leads.inside
reached_inside (Tables first_size first) (second.Tables second_size second) memory address kind walked reached = reached.leads.inside

-- an answer of which each is exactly so is so
ok_of : {A E : Type 0} (P : A → Type 0) (result : Result A E) → ((a : A) → (result ≡ Ok a) ↔ P a) → IfOk result P
ok_of P (Ok a) exactly = (exactly a).0 refl
ok_of P (Err e) exactly = tt

err_of : {A E : Type 0} (P : E → Type 0) (result : Result A E) → ((e : E) → (result ≡ Err e) ↔ P e) → IfErr result P
err_of P (Ok a) exactly = tt
err_of P (Err e) exactly = (exactly e).0 refl

-- THE WALK of a context's stages ends where that of the stages that aren't Bare does
module _ (memory : List (List ℕ)) (address : ℕ) (kind : AccessKind) (first_stage : FirstStage) (second_stage : SecondStage) (result : Result Walked WalkFault) where
  abbrev EndsThrough : Type 0
  EndsThrough =
      IfOk result (ReachesThrough first_stage second_stage memory address kind)
      × IfErr result (StopsThrough first_stage second_stage memory address kind)

  pub walks_first : (size : Size) (root : Ppn) (number : ℕ) → first_stage ≡ Tables size root → second_stage ≡ second.Bare → number ≡ root.number
      → ((walked : Walked) → (result ≡ Ok walked) ↔ ReachesFirst (levels_of size) memory number address kind walked)
      → ((fault : WalkFault) → (result ≡ Err fault) ↔ StopsFirst (levels_of size) memory number address kind fault) → EndsThrough
  walks_first size root number one two rooted reached stopped =
      rw (one, two) (subst (λ n. IfOk result (ReachesFirst (levels_of size) memory n address kind) × IfErr result (StopsFirst (levels_of size) memory n address kind)) rooted
      (ok_of (ReachesFirst (levels_of size) memory number address kind) result reached, err_of (StopsFirst (levels_of size) memory number address kind) result stopped))

  pub walks_second : (size : Size) (root : GuestRoot) (number : ℕ) → first_stage ≡ Bare → second_stage ≡ second.Tables size root → number ≡ root.number
      → ((walked : Walked) → (result ≡ Ok walked) ↔ ReachesSecond (levels_of size) memory number address kind walked)
      → ((fault : WalkFault) → (result ≡ Err fault) ↔ StopsSecond (levels_of size) memory number address kind fault) → EndsThrough
  walks_second size root number one two rooted reached stopped =
      rw (one, two) (subst (λ n. IfOk result (ReachesSecond (levels_of size) memory n address kind) × IfErr result (StopsSecond (levels_of size) memory n address kind)) rooted
      (ok_of (ReachesSecond (levels_of size) memory number address kind) result reached, err_of (StopsSecond (levels_of size) memory number address kind) result stopped))

  pub walks_both : (first_size second_size : Size) (first : Ppn) (root : GuestRoot) (number : ℕ) → first_stage ≡ Tables first_size first → second_stage ≡ second.Tables second_size root → number ≡ root.number
      → ((walked : Walked) → (result ≡ Ok walked) ↔ ReachesBoth (levels_of first_size) (levels_of second_size) memory first.number number address kind walked)
      → ((fault : WalkFault) → (result ≡ Err fault) ↔ StopsBoth (levels_of first_size) (levels_of second_size) memory first.number number address kind fault) → EndsThrough
  walks_both first_size second_size first root number one two rooted reached stopped =
      rw (one, two) (subst (λ n. IfOk result (ReachesBoth (levels_of first_size) (levels_of second_size) memory first.number n address kind) × IfErr result (StopsBoth (levels_of first_size) (levels_of second_size) memory first.number n address kind)) rooted
      (ok_of (ReachesBoth (levels_of first_size) (levels_of second_size) memory first.number number address kind) result reached, err_of (StopsBoth (levels_of first_size) (levels_of second_size) memory first.number number address kind) result stopped))

module _ (sure : Bool) (Reaches : Walked → Type 0) (Stops : WalkFault → Type 0) (kind : AccessKind) (key : Key) (old : Translations) (found : Option Translation) (is : found ≡ cached_for (old key) kind) where
  -- by the translation that was found
  pub looked : (cached : Translation) (new : Translations) → found ≡ Some cached → TranslationsUnchanged old new → LooksOrWalks sure (cached_for (old key) kind) Reaches Stops key old (Ok cached) new
  looked cached new some unchanged =
      subst (λ (o : Option Translation). LooksOrWalks sure o Reaches Stops key old (Ok cached) new) (sym some ∙ is) (refl, unchanged)

  -- by a walk, where none was: the look before it changes nothing of what a keep leaves
  pub walked : (between new : Translations) (answer : Result Translation WalkFault) → found ≡ None → TranslationsUnchanged old between → Walks sure Reaches Stops key between answer new
      → LooksOrWalks sure (cached_for (old key) kind) Reaches Stops key old answer new
  walked between new answer none unchanged walks =
      let same_content : between ≡ old = λ i k. unchanged k i in
      subst (λ (o : Option Translation). LooksOrWalks sure o Reaches Stops key old answer new) (sym none ∙ is)
      (subst (λ (content : Translations). Walks sure Reaches Stops key content answer new) same_content walks)

-- BY THE STAGES of a context: in the address space that they translate, or where both are Bare in none
module _ (sure : Bool) (context : Context) (memory : List (List ℕ)) (address : ℕ) (kind : AccessKind) (old : Translations) (answer : Result Translation WalkFault) (new : Translations) where
  pub through : (first_stage : FirstStage) (second_stage : SecondStage) (at : Space) → space_through first_stage second_stage context ≡ Some at
      → LooksOrWalks sure (cached_for (old (at, address / 4096)) kind) (ReachesThrough first_stage second_stage memory address kind)
      (StopsThrough first_stage second_stage memory address kind) (at, address / 4096) old answer new
      → Translates sure first_stage second_stage context memory address kind old answer new
  through first_stage second_stage at is looks = rw is looks

  pub through_none : (first_stage : FirstStage) (second_stage : SecondStage) → space_through first_stage second_stage context ≡ None
      → answer ≡ own_page memory address kind → TranslationsUnchanged old new → Translates sure first_stage second_stage context memory address kind old answer new
  through_none first_stage second_stage none is unchanged = rw none (is, unchanged)
