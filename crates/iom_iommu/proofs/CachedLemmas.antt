-- The frames of all cached translations stay among those of memory, over each call of the cache and over a request or a question that is served
use Rattle.std.proofs.Common.{◌≡◌, ◌<◌, inl, inr, ℕ, Bool, List, Option, Some, Result, Ok, Err, IfOk, None, sym, subst}
use Rattle.iom_base.specs.declared.access.AccessKind.{AccessKind}
use Rattle.iom_base.specs.declared.cause.Cause.{Cause}
use Rattle.iom_registers.specs.declared.directory.DirectoryMode.{DirectoryMode}
use Rattle.iom_registers.specs.declared.directory.DirectoryMode.TheVariants as mode
use Rattle.iom_registers.specs.declared.registers.Registers.{Registers}
use Rattle.iom_registers.specs.Queues.{directory_mode}
use Rattle.iom_device_dir.specs.declared.context.Context.{Context}
use Rattle.iom_device_dir.specs.declared.stages.FirstStage.{FirstStage}
use Rattle.iom_device_dir.specs.declared.stages.FirstStage.TheVariants.{Bare, Tables}
use Rattle.iom_device_dir.specs.declared.stages.SecondStage.{SecondStage}
use Rattle.iom_device_dir.specs.declared.stages.SecondStage.TheVariants as second
use Rattle.iom_base.specs.Sizes.{levels_of}
use Rattle.iom_stage_walk.specs.declared.walked.Walked.{Walked}
use Rattle.iom_stage_walk.specs.declared.walked.WalkFault.{WalkFault}
use Rattle.iom_stage_walk.specs.Paths.{ReachesFirst, StopsFirst}
use Rattle.iom_stage_walk.specs.Second.{ReachesSecond, StopsSecond}
use Rattle.iom_stage_walk.specs.Both.{ReachesBoth, StopsBoth}
use Rattle.iom_device_dir.specs.Contents.{Content}
use Rattle.iom_tlb.specs.declared.trans_cache.Translation.{Translation}
use Rattle.iom_tlb.specs.Content.{Key, Translations, HasNothing, TranslationsUnchanged, Keeps, DropsWhere}
use Rattle.iom_tlb.proofs.ContentLemmas.{found_before_look, found_by_keep, found_before_drop}
use Rattle.iom_iommu.specs.Cached.{AreTranslationsIn}
use Rattle.iom_iommu.specs.Service.{Walks, LooksOrWalks, Translates, ServesBy, ServesIn, Serves, cached_for, translation_of, first_key, second_key, both_key, context_or_cause}

pub none_outside : (frames : ℕ) (content : Translations) → HasNothing content → AreTranslationsIn frames content
none_outside frames content empty key t found = absurd (let e : content key ≡ None = empty key in cc)

module _ (frames : ℕ) (old new : Translations) (inside : AreTranslationsIn frames old) where
  pub look_inside : TranslationsUnchanged old new → AreTranslationsIn frames new
  look_inside unchanged key t found = inside key t (found_before_look old new key t found unchanged)

  pub keep_inside : (sure : Bool) (at : Key) (kept : Translation) → kept.frame < frames → Keeps sure old at kept new → AreTranslationsIn frames new
  keep_inside sure at kept lt keeps key t found = elim (found_by_keep old new key t found sure at kept keeps) [
    | inl now ↦ subst (λ (x : Translation). x.frame < frames) (sym now.1) lt
    | inr was ↦ inside key t was.1
  ]

  pub drop_inside : (is_out : Key → Translation → Bool) → DropsWhere is_out old new → AreTranslationsIn frames new
  drop_inside is_out drops key t found = inside key t (found_before_drop old new key t found is_out drops).1

  module _ (sure : Bool) (Reaches : Walked → Type 0) (Stops : WalkFault → Type 0) (key : Key) where
    walk_inside : (answer : Result Translation WalkFault) → IfOk answer (λ translation. translation.frame < frames) → Walks sure Reaches Stops key old answer new → AreTranslationsIn frames new
    walk_inside (Ok translation) lt w = keep_inside sure key (translation_of w.0) (subst (λ (t : Translation). t.frame < frames) w.2 lt) w.3
    walk_inside (Err fault) lt w = look_inside w.1

    by_cached : (cached : Option Translation) (answer : Result Translation WalkFault) → IfOk answer (λ translation. translation.frame < frames)
        → LooksOrWalks sure cached Reaches Stops key old answer new → AreTranslationsIn frames new
    by_cached None answer lt w = walk_inside answer lt w
    by_cached (Some translation) answer lt w = look_inside w.1

  module _ (sure : Bool) (memory : List (List ℕ)) (address : ℕ) (kind : AccessKind) where
    by_stages : (first_stage : FirstStage) (second_stage : SecondStage) (context : Context) (answer : Result Translation WalkFault) → IfOk answer (λ translation. translation.frame < frames)
        → Translates sure first_stage second_stage context memory address kind old answer new → AreTranslationsIn frames new
    by_stages Bare second.Bare context answer lt t = look_inside t.1
    by_stages (Tables size root) second.Bare context answer lt t =
        by_cached sure (ReachesFirst (levels_of size) memory root.number address kind) (StopsFirst (levels_of size) memory root.number address kind) (first_key context address)
        (cached_for (old (first_key context address)) kind) answer lt t
    by_stages Bare (second.Tables size root) context answer lt t =
        by_cached sure (ReachesSecond (levels_of size) memory root.number address kind) (StopsSecond (levels_of size) memory root.number address kind) (second_key context address)
        (cached_for (old (second_key context address)) kind) answer lt t
    by_stages (Tables first_size first) (second.Tables second_size second) context answer lt t =
        by_cached sure (ReachesBoth (levels_of first_size) (levels_of second_size) memory first.number second.number address kind)
        (StopsBoth (levels_of first_size) (levels_of second_size) memory first.number second.number address kind) (both_key context address)
        (cached_for (old (both_key context address)) kind) answer lt t

    -- a question that is served keeps it too
    pub served_by_inside : (found : Result Context Cause) (answer : Result Translation WalkFault) → IfOk answer (λ translation. translation.frame < frames)
        → ServesBy sure found memory address kind old answer new → AreTranslationsIn frames new
    served_by_inside (Ok context) answer lt s = by_stages context.first_stage context.second_stage context answer lt s
    served_by_inside (Err cause) answer lt s = look_inside s.1

    by_mode : (m : DirectoryMode) (found : Result Context Cause) (answer : Result Translation WalkFault) → IfOk answer (λ translation. translation.frame < frames)
        → ServesIn sure m found memory address kind old answer new → AreTranslationsIn frames new
    by_mode mode.Off found answer lt s = look_inside s.1
    by_mode mode.Bare found answer lt s = look_inside s.1
    by_mode mode.OneLevel found answer lt s = served_by_inside found answer lt s
    by_mode mode.TwoLevels found answer lt s = served_by_inside found answer lt s
    by_mode mode.ThreeLevels found answer lt s = served_by_inside found answer lt s

-- A REQUEST that is served keeps it, where its own frame is one of memory
pub serve_inside : (frames : ℕ) (sure : Bool) (memory : List (List ℕ)) (r : Registers) (contexts : Content ℕ Context) (id address : ℕ) (kind : AccessKind) (old : Translations)
    (answer : Result Translation WalkFault) (new : Translations) → AreTranslationsIn frames old → IfOk answer (λ translation. translation.frame < frames) → Serves sure memory r contexts id address kind old answer new
    → AreTranslationsIn frames new
serve_inside frames sure memory r contexts id address kind old answer new inside lt s =
    by_mode frames old new inside sure memory address kind (directory_mode r) (context_or_cause memory r contexts id) answer lt s
