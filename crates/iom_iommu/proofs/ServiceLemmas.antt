-- A look in the context cache changes nothing of what a keep leaves; and an id that is too wide for the directory is refused.
use Rattle.std.proofs.Common.{◌≡◌, ◌∙◌, ℕ, Bool, false, List, Option, Some, None, Result, Err, refl, sym, ap, subst, if◌then◌else◌}
use Rattle.iom_base.specs.declared.access.AccessKind.{AccessKind}
use Rattle.iom_base.specs.declared.cause.Cause.{Cause}
use Rattle.iom_base.specs.declared.cause.Cause.TheVariants.{TransactionTypeDisallowed}
use Rattle.iom_registers.specs.declared.directory.DirectoryMode.{DirectoryMode}
use Rattle.iom_registers.specs.declared.directory.DirectoryMode.TheVariants as mode
use Rattle.iom_registers.specs.declared.registers.Registers.{Registers}
use Rattle.iom_registers.specs.Queues.{directory_mode}
use Rattle.iom_stage_walk.specs.declared.walked.WalkFault.{WalkFault}
use Rattle.iom_stage_walk.specs.Both.{plain}
use Rattle.iom_device_dir.specs.declared.context.Context.{Context}
use Rattle.iom_device_dir.specs.Contents.{Content, LooksUp}
use Rattle.iom_device_dir.specs.Located.{located_context}
use Rattle.iom_device_dir.specs.Paths.{fits_directory}
use Rattle.iom_device_dir.proofs.Ends.{located-too_wide}
use Rattle.iom_tlb.specs.Content.{Translations}
use Rattle.iom_iommu.specs.Service.{found_context, context_or_cause, ats_context_in, ats_context_for, ServesIn, Serves, ServesBy, KeepsLocated, KeepsIn, KeepsContext}

pub kept_after_look : (old looked new : Content ℕ Context) (id : ℕ) (found : Option Context) (located answer : Result Context Cause) → LooksUp old id found looked → found ≡ None
    → answer ≡ located → KeepsLocated None answer looked id new → KeepsLocated (old id) located old id new
kept_after_look old looked new id found located answer look none is kept =
    let same : looked ≡ old = λ i key. look.1 key i in
    subst (λ (o : Option Context). KeepsLocated o located old id new) (sym none ∙ look.0)
    (subst (λ (content : Content ℕ Context). KeepsLocated None located content id new) same (subst (λ (r : Result Context Cause). KeepsLocated None r looked id new) is kept))

-- what the test of the width says
pub too_wide : (own m : DirectoryMode) (id : ℕ) (fits : Bool) → m ≡ own → fits ≡ fits_directory m id → fits ≡ false → fits_directory own id ≡ false
too_wide own m id fits is tested not_fits = ap (λ (k : DirectoryMode). fits_directory k id) (sym is) ∙ sym tested ∙ not_fits

module _ (memory : List (List ℕ)) (r : Registers) (contexts : Content ℕ Context) (id : ℕ) (wide : fits_directory (directory_mode r) id ≡ false) where
  no_context : context_or_cause memory r contexts id ≡ Err TransactionTypeDisallowed
  no_context = ap (λ b. if b then found_context (contexts id) (located_context memory r.ddtp id) else Err TransactionTypeDisallowed) wide

  -- a request of it faults
  refused_in : (m : DirectoryMode) → fits_directory m id ≡ false → (found : Result Context Cause) → found ≡ Err TransactionTypeDisallowed → (sure : Bool) (address : ℕ) (kind : AccessKind)
      (old : Translations) (fault : WalkFault) → fault ≡ plain TransactionTypeDisallowed → ServesIn sure m found memory address kind old (Err fault) old
  refused_in mode.Off too found none sure address kind old fault reply = absurd (cc)
  refused_in mode.Bare too found none sure address kind old fault reply = absurd (cc)
  refused_in mode.OneLevel too found none sure address kind old fault reply =
      subst (λ f. ServesBy sure f memory address kind old (Err fault) old) (sym none) (ap Err reply, λ key. refl)
  refused_in mode.TwoLevels too found none sure address kind old fault reply =
      subst (λ f. ServesBy sure f memory address kind old (Err fault) old) (sym none) (ap Err reply, λ key. refl)
  refused_in mode.ThreeLevels too found none sure address kind old fault reply =
      subst (λ f. ServesBy sure f memory address kind old (Err fault) old) (sym none) (ap Err reply, λ key. refl)

  pub wide_refused : (sure : Bool) (address : ℕ) (kind : AccessKind) (old : Translations) (fault : WalkFault) → fault ≡ plain TransactionTypeDisallowed
      → Serves sure memory r contexts id address kind old (Err fault) old
  wide_refused sure address kind old fault reply = refused_in (directory_mode r) wide (context_or_cause memory r contexts id) no_context sure address kind old fault reply

  -- and so does a transaction of ATS
  disallowed_in : (m : DirectoryMode) → fits_directory m id ≡ false → (found : Result Context Cause) → found ≡ Err TransactionTypeDisallowed
      → ats_context_in m found ≡ Err TransactionTypeDisallowed
  disallowed_in mode.Off too found none = absurd (cc)
  disallowed_in mode.Bare too found none = absurd (cc)
  disallowed_in mode.OneLevel too found none = rw none refl
  disallowed_in mode.TwoLevels too found none = rw none refl
  disallowed_in mode.ThreeLevels too found none = rw none refl

  pub wide_disallowed : ats_context_for memory r contexts id ≡ Err TransactionTypeDisallowed
  wide_disallowed = disallowed_in (directory_mode r) wide (context_or_cause memory r contexts id) no_context

  -- nothing is kept for it
  none_located : (cached : Option Context) (located : Result Context Cause) → located ≡ Err TransactionTypeDisallowed → KeepsLocated cached located contexts id contexts
  none_located (Some context) located none = λ key. refl
  none_located None located none = subst (λ (found : Result Context Cause). KeepsLocated None found contexts id contexts) (sym none) (λ key. refl)

  keeps_in : (m : DirectoryMode) → fits_directory m id ≡ false → (located : Result Context Cause) → located ≡ Err TransactionTypeDisallowed
      → KeepsIn m (contexts id) located contexts id contexts
  keeps_in mode.Off too located none = absurd (cc)
  keeps_in mode.Bare too located none = absurd (cc)
  keeps_in mode.OneLevel too located none = none_located (contexts id) located none
  keeps_in mode.TwoLevels too located none = none_located (contexts id) located none
  keeps_in mode.ThreeLevels too located none = none_located (contexts id) located none

  pub wide_keeps : KeepsContext memory r contexts id contexts
  wide_keeps = keeps_in (directory_mode r) wide (located_context memory r.ddtp id) (located-too_wide r.ddtp.mode memory r.ddtp.ppn id wide)
