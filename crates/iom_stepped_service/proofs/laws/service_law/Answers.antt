use Rattle.std.proofs.Common.{◌≡◌, ◌∙◌, ℕ, Bool, List, length, Option, refl, sym, ap, subst}
use Rattle.iom_device_dir.specs.Contents.{Content}
use Rattle.iom_device_dir.specs.Located.{located_context}
use Rattle.iom_device_dir.specs.declared.context.Context.{Context}
use Rattle.iom_iommu.specs.Service.{KeepsContext, Serves}
use Rattle.iom_registers.specs.declared.registers.Registers.{Registers}
use Rattle.iom_stepped_requests.specs.Keeping.{Keeping, keeping}
use Rattle.iom_stepped_requests.specs.declared.request.Request.{Request}
use Rattle.iom_tlb.specs.Content.{Translations}
use Rattle.iom_stepped_service.specs.Service.{KeepsContextIfAny, KeepsIfAny, answer_of_run, begun}
use Rattle.iom_stepped_service.proofs.ServiceLemmas.{answers_serve, contexts_kept}
use Rattle.iom_stepped_service.proofs.laws.service_law.Goals as goal

pub returns : goal.returns
returns c = λ sure memory r request contexts new_contexts cached new_cached kept_context kept_translation.
    let kept = c.kept_law.ensures.whole memory r.ddtp (contexts request.device) cached request in
    let answer = answer_of_run memory r contexts cached request in (
      contexts_kept request r.ddtp.mode (contexts request.device) (located_context memory r.ddtp request.device) contexts new_contexts
          (subst (λ (all : Keeping). KeepsContextIfAny contexts all.context new_contexts) kept kept_context),
      answers_serve sure memory r request contexts cached new_cached answer
          ((c.whole_law.ensures.whole memory r.ddtp (contexts request.device) cached request answer).0 refl)
          (subst (λ (all : Keeping). KeepsIfAny sure cached all.translation new_cached) kept kept_translation),
    )
