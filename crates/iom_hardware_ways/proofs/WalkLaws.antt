-- The walks of hardware are walks by its formats.
use Rattle.std.proofs.Common.{◌≡◌, ◌/◌, true}
use Rattle.iom_base.proofs.RightsLemmas.{allows-Read}
use Rattle.iom_base.specs.Rights.{allows}
use Rattle.iom_base.specs.declared.access.AccessKind.{AccessKind}
use Rattle.iom_base.specs.declared.access.AccessKind.TheVariants.{Read, Write}
use Rattle.iom_base.specs.declared.rights.Rights.{Rights}
use Rattle.iom_device_dir.proofs.Ends.{finds_by}
use Rattle.iom_stage_walk.specs.Entries.{entries}
use Rattle.iom_stage_walk.specs.Paths.{first_path}
use Rattle.iom_stage_walk.specs.Second.{second_path}
use Rattle.iom_stage_walk.proofs.ServesBoth.{final_frame_led}
use Rattle.iom_hardware_ways.specs.Laws.{FirstStagesLead, SecondStagesLead, BothStagesLead, DirectoriesLead}
use Rattle.iom_hardware_ways.proofs.FormatLemmas.{reaches_ends, reaches_allowed, located_in}

pub first_stages_lead : FirstStagesLead
first_stages_lead levels memory root address kind walked reaches =
    (address / 4096, reaches_ends memory kind root (first_path levels address) walked.frame walked.rights reaches.path)

pub second_stages_lead : SecondStagesLead
second_stages_lead levels memory root address kind walked reaches =
    (address / 4096, reaches_ends memory kind root (second_path levels address) walked.frame walked.rights reaches.leads.path)

pub both_stages_lead : BothStagesLead
both_stages_lead levels levels' memory guest root address kind walked reaches =
    let (physical, given, leads, writes) = final_frame_led levels levels' memory guest root address kind walked reaches in (
      given,
      (physical / 4096, reaches_ends memory kind root (second_path levels' physical) walked.frame given leads.path),
      (λ k allowed. by given writes (reaches_allowed (entries memory) kind root (second_path levels' physical) walked.frame given leads.path) k allowed),
    )
  where
    by : (given : Rights) → (allows walked.rights Write ≡ true → allows given Write ≡ true) → allows given kind ≡ true
        → (k : AccessKind) → allows walked.rights k ≡ true → allows given k ≡ true
    by given writes own Read allowed = allows-Read given kind own
    by given writes own Write allowed = writes allowed

pub directories_lead : DirectoriesLead
directories_lead memory ddtp id context finds = located_in ddtp.mode memory ddtp.ppn id context (finds_by ddtp.mode memory ddtp.ppn id context finds)
