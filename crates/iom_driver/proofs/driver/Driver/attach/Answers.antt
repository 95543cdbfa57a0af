use Rattle.std.proofs.Common.{◌≡◌, ◌⊎◌, ◌∙◌, ℕ, List, length, None, refl, sym, ap, subst}
use Rattle.iom_base.specs.declared.mode.Mode.{Mode}
use Rattle.iom_directory_build.specs.Pages.{root_level, missing_pages}
use Rattle.iom_base.specs.declared.refusal.Refusal.TheVariants.{NoFrames}
use Rattle.iom_table_frames.specs.Owners.{HasFree}
use Rattle.iom_driver.specs.Attaching.{NoRootBelow, LacksRoot, lacking_pages, limit_below}
use Rattle.iom_driver.specs.Choices.{AreHighestFree}
use Rattle.iom_driver.specs.Devices.{IsLowestNumber}
use Rattle.iom_driver.specs.Layout.{directory_frame}
use Rattle.iom_driver.specs.Reasons.{why_not_attach}
use Rattle.iom_driver.specs.StateOf.{state_of}
use Rattle.iom_driver.specs.State.{DriverState}
use Rattle.iom_driver.specs.declared.device.Device.{Device}
use Rattle.iom_driver.proofs.FirstRefusals.{first_told, none_told}
use Rattle.iom_driver.proofs.driver.Driver.attach.Goals as goal

-- where too few frames are free, for as many pages as the directory lacks
lacks : (d : DriverState) (memory : List (List ℕ)) (id : ℕ) (mode : Mode) (frames lacking : ℕ) → frames ≡ length memory → lacking ≡ lacking_pages d memory id
    → (¬ HasFree d.owners d.ledger None lacking frames) ⊎ ((few : List ℕ) × AreHighestFree d.owners d.ledger None frames lacking few × NoRootBelow mode d (limit_below frames few))
    → LacksRoot d memory id mode NoFrames
lacks d memory id mode frames lacking many is none =
    let too_few : ℕ → ℕ → Type 0 =
    λ l f. (¬ HasFree d.owners d.ledger None l f) ⊎ ((few : List ℕ) × AreHighestFree d.owners d.ledger None f l few × NoRootBelow mode d (limit_below f few)) in
    subst (λ f. too_few (lacking_pages d memory id) f) many (subst (λ l. too_few l frames) is none)

pub returns-in-Err-clause-effect : goal.returns-in-Err-clause-effect
returns-in-Err-clause-effect c =
    let d = state_of c.args.self.now in
    (first_told (why_not_attach d c.args.id c.args.ats) (LacksRoot d c.args.memory.now c.args.id c.args.mode) c.in-Err.why c.in-Err.ensures.refused, refl, refl)

pub returns-in_default-clause-effect : goal.returns-in_default-clause-effect
returns-in_default-clause-effect c =
    let driver = c.args.self.now in
    let d = state_of driver in
    let memory = c.args.memory.now in
    let id = c.args.id in
    let many : driver.frames ≡ length memory = sym (c.requires.stand.size ∙ driver.invariants.sizes.owned) in
    let at_root : c.directory_frame-directory.result ≡ directory_frame (length memory) = c.directory_frame-directory.ensures ∙ ap directory_frame many in
    let too_few = lacks d memory id c.args.mode driver.frames c.missing-lacking.result many
    (c.missing-lacking.ensures ∙ ap (λ r. missing_pages memory (root_level driver.levels) r id) at_root) c.in_default.ensures.none in
    (none_told (why_not_attach d id c.args.ats) (LacksRoot d memory id c.args.mode) NoFrames c.in-Ok.ensures.admitted too_few, refl, refl)

pub enter-requires : goal.enter-requires
enter-requires c =
    let driver = c.args.self.now in
    let d = state_of driver in
    let memory = c.args.memory.now in
    let id = c.args.id in
    rw c.as_slice.ensures.value record {
      stand = c.requires.stand;
      may = record {
        admitted = c.in-Ok.ensures.may;
        chosen = subst (λ n. AreHighestFree d.owners d.ledger None driver.frames n c.in-Some.taken.pages.items)
            (c.missing-lacking.ensures ∙ ap (λ r. missing_pages memory (root_level driver.levels) r id) c.directory_frame-directory.ensures) c.in-Some.ensures.chosen;
        root = c.in-Some.ensures.root;
        lowest = subst (λ (ds : List Device). IsLowestNumber ds c.lowest_number-number.result) c.deref.ensures.value c.lowest_number-number.ensures.lowest;
        small = c.lowest_number-number.ensures.small;
      };
      place = c.in-Ok.ensures.place;
    }

pub returns : goal.returns
returns c = record {
  effect = (c.in-Ok.ensures.admitted, c.enter.ensures.effect);
  stand = c.enter.ensures.stand;
  ready = c.enter.ensures.ready;
}
