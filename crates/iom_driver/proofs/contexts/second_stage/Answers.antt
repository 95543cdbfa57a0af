use Rattle.std.proofs.Common.{◌≡◌, ap, arith}
use Rattle.iom_device_dir.specs.declared.values.GuestRoot.{GuestRoot}
use Rattle.iom_device_dir.specs.declared.stages.SecondStage.TheVariants as second
use Rattle.iom_device_dir.specs.Values.{guest_root_from}
use Rattle.iom_device_dir.proofs.SameValues.{same_root}
use Rattle.iom_driver.proofs.Lists.{of_some}
use Rattle.iom_driver.proofs.contexts.second_stage.Goals as goal

pub returns : goal.returns
returns c =
    let first : c.unwrap-root.result.number ≡ c.from.result = of_some (λ (r : GuestRoot). r.number ≡ c.from.result) c.new.result c.unwrap-root.result c.unwrap-root.ensures c.new.ensures.value in
    ap (second.Tables c.args.size) (same_root c.unwrap-root.result (guest_root_from c.args.root) (omega (arith, first, c.from.ensures, c.from.type_inv, c.requires)))
