use Rattle.std.proofs.Common.{◌≡◌, ap, arith}
use Rattle.iom_base.specs.declared.ppn.Ppn.{Ppn}
use Rattle.iom_base.specs.PageNumbers.{page_from}
use Rattle.iom_device_dir.specs.declared.stages.FirstStage.TheVariants as first
use Rattle.iom_device_dir.proofs.SameValues.{same_page}
use Rattle.iom_driver.proofs.Lists.{of_some}
use Rattle.iom_driver.proofs.contexts.first_stage.Goals as goal

pub returns : goal.returns
returns c =
    let page : c.unwrap-root.result.number ≡ c.from.result = of_some (λ (p : Ppn). p.number ≡ c.from.result) c.new.result c.unwrap-root.result c.unwrap-root.ensures c.new.ensures.value in
    ap (first.Tables c.args.size) (same_page c.unwrap-root.result (page_from 0 c.args.root) (omega (arith, page, c.from.ensures, c.from.type_inv)))
