-- A leaf gives the page that the indices below it name.
use Rattle.std.proofs.Common.{◌≡◌, false, true}
use Rattle.iom_base.specs.Rights.{allows}
use Rattle.iom_stepped_walk.proofs.IndexLemmas.{crooked_gives_none, denied_gives_none, lawful_gives_page}
use Rattle.iom_stepped_walk.specs.Indices.{indices_below}
use Rattle.iom_stepped_walk.proofs.place.judge.Goals.{then-base-span-ne0-via-then-base-span-ne0, then-base-span-ne0-via-else-base-span-ne0+then-not-allows}
use Rattle.iom_stepped_walk.proofs.place.judge.Goals as goal

pub returns-then-base-span-ne0-clause-value : goal.returns-then-base-span-ne0-clause-value
returns-then-base-span-ne0-clause-value c = elim c.then-base-span-ne0.branch [
  | then-base-span-ne0-via-then-base-span-ne0 w ↦
      crooked_gives_none c.args.kind c.args.base c.args.rights c.args.level c.args.page c.span_of-span.result c.requires.level c.span_of-span.ensures.span w.if-base-span-ne0.true
  | then-base-span-ne0-via-else-base-span-ne0+then-not-allows w ↦
      let denied : allows c.args.rights c.args.kind ≡ false = cc in
      denied_gives_none c.args.kind c.args.base c.args.rights (indices_below c.args.level c.args.page) denied
]

pub returns-clause-value : goal.returns-clause-value
returns-clause-value c =
    let allowed : allows c.args.rights c.args.kind ≡ true = cc in
    lawful_gives_page c.args.kind c.args.base c.args.rights c.args.level c.args.page c.span_of-span.result c.requires.level c.span_of-span.ensures.span c.if-base-span-ne0.false allowed
