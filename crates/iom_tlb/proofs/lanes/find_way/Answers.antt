use Rattle.std.proofs.Common.{arith, rules, refl}
use Rattle.iom_tlb.proofs.MaskLemmas.{lowest_way, no_way}
use Rattle.iom_tlb.proofs.lanes.find_way.Goals as goal

pub returns-then-both-eq0-clause-none : goal.returns-then-both-eq0-clause-none
returns-then-both-eq0-clause-none c = λ auto. no_way c.args.spaces.now c.args.pages.now c.args.space c.args.page _ (search rules) (search rules) (rw (c.equal_lanes-same_space.ensures, c.equal_lanes-same_page.ensures) refl) c.if-both-eq0.true

pub returns-clause-found : goal.returns-clause-found
returns-clause-found c = (lowest_way c.args.spaces.now c.args.pages.now c.args.space c.args.page _ (search rules) (search rules) (rw (c.equal_lanes-same_space.ensures, c.equal_lanes-same_page.ensures) refl) (omega arith)).0

pub returns-clause-lowest : goal.returns-clause-lowest
returns-clause-lowest c = (lowest_way c.args.spaces.now c.args.pages.now c.args.space c.args.page _ (search rules) (search rules) (rw (c.equal_lanes-same_space.ensures, c.equal_lanes-same_page.ensures) refl) (omega arith)).1
