use Rattle.std.proofs.Common.{◌∙◌, sym}
use Rattle.std.proofs.lemmas.Bool.{false≢true}
use Rattle.iom_kept_state.proofs.AlikeLemmas.{hold_the_same}
use Rattle.iom_kept_state.proofs.LookLemmas.{held_of_past, held_alike}
use Rattle.iom_kept_state.proofs.grants.KeptGrants.hold_the_same.Goals as goal

pub returns-then-agree_at_pages : goal.returns-then-agree_at_pages
returns-then-agree_at_pages c = λ h past. (
  λ same page.
      let kept = c.args.self.now in
      let held = hold_the_same kept c.args.one c.args.other (c.agree_at_pages.ensures.0 c.if-agree_at_pages.true) (c.agree_at_pages-then-agree_at_pages.ensures.0 same) page in
      sym (held_of_past kept h past c.args.one page) ∙ held ∙ held_of_past kept h past c.args.other page,
  λ all. c.agree_at_pages-then-agree_at_pages.ensures.1 (λ k page listed. held_alike c.args.self.now h past c.args.one c.args.other page (all page)),
)

pub returns-else-agree_at_pages : goal.returns-else-agree_at_pages
returns-else-agree_at_pages c = λ h past. (
  λ yes. absurd (false≢true (sym c.if-agree_at_pages.false ∙ yes)),
  λ all. c.agree_at_pages.ensures.1 (λ k page listed. held_alike c.args.self.now h past c.args.one c.args.other page (all page)),
)
