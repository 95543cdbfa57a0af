-- `==` of watched claims tells whether they are equal.
use Rattle.std.proofs.Common.{◌≡◌, ◌&&◌, ◌∙◌, Option, Some, None, Bool, true, false, nat_eq, refl, sym, ap, arith}
use Rattle.std.specs.Bool.{Decides}
use Rattle.std.specs.Option.{option_eq}
use Rattle.std.proofs.lemmas.Bool.{eqb-true}
use Rattle.std.proofs.lemmas.Grind.{common_steps}
use Rattle.iom_base.specs.contracts.cause.CausePartialEq.TheImpl as cause
use Rattle.iom_base.specs.contracts.access.AccessKindPartialEq.TheImpl as kind
use Rattle.iom_base.specs.declared.cause.Cause.{Cause}
use Rattle.iom_base.specs.declared.access.AccessKind.{AccessKind}
use Rattle.iom_tlb.specs.contracts.space.SpacePartialEq.TheImpl as space
use Rattle.iom_tlb.specs.declared.space.Space.{Space}
use Rattle.iom_hardware_session.specs.contracts.answer.FoundPartialEq.TheImpl as found
use Rattle.iom_hardware_session.specs.contracts.answer.WrongPartialEq.TheImpl as wrong
use Rattle.iom_hardware_session.specs.contracts.watched.GoodClaimPartialEq.TheImpl as good_claim
use Rattle.iom_hardware_session.specs.contracts.watched.WatchedPartialEq.TheImpl as watched
use Rattle.iom_hardware_session.specs.contracts.watched.WatchedEq.TheImpl.Laws as watched_eq
use Rattle.iom_hardware_session.specs.declared.answer.Found.{Found}
use Rattle.iom_hardware_session.specs.declared.answer.Wrong.{Wrong}
use Rattle.iom_hardware_session.specs.declared.answer.Wrong.TheVariants.{Held, Lingers, Reached, Used, Uncertain, NotReady}
use Rattle.iom_hardware_session.specs.declared.watched.Watched.{Watched}
use Rattle.iom_hardware_session.specs.declared.watched.GoodClaim.{GoodClaim}

pub both : (x y : Bool) → x && y ≡ true → (x ≡ true) × (y ≡ true)
both true y e = (refl, e)
both false y e = absurd (cc)

one_cause : (a b : Cause) → cause.ghosts.eq a b ≡ true → a ≡ b
one_cause a b e = grind (arith, common_steps)

one_kind : (a b : AccessKind) → kind.ghosts.eq a b ≡ true → a ≡ b
one_kind a b e = grind (arith, common_steps)

pub one_space : (a b : Space) → space.ghosts.eq a b ≡ true → a ≡ b
one_space a b e = grind (arith, common_steps)

one_good_claim : (a b : GoodClaim) → good_claim.ghosts.eq a b ≡ true → a ≡ b
one_good_claim a b e = grind (arith, common_steps)

one_found : (a b : Found) → found.ghosts.eq a b ≡ true → a ≡ b
one_found a b e = grind (arith, common_steps)

one_wrong : (a b : Wrong) → wrong.ghosts.eq a b ≡ true → a ≡ b
one_wrong Held Held e = refl
one_wrong Lingers Lingers e = refl
one_wrong Used Used e = refl
one_wrong Uncertain Uncertain e = refl
one_wrong (Reached device by) (Reached other its) e =
    let two = both (nat_eq device other) (kind.ghosts.eq by its) e in
    ap (λ d. Reached d by) (eqb-true device other two.0) ∙ ap (λ k. Reached other k) (one_kind by its two.1)
one_wrong (NotReady shown) (NotReady other) e = ap NotReady (one_found shown other e)
one_wrong Held Lingers e = absurd (cc)
one_wrong Held Used e = absurd (cc)
one_wrong Held Uncertain e = absurd (cc)
one_wrong Held (Reached other its) e = absurd (cc)
one_wrong Held (NotReady other) e = absurd (cc)
one_wrong Lingers Held e = absurd (cc)
one_wrong Lingers Used e = absurd (cc)
one_wrong Lingers Uncertain e = absurd (cc)
one_wrong Lingers (Reached other its) e = absurd (cc)
one_wrong Lingers (NotReady other) e = absurd (cc)
one_wrong Used Held e = absurd (cc)
one_wrong Used Lingers e = absurd (cc)
one_wrong Used Uncertain e = absurd (cc)
one_wrong Used (Reached other its) e = absurd (cc)
one_wrong Used (NotReady other) e = absurd (cc)
one_wrong Uncertain Held e = absurd (cc)
one_wrong Uncertain Lingers e = absurd (cc)
one_wrong Uncertain Used e = absurd (cc)
one_wrong Uncertain (Reached other its) e = absurd (cc)
one_wrong Uncertain (NotReady other) e = absurd (cc)
one_wrong (Reached device by) Held e = absurd (cc)
one_wrong (Reached device by) Lingers e = absurd (cc)
one_wrong (Reached device by) Used e = absurd (cc)
one_wrong (Reached device by) Uncertain e = absurd (cc)
one_wrong (Reached device by) (NotReady other) e = absurd (cc)
one_wrong (NotReady shown) Held e = absurd (cc)
one_wrong (NotReady shown) Lingers e = absurd (cc)
one_wrong (NotReady shown) Used e = absurd (cc)
one_wrong (NotReady shown) Uncertain e = absurd (cc)
one_wrong (NotReady shown) (Reached other its) e = absurd (cc)

one_why : (a b : Option Wrong) → option_eq wrong.ghosts.eq a b ≡ true → a ≡ b
one_why None None e = refl
one_why (Some why) (Some other) e = ap Some (one_wrong why other e)
one_why None (Some other) e = absurd (cc)
one_why (Some why) None e = absurd (cc)

pub watched_decides : (a b : Watched) → Decides (watched.ghosts.eq a b) (a ≡ b)
watched_decides a b = (one, λ same. ap (watched.ghosts.eq a) (sym same) ∙ watched_eq.laws-law.refl a)
  where
    one : watched.ghosts.eq a b ≡ true → a ≡ b
    one e =
        let two = both (good_claim.ghosts.eq a.claim b.claim) (option_eq wrong.ghosts.eq a.why b.why) e in
        ap (λ c. record { claim = c; why = a.why }) (one_good_claim a.claim b.claim two.0) ∙ ap (λ w. record { claim = b.claim; why = w }) (one_why a.why b.why two.1)
