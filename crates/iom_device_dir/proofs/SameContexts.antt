-- `==` of contexts decides whether they are one.
use Rattle.std.proofs.Common.{rules, Decides, ◌≡◌, Bool, true, false, refl, subst, ◌&&◌, nat_eq}
use Rattle.std.proofs.lemmas.Bool.{eqb-true}
use mathlib.Core.Bool.{beq}
use Rattle.iom_base.specs.contracts.size.SizePartialEq.TheImpl as size
use Rattle.iom_base.specs.contracts.ppn.PpnPartialEq.TheImpl as page
use Rattle.iom_base.specs.declared.size.Size.{Size}
use Rattle.iom_device_dir.specs.contracts.stages.FirstStagePartialEq.TheImpl as first
use Rattle.iom_device_dir.specs.contracts.stages.SecondStagePartialEq.TheImpl as second
use Rattle.iom_device_dir.specs.contracts.values.PscidPartialEq.TheImpl as pscid
use Rattle.iom_device_dir.specs.contracts.values.GuestRootPartialEq.TheImpl as root
use Rattle.iom_device_dir.specs.contracts.context.ContextPartialEq.TheImpl as context
use Rattle.iom_device_dir.specs.contracts.context.ContextEq.TheImpl.Laws as context_eq
use Rattle.iom_device_dir.specs.declared.stages.FirstStage.{FirstStage}
use Rattle.iom_device_dir.specs.declared.stages.FirstStage.TheVariants.{Bare as FirstBare, Tables as FirstTables}
use Rattle.iom_device_dir.specs.declared.stages.SecondStage.{SecondStage}
use Rattle.iom_device_dir.specs.declared.stages.SecondStage.TheVariants.{Bare as SecondBare, Tables as SecondTables}
use Rattle.iom_device_dir.specs.declared.context.Context.{Context}
use Rattle.iom_device_dir.proofs.SameValues.{same_page, same_space, same_root}

both : (x y : Bool) → x && y ≡ true → (x ≡ true) × (y ≡ true)
both true y e = (refl, e)
both false y e = absurd (cc)

one_bit : (x y : Bool) → beq x y ≡ true → x ≡ y
one_bit true true e = refl
one_bit false false e = refl
one_bit true false e = absurd (cc)
one_bit false true e = absurd (cc)

one_size : (a b : Size) → size.ghosts.eq a b ≡ true → a ≡ b
one_size a b same = search rules

one_first : (a b : FirstStage) → first.ghosts.eq a b ≡ true → a ≡ b
one_first FirstBare FirstBare same = refl
one_first FirstBare (FirstTables s r) same = absurd (cc)
one_first (FirstTables s r) FirstBare same = absurd (cc)
one_first (FirstTables s r) (FirstTables t q) same =
    let both_are = both (size.ghosts.eq s t) (page.ghosts.eq r q) same in
    λ i. FirstTables (one_size s t both_are.0 i) (same_page r q (eqb-true r.number q.number both_are.1) i)

one_second : (a b : SecondStage) → second.ghosts.eq a b ≡ true → a ≡ b
one_second SecondBare SecondBare same = refl
one_second SecondBare (SecondTables s r) same = absurd (cc)
one_second (SecondTables s r) SecondBare same = absurd (cc)
one_second (SecondTables s r) (SecondTables t q) same =
    let both_are = both (size.ghosts.eq s t) (root.ghosts.eq r q) same in
    λ i. SecondTables (one_size s t both_are.0 i) (same_root r q (eqb-true r.number q.number both_are.1) i)

one_context : (a b : Context) → context.ghosts.eq a b ≡ true → a ≡ b
one_context a b same =
    let en_ats = both (beq a.en_ats b.en_ats) _ same in
    let first_stage = both (first.ghosts.eq a.first_stage b.first_stage) _ en_ats.1 in
    let second_stage = both (second.ghosts.eq a.second_stage b.second_stage) _ first_stage.1 in
    let numbers = both (pscid.ghosts.eq a.pscid b.pscid) (nat_eq a.gscid b.gscid) second_stage.1 in
    λ i. record {
      en_ats = one_bit a.en_ats b.en_ats en_ats.0 i;
      first_stage = one_first a.first_stage b.first_stage first_stage.0 i;
      second_stage = one_second a.second_stage b.second_stage second_stage.0 i;
      pscid = same_space a.pscid b.pscid (eqb-true a.pscid.number b.pscid.number numbers.0) i;
      gscid = eqb-true a.gscid b.gscid numbers.1 i;
    }

pub context_decides : (a b : Context) → Decides (context.ghosts.eq a b) (a ≡ b)
context_decides a b = (one_context a b, λ same. subst (λ x. context.ghosts.eq a x ≡ true) same (context_eq.laws-law.refl a))
