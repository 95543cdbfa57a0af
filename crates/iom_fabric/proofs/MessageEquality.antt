-- `==` of messages tells whether they are equal.
use Rattle.std.proofs.Common.{◌≡◌, ◌&&◌, ◌∙◌, Bool, true, false, nat_eq, refl, sym, ap, arith}
use Rattle.std.specs.Bool.{Decides}
use Rattle.std.proofs.lemmas.Bool.{eqb-true}
use Rattle.std.proofs.lemmas.Grind.{common_steps}
use Rattle.iom_fabric.specs.contracts.message.TranslationPartialEq.TheImpl as translation
use Rattle.iom_fabric.specs.contracts.message.RangePartialEq.TheImpl as range
use Rattle.iom_fabric.specs.contracts.message.MessagePartialEq.TheImpl as message
use Rattle.iom_fabric.specs.contracts.fabric.OnLinkPartialEq.TheImpl as on_link
use Rattle.iom_fabric.specs.contracts.fabric.OnLinkEq.TheImpl.Laws as on_link_eq
use Rattle.iom_fabric.specs.declared.message.Translation.{Translation}
use Rattle.iom_fabric.specs.declared.message.Range.{Range}
use Rattle.iom_fabric.specs.declared.message.Message.{Message}
use Rattle.iom_fabric.specs.declared.message.Message.TheVariants.{Ask, Answer, InvReq, InvDone}
use Rattle.iom_fabric.specs.declared.fabric.OnLink.{OnLink}

both : (x y : Bool) → x && y ≡ true → (x ≡ true) × (y ≡ true)
both true y e = (refl, e)
both false y e = absurd (cc)

one_translation : (a b : Translation) → translation.ghosts.eq a b ≡ true → a ≡ b
one_translation a b e = grind (arith, common_steps)

one_range : (a b : Range) → range.ghosts.eq a b ≡ true → a ≡ b
one_range a b e = grind (arith, common_steps)

one_message : (a b : Message) → message.ghosts.eq a b ≡ true → a ≡ b
one_message (Ask epoch page) (Ask then other) e =
    let two = both (nat_eq epoch then) (nat_eq page other) e in
    ap (λ n. Ask n page) (eqb-true epoch then two.0) ∙ ap (λ n. Ask then n) (eqb-true page other two.1)
one_message (Answer epoch page reply) (Answer then other answer) e =
    let two = both (nat_eq epoch then) (nat_eq page other && translation.ghosts.eq reply answer) e in
    let more = both (nat_eq page other) (translation.ghosts.eq reply answer) two.1 in
    ap (λ n. Answer n page reply) (eqb-true epoch then two.0) ∙ ap (λ n. Answer then n reply) (eqb-true page other more.0)
    ∙ ap (λ t. Answer then other t) (one_translation reply answer more.1)
one_message (InvReq serial dropped) (InvReq number other) e =
    let two = both (nat_eq serial number) (range.ghosts.eq dropped other) e in
    ap (λ n. InvReq n dropped) (eqb-true serial number two.0) ∙ ap (λ r. InvReq number r) (one_range dropped other two.1)
one_message (InvDone serial) (InvDone number) e = ap InvDone (eqb-true serial number e)
one_message (Ask epoch page) (Answer then other answer) e = absurd (cc)
one_message (Ask epoch page) (InvReq number other) e = absurd (cc)
one_message (Ask epoch page) (InvDone number) e = absurd (cc)
one_message (Answer epoch page reply) (Ask then other) e = absurd (cc)
one_message (Answer epoch page reply) (InvReq number other) e = absurd (cc)
one_message (Answer epoch page reply) (InvDone number) e = absurd (cc)
one_message (InvReq serial dropped) (Ask then other) e = absurd (cc)
one_message (InvReq serial dropped) (Answer then other answer) e = absurd (cc)
one_message (InvReq serial dropped) (InvDone number) e = absurd (cc)
one_message (InvDone serial) (Ask then other) e = absurd (cc)
one_message (InvDone serial) (Answer then other answer) e = absurd (cc)
one_message (InvDone serial) (InvReq number other) e = absurd (cc)

pub decides_on_link : (a b : OnLink) → Decides (on_link.ghosts.eq a b) (a ≡ b)
decides_on_link a b = (one, λ same. ap (on_link.ghosts.eq a) (sym same) ∙ on_link_eq.laws-law.refl a)
  where
    one : on_link.ghosts.eq a b ≡ true → a ≡ b
    one e =
        let two = both (nat_eq a.device b.device) (message.ghosts.eq a.message b.message) e in
        let device : a.device ≡ b.device = eqb-true a.device b.device two.0 in
        let said : a.message ≡ b.message = one_message a.message b.message two.1 in
        ap (λ n. record { device = n; message = a.message }) device ∙ ap (λ m. record { device = b.device; message = m }) said
