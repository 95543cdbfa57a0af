-- `==` of keys and of translations decides whether they are one.
use Rattle.std.proofs.Common.{rules, Decides, ◌≡◌, ◌&&◌, true, subst, nat_eq}
use Rattle.std.proofs.lemmas.Bool.{eqb-true}
use Rattle.iom_base.specs.contracts.rights.RightsPartialEq.TheImpl as rights
use Rattle.iom_base.specs.declared.rights.Rights.{Rights}
use Rattle.iom_tlb.specs.contracts.trans_cache.TranslationPartialEq.TheImpl as translation
use Rattle.iom_tlb.specs.contracts.trans_cache.TranslationEq.TheImpl.Laws as translation_eq
use Rattle.iom_tlb.specs.declared.trans_cache.Translation.{Translation}
use Rattle.iom_tlb.specs.Content.{Key}
use Rattle.iom_tlb.specs.Entries.{is_key}
use Rattle.iom_tlb.proofs.KeyLemmas.{both, one_key, key_laws}

one_right : (a b : Rights) → rights.ghosts.eq a b ≡ true → a ≡ b
one_right a b same = search rules

one_translation : (a b : Translation) → translation.ghosts.eq a b ≡ true → a ≡ b
one_translation a b same =
    let parts = both (nat_eq a.frame b.frame) (rights.ghosts.eq a.rights b.rights && nat_eq a.order b.order) same in
    let two = both (rights.ghosts.eq a.rights b.rights) (nat_eq a.order b.order) parts.1 in
    λ i. record { frame = eqb-true a.frame b.frame parts.0 i; rights = one_right a.rights b.rights two.0 i; order = eqb-true a.order b.order two.1 i }

pub translation_decides : (a b : Translation) → Decides (translation.ghosts.eq a b) (a ≡ b)
translation_decides a b = (one_translation a b, λ same. subst (λ x. translation.ghosts.eq a x ≡ true) same (translation_eq.laws-law.refl a))

pub key_decides : (a b : Key) → Decides (is_key a b) (a ≡ b)
key_decides a b = (one_key a b, λ same. subst (λ x. is_key a x ≡ true) same (key_laws.refl a))
