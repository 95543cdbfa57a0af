-- What a cache of one translation has after a keep.
use Rattle.std.proofs.Common.{◌≡◌, ◌≢◌, ◌⊎◌, inl, inr, Bool, true, false, cond, Option, Some, None, refl}
use Rattle.iom_tlb.specs.declared.trans_cache.Translation.{Translation}
use Rattle.iom_tlb.specs.Content.{Key, Sets}
use Rattle.iom_tlb.specs.Entries.{is_key}
use Rattle.iom_tlb.proofs.KeyLemmas.{key_laws, one_key}
use Rattle.iom_tlb.proofs.EntryLemmas.{apart_keys}
use Rattle.iom_tlb_tests.specs.declared.one_translation.Kept.{Kept}
use Rattle.iom_tlb_tests.specs.One.{kept_at}

chosen : {X : Type 0} (b : Bool) (x y : X) → b ≡ true → cond b x y ≡ x
chosen true x y e = refl
chosen false x y e = absurd (cc)

other : {X : Type 0} (b : Bool) (x y : X) → b ≡ false → cond b x y ≡ y
other true x y e = absurd (cc)
other false x y e = refl

-- a page that isn't the new one's has nothing; nor had it before, or it is the one that goes out
out_at : (old : Kept) (key : Key) (t : Option Translation) → t ≡ None → (b : Bool) → is_key key (old.space, old.page) ≡ b
    → (t ≡ cond b (Some old.translation) None) ⊎ ((key ≡ (old.space, old.page)) × (t ≡ None))
out_at old key t none true e = inr (one_key key (old.space, old.page) e, none)
out_at old key t none false e = inl none

module _ (new : Kept) where
  abbrev at : Key
  at = (new.space, new.page)

  here : kept_at (Some new) at ≡ Some new.translation
  here = chosen (is_key at at) (Some new.translation) None (key_laws.refl at)

  elsewhere : (key : Key) → key ≢ at → kept_at (Some new) key ≡ None
  elsewhere key apart = other (is_key key at) (Some new.translation) None (apart_keys is_key key_laws one_key key at apart)

  -- the old one goes out, and the new one is there
  pub sets : (old : Option Kept) → Sets (kept_at old) (new.space, new.page) new.translation (kept_at (Some new))
  sets None = record { kept = here; others = (at, λ key apart. inl (elsewhere key apart)) }
  sets (Some old) = record {
    kept = here;
    others = ((old.space, old.page), λ key apart. out_at old key (kept_at (Some new) key) (elsewhere key apart) (is_key key (old.space, old.page)) refl);
  }
