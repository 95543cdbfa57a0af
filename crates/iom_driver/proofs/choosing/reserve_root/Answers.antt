use Rattle.std.proofs.Common.{◌≡◌, ◌<◌, ◌⊎◌, inl, inr, ℕ, length, ◌∷◌, All, subst}
use Rattle.iom_base.specs.declared.mode.Mode.{Mode}
use Rattle.iom_base.specs.declared.mode.Mode.TheVariants.{Second, Both}
use Rattle.iom_base.specs.declared.size.Size.{Size}
use Rattle.iom_page_table.specs.SecondTables.{other_quarters}
use Rattle.iom_driver.specs.Attaching.{root_frames}
use Rattle.iom_driver.proofs.choosing.reserve_root.Goals as goal

-- the frames of a second stage's root
four : (mode : Mode) (root limit : ℕ) → ((size : Size) × (mode ≡ Second size)) ⊎ ((size : Size) × (mode ≡ Both size))
    → All (λ f. f < limit) (root_frames mode root) → All (λ f. f < limit) (root ∷ other_quarters root)
four mode root limit (inl is) all = subst (λ m. All (λ f. f < limit) (root_frames m root)) is.1 all
four mode root limit (inr is) all = subst (λ m. All (λ f. f < limit) (root_frames m root)) is.1 all

pub reserve_four-requires : goal.reserve_four-requires
reserve_four-requires c = record {
  owned = four c.args.mode c.args.root (length c.args.owners.now) c.in-Second.is c.requires.owned;
  inside = four c.args.mode c.args.root (length c.args.memory.now) c.in-Second.is c.requires.inside;
  fits = c.requires.fits;
}
