-- What a cover covers (IOMMU specification, section 3.1.1: an address names the leaf that translates it, also one of a superpage).
use Rattle.std.specs.Prelude.{ℕ, ◌/◌, ◌^◌, Bool, true, false, ◌==◌, ◌&&◌, ◌||◌, List, [], ◌∷◌, Option, Some, None, if◌then◌else◌}
use Rattle.iom_tlb.specs.declared.space.Space.{Space}
use Rattle.iom_tlb.specs.declared.space.Space.TheVariants as space
use Rattle.iom_tlb.specs.declared.cover.Cover.{Cover}
use Rattle.iom_tlb.specs.declared.cover.Cover.TheVariants as cover
use Rattle.iom_tlb.specs.declared.large_leaves.LargeLeaves.{LargeLeaves}
use Rattle.iom_tlb.specs.declared.trans_cache.Translation.{Translation}
use Rattle.iom_tlb.specs.Content.{Key}

-- whether a number is the one that is asked for, where one is
abbrev pub admits : Option ℕ → ℕ → Bool
admits None number = true
admits (Some asked) number = asked == number

-- whether two pages lie in one leaf of this order: it spans so many pages, a power of two
abbrev pub is_same_leaf : ℕ → ℕ → ℕ → Bool
is_same_leaf order page other = page / 2 ^ order == other / 2 ^ order

-- whether a page lies in the leaf of the one that is asked for, where one is
abbrev pub admits_page : Option ℕ → ℕ → ℕ → Bool
admits_page None number order = true
admits_page (Some asked) number order = is_same_leaf order asked number

-- whether a translation of a page of an address space is covered; a cover of one kind of address spaces covers no page of another kind
abbrev pub covers : Cover → Key → Translation → Bool
covers (cover.First pscid page) (space.First own, number) cached = admits pscid own && admits_page page number cached.order
covers (cover.Second gscid page) (space.Second own, number) cached = admits gscid own && admits_page page number cached.order
covers (cover.Both gscid pscid page) (space.Both guest own, number) cached =
    admits gscid guest && admits pscid own && admits_page page number cached.order
covers _ _ _ = false

-- whether one of some covers covers it
abbrev pub are_covering : List Cover → Key → Translation → Bool
are_covering [] key cached = false
are_covering (first ∷ rest) key cached = covers first key cached || are_covering rest key cached

-- the page that a cover names, where it names one
abbrev pub named_page : Cover → Option ℕ
named_page (cover.First pscid page) = page
named_page (cover.Second gscid page) = page
named_page (cover.Both gscid pscid page) = page

-- the page and the address space that it names, where it leaves nothing of them open
abbrev pub named_key : Cover → Option Key
named_key (cover.First (Some pscid) (Some page)) = Some (space.First pscid, page)
named_key (cover.Second (Some gscid) (Some page)) = Some (space.Second gscid, page)
named_key (cover.Both (Some gscid) (Some pscid) (Some page)) = Some (space.Both gscid pscid, page)
named_key _ = None

-- whether a translation from a leaf above 4 KiB may be there: of an address space
abbrev pub may_be_large : LargeLeaves → Space → Bool
may_be_large large (space.First own) = large.first
may_be_large large (space.Second own) = large.second
may_be_large large (space.Both guest own) = large.both

-- and among those that a cover covers
abbrev pub may_cover_large : LargeLeaves → Cover → Bool
may_cover_large large (cover.First pscid page) = large.first
may_cover_large large (cover.Second gscid page) = large.second
may_cover_large large (cover.Both gscid pscid page) = large.both

-- there is none anywhere
abbrev pub nowhere_large : LargeLeaves
nowhere_large = record { first = false; second = false; both = false }

-- there may be one of this address space too, and so of each of its kind; of the other kinds as before
abbrev pub also_large : Space → LargeLeaves → LargeLeaves
also_large (space.First own) large = record { first = true; second = large.second; both = large.both }
also_large (space.Second own) large = record { first = large.first; second = true; both = large.both }
also_large (space.Both guest own) large = record { first = large.first; second = large.second; both = true }

-- that too, where what is kept came from a leaf of this order
abbrev pub with_kept : Space → ℕ → LargeLeaves → LargeLeaves
with_kept space order large = if order == 0 then large else also_large space large
