-- What calls ask for and answer: a right that may be granted, and the span that an access names.
use Rattle.std.specs.Prelude.{◌≡◌, ◌⊎◌, ℕ, ◌+◌, ◌*◌, ◌≤◌}
use Rattle.iom_base.specs.declared.rights.Rights.{Rights}
use Rattle.iom_base.specs.declared.span.Span.{Span}
use Rattle.iom_base.specs.Rights.{r, rw}
use Rattle.iom_base.specs.Sizes.{page_size}

-- the right is one of the two that are granted
abbrev pub IsGrantable : Rights → Type 0
IsGrantable rights = (rights ≡ r) ⊎ (rights ≡ rw)

-- the span names so many bytes from the address on: the page, the offset in it, and how many
pub record IsSpanOf (address len : ℕ) (span : Span) : Type 0 where
  pub place : address ≡ page_size * span.page + span.offset
  pub within : span.offset + span.len ≤ page_size
  pub some : 1 ≤ span.len
  pub long : span.len ≡ len
