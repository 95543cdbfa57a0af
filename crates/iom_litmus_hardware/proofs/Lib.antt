mod OpeningLemmas
mod LineLemmas
mod WholeLemmas
