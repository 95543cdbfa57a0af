pub mod AccessLemmas
pub mod SectorLemmas
pub mod HistoryLemmas
pub mod ToldLemmas
pub mod StepLemmas
pub mod DiskStays
pub mod OrderLemmas
pub mod ElementLemmas
