-- Which tickets are pending, by a history.
use Rattle.std.specs.Prelude.{ℕ, not, List, [], ◌∷◌, ◌++◌, filter}
use Rattle.iom_ledger.specs.declared.entry.HistoryEntry.{HistoryEntry}
use Rattle.iom_ledger.specs.declared.entry.HistoryEntry.TheVariants.{Granted, Released, AllReleased, Confirmed}
use Rattle.iom_ledger.specs.History.{History, confirms}

-- the ticket under which the entry releases
abbrev pub tickets_by : HistoryEntry → List ℕ
tickets_by (Granted device page frame rights) = []
tickets_by (Released device page ticket) = ticket ∷ []
tickets_by (AllReleased device ticket) = ticket ∷ []
tickets_by (Confirmed ticket) = []

-- the tickets of the releases, the oldest first
abbrev pub tickets_of : History → List ℕ
tickets_of [] = []
tickets_of (entry ∷ before) = tickets_of before ++ tickets_by entry

-- the tickets of the releases that the history doesn't confirm, the oldest first
abbrev pub pending_of : History → List ℕ
pending_of history = filter (λ ticket. not (confirms history ticket)) (tickets_of history)
