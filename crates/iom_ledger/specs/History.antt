-- What a history of grants says of a device's page, of a frame and of tickets.
use Rattle.std.specs.Prelude.{◌≡◌, ℕ, zero, suc, ◌+◌, ◌⊎◌, Bool, true, false, not, ◌==◌, ◌&&◌, ◌||◌, List, [], ◌∷◌, ◌++◌, filter, Contains, Option, None, Some, is_some, if◌then◌else◌}
use Rattle.iom_base.specs.declared.access.AccessKind.{AccessKind}
use Rattle.iom_base.specs.declared.rights.Rights.{Rights}
use Rattle.iom_base.specs.Rights.{allows}
use Rattle.iom_ledger.specs.declared.entry.HistoryEntry.{HistoryEntry}
use Rattle.iom_ledger.specs.declared.entry.HistoryEntry.TheVariants.{Granted, Released, AllReleased, Confirmed}

-- what happened to the grants, the newest entry first
abbrev pub History : Type 0
History = List HistoryEntry

-- a frame, and the right to it
abbrev pub Pair : Type 0
Pair = ℕ × Rights

-- whether the entry is about this page of the device, which until then held `before` there
abbrev pub is_about : HistoryEntry → Option Pair → ℕ → ℕ → Bool
is_about (Granted d a frame rights) before device page = (d == device) && (a == page)
is_about (Released d a ticket) before device page = (d == device) && (a == page)
is_about (AllReleased d ticket) before device page = (d == device) && is_some before
is_about (Confirmed ticket) before device page = false

-- the pair that the entry grants
abbrev pub granted_by : HistoryEntry → Option Pair
granted_by (Granted d a frame rights) = Some (frame, rights)
granted_by (Released d a ticket) = None
granted_by (AllReleased d ticket) = None
granted_by (Confirmed ticket) = None

-- what the device holds at the page: the pair of the last entry about it, if that entry grants
abbrev pub held_at : History → ℕ → ℕ → Option Pair
held_at [] device page = None
held_at (entry ∷ before) device page =
    if is_about entry (held_at before device page) device page then granted_by entry else held_at before device page

-- the ticket under which the entry releases a pair that was held, with that pair
abbrev pub released_by : HistoryEntry → Option Pair → List (ℕ × Pair)
released_by (Released d a ticket) (Some pair) = (ticket, pair) ∷ []
released_by (AllReleased d ticket) (Some pair) = (ticket, pair) ∷ []
released_by (Released d a ticket) None = []
released_by (AllReleased d ticket) None = []
released_by (Granted d a frame rights) before = []
released_by (Confirmed ticket) before = []

-- each pair that the device held at the page and released, with its ticket
abbrev pub released_at : History → ℕ → ℕ → List (ℕ × Pair)
released_at [] device page = []
released_at (entry ∷ before) device page =
    (if is_about entry (held_at before device page) device page then released_by entry (held_at before device page) else [])
    ++ released_at before device page

-- whether the history confirms the ticket
abbrev pub confirms : History → ℕ → Bool
confirms [] ticket = false
confirms (Confirmed t ∷ before) ticket = (t == ticket) || confirms before ticket
confirms (Granted d a frame rights ∷ before) ticket = confirms before ticket
confirms (Released d a t ∷ before) ticket = confirms before ticket
confirms (AllReleased d t ∷ before) ticket = confirms before ticket

-- each pair that the device held at the page and released under a ticket that the history doesn't confirm
abbrev pub lingering_at : History → ℕ → ℕ → List (ℕ × Pair)
lingering_at history device page =
    filter (λ released. not (confirms history released.0)) (released_at history device page)

-- the device holds the pair at the page
abbrev pub Holds : History → ℕ → ℕ → Pair → Type 0
Holds history device page pair = held_at history device page ≡ Some pair

-- the pair lingers there: the device held it and released it, under a ticket that isn't confirmed
abbrev pub Lingers : History → ℕ → ℕ → Pair → Type 0
Lingers history device page pair =
    (ticket : ℕ) × Contains (lingering_at history device page) (ticket, pair)

-- the device may reach the frame by an access of this kind: it holds or lingers on it, with a right that allows the kind
abbrev pub May : History → ℕ → ℕ → AccessKind → Type 0
May history device frame kind =
    (page : ℕ) × (rights : Rights)
    × (Holds history device page (frame, rights) ⊎ Lingers history device page (frame, rights))
    × (allows rights kind ≡ true)

-- no device may reach the frame: it is free, by the ledger alone
abbrev pub NoneMayReach : History → ℕ → Type 0
NoneMayReach history frame = (device : ℕ) (kind : AccessKind) → ¬ May history device frame kind

-- the most tickets that are pending at a time
abbrev pub pending_limit : ℕ
pending_limit = 256

-- the history, where so many tickets from the first on are confirmed, one after another
abbrev pub confirmed_from : ℕ → ℕ → History → History
confirmed_from first zero history = history
confirmed_from first (suc n) history = Confirmed (first + n) ∷ confirmed_from first n history
