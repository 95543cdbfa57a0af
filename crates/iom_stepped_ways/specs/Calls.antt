-- The calls of hardware whose walks make one load an event, with what each answers, and one after another.
use Rattle.std.specs.Prelude.{◌≡◌, ℕ, ◌+◌, Bool, true, List, [], ◌∷◌, Option, None, Some, Result, Ok, Err, OnOk, OnErr, ⊤}
use Rattle.iom_base.specs.declared.access.Access.{Access}
use Rattle.iom_base.specs.declared.access.AccessKind.TheVariants.{Write}
use Rattle.iom_base.specs.declared.refusal.Refusal.{Refusal}
use Rattle.iom_board.specs.BoardParts.{BoardParts}
use Rattle.iom_board.specs.Commits.{ResetsAnyDevice, TakesCommand}
use Rattle.iom_board.specs.Invariant.{BoardInvariant}
use Rattle.iom_board.specs.Senders.{untranslated_by, cached_by}
use Rattle.iom_board.specs.declared.answers.CacheReply.{CacheReply}
use Rattle.iom_board.specs.declared.sender.Sender.{Sender}
use Rattle.iom_inflight.specs.declared.made.MadeAt.{MadeAt}
use Rattle.iom_iommu.specs.Parts.{registers_of}
use Rattle.iom_iommu.specs.Stepped.{begins_anew, BeginsAnewAfter}
use Rattle.iom_iommu.specs.declared.begun.Begun.{Begun}
use Rattle.iom_iommu.specs.declared.begun.Load.{Load as Loaded}
use Rattle.iom_iommu.specs.declared.fetched.Fetched.{Fetched}
use Rattle.iom_iommu.specs.declared.reply.Reply.{Reply}
use Rattle.iom_stepped_board.specs.Beside.{AreBeside}
use Rattle.iom_stepped_board.specs.Requests.{BeginsAccessBeside, MakesLoad, RequestsTranslatedBeside}
use Rattle.iom_stepped_board.specs.ThroughCache.{RequestsThroughCacheBeside}
use Rattle.iom_walks.specs.Calls.{given_up}
use Rattle.iom_walks.specs.Invariant.{AreWalks}
use Rattle.iom_walks.specs.Walks.{WalkRow, row_of}
use Rattle.iom_hardware_ways.specs.Calls.{HardwareCall, Commit, CallEffect}

pub data SteppedCall : Type 0 where
  -- a call of the board alone, which leaves what is under way
  Alone : (call : HardwareCall) → SteppedCall
  Begin : (sender : Sender) (id : ℕ) (access : Access) (answer : Result Begun Refusal) → SteppedCall
  Load : (id : ℕ) (answer : Result Loaded Refusal) → SteppedCall
  TranslatedBeside : (id : ℕ) (access : Access) (answer : Result Reply Refusal) → SteppedCall
  ThroughCacheBeside : (sender : Sender) (id : ℕ) (access : Access) (answer : Result CacheReply Refusal) → SteppedCall
  FetchBeside : (fetched : Fetched) → SteppedCall
  ResetBeside : (id : ℕ) (answer : Result (Unit {0}) Refusal) → SteppedCall

-- what each does is said of the stepped board itself: of the board, and of what is under way beside it
abbrev pub SteppedEffect : SteppedCall → BoardParts → List WalkRow → BoardParts → List WalkRow → Type 0
SteppedEffect (Alone call) old rows new new_rows = CallEffect call old new × (new_rows ≡ rows)
SteppedEffect (Begin sender id access answer) old rows new new_rows = BeginsAccessBeside (untranslated_by sender) old rows id access answer new new_rows
SteppedEffect (Load id answer) old rows new new_rows = MakesLoad old rows id answer new new_rows
SteppedEffect (TranslatedBeside id access answer) old rows new new_rows = RequestsTranslatedBeside old rows id access answer new × (new_rows ≡ rows)
SteppedEffect (ThroughCacheBeside sender id access answer) old rows new new_rows =
    RequestsThroughCacheBeside (cached_by sender) old rows id access answer new × (new_rows ≡ rows)
SteppedEffect (FetchBeside fetched) old rows new new_rows =
    TakesCommand old fetched new × BeginsAnewAfter (begins_anew fetched) (registers_of new.iommu).ddtp rows new_rows
SteppedEffect (ResetBeside id answer) old rows new new_rows =
    ResetsAnyDevice old id answer new × OnOk answer (new_rows ≡ given_up rows (row_of rows id)) × OnErr answer (new_rows ≡ rows)

-- no write of a device that software trusts is made: that counts as a store of software
abbrev pub IsNoTrustedWrite : (ℕ → Bool) → ℕ → Result (Option MadeAt) Refusal → Type 0
IsNoTrustedWrite trusted id (Ok (Some made)) = trusted id ≡ true → ¬ (made.kind ≡ Write)
IsNoTrustedWrite trusted id (Ok None) = ⊤
IsNoTrustedWrite trusted id (Err why) = ⊤

abbrev pub WritesUntrusted : (ℕ → Bool) → HardwareCall → Type 0
WritesUntrusted trusted (Commit id answer) = IsNoTrustedWrite trusted id answer
WritesUntrusted trusted _ = ⊤

abbrev pub IsByHardware : (ℕ → Bool) → SteppedCall → Type 0
IsByHardware trusted (Alone call) = WritesUntrusted trusted call
IsByHardware trusted _ = ⊤

-- what stays true beside each call, as each asks for it and leaves it
pub record SteppedInvariant (parts : BoardParts) (rows : List WalkRow) (events : ℕ) : Type 0 where
  pub board : BoardInvariant parts events
  pub beside : AreBeside parts rows
  pub walks : AreWalks rows

-- These calls one after another, after so many events
abbrev pub DoSteppedInTurn : (ℕ → Bool) → ℕ → BoardParts → List WalkRow → List SteppedCall → BoardParts → List WalkRow → Type 0
DoSteppedInTurn trusted events old rows [] new new_rows = (new ≡ old) × (new_rows ≡ rows)
DoSteppedInTurn trusted events old rows (first ∷ others) new new_rows =
    SteppedInvariant old rows events × IsByHardware trusted first
    × ((between : BoardParts) × (between_rows : List WalkRow) × SteppedEffect first old rows between between_rows
    × DoSteppedInTurn trusted (events + 1) between between_rows others new new_rows)
