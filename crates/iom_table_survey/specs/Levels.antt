-- Page tables, level by level: the frames of the tables of each level, and what their leaves map.
use Rattle.std.specs.Prelude.{◌≡◌, ◌⊎◌, ℕ, zero, suc, ◌%◌, ◌^◌, ◌<◌, true}
use Rattle.iom_base.specs.Rights.{allows}
use Rattle.iom_base.specs.Tables.{table_entries}
use Rattle.iom_base.specs.declared.access.AccessKind.{AccessKind}
use Rattle.iom_stage_walk.specs.Entries.{Entries, slot}
use Rattle.iom_stage_walk.specs.declared.entry.Entry.{Entry}
use Rattle.iom_stage_walk.specs.declared.entry.Entry.TheVariants.{Outside, Invalid, Pointer, Leaf}
use Rattle.iom_table_survey.specs.Rows.{IsInRun}

-- the entry names this frame as that of the next table
abbrev pub PointsTo : Entry → ℕ → Type 0
PointsTo Outside frame = ⊥
PointsTo Invalid frame = ⊥
PointsTo (Pointer next) frame = frame ≡ next
PointsTo (Leaf base rights) frame = ⊥

-- how many pages a leaf spans, with so many levels below it
abbrev pub span : ℕ → ℕ
span below = table_entries ^ below

-- the entry is a leaf that is aligned to what it spans, maps the frame, and allows this kind of access
abbrev pub MapsFrame : Entry → ℕ → AccessKind → ℕ → Type 0
MapsFrame Outside below kind frame = ⊥
MapsFrame Invalid below kind frame = ⊥
MapsFrame (Pointer next) below kind frame = ⊥
MapsFrame (Leaf base rights) below kind frame = (base % span below ≡ 0) × (IsInRun base (span below) frame × (allows rights kind ≡ true))

-- some entry of the frame of a table does
abbrev pub PointsFrom : Entries → ℕ → ℕ → Type 0
PointsFrom e table frame = (index : ℕ) × (index < table_entries) × PointsTo (e (slot table index)) frame

abbrev pub MapsFrom : Entries → ℕ → AccessKind → ℕ → ℕ → Type 0
MapsFrom e below kind table frame = (index : ℕ) × (index < table_entries) × MapsFrame (e (slot table index)) below kind frame

-- some entry of a level does, whose tables stand in these frames
abbrev pub IsPointedTo : Entries → (ℕ → Type 0) → ℕ → Type 0
IsPointedTo e IsOfLevel frame = (table : ℕ) × IsOfLevel table × PointsFrom e table frame

abbrev pub IsMappedBy : Entries → (ℕ → Type 0) → ℕ → AccessKind → ℕ → Type 0
IsMappedBy e IsOfLevel below kind frame = (table : ℕ) × IsOfLevel table × MapsFrom e below kind table frame

-- LEVELS, of which those with so many below them have these entries

-- from the tables in these frames on, with so many levels, the frame is one of the tables'
abbrev pub IsTableIn : (ℕ → Entries) → (ℕ → Type 0) → ℕ → ℕ → Type 0
IsTableIn e IsOfLevel zero frame = ⊥
IsTableIn e IsOfLevel (suc below) frame = IsOfLevel frame ⊎ IsTableIn e (IsPointedTo (e below) IsOfLevel) below frame

-- some leaf maps it, for this kind of access
abbrev pub IsMappedIn : (ℕ → Entries) → (ℕ → Type 0) → ℕ → AccessKind → ℕ → Type 0
IsMappedIn e IsOfLevel zero kind frame = ⊥
IsMappedIn e IsOfLevel (suc below) kind frame = IsMappedBy (e below) IsOfLevel below kind frame ⊎ IsMappedIn e (IsPointedTo (e below) IsOfLevel) below kind frame

-- the same where all levels have the same entries
abbrev pub IsTable : Entries → (ℕ → Type 0) → ℕ → ℕ → Type 0
IsTable e = IsTableIn (λ below. e)

abbrev pub IsMapped : Entries → (ℕ → Type 0) → ℕ → AccessKind → ℕ → Type 0
IsMapped e = IsMappedIn (λ below. e)
