-- The last load of a walk, where all its loads are made from one memory.
use Rattle.std.specs.Prelude.{◌≡◌, ℕ, List, replicate, Option, None, Some}
use Rattle.iom_base.specs.Tables.{entry_size}
use Rattle.iom_device_dir.specs.Located.{loaded_context}
use Rattle.iom_device_dir.specs.Paths.{context_words_at}
use Rattle.iom_phys_mem.specs.Words.{word_at}
use Rattle.iom_walk_loads.specs.Loads.{Walk, Ends, ReadsEntry, ReadsContext, after_loads}

-- a load of this address is the last where no later one is made
abbrev pub later_or : ℕ → Option ℕ → Option ℕ
later_or address None = Some address
later_or address (Some later) = Some later

-- THE LAST LOAD is from this physical address; None where the walk makes no load
abbrev pub last_load : {A : Type 0} → List (List ℕ) → Walk A → Option ℕ
last_load memory (Ends answer) = None
last_load memory (ReadsEntry address rest) = later_or address (last_load memory (rest (word_at entry_size memory address)))
last_load memory (ReadsContext address rest) = later_or address (last_load memory (rest (loaded_context (context_words_at memory address))))

-- this remains of the walk once some of its loads are made
abbrev pub ComesTo : {A : Type 0} → List (List ℕ) → Walk A → Walk A → Type 0
ComesTo memory whole rest = (made : ℕ) × (rest ≡ after_loads (replicate made memory) whole)
