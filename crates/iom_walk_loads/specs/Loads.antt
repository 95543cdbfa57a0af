-- A walk that may stop between any two of its loads: it has ended, or makes one load, and what remains of it depends on what memory gives. (RISC-V IOMMU
-- specification, section 2.3: the loads of "Process to locate the Device-context", section 2.3.1, and of "Process to translate an IOVA", section 2.3. Neither
-- they nor the Privileged Architecture, section 12.3.2, order the loads of a walk with stores by others: each is of memory as it is at that load.)
use Rattle.std.specs.Prelude.{ℕ, zero, suc, List, [], ◌∷◌, Option, Result, ⊤}
use Rattle.iom_base.specs.declared.cause.Cause.{Cause}
use Rattle.iom_base.specs.Tables.{entry_size}
use Rattle.iom_device_dir.specs.Paths.{context_words_at}
use Rattle.iom_device_dir.specs.declared.context.Context.{Context}
use Rattle.iom_device_dir.specs.Located.{loaded_context}
use Rattle.iom_phys_mem.specs.Words.{word_at}

pub data Walk (A : Type 0) : Type 0 where
  -- it has ended, and this is its answer
  Ends : (answer : A) → Walk A
  -- it loads the 8 bytes of an entry at this address, of a table or of a directory page; None where they are outside memory
  ReadsEntry : (address : ℕ) (rest : Option ℕ → Walk A) → Walk A
  -- it loads the 32 bytes of a device context at this address: a lawful one, or the cause that they have
  ReadsContext : (address : ℕ) (rest : Result Context Cause → Walk A) → Walk A

-- ONE LOAD: what remains of the walk once its next load is made from this memory. Of one that has ended nothing changes
abbrev pub after_load : {A : Type 0} → List (List ℕ) → Walk A → Walk A
after_load memory (Ends answer) = Ends answer
after_load memory (ReadsEntry address rest) = rest (word_at entry_size memory address)
after_load memory (ReadsContext address rest) = rest (loaded_context (context_words_at memory address))

-- A WALK IN FLIGHT: what remains once so many loads are made, each from the memory of its own moment, the first from the first of these
abbrev pub after_loads : {A : Type 0} → List (List (List ℕ)) → Walk A → Walk A
after_loads [] walk = walk
after_loads (memory ∷ later) walk = after_loads later (after_load memory walk)

-- A WHOLE WALK: its answer where all its loads are made from one memory
abbrev pub made_from : {A : Type 0} → List (List ℕ) → Walk A → A
made_from memory (Ends answer) = answer
made_from memory (ReadsEntry address rest) = made_from memory (rest (word_at entry_size memory address))
made_from memory (ReadsContext address rest) = made_from memory (rest (loaded_context (context_words_at memory address)))

-- whatever its loads give, it makes so many at most
abbrev pub EndsWithin : {A : Type 0} → ℕ → Walk A → Type 0
EndsWithin n (Ends answer) = ⊤
EndsWithin zero (ReadsEntry address rest) = ⊥
EndsWithin zero (ReadsContext address rest) = ⊥
EndsWithin (suc n) (ReadsEntry address rest) = (given : Option ℕ) → EndsWithin n (rest given)
EndsWithin (suc n) (ReadsContext address rest) = (given : Result Context Cause) → EndsWithin n (rest given)
