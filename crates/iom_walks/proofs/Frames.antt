-- The frame that a load finds lies in memory: that of a translation that is kept, and that of an answer, where those of cached translations do.
use Rattle.std.proofs.Common.{◌≡◌, ◌<◌, ◌+◌, ◌*◌, ◌^◌, ◌++◌, ℕ, Bool, true, false, nat_lt, List, [], ◌∷◌, length, replicate, Option, None, Some, Result, Ok, Err, if◌then◌else◌, refl, sym, subst}
use Rattle.std.proofs.lemmas.Bool.{ltb-true}
use Rattle.iom_base.specs.Causes.{guest_page_fault_of, page_fault_of}
use Rattle.iom_base.specs.Rights.{allows}
use Rattle.iom_base.specs.Sizes.{levels_of}
use Rattle.iom_base.specs.Tables.{access_fault_of, entry_size}
use Rattle.iom_base.specs.declared.access.AccessKind.{AccessKind}
use Rattle.iom_base.specs.declared.access.AccessKind.TheVariants.{Read}
use Rattle.iom_base.specs.declared.cause.Cause.{Cause}
use Rattle.iom_base.specs.declared.cause.Cause.TheVariants.{AllInboundDisallowed}
use Rattle.iom_base.specs.declared.rights.Rights.{Rights}
use Rattle.iom_device_dir.specs.Located.{loaded_context}
use Rattle.iom_device_dir.specs.Paths.{context_words_at}
use Rattle.iom_device_dir.specs.declared.context.Context.{Context}
use Rattle.iom_phys_mem.specs.Words.{word_at}
use Rattle.iom_registers.specs.declared.directory.DirectoryMode.{DirectoryMode}
use Rattle.iom_registers.specs.declared.directory.DirectoryMode.TheVariants as mode
use Rattle.iom_registers.specs.declared.directory.DirectoryPointer.{DirectoryPointer}
use Rattle.iom_stage_walk.specs.Both.{entry_address, guest_address, plain}
use Rattle.iom_stage_walk.specs.Entries.{entry_read, slot}
use Rattle.iom_stage_walk.specs.Paths.{first_path, page_in}
use Rattle.iom_stage_walk.specs.Second.{reported, second_path}
use Rattle.iom_stage_walk.specs.declared.entry.Entry.{Entry}
use Rattle.iom_stage_walk.specs.declared.entry.Entry.TheVariants.{Outside, Invalid, Pointer, Leaf}
use Rattle.iom_stepped_requests.specs.Serving.{Remaining, Serves, Locates, Translates, allowed_for, begin, by_located, by_stages, cached_through, in_directory, in_tables, key_of, kept, kept_in_directory, kept_in_tables, load, served_or, space_of, way_to_context, without_directory}
use Rattle.iom_stepped_requests.specs.Standing.{still_serving}
use Rattle.iom_stepped_requests.specs.declared.request.Answer.{Answer}
use Rattle.iom_stepped_requests.specs.declared.request.Answer.TheVariants.{AsItIs, Cached, Reaches, Faults}
use Rattle.iom_stepped_requests.specs.declared.request.Request.{Request}
use Rattle.iom_stepped_requests.specs.declared.walk.RequestWalk.TheVariants.{InDirectory, InTables}
use Rattle.iom_stepped_requests.specs.declared.walk.Serving.{Serving}
use Rattle.iom_stepped_requests.specs.declared.walk.Serving.TheVariants.{GoesOn, Served}
use Rattle.iom_stepped_walk.specs.Directories.{directory_rest}
use Rattle.iom_stepped_walk.specs.Filled.{filled_places}
use Rattle.iom_stepped_walk.specs.Positions.{address_of, entries_below, entry_index, entry_rest, in_both, indices_of, rest_of}
use Rattle.iom_stepped_walk.specs.Steps.{TableAnswer}
use Rattle.iom_stepped_walk.specs.declared.guest.Both.{Both as BothStages}
use Rattle.iom_stepped_walk.specs.declared.guest.GuestEntry.{GuestEntry}
use Rattle.iom_stepped_walk.specs.declared.tables.TableWalk.{TableWalk}
use Rattle.iom_stepped_walk.specs.declared.tables.TableWalk.TheVariants.{InFirstStage, InSecondStage, ToGuestEntry, InGuestTable, ToGuestPage}
use Rattle.iom_tlb.specs.Content.{Translations}
use Rattle.iom_tlb.specs.declared.space.Space.{Space}
use Rattle.iom_tlb.specs.declared.trans_cache.Translation.{Translation}
use Rattle.iom_walk_loads.specs.Loads.{Walk, Ends, ReadsEntry, ReadsContext, after_load}
use Rattle.iom_walk_loads.specs.Tables.{InBoth, at_entry, at_guest_entry, down, faulted, first_rest, guest_down, guest_load, inside, is_canonical, is_lawful, lead, lead_rest, page_walk, reached, unreached, unread}
use Rattle.iom_walk_stops.specs.Stages.{stages_of, walk_of}
use Rattle.iom_walk_stops.specs.declared.stages.Stages.{Stages}
use Rattle.iom_walk_stops.specs.declared.stages.Stages.TheVariants.{Both, First, Second}
use Rattle.iom_walks.proofs.Kept.{sound_row}
use Rattle.iom_walks.specs.Caches.{to_keep}
use Rattle.iom_walks.specs.Calls.{Loads}
use Rattle.iom_walks.specs.Frames.{AreCachedIn, IsAnswerIn, IsKeptIn}
use Rattle.iom_walks.specs.Invariant.{AreWalks, IsServedAtMost, RowInvariant, UnderWayInvariant}
use Rattle.iom_walks.specs.Walks.{UnderWay, WalkRow}
use Rattle.iom_walks.specs.declared.outcome.Answered.{Answered}
use Rattle.iom_walks.specs.declared.outcome.Loaded.TheVariants as loaded

-- WHATEVER A WALK READS, the frame that it reaches is one of so many
abbrev ReachesIn : ℕ → Walk TableAnswer → Type 0
ReachesIn frames (Ends (Ok walked)) = walked.frame < frames
ReachesIn frames (Ends (Err fault)) = Unit {0}
ReachesIn frames (ReadsEntry address rest) = (given : Option ℕ) → ReachesIn frames (rest given)
ReachesIn frames (ReadsContext address rest) = (given : Result Context Cause) → ReachesIn frames (rest given)

module _ (frames : ℕ) where
  inside_in : (found : ℕ → Rights → ℕ → Walk TableAnswer) (outside : Walk TableAnswer) → ((f : ℕ) (r : Rights) (l : ℕ) → f < frames → ReachesIn frames (found f r l)) → ReachesIn frames outside
      → (f : ℕ) (r : Rights) (l : ℕ) → ReachesIn frames (inside frames found outside f r l)
  inside_in found outside ok err f r l = by (nat_lt f frames) (λ is. ltb-true f frames is)
    where
      by : (b : Bool) → (b ≡ true → f < frames) → ReachesIn frames (if b then found f r l else outside)
      by true lt = ok f r l (lt refl)
      by false lt = err

  down_in : (kind : AccessKind) (page access : Cause) (found : ℕ → Rights → ℕ → Walk TableAnswer) (stopped : Cause → Walk TableAnswer) → ((f : ℕ) (r : Rights) (l : ℕ) → ReachesIn frames (found f r l))
      → ((c : Cause) → ReachesIn frames (stopped c)) → (table : ℕ) (is : List ℕ) → ReachesIn frames (down kind page access found stopped table is)
  down_in kind page access found stopped ok err table [] = err page
  down_in kind page access found stopped ok err table (i ∷ below) = λ given. by (entry_read given) (λ next. down_in kind page access found stopped ok err next below)
    where
      leaf : (base : ℕ) (rights : Rights) (b : Bool) → ReachesIn frames (if b then found (base + page_in below) rights (length below) else stopped page)
      leaf base rights true = ok (base + page_in below) rights (length below)
      leaf base rights false = err page

      by : (x : Entry) → ((next : ℕ) → ReachesIn frames (down kind page access found stopped next below))
          → ReachesIn frames (at_entry kind page access found stopped below (λ next. down kind page access found stopped next below) x)
      by Outside follow = err access
      by Invalid follow = err page
      by (Pointer next) follow = follow next
      by (Leaf base rights) follow = leaf base rights (is_lawful kind base rights below)

  lead_rest_in : (kind original : AccessKind) (found : ℕ → Rights → ℕ → Walk TableAnswer) (stopped : Cause → Walk TableAnswer) → ((f : ℕ) (r : Rights) (l : ℕ) → f < frames → ReachesIn frames (found f r l))
      → ((c : Cause) → ReachesIn frames (stopped c)) → (table : ℕ) (is : List ℕ) → ReachesIn frames (lead_rest frames kind original found stopped table is)
  lead_rest_in kind original found stopped ok err table is =
      down_in kind (guest_page_fault_of original) (access_fault_of original) (inside frames found (stopped (access_fault_of original))) stopped
      (inside_in found (stopped (access_fault_of original)) ok (err (access_fault_of original))) err table is

  lead_in : (levels root : ℕ) (kind original : AccessKind) (found : ℕ → Rights → ℕ → Walk TableAnswer) (stopped : Cause → Walk TableAnswer) → ((f : ℕ) (r : Rights) (l : ℕ) → f < frames → ReachesIn frames (found f r l))
      → ((c : Cause) → ReachesIn frames (stopped c)) → (address : ℕ) → ReachesIn frames (lead frames levels root kind original found stopped address)
  lead_in levels root kind original found stopped ok err address = by (nat_lt address (2 ^ (9 * levels + 14)))
    where
      by : (b : Bool) → ReachesIn frames (if b then lead_rest frames kind original found stopped root (second_path levels address) else stopped (guest_page_fault_of original))
      by true = lead_rest_in kind original found stopped ok err root (second_path levels address)
      by false = err (guest_page_fault_of original)

  first_in : (kind : AccessKind) (table : ℕ) (is : List ℕ) → ReachesIn frames (first_rest frames kind table is)
  first_in kind table is =
      let found : ℕ → Rights → ℕ → Walk TableAnswer = λ f r l. Ends (Ok (record { frame = f; rights = r; level = l; guest_frames = replicate 4 None })) in
      let outside : Walk TableAnswer = Ends (Err (plain (access_fault_of kind))) in
      down_in kind (page_fault_of kind) (access_fault_of kind) (inside frames found outside) (λ cause. Ends (Err (plain cause)))
      (inside_in found outside (λ f r l lt. lt) tt) (λ c. tt) table is

-- in both stages
module _ (w : InBoth) where
  page_in_memory : (loaded : List ℕ) (page : ℕ) (given : Rights) (level : ℕ) → ReachesIn w.frames (page_walk w loaded page given level)
  page_in_memory loaded page given level =
      lead_in w.frames w.levels' w.second w.kind w.kind (reached w loaded given level) (unreached w page) (λ f r l lt. lt) (λ c. tt) (guest_address page w.address)

  guest_load_in : (loaded : List ℕ) (table i : ℕ) (below : List ℕ) (follow : ℕ → Walk TableAnswer) → ((next : ℕ) → ReachesIn w.frames (follow next)) → (frame : ℕ)
      → ReachesIn w.frames (guest_load w loaded table i below follow frame)
  guest_load_in loaded table i below follow on frame = λ given. by (entry_read given)
    where
      leaf : (base : ℕ) (rights : Rights) (b : Bool)
          → ReachesIn w.frames (if b then page_walk w (loaded ++ frame ∷ []) (base + page_in below) rights (length below) else faulted w)
      leaf base rights true = page_in_memory (loaded ++ frame ∷ []) (base + page_in below) rights (length below)
      leaf base rights false = tt

      by : (x : Entry) → ReachesIn w.frames (at_guest_entry w (loaded ++ frame ∷ []) below follow x)
      by Outside = tt
      by Invalid = tt
      by (Pointer next) = on next
      by (Leaf base rights) = leaf base rights (is_lawful w.kind base rights below)

  guest_in : (loaded : List ℕ) (table : ℕ) (is : List ℕ) → ReachesIn w.frames (guest_down w loaded table is)
  guest_in loaded table [] = tt
  guest_in loaded table (i ∷ below) =
      lead_in w.frames w.levels' w.second Read w.kind
      (λ frame rights level. guest_load w loaded table i below (λ next. guest_down w (loaded ++ frame ∷ []) next below) frame)
      (unread w table i)
      (λ frame rights level lt. guest_load_in loaded table i below (λ next. guest_down w (loaded ++ frame ∷ []) next below) (λ next. guest_in (loaded ++ frame ∷ []) next below) frame)
      (λ cause. tt) (entry_address (slot table i))

-- the rest of one that is at an entry of a guest's table
entry_in : (frames : ℕ) (both : BothStages) (entry : GuestEntry) (frame : ℕ) → ReachesIn frames (entry_rest (in_both frames both) entry frame)
entry_in frames both entry frame =
    let w : InBoth = in_both frames both in
    guest_load_in w (filled_places entry.loaded.frames) entry.table.number (entry_index entry w.address) (entries_below entry w.address)
    (λ next. guest_down w (filled_places entry.loaded.frames ++ frame ∷ []) next (entries_below entry w.address))
    (λ next. guest_in w (filled_places entry.loaded.frames ++ frame ∷ []) next (entries_below entry w.address)) frame

-- one that stands between two loads
rest_in : (frames : ℕ) (walk : TableWalk) → ReachesIn frames (rest_of frames walk)
rest_in frames (InFirstStage asked place) = first_in frames asked.kind place.table.number (indices_of place asked.address)
rest_in frames (InSecondStage asked place) =
    lead_rest_in frames asked.kind asked.kind (λ f r l. Ends (Ok (record { frame = f; rights = r; level = l; guest_frames = replicate 4 None })))
    (λ cause. Ends (Err (reported cause asked.address false))) (λ f r l lt. lt) (λ c. tt) place.table.number (indices_of place asked.address)
rest_in frames (ToGuestEntry both entry place) =
    lead_rest_in frames Read both.asked.kind (λ frame rights level. entry_rest (in_both frames both) entry frame)
    (unread (in_both frames both) entry.table.number (entry_index entry both.asked.address)) (λ f r l lt. entry_in frames both entry f) (λ c. tt)
    place.table.number (indices_of place (address_of entry both.asked.address))
rest_in frames (InGuestTable both entry frame) = entry_in frames both entry frame
rest_in frames (ToGuestPage both page place) =
    lead_rest_in frames both.asked.kind both.asked.kind (reached (in_both frames both) (filled_places page.loaded.frames) page.rights page.level)
    (unreached (in_both frames both) page.number) (λ f r l lt. lt) (λ c. tt) place.table.number (indices_of place (guest_address page.number both.asked.address))

-- ONE LOAD of it
after_load_in : (frames : ℕ) (memory : List (List ℕ)) (rest : Walk TableAnswer) → ReachesIn frames rest → ReachesIn frames (after_load memory rest)
after_load_in frames memory (Ends answer) is = is
after_load_in frames memory (ReadsEntry address rest) is = is (word_at entry_size memory address)
after_load_in frames memory (ReadsContext address rest) is = is (loaded_context (context_words_at memory address))

-- WHAT IS KEPT of it

kept_of : (frames : ℕ) (request : Request) (translated : Space) (rest : Walk TableAnswer) → ReachesIn frames rest → IsKeptIn frames (kept_in_tables request translated rest)
kept_of frames request translated (Ends (Ok walked)) is = is
kept_of frames request translated (Ends (Err fault)) is = tt
kept_of frames request translated (ReadsEntry address rest) is = tt
kept_of frames request translated (ReadsContext address rest) is = tt

of_directory : (frames : ℕ) (request : Request) (rest : Walk (Result Context Cause)) → IsKeptIn frames (kept_in_directory request rest)
of_directory frames request (Ends (Ok context)) = tt
of_directory frames request (Ends (Err cause)) = tt
of_directory frames request (ReadsEntry address rest) = tt
of_directory frames request (ReadsContext address rest) = tt

kept_standing : (memory : List (List ℕ)) (serving : Serving) → IsKeptIn (length memory) (kept memory (still_serving (length memory) serving))
kept_standing memory (GoesOn (InDirectory request anew walk)) = of_directory (length memory) request (after_load memory (directory_rest walk))
kept_standing memory (GoesOn (InTables request context translated walk)) =
    kept_of (length memory) request translated (after_load memory (rest_of (length memory) walk))
    (after_load_in (length memory) memory (rest_of (length memory) walk) (rest_in (length memory) walk))
kept_standing memory (Served answer) = tt

pub kept_in_memory : (memory : List (List ℕ)) (under_way : Option UnderWay) → IsKeptIn (length memory) (to_keep memory under_way)
kept_in_memory memory None = tt
kept_in_memory memory (Some under_way) = kept_standing memory under_way.serving

-- THE ANSWER that the last load gives
module _ (frames : ℕ) (cached : Translations) (cached_in : AreCachedIn frames cached) where
  -- what remains of it is an answer that names a frame of memory, or no answer yet
  abbrev ServesIn : Remaining → Type 0
  ServesIn (Serves answer) = IsAnswerIn frames answer
  ServesIn (Locates request anew rest) = Unit {0}
  ServesIn (Translates request context translated rest) = Unit {0}

  tables_serve : (request : Request) (context : Context) (translated : Space) (rest : Walk TableAnswer) → ReachesIn frames rest → ServesIn (in_tables request context translated rest)
  tables_serve request context translated (Ends (Ok walked)) is = is
  tables_serve request context translated (Ends (Err fault)) is = tt
  tables_serve request context translated (ReadsEntry address rest) is = tt
  tables_serve request context translated (ReadsContext address rest) is = tt

  walk_serves : (stages : Stages) (address : ℕ) (kind : AccessKind) → ReachesIn frames (walk_of frames stages address kind)
  walk_serves (First size root) address kind = by (is_canonical (levels_of size) address)
    where
      by : (b : Bool) → ReachesIn frames (if b then first_rest frames kind root.number (first_path (levels_of size) address) else Ends (Err (plain (page_fault_of kind))))
      by true = first_in frames kind root.number (first_path (levels_of size) address)
      by false = tt
  walk_serves (Second size root) address kind =
      lead_in frames (levels_of size) root.number kind kind (λ f r l. Ends (Ok (record { frame = f; rights = r; level = l; guest_frames = replicate 4 None })))
      (λ cause. Ends (Err (reported cause address false))) (λ f r l lt. lt) (λ c. tt) address
  walk_serves (Both first_size first second_size second) address kind = by (is_canonical (levels_of first_size) address)
    where
      w : InBoth
      w = record { frames = frames; levels' = levels_of second_size; second = second.number; address = address; kind = kind }

      by : (b : Bool) → ReachesIn frames (if b then guest_down w [] first.number (first_path (levels_of first_size) address) else Ends (Err (plain (page_fault_of kind))))
      by true = guest_in w [] first.number (first_path (levels_of first_size) address)
      by false = tt

  -- what is looked up is cached
  abbrev IsLookedUpIn : Option Translation → Type 0
  IsLookedUpIn None = Unit {0}
  IsLookedUpIn (Some translation) = translation.frame < frames

  allowed_in : (kind : AccessKind) (found : Option Translation) → ((translation : Translation) → found ≡ Some translation → translation.frame < frames) → IsLookedUpIn (allowed_for kind found)
  allowed_in kind None is = tt
  allowed_in kind (Some translation) is = by (allows translation.rights kind)
    where
      by : (b : Bool) → IsLookedUpIn (if b then Some translation else None)
      by true = is translation refl
      by false = tt

  looked_up_in : (request : Request) (context : Context) (stages : Option Stages) → IsLookedUpIn (cached_through cached request context stages)
  looked_up_in request context None = tt
  looked_up_in request context (Some stages) =
      let key = key_of request (space_of context stages) in
      allowed_in request.asked.kind (cached key) (cached_in key)

  stages_serve : (found : Option Translation) → IsLookedUpIn found → (request : Request) (context : Context) (stages : Option Stages) → ServesIn (by_stages frames found request context stages)
  stages_serve found is request context None = tt
  stages_serve (Some translation) is request context (Some stages) = is
  stages_serve None is request context (Some stages) =
      tables_serve request context (space_of context stages) (walk_of frames stages request.asked.address request.asked.kind)
      (walk_serves stages request.asked.address request.asked.kind)

  context_serves : (anew : Bool) (request : Request) (found : Result Context Cause) → ServesIn (by_located frames anew cached request found)
  context_serves true request (Ok context) =
      stages_serve None tt request context (stages_of context.first_stage context.second_stage)
  context_serves false request (Ok context) =
      let stages = stages_of context.first_stage context.second_stage in
      stages_serve (cached_through cached request context stages) (looked_up_in request context stages) request context stages
  context_serves anew request (Err cause) = tt

  directory_serves : (anew : Bool) (request : Request) (rest : Walk (Result Context Cause)) → ServesIn (in_directory frames anew cached request rest)
  directory_serves anew request (Ends found) = context_serves anew request found
  directory_serves anew request (ReadsEntry address rest) = tt
  directory_serves anew request (ReadsContext address rest) = tt

  load_serves : (memory : List (List ℕ)) → length memory ≡ frames → (serving : Serving) → IsServedAtMost serving → ServesIn (load memory cached (still_serving frames serving))
  load_serves memory long (GoesOn (InDirectory request anew walk)) is =
      subst (λ n. ServesIn (in_directory n anew cached request (after_load memory (directory_rest walk)))) (sym long) (directory_serves anew request (after_load memory (directory_rest walk)))
  load_serves memory long (GoesOn (InTables request context translated walk)) is =
      tables_serve request context translated (after_load memory (rest_of frames walk)) (after_load_in frames memory (rest_of frames walk) (rest_in frames walk))
  load_serves memory long (Served AsItIs) is = tt
  load_serves memory long (Served (Cached translation)) is = absurd is
  load_serves memory long (Served (Reaches walked)) is = absurd is
  load_serves memory long (Served (Faults fault)) is = tt

  begin_serves : (ddtp : DirectoryPointer) (context : Option Context) (request : Request) → ServesIn (begin frames ddtp context cached request)
  begin_serves ddtp context request = by (without_directory ddtp.mode) (no_frame ddtp.mode)
    where
      no_frame : (mode : DirectoryMode) → (answer : Answer) → without_directory mode ≡ Some answer → IsAnswerIn frames answer
      no_frame mode.Off answer is = let same : Faults (plain AllInboundDisallowed) ≡ answer = cc in subst (IsAnswerIn frames) same tt
      no_frame mode.Bare answer is = let same : AsItIs ≡ answer = cc in subst (IsAnswerIn frames) same tt
      no_frame mode.OneLevel answer is = cc
      no_frame mode.TwoLevels answer is = cc
      no_frame mode.ThreeLevels answer is = cc

      by : (without : Option Answer) → ((answer : Answer) → without ≡ Some answer → IsAnswerIn frames answer)
          → ServesIn (served_or without (in_directory frames false cached request (way_to_context ddtp context request.device)))
      by (Some answer) is = is answer refl
      by None is = directory_serves false request (way_to_context ddtp context request.device)

-- A REQUEST THAT IS SERVED when it begins
pub begun_in_memory : (frames : ℕ) (cached : Translations) → AreCachedIn frames cached → (ddtp : DirectoryPointer) (context : Option Context) (request : Request) (answer : Answer)
    → Serves answer ≡ begin frames ddtp context cached request → IsAnswerIn frames answer
begun_in_memory frames cached cached_in ddtp context request answer is =
    subst (ServesIn frames cached cached_in) (sym is) (begin_serves frames cached cached_in ddtp context request)

-- ONE THAT A LOAD ENDS
pub ended_in_memory : (memory : List (List ℕ)) (cached : Translations) → AreCachedIn (length memory) cached → (rows : List WalkRow) → AreWalks rows → (device : ℕ) (ended : Answered) (new : List WalkRow)
    → Loads memory cached rows device (loaded.Ended ended) new → IsAnswerIn (length memory) ended.answer
ended_in_memory memory cached cached_in rows invariants device ended new loads =
    let sound : UnderWayInvariant loads.row.device loads.row.bytes loads.under_way =
    subst (RowInvariant loads.row.device loads.row.bytes) loads.walks (sound_row rows device loads.row invariants.rows_are loads.was_there) in
    subst (ServesIn (length memory) cached cached_in) (sym loads.answered) (load_serves (length memory) cached cached_in memory refl loads.under_way.serving sound.served)
