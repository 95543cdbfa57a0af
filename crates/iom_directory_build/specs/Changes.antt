-- What a change of one id's context leaves.
use Rattle.std.specs.Prelude.{◌≡◌, ◌≢◌, ℕ, ◌/◌, ◌<◌, List, length, slice_get, Some, Result}
use Rattle.iom_base.specs.Sizes.{page_size}
use Rattle.iom_base.specs.declared.cause.Cause.{Cause}
use Rattle.iom_phys_mem.specs.Words.{word_at}
use Rattle.iom_device_dir.specs.declared.context.Context.{Context}
use Rattle.iom_device_dir.specs.Paths.{ddi, context_size, context_place, context_words_at, ids_below}
use Rattle.iom_device_dir.specs.Located.{loaded_context, path_end_from}
use Rattle.iom_directory_build.specs.Pages.{page_at, HasPage}

-- the path of each other id ends as it did
abbrev pub KeepsOthers : List (List ℕ) → List (List ℕ) → ℕ → ℕ → ℕ → Type 0
KeepsOthers old new top root id =
    (other : ℕ) → other < ids_below top → other ≢ id → path_end_from new top root other ≡ path_end_from old top root other

-- each page of the directory is where it was, on the path of each id: new ones may come
abbrev pub KeepsPages : List (List ℕ) → List (List ℕ) → ℕ → ℕ → Type 0
KeepsPages old new top root =
    (level id page : ℕ) → id < ids_below top → page_at old top root level id ≡ Some page → page_at new top root level id ≡ Some page

-- each frame that is no page of the directory, as it is afterwards, has the bytes that it had
abbrev pub KeepsOutsideDirectory : List (List ℕ) → List (List ℕ) → ℕ → ℕ → Type 0
KeepsOutsideDirectory old new top root = (f : ℕ) → (HasPage new top root f → ⊥) → slice_get new f ≡ slice_get old f

-- a word was stored at an address: no other word and no other frame changed
pub record StoresOneWord (old new : List (List ℕ)) (address word : ℕ) : Type 0 where
  pub here : word_at 8 new address ≡ Some word
  pub elsewhere : (a : ℕ) → a ≢ address → word_at 8 new a ≡ word_at 8 old a
  pub frames : (n : ℕ) → n ≢ address / page_size → slice_get new n ≡ slice_get old n
  pub size : length new ≡ length old

-- the id's place in a page of level 0 was written, and this is found there: no other place and no other frame changed
pub record WritesPlace (old new : List (List ℕ)) (page id : ℕ) (found : Result Context Cause) : Type 0 where
  pub here : loaded_context (context_words_at new (context_place page (ddi 0 id))) ≡ found
  pub elsewhere : (a : ℕ) → a / context_size ≢ context_place page (ddi 0 id) / context_size → word_at 8 new a ≡ word_at 8 old a
  pub frames : (n : ℕ) → n ≢ page → slice_get new n ≡ slice_get old n
  pub size : length new ≡ length old
