-- What is written into a directory, as memory is afterwards.
use Rattle.std.specs.Prelude.{ℕ, zero, suc, ◌+◌, ◌*◌, ◌^◌, List, [], ◌∷◌, Option, Some, None}
use Rattle.iom_phys_mem.specs.Words.{with_word}
use Rattle.iom_device_dir.specs.declared.context.Context.{Context}
use Rattle.iom_device_dir.specs.Words.{context_word}
use Rattle.iom_device_dir.specs.Encoded.{encoded_context}
use Rattle.iom_device_dir.specs.Paths.{ddi, entry_place, context_place}
use Rattle.iom_directory_build.specs.Pages.{next_page, page_at}

-- memory after words are stored at addresses, one after another: each pair is an address and its word
abbrev pub with_words : List (List ℕ) → List (ℕ × ℕ) → List (List ℕ)
with_words memory [] = memory
with_words memory ((address, word) ∷ later) = with_words (with_word 8 memory address word) later

-- a word of the 32 bytes of a context
unfoldable pub encoded_word : Context → ℕ → ℕ
encoded_word context k = context_word (encoded_context context) k

-- the four words of a context at its place. The one that makes it valid comes last
abbrev pub context_stores : ℕ → Context → List (ℕ × ℕ)
context_stores place context =
    (place + 24, encoded_word context 3) ∷ (place + 16, encoded_word context 2) ∷ (place + 8, encoded_word context 1) ∷ (place, encoded_word context 0) ∷ []

-- zeros in its place. The one that makes it invalid comes first
abbrev pub cleared_stores : ℕ → List (ℕ × ℕ)
cleared_stores place = (place, 0) ∷ (place + 8, 0) ∷ (place + 16, 0) ∷ (place + 24, 0) ∷ []

-- memory after a context is written at the id's place in a page of level 0
abbrev pub with_context_at : List (List ℕ) → ℕ → ℕ → Context → List (List ℕ)
with_context_at memory page id context = with_words memory (context_stores (context_place page (ddi 0 id)) context)

-- memory after the id's place in a page of level 0 is cleared
abbrev pub cleared_at : List (List ℕ) → ℕ → ℕ → List (List ℕ)
cleared_at memory page id = with_words memory (cleared_stores (context_place page (ddi 0 id)))

-- the word of the entry that names a page: its number in bits 53:10, V, and nothing else
abbrev pub entry_word : ℕ → ℕ
entry_word page = page * 2 ^ 10 + 1

-- memory after the id's entry in a directory page of a level is written: it names the next page
abbrev pub with_entry_at : List (List ℕ) → ℕ → ℕ → ℕ → ℕ → List (List ℕ)
with_entry_at memory page level id next = with_word 8 memory (entry_place page (ddi level id)) (entry_word next)

-- where the entry names a page that one is followed, and else the first of the pages is hung there
abbrev pub hung_below : Option ℕ → List ℕ → (ℕ → List ℕ → List (List ℕ)) → (ℕ → List ℕ → List (List ℕ)) → List (List ℕ) → List (List ℕ)
hung_below (Some next) pages follow hang memory = follow next pages
hung_below None [] follow hang memory = memory
hung_below None (next ∷ pages) follow hang memory = hang next pages

-- memory after the missing pages are hung on the id's path, from the directory page of a level down, and its context is written
abbrev pub hung : List (List ℕ) → ℕ → ℕ → ℕ → List ℕ → Context → List (List ℕ)
hung memory zero page id pages context = with_context_at memory page id context
hung memory (suc level) page id pages context =
    hung_below (next_page memory page (suc level) id) pages
    (λ next left. hung memory level next id left context)
    (λ next left. hung (with_entry_at memory page (suc level) id next) level next id left context)
    memory

-- memory after the page's place of the id is cleared, where there is a page
abbrev pub cleared_where : List (List ℕ) → ℕ → Option ℕ → List (List ℕ)
cleared_where memory id (Some page) = cleared_at memory page id
cleared_where memory id None = memory

-- memory after the id's context is cleared: 32 bytes, where its path has a page of level 0
abbrev pub without_context : List (List ℕ) → ℕ → ℕ → ℕ → List (List ℕ)
without_context memory top root id = cleared_where memory id (page_at memory top root 0 id)
