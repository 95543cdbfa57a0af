-- The loop that hangs the missing pages on a path, level by level.
use Rattle.std.proofs.Common.{zero, suc, ◌≡◌, ◌≢◌, ◌⊎◌, ◌+◌, ◌-◌, ◌^◌, ◌<◌, ◌≤◌, ◌∙◌, inl, inr, ℕ, List, ◌∷◌, length, drop, get_or, slice_get, slice_index, Option, Some, None, Ok, refl, sym, ap, subst, arith, add-one, drop-cons, is_some, IsSome}
use Rattle.std.specs.Prelude.{◌↔◌}
use Rattle.std.specs.List.{AllPairs, Contains}
use Rattle.std.specs.Option.{option_and_then}
use Rattle.std.proofs.lemmas.List.Elements.{All-get_or}
use Rattle.std.proofs.lemmas.Bool.Decides.{eqb_tells}
use Rattle.std.proofs.lemmas.Grind.{get_or_default_zero}
use Rattle.iom_phys_mem.specs.Words.{zeroed}
use Rattle.iom_device_dir.specs.declared.context.Context.{Context}
use Rattle.iom_device_dir.specs.Paths.{ddi, entry_place, ids_below}
use Rattle.iom_device_dir.specs.Located.{path_end_from}
use Rattle.iom_directory_build.specs.Pages.{next_page, page_at, HasPage, HasWholePath, IsDirectory, missing_below, missing_pages, AreFreshPages}
use Rattle.iom_directory_build.specs.Written.{entry_word, with_entry_at, with_context_at, hung_below, hung}
use Rattle.iom_directory_build.specs.Changes.{StoresOneWord, WritesPlace, KeepsOthers, KeepsPages, KeepsOutsideDirectory}
use Rattle.iom_directory_build.proofs.Paths.{at_root, goes_down, to_level, one_down, none_follows, past_root, level_within}
use Rattle.iom_directory_build.proofs.Prefixes.{index_fits}
use Rattle.iom_directory_build.proofs.Words.{zero_next}
use Rattle.iom_directory_build.proofs.Places.{writes}
use Rattle.iom_directory_build.proofs.Hangs.{Hangs, pages_after, new_page_at, pages_hung, ends_hung, directory_hung, outside_hung, zero_hung}

-- the pages that are used so far stand on the path down to a level, and every path ends as it did
pub record Hung (old now : List (List ℕ)) (top root id : ℕ) (pages : List ℕ) (context : Context) (level page used : ℕ) : Type 0 where
  pub within : level ≤ top
  pub directory : IsDirectory now top root
  pub at : page_at now top root level id ≡ Some page
  pub count : length pages ≡ used + missing_pages now level page id
  pub zero : (n : ℕ) → used ≤ n → n < length pages → slice_get now (slice_index pages n) ≡ Some zeroed
  pub fresh : (n : ℕ) → used ≤ n → n < length pages → HasPage now top root (slice_index pages n) → ⊥
  pub has : (f : ℕ) → HasPage now top root f ↔ (HasPage old top root f ⊎ ((n : ℕ) × (n < used) × (f ≡ slice_index pages n)))
  pub ends : (other : ℕ) → other < ids_below top → path_end_from now top root other ≡ path_end_from old top root other
  pub outside : KeepsOutsideDirectory old now top root
  pub size : length now ≡ length old
  pub keeps : KeepsPages old now top root
  pub writes : hung now level page id (drop used pages) context ≡ hung old top root id pages context

drop_at : (xs : List ℕ) (k d : ℕ) → k < length xs → drop k xs ≡ get_or xs k d ∷ drop (k + 1) xs
drop_at xs k d lt = rw (add-one) (drop-cons xs k d lt)

-- what is missing from a page of a level above 0
pub missing_at : (m : List (List ℕ)) (level page id : ℕ) (o : Option ℕ) → next_page m page (suc level) id ≡ o → missing_pages m (suc level) page id ≡ missing_below o (suc level) (λ next. missing_pages m level next id)
missing_at m level page id o named = ap (λ x. missing_below x (suc level) (λ next. missing_pages m level next id)) named

there : (o : Option ℕ) → IsSome o → (f : ℕ) × (o ≡ Some f)
there None some = absurd (cc)
there (Some f) some = (f, refl)

-- a whole path lacks no page
pub whole_path : (m : List (List ℕ)) (top root id f : ℕ) → page_at m top root 0 id ≡ Some f → missing_pages m top root id ≡ 0
whole_path m zero root id f at = refl
whole_path m (suc top) root id f at =
    let on = none_follows (λ next. page_at m top next 0 id) (next_page m root (suc top) id) f (sym (past_root m top root 0 id (omega arith)) ∙ at) in
    missing_at m top root id (Some on.0) on.1 ∙ whole_path m top on.0 id f on.2

pub whole_path_there : (m : List (List ℕ)) (top root id : ℕ) → IsSome (page_at m top root 0 id) → missing_pages m top root id ≡ 0
whole_path_there m top root id some = let at = there (page_at m top root 0 id) some in whole_path m top root id at.0 at.1

missing_zeroed : (m : List (List ℕ)) (level page id : ℕ) → slice_get m page ≡ Some zeroed → missing_pages m level page id ≡ level
missing_zeroed m zero page id here = refl
missing_zeroed m (suc level) page id here = missing_at m level page id None (zero_next m page (suc level) id here)

-- a path that has no page of a level has none below
pub none_lower : (m : List (List ℕ)) (top root id level : ℕ) → level ≤ top → page_at m top root level id ≡ None → (lower : ℕ) → lower ≤ level → page_at m top root lower id ≡ None
none_lower m top root id level le none =
    to_level (λ lower. page_at m top root lower id ≡ None) level none
    (λ lower lt above. one_down m top root lower id (omega (arith, le, lt)) ∙ ap (λ o. option_and_then (λ q. next_page m q (suc lower) id) o) above)

pub hung_start : (old : List (List ℕ)) (top root id : ℕ) (pages : List ℕ) (context : Context) → IsDirectory old top root → length pages ≡ missing_pages old top root id → AreFreshPages old top root pages
    → Hung old old top root id pages context top root 0
hung_start old top root id pages context d count fresh =
    record {
      within = omega arith;
      directory = d;
      at = at_root old top root id;
      count = omega (arith, count);
      zero = λ n le lt. All-get_or (λ f. slice_get old f ≡ Some zeroed) pages n 0 lt fresh.zero;
      fresh = λ n le lt. All-get_or (λ f. HasPage old top root f → ⊥) pages n 0 lt fresh.outside;
      has = λ f. (λ h. inl h, λ either. elim either [ inl h ↦ h | inr x ↦ absurd (let lt = x.1 in omega (arith, lt)) ]);
      ends = λ other lt. refl;
      outside = λ f out. refl;
      size = refl;
      keeps = λ lower other f lt at. at;
      writes = refl;
    }

-- an entry that names a page is followed
pub hung_down : (old now : List (List ℕ)) (top root id : ℕ) (pages : List ℕ) (context : Context) (level page used next : ℕ) → Hung old now top root id pages context (suc level) page used
    → next_page now page (suc level) id ≡ Some next → Hung old now top root id pages context level next used
hung_down old now top root id pages context level page used next h named =
    let le = h.within in
    record {
      within = omega (arith, le);
      directory = h.directory;
      at = goes_down now top root level id page next (omega (arith, le)) h.at named;
      count = h.count ∙ ap (λ n. used + n) (missing_at now level page id (Some next) named);
      zero = h.zero;
      fresh = h.fresh;
      has = h.has;
      ends = h.ends;
      outside = h.outside;
      size = h.size;
      keeps = h.keeps;
      writes = sym (ap (λ o. hung_below o (drop used pages) (λ n left. hung now level n id left context) (λ n left. hung (with_entry_at now page (suc level) id n) level n id left context) now) named) ∙ h.writes;
    }

-- a page is left where an entry names none
pub page_left : (old now : List (List ℕ)) (top root id : ℕ) (pages : List ℕ) (context : Context) (level page used : ℕ) → Hung old now top root id pages context (suc level) page used
    → next_page now page (suc level) id ≡ None → used < length pages
page_left old now top root id pages context level page used h named =
    let count : length pages ≡ used + suc level = h.count ∙ ap (λ n. used + n) (missing_at now level page id None named) in omega (arith, count)

-- and that one is zero
pub next_zero : (old now : List (List ℕ)) (top root id : ℕ) (pages : List ℕ) (context : Context) (n page used : ℕ) → 1 < n → Hung old now top root id pages context (n - 1) page used
    → next_page now page (n - 1) id ≡ None → slice_get now (slice_index pages used) ≡ Some zeroed
next_zero old now top root id pages context n page used lt h named =
    let up : n - 1 ≡ suc (n - 1 - 1) = omega (arith, lt) in
    h.zero used (omega arith)
    (page_left old now top root id pages context (n - 1 - 1) page used (subst (λ l. Hung old now top root id pages context l page used) up h)
    (subst (λ l. next_page now page l id ≡ None) up named))

pub page_inside : (old now : List (List ℕ)) (top root id : ℕ) (pages : List ℕ) (context : Context) (level page used : ℕ) → id < ids_below top → Hung old now top root id pages context level page used → page < length now
page_inside old now top root id pages context level page used in_range h = h.directory.inside page (level, id, h.within, in_range, h.at)

module _ (old mid new : List (List ℕ)) (top root id : ℕ) (pages : List ℕ) (context : Context) (level page used : ℕ) (low : top ≤ 2) (in_range : id < ids_below top) (distinct : AllPairs (λ f g. f ≢ g) pages) (small : slice_index pages used < 2 ^ 44) (h : Hung old mid top root id pages context (suc level) page used) (named : next_page mid page (suc level) id ≡ None) (stores : StoresOneWord mid new (entry_place page (ddi (suc level) id)) (entry_word (slice_index pages used))) (whole : new ≡ with_entry_at mid page (suc level) id (slice_index pages used)) where
  abbrev f : ℕ
  f = slice_index pages used

  room : used < length pages
  room = page_left old mid top root id pages context level page used h named

  hangs : Hangs mid new top root level id page f
  hangs =
      let le = h.within in
      record {
        low = low;
        directory = h.directory;
        below = omega (arith, le);
        in_range = in_range;
        at = h.at;
        nowhere = named;
        stores = stores;
        zero = h.zero used (omega arith) room;
        outside = h.fresh used (omega arith) room;
        small = small;
      }

  has_after : (g : ℕ) → HasPage new top root g ↔ (HasPage mid top root g ⊎ (g ≡ f))
  has_after = pages_hung mid new top root level id page f hangs

  zero_after : slice_get new f ≡ Some zeroed
  zero_after = zero_hung mid new top root level id page f hangs

  page_has : HasPage mid top root page
  page_has = (suc level, id, h.within, in_range, h.at)

  zero_stays : (n : ℕ) → used + 1 ≤ n → n < length pages → slice_get new (slice_index pages n) ≡ Some zeroed
  zero_stays n le lt =
      let fits = index_fits (suc level) id in
      let apart : slice_index pages n ≢ page = λ e. h.fresh n (omega (arith, le)) lt (subst (λ g. HasPage mid top root g) (sym e) page_has) in
      stores.frames (slice_index pages n) (λ e. apart (omega (arith, e, fits))) ∙ h.zero n (omega (arith, le)) lt

  fresh_stays : (n : ℕ) → used + 1 ≤ n → n < length pages → HasPage new top root (slice_index pages n) → ⊥
  fresh_stays n le lt has =
      elim ((has_after (slice_index pages n)).0 has) [
        | inl was ↦ h.fresh n (omega (arith, le)) lt was
        | inr is ↦ distinct used n 0 (omega (arith, le)) lt (sym is)
      ]

  has_all : (g : ℕ) → HasPage new top root g ↔ (HasPage old top root g ⊎ ((n : ℕ) × (n < used + 1) × (g ≡ slice_index pages n)))
  has_all g = (
    λ has. elim ((has_after g).0 has) [
      | inl was ↦ elim ((h.has g).0 was) [ inl first ↦ inl first | inr x ↦ inr (x.0, (let lt = x.1 in omega (arith, lt)), x.2) ]
      | inr is ↦ inr (used, omega arith, is)
    ],
    λ either. elim either [
      | inl first ↦ (has_after g).1 (inl ((h.has g).1 (inl first)))
      | inr x ↦ elim (eqb_tells x.0 used) [
        | inl e ↦ (has_after g).1 (inr (x.2 ∙ ap (slice_index pages) e.1))
        | inr ne ↦ (has_after g).1 (inl ((h.has g).1 (inr (x.0, (let lt = x.1 in let apart = ne.1 in omega (arith, lt, apart)), x.2))))
      ]
    ],
  )

  rest : drop used pages ≡ f ∷ drop (used + 1) pages
  rest = drop_at pages used 0 room

  writes_after : hung new level f id (drop (used + 1) pages) context ≡ hung old top root id pages context
  writes_after =
      ap (λ m. hung m level f id (drop (used + 1) pages) context) whole
      ∙ sym (ap (λ left. hung_below None left (λ n l. hung mid level n id l context) (λ n l. hung (with_entry_at mid page (suc level) id n) level n id l context) mid) rest)
      ∙ sym (ap (λ o. hung_below o (drop used pages) (λ n l. hung mid level n id l context) (λ n l. hung (with_entry_at mid page (suc level) id n) level n id l context) mid) named)
      ∙ h.writes

  -- a page is hung
  pub hung_new : Hung old new top root id pages context level f (used + 1)
  hung_new =
      let le = h.within in
      let count : length pages ≡ used + suc level = h.count ∙ ap (λ n. used + n) (missing_at mid level page id None named) in
      let left = missing_zeroed new level f id zero_after in
      record {
        within = omega (arith, le);
        directory = directory_hung mid new top root level id page f hangs;
        at = new_page_at mid new top root level id page f hangs;
        count = omega (arith, count, left);
        zero = zero_stays;
        fresh = fresh_stays;
        has = has_all;
        ends = λ other lt. ends_hung mid new top root level id page f hangs other lt ∙ h.ends other lt;
        outside = λ g out. outside_hung mid new top root level id page f hangs g out ∙ h.outside g (λ was. out ((has_after g).1 (inl was)));
        size = stores.size ∙ h.size;
        keeps = λ lower other g lt at.
            let was = h.keeps lower other g lt at in
            (pages_after mid new top root level id page f hangs other lt lower (level_within mid top root lower other g was) g).1 (inl was);
        writes = writes_after;
      }

-- everything that putting a context does
pub record Puts (old new : List (List ℕ)) (top root id : ℕ) (pages : List ℕ) (context : Context) : Type 0 where
  pub directory : IsDirectory new top root
  pub pages_are : (f : ℕ) → HasPage new top root f ↔ (HasPage old top root f ⊎ Contains pages f)
  pub here : path_end_from new top root id ≡ Ok context
  pub others : KeepsOthers old new top root id
  pub outside : KeepsOutsideDirectory old new top root
  pub size : length new ≡ length old
  pub path : HasWholePath new top root id
  pub paths : (other : ℕ) → other < ids_below top → HasWholePath old top root other → HasWholePath new top root other
  pub keeps : KeepsPages old new top root
  pub whole : new ≡ hung old top root id pages context

pub puts : (old mid new : List (List ℕ)) (top root id : ℕ) (pages : List ℕ) (context : Context) (page used : ℕ) → id < ids_below top → Hung old mid top root id pages context 0 page used
    → WritesPlace mid new page id (Ok context) → new ≡ with_context_at mid page id context → Puts old new top root id pages context
puts old mid new top root id pages context page used in_range h place whole =
    let w = writes mid new top root page id (Ok context) h.directory in_range h.at place tt in
    let all = h.count in
    record {
      directory = w.directory;
      pages_are = λ f. (
        λ has. elim ((h.has f).0 ((w.pages f).0 has)) [
          | inl was ↦ inl was
          | inr x ↦ inr (let lt : x.0 < length pages = (let y = x.1 in omega (arith, y, all)) in (x.0, lt, get_or_default_zero pages x.0 f lt ∙ sym x.2))
        ],
        λ either. elim either [
          | inl was ↦ (w.pages f).1 ((h.has f).1 (inl was))
          | inr x ↦ (w.pages f).1 ((h.has f).1 (inr (x.0, (let y = x.1 in omega (arith, y, all)), sym (sym (get_or_default_zero pages x.0 f x.1) ∙ x.2))))
        ],
      );
      here = w.here;
      others = λ other lt ne. w.others other lt ne ∙ h.ends other lt;
      outside = λ f out. w.outside f out ∙ h.outside f (λ was. out ((w.pages f).1 was));
      size = w.size ∙ h.size;
      path = w.paths id in_range (ap is_some h.at);
      paths = λ other lt path. let at = there (page_at old top root 0 other) path in w.paths other lt (ap is_some (h.keeps 0 other at.0 lt at.1));
      keeps = λ lower other f lt at. w.keeps lower other f lt (h.keeps lower other f lt at);
      whole = whole ∙ h.writes;
    }

-- the same two steps, as the loop counts
two_down : (n : ℕ) → 1 < n → n - 1 ≡ suc (n - 1 - 1)
two_down n lt = omega (arith, lt)

pub goes_past : (old now : List (List ℕ)) (top root id : ℕ) (pages : List ℕ) (context : Context) (n page used next : ℕ) → 1 < n → Hung old now top root id pages context (n - 1) page used
    → next_page now page (n - 1) id ≡ Some next → Hung old now top root id pages context (n - 1 - 1) next used
goes_past old now top root id pages context n page used next lt h named =
    hung_down old now top root id pages context (n - 1 - 1) page used next (subst (λ l. Hung old now top root id pages context l page used) (two_down n lt) h)
    (subst (λ l. next_page now page l id ≡ Some next) (two_down n lt) named)

pub hangs_next : (old mid new : List (List ℕ)) (top root id : ℕ) (pages : List ℕ) (context : Context) (n page used : ℕ) → 1 < n → top ≤ 2 → id < ids_below top → AllPairs (λ f g. f ≢ g) pages → slice_index pages used < 2 ^ 44
    → Hung old mid top root id pages context (n - 1) page used → next_page mid page (n - 1) id ≡ None
    → StoresOneWord mid new (entry_place page (ddi (n - 1) id)) (entry_word (slice_index pages used)) → new ≡ with_entry_at mid page (n - 1) id (slice_index pages used)
    → Hung old new top root id pages context (n - 1 - 1) (slice_index pages used) (used + 1)
hangs_next old mid new top root id pages context n page used lt low in_range distinct small h named stores whole =
    let up = two_down n lt in
    hung_new old mid new top root id pages context (n - 1 - 1) page used low in_range distinct small
    (subst (λ l. Hung old mid top root id pages context l page used) up h) (subst (λ l. next_page mid page l id ≡ None) up named)
    (subst (λ l. StoresOneWord mid new (entry_place page (ddi l id)) (entry_word (slice_index pages used))) up stores)
    (subst (λ l. new ≡ with_entry_at mid page l id (slice_index pages used)) up whole)

pub puts_all : (old mid new : List (List ℕ)) (top root id : ℕ) (pages : List ℕ) (context : Context) (n page used : ℕ) → n ≤ 1 → id < ids_below top → Hung old mid top root id pages context (n - 1) page used
    → WritesPlace mid new page id (Ok context) → new ≡ with_context_at mid page id context → Puts old new top root id pages context
puts_all old mid new top root id pages context n page used le in_range h place whole =
    let zero_is : n - 1 ≡ 0 = omega (arith, le) in
    puts old mid new top root id pages context page used in_range (subst (λ l. Hung old mid top root id pages context l page used) zero_is h) place whole

-- the same of a path that is only followed
pub page_past : (m : List (List ℕ)) (top root id n page next : ℕ) → 1 < n → n - 1 ≤ top → page_at m top root (n - 1) id ≡ Some page → next_page m page (n - 1) id ≡ Some next → page_at m top root (n - 1 - 1) id ≡ Some next
page_past m top root id n page next lt le at named =
    let up = two_down n lt in
    goes_down m top root (n - 1 - 1) id page next (omega (arith, lt, le)) (subst (λ l. page_at m top root l id ≡ Some page) up at) (subst (λ l. next_page m page l id ≡ Some next) up named)

pub no_page_past : (m : List (List ℕ)) (top root id n page : ℕ) → 1 < n → n - 1 ≤ top → page_at m top root (n - 1) id ≡ Some page → next_page m page (n - 1) id ≡ None → page_at m top root 0 id ≡ None
no_page_past m top root id n page lt le at named =
    let up = two_down n lt in
    let lower = n - 1 - 1 in
    let none : page_at m top root lower id ≡ None =
    one_down m top root lower id (omega (arith, lt, le))
    ∙ ap (option_and_then (λ q. next_page m q (suc lower) id)) (subst (λ l. page_at m top root l id ≡ Some page) up at)
    ∙ subst (λ l. next_page m page l id ≡ None) up named in
    none_lower m top root id lower (omega (arith, lt, le)) none 0 (omega arith)
