-- What is true of a cache after any calls: what its epoch counts, that each entry was answered, and that no page has two.
use Rattle.std.proofs.Common.{◌≡◌, inl, inr, ◌+◌, ◌++◌, ◌∙◌, ℕ, false, List, [], ◌∷◌, refl, sym, ap, subst, arith}
use Rattle.std.specs.List.{All}
use Rattle.std.proofs.lemmas.List.Elements.{All-nil}
use Rattle.iom_fabric.specs.declared.message.Range.{Range}
use Rattle.iom_fabric.specs.declared.message.Translation.{Translation}
use Rattle.iom_fabric.specs.declared.message.Translation.TheVariants as translation
use Rattle.iom_ats_cache.specs.declared.entry.Entry.{Entry}
use Rattle.iom_ats_cache.specs.declared.taken.Taken.TheVariants.{Kept, Stale, Refused}
use Rattle.iom_ats_cache.specs.Cache.{Cache, range_covers, outside, with_entry, AreEntries}
use Rattle.iom_ats_cache.specs.Calls.{TakesAnswer}
use Rattle.iom_ats_cache.specs.Laws.{AtcCall, look, ask, answer, invalidate, reset, RunsAtc, rises_in, WasAnswered}
use Rattle.iom_ats_cache.proofs.EntryLemmas.{all_outside, all_with_entry, entries_outside, entries_with_entry, no_entries}

abbrev AllAnswered : List AtcCall → List Entry → Type 0
AllAnswered calls entries = All (λ entry. WasAnswered entry calls) entries

-- the facts
abbrev AreTrue : List AtcCall → Cache → Type 0
AreTrue calls cache = (cache.epoch ≡ rises_in calls) × AllAnswered calls cache.entries × AreEntries cache.entries

after_kept : (earlier : List AtcCall) (old : Cache) (epoch : ℕ) (entry : Entry) → epoch ≡ old.epoch → AreTrue earlier old
    → AreTrue (answer epoch entry.page (translation.Page entry.frame entry.rights) Kept ∷ earlier) (record { epoch = old.epoch; entries = with_entry old.entries entry })
after_kept earlier old epoch entry present before =
    let call : AtcCall = answer epoch entry.page (translation.Page entry.frame entry.rights) Kept in (
      before.0,
      all_with_entry (λ e. WasAnswered e earlier) (λ e. WasAnswered e (call ∷ earlier)) old.entries entry
          (λ other apart was. inr (apart, was))
          (inl (refl, present ∙ before.0, refl))
          before.1,
      entries_with_entry old.entries entry before.2,
    )

after_invalidation : (earlier : List AtcCall) (old : Cache) (dropped : Range) → AreTrue earlier old
    → (old.epoch + 1 ≡ rises_in earlier + 1)
    × All (λ entry. (range_covers dropped entry.page ≡ false) × WasAnswered entry earlier) (outside dropped old.entries)
    × AreEntries (outside dropped old.entries)
after_invalidation earlier old dropped before = (
  ap (λ n. n + 1) before.0,
  all_outside (λ entry. WasAnswered entry earlier) dropped old.entries before.1,
  entries_outside dropped old.entries before.2,
)

pub after_calls : (calls : List AtcCall) (cache : Cache) → RunsAtc calls cache → AreTrue calls cache
after_calls [] cache run = subst (AreTrue []) (sym run) (refl, All-nil (λ entry. WasAnswered entry []), no_entries)
after_calls (look page kind found ∷ earlier) cache run = subst (AreTrue earlier) (sym run.2.1) (after_calls earlier run.0 run.1)
after_calls (ask page message ∷ earlier) cache run = subst (AreTrue earlier) (sym run.2.1) (after_calls earlier run.0 run.1)
after_calls (answer epoch page answered Stale ∷ earlier) cache run = subst (AreTrue earlier) (sym run.2.1) (after_calls earlier run.0 run.1)
after_calls (answer epoch page (translation.Refused cause) Refused ∷ earlier) cache run = subst (AreTrue earlier) (sym run.2.1) (after_calls earlier run.0 run.1)
after_calls (answer epoch page (translation.Page frame rights) Refused ∷ earlier) cache run = absurd run.2
after_calls (answer epoch page (translation.Refused cause) Kept ∷ earlier) cache run = absurd run.2
after_calls (answer epoch page (translation.Page frame rights) Kept ∷ earlier) cache run =
    subst (AreTrue (answer epoch page (translation.Page frame rights) Kept ∷ earlier)) (sym run.2.1)
    (after_kept earlier run.0 epoch (record { page = page; frame = frame; rights = rights }) run.2.0 (after_calls earlier run.0 run.1))
after_calls (invalidate serial dropped message ∷ earlier) cache run =
    subst (AreTrue (invalidate serial dropped message ∷ earlier)) (sym run.2.left) (after_invalidation earlier run.0 dropped (after_calls earlier run.0 run.1))
after_calls (reset ∷ earlier) cache run =
    subst (AreTrue (reset ∷ earlier)) (sym run.2)
    (ap (λ n. n + 1) (after_calls earlier run.0 run.1).0, All-nil (λ entry. WasAnswered entry (reset ∷ earlier)), no_entries)

rises_of_both : (since before : List AtcCall) → rises_in (since ++ before) ≡ rises_in since + rises_in before
rises_of_both [] before = omega arith
rises_of_both (look page kind found ∷ since) before = rises_of_both since before
rises_of_both (ask page message ∷ since) before = rises_of_both since before
rises_of_both (answer epoch page answered taken ∷ since) before = rises_of_both since before
rises_of_both (invalidate serial dropped message ∷ since) before = let e = rises_of_both since before in omega (arith, e)
rises_of_both (reset ∷ since) before = let e = rises_of_both since before in omega (arith, e)

of_present_epoch : (cache new : Cache) (epoch page : ℕ) (answered : Translation) → TakesAnswer cache epoch page answered Kept new → epoch ≡ cache.epoch
of_present_epoch cache new epoch page (translation.Page frame rights) takes = takes.0
of_present_epoch cache new epoch page (translation.Refused cause) takes = absurd takes

-- where an answer to a question is kept, the epoch hasn't risen since
pub none_since : (since before : List AtcCall) (asked cache new : Cache) → RunsAtc before asked → RunsAtc (since ++ before) cache
    → (page : ℕ) (answered : Translation) → TakesAnswer cache asked.epoch page answered Kept new
    → rises_in since ≡ 0
none_since since before asked cache new first run page answered takes =
    let present = of_present_epoch cache new asked.epoch page answered takes in
    let then = (after_calls before asked first).0 in
    let now = (after_calls (since ++ before) cache run).0 in
    let both = rises_of_both since before in
    omega (arith, present, then, now, both)
