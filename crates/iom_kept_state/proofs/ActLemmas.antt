-- What is kept after an act, of a past of what was kept before.
use Rattle.std.proofs.Common.{◌≡◌, ℕ, ◌+◌, ◌<◌, ◌≤◌, Bool, true, false, List, [], ◌∷◌, ◌++◌, map, length, nat_eq, Option, None, Some, Result, Ok, Err, OnOk, IsSome, refl, sym, ap, ◌∙◌, arith, slice_get, if◌then◌else◌}
use Rattle.std.specs.List.{IsDistinct, list_any}
use Rattle.std.specs.Option.{option_map}
use Rattle.std.proofs.lemmas.Bool.{eqb-true}
use Rattle.std.proofs.lemmas.Option.{get_or_from_slice_get}
use Rattle.std.proofs.lemmas.List.{append-nil, length-append}
use Rattle.indexmap.specs.IndexSet.{insert_key}
use Rattle.iom_base.specs.declared.rights.Rights.{Rights}
use Rattle.iom_ledger.specs.declared.entry.HistoryEntry.{HistoryEntry}
use Rattle.iom_ledger.specs.declared.entry.HistoryEntry.TheVariants.{Granted, Released, AllReleased, Confirmed}
use Rattle.iom_ledger.specs.History.{History, Pair}
use Rattle.iom_ledger.specs.Shown.{held_in, lingering_in, Agrees}
use Rattle.iom_kept_state.specs.declared.grants.KeptGrants.{KeptGrants}
use Rattle.iom_kept_state.specs.Grants.{IsPastOf, IsPlaced, ArePlaced, held_by, lingering_by, named_pair, named_entry, frame_at_place}
use Rattle.iom_kept_state.specs.Tickets.{is_among}
use Rattle.iom_kept_state.specs.declared.tickets.ConfirmedTickets.{ConfirmedTickets}
use Rattle.iom_kept_state.proofs.NamedLemmas.{named-grown}
use Rattle.iom_kept_state.proofs.PastLemmas.{IsNamedAt}

none_mapped : (f : Pair → Pair) (own : Option Pair) → option_map f own ≡ None → own ≡ None
none_mapped f None none = refl
none_mapped f (Some own) none = cc

some_mapped : (f : Pair → Pair) (own : Option Pair) → IsSome (option_map f own) → IsSome own
some_mapped f None some = some
some_mapped f (Some own) some = refl

pub holds_nothing : (kept : KeptGrants) (device page : ℕ) → held_by kept device page ≡ None → held_in kept.ledger device page ≡ None
unfolding held_by
holds_nothing kept device page none = none_mapped (named_pair kept.names.keys) (held_in kept.ledger device page) none

pub nothing_lingers : (kept : KeptGrants) (device page : ℕ) → lingering_by kept device page ≡ None → lingering_in kept.ledger device page ≡ None
unfolding lingering_by
nothing_lingers kept device page none = none_mapped (named_pair kept.names.keys) (lingering_in kept.ledger device page) none

pub holds_something : (kept : KeptGrants) (device page : ℕ) → IsSome (held_by kept device page) → IsSome (held_in kept.ledger device page)
unfolding held_by
holds_something kept device page some = some_mapped (named_pair kept.names.keys) (held_in kept.ledger device page) some

-- names grow at their end
grows : (names : List ℕ) (frame : ℕ) → (more : List ℕ) × (insert_key nat_eq names frame ≡ names ++ more)
grows names frame = by (list_any (nat_eq frame) names) refl
  where
    by : (b : Bool) → list_any (nat_eq frame) names ≡ b → (more : List ℕ) × ((if b then names else names ++ frame ∷ []) ≡ names ++ more)
    by true e = ([], sym (append-nil names))
    by false e = (frame ∷ [], refl)

placed_more : (count more : ℕ) (history : History) → count ≤ more → ArePlaced count history → ArePlaced more history
placed_more count more [] low placed = tt
placed_more count more (entry ∷ before) low placed = (by entry placed.0, placed_more count more before low placed.1)
  where
    by : (entry : HistoryEntry) → IsPlaced count entry → IsPlaced more entry
    by (Granted d a place rights) within = let small : place < count = within in omega (arith, low, small)
    by (Released d a t) within = tt
    by (AllReleased d t) within = tt
    by (Confirmed t) within = tt

-- a frame that was inserted stands at its place
pub stored_named : (names : List ℕ) (frame place : ℕ) → place < length names → ((k : ℕ) × (slice_get names place ≡ Some k) × (nat_eq frame k ≡ true)) → IsNamedAt names place frame
stored_named names frame place within (k, at, same) =
    record { within = within; named = get_or_from_slice_get names place k 0 at ∙ sym (eqb-true frame k same) }

-- a grant
pub granted_past : (old new : KeptGrants) (h : History) (device page frame place : ℕ) (rights : Rights) (past : IsPastOf old h)
    → new.names.keys ≡ insert_key nat_eq old.names.keys frame → IsDistinct nat_eq new.names.keys → IsNamedAt new.names.keys place frame → new.confirmed ≡ old.confirmed → new.tickets ≡ old.tickets
    → Agrees new.ledger (Granted device page place rights ∷ past.placed) → IsPastOf new (Granted device page frame rights ∷ h)
granted_past old new h device page frame place rights past keys distinct named confirmed tickets agrees =
    let (more, grown) = grows old.names.keys frame in
    let all : new.names.keys ≡ old.names.keys ++ more = keys ∙ grown in
    let longer : length new.names.keys ≡ length old.names.keys + length more = ap length all ∙ length-append old.names.keys more in
    record {
      placed = Granted device page place rights ∷ past.placed;
      named =
          ap (λ (f : ℕ). Granted device page f rights ∷ h) (sym named.named)
          ∙ ap (λ (g : History). Granted device page (frame_at_place new.names.keys place) rights ∷ g)
          (past.named ∙ sym (named-grown old.names.keys more past.placed past.within) ∙ ap (λ (names : List ℕ). map (named_entry names) past.placed) (sym all));
      unique = distinct;
      within = (named.within, placed_more (length old.names.keys) (length new.names.keys) past.placed (omega (arith, longer)) past.within);
      grants = agrees;
      confirmed = λ ticket. past.confirmed ticket ∙ ap (λ (all : ConfirmedTickets). is_among all ticket) (sym tickets);
      last = past.last ∙ sym confirmed;
    }

pub on_ok : {T E : Type 0} {A B : Type 0} (result : Result T E) → (A → B) → OnOk result A → OnOk result B
on_ok (Ok x) f a = f a
on_ok (Err e) f a = tt
