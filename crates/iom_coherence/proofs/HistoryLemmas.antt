-- The facts of another history that says the same.
use Rattle.std.proofs.Common.{ℕ, inl, inr, Contains, sym, ◌∙◌, subst}
use Rattle.iom_ledger.specs.History.{History, Pair}
use Rattle.iom_coherence.proofs.LedgerLemmas.{Lingering, backed, confirmed}
use Rattle.iom_coherence.specs.Attachments.{in_both_stages}
use Rattle.iom_coherence.specs.Copies.{AccessGoes, EntryGoes, NamesGrant, TranslationGoes}
use Rattle.iom_coherence.specs.Faithful.{GrantsFit}
use Rattle.iom_coherence.specs.Holdings.{HoldsOrLingers, SayTheSame}
use Rattle.iom_coherence.specs.Laws.{FactsAreOfAllHistories}
use Rattle.iom_coherence.specs.Scene.{Copy, Scene}
use Rattle.iom_machine.specs.declared.state.Attachment.{Attachment}
use Rattle.iom_machine.specs.declared.state.Attachment.TheVariants.{Attached, Detached, Leaving, Quarantined}

-- what lingers by the one lingers by the other
lingers_there : (h g : History) → SayTheSame h g → (d a t : ℕ) (pair : Pair) → Lingering h d a t pair → Lingering g d a t pair
lingers_there h g same d a t pair c = subst (λ l. Contains l (t, pair)) (sym (same d a).1) c

-- and the other way round
lingers_here : (h g : History) → SayTheSame h g → (d a t : ℕ) (pair : Pair) → Lingering g d a t pair → Lingering h d a t pair
lingers_here h g same d a t pair c = subst (λ l. Contains l (t, pair)) (same d a).1 c

-- what is held or lingers by the one is or does so by the other
there : (h g : History) → SayTheSame h g → (S : ℕ → Type 0) (d a : ℕ) (pair : Pair) → HoldsOrLingers h S d a pair → HoldsOrLingers g S d a pair
there h g same S d a pair (inl holds) = inl ((same d a).0 ∙ holds)
there h g same S d a pair (inr (t, lingers, s)) = inr (t, lingers_there h g same d a t pair lingers, s)

names_there : (s : Scene) (g : History) → SayTheSame s.history g → (S : ℕ → Type 0) (copy : Copy) → NamesGrant s S copy → NamesGrant (record s { history = g }) S copy
names_there s g same S copy old =
    backed (in_both_stages (s.attachment_of copy.device)) s.history g S S copy (λ a r comes was. there s.history g same S copy.device a (copy.pair.0, r) was) old

grants_there : (h g : History) → SayTheSame h g → (d : ℕ) (attachment : Attachment) → GrantsFit h d attachment → GrantsFit g d attachment
grants_there h g same d Detached (holds, lingers) = ((λ a. (same d a).0 ∙ holds a), λ a t pair c. lingers a t pair (lingers_here h g same d a t pair c))
grants_there h g same d (Attached mode ats) fits = tt
grants_there h g same d (Quarantined x mode ats) (holds, lingers) = ((λ a. (same d a).0 ∙ holds a), λ a t pair c. lingers a t pair (lingers_here h g same d a t pair c))
grants_there h g same d (Leaving x mode ats) (holds, lingers) = ((λ a. (same d a).0 ∙ holds a), λ a t pair c. lingers a t pair (lingers_here h g same d a t pair c))

pub facts_are_of_all_histories : FactsAreOfAllHistories
facts_are_of_all_histories s g faithful same confirmed = record {
  order = record {
    fences = faithful.order.fences;
    tickets = faithful.order.tickets;
    confirmed = confirmed;
    lingering = λ d a t pair c. faithful.order.lingering d a t pair (lingers_here s.history g same d a t pair c);
    apart = λ d a t held released holds c. faithful.order.apart d a t held released (sym (same d a).0 ∙ holds) (lingers_here s.history g same d a t released c);
    counted = faithful.order.counted;
    snapshot_taken = faithful.order.snapshot_taken;
    grants = λ d. grants_there s.history g same d (s.attachment_of d) (faithful.order.grants d);
    cached = faithful.order.cached;
  };
  numbers = faithful.numbers;
  contexts = faithful.contexts;
  translations = λ copy is. names_there s g same (TranslationGoes s copy.device copy.page) copy (faithful.translations copy is);
  entries = λ copy is in_use. let old = faithful.entries copy is in_use in (old.0, names_there s g same (EntryGoes s copy.device copy.page) copy old.1);
  answers = λ epoch copy is now in_use. let old = faithful.answers epoch copy is now in_use in (old.0, names_there s g same (EntryGoes s copy.device copy.page) copy old.1);
  accesses = λ flight is. let old = faithful.accesses flight is in
      (old.0, old.1, there s.history g same (AccessGoes s flight.number) flight.device old.0 (flight.frame, old.1) old.2, old.3);
}
