-- The facts on copies are of each history with which the ledger agrees; and what may be reached merely, may be.
use Rattle.std.proofs.Common.{◌≡◌, ◌≤◌, ◌<◌, ◌∙◌, ℕ, Bool, true, false, refl, sym, nat_le}
use Rattle.std.proofs.lemmas.Bool.{false≢true, leb-false, leb-true}
use Rattle.std.proofs.lemmas.Grind.{not_there}
use Rattle.iom_base.specs.declared.access.AccessKind.{AccessKind}
use Rattle.iom_coherence.specs.Faithful.{IsFaithful}
use Rattle.iom_coherence.specs.Scene.{Scene}
use Rattle.iom_coherence.specs.Holdings.{SayTheSame}
use Rattle.iom_coherence.proofs.HistoryLemmas.{facts_are_of_all_histories}
use Rattle.iom_ledger.specs.declared.ledger.Ledger.{Ledger}
use Rattle.iom_ledger.specs.History.{History, May, confirms}
use Rattle.iom_ledger.specs.Shown.{Agrees}
use Rattle.iom_machine.specs.Judging.{reaches_in}
use Rattle.iom_machine.proofs.JudgeLemmas.{reaches_if_may, may_if_reaches}

-- what merely may be reached may be: a device's reach is decided by the history
pub may_merely : (h : History) (device frame : ℕ) (kind : AccessKind) → ∥ May h device frame kind ∥₁ → May h device frame kind
may_merely h device frame kind merely = by (reaches_in h h device frame kind) refl
  where
    by : (b : Bool) → reaches_in h h device frame kind ≡ b → May h device frame kind
    by true reaches = may_if_reaches h h device frame kind reaches
    by false none = absurd (not_there merely (λ may. false≢true (sym none ∙ reaches_if_may h device frame kind may)))

same_pages : (ledger : Ledger) (one other : History) → Agrees ledger one → Agrees ledger other → SayTheSame one other
same_pages ledger one other first second device page =
    let a = first.pages device page in
    let b = second.pages device page in
    (b.holds ∙ sym a.holds, b.lingers ∙ sym a.lingers)

unless_later : (confirmed ticket : ℕ) (h : History) → (confirmed < ticket → confirms h ticket ≡ false) → confirms h ticket ≡ true → ticket ≤ confirmed
unless_later confirmed ticket h none is = by (nat_le ticket confirmed) refl
  where
    by : (b : Bool) → nat_le ticket confirmed ≡ b → ticket ≤ confirmed
    by true low = leb-true ticket confirmed low
    by false high = absurd (false≢true (sym (none (leb-false ticket confirmed high)) ∙ is))

pub facts_of_history : (ledger : Ledger) (scene : Scene) (h : History) → Agrees ledger scene.history → Agrees ledger h
    → ((ticket : ℕ) → scene.confirmed < ticket → confirms h ticket ≡ false) → IsFaithful scene → IsFaithful (record scene { history = h })
facts_of_history ledger scene h first second none facts =
    facts_are_of_all_histories scene h facts (same_pages ledger scene.history h first second)
    (λ ticket is. unless_later scene.confirmed ticket h (none ticket) is)
