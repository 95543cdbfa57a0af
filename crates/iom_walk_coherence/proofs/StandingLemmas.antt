-- Where a walk stands, and may stand still.
use Rattle.std.proofs.Common.{◌≡◌, ℕ, inl, inr, List, [], ◌∷◌, refl, ap, subst, sym}
use Rattle.std.proofs.lemmas.Bool.{false≢true}
use Rattle.iom_ledger.specs.History.{Pair}
use Rattle.iom_coherence.proofs.LedgerLemmas.{still}
use Rattle.iom_coherence.specs.Attachments.{IsAttached, IsKnown}
use Rattle.iom_coherence.specs.Copies.{ContextFits}
use Rattle.iom_coherence.specs.Holdings.{HoldsOrLingers}
use Rattle.iom_coherence.specs.Laws.{scene_at_power_on}
use Rattle.iom_coherence.specs.Queue.{DropContext, DropTranslations, Fence, Invalidate, QueuedCommand}
use Rattle.iom_coherence.specs.Scene.{Scene}
use Rattle.iom_coherence.specs.ToCome.{InOrder, QueuedStep, drops_context, is_fence}
use Rattle.iom_machine.specs.declared.state.Attachment.{Attachment}
use Rattle.iom_machine.specs.declared.state.Attachment.TheVariants.{Attached, Detached, Leaving, Quarantined}
use Rattle.iom_walk_coherence.specs.Faithful.{AreFaithfulWalks, MayStand, TablesStay, WalksBeginAnew, begins_anew}
use Rattle.iom_walk_coherence.specs.Walks.{InDirectory, InGuestTable, InTables, Standing, Walk}

-- the tables of an attached device stay
pub attached-stay : (s : Scene) (attachment : Attachment) → IsAttached attachment → TablesStay s attachment
attached-stay s Detached a = absurd (false≢true a)
attached-stay s (Attached mode ats) a = tt
attached-stay s (Quarantined t mode ats) a = absurd (false≢true a)
attached-stay s (Leaving t mode ats) a = absurd (false≢true a)

-- a device whose tables stay is known
pub stay-known : (s : Scene) (attachment : Attachment) → TablesStay s attachment → IsKnown attachment
stay-known s Detached stays = absurd stays
stay-known s (Attached mode ats) stays = refl
stay-known s (Quarantined t mode ats) stays = refl
stay-known s (Leaving t mode ats) stays = refl

-- the tables stay of a device that is attached as it was
pub stay-as : (s new : Scene) (attachment : Attachment) → ((t : ℕ) → WalksBeginAnew s t → WalksBeginAnew new t) → TablesStay s attachment → TablesStay new attachment
stay-as s new Detached go stays = stays
stay-as s new (Attached mode ats) go stays = tt
stay-as s new (Quarantined t mode ats) go stays = go t stays
stay-as s new (Leaving t mode ats) go stays = go t stays

-- where a context is dropped every walk begins anew
context-anew : (d : ℕ) (fence : List QueuedStep) (commands : List QueuedCommand) → InOrder (drops_context d ∷ fence) commands → InOrder (begins_anew ∷ fence) commands
context-anew d fence [] o = absurd o
context-anew d fence (DropTranslations e extent ∷ later) (inl (does, o)) = inl (refl, o)
context-anew d fence (DropContext e ∷ later) (inl (does, o)) = inl (refl, o)
context-anew d fence (Invalidate e extent ∷ later) (inl (does, o)) = absurd (false≢true does)
context-anew d fence (Fence number ∷ later) (inl (does, o)) = absurd (false≢true does)
context-anew d fence (command ∷ later) (inr o) = inr (context-anew d fence later o)

-- the tables stay of a device whose context is cached
pub context-stays : (s : Scene) (d : ℕ) (attachment : Attachment) → ContextFits s d attachment → TablesStay s attachment
context-stays s d Detached fits = fits
context-stays s d (Attached mode ats) fits = tt
context-stays s d (Quarantined t mode ats) (fence, there, order) = (fence, there, context-anew d (is_fence fence ∷ []) s.waiting order)
context-stays s d (Leaving t mode ats) (fence, there, order) = (fence, there, context-anew d (is_fence fence ∷ []) s.waiting order)

-- Walks stand where they stood, where tables stay that stayed, and what was held or lingered still is or does.
pub still-stand : (s new : Scene) (walks : List Walk)
    → ((d : ℕ) → TablesStay s (s.attachment_of d) → TablesStay new (new.attachment_of d))
    → ((d : ℕ) → TablesStay s (s.attachment_of d) → (page : ℕ) (pair : Pair) → HoldsOrLingers s.history (WalksBeginAnew s) d page pair → HoldsOrLingers new.history (WalksBeginAnew new) d page pair)
    → AreFaithfulWalks s walks → AreFaithfulWalks new walks
still-stand s new walks tables held faithful walk there = by walk.standing (faithful walk there)
  where
    by : (standing : Standing) → MayStand s walk.device standing → MayStand new walk.device standing
    by InDirectory stood = tt
    by InTables stood = tables walk.device stood
    by (InGuestTable frame) (stays, (page, rights, was, allowed)) = (tables walk.device stays, (page, rights, held walk.device stays page (frame, rights) was, allowed))

-- the values that the facts on walks speak of
abbrev pub spoken_of : Scene → Scene
spoken_of s = record scene_at_power_on {
  history = s.history;
  waiting = s.waiting;
  pending = s.pending;
  attachment_of = s.attachment_of;
}

-- the values that the facts speak of are the same
pub unmoved : (s new : Scene) (walks : List Walk) → spoken_of new ≡ spoken_of s → AreFaithfulWalks s walks → AreFaithfulWalks new walks
unmoved s new walks same faithful = alike (spoken_of new) new
    (λ t go. go) (λ d. refl) (λ d page pair was. was)
    (subst (λ x. AreFaithfulWalks x walks) (sym same) (alike s (spoken_of s) (λ t go. go) (λ d. refl) (λ d page pair was. was) faithful))
  where
    alike : (old now : Scene) → ((t : ℕ) → WalksBeginAnew old t → WalksBeginAnew now t) → ((d : ℕ) → now.attachment_of d ≡ old.attachment_of d)
        → ((d page : ℕ) (pair : Pair) → HoldsOrLingers old.history (WalksBeginAnew old) d page pair → HoldsOrLingers now.history (WalksBeginAnew now) d page pair)
        → AreFaithfulWalks old walks → AreFaithfulWalks now walks
    alike old now go as_was held fits = still-stand old now walks
        (λ d stays. subst (TablesStay now) (sym (as_was d)) (stay-as old now (old.attachment_of d) go stays))
        (λ d stays page pair was. held d page pair was) fits

-- nothing is granted, released, attached or detached: what begins walks anew is still to come
pub queue-moved : (s new : Scene) (walks : List Walk) → new.history ≡ s.history → new.attachment_of ≡ s.attachment_of
    → ((t : ℕ) → WalksBeginAnew s t → WalksBeginAnew new t) → AreFaithfulWalks s walks → AreFaithfulWalks new walks
queue-moved s new walks history attachments go faithful = still-stand s new walks
    (λ d stays. subst (TablesStay new) (sym (ap (λ (of : ℕ → Attachment). of d) attachments)) (stay-as s new (s.attachment_of d) go stays))
    (λ d stays page pair was. subst (λ h. HoldsOrLingers h (WalksBeginAnew new) d page pair) (sym history) (still s.history (WalksBeginAnew s) (WalksBeginAnew new) d page pair go was))
    faithful
