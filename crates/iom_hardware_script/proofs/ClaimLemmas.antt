-- The words behind the keyword of a claim are those of the claim.
use Rattle.std.proofs.Common.{◌≡◌, ℕ, true, List, ◌++◌, Option, Some, None, codes, ap, sym, subst, refl, ◌∙◌}
use Rattle.std.specs.Option.{option_map}
use Rattle.std.proofs.lemmas.List.{append_cancel_left}
use Rattle.iom_base.specs.declared.grant_rights.GrantRights.{GrantRights}
use Rattle.iom_script.specs.Words.{◌␣◌, IsDevice, IsNumber, IsRight}
use Rattle.iom_script.specs.Reading.{Reads}
use Rattle.iom_script.proofs.ReadsLemmas.{reads_some, reads_none, read_holds, read_nothing}
use Rattle.iom_script.proofs.FieldLemmas.{Followed}
use Rattle.iom_script.proofs.DecimalLemmas.{number_without_space}
use Rattle.iom_script.proofs.WordLemmas.{device_without_space}
use Rattle.iom_script.proofs.EventLemmas.{keyword_reads, are_apart, never_both}
use Rattle.iom_script.proofs.SameLemmas.{device_same, number_same, right_same, followed_same, event_by_words}
use Rattle.iom_hardware_script.specs.declared.script.Claim.{Claim}
use Rattle.iom_hardware_script.specs.declared.script.Claim.TheVariants.{Grant, Ready, Release, Done, HandOff, Take, Trust}
use Rattle.iom_hardware_script.specs.Grammar.{IsClaim}
use Rattle.iom_hardware_script.specs.Parts.{claim_start, IsClaimWith}

-- a text begins as that of its claim does
pub claim_begins : (text : List ℕ) (claim : Claim) → IsClaim text claim → (more : List ℕ) × (text ≡ claim_start claim ++ more)
claim_begins text (Grant device page frame rights) q = (q.0 ␣ q.1 ␣ q.2 ␣ q.3, q.8)
claim_begins text (Ready device page) q = (q.0 ␣ q.1, q.4)
claim_begins text (Release device page) q = (q.0 ␣ q.1, q.4)
claim_begins text (Done number) q = (q.0, q.2)
claim_begins text (HandOff frame) q = (q.0, q.2)
claim_begins text (Take frame) q = (q.0, q.2)
claim_begins text (Trust device) q = (q.0, q.2)

-- a text that begins otherwise says no such claim
pub no_claim : (start text : List ℕ) → Reads None (λ more. text ≡ start ++ more) → Reads None (IsClaimWith start text)
no_claim start text none = reads_none (IsClaimWith start text) (λ claim q.
    let begins = claim_begins text claim q.1 in
    read_nothing (λ more. text ≡ start ++ more) begins.0 none (begins.1 ∙ ap (λ s. s ++ begins.0) q.0))

-- a text that begins so says no claim whose text begins apart from that
other_claim : (start text : List ℕ) (claim : Claim) → are_apart start (claim_start claim) ≡ true → IsClaim (start ++ text) claim → ⊥
other_claim start text claim apart q =
    let begins = claim_begins (start ++ text) claim q in
    never_both start (claim_start claim) text begins.0 apart begins.1

-- what is read of the words behind the keyword is read of the text
claim_reads : {V : Type 0} (f : V → Claim) (R : V → Type 0) (start line text : List ℕ) (result : Option V)
    → ((v : V) → claim_start (f v) ≡ start) → Reads (Some text) (λ more. line ≡ start ++ more)
    → ((v : V) → R v → IsClaim (start ++ text) (f v)) → ((claim : Claim) → IsClaim (start ++ text) claim → (v : V) × R v × (f v ≡ claim))
    → Reads result R → Reads (option_map f result) (IsClaimWith start line)
claim_reads {V} f R start line text result starts begun to from reads =
    keyword_reads (λ claim. claim_start claim ≡ start) IsClaim f R start line text result starts begun to (λ claim is q. from claim q) reads

-- grant

abbrev pub GrantWords : List ℕ → ℕ × (ℕ × (ℕ × GrantRights)) → Type 0
GrantWords text words = Followed IsDevice (Followed IsNumber (Followed IsNumber IsRight)) text words

abbrev pub grant_claim : ℕ × (ℕ × (ℕ × GrantRights)) → Claim
grant_claim words = Grant words.0 words.1.0 words.1.1.0 words.1.1.1

pub grant_from : (text : List ℕ) (claim : Claim) → IsClaim (codes "grant" ␣ text) claim → (words : ℕ × (ℕ × (ℕ × GrantRights))) × GrantWords text words × (grant_claim words ≡ claim)
grant_from text (Grant device page frame rights) q =
    let from_frame : ℕ × GrantRights = (frame, rights) in
    let from_page : ℕ × (ℕ × GrantRights) = (page, from_frame) in
    ((device, from_page), (q.1 ␣ q.2 ␣ q.3, (q.0, q.4, append_cancel_left (codes "grant ") text (q.0 ␣ q.1 ␣ q.2 ␣ q.3) q.8), (q.2 ␣ q.3, (q.1, q.5, refl), (q.3, (q.2, q.6, refl), q.7))), refl)
grant_from text claim q = absurd (other_claim (codes "grant ") text claim refl q)

pub grant_reads : (line text : List ℕ) → Reads (Some text) (λ more. line ≡ codes "grant " ++ more) → (result : Option (ℕ × (ℕ × (ℕ × GrantRights)))) → Reads result (GrantWords text)
    → Reads (option_map grant_claim result) (IsClaimWith (codes "grant ") line)
grant_reads line text begun result reads =
    claim_reads grant_claim (GrantWords text) (codes "grant ") line text result (λ v. refl) begun
    (λ words q. (q.1.0, q.2.1.0, q.2.2.1.0, q.2.2.0, q.1.1, q.2.1.1, q.2.2.1.1, q.2.2.2, ap (λ t. codes "grant" ␣ t) (q.1.2 ∙ ap (λ t. q.1.0 ␣ t) (q.2.1.2 ∙ ap (λ t. q.2.1.0 ␣ t) (q.2.2.1.2)))))
    (grant_from text) reads

-- ready

abbrev pub ReadyWords : List ℕ → ℕ × ℕ → Type 0
ReadyWords text words = Followed IsDevice IsNumber text words

abbrev pub ready_claim : ℕ × ℕ → Claim
ready_claim words = Ready words.0 words.1

pub ready_from : (text : List ℕ) (claim : Claim) → IsClaim (codes "ready" ␣ text) claim → (words : ℕ × ℕ) × ReadyWords text words × (ready_claim words ≡ claim)
ready_from text (Ready device page) q =
    ((device, page), (q.1, (q.0, q.2, append_cancel_left (codes "ready ") text (q.0 ␣ q.1) q.4), q.3), refl)
ready_from text claim q = absurd (other_claim (codes "ready ") text claim refl q)

pub ready_reads : (line text : List ℕ) → Reads (Some text) (λ more. line ≡ codes "ready " ++ more) → (result : Option (ℕ × ℕ)) → Reads result (ReadyWords text)
    → Reads (option_map ready_claim result) (IsClaimWith (codes "ready ") line)
ready_reads line text begun result reads =
    claim_reads ready_claim (ReadyWords text) (codes "ready ") line text result (λ v. refl) begun
    (λ words q. (q.1.0, q.0, q.1.1, q.2, ap (λ t. codes "ready" ␣ t) (q.1.2)))
    (ready_from text) reads

-- release

abbrev pub ReleaseWords : List ℕ → ℕ × ℕ → Type 0
ReleaseWords text words = Followed IsDevice IsNumber text words

abbrev pub release_claim : ℕ × ℕ → Claim
release_claim words = Release words.0 words.1

pub release_from : (text : List ℕ) (claim : Claim) → IsClaim (codes "release" ␣ text) claim → (words : ℕ × ℕ) × ReleaseWords text words × (release_claim words ≡ claim)
release_from text (Release device page) q =
    ((device, page), (q.1, (q.0, q.2, append_cancel_left (codes "release ") text (q.0 ␣ q.1) q.4), q.3), refl)
release_from text claim q = absurd (other_claim (codes "release ") text claim refl q)

pub release_reads : (line text : List ℕ) → Reads (Some text) (λ more. line ≡ codes "release " ++ more) → (result : Option (ℕ × ℕ)) → Reads result (ReleaseWords text)
    → Reads (option_map release_claim result) (IsClaimWith (codes "release ") line)
release_reads line text begun result reads =
    claim_reads release_claim (ReleaseWords text) (codes "release ") line text result (λ v. refl) begun
    (λ words q. (q.1.0, q.0, q.1.1, q.2, ap (λ t. codes "release" ␣ t) (q.1.2)))
    (release_from text) reads

-- done

abbrev pub DoneWords : List ℕ → ℕ → Type 0
DoneWords text words = IsNumber text words

abbrev pub done_claim : ℕ → Claim
done_claim words = Done words

pub done_from : (text : List ℕ) (claim : Claim) → IsClaim (codes "done" ␣ text) claim → (words : ℕ) × DoneWords text words × (done_claim words ≡ claim)
done_from text (Done number) q = (number, subst (λ t. IsNumber t number) (sym (append_cancel_left (codes "done ") text q.0 q.2)) q.1, refl)
done_from text claim q = absurd (other_claim (codes "done ") text claim refl q)

pub done_reads : (line text : List ℕ) → Reads (Some text) (λ more. line ≡ codes "done " ++ more) → (result : Option ℕ) → Reads result (DoneWords text)
    → Reads (option_map done_claim result) (IsClaimWith (codes "done ") line)
done_reads line text begun result reads =
    claim_reads done_claim (DoneWords text) (codes "done ") line text result (λ v. refl) begun
    (λ words q. (text, q, refl))
    (done_from text) reads

-- handoff

abbrev pub HandOffWords : List ℕ → ℕ → Type 0
HandOffWords text words = IsNumber text words

abbrev pub hand_off_claim : ℕ → Claim
hand_off_claim words = HandOff words

pub hand_off_from : (text : List ℕ) (claim : Claim) → IsClaim (codes "handoff" ␣ text) claim → (words : ℕ) × HandOffWords text words × (hand_off_claim words ≡ claim)
hand_off_from text (HandOff frame) q = (frame, subst (λ t. IsNumber t frame) (sym (append_cancel_left (codes "handoff ") text q.0 q.2)) q.1, refl)
hand_off_from text claim q = absurd (other_claim (codes "handoff ") text claim refl q)

pub hand_off_reads : (line text : List ℕ) → Reads (Some text) (λ more. line ≡ codes "handoff " ++ more) → (result : Option ℕ) → Reads result (HandOffWords text)
    → Reads (option_map hand_off_claim result) (IsClaimWith (codes "handoff ") line)
hand_off_reads line text begun result reads =
    claim_reads hand_off_claim (HandOffWords text) (codes "handoff ") line text result (λ v. refl) begun
    (λ words q. (text, q, refl))
    (hand_off_from text) reads

-- take

abbrev pub TakeWords : List ℕ → ℕ → Type 0
TakeWords text words = IsNumber text words

abbrev pub take_claim : ℕ → Claim
take_claim words = Take words

pub take_from : (text : List ℕ) (claim : Claim) → IsClaim (codes "take" ␣ text) claim → (words : ℕ) × TakeWords text words × (take_claim words ≡ claim)
take_from text (Take frame) q = (frame, subst (λ t. IsNumber t frame) (sym (append_cancel_left (codes "take ") text q.0 q.2)) q.1, refl)
take_from text claim q = absurd (other_claim (codes "take ") text claim refl q)

pub take_reads : (line text : List ℕ) → Reads (Some text) (λ more. line ≡ codes "take " ++ more) → (result : Option ℕ) → Reads result (TakeWords text)
    → Reads (option_map take_claim result) (IsClaimWith (codes "take ") line)
take_reads line text begun result reads =
    claim_reads take_claim (TakeWords text) (codes "take ") line text result (λ v. refl) begun
    (λ words q. (text, q, refl))
    (take_from text) reads

-- trust

abbrev pub TrustWords : List ℕ → ℕ → Type 0
TrustWords text words = IsDevice text words

abbrev pub trust_claim : ℕ → Claim
trust_claim words = Trust words

pub trust_from : (text : List ℕ) (claim : Claim) → IsClaim (codes "trust" ␣ text) claim → (words : ℕ) × TrustWords text words × (trust_claim words ≡ claim)
trust_from text (Trust device) q = (device, subst (λ t. IsDevice t device) (sym (append_cancel_left (codes "trust ") text q.0 q.2)) q.1, refl)
trust_from text claim q = absurd (other_claim (codes "trust ") text claim refl q)

pub trust_reads : (line text : List ℕ) → Reads (Some text) (λ more. line ≡ codes "trust " ++ more) → (result : Option ℕ) → Reads result (TrustWords text)
    → Reads (option_map trust_claim result) (IsClaimWith (codes "trust ") line)
trust_reads line text begun result reads =
    claim_reads trust_claim (TrustWords text) (codes "trust ") line text result (λ v. refl) begun
    (λ words q. (text, q, refl))
    (trust_from text) reads

-- a text says one claim
pub claim_same : (text : List ℕ) (a b : Claim) → IsClaim text a → IsClaim text b → a ≡ b
claim_same text (Grant device page frame rights) b p q =
    let words = p.0 ␣ p.1 ␣ p.2 ␣ p.3 in
    event_by_words grant_claim (GrantWords words) (Grant device page frame rights) b (followed_same IsDevice (Followed IsNumber (Followed IsNumber IsRight)) device_without_space device_same (followed_same IsNumber (Followed IsNumber IsRight) number_without_space number_same (followed_same IsNumber IsRight number_without_space number_same right_same)) words)
    (grant_from words (Grant device page frame rights) (p.0, p.1, p.2, p.3, p.4, p.5, p.6, p.7, refl)) (grant_from words b (subst (λ t. IsClaim t b) p.8 q))
claim_same text (Ready device page) b p q =
    let words = p.0 ␣ p.1 in
    event_by_words ready_claim (ReadyWords words) (Ready device page) b (followed_same IsDevice IsNumber device_without_space device_same number_same words)
    (ready_from words (Ready device page) (p.0, p.1, p.2, p.3, refl)) (ready_from words b (subst (λ t. IsClaim t b) p.4 q))
claim_same text (Release device page) b p q =
    let words = p.0 ␣ p.1 in
    event_by_words release_claim (ReleaseWords words) (Release device page) b (followed_same IsDevice IsNumber device_without_space device_same number_same words)
    (release_from words (Release device page) (p.0, p.1, p.2, p.3, refl)) (release_from words b (subst (λ t. IsClaim t b) p.4 q))
claim_same text (Done number) b p q =
    let words = p.0 in
    event_by_words done_claim (DoneWords words) (Done number) b (number_same words)
    (done_from words (Done number) (p.0, p.1, refl)) (done_from words b (subst (λ t. IsClaim t b) p.2 q))
claim_same text (HandOff frame) b p q =
    let words = p.0 in
    event_by_words hand_off_claim (HandOffWords words) (HandOff frame) b (number_same words)
    (hand_off_from words (HandOff frame) (p.0, p.1, refl)) (hand_off_from words b (subst (λ t. IsClaim t b) p.2 q))
claim_same text (Take frame) b p q =
    let words = p.0 in
    event_by_words take_claim (TakeWords words) (Take frame) b (number_same words)
    (take_from words (Take frame) (p.0, p.1, refl)) (take_from words b (subst (λ t. IsClaim t b) p.2 q))
claim_same text (Trust device) b p q =
    let words = p.0 in
    event_by_words trust_claim (TrustWords words) (Trust device) b (device_same words)
    (trust_from words (Trust device) (p.0, p.1, refl)) (trust_from words b (subst (λ t. IsClaim t b) p.2 q))

-- what is read of a text that begins so is read of the text
pub claim_found : (start text : List ℕ) (claim : Claim) → Reads (Some claim) (IsClaimWith start text) → Reads (Some claim) (IsClaim text)
claim_found start text claim reads =
    let q = read_holds (IsClaimWith start text) claim reads in
    reads_some (IsClaim text) claim q.1 (λ other r. claim_same text claim other q.1 r)

-- what is read of the last kind is read of the text, where nothing is read of the others
pub last_claim : (text : List ℕ) (result : Option Claim) → Reads None (IsClaimWith (codes "take ") text) → Reads None (IsClaimWith (codes "grant ") text)
    → Reads None (IsClaimWith (codes "ready ") text) → Reads None (IsClaimWith (codes "release ") text) → Reads None (IsClaimWith (codes "done ") text)
    → Reads None (IsClaimWith (codes "handoff ") text) → Reads result (IsClaimWith (codes "trust ") text) → Reads result (IsClaim text)
last_claim text result take grant ready release done hand_off trust = λ claim. (λ e. ((trust claim).0 e).1, λ q. found claim q)
  where
    found : (claim : Claim) → IsClaim text claim → result ≡ Some claim
    found (Take frame) q = absurd (read_nothing (IsClaimWith (codes "take ") text) (Take frame) take (refl, q))
    found (Grant device page frame rights) q = absurd (read_nothing (IsClaimWith (codes "grant ") text) (Grant device page frame rights) grant (refl, q))
    found (Ready device page) q = absurd (read_nothing (IsClaimWith (codes "ready ") text) (Ready device page) ready (refl, q))
    found (Release device page) q = absurd (read_nothing (IsClaimWith (codes "release ") text) (Release device page) release (refl, q))
    found (Done number) q = absurd (read_nothing (IsClaimWith (codes "done ") text) (Done number) done (refl, q))
    found (HandOff frame) q = absurd (read_nothing (IsClaimWith (codes "handoff ") text) (HandOff frame) hand_off (refl, q))
    found (Trust device) q = (trust (Trust device)).1 (refl, q)
