-- Rows after each entry of the history, and what a search in them finds.
use Rattle.std.proofs.Common.{◌≡◌, ◌↔◌, ◌⊎◌, inl, inr, ℕ, ◌+◌, ◌≤◌, Bool, true, false, not, ◌==◌, ◌&&◌, ◌||◌, List, [], ◌∷◌, ◌++◌, find, Contains, Option, None, Some, IfSome, IsNone, refl, sym, ap, ◌∙◌, subst, arith}
use Rattle.std.specs.List.{list_any}
use Rattle.std.specs.Option.{option_map}
use Rattle.std.proofs.lemmas.Bool.{false≢true, true≢false, eqb-true, eq-eqb, and_parts, and_from}
use Rattle.std.proofs.lemmas.List.Elements.{Contains-push, Contains-push_cases, Contains-append_left}
use Rattle.iom_base.specs.declared.access.AccessKind.{AccessKind}
use Rattle.iom_base.specs.Rights.{allows}
use Rattle.iom_ledger.specs.declared.entry.HistoryEntry.TheVariants.{Granted, Released, Confirmed}
use Rattle.iom_ledger.specs.History.{History, Pair, held_at, lingering_at, confirms, May}
use Rattle.iom_claims.specs.declared.grant.Grant.{Grant}
use Rattle.iom_claims.specs.declared.grant.OpenClaim.{OpenClaim}
use Rattle.iom_claims.specs.Claimed.{IsHeld, IsOpen}
use Rattle.iom_claims.specs.Rows.{is_at, is_on, is_numbered, lets, claim_is_on, claim_lets, pair_of, grant_of, without_page, without_number}
use Rattle.iom_claims.specs.Shown.{AreHeldGrants, AreClaims, AreUnused}
use Rattle.iom_claims.proofs.ListLemmas.{contains_filter, contains_from_filter, found_by, none_by, passing_from_any, any_from_passing}
use Rattle.iom_claims.proofs.HistoryLemmas.{grant_from, claim_from, same_claim, is_own, moved, held_to_grant, held_from_grant, held_to_release, held_from_release, lingering_after_grant, open_from_release, open_to_release, open_from_done, open_to_done}

-- the grants, after a grant where nothing was held
pub grants_after_grant : (rows : List Grant) (h : History) (grant : Grant) → held_at h grant.device grant.page ≡ None → AreHeldGrants rows h
    → AreHeldGrants (rows ++ grant ∷ []) (Granted grant.device grant.page grant.frame grant.rights ∷ h)
grants_after_grant rows h grant none shows other = (
  (λ c. held_to_grant h grant other none (elim (Contains-push_cases rows grant other c) [ inl before ↦ inl ((shows other).0 before) | inr same ↦ inr same ])),
  (λ held. elim (held_from_grant h grant other held) [
    | inl before ↦ Contains-append_left rows (grant ∷ []) other ((shows other).1 before)
    | inr same ↦ subst (λ x. Contains (rows ++ grant ∷ []) x) same (Contains-push rows grant)
  ]),
)

-- after a release
pub grants_after_release : (rows : List Grant) (h : History) (device page number : ℕ) → AreHeldGrants rows h
    → AreHeldGrants (without_page device page rows) (Released device page number ∷ h)
grants_after_release rows h device page number shows other = (
  (λ c. let kept = contains_from_filter (λ grant. not (is_at device page grant)) rows other c in
      held_to_release h device page number other ((shows other).0 kept.0) kept.1),
  (λ held. let was = held_from_release h device page number other held in
      contains_filter (λ grant. not (is_at device page grant)) rows other ((shows other).1 was.0) was.1),
)

-- after a confirmation
pub grants_after_done : (rows : List Grant) (h : History) (number : ℕ) → AreHeldGrants rows h → AreHeldGrants rows (Confirmed number ∷ h)
grants_after_done rows h number shows other = shows other

-- the claims, after a grant
pub claims_after_grant : (rows : List OpenClaim) (h : History) (last : ℕ) (grant : Grant) → AreClaims rows h last
    → AreClaims rows (Granted grant.device grant.page grant.frame grant.rights ∷ h) last
claims_after_grant rows h last grant shows = record {
  opens = λ claim. (
    (λ c. subst (λ l. Contains l (claim.number, pair_of claim.grant)) (sym (lingering_after_grant h grant claim.grant.device claim.grant.page)) ((shows.opens claim).0 c)),
    (λ o. (shows.opens claim).1 (subst (λ l. Contains l (claim.number, pair_of claim.grant)) (lingering_after_grant h grant claim.grant.device claim.grant.page) o)),
  );
  single = shows.single;
  given = shows.given;
}

-- after a release under the next number
pub claims_after_release : (rows : List OpenClaim) (h : History) (last : ℕ) (grant : Grant) → IsHeld h grant → AreUnused h last → AreClaims rows h last
    → AreClaims (rows ++ claim_from (last + 1) grant ∷ []) (Released grant.device grant.page (last + 1) ∷ h) (last + 1)
claims_after_release rows h last grant held unused shows = record {
  opens = λ claim. (
    (λ c. open_to_release h grant (last + 1) claim held (unused (last + 1) (omega arith))
        (elim (Contains-push_cases rows (claim_from (last + 1) grant) claim c) [ inl before ↦ inl ((shows.opens claim).0 before) | inr same ↦ inr same ])),
    (λ o. elim (open_from_release h grant (last + 1) claim held o) [
      | inl before ↦ Contains-append_left rows (claim_from (last + 1) grant ∷ []) claim ((shows.opens claim).1 before)
      | inr same ↦ subst (λ x. Contains (rows ++ claim_from (last + 1) grant ∷ []) x) same (Contains-push rows (claim_from (last + 1) grant))
    ]),
  );
  single = λ one other c d same.
      elim (Contains-push_cases rows (claim_from (last + 1) grant) one c) [
        | inl a ↦ elim (Contains-push_cases rows (claim_from (last + 1) grant) other d) [
          | inl b ↦ shows.single one other a b same
          | inr e ↦ absurd (too_high one.number other.number (shows.given one a) same (ap (λ (x : OpenClaim). x.number) e))
        ]
        | inr e ↦ elim (Contains-push_cases rows (claim_from (last + 1) grant) other d) [
          | inl b ↦ absurd (too_high other.number one.number (shows.given other b) (sym same) (ap (λ (x : OpenClaim). x.number) e))
          | inr f ↦ sym e ∙ f
        ]
      ];
  given = λ claim c. elim (Contains-push_cases rows (claim_from (last + 1) grant) claim c) [
    | inl b ↦ below claim.number (shows.given claim b)
    | inr e ↦ own claim.number (ap (λ (x : OpenClaim). x.number) e)
  ];
}
  where
    too_high : (a b : ℕ) → a ≤ last → a ≡ b → last + 1 ≡ b → ⊥
    too_high a b le same is = omega arith

    below : (a : ℕ) → a ≤ last → a ≤ last + 1
    below a le = omega arith

    own : (a : ℕ) → last + 1 ≡ a → a ≤ last + 1
    own a is = omega arith

-- after a confirmation
pub claims_after_done : (rows : List OpenClaim) (h : History) (last number : ℕ) → AreClaims rows h last
    → AreClaims (without_number number rows) (Confirmed number ∷ h) last
claims_after_done rows h last number shows = record {
  opens = λ claim. (
    (λ c. let kept = contains_from_filter (λ claim. not (is_numbered number claim)) rows claim c in open_to_done h number claim ((shows.opens claim).0 kept.0) kept.1),
    (λ o. let was = open_from_done h number claim o in contains_filter (λ claim. not (is_numbered number claim)) rows claim ((shows.opens claim).1 was.0) was.1),
  );
  single = λ one other c d same.
      shows.single one other (contains_from_filter (λ claim. not (is_numbered number claim)) rows one c).0 (contains_from_filter (λ claim. not (is_numbered number claim)) rows other d).0 same;
  given = λ claim c. shows.given claim (contains_from_filter (λ claim. not (is_numbered number claim)) rows claim c).0;
}

-- the numbers that are still to be given
pub unused_after_release : (h : History) (last device page : ℕ) → AreUnused h last → AreUnused (Released device page (last + 1) ∷ h) (last + 1)
unused_after_release h last device page unused number above = unused number (omega arith)

pub unused_after_done : (h : History) (last number : ℕ) → number ≤ last → AreUnused h last → AreUnused (Confirmed number ∷ h) last
unused_after_done h last number given unused other above = by (number == other) refl
  where
    by : (b : Bool) → (number == other) ≡ b → (b || confirms h other) ≡ false
    by false e = unused other above
    by true e = let same = eqb-true number other e in absurd (omega arith)

-- what is held at a page is what a search for the page finds
pub held_is : (rows : List Grant) (h : History) → AreHeldGrants rows h → (device page : ℕ) → option_map pair_of (find (is_at device page) rows) ≡ held_at h device page
held_is rows h shows device page = by (find (is_at device page) rows) refl (held_at h device page) refl
  where
    by : (found : Option Grant) → find (is_at device page) rows ≡ found → (held : Option Pair) → held_at h device page ≡ held → option_map pair_of found ≡ held
    by (Some grant) e held at =
        let was = found_by (is_at device page) rows grant e in
        sym ((shows grant).0 was.0) ∙ moved h device page grant held was.1 at
    by None e None at = refl
    by None e (Some pair) at =
        let miss = none_by (is_at device page) rows e (grant_from device page pair) ((shows (grant_from device page pair)).1 at) in
        absurd (false≢true (sym miss ∙ is_own (grant_from device page pair)))

-- what an open claim withdrew is what a search for its number finds
pub open_is : (rows : List OpenClaim) (h : History) (last : ℕ) → AreClaims rows h last → (number : ℕ) (grant : Grant)
    → (option_map grant_of (find (is_numbered number) rows) ≡ Some grant) ↔ IsOpen h (claim_from number grant)
open_is rows h last shows number grant = (
  (λ found. to (find (is_numbered number) rows) refl found),
  (λ o. from (find (is_numbered number) rows) refl ((shows.opens (claim_from number grant)).1 o)),
)
  where
    to : (found : Option OpenClaim) → find (is_numbered number) rows ≡ found → option_map grant_of found ≡ Some grant → IsOpen h (claim_from number grant)
    to None e absent = cc
    to (Some claim) e found =
        let was = found_by (is_numbered number) rows claim e in
        let grants : claim.grant ≡ grant = cc in
        subst (λ x. IsOpen h x) (same_claim claim (claim_from number grant) (sym (eqb-true number claim.number was.1)) grants) ((shows.opens claim).0 was.0)

    from : (found : Option OpenClaim) → find (is_numbered number) rows ≡ found → Contains rows (claim_from number grant) → option_map grant_of found ≡ Some grant
    from None e c = absurd (false≢true (sym (none_by (is_numbered number) rows e (claim_from number grant) c) ∙ eq-eqb number number refl))
    from (Some claim) e c =
        let was = found_by (is_numbered number) rows claim e in
        ap (λ (x : OpenClaim). Some x.grant) (shows.single claim (claim_from number grant) was.0 c (sym (eqb-true number claim.number was.1)))

-- a device may reach a frame exactly where a row lets it
pub may_by_grant : (rows : List Grant) (h : History) → AreHeldGrants rows h → (device frame : ℕ) (kind : AccessKind) → list_any (lets device frame kind) rows ≡ true → May h device frame kind
may_by_grant rows h shows device frame kind any =
    let (grant, c, passes) = passing_from_any (lets device frame kind) rows any in
    let outer = and_parts (device == grant.device) ((frame == grant.frame) && allows grant.rights kind) passes in
    let inner = and_parts (frame == grant.frame) (allows grant.rights kind) outer.1 in (
      grant.page,
      grant.rights,
      inl (subst (λ d. ◌≡◌ {A = Option Pair} (held_at h d grant.page) (Some (frame, grant.rights))) (sym (eqb-true device grant.device outer.0))
          (subst (λ f. ◌≡◌ {A = Option Pair} (held_at h grant.device grant.page) (Some (f, grant.rights))) (sym (eqb-true frame grant.frame inner.0)) ((shows grant).0 c))),
      inner.1,
    )

pub may_by_claim : (rows : List OpenClaim) (h : History) (last : ℕ) → AreClaims rows h last → (device frame : ℕ) (kind : AccessKind) → list_any (claim_lets device frame kind) rows ≡ true
    → May h device frame kind
may_by_claim rows h last shows device frame kind any =
    let (claim, c, passes) = passing_from_any (claim_lets device frame kind) rows any in
    let outer = and_parts (device == claim.grant.device) ((frame == claim.grant.frame) && allows claim.grant.rights kind) passes in
    let inner = and_parts (frame == claim.grant.frame) (allows claim.grant.rights kind) outer.1 in (
      claim.grant.page,
      claim.grant.rights,
      inr (
        claim.number,
        subst (λ d. Contains (lingering_at h d claim.grant.page) (claim.number, (frame, claim.grant.rights))) (sym (eqb-true device claim.grant.device outer.0))
            (subst (λ f. Contains (lingering_at h claim.grant.device claim.grant.page) (claim.number, (f, claim.grant.rights))) (sym (eqb-true frame claim.grant.frame inner.0)) ((shows.opens claim).0 c)),
      ),
      inner.1,
    )

pub row_from_may : (rows : List Grant) (claims : List OpenClaim) (h : History) (last : ℕ) → AreHeldGrants rows h → AreClaims claims h last → (device frame : ℕ) (kind : AccessKind)
    → May h device frame kind → (list_any (lets device frame kind) rows ≡ true) ⊎ (list_any (claim_lets device frame kind) claims ≡ true)
row_from_may rows claims h last shows lingers device frame kind (page, rights, reaches, allowed) =
    let grant = grant_from device page (frame, rights) in
    let passes : lets device frame kind grant ≡ true =
    and_from (device == device) ((frame == frame) && allows rights kind) (eq-eqb device device refl) (and_from (frame == frame) (allows rights kind) (eq-eqb frame frame refl) allowed) in
    elim reaches [
      | inl held ↦ inl (any_from_passing (lets device frame kind) rows grant ((shows grant).1 held) passes)
      | inr open_here ↦ inr (any_from_passing (claim_lets device frame kind) claims (claim_from open_here.0 grant) ((lingers.opens (claim_from open_here.0 grant)).1 open_here.1) passes)
    ]

-- who holds a frame, and which claim lingers on it
pub holder_is : (rows : List Grant) (h : History) → AreHeldGrants rows h → (frame : ℕ) (found : Option Grant) → found ≡ find (is_on frame) rows
    → IfSome found (λ grant. (grant.frame ≡ frame) × IsHeld h grant)
holder_is rows h shows frame None e = tt
holder_is rows h shows frame (Some grant) e =
    let was = found_by (is_on frame) rows grant (sym e) in
    (sym (eqb-true frame grant.frame was.1), (shows grant).0 was.0)

pub no_holder_is : (rows : List Grant) (h : History) → AreHeldGrants rows h → (frame : ℕ) (found : Option Grant) → found ≡ find (is_on frame) rows
    → IsNone found ↔ ((grant : Grant) → grant.frame ≡ frame → ¬ IsHeld h grant)
no_holder_is rows h shows frame None e = (
  (λ none grant on held. false≢true (sym (none_by (is_on frame) rows (sym e) grant ((shows grant).1 held)) ∙ eq-eqb frame grant.frame (sym on))),
  (λ none. refl),
)
no_holder_is rows h shows frame (Some grant) e =
    let was = found_by (is_on frame) rows grant (sym e) in (
      (λ none. absurd (true≢false none)),
      (λ none. absurd (none grant (sym (eqb-true frame grant.frame was.1)) ((shows grant).0 was.0))),
    )

pub lingering_is : (rows : List OpenClaim) (h : History) (last : ℕ) → AreClaims rows h last → (frame : ℕ) (found : Option OpenClaim) → found ≡ find (claim_is_on frame) rows
    → IfSome found (λ claim. (claim.grant.frame ≡ frame) × IsOpen h claim)
lingering_is rows h last shows frame None e = tt
lingering_is rows h last shows frame (Some claim) e =
    let was = found_by (claim_is_on frame) rows claim (sym e) in
    (sym (eqb-true frame claim.grant.frame was.1), (shows.opens claim).0 was.0)

pub none_lingering_is : (rows : List OpenClaim) (h : History) (last : ℕ) → AreClaims rows h last → (frame : ℕ) (found : Option OpenClaim) → found ≡ find (claim_is_on frame) rows
    → IsNone found ↔ ((claim : OpenClaim) → claim.grant.frame ≡ frame → ¬ IsOpen h claim)
none_lingering_is rows h last shows frame None e = (
  (λ none claim on lingers. false≢true (sym (none_by (claim_is_on frame) rows (sym e) claim ((shows.opens claim).1 lingers)) ∙ eq-eqb frame claim.grant.frame (sym on))),
  (λ none. refl),
)
none_lingering_is rows h last shows frame (Some claim) e =
    let was = found_by (claim_is_on frame) rows claim (sym e) in (
      (λ none. absurd (true≢false none)),
      (λ none. absurd (none claim (sym (eqb-true frame claim.grant.frame was.1)) ((shows.opens claim).0 was.0))),
    )

-- whether anything is held at a page, by what a search for it finds
pub held_some : (rows : List Grant) (h : History) → AreHeldGrants rows h → (device page : ℕ) (grant : Grant) → find (is_at device page) rows ≡ Some grant
    → held_at h device page ≡ Some (pair_of grant)
held_some rows h shows device page grant found = sym (held_is rows h shows device page) ∙ ap (option_map pair_of) found

pub held_none : (rows : List Grant) (h : History) → AreHeldGrants rows h → (device page : ℕ) → find (is_at device page) rows ≡ None → held_at h device page ≡ None
held_none rows h shows device page found = sym (held_is rows h shows device page) ∙ ap (option_map pair_of) found

-- the claim of which a search tells the grant
pub claim_found : (found : Option OpenClaim) (grant : Grant) → option_map grant_of found ≡ Some grant → (claim : OpenClaim) × (found ≡ Some claim)
claim_found None grant e = cc
claim_found (Some claim) grant e = (claim, refl)
