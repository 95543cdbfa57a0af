-- What is shown, after each call.
use Rattle.std.proofs.Common.{◌≡◌, ℕ, ◌+◌, ◌≤◌, Bool, false, ◌||◌, cond, nat_cmp, List, [], ◌∷◌, ◌++◌, find, Contains, None, Some, Result, Ok, Err, IfOk, OnOk, nat_eq, refl, sym, ap, ◌∙◌, subst, arith}
use Rattle.std.specs.List.{list_any}
use Rattle.std.specs.BTreeMap.{is_at as is_at_key}
use Rattle.std.proofs.lemmas.Bool.{eqb-true}
use Rattle.std.proofs.lemmas.Bool.Decides.{nat_tests}
use Rattle.iom_base.specs.declared.refusal.Refusal.{Refusal}
use Rattle.iom_ledger.specs.declared.entry.HistoryEntry.TheVariants.{Granted, Released, Confirmed}
use Rattle.iom_ledger.specs.History.{held_at}
use Rattle.iom_claims.specs.declared.grant.Grant.{Grant}
use Rattle.iom_claims.specs.declared.grant.OpenClaim.{OpenClaim}
use Rattle.iom_claims.specs.Claimed.{Claimed, nothing_claimed, after_grant, after_release, after_done, after_mark}
use Rattle.iom_claims.specs.Rows.{Rows, has_mark, is_at, is_numbered, without_number, Withdraws}
use Rattle.iom_claims.specs.Shown.{AreHeldGrants, AreClaims, ShowsClaimed}
use Rattle.iom_claims.proofs.ListLemmas.{found_by}
use Rattle.iom_claims.proofs.HistoryLemmas.{claim_from, at_page}
use Rattle.iom_claims.proofs.RowLemmas.{grants_after_grant, grants_after_release, grants_after_done, claims_after_grant, claims_after_release, claims_after_done, unused_after_release, unused_after_done}

nothing : {X : Type 0} (x : X) → Contains [] x → ⊥
nothing x (k, below, at) = omega arith

-- no row and no mark
pub shows_nothing : (rows : Rows) → rows.held ≡ [] → rows.claims ≡ [] → rows.handed_on ≡ [] → rows.last ≡ 0 → ShowsClaimed rows nothing_claimed
shows_nothing rows held claims marks last = record {
  holds = λ grant. ((λ c. absurd (nothing grant (subst (λ l. Contains l grant) held c))), (λ is. cc));
  lingers = record {
    opens = λ claim. ((λ c. absurd (nothing claim (subst (λ l. Contains l claim) claims c))), (λ is. absurd (nothing _ is)));
    single = λ one other c d same. absurd (nothing one (subst (λ l. Contains l one) claims c));
    given = λ claim c. absurd (nothing claim (subst (λ l. Contains l claim) claims c));
  };
  unused = λ number above. refl;
  counted = last;
  marked = λ frame. ap (list_any (nat_eq frame)) marks;
}

pub shows_granted : (old new : Rows) (claimed : Claimed) (grant : Grant) → ShowsClaimed old claimed → held_at claimed.history grant.device grant.page ≡ None
    → new.held ≡ old.held ++ grant ∷ [] → new.claims ≡ old.claims → new.last ≡ old.last
    → ((frame : ℕ) → has_mark new frame ≡ cond (nat_eq grant.frame frame) false (has_mark old frame))
    → ShowsClaimed new (after_grant grant claimed)
shows_granted old new claimed grant shows none held claims last marks = record {
  holds = subst (λ l. AreHeldGrants l (Granted grant.device grant.page grant.frame grant.rights ∷ claimed.history)) (sym held) (grants_after_grant old.held claimed.history grant none shows.holds);
  lingers = subst (λ l. AreClaims l (Granted grant.device grant.page grant.frame grant.rights ∷ claimed.history) claimed.last) (sym claims)
      (claims_after_grant old.claims claimed.history claimed.last grant shows.lingers);
  unused = λ number above. shows.unused number above;
  counted = last ∙ shows.counted;
  marked = λ frame. marks frame ∙ ap (λ b. cond (nat_eq grant.frame frame) false b) (shows.marked frame);
}

pub shows_released : (old new : Rows) (claimed : Claimed) (device page number : ℕ) (grant : Grant) → ShowsClaimed old claimed → find (is_at device page) old.held ≡ Some grant
    → number ≡ old.last + 1 → Withdraws old new grant number → ShowsClaimed new (after_release device page claimed)
shows_released old new claimed device page number grant shows found next withdraws =
    let was = found_by (is_at device page) old.held grant found in
    let parts = at_page device page grant was.1 in
    let given : number ≡ claimed.last + 1 = next ∙ ap (λ n. n + 1) shows.counted in
    let opened = claims_after_release old.claims claimed.history claimed.last grant ((shows.holds grant).0 was.0) shows.unused shows.lingers in
    let own : ShowsClaimed new (after_release grant.device grant.page claimed) = record {
      holds = subst (λ l. AreHeldGrants l (Released grant.device grant.page (claimed.last + 1) ∷ claimed.history)) (sym withdraws.held)
          (grants_after_release old.held claimed.history grant.device grant.page (claimed.last + 1) shows.holds);
      lingers = subst (λ l. AreClaims l (Released grant.device grant.page (claimed.last + 1) ∷ claimed.history) (claimed.last + 1))
          (sym (withdraws.claims ∙ ap (λ n. old.claims ++ claim_from n grant ∷ []) given)) opened;
      unused = unused_after_release claimed.history claimed.last grant.device grant.page shows.unused;
      counted = withdraws.last ∙ given;
      marked = λ frame. ap (list_any (nat_eq frame)) withdraws.handed_on ∙ shows.marked frame;
    } in
    subst (λ d. ShowsClaimed new (after_release d page claimed)) (sym parts.0) (subst (λ p. ShowsClaimed new (after_release grant.device p claimed)) (sym parts.1) own)

pub shows_released_if : (old new : Rows) (claimed : Claimed) (device page : ℕ) (grant : Grant) (result : Result ℕ Refusal) → ShowsClaimed old claimed
    → find (is_at device page) old.held ≡ Some grant → IfOk result (λ number. number ≡ old.last + 1) → IfOk result (λ number. Withdraws old new grant number)
    → OnOk result (ShowsClaimed new (after_release device page claimed))
shows_released_if old new claimed device page grant (Ok number) shows found next withdraws = shows_released old new claimed device page number grant shows found next withdraws
shows_released_if old new claimed device page grant (Err why) shows found next withdraws = tt

pub shows_done : (old new : Rows) (claimed : Claimed) (number : ℕ) (claim : OpenClaim) → ShowsClaimed old claimed → find (is_numbered number) old.claims ≡ Some claim
    → new.held ≡ old.held → new.claims ≡ without_number number old.claims → new.last ≡ old.last → new.handed_on ≡ old.handed_on
    → ShowsClaimed new (after_done number claimed)
shows_done old new claimed number claim shows found held claims last marks =
    let was = found_by (is_numbered number) old.claims claim found in
    let given : number ≤ claimed.last = subst (λ n. n ≤ claimed.last) (sym (eqb-true number claim.number was.1)) (shows.lingers.given claim was.0) in
    record {
      holds = subst (λ l. AreHeldGrants l (Confirmed number ∷ claimed.history)) (sym held) (grants_after_done old.held claimed.history number shows.holds);
      lingers = subst (λ l. AreClaims l (Confirmed number ∷ claimed.history) claimed.last) (sym claims) (claims_after_done old.claims claimed.history claimed.last number shows.lingers);
      unused = unused_after_done claimed.history claimed.last number given shows.unused;
      counted = last ∙ shows.counted;
      marked = λ frame. ap (list_any (nat_eq frame)) marks ∙ shows.marked frame;
    }

pub shows_marked : (old new : Rows) (claimed : Claimed) (named : ℕ) (mark : Bool) → ShowsClaimed old claimed
    → new.held ≡ old.held → new.claims ≡ old.claims → new.last ≡ old.last
    → ((frame : ℕ) → has_mark new frame ≡ cond (nat_eq named frame) mark (has_mark old frame))
    → ShowsClaimed new (after_mark named mark claimed)
shows_marked old new claimed named mark shows held claims last marks = record {
  holds = subst (λ l. AreHeldGrants l claimed.history) (sym held) shows.holds;
  lingers = subst (λ l. AreClaims l claimed.history claimed.last) (sym claims) shows.lingers;
  unused = shows.unused;
  counted = last ∙ shows.counted;
  marked = λ frame. marks frame ∙ ap (λ b. cond (nat_eq named frame) mark b) (shows.marked frame);
}

-- a set that is ordered finds what equals a frame
is_at_frame : (frame other : ℕ) → is_at_key (nat_cmp frame) other ≡ nat_eq frame other
is_at_frame frame other = grind (arith, nat_tests)

marks_in_order : (frame : ℕ) (keys : List ℕ) → list_any (is_at_key (nat_cmp frame)) keys ≡ list_any (nat_eq frame) keys
marks_in_order frame [] = refl
marks_in_order frame (key ∷ keys) = ap (λ here. here || list_any (is_at_key (nat_cmp frame)) keys) (is_at_frame frame key) ∙ ap (λ later. nat_eq frame key || later) (marks_in_order frame keys)

-- a set after one frame's mark was set or cleared
pub updates_marks : (old new : List ℕ) (named : ℕ) (mark : Bool)
    → ((frame : ℕ) → list_any (is_at_key (nat_cmp frame)) new ≡ cond (is_at_key (nat_cmp named) frame) mark (list_any (is_at_key (nat_cmp frame)) old))
    → (frame : ℕ) → list_any (nat_eq frame) new ≡ cond (nat_eq named frame) mark (list_any (nat_eq frame) old)
updates_marks old new named mark updates frame =
    sym (marks_in_order frame new) ∙ updates frame ∙ ap (λ here. cond here mark (list_any (is_at_key (nat_cmp frame)) old)) (is_at_frame named frame)
    ∙ ap (λ before. cond (nat_eq named frame) mark before) (marks_in_order frame old)
