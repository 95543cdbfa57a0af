use Rattle.std.proofs.Common.{◌≡◌, ◌++◌, ◌∙◌, List, ℕ, ap, append_assoc, codes, inl, inr, sym}
use Rattle.std.specs.Fmt.{decimal}
use Rattle.iom_base.specs.GrantRights.{rights_of}
use Rattle.iom_base.specs.Rights.{letters}
use Rattle.iom_base.specs.declared.grant_rights.GrantRights.{GrantRights}
use Rattle.iom_script.specs.Words.{IsRight}
use Rattle.iom_script.proofs.ReadsLemmas.{read_holds}
use Rattle.iom_trace_lines.proofs.kept.translation_of.Goals as goal

-- the letters of a right are the word that says it
letters_read : (text : List ℕ) (granted : GrantRights) → IsRight text granted → text ≡ letters (rights_of granted)
letters_read text granted (inl (is, same)) = is ∙ ap (λ (g : GrantRights). letters (rights_of g)) (sym same)
letters_read text granted (inr (is, same)) = is ∙ ap (λ (g : GrantRights). letters (rights_of g)) (sym same)

pub returns : goal.returns
returns c =
    let granted = c.in_ok-right_of.field-0 in
    let word = c.in_ok-behind.field-0.now in
    let letters_are : word ≡ letters c.rights-rights.result =
    letters_read word granted (read_holds (λ (g : GrantRights). IsRight word g) granted c.in_ok-right_of.ensures) ∙ ap letters (sym c.rights-rights.ensures.value) in
    let rest : c.in_ok-frame.rest.now ≡ codes " " ++ letters c.rights-rights.result = c.in_ok-behind.ensures ∙ ap (λ (l : List ℕ). codes " " ++ l) letters_are in
    ap (λ (l : List ℕ). codes "answer " ++ l)
    (append_assoc (decimal c.in_ok-frame.frame) (codes " ") (letters c.rights-rights.result) ∙ sym (c.in_ok-frame.ensures ∙ ap (λ (l : List ℕ). decimal c.in_ok-frame.frame ++ l) rest))
