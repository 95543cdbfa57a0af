-- Two page numbers that are the same number are one, and two identifiers of address spaces, and two roots of second stages.
use Rattle.std.proofs.Common.{◌≡◌, ◌<◌, ◌%◌, ◌^◌, ◌∙◌, ℕ, ap, subst}
use Rattle.std.proofs.Props.{props}
use Rattle.iom_base.specs.declared.ppn.Ppn.{Ppn}
use Rattle.iom_device_dir.specs.declared.values.GuestRoot.{GuestRoot}
use Rattle.iom_device_dir.specs.declared.values.Pscid.{Pscid}

page_of_proof : (n : ℕ) (x y : n < 2 ^ 44) → ◌≡◌ {A = Ppn} (record { number = n; in_range = x }) (record { number = n; in_range = y })
page_of_proof n x y =
    let f : n < 2 ^ 44 → Ppn = λ z. record { number = n; in_range = z } in
    let p : IsProp (n < 2 ^ 44) = hlevel props in ap f (p x y)

pub same_page : (one other : Ppn) → one.number ≡ other.number → one ≡ other
same_page one other same =
    subst (λ n. (fits : n < 2 ^ 44) → one ≡ record { number = n; in_range = fits }) same (λ fits. page_of_proof one.number one.in_range fits) other.in_range

space_of_proof : (n : ℕ) (x y : n < 2 ^ 20) → ◌≡◌ {A = Pscid} (record { number = n; in_range = x }) (record { number = n; in_range = y })
space_of_proof n x y =
    let f : n < 2 ^ 20 → Pscid = λ z. record { number = n; in_range = z } in
    let p : IsProp (n < 2 ^ 20) = hlevel props in ap f (p x y)

pub same_space : (one other : Pscid) → one.number ≡ other.number → one ≡ other
same_space one other same =
    subst (λ n. (fits : n < 2 ^ 20) → one ≡ record { number = n; in_range = fits }) same (λ fits. space_of_proof one.number one.in_range fits) other.in_range

root_of_proofs : (n : ℕ) (x y : n < 2 ^ 44) (a b : n % 4 ≡ 0)
    → ◌≡◌ {A = GuestRoot} (record { number = n; in_range = x; aligned = a }) (record { number = n; in_range = y; aligned = b })
root_of_proofs n x y a b =
    let f : n < 2 ^ 44 → n % 4 ≡ 0 → GuestRoot = λ z c. record { number = n; in_range = z; aligned = c } in
    let p : IsProp (n < 2 ^ 44) = hlevel props in
    let q : IsProp (n % 4 ≡ 0) = hlevel props in
    ap (λ z. f z a) (p x y) ∙ ap (f y) (q a b)

pub same_root : (one other : GuestRoot) → one.number ≡ other.number → one ≡ other
same_root one other same =
    subst (λ n. (fits : n < 2 ^ 44) (even : n % 4 ≡ 0) → one ≡ record { number = n; in_range = fits; aligned = even }) same
    (λ fits even. root_of_proofs one.number one.in_range fits one.aligned even) other.in_range other.aligned
