-- The bits of a status register that is read are those that it holds: every value that it can hold is tried.
use Rattle.std.proofs.Common.{◌≡◌, Bool, true, false, refl}
use Rattle.iom_registers.specs.Fields.{cqcsr_bits, cqcsr_value, fqcsr_bits, fqcsr_value}
use Rattle.iom_registers.specs.declared.status.CommandStatus.{CommandStatus}
use Rattle.iom_registers.specs.declared.status.FaultStatus.{FaultStatus}

-- what holds of both truth values holds of each
both : (P : Bool → Type 0) → P true → P false → (b : Bool) → P b
both P t f true = t
both P t f false = f

pub command : (cqen cie cqmf cmd_to cmd_ill fence_w_ip : Bool)
    → let status : CommandStatus = record {
      cqen = cqen;
      cie = cie;
      cqmf = cqmf;
      cmd_to = cmd_to;
      cmd_ill = cmd_ill;
      fence_w_ip = fence_w_ip;
    } in
    cqcsr_bits (cqcsr_value status) ≡ status
command = both _
    (both _
    (both _
    (both _ (both _ (both _ refl refl) (both _ refl refl)) (both _ (both _ refl refl) (both _ refl refl)))
    (both _ (both _ (both _ refl refl) (both _ refl refl)) (both _ (both _ refl refl) (both _ refl refl))))
    (both _
    (both _ (both _ (both _ refl refl) (both _ refl refl)) (both _ (both _ refl refl) (both _ refl refl)))
    (both _ (both _ (both _ refl refl) (both _ refl refl)) (both _ (both _ refl refl) (both _ refl refl)))))
    (both _
    (both _
    (both _ (both _ (both _ refl refl) (both _ refl refl)) (both _ (both _ refl refl) (both _ refl refl)))
    (both _ (both _ (both _ refl refl) (both _ refl refl)) (both _ (both _ refl refl) (both _ refl refl))))
    (both _
    (both _ (both _ (both _ refl refl) (both _ refl refl)) (both _ (both _ refl refl) (both _ refl refl)))
    (both _ (both _ (both _ refl refl) (both _ refl refl)) (both _ (both _ refl refl) (both _ refl refl)))))

pub fault : (fqen fie fqmf fqof : Bool)
    → let status : FaultStatus = record { fqen = fqen; fie = fie; fqmf = fqmf; fqof = fqof } in fqcsr_bits (fqcsr_value status) ≡ status
fault = both _
    (both _ (both _ (both _ refl refl) (both _ refl refl)) (both _ (both _ refl refl) (both _ refl refl)))
    (both _ (both _ (both _ refl refl) (both _ refl refl)) (both _ (both _ refl refl) (both _ refl refl)))
