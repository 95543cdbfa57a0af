-- What holds for each kind of access that some rights allow.
use Rattle.std.proofs.Common.{◌≡◌, true, false, sym, ◌∙◌}
use Rattle.std.proofs.lemmas.Bool.{false≢true}
use Rattle.iom_base.specs.declared.access.AccessKind.{AccessKind}
use Rattle.iom_base.specs.declared.access.AccessKind.TheVariants.{Read, Write}
use Rattle.iom_base.specs.declared.rights.Rights.{Rights}
use Rattle.iom_base.specs.Rights.{allows}
use Rattle.iom_machine.specs.Questions.{IsForEachKind}

-- of reads alone
pub each_if_reads : (rights : Rights) (IsSuch : AccessKind → Type 0) → allows rights Read ≡ true → IsSuch Read → allows rights Write ≡ false → IsForEachKind rights IsSuch
each_if_reads rights IsSuch allowed reads none = (allowed, by)
  where
    by : (kind : AccessKind) → allows rights kind ≡ true → IsSuch kind
    by Read ok = reads
    by Write ok = absurd (false≢true (sym none ∙ ok))

-- of both
pub each_if_both : (rights : Rights) (IsSuch : AccessKind → Type 0) → allows rights Read ≡ true → IsSuch Read → IsSuch Write → IsForEachKind rights IsSuch
each_if_both rights IsSuch allowed reads writes = (allowed, by)
  where
    by : (kind : AccessKind) → allows rights kind ≡ true → IsSuch kind
    by Read ok = reads
    by Write ok = writes
