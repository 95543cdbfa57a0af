use Rattle.std.proofs.Common.{refl}
use Rattle.iom_hardware_script.specs.declared.script.Pace.TheVariants.{Stepped, Pointed, Napot, PointedNapot}
use Rattle.iom_hardware_script.proofs.SetupLemmas.{named, none_named}
use Rattle.iom_hardware_script.proofs.first_line.pace_of.Goals as goal

pub returns-then-is_word : goal.returns-then-is_word
returns-then-is_word c = named c.args.word.now Stepped (c.if-is_word.ensures.0 refl)

pub returns-then-is_word-2 : goal.returns-then-is_word-2
returns-then-is_word-2 c = named c.args.word.now Pointed (c.if-is_word-2.ensures.0 refl)

pub returns-then-is_word-3 : goal.returns-then-is_word-3
returns-then-is_word-3 c = named c.args.word.now Napot (c.if-is_word-3.ensures.0 refl)

pub returns-then-is_word-4 : goal.returns-then-is_word-4
returns-then-is_word-4 c = named c.args.word.now PointedNapot (c.if-is_word-4.ensures.0 refl)

pub returns : goal.returns
returns c =
    none_named c.args.word.now (λ stepped. let is = c.if-is_word.ensures.1 stepped in cc) (λ nonleaf. let is = c.if-is_word-2.ensures.1 nonleaf in cc)
    (λ napot. let is = c.if-is_word-3.ensures.1 napot in cc) (λ both. let is = c.if-is_word-4.ensures.1 both in cc)
