-- What a text does, by the line that it says.
use Rattle.std.proofs.Common.{ℕ, List, Result, Ok, Err, OnOk, IfOk, inl}
use Rattle.iom_hardware_script.specs.declared.script.HardwareLine.{HardwareLine}
use Rattle.iom_litmus.specs.declared.reply.Reply.{Reply}
use Rattle.iom_litmus_hardware.specs.Lines.{Says, LeadsBy}
use Rattle.iom_litmus_hardware.specs.Places.{Tested, AreListed}
use Rattle.iom_litmus_hardware.specs.Systems.{rules}

pub ran : {E : Type 0} (result : Result Reply E) (old new : Tested) (text : List ℕ) (said : HardwareLine) → Says text said → OnOk result (AreListed new)
    → IfOk result (λ reply. LeadsBy said old.place reply new.place) → IfOk result (λ reply. rules.runs old text reply new)
ran (Ok reply) old new text said says listed leads = (inl (said, says, leads), listed)
ran (Err why) old new text said says listed leads = tt
