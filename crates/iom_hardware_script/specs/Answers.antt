-- The text of an answer that is no outcome of a world.
use Rattle.std.specs.Prelude.{ℕ, List, ◌++◌, codes}
use Rattle.std.specs.Fmt.{decimal}
use Rattle.iom_script.specs.Digits.{hexadecimal}
use Rattle.iom_hardware_script.specs.declared.answers.Answer.{Answer}
use Rattle.iom_hardware_script.specs.declared.answers.Answer.TheVariants.{Value, BadOffset, BadWidth, NoSuchClaim, Claimed, Good}

-- the text of an answer, without a line feed
abbrev pub hardware_answer_text : Answer → List ℕ
hardware_answer_text (Value value) = codes "value 0x" ++ hexadecimal value
hardware_answer_text BadOffset = codes "refused 24 BadOffset"
hardware_answer_text BadWidth = codes "refused 25 BadWidth"
hardware_answer_text NoSuchClaim = codes "refused 26 NoSuchClaim"
hardware_answer_text (Claimed number) = codes "claim " ++ decimal number
hardware_answer_text Good = codes "good"
