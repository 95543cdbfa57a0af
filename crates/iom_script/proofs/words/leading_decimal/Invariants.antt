use Rattle.std.proofs.Common.{◌≡◌, ◌^◌, ◌<◌, take}
use Rattle.std.specs.Str.Parse.{AllDigits, digits_value}
use Rattle.iom_script.proofs.words.leading_decimal.Given as goal

-- the bytes so far are digits, and say the number
abbrev pub invariant-loop-count : goal.invariant-loop-count
invariant-loop-count l =
    record {
      digits : AllDigits 10 (take l.count l.text);
      value : l.number ≡ digits_value 10 (take l.count l.text);
      below : l.number < 10 ^ l.count;
    }

-- and so do those of more digits
abbrev pub invariant-loop-place : goal.invariant-loop-place
invariant-loop-place l =
    record {
      digits : AllDigits 10 (take l.place l.text);
      value : l.number ≡ digits_value 10 (take l.place l.text);
      fits : l.number < 2 ^ 64;
    }
