-- What a recording of register writes is after one more.
use Rattle.std.specs.Prelude.{ℕ, Some}
use Rattle.iom_registers.specs.declared.register.Register.{Register}
use Rattle.iom_registers.specs.Table.{written}
use Rattle.iom_driver_tests.specs.declared.recording.Recording.{Recording}

-- the register file is written, and the register is the last of the six
abbrev pub recorded : Recording → Register → ℕ → Recording
recorded recording register value = record {
  registers = written recording.registers register value;
  first = recording.second;
  second = recording.third;
  third = recording.fourth;
  fourth = recording.fifth;
  fifth = recording.sixth;
  sixth = Some register;
}
