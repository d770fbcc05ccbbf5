-- The numbers with which the process ends.
use Rattle.std.specs.Prelude.{ℕ}
use Rattle.sil_command.specs.declared.status.Status.{Status}
use Rattle.sil_command.specs.declared.status.Status.TheVariants.{Done, Refused, Usage, NotAModule, ReadFault, WriteFault, Trapped, OutOfTurns}
use Rattle.sil_command.specs.declared.status.Status.TheVariants.{Limit, OutOfMemory, NoEntry}

abbrev pub code_of : Status → ℕ
code_of Done = 0
code_of Refused = 1
code_of Usage = 2
code_of NotAModule = 3
code_of ReadFault = 4
code_of WriteFault = 5
code_of Trapped = 6
code_of OutOfTurns = 7
code_of Limit = 8
code_of OutOfMemory = 9
code_of NoEntry = 10
