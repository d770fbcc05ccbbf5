use Rattle.count_machine.proofs.ValueReading.GivenTypes.{within_readable}
use Rattle.count_machine.proofs.value_reading.read.read_value.Goals as goal

pub returns : goal.returns
returns c = λ m r of_it within. c.read_type.ensures (within_readable m r c.args.table.now of_it c.args.ty.now within)
