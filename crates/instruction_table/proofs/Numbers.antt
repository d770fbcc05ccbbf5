-- Each instruction stands at its number in the list of all.
use Rattle.std.proofs.Common.{◌≡◌, refl}
use Rattle.std.specs.Prelude.{slice_get, Some}
use Rattle.instruction_table.specs.declared.op.Op.{Op}
use Rattle.instruction_table.specs.declared.op.Op.TheVariants as op
use Rattle.instruction_table.specs.declared.op.TheConstants.{OPS}
use Rattle.instruction_table.specs.Forms.{number_of}

pub stands_at : (o : Op) → slice_get OPS (number_of o) ≡ Some o
stands_at op.IntegerLiteral = refl
stands_at _ = refl
