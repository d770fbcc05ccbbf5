use Rattle.std.specs.Option.{option_copied}
use Rattle.sil_types_declarations.specs.TypeDefinitions.Declarations.{is_longer}
use Rattle.std.proofs.Common.{ap}
use Rattle.sil_types_declarations.proofs.TypeDeclarations.Chains.{longer_next}
use Rattle.sil_types_declarations.proofs.type_declarations.table.DeclarationTable.is_longer.Goals as goal

pub loop-preserved : goal.loop-preserved
loop-preserved c =
    longer_next c.args.self.now c.args.most c.loop.counter c.loop-test.true (option_copied c.loop.at) c.in-Some.class.now (option_copied c.superclass-at.result)
    (ap option_copied c.in-Some.is) c.superclass-at.ensures (is_longer c.args.self.now c.args.most (option_copied c.args.first)) c.loop.invariant
