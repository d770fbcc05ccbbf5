use Rattle.std.proofs.Common.{ap, sym, ◌∙◌}
use Rattle.std.specs.List.{list_any}
use Rattle.std.specs.Option.{option_copied}
use Rattle.std.specs.Str.{bytes_eq}
use Rattle.sil_rules.specs.declared.limits.TheConstants.{DEPTH}
use Rattle.sil_types_declarations.specs.TypeDefinitions.Declarations.{inherits}
use Rattle.sil_types_declarations.proofs.TypeDeclarations.Chains.{chain_is, inherits_next}
use Rattle.sil_types_declarations.proofs.type_declarations.table.DeclarationTable.inherits.Goals as goal

pub loop-init : goal.loop-init
loop-init c =
    ap (λ cs. list_any (bytes_eq c.args.other.now) cs)
    (chain_is c.args.self.now c.args.class_name.now (option_copied c.superclass-above.result) c.superclass-above.ensures)

pub loop-preserved : goal.loop-preserved
loop-preserved c =
    inherits_next c.args.self.now DEPTH c.loop.counter c.loop-test.true (option_copied c.loop.above) c.in-Some.class.now (option_copied c.superclass-above-in-loop.result)
    (ap option_copied c.in-Some.is) c.superclass-above-in-loop.ensures c.args.other.now (inherits c.args.self.now c.args.class_name.now c.args.other.now)
    (sym c.eq.ensures ∙ c.if-eq.false) c.loop.invariant
