use Rattle.std.proofs.Common.{ap, length}
use Rattle.std.specs.Option.{option_copied}
use Rattle.sil_rules.specs.declared.limits.TheConstants.{DEPTH}
use Rattle.sil_types_declarations.specs.TypeDefinitions.Declarations.{chain}
use Rattle.sil_types_declarations.specs.TypeDefinitions.Lookups.{chain_fields}
use Rattle.sil_types_declarations.proofs.TypeDeclarations.Chains.{count_end, count_next, count_none, few_next}
use Rattle.sil_types_declarations.proofs.type_declarations.table.DeclarationTable.count_from.Goals as goal

pub returns-in_default-clause-count : goal.returns-in_default-clause-count
returns-in_default-clause-count c =
    count_none c.args.self.now DEPTH c.loop.counter c.loop-test.true (option_copied c.loop.above) (ap option_copied c.in_default.is) c.loop.count
    (length (chain_fields c.args.self.now (chain c.args.self.now DEPTH (option_copied c.args.class)))) c.loop.invariant.all

pub loop-preserved : goal.loop-preserved
loop-preserved c =
    record {
      all =
          count_next c.args.self.now DEPTH c.loop.counter c.loop-test.true (option_copied c.loop.above) c.in-Some.class.now
          (option_copied c.superclass-above.result) (ap option_copied c.in-Some.is) c.superclass-above.ensures c.loop.count
          (length (chain_fields c.args.self.now (chain c.args.self.now DEPTH (option_copied c.args.class))))
          c.own_fields.result.now c.own_fields.ensures.fields c.loop.invariant.all;
      few = few_next c.loop.count (length c.own_fields.result.now) c.loop.counter c.loop.invariant.few c.own_fields.ensures.few;
    }

pub returns-clause-count : goal.returns-clause-count
returns-clause-count c =
    count_end c.args.self.now DEPTH c.loop.counter c.loop-test.false (option_copied c.loop.above) c.loop.count
    (length (chain_fields c.args.self.now (chain c.args.self.now DEPTH (option_copied c.args.class)))) c.loop.invariant.all
