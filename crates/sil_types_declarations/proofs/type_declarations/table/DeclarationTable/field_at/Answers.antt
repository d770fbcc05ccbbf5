use Rattle.std.proofs.Common.{ap, sym, ◌∙◌, ◌-◌, length}
use Rattle.std.specs.Prelude.{slice_get}
use Rattle.std.specs.Option.{option_copied}
use Rattle.sil_rules.specs.declared.limits.TheConstants.{DEPTH}
use Rattle.sil_types_declarations.specs.TypeDefinitions.Declarations.{chain}
use Rattle.sil_types_declarations.specs.TypeDefinitions.Lookups.{chain_fields, field_at}
use Rattle.sil_types_declarations.proofs.TypeDeclarations.Chains.{at_last, at_own, before_next, first_field, found_next}
use Rattle.sil_types_declarations.proofs.type_declarations.table.DeclarationTable.field_at.Goals as goal

pub loop-init : goal.loop-init
loop-init c =
    record {
      before = c.count_from-before.ensures.count ∙ ap (λ o. length (chain_fields c.args.self.now (chain c.args.self.now DEPTH o))) c.superclass.ensures;
      found = first_field c.args.self.now c.args.owner.now c.args.index;
    }

pub returns-then-before-index : goal.returns-then-before-index
returns-then-before-index c =
    c.field_in.ensures ∙ ap (λ xs. slice_get xs (c.args.index - c.loop.before)) c.own_fields.ensures.fields
    ∙ at_own c.args.self.now DEPTH c.loop.counter c.loop.class.now c.args.index c.loop.before (field_at c.args.self.now c.args.owner.now c.args.index)
    c.loop.invariant.before c.loop.invariant.found c.if-before-index.true

pub loop-preserved : goal.loop-preserved
loop-preserved c =
    let is = sym c.superclass-in-loop.ensures ∙ ap option_copied c.in-Some.is in
    record {
      before =
          before_next c.args.self.now DEPTH c.loop.counter c.loop.class.now c.args.index c.loop.before (field_at c.args.self.now c.args.owner.now c.args.index)
          c.loop.invariant.before c.loop.invariant.found c.loop-test.true c.if-before-index.false c.in-Some.above.now is
          c.own_fields-in-loop.result.now c.own_fields-in-loop.ensures.fields;
      found =
          found_next c.args.self.now DEPTH c.loop.counter c.loop.class.now c.args.index c.loop.before (field_at c.args.self.now c.args.owner.now c.args.index)
          c.loop.invariant.before c.loop.invariant.found c.loop-test.true c.if-before-index.false c.in-Some.above.now is;
    }

pub returns : goal.returns
returns c =
    c.field_in-2.ensures ∙ ap (λ xs. slice_get xs c.args.index) c.own_fields-2.ensures.fields
    ∙ at_last c.args.self.now DEPTH c.loop.counter c.loop.class.now c.args.index c.loop.before (field_at c.args.self.now c.args.owner.now c.args.index)
    c.loop.invariant.before c.loop.invariant.found c.loop-test.false
