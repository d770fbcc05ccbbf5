use Rattle.std.proofs.Common.{◌+◌, refl, sym, ap, ◌∙◌, subst}
use Rattle.std.specs.Prelude.{IfOk}
use Rattle.holder_model_values.specs.RunValues.Shapes.{shape_of}
use Rattle.sil_rules.specs.declared.limits.TheConstants.{DEPTH}
use Rattle.sil_types_declarations.specs.TypeDefinitions.Mentions.{direct_type, direct_types, given_type}
use Rattle.count_machine.specs.ValueReading.inner.Reading.{IsValueOf}
use Rattle.count_machine.proofs.ValueReading.Below.{tuple_below}
use Rattle.count_machine.proofs.ValueReading.GivenTypes.{given_readable, one_within}
use Rattle.count_machine.proofs.value_reading.given.read_given.Goals as goal

pub returns-in-Some : goal.returns-in-Some
returns-in-Some c =
    let d = c.args.table.now in
    let is = ap direct_type (sym c.as_slice-results.ensures) ∙ c.in-Some.ensures.one in
    let within = one_within c.args.m.now c.requires.runnable d c.requires.of_it c.requires.there.0 c.args.function.now c.requires.there.1 c.in-Some.ty.now is in
    subst (λ t. IfOk c.read_value.result (IsValueOf (shape_of d t) c.args.leaves.now)) (sym is)
    (c.read_value.ensures c.args.m.now c.requires.runnable c.requires.of_it within)

pub returns-in-None : goal.returns-in-None
returns-in-None c =
    let d = c.args.table.now in
    let results = c.as_slice-results.result.now in
    let given = given_type c.args.function.now.signature in
    let is = ap direct_type (sym c.as_slice-results.ensures) ∙ c.in-None.ensures.others in
    tuple_below d c.args.leaves.now c.read_results.result (DEPTH + 1) DEPTH given (direct_types results) (direct_types results) refl is refl c.read_results.ensures
    (given_readable c.args.m.now c.requires.runnable d c.requires.of_it c.requires.there.0 c.args.function.now c.requires.there.1)
