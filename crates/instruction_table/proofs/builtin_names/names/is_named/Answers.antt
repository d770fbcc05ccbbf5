use Rattle.std.proofs.Common.{◌≡◌, ◌∙◌, ◌++◌, refl, bytes_eq}
use Rattle.std.specs.Prelude.{codes}
use Rattle.instruction_table.specs.BuiltinNames.BuiltinNames.{width_spelling}
use Rattle.instruction_table.proofs.BuiltinNames.NameLemmas.{no_front, with_front}
use Rattle.instruction_table.proofs.builtin_names.names.is_named.Goals as goal

pub returns-in_default : goal.returns-in_default
returns-in_default c =
    no_front c.args.name.now c.operation_spelling.result.now _ (codes "_Int" ++ width_spelling c.args.width) c.operation_spelling.ensures c.in_default.ensures.cases

pub returns-in_default-strip_prefix : goal.returns-in_default-strip_prefix
returns-in_default-strip_prefix c =
    let h = c.in-Some.ensures.cases in
    no_front c.in-Some.rest.now (codes "_Int") _ (width_spelling c.args.width) refl c.in_default-strip_prefix.ensures.cases
    ∙ with_front c.args.name.now c.operation_spelling.result.now c.in-Some.rest.now _ (codes "_Int" ++ width_spelling c.args.width) c.operation_spelling.ensures h.0 h.1

pub returns : goal.returns
returns c =
    let h = c.in-Some.ensures.cases in
    let g = c.in-Some-strip_prefix.ensures.cases in
    let digits : c.eq.result ≡ bytes_eq c.in-Some-strip_prefix.digits.now (width_spelling c.args.width) = rw (← c.width_spelling.ensures) c.eq.ensures in
    digits
    ∙ with_front c.in-Some.rest.now (codes "_Int") c.in-Some-strip_prefix.digits.now _ (width_spelling c.args.width) refl g.0 g.1
    ∙ with_front c.args.name.now c.operation_spelling.result.now c.in-Some.rest.now _ (codes "_Int" ++ width_spelling c.args.width) c.operation_spelling.ensures h.0 h.1
