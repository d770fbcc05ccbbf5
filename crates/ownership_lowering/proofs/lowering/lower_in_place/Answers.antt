use Rattle.std.proofs.Common.{◌∙◌, ap, subst, sym}
use Rattle.std.proofs.lemmas.Result.{on_ok_weaker}
use Rattle.ownership_lowering_functions.specs.FunctionLowering.inner.Lowerable.{AreLowerable}
use Rattle.sil_verifier.specs.holder_model.RunTyping.Runnable.{IsRunnable}
use Rattle.sil_types_declarations.specs.TypeDefinitions.Declarations.{declarations_of}
use Rattle.ownership_lowering.proofs.Accepted.{all_lowerable}
use Rattle.ownership_lowering.proofs.InPlace.{lowered_there}
use Rattle.ownership_lowering.proofs.lowering.lower_in_place.Goals as goal

pub lower_functions-requires : goal.lower_functions-requires
lower_functions-requires c =
    subst AreLowerable (sym c.as_mut_slice.ensures.value)
    (all_lowerable c.args.m.now c.requires.verified c.kinds_have_no_rings.ensures c.functions_are_lowerable.ensures)

pub returns-clause-value : goal.returns-clause-value
returns-clause-value c =
    on_ok_weaker c.lower_functions.result
    (lowered_there c.args.m.now c.args.table.now c.as_mut_slice.result.now c.lower_functions.new.functions c.requires.declarations.copied c.as_mut_slice.ensures.value)
    c.lower_functions.ensures

pub returns-clause-runnable : goal.returns-clause-runnable
returns-clause-runnable c =
    on_ok_weaker c.lower_functions.result (λ made.
    subst IsRunnable
    (sym (lowered_there c.args.m.now c.args.table.now c.as_mut_slice.result.now c.lower_functions.new.functions c.requires.declarations.copied c.as_mut_slice.ensures.value made))
    (c.accepted_lowers_runnable.ensures c.args.m.now c.requires.verified).0)
    c.lower_functions.ensures

pub returns-clause-declarations : goal.returns-clause-declarations
returns-clause-declarations c =
    on_ok_weaker c.lower_functions.result (λ made.
    ap declarations_of
    (lowered_there c.args.m.now c.args.table.now c.as_mut_slice.result.now c.lower_functions.new.functions c.requires.declarations.copied c.as_mut_slice.ensures.value made)
    ∙ (c.accepted_lowers_runnable.ensures c.args.m.now c.requires.verified).1)
    c.lower_functions.ensures
