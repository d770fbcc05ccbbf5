use Rattle.std.proofs.Common.{rules, ◌≡◌, ◌+◌, length, refl, ap, subst, Some}
use Rattle.std.specs.Prelude.{slice_get}
use Rattle.sil_types_declarations.specs.TypeDefinitions.Declarations.{declarations_of}
use Rattle.sil_verifier_accepted.proofs.TypedGraphLaws.Functions.{graphs_by_blocks}
use Rattle.sil_cfg.specs.Items.{HasBlocks}
use Rattle.sil_verifier_accepted.specs.AcceptedModules.Values.{IsCleanIn, IsRefusalIn, IsValueRefusal}
use Rattle.sil_verifier.proofs.Functions.{all_clean, clean_more, first_refusal, is_there}
use Rattle.sil_verifier.proofs.values.check_values.Goals as goal

pub check_numbered-requires-clause-graph : goal.check_numbered-requires-clause-graph
check_numbered-requires-clause-graph c = λ body. (graphs_by_blocks c.args.m.now c.loop-function.number c.function-item.result c.requires.numbered c.requires.types.typed there body).graph
  where
    there : slice_get c.args.m.now.functions c.loop-function.number ≡ Some c.function-item.result
    there = is_there c.args.m.now.functions c.as_slice-function-items.result.now c.loop-function.function-index c.loop-function.number c.function-item.result c.as_slice-function-items.ensures
        c.loop-function.invariant.0 c.loop-function-test.true c.function-item.is

pub returns-in_err-check_numbered-clause-err : goal.returns-in_err-check_numbered-clause-err
returns-in_err-check_numbered-clause-err c =
    let there : slice_get c.args.m.now.functions c.loop-function.number ≡ Some c.function-item.result =
    is_there c.args.m.now.functions c.as_slice-function-items.result.now c.loop-function.function-index c.loop-function.number c.function-item.result c.as_slice-function-items.ensures
    c.loop-function.invariant.0 c.loop-function-test.true c.function-item.is in
    let own : IsRefusalIn (declarations_of c.args.m.now) c.loop-function.number c.function-item.result c.in_err-check_numbered.field-0.0 =
    subst (λ d. IsRefusalIn d c.loop-function.number c.function-item.result c.in_err-check_numbered.field-0.0) c.requires.table.copied c.in_err-check_numbered.ensures.err in
    let told : IsValueRefusal c.args.m.now c.in_err-check_numbered.field-0.0 =
    first_refusal c.args.m.now c.loop-function.number c.function-item.result there c.in_err-check_numbered.field-0.0 c.loop-function.invariant.1 own in
    search rules

pub loop-function-preserved : goal.loop-function-preserved
loop-function-preserved c =
    let there : slice_get c.args.m.now.functions c.loop-function.number ≡ Some c.function-item.result =
    is_there c.args.m.now.functions c.as_slice-function-items.result.now c.loop-function.function-index c.loop-function.number c.function-item.result c.as_slice-function-items.ensures
    c.loop-function.invariant.0 c.loop-function-test.true c.function-item.is in
    let clean : HasBlocks c.function-item.result → IsCleanIn (declarations_of c.args.m.now) c.function-item.result =
    subst (λ d. HasBlocks c.function-item.result → IsCleanIn d c.function-item.result) c.requires.table.copied c.in_ok-check_numbered.ensures.ok in (
      ap (λ k. k + 1) c.loop-function.invariant.0,
      clean_more c.args.m.now c.loop-function.number c.function-item.result there (c.loop-function.number + 1) refl c.loop-function.invariant.1 clean,
    )

pub returns-clause-ok : goal.returns-clause-ok
returns-clause-ok c =
    let all : length c.args.m.now.functions ≡ c.loop-function.number = search rules in
    all_clean c.args.m.now c.loop-function.number all c.loop-function.invariant.1
