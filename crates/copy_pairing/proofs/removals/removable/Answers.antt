use Rattle.std.proofs.Common.{◌≡◌, sym, ap, ◌∙◌, Some}
use Rattle.std.specs.List.{slice_get}
use Rattle.std.proofs.lemmas.Result.{IfOk-weaker}
use Rattle.sil_ast.specs.declared.module.Module.{Module}
use Rattle.sil_verifier.proofs.sil_verifier_accepted.TypedGraphLaws.Functions.{graphs_by_blocks}
use Rattle.copy_pairing.proofs.Answered.{answered, contains_at, no_function}
use Rattle.copy_pairing.proofs.removals.removable.Goals as goal

pub returns-in_default : goal.returns-in_default
returns-in_default c =
    no_function c.args.c.now c.args.function.0 c.args.point
    (ap (λ (m : Module). slice_get m.functions c.args.function.0) (sym c.module-m.ensures.value) ∙ sym c.in_default.ensures.value)

pub removal_at-requires-clause-of_module : goal.removal_at-requires-clause-of_module
removal_at-requires-clause-of_module c =
    let there : slice_get c.args.c.now.functions c.args.function.0 ≡ Some c.in-Some.f.now =
    ap (λ (m : Module). slice_get m.functions c.args.function.0) (sym c.module-m.ensures.value) ∙ sym c.in-Some.ensures.value in
    (c.args.c.now, c.module-m.ensures.verified.numbered, contains_at c.args.c.now.functions c.args.function.0 c.in-Some.f.now there)

pub removal_at-requires-clause-graph : goal.removal_at-requires-clause-graph
removal_at-requires-clause-graph c = λ body.
    let there : slice_get c.args.c.now.functions c.args.function.0 ≡ Some c.in-Some.f.now =
    ap (λ (m : Module). slice_get m.functions c.args.function.0) (sym c.module-m.ensures.value) ∙ sym c.in-Some.ensures.value in
    (graphs_by_blocks c.args.c.now c.args.function.0 c.in-Some.f.now c.module-m.ensures.verified.numbered c.module-m.ensures.verified.accepted.types.typed there body).graph

pub returns : goal.returns
returns c =
    let there : slice_get c.args.c.now.functions c.args.function.0 ≡ Some c.in-Some.f.now =
    ap (λ (m : Module). slice_get m.functions c.args.function.0) (sym c.module-m.ensures.value) ∙ sym c.in-Some.ensures.value in
    IfOk-weaker c.removal_at.result _ _
    (λ r h. answered c.args.c.now c.table.result.now c.args.function.0 c.in-Some.f.now c.args.point r c.table.ensures.copied there h)
    c.removal_at.ensures
