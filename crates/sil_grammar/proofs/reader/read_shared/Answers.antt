-- For `read_shared`: the text is read as far as it has shape.
use Rattle.std.proofs.Common.{◌≡◌, subst}
use Rattle.std.proofs.lemmas.Result.{IfOk-weaker}
use Rattle.sil_grammar.specs.inner.Shape.{IsBroken, IsShapeOf}
use Rattle.sil_ast.specs.declared.module.Module.{Module}
use Rattle.sil_grammar.specs.Spells.{Spells}
use Rattle.numbered_form.specs.inner.NumberedForm.{IsNumbered}
use Rattle.sil_grammar.proofs.NumberedLemmas.{spelled_numbered}
use Rattle.sil_grammar.proofs.ReadLemmas.{out_of_memory, spelled_once}
use Rattle.sil_grammar.proofs.reader.read_shared.Goals as goal

pub returns-in_err-tokens-clause-refused : goal.returns-in_err-tokens-clause-refused
returns-in_err-tokens-clause-refused c = out_of_memory c.args.text.now c.from_residual.result c.from_residual.ensures.1

pub returns-in_err-steps-clause-refused : goal.returns-in_err-steps-clause-refused
returns-in_err-steps-clause-refused c = out_of_memory c.args.text.now c.from_residual-in_err-steps.result c.from_residual-in_err-steps.ensures.1

pub returns-in-Whole-clause-only : goal.returns-in-Whole-clause-only
returns-in-Whole-clause-only c =
    let text = c.args.text.now in
    IfOk-weaker c.read_whole.result (λ m. Spells m text) (λ m. (other : Module) → Spells other text → other ≡ m)
    (λ m spells other others. spelled_once text m other spells others) c.read_whole.ensures.found

pub returns-in-Whole-clause-numbered : goal.returns-in-Whole-clause-numbered
returns-in-Whole-clause-numbered c =
    let text = c.args.text.now in
    IfOk-weaker c.read_whole.result (λ m. Spells m text) IsNumbered (λ m spells. spelled_numbered m text spells) c.read_whole.ensures.found

pub fault_before-requires-clause-inside : goal.fault_before-requires-clause-inside
fault_before-requires-clause-inside c =
    let broken : IsBroken c.args.text.now c.in_ok-tokens.tokens c.in-Broken.bad c.in-Broken.count c.in-Broken.front =
    subst (IsShapeOf c.args.text.now c.in_ok-tokens.tokens) c.in-Broken.is c.in_ok-steps.ensures in
    broken.inside

pub fault_before-requires-clause-leads : goal.fault_before-requires-clause-leads
fault_before-requires-clause-leads c =
    let broken : IsBroken c.args.text.now c.in_ok-tokens.tokens c.in-Broken.bad c.in-Broken.count c.in-Broken.front =
    subst (IsShapeOf c.args.text.now c.in_ok-tokens.tokens) c.in-Broken.is c.in_ok-steps.ensures in
    broken.leads

pub returns-in_err-fault-in-Broken-clause-refused : goal.returns-in_err-fault-in-Broken-clause-refused
returns-in_err-fault-in-Broken-clause-refused c =
    out_of_memory c.args.text.now c.from_residual-in_err-fault-in-Broken.result c.from_residual-in_err-fault-in-Broken.ensures.1

pub returns-in_ok-fault-in-Broken-clause-refused : goal.returns-in_ok-fault-in-Broken-clause-refused
returns-in_ok-fault-in-Broken-clause-refused c =
    let broken : IsBroken c.args.text.now c.in_ok-tokens.tokens c.in-Broken.bad c.in-Broken.count c.in-Broken.front =
    subst (IsShapeOf c.args.text.now c.in_ok-tokens.tokens) c.in-Broken.is c.in_ok-steps.ensures in
    c.earlier_refusal.ensures c.args.text.now c.in_ok-tokens.tokens c.in-Broken.count c.in-Broken.front c.in_ok-tokens.ensures broken c.in_ok-fault-in-Broken.ensures
