-- For `read_owned`: the text that is shared is the one that was given.
use Rattle.std.proofs.Common.{◌≡◌, ◌∙◌, ap, subst}
use Rattle.std.specs.Prelude.{IfOk}
use Rattle.sil_ast.specs.declared.module.Module.{Module}
use Rattle.sil_grammar.specs.Spells.{Spells}
use Rattle.sil_grammar.proofs.ReadLemmas.{out_of_memory}
use Rattle.sil_grammar.proofs.reader.read_owned.Goals as goal

pub returns-in_err-source-clause-refused : goal.returns-in_err-source-clause-refused
returns-in_err-source-clause-refused c = out_of_memory c.args.text.items c.from_residual.result c.from_residual.ensures.1

pub returns-clause-only : goal.returns-clause-only
returns-clause-only c =
    subst (λ text. IfOk c.read_shared.result (λ m. (other : Module) → Spells other text → other ≡ m))
    (c.as_slice.ensures.value ∙ ap (λ v. v.items) (c.as_ref.ensures ∙ c.in_ok-source.ensures)) c.read_shared.ensures.only
