-- For `read_whole`: a fault refuses, and else the steps and tokens write a module.
use Rattle.std.proofs.Common.{◌≡◌, Some, ap, subst, sym, ◌∙◌}
use Rattle.sil_lexer.specs.inner.Lexing.{lexemes_of, IsLexingOf}
use Rattle.std.proofs.lemmas.Result.{IfErr-weaker, IfOk-weaker}
use Rattle.sil_grammar_modules.specs.inner.Replay.{first_fault, Writes}
use Rattle.sil_grammar.specs.Refusals.{IsRefusalOf, faulty}
use Rattle.sil_grammar.specs.Spells.{Spells}
use Rattle.sil_grammar.proofs.ReadLemmas.{fault_spells_none, faultless_whole, faulty_whole, out_of_memory}
use Rattle.sil_grammar.proofs.reader.read_whole.Goals as goal

pub build-requires-clause-lexed : goal.build-requires-clause-lexed
build-requires-clause-lexed c = subst (λ text. IsLexingOf text c.args.tokens) (sym c.requires.source) c.requires.lexed

pub returns-in_err-built-clause-refused : goal.returns-in_err-built-clause-refused
returns-in_err-built-clause-refused c = out_of_memory c.args.text.now c.from_residual.result c.from_residual.ensures.1

pub returns-in-Some-clause-refused : goal.returns-in-Some-clause-refused
returns-in-Some-clause-refused c =
    let text = c.args.text.now in
    let tokens = c.args.tokens in
    let steps = c.args.steps.items in
    let fault = c.in-Some.fault in
    let first : first_fault steps (lexemes_of text tokens) ≡ Some fault =
    ap (λ text. first_fault steps (lexemes_of text tokens)) (sym c.requires.source) ∙ sym c.in_ok-built.ensures.fault ∙ c.in-Some.is in
    subst (IsRefusalOf text) (sym c.refusal_of_fault.ensures)
    (faulty fault (fault_spells_none text tokens c.requires.lexed steps c.requires.derived fault first) (faulty_whole text tokens c.requires.lexed steps c.requires.derived fault first))

pub returns-in-None-clause-found : goal.returns-in-None-clause-found
returns-in-None-clause-found c =
    let text = c.args.text.now in
    let spelled = faultless_whole text c.args.tokens c.requires.lexed c.args.steps.items c.requires.derived c.in_ok-built.built.written
    (ap (λ text. first_fault c.args.steps.items (lexemes_of text c.args.tokens)) (sym c.requires.source) ∙ sym c.in_ok-built.ensures.fault ∙ c.in-None.is)
    (subst (λ text. Writes c.args.steps.items (lexemes_of text c.args.tokens) c.in_ok-built.built.written) c.requires.source c.in_ok-built.ensures.written) in
    IfOk-weaker c.numbered.result _ (λ m. Spells m text) (λ m found. found text spelled) c.numbered.ensures.found

pub returns-in-None-clause-refused : goal.returns-in-None-clause-refused
returns-in-None-clause-refused c =
    let text = c.args.text.now in
    let spelled = faultless_whole text c.args.tokens c.requires.lexed c.args.steps.items c.requires.derived c.in_ok-built.built.written
    (ap (λ text. first_fault c.args.steps.items (lexemes_of text c.args.tokens)) (sym c.requires.source) ∙ sym c.in_ok-built.ensures.fault ∙ c.in-None.is)
    (subst (λ text. Writes c.args.steps.items (lexemes_of text c.args.tokens) c.in_ok-built.built.written) c.requires.source c.in_ok-built.ensures.written) in
    IfErr-weaker c.numbered.result _ (IsRefusalOf text) (λ r refused. refused text spelled) c.numbered.ensures.refused
