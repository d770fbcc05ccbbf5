-- The steps of a derivation of a module leave one value, the module.
use Rattle.std.proofs.Common.{◌≡◌, [], ◌∷◌, ◌++◌, ◌∙◌, List, ap, arith, length, map, reverse, subst, sym}
use Rattle.std.proofs.lemmas.List.{append-nil, length-reverse}
use Rattle.sil_lexer.specs.Lexes.{Lexeme}
use Rattle.sil_lexer.specs.inner.Lexing.{lexemes_of}
use Rattle.sil_grammar_shape.specs.Shortest.{Shortens, written}
use Rattle.sil_grammar_shape.specs.inner.Values.{IsEnough}
use Rattle.sil_grammar_shape.proofs.ValuesLemmas.{IsEnough-derives}
use Rattle.sil_grammar_values.specs.declared.value.Value.{Value}
use Rattle.sil_grammar_values.specs.declared.value.Value.TheVariants as v
use Rattle.sil_grammar_modules.specs.inner.Lacking.{lacking}
use Rattle.sil_grammar_modules.specs.inner.Replay.{first_fault, replay}
use Rattle.sil_grammar_modules.proofs.LackingLemmas.{waiting-length}
use Rattle.sil_grammar_modules.proofs.WholeLemmas.{one_module}
use Rattle.sil_grammar_modules.proofs.building.build.Goals as goal

pub replay-requires : goal.replay-requires
replay-requires c = (
  c.requires.lexed.inside,
  (
    c.requires.taken,
    (
      subst (λ l. Shortens (reverse l) []) (sym c.new.ensures.items) written,
      subst IsEnough (sym (append-nil c.args.steps.items)) (IsEnough-derives c.requires.derived.1),
    ),
  ),
)

pub fill-requires : goal.fill-requires
fill-requires c =
    let lexemes : List Lexeme = lexemes_of c.args.text.now.value.items c.args.tokens in
    let whole = one_module lexemes c.requires.derived.1 in
    let are = c.in_ok-values.ensures.values ∙ ap (λ steps. replay steps lexemes) (append-nil c.args.steps.items) ∙ whole.is in
    omega (arith, ap length are, waiting-length c.in_ok-values.field-0.values (reverse c.in_ok-values.field-0.left.items), length-reverse c.in_ok-values.field-0.left.items)

pub pop_front-requires : goal.pop_front-requires
pop_front-requires c = omega (arith, c.in_ok-fill.ensures.enough)

pub returns-clause-written : goal.returns-clause-written
returns-clause-written c =
    let lexemes : List Lexeme = lexemes_of c.args.text.now.value.items c.args.tokens in
    let whole = one_module lexemes c.requires.derived.1 in
    let replayed = c.in_ok-values.ensures.values ∙ ap (λ steps. replay steps lexemes) (append-nil c.args.steps.items) ∙ whole.is in
    let behind : List Value = map lacking (reverse c.fill.new.left.items) in
    let are : c.pop_front.result ∷ c.pop_front.new.self ++ behind ≡ v.Module whole.written ∷ [] =
    ap (λ values. values ++ behind) (sym c.pop_front.ensures) ∙ c.in_ok-fill.ensures.same ∙ replayed in
    let is : c.pop_front.result ≡ v.Module whole.written = cc are in
    whole.is ∙ ap (λ written. v.Module written ∷ []) (sym (c.into_module-written.ensures whole.written is))

pub returns-clause-fault : goal.returns-clause-fault
returns-clause-fault c =
    c.in_ok-values.ensures.fault ∙ ap (λ steps. first_fault steps (lexemes_of c.args.text.now.value.items c.args.tokens)) (append-nil c.args.steps.items)
