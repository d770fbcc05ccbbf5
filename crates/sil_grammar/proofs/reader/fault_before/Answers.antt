-- For `fault_before`: the front is cut behind its last token, and what is left is written in the shortest way.
use Rattle.std.proofs.Common.{◌≡◌, ◌++◌, List, map, reverse, subst, sym, take}
use Rattle.sil_lexer.specs.inner.Lexing.{lexemes_of, IsLexingOf}
use Rattle.sil_grammar_classes.specs.declared.classes.Class.{Class}
use Rattle.sil_grammar_shape.specs.declared.steps.Step.{Step}
use Rattle.sil_grammar_shape.specs.Shortest.{Shortens}
use Rattle.sil_grammar_modules.specs.inner.Replay.{first_fault}
use Rattle.sil_grammar.specs.Classes.{token_class}
use Rattle.sil_grammar.proofs.CutLemmas.{cut_leads}
use Rattle.sil_grammar.proofs.ShapeLemmas.{length-front}
use Rattle.sil_grammar.proofs.ReadLemmas.{front_found}
use Rattle.sil_grammar.proofs.reader.fault_before.Goals as goal

pub front_fault-requires-clause-lexed : goal.front_fault-requires-clause-lexed
front_fault-requires-clause-lexed c = subst (λ text. IsLexingOf text c.args.tokens) (sym c.requires.source) c.requires.lexed

pub front_fault-requires-clause-begun : goal.front_fault-requires-clause-begun
front_fault-requires-clause-begun c =
    let classes : List Class = map token_class (take c.args.count (lexemes_of c.args.text.now c.args.tokens)) in
    (classes, length-front c.args.text.now c.args.tokens c.args.count c.requires.inside, cut_leads classes c.args.front c.in_ok-front.front c.requires.leads c.in_ok-front.ensures)

pub returns : goal.returns
returns c =
    front_found c.args.text.now c.args.tokens c.args.count c.args.front c.in_ok-front.front c.in_ok-fault.fault
    c.requires.leads c.in_ok-front.ensures
    (subst (λ text. (rest : List Step) × Shortens (reverse c.in_ok-front.front.left.items) rest
    × (c.in_ok-fault.fault ≡ first_fault (c.in_ok-front.front.steps.items ++ rest) (take c.args.count (lexemes_of text c.args.tokens))))
    c.requires.source c.in_ok-fault.ensures)
