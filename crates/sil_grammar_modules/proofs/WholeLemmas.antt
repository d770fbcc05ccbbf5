-- A derivation of a module begins with the module's own production, and leaves one value, the module.
use Rattle.std.proofs.Common.{◌≡◌, List, [], ◌∷◌, ◌++◌, length, refl, ap, sym, subst, ◌∙◌, arith, length-append}
use Rattle.std.specs.Prelude.{Bool, true, false, if◌then◌else◌}
use Rattle.sil_lexer.specs.Lexes.{Lexeme}
use Rattle.sil_grammar_classes.specs.declared.classes.Class.{Class}
use Rattle.sil_grammar_tables.specs.declared.grammar.Nonterminal.TheVariants as n
use Rattle.sil_grammar_tables.specs.declared.grammar.Production.{Production}
use Rattle.sil_grammar_tables.specs.declared.grammar.Production.TheVariants as p
use Rattle.sil_grammar_tables.specs.declared.grammar.Symbol.{Symbol}
use Rattle.sil_grammar_tables.specs.declared.grammar.Symbol.TheVariants.{Part}
use Rattle.sil_grammar_shape.specs.declared.steps.Step.{Step}
use Rattle.sil_grammar_shape.specs.declared.steps.Step.TheVariants.{Expand}
use Rattle.sil_grammar_shape.specs.inner.Begun.{LeadsTo}
use Rattle.sil_grammar_shape.specs.Derivation.{Accepts, Derives, nothing, rule, start, token}
use Rattle.sil_grammar_tables.specs.Grammar.{written}
use Rattle.sil_grammar_tables.specs.Rows.{ends_block, row_part}
use Rattle.sil_grammar_shape.specs.Shortest.{Shortens}
use Rattle.sil_grammar_shape.specs.inner.Values.{takes_of, IsEnough}
use Rattle.sil_grammar_shape.proofs.Shortened.{Shortens-derives}
use Rattle.sil_grammar_shape.proofs.ValuesLemmas.{takes_of-append, takes_of-derives, values_left-derives, IsEnough-derives}
use Rattle.sil_grammar_values.specs.declared.value.Value.{Value}
use Rattle.sil_grammar_values.specs.declared.value.Value.TheVariants as v
use Rattle.sil_grammar_tree.specs.declared.written_tree.written_module.WrittenModule.{WrittenModule}
use Rattle.sil_grammar_values.specs.inner.Meaning.{meaning}
use Rattle.sil_grammar_values.specs.inner.Reduced.{reduced}
use Rattle.sil_grammar_modules.specs.inner.Replay.{replay}
use Rattle.sil_grammar_modules.proofs.ReplayLength.{length-replay}

no_row : (ends : Bool) → (if ends then n.Terminator else n.Row) ≡ n.Module → ⊥
no_row true h = cc
no_row false h = cc

only_whole : (q : Production) → written q ≡ n.Module → q ≡ p.WholeModule
unfolding written row_part
only_whole p.WholeModule h = refl
only_whole (p.Row o) h = absurd (no_row (ends_block o) h)
only_whole _ h = cc

record WholeFirst (steps : List Step) : Type 0 where
  pub rest : List Step
  pub is : steps ≡ Expand p.WholeModule ∷ rest

whole_first : {ss : List Symbol} {ks : List Class} {steps : List Step} → Derives ss ks steps → ss ≡ start → WholeFirst steps
whole_first nothing h = absurd (cc)
whole_first (token {s = s} {k = k} a d) h =
    let e : s ≡ Part n.Module = cc in
    absurd (subst (λ x. Accepts x k) e a)
whole_first (rule {steps = steps} q d) h =
    let e : written q ≡ n.Module = cc in
    record { rest = steps; is = ap (λ x. Expand x ∷ steps) (only_whole q e) }

record WholeValue (values : List Value) : Type 0 where
  pub written : WrittenModule
  pub rest : List Value
  pub is : values ≡ v.Module written ∷ rest

whole_value : (values : List Value) → WholeValue (reduced p.WholeModule values)
unfolding reduced meaning
whole_value values = record { written = _; rest = _; is = refl }

alone : {X : Type 0} (x : X) (xs : List X) → length (x ∷ xs) ≡ 1 → x ∷ xs ≡ x ∷ []
alone x [] h = refl
alone x (y ∷ xs) h = absurd (omega arith)

-- the only value that a derivation of a module leaves
pub record OneModule (steps : List Step) (lexemes : List Lexeme) : Type 0 where
  pub written : WrittenModule
  pub is : replay steps lexemes ≡ v.Module written ∷ []

pub one_module : {ks : List Class} {steps : List Step} (lexemes : List Lexeme) → Derives start ks steps → OneModule steps lexemes
one_module {steps = steps} lexemes d =
    let first = whole_first d refl in
    let whole = whole_value (replay first.rest lexemes) in
    let e : replay steps lexemes ≡ v.Module whole.written ∷ whole.rest = ap (λ s. replay s lexemes) first.is ∙ whole.is in
    let one : length (replay steps lexemes) ≡ 1 = length-replay steps lexemes ∙ values_left-derives d in
    record { written = whole.written; is = e ∙ alone (v.Module whole.written) whole.rest (ap length (sym e) ∙ one) }

-- a derivation of a module that begins with some classes, up to what is left, and on from there
module _ (classes : List Class) (steps : List Step) (left : List Symbol) (leads : LeadsTo classes steps left) {rest : List Step} (way : Shortens left rest) where
  pub completed : (more : List Class) × Derives start (classes ++ more) (steps ++ rest)
  completed = let behind = Shortens-derives way in (behind.0, leads behind.0 rest behind.1)

  pub takes_before : takes_of steps ≡ length classes
  unfolding completed
  takes_before =
      let behind = Shortens-derives way in
      omega (arith, takes_of-derives completed.1, takes_of-append steps rest, takes_of-derives behind.1, length-append classes behind.0)

  pub enough_whole : IsEnough (steps ++ rest)
  enough_whole = IsEnough-derives completed.1
