-- No module that begins with the same classes has fewer tokens than the shortest one: for the law `shortest_has_fewest_tokens`.
use Rattle.std.proofs.Common.{◌≡◌, ℕ, ◌+◌, ◌≤◌, List, [], ◌∷◌, ◌++◌, length, refl, sym, subst, ◌∙◌, arith, true}
use Rattle.std.specs.Prelude.{◌==◌, nat_lt}
use Rattle.std.proofs.lemmas.Bool.{eqb-true, ltb-true}
use Rattle.std.proofs.lemmas.Option.{same_Some}
use Rattle.instruction_table.specs.declared.op.Op.{Op}
use Rattle.instruction_table.specs.declared.op.Op.TheVariants as op
use Rattle.sil_grammar_classes.specs.declared.classes.Class.{Class}
use Rattle.sil_grammar_tables.specs.declared.grammar.Nonterminal.{Nonterminal}
use Rattle.sil_grammar_tables.specs.declared.grammar.Nonterminal.TheVariants as n
use Rattle.sil_grammar_tables.specs.declared.grammar.Symbol.{Symbol}
use Rattle.sil_grammar_tables.specs.declared.grammar.Symbol.TheVariants.{Read, Part}
use Rattle.sil_grammar_tables.specs.declared.grammar.Production.{Production}
use Rattle.sil_grammar_tables.specs.declared.grammar.Production.TheVariants as p
use Rattle.sil_grammar_shape.specs.declared.steps.Step.{Step}
use Rattle.sil_grammar_shape.specs.Derivation.{Accepts, Derives, nothing, token, rule}
use Rattle.sil_grammar_tables.specs.Grammar.{written, body}
use Rattle.sil_grammar_tables.specs.Rows.{row_body, row_part}
use Rattle.sil_grammar_shape.specs.Shortest.{Shortens, written as nothing_left, step}
use Rattle.sil_grammar_tables.specs.Shortest.{shortest}
use Rattle.sil_grammar_shape.specs.inner.Values.{takes_of}
use Rattle.sil_grammar_tables.proofs.Unfolded.{rows}
use Rattle.sil_grammar_shape.proofs.NextClasses.{Derives-inner, Fits, Fits-expand, FitsOne-start}
use Rattle.sil_grammar.specs.Completion.{Completes, behind, taken, expanded}
use Rattle.sil_grammar.specs.inner.Laws.{HaveFewestTokens}
use Rattle.sil_grammar.proofs.CompletionLemmas.{inner}

-- how many tokens the shortest text of a part has
unfoldable least : Nonterminal → ℕ
least n.StageWord = 1
least n.Item = 4
least n.Member = 1
least n.Modified = 4
least n.Variable = 4
least n.Binding = 4
least n.Field = 4
least n.Type = 1
least n.OpenType = 1
least n.Base = 1
least n.Width = 1
least n.FunctionType = 8
least n.Convention = 1
least n.Param = 1
least n.Results = 1
least n.Given = 1
least n.Block = 3
least n.BlockArg = 4
least n.Code = 1
least n.Inst = 3
least n.Row = 3
least n.Terminator = 1
least n.Operand = 4
least n.Edge = 1
least n.SwitchPart = 2
least n.EnumElement = 6
least n.MemberName = 4
least n.FirstFlag = 2
least n.QualifierWord = 1
least n.InitWord = 1
least n.DebugPart = 1
least n.DebugNamePart = 2
least n.DebugNumberPart = 2
least n.DebugDerefPart = 2
least _ = 0

unfoldable least_one : Symbol → ℕ
least_one (Read t) = 1
least_one (Part part) = least part

unfoldable least_all : List Symbol → ℕ
least_all [] = 0
least_all (s ∷ ss) = least_one s + least_all ss

computed_shortest : (part : Nonterminal) → (least_all (body (shortest part)) == least part) ≡ true
unfolding body rows shortest least least_one least_all
computed_shortest n.Module = refl
computed_shortest _ = refl

-- the row of each instruction
computed_row : (o : Op) → nat_lt (least (row_part o)) (least_all (row_body o) + 1) ≡ true
unfolding rows least least_one least_all
computed_row op.IntegerLiteral = refl
computed_row _ = refl

computed_least : (p : Production) → nat_lt (least (written p)) (least_all (body p) + 1) ≡ true
unfolding written body least least_one least_all
computed_least (p.Row o) = computed_row o
computed_least _ = refl

least_all-append : (ss rr : List Symbol) → least_all (ss ++ rr) ≡ least_all ss + least_all rr
unfolding least_all
least_all-append [] rr = omega arith
least_all-append (s ∷ ss) rr = omega (arith, least_all-append ss rr)

one_token : (s : Symbol) (k : Class) → Accepts s k → least_one s ≡ 1
unfolding least_one
one_token (Read t) k a = refl
one_token (Part part) k a = absurd a

least-derives : {ss : List Symbol} {ks : List Class} {steps : List Step} → Derives ss ks steps → least_all ss ≤ length ks
unfolding least_one least_all
least-derives nothing = omega arith
least-derives (token {s = s} {k = k} a d) = omega (arith, one_token s k a, least-derives d)
least-derives (rule {ss = ss} p d) =
    omega (arith, ltb-true (least (written p)) (least_all (body p) + 1) (computed_least p), least_all-append (body p) ss, least-derives d)

takes_of-shortens : {ss : List Symbol} {steps : List Step} → Shortens ss steps → takes_of steps ≡ least_all ss
unfolding least_one least_all
takes_of-shortens nothing_left = refl
takes_of-shortens (step (Read t) h) = omega (arith, takes_of-shortens h)
takes_of-shortens (step {ss = ss} (Part part) h) =
    let same : least_all (body (shortest part)) ≡ least part = eqb-true _ _ (computed_shortest part) in
    omega (arith, same, least_all-append (body (shortest part)) ss, takes_of-shortens h)

-- what is derived behind the first class
record Behind (ss : List Symbol) (ks : List Class) : Type 0 where
  pub steps : List Step
  pub derives : Derives ss ks steps

behind_token : (s : Symbol) {k : Class} {ss : List Symbol} {ks : List Class} {steps : List Step} → Accepts s k → Derives (s ∷ ss) (k ∷ ks) steps → Behind ss ks
behind_token s a (token {steps = steps} b d) = record { steps = steps; derives = d }
behind_token _ a (rule p d) = absurd a

fewest : {ss : List Symbol} {ks : List Class} {steps : List Step} (more : List Class) (others : List Step) → Fits ss → Completes ss ks steps
    → Derives ss (ks ++ more) others → takes_of steps ≤ length (ks ++ more)
fewest more others fits (behind h) d = omega (arith, takes_of-shortens h, least-derives d)
fewest more others fits (taken {s = s} a c) d =
    let rest = behind_token s a d in
    omega (arith, fewest more rest.steps fits.1 c rest.derives)
fewest more others fits (expanded {k = k} {ss = ss} {ks = ks} {steps = steps} p c) d =
    let here = inner (written p) fits.0 (expanded {k = k} {ss = ss} {ks = ks} {steps = steps} p c) in
    let there = Derives-inner (written p) fits.0 d in
    let same : there.production ≡ here.production = same_Some _ _ (sym there.choice ∙ here.choice) in
    let this : p ≡ here.production = cc here.steps_are in
    let inside = subst (λ q. Derives (body q ++ ss) (k ∷ (ks ++ more)) there.rest) (same ∙ sym this) there.derives in
    fewest more there.rest (Fits-expand p ss fits) c inside

pub fewest_tokens : HaveFewestTokens
fewest_tokens classes more steps others c d = fewest more others (FitsOne-start, tt) c d
