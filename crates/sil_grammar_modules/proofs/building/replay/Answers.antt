-- There is a take wherever a token is taken, and there are the values of a body wherever a production is expanded.
use Rattle.std.proofs.Common.{◌≡◌, [], ◌∷◌, ◌++◌, ◌<◌, ◌≤◌, ◌-◌, ◌∙◌, length, map, reverse, take, get_or, ap, arith, subst, sym}
use Rattle.std.specs.Prelude.{None}
use Rattle.std.proofs.lemmas.List.{length-reverse, length-take-le, take_all}
use Rattle.sil_lexer.specs.inner.Lexing.{lexemes_of, IsInside}
use Rattle.sil_grammar_tables.specs.Grammar.{body}
use Rattle.sil_grammar_tree.specs.WrittenTree.Faults.{earlier}
use Rattle.sil_grammar_modules.specs.inner.Lacking.{lacking, waiting}
use Rattle.sil_grammar_values.specs.inner.PartFaults.{part_fault}
use Rattle.sil_grammar_values.specs.inner.Reduced.{parts_of, reduced}
use Rattle.sil_grammar_modules.proofs.BuildLemmas.{InReplay, all_faults, all_replayed, begun, enough_there, kept_all, kept_front, none_left, production_replayed, some_left, token_replayed}
use Rattle.sil_grammar_modules.proofs.LackingLemmas.{parts-waiting, reduced-waiting, waiting-length}
use Rattle.sil_grammar_modules.proofs.LeafLemmas.{some_token}
use Rattle.sil_grammar_values.proofs.Popped.{front_with_last}
use Rattle.sil_grammar_modules.proofs.building.replay.Goals as goal

pub loop-i-init : goal.loop-i-init
loop-i-init g c =
    let steps = c.args.steps.items in
    let tokens = c.args.tokens.tokens in
    let all_steps : take c.len-i.result steps ≡ steps = take_all c.len-i.result steps (omega (arith, c.len-i.ensures)) in
    let all_tokens : take c.len-token.result tokens ≡ tokens = take_all c.len-token.result tokens (omega (arith, c.len-token.ensures)) in
    let all = steps ++ g.rest in
    let text = c.args.text.now.value.items in
    let lexemes = lexemes_of text c.args.tokens in
    let left = reverse c.args.left.items in
    let at = begun text steps g.rest tokens left c.requires.0 c.requires.1.0 c.requires.1.1.0 in
    let at_steps = subst (λ s. InReplay all lexemes text s tokens (map lacking left) None) (sym all_steps) at in
    let at_tokens = subst (λ ts. InReplay all lexemes text (take c.len-i.result steps) ts (map lacking left) None) (sym all_tokens) at_steps in
    record {
      at = subst (λ values. InReplay all lexemes text (take c.len-i.result steps) (take c.len-token.result tokens) (waiting values left) None) (sym c.new-values.ensures) at_tokens;
      steps = omega (arith, c.len-i.ensures);
      tokens = omega (arith, c.len-token.ensures);
      inside = c.requires.0;
    }

pub overflow_sub-token : goal.overflow_sub-token
overflow_sub-token g c =
    let last = front_with_last c.loop-i.i c.loop-i.steps.items c.index.result.now c.loop-i-test.true c.loop-i.invariant.steps
    ∙ ap (λ step. take (c.loop-i.i - 1) c.loop-i.steps.items ++ step ∷ []) (sym c.index.ensures ∙ c.in-Take.is) in
    omega (arith, some_left c.loop-i.invariant.at (take (c.loop-i.i - 1) c.loop-i.steps.items) last, length-take-le c.loop-i.token c.loop-i.tokens.tokens c.loop-i.invariant.tokens)

pub leaf_at-requires-clause-inside : goal.leaf_at-requires-clause-inside
leaf_at-requires-clause-inside g c = c.loop-i.invariant.inside

pub leaf_at-requires-clause-in_range : goal.leaf_at-requires-clause-in_range
leaf_at-requires-clause-in_range g c =
    let last = front_with_last c.loop-i.i c.loop-i.steps.items c.index.result.now c.loop-i-test.true c.loop-i.invariant.steps
    ∙ ap (λ step. take (c.loop-i.i - 1) c.loop-i.steps.items ++ step ∷ []) (sym c.index.ensures ∙ c.in-Take.is) in
    omega (
      arith,
      some_left c.loop-i.invariant.at (take (c.loop-i.i - 1) c.loop-i.steps.items) last,
      length-take-le c.loop-i.token c.loop-i.tokens.tokens c.loop-i.invariant.tokens,
      c.loop-i.invariant.tokens,
    )

pub loop-i-preserved-in-Take : goal.loop-i-preserved-in-Take
loop-i-preserved-in-Take g c =
    let steps = c.loop-i.steps.items in
    let tokens = c.loop-i.tokens.tokens in
    let last = front_with_last c.loop-i.i steps c.index.result.now c.loop-i-test.true c.loop-i.invariant.steps
    ∙ ap (λ step. take (c.loop-i.i - 1) steps ++ step ∷ []) (sym c.index.ensures ∙ c.in-Take.is) in
    let some : 0 < c.loop-i.token = omega (arith, some_left c.loop-i.invariant.at (take (c.loop-i.i - 1) steps) last, length-take-le c.loop-i.token tokens c.loop-i.invariant.tokens) in
    let last_token = front_with_last c.loop-i.token tokens some_token some c.loop-i.invariant.tokens in
    let value = c.in_ok-leaf_at-in-Take.field-0 in
    let at = token_replayed c.loop-i.invariant.at (take (c.loop-i.i - 1) steps) (take (c.loop-i.token - 1) tokens) (get_or tokens (c.loop-i.token - 1) some_token) value
    last last_token (c.in_ok-leaf_at-in-Take.ensures some_token) in
    let all = c.args.steps.items ++ g.rest in
    let text = c.args.text.now.value.items in
    let lexemes = lexemes_of text c.args.tokens in
    let left = reverse c.loop-i.left.items in
    let same_steps = kept_front (c.loop-i.i - 1) steps c.let_go.new.steps.items c.let_go.ensures.steps in
    let same_tokens = kept_front (c.loop-i.token - 1) tokens c.let_go.new.tokens.tokens c.let_go.ensures.tokens in
    let at_steps = subst (λ s. InReplay all lexemes text s (take (c.loop-i.token - 1) tokens) (value ∷ waiting c.loop-i.values left) c.loop-i.fault) (sym same_steps) at in
    let at_tokens = subst (λ ts. InReplay all lexemes text (take (c.loop-i.i - 1) c.let_go.new.steps.items) ts (value ∷ waiting c.loop-i.values left) c.loop-i.fault) (sym same_tokens) at_steps in
    record {
      at = subst (λ values. InReplay all lexemes text (take (c.loop-i.i - 1) c.let_go.new.steps.items)
          (take (c.loop-i.token - 1) c.let_go.new.tokens.tokens) (waiting values left) c.loop-i.fault) (sym c.in_ok-push_front-in-Take.ensures) at_tokens;
      steps = c.let_go.ensures.steps.2;
      tokens = c.let_go.ensures.tokens.2;
      inside = kept_all (c.loop-i.token - 1) tokens c.let_go.new.tokens.tokens c.let_go.ensures.tokens (IsInside text) c.loop-i.invariant.inside;
    }

pub fill_body-requires : goal.fill_body-requires
fill_body-requires g c =
    let steps = c.loop-i.steps.items in
    let last = front_with_last c.loop-i.i steps c.index.result.now c.loop-i-test.true c.loop-i.invariant.steps
    ∙ ap (λ step. take (c.loop-i.i - 1) steps ++ step ∷ []) (sym c.index.ensures ∙ c.in-Expand.is) in
    let long = enough_there c.loop-i.invariant.at (take (c.loop-i.i - 1) steps) c.in-Expand.production last c.requires.1.1.1 in
    omega (arith, long, waiting-length c.loop-i.values (reverse c.loop-i.left.items), length-reverse c.loop-i.left.items)

pub reduce-requires : goal.reduce-requires
reduce-requires g c = omega (arith, c.in_ok-fill_body-in-Expand.ensures.enough)

pub loop-i-preserved : goal.loop-i-preserved
loop-i-preserved g c =
    let steps = c.loop-i.steps.items in
    let last = front_with_last c.loop-i.i steps c.index.result.now c.loop-i-test.true c.loop-i.invariant.steps
    ∙ ap (λ step. take (c.loop-i.i - 1) steps ++ step ∷ []) (sym c.index.ensures ∙ c.in-Expand.is) in
    let p = c.in-Expand.production in
    let built = c.fill_body.new.values in
    let left = map lacking (reverse c.fill_body.new.left.items) in
    let same = c.in_ok-fill_body-in-Expand.ensures.same in
    let enough : length (body p) ≤ length built = omega (arith, c.in_ok-fill_body-in-Expand.ensures.enough) in
    let reduced_is = reduced-waiting p built left c.reduce.new.values enough c.in_ok-found-in-Expand.ensures.values in
    let own : c.in_ok-found-in-Expand.found ≡ part_fault p (parts_of p (built ++ left)) =
    c.in_ok-found-in-Expand.ensures.fault ∙ ap (part_fault p) (sym (parts-waiting p built left enough)) in
    let at = production_replayed c.loop-i.invariant.at (take (c.loop-i.i - 1) steps) p (c.reduce.new.values ++ left) c.earlier-fault.result last
    (sym reduced_is ∙ ap (reduced p) same)
    (c.earlier-fault.ensures ∙ ap (λ f. earlier f c.loop-i.fault) (own ∙ ap (λ values. part_fault p (parts_of p values)) same)) in
    record { at = at; steps = omega (arith, c.loop-i.invariant.steps); tokens = c.loop-i.invariant.tokens; inside = c.loop-i.invariant.inside }

pub returns : goal.returns
returns g c =
    let none : take c.loop-i.i c.loop-i.steps.items ≡ [] = none_left c.loop-i.i c.loop-i.steps.items (omega (arith, c.loop-i-test.false)) in
    record { values = all_replayed c.loop-i.invariant.at none; fault = all_faults c.loop-i.invariant.at none }
