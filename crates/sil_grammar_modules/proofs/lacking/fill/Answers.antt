-- While there are too few values, symbols are left, and the first of them is the next value.
use Rattle.std.proofs.Common.{◌∷◌, [], ◌∙◌, ap, arith, length, length-append, reverse, sym}
use Rattle.sil_grammar_modules.specs.inner.Lacking.{waiting}
use Rattle.sil_grammar_modules.proofs.LackingLemmas.{one_moved, some_left}
use Rattle.sil_grammar_values.proofs.Popped.{first_popped, popped}
use Rattle.sil_grammar_modules.proofs.lacking.fill.Goals as goal

pub loop-alloc-preserved : goal.loop-alloc-preserved
loop-alloc-preserved c =
    let symbol = c.unwrap-symbol.result in
    let one = popped _ _ symbol _ c.pop.ensures.items c.unwrap-symbol.ensures in
    ap (λ built. waiting built (reverse c.pop.new.self.items)) c.in_ok-push_back.ensures
    ∙ one_moved c.loop-alloc.values symbol c.in_ok-value.value (reverse c.pop.new.self.items) c.in_ok-value.ensures
    ∙ ap (waiting c.loop-alloc.values) (sym (first_popped _ _ symbol one))
    ∙ c.loop-alloc.invariant

pub unwrap-symbol-requires : goal.unwrap-symbol-requires
unwrap-symbol-requires c =
    let few = c.loop-alloc-test.true in
    let some = some_left c.loop-alloc.values _ c.loop-alloc.left.items _ c.args.count c.loop-alloc.invariant c.requires (omega (arith, few, c.len.ensures)) in
    c.pop.ensures.variant.1 (omega (arith, some, c.loop-alloc.left.ok.0))

pub loop-alloc-smaller : goal.loop-alloc-smaller
loop-alloc-smaller c =
    let one = popped _ _ c.unwrap-symbol.result _ c.pop.ensures.items c.unwrap-symbol.ensures in
    omega (arith, ap length one, length-append c.pop.new.self.items (c.unwrap-symbol.result ∷ []))

pub returns : goal.returns
returns c = record { same = c.loop-alloc.invariant; enough = omega (arith, c.loop-alloc-test.false, c.len.ensures) }
