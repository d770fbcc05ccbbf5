use Rattle.std.proofs.Common.{◌≡◌, zero, suc, ◌+◌, ◌∙◌, arith, length, sym, Some}
use Rattle.ownership_lowering_model.specs.Names.{renamed_from}
use Rattle.ownership_lowering_functions.proofs.FunctionLowering.Chains.{along, same_end}
use Rattle.ownership_lowering_functions.proofs.function_lowering.names.stands_for.Goals as goal

pub loop-preserved : goal.loop-preserved
loop-preserved c =
    let r = c.args.renamings.now in
    let next : renamed_from r c.loop.at ≡ Some c.in-Some.next = sym c.in-Some.ensures in
    record {
      within = λ k sum.
          let before : c.loop.counter + suc k ≡ length r = omega (arith, sum) in
          sym (along r k c.loop.at c.in-Some.next next) ∙ c.loop.invariant.within (suc k) before;
      same = sym (same_end r c.requires.range c.requires.ends c.loop.at c.in-Some.next next) ∙ c.loop.invariant.same;
    }

pub returns : goal.returns
returns c = c.loop.invariant.within zero (omega arith)
