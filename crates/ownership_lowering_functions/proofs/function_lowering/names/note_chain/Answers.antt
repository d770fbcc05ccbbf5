use Rattle.std.proofs.Common.{◌≡◌, ◌<◌, ◌∙◌, arith, inl, inr, length, subst, sym, Some}
use Rattle.std.proofs.lemmas.Bool.{cases_eq}
use Rattle.ownership_lowering_model.specs.Names.{renamed_from}
use Rattle.ownership_lowering_functions.specs.FunctionLowering.inner.Standing.{IsNoted}
use Rattle.ownership_lowering_functions.proofs.FunctionLowering.Chains.{same_end}
use Rattle.ownership_lowering_functions.proofs.FunctionLowering.Noting.{noted_here, right_after, still_noted, with_note}
use Rattle.ownership_lowering_functions.proofs.function_lowering.names.note_chain.Goals as goal

pub loop-preserved : goal.loop-preserved
loop-preserved c =
    let r = c.args.renamings.now in
    let old = c.loop.noted in
    let at = c.loop.at in
    let end = c.args.end in
    let room : at.0 < length old = omega arith in
    let next : renamed_from r at ≡ Some c.in-Some.next = sym c.in-Some.ensures in
    record {
      same = sym (same_end r c.requires.range c.requires.ends at c.in-Some.next next) ∙ c.loop.invariant.same;
      begun = λ some. elim (cases_eq c.loop.counter 0) [
        | inl first ↦ subst (λ v. IsNoted (with_note old at end room) v) (c.loop.invariant.unmoved first) (noted_here old at end room)
        | inr later ↦ still_noted old at end room c.args.value (c.loop.invariant.begun (omega arith))
      ];
      unmoved = λ none. absurd (omega arith);
      right = right_after old at end room r c.loop.invariant.same c.loop.invariant.right;
      stays = λ v h. still_noted old at end room v (c.loop.invariant.stays v h);
    }
