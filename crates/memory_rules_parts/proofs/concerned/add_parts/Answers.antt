use Rattle.std.proofs.Common.{subst, take, List}
use Rattle.std.proofs.lemmas.List.{take_all}
use Rattle.std.proofs.lemmas.List.Elements.{All-more}
use Rattle.memory_rules_parts.specs.inner.Concerned.{AreConcerned, IsConcerned}
use Rattle.memory_rules_parts.specs.declared.part.Part.{Part}
use Rattle.memory_rules_parts.proofs.Unconcerned.{parts_kept}
use Rattle.memory_rules_parts.proofs.concerned.add_parts.Goals as goal

pub loop-part-preserved : goal.loop-part-preserved
loop-part-preserved c =
    All-more (IsConcerned c.args.m.now c.add_part.new.concerned) c.args.batch.now c.loop-part.part-index _ c.loop-part-test.true
    (parts_kept c.args.m.now c.loop-part.concerned c.add_part.new.concerned c.add_part.ensures.kept (take c.loop-part.part-index c.args.batch.now) c.loop-part.invariant) c.add_part.ensures.there

pub returns : goal.returns
returns c =
    let P : List Part → Type 0 = λ parts. AreConcerned c.args.m.now parts c.loop-part.concerned in
    subst P (take_all c.loop-part.part-index c.args.batch.now c.loop-part-test.false) c.loop-part.invariant
