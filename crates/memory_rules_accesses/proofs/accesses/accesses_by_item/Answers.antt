use Rattle.std.proofs.Common.{◌≡◌, ◌+◌, List, [], ◌∷◌, ◌++◌, length, ap, ◌∙◌, arith}
use Rattle.std.specs.declared.alloc.Global.{Global}
use Rattle.std.specs.declared.vec.Vec.{Vec}
use Rattle.sil_cfg.proofs.Gets.{length_push}
use Rattle.reach_engine_marks.proofs.PathChecks.Accesses.{accesses_one_more}
use Rattle.reach_engine_marks.specs.PathPatterns.inner.Reads.{accesses_at}
use Rattle.memory_rules_accesses.specs.declared.access.Access.{Access}
use Rattle.memory_rules_accesses.specs.inner.Done.{told_at_item}
use Rattle.memory_rules_accesses.proofs.ByItem.{all_agree, told_of_item}
use Rattle.memory_rules_accesses.proofs.accesses.accesses_by_item.Goals as goal

pub loop-i-preserved : goal.loop-i-preserved
loop-i-preserved c =
    let new : c.push.new.self.items ≡ c.loop-i.all.items ++ c.in_ok-accesses.accesses ∷ [] = c.in_ok-push.ensures.items in
    record {
      size = ap length new ∙ length_push c.loop-i.all.items c.in_ok-accesses.accesses ∙ ap (λ n. n + 1) c.loop-i.invariant.size;
      accesses = λ n lt. ap (λ (v : List (Vec Access Global)). accesses_at v n) new ∙
          accesses_one_more (told_at_item c.args.m.now c.args.f.now c.args.g.now c.args.k.now) c.loop-i.all.items c.in_ok-accesses.accesses c.loop-i.i c.loop-i.invariant.size
          (told_of_item c.args.m.now c.args.f.now c.args.g.now c.args.k.now c.loop-i.i c.item.result c.marks.result.now
          c.in_ok-accesses.accesses.items c.in_ok-accesses.ensures c.marks.ensures c.item.ensures)
          c.loop-i.invariant.accesses n lt;
    }

pub returns-clause-accesses : goal.returns-clause-accesses
returns-clause-accesses c =
    all_agree c.args.m.now c.args.f.now c.args.g.now c.args.k.now c.loop-i.all.items (λ n lt. c.loop-i.invariant.accesses n (omega arith))
