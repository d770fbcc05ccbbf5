use Rattle.std.proofs.Common.{rules, arith, length-drop, refl}
use Rattle.std.proofs.KnownBytes.{Appends-nil}
use Rattle.sil_io.specs.Writing.{nothing, put}
use Rattle.sil_io.proofs.Steps.{Appends-more, take-rest}
use Rattle.sil_io.proofs.writing.write_all.Goals as goal

pub loop-written-init : goal.loop-written-init
loop-written-init g c = record {
  within = search rules;
  appended = Appends-nil _;
  puts = nothing;
  same_count = refl;
}

pub loop-written-preserved : goal.loop-written-preserved
loop-written-preserved g c =
    let rest = rw take-rest at c.in-Ok.ensures.within in
    record {
      within = omega (arith, length-drop c.loop-written.written c.args.bytes.now);
      appended = Appends-more _ _ _ c.loop-written.written c.in-Ok.count c.args.bytes.now c.loop-written.invariant.appended c.in-Ok.ensures.appended;
      puts = put c.loop-written.invariant.puts (rw take-rest at c.in-Ok.ensures.one_call);
      same_count = cc (c.in-Ok.ensures.no_fault, c.loop-written.invariant.same_count);
    }
