use Rattle.std.proofs.Common.{take, drop, sym, ◌∙◌, ap, ◌+◌, arith, ◌++◌, take-append-drop}
use Rattle.std.proofs.lemmas.List.{drop_more}
use Rattle.reach_engine.proofs.scan.pass.Goals as goal

pub returns-in-Bad : goal.returns-in-Bad
returns-in-Bad g c = record {
  before = take c.loop-item.item-index c.args.items.now;
  behind = drop (c.loop-item.item-index + 1) c.args.items.now;
  state = c.loop-item.current;
  parts = sym (take-append-drop c.loop-item.item-index c.args.items.now)
      ∙ ap (λ v. take c.loop-item.item-index c.args.items.now ++ v) (drop_more c.args.items.now c.loop-item.item-index 0 (omega arith));
  clean = c.loop-item.invariant.0;
  breaks = sym c.in-Bad.ensures.step;
}
