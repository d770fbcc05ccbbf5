use Rattle.std.proofs.Common.{refl}
use Rattle.sil_cfg.specs.Flow.{numbered}
use Rattle.reach_engine.proofs.EdgesFollowed.{start_is}
use Rattle.reach_engine.proofs.frontier.start.Goals as goal

pub returns : goal.returns
returns c = λ f.
    start_is (numbered c.args.g.now) f c.args.states c.blocks-2.result _ c.push.new.self.items c.new-queue.result.items c.in_ok-seen.seen.items c.blocks-2.ensures.sound.some_block c.requires.0
    c.blocks-2.ensures.count (c.in_ok-seen.ensures.items_if_clones_equal (λ y e. e)) c.new-queue.ensures.items c.in_ok-push.ensures.items refl refl refl
