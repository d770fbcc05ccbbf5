use Rattle.std.proofs.Common.{◌≡◌, ◌<◌, ◌≤◌, ◌^◌, length, sym, ◌∙◌, true, false, arith}
use Rattle.ownership_kinds_chains.specs.OwnershipChains.Facts.{told_at}
use Rattle.copy_pairing.proofs.MovedCopies.{none_behind, none_next, quiet_more}
use Rattle.copy_pairing.proofs.Sizes.{short_block}
use Rattle.copy_pairing.proofs.moves.destroyed_in.Goals as goal

pub overflow_cast-point : goal.overflow_cast-point
overflow_cast-point c =
    let few : length c.args.block.now.insts < 2 ^ 32 = short_block c.args.f.now c.args.p.block.0 c.args.block.now c.requires.graph c.requires.block in
    omega arith

pub loop-index-init : goal.loop-index-init
loop-index-init c = λ k behind lt. absurd (omega arith)

pub returns-then-is_destroyed_at-clause-some : goal.returns-then-is_destroyed_at-clause-some
returns-then-is_destroyed_at-clause-some c = record {
  behind = omega arith;
  destroyed = c.is_destroyed_at.ensures.0 c.if-is_destroyed_at.true;
  quiet = c.loop-index.invariant;
}

pub returns-then-concerned-clause-none : goal.returns-then-concerned-clause-none
returns-then-concerned-clause-none c =
    none_next (told_at c.args.k.now.table) c.args.f.now c.args.p c.args.copied.value c.args.copied.operand c.requires.owned c.loop-index.index c.loop-index.invariant (omega arith)
    (sym c.in_ok-concerned.ensures ∙ c.if-concerned.true)
    (λ d. let so : c.is_destroyed_at.result ≡ true = c.is_destroyed_at.ensures.1 d in let not_so : c.is_destroyed_at.result ≡ false = c.if-is_destroyed_at.false in cc)

pub loop-index-preserved : goal.loop-index-preserved
loop-index-preserved c =
    quiet_more (told_at c.args.k.now.table) c.args.f.now c.args.p c.args.copied.value c.args.copied.operand c.loop-index.index c.loop-index.invariant
    (sym c.in_ok-concerned.ensures ∙ c.if-concerned.false)

pub returns-clause-none : goal.returns-clause-none
returns-clause-none c =
    let end : length c.args.block.now.insts ≤ c.loop-index.index = omega arith in
    none_behind (told_at c.args.k.now.table) c.args.f.now c.args.p c.args.copied.value c.args.copied.operand c.requires.owned c.args.block.now c.loop-index.index c.requires.block
    end c.loop-index.invariant
