use Rattle.std.proofs.Common.{◌≡◌, ◌++◌, List, ap, ◌∙◌, subst, take, arith}
use Rattle.std.specs.Prelude.{eqb}
use Rattle.std.proofs.lemmas.List.{take_all}
use Rattle.std.proofs.lemmas.List.Filters.{dedup_is}
use Rattle.memory_rules_parts.specs.inner.Index.{HasAll}
use Rattle.memory_rules_parts.specs.declared.key.Key.{Key}
use Rattle.memory_rules_parts.proofs.Rows.{all_more, all_sorted, rising_sorted}
use Rattle.memory_rules_parts.proofs.index.numbers_at.Goals as goal

pub loop-key-preserved : goal.loop-key-preserved
loop-key-preserved c =
    all_more c.args.rows.now c.args.keys.now c.loop-key.key-index _ c.loop-key.numbers.items c.extend_from_slice.new.self.items c.loop-key-test.true c.loop-key.invariant
    (c.in_ok-extend_from_slice.ensures.items ∙ ap (λ v. c.loop-key.numbers.items ++ v) c.row_at.ensures)

pub returns-clause-rising : goal.returns-clause-rising
returns-clause-rising c = rising_sorted c.sort.new.self.items c.dedup.new.self.items c.in_ok-sort.ensures.sorted (dedup_is eqb c.sort.new.self.items c.dedup.new.self.items c.dedup.ensures.filtered)

pub returns-clause-all : goal.returns-clause-all
returns-clause-all c =
    let whole : take c.loop-key.key-index c.args.keys.now ≡ c.args.keys.now = take_all c.loop-key.key-index c.args.keys.now (omega arith) in
    all_sorted c.args.rows.now c.args.keys.now c.loop-key.numbers.items c.sort.new.self.items c.dedup.new.self.items
    (subst (λ (v : List Key). HasAll c.args.rows.now v c.loop-key.numbers.items) whole c.loop-key.invariant) c.in_ok-sort.ensures.permutation
    (dedup_is eqb c.sort.new.self.items c.dedup.new.self.items c.dedup.ensures.filtered)
