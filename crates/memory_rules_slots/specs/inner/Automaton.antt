-- The automaton of two slots.
use Rattle.std.specs.Prelude.{ℕ, zero, suc, List}
use Rattle.sil_ast.specs.declared.place.ValueId.{ValueId}
use Rattle.reach_engine.specs.declared.scan.Step.{Step}
use Rattle.reach_engine.specs.declared.scan.Step.TheVariants.{Go, Bad}
use Rattle.memory_rules_accesses.specs.reach_engine_marks.PathPatterns.inner.Decides.{item_step}
use Rattle.memory_rules_accesses.specs.reach_engine_marks.PathPatterns.inner.Reads.{read_step}
use Rattle.memory_rules_accesses.specs.declared.access.Access.{Access}
use Rattle.memory_rules_slots.specs.Marks.{pair_mark}
use Rattle.memory_rules_slots.specs.Order.{crossing_code}
use Rattle.memory_rules_slots.specs.declared.mark.SlotMark.{SlotMark}
use Rattle.memory_rules_slots.specs.declared.mark.SlotMark.TheVariants.{FirstIn, FirstOut, SecondIn, SecondOut}

-- neither is allocated, the first, the second, both with the second after the first, both with the first after the second
abbrev pub order_step : ℕ → SlotMark → Step
order_step zero FirstIn = Go 1
order_step zero FirstOut = Go 0
order_step zero SecondIn = Go 2
order_step zero SecondOut = Go 0
order_step (suc zero) FirstIn = Go 1
order_step (suc zero) FirstOut = Go 0
order_step (suc zero) SecondIn = Go 3
order_step (suc zero) SecondOut = Go 1
order_step (suc (suc zero)) FirstIn = Go 4
order_step (suc (suc zero)) FirstOut = Go 2
order_step (suc (suc zero)) SecondIn = Go 2
order_step (suc (suc zero)) SecondOut = Go 0
order_step (suc (suc (suc zero))) FirstIn = Go 3
order_step (suc (suc (suc zero))) FirstOut = Bad crossing_code
order_step (suc (suc (suc zero))) SecondIn = Go 3
order_step (suc (suc (suc zero))) SecondOut = Go 1
order_step (suc (suc (suc (suc s)))) FirstIn = Go 4
order_step (suc (suc (suc (suc s)))) FirstOut = Go 2
order_step (suc (suc (suc (suc s)))) SecondIn = Go 4
order_step (suc (suc (suc (suc s)))) SecondOut = Go 1

-- over the accesses of items
abbrev pub pair_step : (ℕ → List Access) → ValueId → ValueId → ℕ → ℕ → Step
pair_step accesses first second = item_step (read_step order_step (pair_mark first second)) accesses
