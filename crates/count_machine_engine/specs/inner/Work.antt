-- How much work is left in a state: a number that falls with each step that isn't a drop.
use Rattle.std.specs.Prelude.{ℕ, ◌+◌, ◌-◌, ◌*◌, List, [], ◌∷◌, Option, Some, None, length, max}
use Rattle.count_machine_model.specs.declared.machine_steps.frame.Task.{Task}
use Rattle.count_machine_model.specs.declared.machine_steps.frame.Task.TheVariants.{Drops, Finishes, Runs}
use Rattle.count_machine_model.specs.MachineSteps.Ends.{block_at}
use Rattle.count_machine_model.specs.MachineSteps.Views.{MachineView}
use Rattle.count_machine_model.specs.declared.ready_code.block.ReadyBlock.{ReadyBlock}
use Rattle.count_machine_model.specs.declared.ready_code.function.ReadyFunction.{ReadyFunction}
use Rattle.count_machine_model.specs.declared.ready_code.function.ReadyModule.{ReadyModule}

-- how many instructions the longest block has

abbrev pub longest_of : List ReadyBlock → ℕ
longest_of [] = 0
longest_of (b ∷ bs) = max (length b.ops) (longest_of bs)

abbrev pub longest_in : List ReadyFunction → ℕ
longest_in [] = 0
longest_in (f ∷ fs) = max (longest_of f.blocks) (longest_in fs)

abbrev pub longest : ReadyModule → ℕ
longest ready = longest_in ready.functions

-- what is left of a block behind an index: its instructions, its terminator, and the return of its frame
abbrev pub left_behind : ℕ → Option ReadyBlock → ℕ
left_behind index None = 1
left_behind index (Some b) = (length b.ops + 1 - index) + 1

abbrev pub left_of : ReadyModule → Task → ℕ
left_of ready (Runs fr) = left_behind fr.index (block_at ready fr.function fr.block)
left_of ready (Drops from) = 0
left_of ready (Finishes o called) = 1

abbrev pub left_in : ReadyModule → List Task → ℕ
left_in ready [] = 0
left_in ready (t ∷ ts) = left_of ready t + left_in ready ts

-- each turn may bring a block or a frame, which have less than this left
unfoldable pub work : ReadyModule → ℕ → MachineView → ℕ
work ready bound st = (bound - st.turns) * (longest ready + 3) + left_in ready st.tasks

-- drops

abbrev pub is_drop : Task → ℕ
is_drop (Runs fr) = 0
is_drop (Drops from) = 1
is_drop (Finishes o called) = 0

abbrev pub drops_in : List Task → ℕ
drops_in [] = 0
drops_in (t ∷ ts) = is_drop t + drops_in ts

-- falls with each drop
unfoldable pub drop_work : MachineView → ℕ
drop_work st = length st.waiting + drops_in st.tasks
