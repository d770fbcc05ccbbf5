-- The frame that goes on, behind its instruction.
use Rattle.std.specs.Prelude.{ℕ, List, [], ◌∷◌}
use Rattle.count_machine_model.specs.declared.machine_steps.frame.Task.{Task}
use Rattle.count_machine_model.specs.declared.machine_steps.frame.Task.TheVariants.{Drops, Finishes, Runs}
use Rattle.count_machine_model.specs.MachineSteps.Ends.{in_block}
use Rattle.count_machine_model.specs.MachineSteps.Operands.{behind_op}

abbrev pub raised_task : Task → Task
raised_task (Runs fr) = Runs (behind_op fr)
raised_task (Drops from) = Drops from
raised_task (Finishes o called) = Finishes o called

abbrev pub raised : List Task → List Task
raised [] = []
raised (t ∷ ts) = raised_task t ∷ ts

-- the frame that goes on, at the beginning of a block

abbrev pub moved_task : ℕ → Task → Task
moved_task block (Runs fr) = Runs (in_block fr block)
moved_task block (Drops from) = Drops from
moved_task block (Finishes o called) = Finishes o called

abbrev pub moved : ℕ → List Task → List Task
moved block [] = []
moved block (t ∷ ts) = moved_task block t ∷ ts
