-- What a release answers, by what it left.
use Rattle.std.specs.Prelude.{ℕ, ◌==◌, ◌&&◌, cond}
use Rattle.holder_model_values.specs.RunValues.Memory.{is_live_phase}
use Rattle.holder_model_values.specs.declared.run_values.phase.Phase.{Phase}
use Rattle.count_heap.specs.declared.heap_model.released.Released.{Released}
use Rattle.count_heap.specs.declared.heap_model.released.Released.TheVariants.{Held, LastGone}

abbrev pub left_answer : Phase → ℕ → Released
left_answer phase strong = cond (is_live_phase phase && strong == 0) LastGone Held
