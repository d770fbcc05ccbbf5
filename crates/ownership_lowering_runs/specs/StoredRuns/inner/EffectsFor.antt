-- What an instruction does in the lowered run beside what it does in the run by holders.
use Rattle.std.specs.Prelude.{◌≡◌}
use Rattle.sil_verifier_runs.specs.holder_model.Effects as effects
use Rattle.sil_verifier_runs.specs.holder_model.Effects.{Change, Effect}
use Rattle.sil_verifier_runs.specs.holder_model.Faults.{HolderFault}
use Rattle.sil_verifier_runs.specs.holder_model.declared.lowered_run.low_fault.LowFault.{LowFault}
use Rattle.ownership_lowering_runs.specs.StoredRuns.inner.Memories.{IsMemoryFor}

-- it leaves the same, in the memory of the lowered run
pub record IsChangeFor (c low : Change) : Type 0 where
  pub results : low.results ≡ c.results
  pub dropped : low.dropped ≡ c.dropped
  pub retained : low.retained ≡ c.retained
  pub slots : low.slots ≡ c.slots
  pub memory : IsMemoryFor c.memory low.memory

-- it does the same. What is a fault of the run by holders may be anything
abbrev pub IsEffectFor : Effect HolderFault → Effect LowFault → Type 0
IsEffectFor (effects.Makes c) low = (l : Change) × (low ≡ effects.Makes l) × IsChangeFor c l
IsEffectFor (effects.Calls g args) low = low ≡ effects.Calls g args
IsEffectFor (effects.Traps t) low = low ≡ effects.Traps t
IsEffectFor (effects.Faults x) low = Unit {0}
IsEffectFor effects.Unfit low = Unit {0}
