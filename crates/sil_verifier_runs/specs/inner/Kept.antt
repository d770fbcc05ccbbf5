-- What holds of the states of runs by holders of accepted modules: runs begin so, and steps keep it. From such a state no step ends in certain faults.
use Rattle.std.specs.Prelude.{◌≡◌, ℕ, Bool, true, false, Some, slice_get}
use Rattle.sil_ast.specs.declared.function.Function.{Function}
use Rattle.sil_ast.specs.declared.module.Module.{Module}
use Rattle.sil_ast.specs.declared.place.FuncId.{FuncId}
use Rattle.sil_verifier_frames.specs.sil_verifier_accepted.AcceptedModules.inner.Checked.{IsVerified}
use Rattle.sil_verifier_frames.specs.holder_model.Faults.{HolderFault}
use Rattle.sil_verifier_frames.specs.holder_model.HolderStates.{HolderState}
use Rattle.sil_verifier_frames.specs.holder_model.ModuleFacts.{facts_of}
use Rattle.sil_verifier_frames.specs.holder_model.Outcomes.{begins, may_start}
use Rattle.sil_verifier_frames.specs.holder_model.States.{Ends, Faulted, Goes}
use Rattle.sil_verifier_frames.specs.holder_model.Steps.{step}

-- a part of the invariant, which is kept while the parts before it are, and the faults that it excludes
module _ (Before Part : Module → HolderState → Type 0) (excludes : HolderFault → Bool) where
  pub record IsKept : Type 0 where
    pub begin : (m : Module) (e : FuncId) (f : Function) → IsVerified m → slice_get m.functions e.0 ≡ Some f → may_start f ≡ true → Part m (begins e f)
    pub goes : (m : Module) (bound : ℕ) (s next : HolderState) → IsVerified m → Before m s → Before m next → Part m s
        → step m (facts_of m) bound s ≡ Goes next → Part m next
    pub faults : (m : Module) (bound : ℕ) (s last : HolderState) (x : HolderFault) → IsVerified m → Before m s → Part m s
        → step m (facts_of m) bound s ≡ Ends (Faulted x) last → excludes x ≡ false
