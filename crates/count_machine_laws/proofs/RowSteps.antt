-- A row: what an instruction that calls no function does in the run, and what the machine performs for it.
use Rattle.std.proofs.Common.{◌≡◌, ℕ, List, false}
use Rattle.std.proofs.lemmas.Bool.{true≢false}
use Rattle.count_machine_model.specs.holder_model.ModuleShapes.{shapes_of}
use Rattle.count_machine_model.specs.holder_model.States as low
use Rattle.count_machine_model.specs.holder_model.LoweredRun.LowFrames.{LowFrame}
use Rattle.count_machine_model.specs.holder_model.LoweredRun.LowStepParts.{LowState}
use Rattle.count_machine_model.specs.holder_model.LoweredRun.LowSteps.{does}
use Rattle.count_machine_model.specs.declared.machine_steps.frame.Frame.{Frame}
use Rattle.count_machine_model.specs.declared.machine_steps.frame.Task.{Task}
use Rattle.count_machine_model.specs.MachineSteps.Rows.{performs}
use Rattle.count_machine_model.specs.MachineSteps.Views.{MachineView}
use Rattle.count_machine_model.specs.declared.ready_code.function.ReadyModule.{ReadyModule}
use Rattle.count_machine_model.specs.declared.ready_code.op.ReadyOp.{ReadyOp}
use Rattle.count_machine_model.specs.ReadyCode.ReadyModules.{IsReadyModule}
use Rattle.count_machine_model.specs.ReadyCode.ReadyOps.{IsReadyOp}
use Rattle.count_machine_model.specs.holder_model.RunTyping.RunTyped.{RunTyped}
use Rattle.sil_ast.specs.declared.function.Function.{Function}
use Rattle.sil_ast.specs.declared.inst.Inst.{Inst}
use Rattle.sil_ast.specs.declared.module.Module.{Module}
use Rattle.count_machine_laws.proofs.Ending.{Alike}
use Rattle.count_machine_laws.proofs.Entries.{Ends}
use Rattle.count_machine_laws.proofs.FrameSteps.{Running, StandsAt, is_call}
use Rattle.count_machine_laws.proofs.Rows.Addresses.{field_address_alike, member_address_alike}
use Rattle.count_machine_laws.proofs.Rows.Choices.{chooses_full_alike, chooses_plain_alike}
use Rattle.count_machine_laws.proofs.Rows.Computing.{computes_alike}
use Rattle.count_machine_laws.proofs.Rows.Effects.{RowAlike, Runs}
use Rattle.count_machine_laws.proofs.Rows.Groups.{group_alike, member_alike}
use Rattle.count_machine_laws.proofs.Rows.Loading.{load_name_alike}
use Rattle.count_machine_laws.proofs.Rows.Objects.{object_alike, removes_alike, slot_alike}
use Rattle.count_machine_laws.proofs.Rows.PlacesLoad.{loads_alike}
use Rattle.count_machine_laws.proofs.Rows.PlacesStore.{stores_alike}
use Rattle.count_machine_laws.proofs.Rows.PlacesStoreName.{stores_name_alike}
use Rattle.count_machine_laws.proofs.Rows.References.{drop_alike, retain_alike}
use Rattle.count_machine_laws.proofs.Rows.Storing.{forget_name_alike}
use Rattle.count_machine_laws.proofs.Rows.Values.{function_alike, literal_alike, look_alike, same_alike, traps_alike}
use Rattle.count_machine_laws.proofs.Slots.{Made}
use Rattle.count_machine_laws.proofs.Tasks.{Beginning}

-- what the run does at a row and what the machine performs for it are alike
pub row_follows : (m : Module) (ready : ReadyModule) (entry : Beginning) (bound : ℕ) → RunTyped m → IsReadyModule m entry.reached ready
    → (made : List Made) (s : LowState) (st : MachineView) (f : Function) (lf : LowFrame) (mf : Frame) (below : Ends)
    (rest : List (low.Task LowFrame)) (rest' : List Task) → Running m entry made s st f lf mf below rest rest'
    → (i : Inst) (o : ReadyOp) → StandsAt m f lf i o → is_call o ≡ false
    → Alike m entry (does m (shapes_of m) bound s rest lf f i) (performs ready bound st mf rest' o)
row_follows m ready entry bound typed ready_ made s st f lf mf below rest rest' running i o stands plain = by_op o stands.made_ready stands plain
  where
    r : Runs m entry
    r = record {
      ready = ready;
      bound = bound;
      typed = typed;
      made = made;
      s = s;
      st = st;
      f = f;
      lf = lf;
      mf = mf;
      below = below;
      rest = rest;
      rest' = rest';
      running = running;
      i = i;
    }

    by_op : (o : ReadyOp) → IsReadyOp m f i o → StandsAt m f lf i o → is_call o ≡ false → RowAlike r o
    by_op _ (IsReadyOp.look v e operands) stands plain = look_alike r v e operands stands
    by_op _ (IsReadyOp.literal n u e number results) stands plain = literal_alike r n u e number results stands
    by_op _ (IsReadyOp.function u e results) stands plain = function_alike r u e results stands
    by_op _ (IsReadyOp.computes b v w u others e named operands results) stands plain = computes_alike r b v w u others e named operands results stands
    by_op _ (IsReadyOp.traps v e operands) stands plain = traps_alike r v e operands stands
    by_op _ (IsReadyOp.object class k u e results form at) stands plain = object_alike r class k u e results form at stands
    by_op _ (IsReadyOp.slot s u e results form) stands plain = slot_alike r s u e results form stands
    by_op _ (IsReadyOp.removes v e operands) stands plain = removes_alike r v e operands stands
    by_op _ (IsReadyOp.same v u e operands results) stands plain = same_alike r v u e operands results stands
    by_op _ (IsReadyOp.retains v e operands) stands plain = retain_alike r v e operands stands
    by_op _ (IsReadyOp.drops v e operands) stands plain = drop_alike r v e operands stands
    by_op _ (IsReadyOp.loads v u e operands results) stands plain = loads_alike r v u e operands results stands
    by_op _ (IsReadyOp.stores v p s e operands form none) stands plain = stores_alike r v p s e operands form none stands
    by_op _ (IsReadyOp.loads_name v u w s o e operands results form done) stands plain = load_name_alike r v u w s o e operands results form done stands
    by_op _ (IsReadyOp.stores_name v p w s o e operands form done) stands plain = stores_name_alike r v p w s o e operands form done stands
    by_op _ (IsReadyOp.forgets_name v w s e operands form) stands plain = forget_name_alike r v w s e operands form stands
    by_op _ (IsReadyOp.groups u e results) stands plain = group_alike r u e results stands
    by_op _ (IsReadyOp.chooses_plain u s k e operands results form at) stands plain = chooses_plain_alike r u s k e operands results form at stands
    by_op _ (IsReadyOp.chooses_full v u s k e operands results form at) stands plain = chooses_full_alike r v u s k e operands results form at stands
    by_op _ (IsReadyOp.member v u s k e operands results form at) stands plain = member_alike r v u s k e operands results form at stands
    by_op _ (IsReadyOp.member_address v u s k e operands results form at) stands plain = member_address_alike r v u s k e operands results form at stands
    by_op _ (IsReadyOp.field_address v u k e operands results at) stands plain = field_address_alike r v u k e operands results at stands
    by_op _ (IsReadyOp.calls c u args g callee e operands results form at bodied) stands plain = absurd (true≢false plain)
    by_op _ (IsReadyOp.calls_out c u args g callee e operands results form at bodiless) stands plain = absurd (true≢false plain)
