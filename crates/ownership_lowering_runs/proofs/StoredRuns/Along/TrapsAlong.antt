-- An instruction that is lowered to itself traps in both runs.
use Rattle.ownership_lowering_runs.specs.StoredRuns.inner.RowsRight.{AreTrapsAlong, TrapRight, is_place_row}
use Rattle.ownership_lowering_runs.proofs.StoredRuns.Along.StaysAlong.{stays_alone, low_data}
use Rattle.sil_cfg_items.specs.Parts.{inst_at}
use Rattle.sil_ast.specs.declared.decl.Storage.TheVariants as storage
use Rattle.sil_verifier_runs.specs.holder_model.declared.trap.Trap.TheVariants as trap
use Rattle.sil_verifier_runs.specs.holder_model.MemoryEffects.{takes, all_live, loaded_name, named_again}
use Rattle.sil_ast.specs.declared.decl.Storage.{Storage}
use Rattle.ownership_lowering_runs.proofs.StoredRuns.Along.PlainAlong.{low_does}
use Rattle.std.proofs.Common.{◌≡◌, ℕ, List, [], ◌∷◌, map, refl, sym, ap, ◌∙◌, subst, Bool, true, false, cond, Option, Some, None, arith, Ok}
use Rattle.std.specs.Prelude.{slice_get}
use Rattle.sil_ast.specs.declared.inst.Inst.{Inst}
use Rattle.sil_ast.specs.declared.place.ValueId.{ValueId}
use Rattle.sil_types_declarations.specs.TypeDefinitions.Declarations.{Declarations, declarations_of}
use Rattle.holder_model_values.specs.RunValues.Memory.{Memory}
use Rattle.holder_model_values.specs.RunValues.Places.{Place, emptied, is_there_at, value_at}
use Rattle.holder_model_values.specs.RunValues.Shapes.{Shape, storage_in}
use Rattle.holder_model_values.specs.RunValues.Values as value
use Rattle.holder_model_values.specs.RunValues.Values.{Value, references_of}
use Rattle.sil_verifier_runs.specs.holder_model.Data.{AddressOf, Datum}
use Rattle.sil_verifier_runs.specs.holder_model.Effects.{Effect, gives_value, effect_of, Traps}
use Rattle.sil_verifier_runs.specs.holder_model.Faults.{HolderFault}
use Rattle.sil_verifier_runs.specs.holder_model.ModuleShapes.{ModuleShapes, shapes_in, shapes_of}
use Rattle.sil_verifier_runs.specs.holder_model.declared.row_effect.RowEffect.TheVariants as row
use Rattle.sil_verifier_runs.specs.holder_model.declared.lowered_run.low_fault.LowFault.{LowFault}
use Rattle.ownership_lowering_laws.specs.ownership_lowering_model.Numbers.{renumbered_inst}
use Rattle.ownership_lowering_runs.specs.StoredRuns.inner.EffectsFor.{IsEffectFor}
use Rattle.ownership_lowering_runs.specs.StoredRuns.inner.Frames.{IsNoAddress}
use Rattle.sil_verifier_runs.specs.holder_model.LoweredRun.LowFrames.{read_all}
use Rattle.numbered_form.specs.Lists.{Each}
use Rattle.sil_ast.specs.declared.function.Function.{Function}
use Rattle.sil_ast.specs.declared.module.Module.{Module}
use Rattle.sil_ast.specs.declared.operands.Operand.{Operand}
use Rattle.sil_cfg.specs.declared.item.Item.TheVariants as item
use Rattle.sil_verifier_runs.specs.holder_model.Frames.{Frame, Operands}
use Rattle.sil_verifier_runs.specs.holder_model.HolderStates.{HolderState}
use Rattle.sil_verifier_runs.specs.holder_model.Standing.{stands_at}
use Rattle.sil_verifier_runs.specs.holder_model.States.{Task, Ends, Trapped}
use Rattle.memory_rules_accesses.specs.declared.access.Operation.{Operation}
use Rattle.sil_verifier_runs.specs.holder_model.LoweredRun.LowEffects.{low_effect}
use Rattle.sil_verifier_runs.specs.holder_model.LoweredRun.LowStepParts.{LowState, values_taken}
use Rattle.sil_verifier_runs.specs.ownership_kinds_origins.Renamings.{renames}
use Rattle.ownership_lowering_runs.specs.StoredRuns.inner.PlaceRows.{StandsAt}
use Rattle.ownership_lowering_runs.proofs.StoredRuns.RowsBehind.{begin, low_shapes, low_told, made, num, stands}
use Rattle.ownership_lowering_runs.proofs.StoredRuns.StandsThere.{reads, exact_read}
use Rattle.ownership_lowering_runs.proofs.StoredRuns.Reading.{taken_renumbered, takes_there}
use Rattle.ownership_lowering_runs.proofs.StoredRuns.StayingSteps.{function_there}
use Rattle.sil_verifier_runs.specs.holder_model.MemoryEffects as holder_effects
use Rattle.memory_rules_accesses.specs.Operations.{access_kind_of, operation_by}
use Rattle.sil_verifier_runs.specs.holder_model.declared.trap.Trap.{Trap}
use Rattle.sil_verifier_runs.specs.holder_model.LoweredRun.LowSteps as steps
use Rattle.ownership_lowering_laws.specs.ownership_lowering_model.LoweredModules.{lowered, lowered_body}
use Rattle.sil_verifier_runs.specs.holder_model_laws.LoweredSteps.inner.LowWays as ways
use Rattle.sil_verifier_runs.proofs.holder_model_laws.LoweredSteps.LowTaken.{told_taken}
use Rattle.ownership_lowering_runs.specs.StoredRuns.inner.Along.{IsNextAlong}
use Rattle.ownership_lowering_runs.specs.StoredRuns.inner.FrameSteps.{StepsAlong}
use Rattle.ownership_lowering_runs.specs.StoredRuns.inner.Runs.{IsEndingFor}
use Rattle.ownership_lowering_runs.proofs.StoredRuns.Along.NamesAlong.{held_after, low_after, low_loads, live_same}

module _ (m : Module) (bound : ℕ) (s : HolderState) (l : LowState) (frame : Frame) (rest : List (Task Frame)) (f : Function) (i : Inst) (ops : Operands)
    (x : StandsAt m s l frame rest f i ops) (alone : made m bound s l frame rest f i ops x ≡ i ∷ []) (keeps : renames i.op ≡ false) (t : Trap) where
  abbrev d : Declarations
  d = declarations_of m

  abbrev told : ModuleShapes
  told = low_told m bound s l frame rest f i ops x

  abbrev shapes : List Shape
  shapes = low_shapes m bound s l frame rest f i ops x

  abbrev number : ValueId → ValueId
  number v = num m bound s l frame rest f i ops x v

  abbrev inst : Inst
  inst = renumbered_inst number i

  abbrev read_low : List Datum
  read_low = low_data m bound s l frame rest f i ops x alone keeps

  abbrev lf : Function
  lf = lowered_body d f

  abbrev counted : LowState
  counted = steps.with_names (lowered m) told bound l x.low inst read_low

  low_here : inst_at lf x.low.at ≡ Some inst
  low_here =
      ap (inst_at lf) x.frames.at
      ∙ stands m bound s l frame rest f i ops x 0 (begin m bound s l frame rest f i ops x) i (ap (λ is. slice_get is 0) alone) (omega arith)

  low_read : read_all x.low.values (values_taken lf (item.Inst x.low.at)) ≡ Ok read_low
  low_read =
      ap (read_all x.low.values) (takes_there lf x.low.at inst low_here ∙ taken_renumbered number i ∙ ap (map number) (sym (takes_there f (stands_at f frame.trail) i x.here)))
      ∙ (reads m s l frame rest f i ops x).read

  pub traps_along : low_effect d told shapes l.memory inst read_low ≡ Traps t → StepsAlong m bound l (Ends (Trapped t) s)
  traps_along eff = record {
    low_next = Ends (Trapped t) counted;
    step =
        told_taken (lowered m) told bound l (Ends (Trapped t) counted)
        (ways.StepsBy.runs x.low x.lrest lf (Ends (Trapped t) counted) x.is_top
        (ap (λ g. slice_get (lowered m).functions g.0) x.frames.function ∙ function_there m bound frame.function.0 f x.there x.lowers.form)
        (ways.Acts.does inst read_low (Ends (Trapped t) counted) low_here low_read
        (subst (λ e. ways.Performs (lowered m) told bound counted x.lrest x.low lf (item.Inst x.low.at) e (Ends (Trapped t) counted)) (sym eff) (ways.Performs.traps t))));
    for = IsNextAlong.ends (Trapped t) s (Trapped t) counted
        (record { events = x.totals.events; ending = IsEndingFor.trapped t; left = refl; retains = x.totals.retains; releases = x.totals.releases });
  }

  -- `cond_fail`
  pub plain_traps : is_place_row (effect_of i.op) ≡ false → Each IsNoAddress ops.given
      → holder_effects.effect d (shapes_of m) (shapes_in (shapes_of m) frame.function) s.memory i ops.given ≡ Traps t → StepsAlong m bound l (Ends (Trapped t) s)
  plain_traps plain none is =
      traps_along
      (ap (low_effect d told shapes l.memory inst) (exact_read m s l frame rest f i ops x none)
      ∙ subst (λ e. IsEffectFor e (low_effect d told shapes l.memory inst ops.given)) is (low_does m bound s l frame rest f i ops x alone keeps plain))

  -- `load_unowned`
  module _ (o : Operand) (y : Place) (one : i.operands ≡ o ∷ []) (given : ops.given ≡ AddressOf y ∷ []) (done : Operation)
      (is_done : operation_by (access_kind_of i.op) i.qualifier ≡ Some done) (there : is_there_at s.memory y ≡ true) where
    abbrev low_behind : Memory
    low_behind = low_after m bound s l frame rest f i ops x alone keeps o y one given done is_done there

    abbrev behind : Memory
    behind = held_after m bound s l frame rest f i ops x alone keeps o y one given done is_done there

    low_traps : (how : Option Storage) (z : Value) → ◌≡◌ {A = Effect HolderFault} (loaded_name how s.memory behind z) (Traps t)
        → ◌≡◌ {A = Effect LowFault} (loaded_name how l.memory low_behind z) (Traps t)
    low_traps None z e = absurd (cc)
    low_traps (Some storage.Strong) z e = absurd (cc)
    low_traps (Some storage.Weak) z e = by (all_live s.memory (references_of z)) e
      where
        by : (b : Bool) → ◌≡◌ {A = Effect HolderFault} (cond b (named_again behind z) (gives_value behind (value.Case 0))) (Traps t)
            → ◌≡◌ {A = Effect LowFault} (loaded_name (Some storage.Weak) l.memory low_behind z) (Traps t)
        by true g = absurd (cc)
        by false g = absurd (cc)
    low_traps (Some storage.Unowned) z e = by (all_live s.memory (references_of z)) refl e
      where
        by : (b : Bool) → all_live s.memory (references_of z) ≡ b → ◌≡◌ {A = Effect HolderFault} (cond b (named_again behind z) (Traps trap.Unowned)) (Traps t)
            → ◌≡◌ {A = Effect LowFault} (cond (all_live l.memory (references_of z)) (named_again low_behind z) (Traps trap.Unowned)) (Traps t)
        by true live g = absurd (cc)
        by false dead g =
            let same : trap.Unowned ≡ t = cc in
            ap (λ b. cond b (named_again low_behind z) (Traps trap.Unowned))
            (live_same m bound s l frame rest f i ops x alone keeps o y one given done is_done there (references_of z) ∙ dead)
            ∙ ap Traps same

    pub name_traps : effect_of i.op ≡ row.LoadsName → (z : Value) → value_at s.memory y ≡ Some z
        → ◌≡◌ {A = Effect HolderFault} (loaded_name (storage_in y.shape) s.memory (cond (takes done) (emptied s.memory y) s.memory) z) (Traps t)
        → StepsAlong m bound l (Ends (Trapped t) s)
    name_traps row_is z held e =
        traps_along (low_loads m bound s l frame rest f i ops x alone keeps o y one given done is_done there z (Traps t) row_is held (low_traps (storage_in y.shape) z e))

pub are_traps_along : AreTrapsAlong
are_traps_along m bound s l frame rest f i ops t x right = by right
  where
    by : TrapRight m s frame i ops t → StepsAlong m bound l (Ends (Trapped t) s)
    by (TrapRight.plain _ is stays keeps plain none) =
        plain_traps m bound s l frame rest f i ops x (stays_alone m bound s l frame rest f i ops x stays) keeps t plain none is
    by (TrapRight.name _ o y done z row_is stays keeps one given there is_done held e) =
        name_traps m bound s l frame rest f i ops x (stays_alone m bound s l frame rest f i ops x stays) keeps t o y one given done is_done there row_is z held e
