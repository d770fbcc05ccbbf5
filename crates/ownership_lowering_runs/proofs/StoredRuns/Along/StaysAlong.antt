-- An instruction that is lowered to itself goes along, where what it does in the lowered run is told.
use Rattle.ownership_lowering_runs.specs.StoredRuns.inner.Frames.{HasFullParts, AreGivenPartsFull}
use Rattle.sil_verifier_runs.specs.holder_model.LoweredRun.LowFrames.{put_all, read_all}
use Rattle.std.proofs.Common.{◌≡◌, ℕ, suc, ◌+◌, List, [], ◌∷◌, map, length, arith, refl, sym, ap, ◌∙◌, subst, false, Ok, ap₂}
use Rattle.std.specs.Prelude.{find, slice_get}
use Rattle.std.specs.List.{list_any}
use Rattle.numbered_form.specs.Lists.{Each}
use Rattle.sil_ast.specs.declared.function.Function.{Function}
use Rattle.sil_ast.specs.declared.inst.Inst.{Inst}
use Rattle.sil_ast.specs.declared.module.Module.{Module}
use Rattle.sil_ast.specs.declared.place.ObjectId.{ObjectId}
use Rattle.sil_ast.specs.declared.place.ValueId.{ValueId}
use Rattle.sil_cfg.specs.declared.item.Item.TheVariants as item
use Rattle.sil_cfg_items.specs.Items.{item_defined}
use Rattle.sil_cfg_items.specs.Roles.{taken_by}
use Rattle.sil_types_declarations.specs.TypeDefinitions.Declarations.{Declarations, declarations_of}
use Rattle.holder_model_values.specs.RunValues.Memory.{Memory, is_dead}
use Rattle.holder_model_values.specs.RunValues.Places.{Place}
use Rattle.sil_verifier_runs.specs.holder_model.Data.{Datum}
use Rattle.sil_verifier_runs.specs.holder_model.Effects.{Change, Makes, result_shape, result_shape_of}
use Rattle.sil_verifier_runs.specs.holder_model.Frames.{Entry, Frame, Operands, results_put}
use Rattle.sil_verifier_runs.specs.holder_model.HolderStates.{HolderState}
use Rattle.sil_verifier_runs.specs.holder_model.ModuleFacts.{facts_of}
use Rattle.sil_verifier_runs.specs.holder_model.ModuleShapes.{ModuleShapes, shapes_in, shapes_of, shape_at}
use Rattle.sil_verifier_runs.specs.holder_model.Standing.{stands_at}
use Rattle.sil_verifier_runs.specs.holder_model.States.{Task}
use Rattle.sil_verifier_runs.specs.holder_model.LoweredRun.LowEffects.{low_effect, stored_behind}
use Rattle.sil_verifier_runs.specs.holder_model.LoweredRun.LowStepParts.{LowState, numbers_for, taken_value, slots_behind}
use Rattle.sil_verifier_runs.specs.holder_model.LoweredRun.Stored.{each_changed, one_more}
use Rattle.sil_verifier_runs.specs.ownership_kinds_origins.Renamings.{renames}
use Rattle.ownership_lowering_laws.specs.ownership_lowering_model.LoweredBlocks.{value_with}
use Rattle.ownership_lowering_laws.specs.ownership_lowering_model.LoweredInsts.{becomes_by, lowering_of}
use Rattle.ownership_lowering_laws.specs.ownership_lowering_model.Numbers.{renumbered_inst}
use Rattle.ownership_lowering_laws.specs.ownership_lowering_model.declared.lowering.Lowering.TheVariants as lowering
use Rattle.sil_verifier_runs.specs.holder_model_laws.HolderLaws.inner.Steps.Ways as holder
use Rattle.ownership_lowering_runs.specs.StoredRuns.inner.Lowering.{IsOwnName}
use Rattle.ownership_lowering_runs.specs.StoredRuns.inner.PlaceRows.{GoesAlong, LowGoes, StandsAt, stored_for}
use Rattle.ownership_lowering_runs.proofs.StoredRuns.RowSteps.{numbers_in_both}
use Rattle.ownership_lowering_runs.proofs.StoredRuns.RowsBehind.{PutsIn, begin, begins, behind_all, end, from, low_shapes, low_told, lowered_to, made, num, one_step, puts_in, stands, waits}
use Rattle.ownership_lowering_runs.proofs.StoredRuns.SameRows.{none_dead}
use Rattle.ownership_lowering_runs.proofs.StoredRuns.StandsThere.{facts, reads}
use Rattle.holder_model_values.specs.RunValues.Shapes.{Shape}
use Rattle.sil_verifier_runs.specs.holder_model.StepParts as parts
use Rattle.ownership_lowering_runs.specs.StoredRuns.inner.EffectsFor.{IsChangeFor}
use Rattle.ownership_lowering_runs.proofs.StoredRuns.Reading.{takes_there}
use Rattle.ownership_lowering_runs.proofs.StoredRuns.StayingSteps.{slots_for}

-- it is so where its row says that it stays
pub stays_alone : (m : Module) (bound : ℕ) (s : HolderState) (l : LowState) (frame : Frame) (rest : List (Task Frame)) (f : Function) (i : Inst) (ops : Operands)
    (x : StandsAt m s l frame rest f i ops) → lowering_of i.op ≡ lowering.Stays → made m bound s l frame rest f i ops x ≡ i ∷ []
stays_alone m bound s l frame rest f i ops x stays =
    ap (λ c. becomes_by (declarations_of m) (value_with (lowered_to m bound s l frame rest f i ops x).spare) c i) stays

module _ (m : Module) (bound : ℕ) (s : HolderState) (l : LowState) (frame : Frame) (rest : List (Task Frame)) (f : Function) (i : Inst) (ops : Operands)
    (x : StandsAt m s l frame rest f i ops) (alone : made m bound s l frame rest f i ops x ≡ i ∷ []) (keeps : renames i.op ≡ false) where
  abbrev d : Declarations
  d = declarations_of m

  abbrev told : ModuleShapes
  told = low_told m bound s l frame rest f i ops x

  abbrev shapes : List Shape
  shapes = low_shapes m bound s l frame rest f i ops x

  abbrev number : ValueId → ValueId
  number v = num m bound s l frame rest f i ops x v

  -- the instruction in the lowered function, and what is read for it
  abbrev pub low_inst : Inst
  low_inst = renumbered_inst number i

  abbrev pub low_data : List Datum
  low_data = (reads m s l frame rest f i ops x).ys

  -- a result has the same shape in both
  pub shape_same : (memory low : Memory) → result_shape d told shapes low low_inst ≡ result_shape d (shapes_of m) (shapes_in (shapes_of m) frame.function) memory i
  shape_same memory low = by i.results (x.lowers.results (stands_at f frame.trail) i x.here keeps)
    where
      by : (rs : List ValueId) → Each (IsOwnName f) rs
          → result_shape_of d told shapes low low_inst (map number rs) ≡ result_shape_of d (shapes_of m) (shapes_in (shapes_of m) frame.function) memory i rs
      by [] h = refl
      by (r ∷ rs) h = ap (λ g. shape_at (shapes_in told g) (number r)) x.frames.function ∙ x.lowers.shapes r h.0.0

  abbrev first : ℕ
  first = begin m bound s l frame rest f i ops x

  module _ (c c' : Change) (so : IsChangeFor c c') (eff : low_effect d told shapes l.memory low_inst low_data ≡ Makes c')
      (alive : list_any (is_dead s.memory) c.retained ≡ false) (slots : List Place) (slots_left : parts.slots_behind c.slots frame.slots ≡ Ok slots) (entries : List Entry)
      (put : results_put (facts m s l frame rest f i ops x) (item_defined f (item.Inst (stands_at f frame.trail))) c.results ops.left ≡ Ok entries)
      (names : stored_behind d told shapes l.memory low_inst low_data l.numbers
      ≡ stored_behind d (shapes_of m) (shapes_in (shapes_of m) frame.function) s.memory i ops.given l.numbers)
      (parts_keep : AreGivenPartsFull d f x.low.values c'.memory)
      (below : Each (HasFullParts m c'.memory) x.lrest) where
    puts : PutsIn m bound s l frame rest f i ops x i.results c.results entries
    puts = puts_in m bound s l frame rest f i ops x i.results c.results entries refl keeps put

    abbrev behind : List ObjectId → ℕ → ℕ → LowState
    behind os n retains =
        waits m bound s l frame rest f i ops x os n puts.values slots c'.memory
        (numbers_for c'.memory (each_changed one_more c'.retained (stored_behind d told shapes l.memory low_inst low_data l.numbers))) retains

    pub stays_along : GoesAlong m bound l
        (holder.moved m (facts_of m) bound s rest (from m bound s l frame rest f i ops x) (item.Inst (stands_at f frame.trail)) c slots entries)
        (stored_for m s frame i ops.given c l.numbers)
    stays_along =
        let last : LowState = behind c.dropped (end m bound s l frame rest f i ops x) (l.retains + length c.retained) in
        let at_end : last ≡ behind c'.dropped (suc first) (l.retains + length c'.retained) =
        ap₂ (λ os n. behind os n (l.retains + length c.retained)) (sym so.dropped)
        ((lowered_to m bound s l frame rest f i ops x).next ∙ ap (λ k. first + k) (ap length alone) ∙ omega arith)
        ∙ ap (λ os. behind c'.dropped (suc first) (l.retains + length os)) (sym so.retained) in
        behind_all m bound s l frame rest f i ops x c slots entries puts.values c'.memory
        (numbers_for c'.memory (each_changed one_more c'.retained (stored_behind d told shapes l.memory low_inst low_data l.numbers)))
        (stored_for m s frame i ops.given c l.numbers)
        (begins m bound s l frame rest f i ops x last
        (one_step m bound s l frame rest f i ops x first x.low.values x.low.slots l.memory l.numbers l.retains i (map taken_value (taken_by i)) low_data c' slots puts.values last
        (stands m bound s l frame rest f i ops x 0 first i (ap (λ is. slice_get is 0) alone) (omega arith)) refl
        (ap (λ vs. read_all x.low.values (map number vs)) (sym (takes_there f (stands_at f frame.trail) i x.here)) ∙ (reads m s l frame rest f i ops x).read)
        eff
        (ap (slots_behind c'.slots) x.frames.slots ∙ ap (λ z. slots_behind z frame.slots) so.slots ∙ slots_for c.slots frame.slots slots slots_left)
        (ap (λ rs. put_all (map number i.results) rs x.low.values) so.results ∙ puts.put)
        (ap (find (is_dead l.memory)) so.retained ∙ none_dead s.memory l.memory x.memory c.retained alive)
        (subst (λ st. LowGoes m bound last st) at_end LowGoes.there)))
        puts.size puts.shown so.memory (puts.parts_in c'.memory parts_keep) below
        (ap (λ ns. numbers_for c'.memory (each_changed one_more c'.retained ns)) names
        ∙ ap (λ os. numbers_for c'.memory (each_changed one_more os (stored_behind d (shapes_of m) (shapes_in (shapes_of m) frame.function) s.memory i ops.given l.numbers))) so.retained
        ∙ numbers_in_both c.memory c'.memory so.memory
        (each_changed one_more c.retained (stored_behind d (shapes_of m) (shapes_in (shapes_of m) frame.function) s.memory i ops.given l.numbers)))
