-- `destroy_addr` at a place that is no storage: the lowered run loads what the place holds, and releases it. The value stays in the place.
use Rattle.ownership_lowering_runs.specs.StoredRuns.inner.Spares.{AreSparesApart}
use Rattle.ownership_lowering_runs.specs.StoredRuns.inner.Frames.{AreValuesFor}
use Rattle.std.proofs.Common.{◌≡◌, ℕ, suc, ◌+◌, List, [], ◌∷◌, length, arith, refl, sym, ap, ◌∙◌, subst, Bool, true, false, cond, Option, Some, None, Ok, ap₂, flat_map, length-set}
use Rattle.std.specs.Prelude.{slice_get}
use Rattle.std.proofs.lemmas.Option.{same_Some}
use Rattle.numbered_form.specs.Lists.{Each}
use Rattle.sil_ast.specs.declared.function.Function.{Function}
use Rattle.sil_ast.specs.declared.inst.Inst.{Inst}
use Rattle.sil_ast.specs.declared.module.Module.{Module}
use Rattle.sil_ast.specs.declared.operands.Operand.{Operand}
use Rattle.sil_ast.specs.declared.place.ObjectId.{ObjectId}
use Rattle.sil_ast.specs.declared.place.ValueId.{ValueId}
use Rattle.sil_cfg.specs.declared.item.Item.TheVariants as item
use Rattle.sil_cfg_items.specs.Items.{item_defined}
use Rattle.sil_types_declarations.specs.TypeDefinitions.Declarations.{Declarations, declarations_of}
use Rattle.holder_model_values.specs.RunValues.Places.{Place, cells_at, emptied, is_there_at, value_at}
use Rattle.holder_model_values.specs.RunValues.Values.{Value, references_of}
use Rattle.sil_verifier_runs.specs.holder_model.Data.{AddressOf, Datum, ValueOf}
use Rattle.sil_verifier_runs.specs.holder_model.Effects.{Change, effect_of, unchanged}
use Rattle.sil_verifier_runs.specs.holder_model.Frames.{Entry, Frame, Operands, results_put}
use Rattle.sil_verifier_runs.specs.holder_model.HolderStates.{HolderState}
use Rattle.sil_verifier_runs.specs.holder_model.MemoryEffects.{takes, references_at}
use Rattle.sil_verifier_runs.specs.holder_model.ModuleFacts.{facts_of}
use Rattle.sil_verifier_runs.specs.holder_model.ModuleShapes.{ModuleShapes, shapes_in, shapes_of}
use Rattle.sil_verifier_runs.specs.holder_model.Standing.{stands_at}
use Rattle.sil_verifier_runs.specs.holder_model.States.{Task}
use Rattle.sil_verifier_runs.specs.holder_model.declared.row_effect.RowEffect.TheVariants as row
use Rattle.memory_rules_accesses.specs.declared.access.Operation.{Operation}
use Rattle.sil_verifier_runs.specs.holder_model.LoweredRun.LowEffects.{operation_done, stored_behind, stored_by}
use Rattle.sil_verifier_runs.specs.holder_model.LoweredRun.LowStepParts.{LowState, numbers_for}
use Rattle.sil_verifier_runs.specs.holder_model.LoweredRun.Stored.{unnamed}
use Rattle.sil_verifier_runs.specs.ownership_kinds_origins.Renamings.{renames}
use Rattle.ownership_lowering_laws.specs.ownership_lowering_model.LoweredInsts.{becomes_by, lowering_of, destroys_by, releases_at}
use Rattle.ownership_lowering_laws.specs.ownership_lowering_model.NewInsts.{loaded_from, load, release}
use Rattle.ownership_lowering_laws.specs.ownership_lowering_model.Numbers.{renumbered_inst}
use Rattle.ownership_lowering_laws.specs.ownership_lowering_model.declared.lowering.Lowering.TheVariants as lowering
use Rattle.sil_verifier_runs.specs.holder_model_laws.HolderLaws.inner.Steps.Ways as holder
use Rattle.ownership_lowering_runs.specs.StoredRuns.inner.Memories.{IsMemoryFor, MayBeTaken}
use Rattle.ownership_lowering_runs.specs.StoredRuns.inner.PlaceRows.{GoesAlong, LowGoes, StandsAt, stored_for}
use Rattle.ownership_lowering_runs.proofs.StoredRuns.MemoriesFor.{place_taken}
use Rattle.ownership_lowering_runs.proofs.StoredRuns.NamedSteps.{release_effect, release_stored, release_takes}
use Rattle.ownership_lowering_runs.proofs.StoredRuns.RowSteps.{numbers_in_both}
use Rattle.ownership_lowering_runs.proofs.StoredRuns.RowsBehind.{PutsIn, begin, begins, behind_all, end, from, low_shapes, low_told, lowered_to, made, num, one_step, puts_in, same_numbers, stands}
use Rattle.ownership_lowering_runs.proofs.StoredRuns.RowsBehind.{waits}
use Rattle.ownership_lowering_runs.proofs.StoredRuns.StandsThere.{PlaceUnder, facts, one_place}
use Rattle.ownership_lowering_runs.proofs.StoredRuns.ValuesFor.{read_so}
use Rattle.holder_model_values.specs.RunValues.Shapes.{Shape}
use Rattle.ownership_lowering_runs.proofs.StoredRuns.FullKept.{same_keeps}
use Rattle.ownership_lowering_runs.proofs.StoredRuns.LoadSteps.{load_effect}
use Rattle.ownership_lowering_runs.proofs.StoredRuns.StrongCells.{none_unnamed}
use Rattle.ownership_lowering_runs.proofs.StoredRuns.Lowered.SpareValues.{parts_still, shown_still, spare, spare_under, with_spare}
use Rattle.sil_verifier_runs.specs.holder_model.LoweredRun.LowEffects as low_effects
use Rattle.sil_types.specs.Typing.FormRules.{is_at_storage}

module _ (m : Module) (bound : ℕ) (s : HolderState) (l : LowState) (frame : Frame) (rest : List (Task Frame)) (f : Function) (i : Inst) (ops : Operands)
    (x : StandsAt m s l frame rest f i ops) (o : Operand) (y : Place) (one : i.operands ≡ o ∷ []) (given : ops.given ≡ AddressOf y ∷ [])
    (none : i.results ≡ []) (row_is : effect_of i.op ≡ row.DestroysPlace) (destroys : lowering_of i.op ≡ lowering.Destroys) (keeps : renames i.op ≡ false)
    (no_storage : is_at_storage i ≡ false) (there : is_there_at s.memory y ≡ true) (z : Value) (held : value_at s.memory y ≡ Some z)
    (its : references_of z ≡ references_at s.memory y) (old : Each MayBeTaken (cells_at s.memory y)) (spares : AreSparesApart (declarations_of m) f) where
  abbrev d : Declarations
  d = declarations_of m

  abbrev told : ModuleShapes
  told = low_told m bound s l frame rest f i ops x

  abbrev shapes : List Shape
  shapes = low_shapes m bound s l frame rest f i ops x

  abbrev number : ValueId → ValueId
  number v = num m bound s l frame rest f i ops x v

  abbrev pub destroyed : Change
  destroyed = record (unchanged (emptied s.memory y)) { dropped = references_at s.memory y }

  u : PlaceUnder m s l frame rest f i ops x o.value y
  u = one_place m s l frame rest f i ops x o y one given

  abbrev v : ValueId
  v = spare m bound s l frame rest f i ops x

  memory_after : IsMemoryFor (emptied s.memory y) l.memory
  memory_after = place_taken s.memory l.memory x.memory y old

  all : made m bound s l frame rest f i ops x ≡ load o v ∷ release d (loaded_from o v) ∷ []
  all =
      ap (λ c. becomes_by d v c i) destroys ∙ ap (λ c. destroys_by d v c i) no_storage
      ∙ ap (λ os. flat_map (releases_at d v) os) one

  is_first : slice_get (made m bound s l frame rest f i ops x) 0 ≡ Some (load o v)
  is_first = ap (λ is. slice_get is 0) all

  abbrev values_1 : List (Option Datum)
  values_1 = with_spare m bound s l frame rest f i ops x spares o is_first z

  abbrev first : ℕ
  first = begin m bound s l frame rest f i ops x

  -- no names cease
  stored_row : stored_behind d (shapes_of m) (shapes_in (shapes_of m) frame.function) s.memory i ops.given l.numbers ≡ l.numbers
  stored_row =
      ap (λ c. stored_by d (shapes_of m) (shapes_in (shapes_of m) frame.function) s.memory i c ops.given l.numbers) row_is
      ∙ ap (λ zs. stored_by d (shapes_of m) (shapes_in (shapes_of m) frame.function) s.memory i row.DestroysPlace zs l.numbers) given
      ∙ by (operation_done d (shapes_of m) (shapes_in (shapes_of m) frame.function) s.memory i)
    where
      taken : (c : Bool) → cond c (unnamed (cells_at s.memory y) l.numbers) l.numbers ≡ l.numbers
      taken true = none_unnamed (cells_at s.memory y) l.numbers old
      taken false = refl

      by : (c : Option Operation) → low_effects.place_taken d (shapes_of m) (shapes_in (shapes_of m) frame.function) s.memory i c (Some y) l.numbers ≡ l.numbers
      by None = refl
      by (Some c) = taken (takes c)

  module _ (entries : List Entry)
      (put : results_put (facts m s l frame rest f i ops x) (item_defined f (item.Inst (stands_at f frame.trail))) [] ops.left ≡ Ok entries) where
    puts : PutsIn m bound s l frame rest f i ops x [] [] entries
    puts = puts_in m bound s l frame rest f i ops x [] [] entries none keeps put

    shown : AreValuesFor d f (item.Inst (stands_at f frame.trail) ∷ frame.trail) entries x.low.values
    shown = subst (AreValuesFor d f (item.Inst (stands_at f frame.trail) ∷ frame.trail) entries) (sym (same_Some x.low.values puts.values puts.put)) puts.shown

    -- behind the release
    abbrev behind : List ObjectId → ℕ → ℕ → LowState
    behind os n retains =
        waits m bound s l frame rest f i ops x os n values_1 x.low.slots l.memory
        (numbers_for l.memory (stored_behind d told shapes l.memory (renumbered_inst number (release d (loaded_from o v))) (ValueOf z ∷ []) (numbers_for l.memory l.numbers))) retains

    pub destroy_along : GoesAlong m bound l
        (holder.moved m (facts_of m) bound s rest (from m bound s l frame rest f i ops x) (item.Inst (stands_at f frame.trail)) destroyed x.low.slots entries)
        (stored_for m s frame i ops.given destroyed l.numbers)
    destroy_along =
        let last : LowState = behind destroyed.dropped (end m bound s l frame rest f i ops x) (l.retains + 0) in
        let at_end : last ≡ behind (references_of z) (suc (suc first)) (l.retains + 0 + 0) =
        ap₂ (λ os n. behind os n (l.retains + 0)) (sym its) ((lowered_to m bound s l frame rest f i ops x).next ∙ ap (λ k. first + k) (ap length all) ∙ omega arith)
        ∙ ap (behind (references_of z) (suc (suc first))) (omega arith) in
        behind_all m bound s l frame rest f i ops x destroyed x.low.slots entries values_1 l.memory
        (numbers_for l.memory (stored_behind d told shapes l.memory (renumbered_inst number (release d (loaded_from o v))) (ValueOf z ∷ []) (numbers_for l.memory l.numbers)))
        (stored_for m s frame i ops.given destroyed l.numbers)
        (begins m bound s l frame rest f i ops x last
        (one_step m bound s l frame rest f i ops x first x.low.values x.low.slots l.memory l.numbers l.retains (load o v) (o.value ∷ []) (AddressOf u.place ∷ [])
        (record (unchanged l.memory) { results = ValueOf z ∷ [] }) x.low.slots values_1 last
        (stands m bound s l frame rest f i ops x 0 first (load o v) is_first (omega arith)) refl
        (read_so x.low.values (number o.value ∷ []) (AddressOf u.place ∷ []) (u.under, tt))
        (load_effect m bound s l frame rest f i ops x o.value y u (renumbered_inst number (load o v)) z refl refl there held) refl refl refl
        (one_step m bound s l frame rest f i ops x (suc first) values_1 x.low.slots l.memory (numbers_for l.memory l.numbers) (l.retains + 0) (release d (loaded_from o v))
        (v ∷ []) (ValueOf z ∷ []) (record (unchanged l.memory) { dropped = references_of z }) x.low.slots values_1 last
        (stands m bound s l frame rest f i ops x 1 (suc first) (release d (loaded_from o v)) (ap (λ is. slice_get is 1) all) (omega arith))
        (release_takes d (loaded_from o v))
        (read_so values_1 (number v ∷ []) (ValueOf z ∷ []) (spare_under m bound s l frame rest f i ops x spares o is_first z, tt))
        (release_effect d (loaded_from o v) number told shapes l.memory (ValueOf z)) refl refl refl
        (subst (λ st. LowGoes m bound last st) at_end LowGoes.there))))
        (length-set x.low.values (number v).0 (Some (ValueOf z)))
        (shown_still m bound s l frame rest f i ops x spares o is_first z (item.Inst (stands_at f frame.trail) ∷ frame.trail) entries shown) memory_after
        (parts_still m bound s l frame rest f i ops x spares o is_first z l.memory (same_keeps l.memory)) x.full.1
        (ap (numbers_for l.memory) (release_stored d (loaded_from o v) number told shapes l.memory (ValueOf z) (numbers_for l.memory l.numbers) ∙ same_numbers m bound s l frame rest f i ops x)
        ∙ numbers_in_both (emptied s.memory y) l.memory memory_after l.numbers ∙ ap (numbers_for (emptied s.memory y)) (sym stored_row))
