-- Rows that give another name to a value, copy or destroy it, with the parts that frames were given: none or one step of the lowered run.
use Rattle.ownership_lowering_runs.specs.StoredRuns.inner.Frames.{AreValuesFor}
use Rattle.sil_verifier_runs.specs.holder_model.LoweredRun.LowFrames.{put_all}
use Rattle.std.proofs.Common.{◌≡◌, ℕ, ◌+◌, List, [], ◌∷◌, map, length, arith, refl, sym, ap, ◌∙◌, subst, true, false, Some, Ok, ap₂}
use Rattle.std.specs.Prelude.{slice_get}
use Rattle.std.specs.List.{list_any}
use Rattle.numbered_form.specs.Lists.{Each}
use Rattle.sil_ast.specs.declared.function.Function.{Function}
use Rattle.sil_ast.specs.declared.inst.Inst.{Inst}
use Rattle.sil_ast.specs.declared.module.Module.{Module}
use Rattle.sil_ast.specs.declared.operands.Operand.{Operand}
use Rattle.sil_ast.specs.declared.place.ObjectId.{ObjectId}
use Rattle.sil_ast.specs.declared.place.ValueId.{ValueId}
use Rattle.sil_cfg.specs.declared.item.Item.TheVariants as item
use Rattle.sil_cfg_items.specs.Items.{item_defined}
use Rattle.sil_cfg_items.specs.Roles.{taken_by}
use Rattle.sil_types_declarations.specs.TypeDefinitions.Declarations.{Declarations, declarations_of}
use Rattle.holder_model_values.specs.RunValues.Memory.{Memory, is_dead}
use Rattle.holder_model_values.specs.RunValues.Values.{Value, references_of}
use Rattle.sil_verifier_runs.specs.holder_model.Data.{ValueOf}
use Rattle.sil_verifier_runs.specs.holder_model.Effects.{Change, Makes, effect_of, unchanged}
use Rattle.sil_verifier_runs.specs.holder_model.Frames.{Entry, Frame, Operands, results_put}
use Rattle.sil_verifier_runs.specs.holder_model.HolderStates.{HolderState}
use Rattle.sil_verifier_runs.specs.holder_model.MemoryEffects.{takes}
use Rattle.sil_verifier_runs.specs.holder_model.ModuleFacts.{facts_of}
use Rattle.sil_verifier_runs.specs.holder_model.ModuleShapes.{ModuleShapes, shapes_in, shapes_of}
use Rattle.sil_verifier_runs.specs.holder_model.Outcomes.{Numbers}
use Rattle.sil_verifier_runs.specs.holder_model.Standing.{stands_at}
use Rattle.sil_verifier_runs.specs.holder_model.States.{Task}
use Rattle.sil_verifier_runs.specs.holder_model.declared.row_effect.RowEffect.TheVariants as row
use Rattle.sil_verifier_runs.specs.holder_model.LoweredRun.LowEffects.{low_effect, stored_behind, stored_by}
use Rattle.sil_verifier_runs.specs.holder_model.LoweredRun.LowFrames as low_frames
use Rattle.sil_verifier_runs.specs.holder_model.LoweredRun.LowStepParts.{LowState, numbers_for, taken_value}
use Rattle.sil_verifier_runs.specs.holder_model.LoweredRun.Stored.{each_changed, one_more}
use Rattle.sil_verifier_runs.specs.ownership_kinds_origins.Renamings.{renames}
use Rattle.ownership_lowering_laws.specs.ownership_lowering_model.LoweredBlocks.{value_with}
use Rattle.ownership_lowering_laws.specs.ownership_lowering_model.LoweredInsts.{becomes_by, lowering_of}
use Rattle.ownership_lowering_laws.specs.ownership_lowering_model.NewInsts.{retain, release}
use Rattle.ownership_lowering_laws.specs.ownership_lowering_model.Numbers.{renumbered_inst}
use Rattle.ownership_lowering_laws.specs.ownership_lowering_model.declared.lowering.Lowering.TheVariants as lowering
use Rattle.sil_verifier_runs.specs.holder_model_laws.HolderLaws.inner.Steps.Ways as holder
use Rattle.ownership_lowering_runs.specs.StoredRuns.inner.Lowering.{IsOtherName}
use Rattle.ownership_lowering_runs.specs.StoredRuns.inner.Memories.{IsMemoryFor}
use Rattle.ownership_lowering_runs.specs.StoredRuns.inner.PlaceRows.{GoesAlong, LowGoes, StandsAt, stored_for}
use Rattle.ownership_lowering_runs.proofs.StoredRuns.NamedSteps.{retain_effect, retain_stored, retain_takes, release_effect, release_stored, release_takes}
use Rattle.ownership_lowering_runs.proofs.StoredRuns.RowSteps.{numbers_in_both}
use Rattle.ownership_lowering_runs.proofs.StoredRuns.RowsBehind.{begin, begins, behind_all, end, from, low_shapes, low_told, lowered_to, made, num, one_step, same_numbers, stands, waits, shown_left}
use Rattle.ownership_lowering_runs.proofs.StoredRuns.SameRows.{none_dead}
use Rattle.ownership_lowering_runs.proofs.StoredRuns.StandsThere.{facts, given_parts, one_value}
use Rattle.ownership_lowering_runs.proofs.StoredRuns.ValuesFor.{read_so, ok-ok}
use Rattle.holder_model_values.specs.RunValues.Shapes.{Shape}
use Rattle.ownership_lowering_runs.proofs.StoredRuns.Reading.{behind_nothing, behind_renamed, defines_there}
use Rattle.sil_verifier_runs.specs.holder_model.declared.row_effect.RowEffect.{RowEffect}

module _ (m : Module) (bound : ℕ) (s : HolderState) (l : LowState) (frame : Frame) (rest : List (Task Frame)) (f : Function) (i : Inst) (ops : Operands)
    (x : StandsAt m s l frame rest f i ops) where
  abbrev d : Declarations
  d = declarations_of m

  abbrev told : ModuleShapes
  told = low_told m bound s l frame rest f i ops x

  abbrev shapes : List Shape
  shapes = low_shapes m bound s l frame rest f i ops x

  abbrev number : ValueId → ValueId
  number v = num m bound s l frame rest f i ops x v

  abbrev first : ℕ
  first = begin m bound s l frame rest f i ops x

  abbrev Put : Change → List Entry → Type 0
  Put c entries = results_put (facts m s l frame rest f i ops x) (item_defined f (item.Inst (stands_at f frame.trail))) c.results ops.left ≡ Ok entries

  abbrev Shown : List Entry → Type 0
  Shown entries = AreValuesFor d f (item.Inst (stands_at f frame.trail) ∷ frame.trail) entries x.low.values

  abbrev Goal : Change → List Entry → Type 0
  Goal c entries =
      GoesAlong m bound l
      (holder.moved m (facts_of m) bound s rest (from m bound s l frame rest f i ops x) (item.Inst (stands_at f frame.trail)) c x.low.slots entries)
      (stored_for m s frame i ops.given c l.numbers)

  abbrev at_state : List ObjectId → ℕ → List Numbers → ℕ → LowState
  at_state os n ns retains = waits m bound s l frame rest f i ops x os n x.low.values x.low.slots l.memory ns retains

  -- the lowered run makes no step
  vanishes : (c : Change) → c.dropped ≡ [] → c.retained ≡ [] → c.memory ≡ s.memory → made m bound s l frame rest f i ops x ≡ []
      → stored_behind d (shapes_of m) (shapes_in (shapes_of m) frame.function) s.memory i ops.given l.numbers ≡ l.numbers → (entries : List Entry) → Shown entries → Goal c entries
  vanishes c none_dropped none_made same_memory none stored entries shown =
      let last : LowState = at_state c.dropped (end m bound s l frame rest f i ops x) l.numbers (l.retains + length c.retained) in
      behind_all m bound s l frame rest f i ops x c x.low.slots entries x.low.values l.memory l.numbers (stored_for m s frame i ops.given c l.numbers)
      (begins m bound s l frame rest f i ops x last
      (subst (λ st. LowGoes m bound last st)
      (ap₂ (λ os n. at_state os n l.numbers (l.retains + length c.retained)) none_dropped
      ((lowered_to m bound s l frame rest f i ops x).next ∙ ap (λ k. first + k) (ap length none) ∙ omega arith)
      ∙ ap (λ k. at_state [] first l.numbers k) (ap (λ os. l.retains + length os) none_made ∙ omega arith)) LowGoes.there))
      refl shown (subst (λ z. IsMemoryFor z l.memory) (sym same_memory) x.memory) (given_parts m s l frame rest f i ops x) x.full.1
      (sym (same_numbers m bound s l frame rest f i ops x) ∙ numbers_in_both s.memory l.memory x.memory l.numbers ∙ ap (λ z. numbers_for z l.numbers) (sym same_memory)
      ∙ ap₂ (λ os ns. numbers_for c.memory (each_changed one_more os ns)) (sym none_made) (sym stored))

  -- one instruction counts references
  counts : (c : Change) (j : Inst) (v : ValueId) (w : Value) → c.memory ≡ s.memory → made m bound s l frame rest f i ops x ≡ j ∷ [] → map taken_value (taken_by j) ≡ v ∷ [] → j.results ≡ []
      → low_frames.value_at x.low.values (number v) ≡ Some (ValueOf w)
      → low_effect d told shapes l.memory (renumbered_inst number j) (ValueOf w ∷ []) ≡ Makes (record (unchanged l.memory) { dropped = c.dropped; retained = c.retained })
      → stored_behind d told shapes l.memory (renumbered_inst number j) (ValueOf w ∷ []) l.numbers ≡ l.numbers
      → list_any (is_dead s.memory) c.retained ≡ false
      → stored_behind d (shapes_of m) (shapes_in (shapes_of m) frame.function) s.memory i ops.given l.numbers ≡ l.numbers → (entries : List Entry) → Shown entries → Goal c entries
  counts c j v w same_memory alone takes none under eff low_stored alive stored entries shown =
      let behind : List Numbers = numbers_for l.memory (each_changed one_more c.retained (stored_behind d told shapes l.memory (renumbered_inst number j) (ValueOf w ∷ []) l.numbers)) in
      let last : LowState = at_state c.dropped (end m bound s l frame rest f i ops x) behind (l.retains + length c.retained) in
      behind_all m bound s l frame rest f i ops x c x.low.slots entries x.low.values l.memory behind (stored_for m s frame i ops.given c l.numbers)
      (begins m bound s l frame rest f i ops x last
      (one_step m bound s l frame rest f i ops x first x.low.values x.low.slots l.memory l.numbers l.retains j (v ∷ []) (ValueOf w ∷ [])
      (record (unchanged l.memory) { dropped = c.dropped; retained = c.retained }) x.low.slots x.low.values last
      (stands m bound s l frame rest f i ops x 0 first j (ap (λ is. slice_get is 0) alone) (omega arith)) takes
      (read_so x.low.values (number v ∷ []) (ValueOf w ∷ []) (under, tt)) eff refl (ap (λ rs. put_all (map number rs) [] x.low.values) none)
      (none_dead s.memory l.memory x.memory c.retained alive)
      (subst (λ st. LowGoes m bound last st)
      (ap (λ n. at_state c.dropped n behind (l.retains + length c.retained))
      ((lowered_to m bound s l frame rest f i ops x).next ∙ ap (λ k. first + k) (ap length alone) ∙ omega arith)) LowGoes.there)))
      refl shown (subst (λ z. IsMemoryFor z l.memory) (sym same_memory) x.memory) (given_parts m s l frame rest f i ops x) x.full.1
      (ap (λ ns. numbers_for l.memory (each_changed one_more c.retained ns)) low_stored
      ∙ numbers_in_both s.memory l.memory x.memory (each_changed one_more c.retained l.numbers)
      ∙ ap₂ (λ z ns. numbers_for z (each_changed one_more c.retained ns)) (sym same_memory) (sym stored))

  -- ---- the rows

  stored_plain : (r : RowEffect) → effect_of i.op ≡ r
      → ((memory : Memory) → stored_by d (shapes_of m) (shapes_in (shapes_of m) frame.function) memory i r ops.given l.numbers ≡ l.numbers)
      → stored_behind d (shapes_of m) (shapes_in (shapes_of m) frame.function) s.memory i ops.given l.numbers ≡ l.numbers
  stored_plain r row_is h = ap (λ z. stored_by d (shapes_of m) (shapes_in (shapes_of m) frame.function) s.memory i z ops.given l.numbers) row_is ∙ h s.memory

  abbrev spare_of : ValueId
  spare_of = value_with (lowered_to m bound s l frame rest f i ops x).spare

  -- `end_borrow`
  pub ending_along : effect_of i.op ≡ row.NoEffect → lowering_of i.op ≡ lowering.Vanishes → i.results ≡ [] → (entries : List Entry) → Put (unchanged s.memory) entries
      → Goal (unchanged s.memory) entries
  ending_along row_is gone none entries put =
      vanishes (unchanged s.memory) refl refl refl (ap (λ z. becomes_by d spare_of z i) gone) (stored_plain row.NoEffect row_is (λ memory. refl)) entries
      (subst Shown (ok-ok ops.left entries (ap (λ rs. results_put (facts m s l frame rest f i ops x) rs [] ops.left) (sym defined) ∙ put))
      (behind_nothing d f x.lowers.named frame.trail (item.Inst (stands_at f frame.trail)) defined ops.left x.low.values (shown_left m bound s l frame rest f i ops x)))
    where
      defined : item_defined f (item.Inst (stands_at f frame.trail)) ≡ []
      defined = defines_there f (stands_at f frame.trail) i x.here ∙ none

  module _ (o : Operand) (w : Value) (one : i.operands ≡ o ∷ []) (given : ops.given ≡ ValueOf w ∷ []) where
    under : low_frames.value_at x.low.values (number o.value) ≡ Some (ValueOf w)
    under = (one_value m s l frame rest f i ops x o w one given).under

    shown_named : (r : ValueId) → i.results ≡ r ∷ [] → renames i.op ≡ true → (entries : List Entry)
        → results_put (facts m s l frame rest f i ops x) (item_defined f (item.Inst (stands_at f frame.trail))) (ValueOf w ∷ []) ops.left ≡ Ok entries → Shown entries
    shown_named r result renamed entries put =
        behind_renamed d f x.lowers.named (facts m s l frame rest f i ops x) frame.trail (item.Inst (stands_at f frame.trail)) r (ValueOf w) defined ops.left entries x.low.values
        (ap (λ rs. results_put (facts m s l frame rest f i ops x) rs (ValueOf w ∷ []) ops.left) (sym defined) ∙ put)
        (ap (low_frames.value_at x.low.values) other.0.1 ∙ under) (shown_left m bound s l frame rest f i ops x)
      where
        defined : item_defined f (item.Inst (stands_at f frame.trail)) ≡ r ∷ []
        defined = defines_there f (stands_at f frame.trail) i x.here ∙ result

        other : Each (IsOtherName d f o.value) (r ∷ [])
        other = subst (Each (IsOtherName d f o.value)) result (x.lowers.renamed (stands_at f frame.trail) i o x.here renamed one)

    -- `move_value`, `begin_borrow`
    pub renaming_along : effect_of i.op ≡ row.GivesOperand → lowering_of i.op ≡ lowering.Vanishes → (r : ValueId) → i.results ≡ r ∷ [] → renames i.op ≡ true
        → (entries : List Entry) → Put (record (unchanged s.memory) { results = ValueOf w ∷ [] }) entries → Goal (record (unchanged s.memory) { results = ValueOf w ∷ [] }) entries
    renaming_along row_is gone r result renamed entries put =
        vanishes (record (unchanged s.memory) { results = ValueOf w ∷ [] }) refl refl refl (ap (λ z. becomes_by d spare_of z i) gone)
        (stored_plain row.GivesOperand row_is (λ memory. refl)) entries (shown_named r result renamed entries put)

    -- `copy_value`
    pub copying_along : effect_of i.op ≡ row.CopiesOperand → lowering_of i.op ≡ lowering.Retains → (r : ValueId) → i.results ≡ r ∷ [] → renames i.op ≡ true
        → list_any (is_dead s.memory) (references_of w) ≡ false → (entries : List Entry) → Put (record (unchanged s.memory) { results = ValueOf w ∷ []; retained = references_of w }) entries
        → Goal (record (unchanged s.memory) { results = ValueOf w ∷ []; retained = references_of w }) entries
    copying_along row_is kept r result renamed alive entries put =
        counts (record (unchanged s.memory) { results = ValueOf w ∷ []; retained = references_of w }) (retain d o) o.value w refl
        (ap (λ z. becomes_by d spare_of z i) kept ∙ ap (map (retain d)) one) (retain_takes d o) refl under
        (retain_effect d o number told shapes l.memory (ValueOf w)) (retain_stored d o number told shapes l.memory (ValueOf w) l.numbers) alive
        (stored_plain row.CopiesOperand row_is (λ memory. refl)) entries (shown_named r result renamed entries put)

    -- `destroy_value`
    pub destroying_along : effect_of i.op ≡ row.DropsOperand → lowering_of i.op ≡ lowering.Releases → i.results ≡ [] → (entries : List Entry)
        → Put (record (unchanged s.memory) { dropped = references_of w }) entries → Goal (record (unchanged s.memory) { dropped = references_of w }) entries
    destroying_along row_is released none entries put =
        counts (record (unchanged s.memory) { dropped = references_of w }) (release d o) o.value w refl
        (ap (λ z. becomes_by d spare_of z i) released ∙ ap (map (release d)) one) (release_takes d o) refl under
        (release_effect d o number told shapes l.memory (ValueOf w)) (release_stored d o number told shapes l.memory (ValueOf w) l.numbers) refl
        (stored_plain row.DropsOperand row_is (λ memory. refl)) entries
        (subst Shown (ok-ok ops.left entries (ap (λ rs. results_put (facts m s l frame rest f i ops x) rs [] ops.left) (sym defined) ∙ put))
        (behind_nothing d f x.lowers.named frame.trail (item.Inst (stands_at f frame.trail)) defined ops.left x.low.values (shown_left m bound s l frame rest f i ops x)))
      where
        defined : item_defined f (item.Inst (stands_at f frame.trail)) ≡ []
        defined = defines_there f (stands_at f frame.trail) i x.here ∙ none
