-- `store`: the lowered run stores, and `[assign]` loads what the place held before, and releases it behind the store.
use Rattle.ownership_lowering_runs.proofs.StoredRuns.Lowered.SpareValues.{parts_still, shown_still, spare_under, stays_under, with_spare}
use Rattle.ownership_lowering_runs.specs.StoredRuns.inner.Names.{IsOld}
use Rattle.ownership_lowering_runs.specs.StoredRuns.inner.Spares.{AreSparesApart}
use Rattle.std.proofs.lemmas.Bool.{cases_Bool}
use Rattle.ownership_lowering_runs.specs.StoredRuns.inner.Frames.{AreValuesFor, HasFullParts}
use Rattle.sil_verifier_runs.specs.holder_model.LoweredRun.LowFrames.{put_all}
use Rattle.std.proofs.Common.{◌≡◌, ℕ, suc, ◌+◌, List, [], ◌∷◌, map, length, arith, refl, sym, ap, ◌∙◌, subst}
use Rattle.std.proofs.Common.{Bool, true, false, cond, Option, Some, None, Ok, ap₂, not, ◌⊎◌, inl, inr, ◌||◌, length-set}
use Rattle.std.specs.Prelude.{is_some, slice_get}
use Rattle.std.proofs.lemmas.Option.{same_Some}
use Rattle.instruction_table.specs.Forms.{roles_of}
use Rattle.instruction_table.specs.declared.op.Op.TheVariants as op
use Rattle.numbered_form.specs.Lists.{Each}
use Rattle.sil_ast.specs.declared.function.Function.{Function}
use Rattle.sil_ast.specs.declared.inst.Inst.{Inst}
use Rattle.sil_ast.specs.declared.inst.Qualifier.TheVariants as word
use Rattle.sil_ast.specs.declared.module.Module.{Module}
use Rattle.sil_ast.specs.declared.operands.Operand.{Operand}
use Rattle.sil_ast.specs.declared.place.ObjectId.{ObjectId}
use Rattle.sil_ast.specs.declared.place.ValueId.{ValueId}
use Rattle.sil_cfg.specs.declared.item.Item.TheVariants as item
use Rattle.sil_cfg_items.specs.Items.{item_defined}
use Rattle.sil_cfg_items.specs.Roles.{conventions_in, roles_for, taken_by, taken_each}
use Rattle.sil_types_declarations.specs.TypeDefinitions.Declarations.{Declarations, declarations_of}
use Rattle.holder_model_values.specs.RunValues.Memory.{Memory}
use Rattle.holder_model_values.specs.RunValues.Places.{Place, cells_at, is_there_at, value_at, Home, Inside, OnStack, with_home_cells, filled}
use Rattle.holder_model_values.specs.RunValues.Values.{Value, references_of}
use Rattle.sil_verifier_runs.specs.holder_model.Data.{AddressOf, Datum, ValueOf}
use Rattle.sil_verifier_runs.specs.holder_model.Effects.{Change, Makes, effect_of, unchanged}
use Rattle.sil_verifier_runs.specs.holder_model.Frames.{Entry, Frame, Operands, results_put}
use Rattle.sil_verifier_runs.specs.holder_model.HolderStates.{HolderState}
use Rattle.sil_verifier_runs.specs.holder_model.MemoryEffects.{references_at}
use Rattle.sil_verifier_runs.specs.holder_model.ModuleFacts.{facts_of}
use Rattle.sil_verifier_runs.specs.holder_model.ModuleShapes.{ModuleShapes, shapes_in, shapes_of}
use Rattle.sil_verifier_runs.specs.holder_model.Outcomes.{Numbers}
use Rattle.sil_verifier_runs.specs.holder_model.Standing.{stands_at}
use Rattle.sil_verifier_runs.specs.holder_model.States.{Task}
use Rattle.memory_rules_accesses.specs.declared.access.Operation.{Operation}
use Rattle.sil_verifier_runs.specs.holder_model.LoweredRun.LowEffects.{low_effect, operation_done, stored_behind, stored_by, accessed, both_stored, is_first_write, value_stored}
use Rattle.sil_verifier_runs.specs.holder_model.LoweredRun.LowFrames as low_frames
use Rattle.sil_verifier_runs.specs.holder_model.LoweredRun.LowStepParts.{LowState, numbers_for, taken_value}
use Rattle.sil_verifier_runs.specs.holder_model.LoweredRun.Stored.{unnamed}
use Rattle.sil_verifier_runs.specs.ownership_kinds_origins.Renamings.{renames}
use Rattle.ownership_lowering_laws.specs.ownership_lowering_model.LoweredBlocks.{value_with}
use Rattle.ownership_lowering_laws.specs.ownership_lowering_model.LoweredInsts.{plain_store}
use Rattle.ownership_lowering_laws.specs.ownership_lowering_model.NewInsts.{loaded_from, load, release}
use Rattle.ownership_lowering_laws.specs.ownership_lowering_model.Numbers.{renumbered_inst}
use Rattle.sil_verifier_runs.specs.holder_model_laws.HolderLaws.inner.Steps.Ways as holder
use Rattle.ownership_lowering_runs.specs.StoredRuns.inner.Memories.{IsMemoryFor, MayBeTaken}
use Rattle.ownership_lowering_runs.specs.StoredRuns.inner.PlaceRows.{GoesAlong, LowGoes, StandsAt, operand_value, stored_for}
use Rattle.ownership_lowering_runs.proofs.StoredRuns.MemoriesFor.{place_filled, place_for}
use Rattle.ownership_lowering_runs.proofs.StoredRuns.NamedSteps.{release_effect, release_stored, release_takes}
use Rattle.ownership_lowering_runs.proofs.StoredRuns.RowSteps.{numbers_in_both, as_many_objects, numbers_stay, parts_kept}
use Rattle.ownership_lowering_runs.proofs.StoredRuns.RowsBehind.{PutsIn, accessed_so, begin, begins, behind_all, end, from, low_shapes, low_told, lowered_to, made, num, one_step, puts_in}
use Rattle.ownership_lowering_runs.proofs.StoredRuns.RowsBehind.{same_numbers, stands, waits}
use Rattle.ownership_lowering_runs.proofs.StoredRuns.StandsThere.{PlaceUnder, facts, given_parts, operands_old, ValueUnder, value_and_place_under}
use Rattle.ownership_lowering_runs.proofs.StoredRuns.ValuesFor.{read_so}
use Rattle.holder_model_values.specs.RunValues.Cells.{Cell, in_cells}
use Rattle.holder_model_values.specs.RunValues.Shapes.{Shape, storage_in}
use Rattle.ownership_lowering_runs.proofs.StoredRuns.FullKept.{filling_keeps}
use Rattle.ownership_lowering_runs.proofs.StoredRuns.LoadSteps.{load_effect, read_below, there_below}
use Rattle.ownership_lowering_runs.proofs.StoredRuns.StrongCells.{none_named, none_unnamed, strong_low}

-- the operands of a store
pub store_takes : (i : Inst) (a b : Operand) → i.operands ≡ a ∷ b ∷ []
    → map taken_value (taken_by (record i { op = op.Store; qualifier = word.Plain })) ≡ a.value ∷ b.value ∷ []
store_takes i a b both = ap (λ os. map taken_value (taken_each os (roles_for (roles_of op.Store) (conventions_in i) (length os)))) both

module _ (m : Module) (bound : ℕ) (s : HolderState) (l : LowState) (frame : Frame) (rest : List (Task Frame)) (f : Function) (i : Inst) (ops : Operands)
    (x : StandsAt m s l frame rest f i ops) (a b : Operand) (w : Value) (y : Place) (both : i.operands ≡ a ∷ b ∷ []) (given : ops.given ≡ ValueOf w ∷ AddressOf y ∷ [])
    (none : i.results ≡ []) (is_op : i.op ≡ op.Store) (bare : storage_in y.shape ≡ None) (there : is_there_at s.memory y ≡ true)
    (part : y.is_part ≡ true → is_some (value_at s.memory y) ≡ true) (new : Each MayBeTaken ((in_cells y.shape).cells w)) (old : Each MayBeTaken (cells_at s.memory y)) where
  abbrev d : Declarations
  d = declarations_of m

  abbrev told : ModuleShapes
  told = low_told m bound s l frame rest f i ops x

  abbrev shapes : List Shape
  shapes = low_shapes m bound s l frame rest f i ops x

  abbrev number : ValueId → ValueId
  number v = num m bound s l frame rest f i ops x v

  abbrev stored : Change
  stored = record (unchanged (filled s.memory y w)) { dropped = references_at s.memory y }

  under : ValueUnder m s l frame rest f i ops x a.value w × PlaceUnder m s l frame rest f i ops x b.value y
  under = value_and_place_under m s l frame rest f i ops x a b w y both given

  abbrev q : Place
  q = under.1.place

  -- ---- what it does

  full_below : q.is_part ≡ true → is_some (value_at l.memory q) ≡ true
  full_below low_part = by (cases_Bool y.is_part)
    where
      some : (o : Option Value) → value_at s.memory y ≡ o → is_some o ≡ true → is_some (value_at l.memory q) ≡ true
      some None e h = absurd (cc)
      some (Some z) e h = ap is_some (read_below m bound s l frame rest f i ops x b.value y under.1 z e)

      by : (y.is_part ≡ true) ⊎ (y.is_part ≡ false) → is_some (value_at l.memory q) ≡ true
      by (inl is) = some (value_at s.memory y) refl (part is)
      by (inr other) = under.1.part_full low_part other

  bare_below : storage_in q.shape ≡ None
  bare_below = ap (λ (z : Place). storage_in z.shape) under.1.same ∙ bare

  abbrev store : Inst
  store = record i { op = op.Store; qualifier = word.Plain }

  store_effect : low_effect d told shapes l.memory (renumbered_inst number store) (ValueOf w ∷ AddressOf q ∷ []) ≡ Makes (unchanged (filled l.memory q w))
  store_effect =
      ap (λ o. accessed d told shapes l.memory (renumbered_inst number store) q (cond (is_some o) (references_of w) []) (cond (is_some o) true q.is_part) (Makes (unchanged
      (filled l.memory q w)))) bare_below
      ∙ accessed_so d told shapes l.memory (renumbered_inst number store) q [] q.is_part (Makes (unchanged (filled l.memory q w)))
      (there_below m bound s l frame rest f i ops x b.value y under.1 there) refl under.1.alive (ok q.is_part refl)
    where
      ok : (c : Bool) → q.is_part ≡ c → (not c || is_some (value_at l.memory q)) ≡ true
      ok true e = full_below e
      ok false e = refl

  -- no storage is at the place: no names begin or cease
  low_new : Each MayBeTaken ((in_cells q.shape).cells w)
  low_new = subst (λ (z : Place). Each MayBeTaken ((in_cells z.shape).cells w)) (sym under.1.same) new

  low_old : Each MayBeTaken (cells_at l.memory q)
  low_old =
      subst (λ (z : Place). Each MayBeTaken (cells_at l.memory z)) (sym under.1.same)
      (strong_low (cells_at s.memory y) (cells_at l.memory y) (place_for s.memory l.memory x.memory y) old)

  none_stored : (told' : ModuleShapes) (shapes' : List Shape) (memory : Memory) (j : Inst) (p : Place) (ns : List Numbers) → Each MayBeTaken ((in_cells p.shape).cells w)
      → Each MayBeTaken (cells_at memory p) → (o : Option Operation) → value_stored d told' shapes' memory j o (Some w) (Some p) ns ≡ ns
  none_stored told' shapes' memory j p ns h k None = refl
  none_stored told' shapes' memory j p ns h k (Some o) = none_named ((in_cells p.shape).cells w) (cond (is_first_write o) ns (unnamed (cells_at memory p) ns)) h ∙ by (is_first_write o)
    where
      by : (c : Bool) → cond c ns (unnamed (cells_at memory p) ns) ≡ ns
      by true = refl
      by false = none_unnamed (cells_at memory p) ns k

  low_stored : (ns : List Numbers) → stored_behind d told shapes l.memory (renumbered_inst number store) (ValueOf w ∷ AddressOf q ∷ []) ns ≡ ns
  low_stored ns = none_stored told shapes l.memory (renumbered_inst number store) q ns low_new low_old (operation_done d told shapes l.memory (renumbered_inst number store))

  abbrev held_told : ModuleShapes
  held_told = shapes_of m

  abbrev held_shapes : List Shape
  held_shapes = shapes_in (shapes_of m) frame.function

  stored_row : stored_behind d held_told held_shapes s.memory i ops.given l.numbers ≡ l.numbers
  stored_row =
      ap (λ z. stored_by d held_told held_shapes s.memory i z ops.given l.numbers) (ap effect_of is_op)
      ∙ ap (λ zs. both_stored d held_told held_shapes s.memory i zs l.numbers) given
      ∙ none_stored held_told held_shapes s.memory i y l.numbers new old (operation_done d held_told held_shapes s.memory i)

  -- ---- the memory behind it

  memory_after : IsMemoryFor (filled s.memory y w) (filled l.memory q w)
  memory_after =
      subst (λ (z : Place). IsMemoryFor (filled s.memory y w) (filled l.memory z w)) (sym under.1.same) (place_filled s.memory l.memory x.memory y w)

  -- ---- what becomes of it

  abbrev spare : ValueId
  spare = value_with (lowered_to m bound s l frame rest f i ops x).spare

  plain_is : plain_store i ≡ store
  plain_is = ap (λ o. record i { op = o; qualifier = word.Plain }) is_op

  abbrev first : ℕ
  first = begin m bound s l frame rest f i ops x

  end_is : (n : ℕ) → length (made m bound s l frame rest f i ops x) ≡ n → end m bound s l frame rest f i ops x ≡ first + n
  end_is n e = (lowered_to m bound s l frame rest f i ops x).next ∙ ap (λ k. first + k) e

  numbers_told : numbers_for (filled l.memory q w) l.numbers ≡ stored_for m s frame i ops.given stored l.numbers
  numbers_told = numbers_in_both (filled s.memory y w) (filled l.memory q w) memory_after l.numbers ∙ ap (numbers_for (filled s.memory y w)) (sym stored_row)

  module _ (entries : List Entry)
      (put : results_put (facts m s l frame rest f i ops x) (item_defined f (item.Inst (stands_at f frame.trail))) [] ops.left ≡ Ok entries) where
    abbrev Along : Type 0
    Along = GoesAlong m bound l
        (holder.moved m (facts_of m) bound s rest (from m bound s l frame rest f i ops x) (item.Inst (stands_at f frame.trail)) stored x.low.slots entries)
        (stored_for m s frame i ops.given stored l.numbers)

    puts : PutsIn m bound s l frame rest f i ops x [] [] entries
    puts = puts_in m bound s l frame rest f i ops x [] [] entries none (ap renames is_op) put

    shown : AreValuesFor d f (item.Inst (stands_at f frame.trail) ∷ frame.trail) entries x.low.values
    shown = subst (AreValuesFor d f (item.Inst (stands_at f frame.trail) ∷ frame.trail) entries) (sym (same_Some x.low.values puts.values puts.put)) puts.shown

    below : Each (HasFullParts m (filled l.memory q w)) x.lrest
    below = parts_kept m l.memory (filled l.memory q w) (filling_keeps l.memory q w) x.lrest x.full.1

    -- it is all that becomes of it: the place held nothing
    pub store_alone : made m bound s l frame rest f i ops x ≡ plain_store i ∷ [] → references_at s.memory y ≡ [] → Along
    store_alone alone empty =
        let last : LowState = waits m bound s l frame rest f i ops x stored.dropped (end m bound s l frame rest f i ops x) x.low.values x.low.slots (filled l.memory q w)
        (numbers_for (filled l.memory q w) (stored_behind d told shapes l.memory (renumbered_inst number store) (ValueOf w ∷ AddressOf q ∷ []) l.numbers)) (l.retains + 0) in
        let at_end : last ≡ waits m bound s l frame rest f i ops x [] (suc first) x.low.values x.low.slots (filled l.memory q w)
        (numbers_for (filled l.memory q w) (stored_behind d told shapes l.memory (renumbered_inst number store) (ValueOf w ∷ AddressOf q ∷ []) l.numbers)) (l.retains + 0) =
        ap₂ (λ os n. waits m bound s l frame rest f i ops x os n x.low.values x.low.slots (filled l.memory q w)
        (numbers_for (filled l.memory q w) (stored_behind d told shapes l.memory (renumbered_inst number store) (ValueOf w ∷ AddressOf q ∷ []) l.numbers)) (l.retains + 0))
        empty (end_is 1 (ap length alone) ∙ omega arith) in
        behind_all m bound s l frame rest f i ops x stored x.low.slots entries x.low.values (filled l.memory q w)
        (numbers_for (filled l.memory q w) (stored_behind d told shapes l.memory (renumbered_inst number store) (ValueOf w ∷ AddressOf q ∷ []) l.numbers))
        (stored_for m s frame i ops.given stored l.numbers)
        (begins m bound s l frame rest f i ops x last
        (one_step m bound s l frame rest f i ops x first x.low.values x.low.slots l.memory l.numbers l.retains store (a.value ∷ b.value ∷ []) (ValueOf w ∷ AddressOf q ∷ [])
        (unchanged (filled l.memory q w)) x.low.slots x.low.values last
        (stands m bound s l frame rest f i ops x 0 first store (ap (λ is. slice_get is 0) alone ∙ ap Some plain_is) (omega arith))
        (store_takes i a b both)
        (read_so x.low.values (number a.value ∷ number b.value ∷ []) (ValueOf w ∷ AddressOf q ∷ []) (under.0.under, (under.1.under, tt)))
        store_effect refl (ap (λ rs. put_all (map number rs) [] x.low.values) none) refl
        (subst (λ st. LowGoes m bound last st) at_end LowGoes.there)))
        refl shown memory_after
        (λ v z arg at is_part. filling_keeps l.memory q w z (given_parts m s l frame rest f i ops x v z arg at is_part)) below
        (ap (numbers_for (filled l.memory q w)) (low_stored l.numbers) ∙ numbers_told)

    -- `[assign]`: what the place held is loaded before, and released behind it
    module _ (spares : AreSparesApart d f) (z : Value) (held : value_at s.memory y ≡ Some z) (its : references_of z ≡ references_at s.memory y)
        (all : made m bound s l frame rest f i ops x ≡ load b spare ∷ plain_store i ∷ release d (loaded_from b spare) ∷ []) where
      is_first : slice_get (made m bound s l frame rest f i ops x) 0 ≡ Some (load b spare)
      is_first = ap (λ is. slice_get is 0) all

      abbrev values_1 : List (Option Datum)
      values_1 = with_spare m bound s l frame rest f i ops x spares b is_first z

      under_still : (v : ValueId) → IsOld f v → low_frames.value_at values_1 (number v) ≡ low_frames.value_at x.low.values (number v)
      under_still = stays_under m bound s l frame rest f i ops x spares b is_first z

      both_old : Each (IsOld f) (a.value ∷ b.value ∷ [])
      both_old = subst (λ os. Each (IsOld f) (map operand_value os)) both (operands_old m s l frame rest f i ops x)

      home_size : (h : Home) (cells : List Cell) → length (with_home_cells s.memory h cells).objects ≡ length s.memory.objects
      home_size OnStack cells = refl
      home_size (Inside o) cells = length-set s.memory.objects o.0 _

      size_2 : (ns : List Numbers) → length ns ≡ length s.memory.objects → numbers_for (filled l.memory q w) ns ≡ ns
      size_2 ns e =
          numbers_stay (filled l.memory q w) ns
          (e ∙ sym (as_many_objects (filled s.memory y w) (filled l.memory q w) memory_after ∙ home_size y.home _))

      abbrev numbers_2 : List Numbers
      numbers_2 =
          numbers_for (filled l.memory q w)
          (stored_behind d told shapes l.memory (renumbered_inst number store) (ValueOf w ∷ AddressOf q ∷ []) (numbers_for l.memory l.numbers))

      numbers_2_same : numbers_2 ≡ l.numbers
      numbers_2_same =
          ap (numbers_for (filled l.memory q w)) (low_stored (numbers_for l.memory l.numbers) ∙ same_numbers m bound s l frame rest f i ops x) ∙ size_2 l.numbers x.size

      -- behind the release
      abbrev behind : List ObjectId → ℕ → ℕ → LowState
      behind os n retains =
          waits m bound s l frame rest f i ops x os n values_1 x.low.slots (filled l.memory q w)
          (numbers_for (filled l.memory q w)
          (stored_behind d told shapes (filled l.memory q w) (renumbered_inst number (release d (loaded_from b spare))) (ValueOf z ∷ []) numbers_2)) retains

      pub store_assigned : Along
      store_assigned =
          let last : LowState = behind stored.dropped (end m bound s l frame rest f i ops x) (l.retains + 0) in
          let at_end : last ≡ behind (references_of z) (suc (suc (suc first))) (l.retains + 0 + 0 + 0) =
          ap₂ (λ os n. behind os n (l.retains + 0)) (sym its) (end_is 3 (ap length all) ∙ omega arith)
          ∙ ap (behind (references_of z) (suc (suc (suc first)))) (omega arith) in
          behind_all m bound s l frame rest f i ops x stored x.low.slots entries values_1 (filled l.memory q w)
          (numbers_for (filled l.memory q w)
          (stored_behind d told shapes (filled l.memory q w) (renumbered_inst number (release d (loaded_from b spare))) (ValueOf z ∷ []) numbers_2))
          (stored_for m s frame i ops.given stored l.numbers)
          (begins m bound s l frame rest f i ops x last
          (one_step m bound s l frame rest f i ops x first x.low.values x.low.slots l.memory l.numbers l.retains (load b spare) (b.value ∷ []) (AddressOf q ∷ [])
          (record (unchanged l.memory) { results = ValueOf z ∷ [] }) x.low.slots values_1 last
          (stands m bound s l frame rest f i ops x 0 first (load b spare) (ap (λ is. slice_get is 0) all) (omega arith)) refl
          (read_so x.low.values (number b.value ∷ []) (AddressOf q ∷ []) (under.1.under, tt))
          (load_effect m bound s l frame rest f i ops x b.value y under.1 (renumbered_inst number (load b spare)) z refl refl there held) refl refl refl
          (one_step m bound s l frame rest f i ops x (suc first) values_1 x.low.slots l.memory (numbers_for l.memory l.numbers) (l.retains + 0) store
          (a.value ∷ b.value ∷ []) (ValueOf w ∷ AddressOf q ∷ []) (unchanged (filled l.memory q w)) x.low.slots values_1 last
          (stands m bound s l frame rest f i ops x 1 (suc first) store (ap (λ is. slice_get is 1) all ∙ ap Some plain_is) (omega arith))
          (store_takes i a b both)
          (read_so values_1 (number a.value ∷ number b.value ∷ []) (ValueOf w ∷ AddressOf q ∷ [])
          (under_still a.value both_old.0 ∙ under.0.under, (under_still b.value both_old.1.0 ∙ under.1.under, tt)))
          store_effect refl (ap (λ rs. put_all (map number rs) [] values_1) none) refl
          (one_step m bound s l frame rest f i ops x (suc (suc first)) values_1 x.low.slots (filled l.memory q w) numbers_2 (l.retains + 0 + 0) (release d (loaded_from b spare))
          (spare ∷ []) (ValueOf z ∷ []) (record (unchanged (filled l.memory q w)) { dropped = references_of z }) x.low.slots values_1 last
          (stands m bound s l frame rest f i ops x 2 (suc (suc first)) (release d (loaded_from b spare)) (ap (λ is. slice_get is 2) all) (omega arith))
          (release_takes d (loaded_from b spare))
          (read_so values_1 (number spare ∷ []) (ValueOf z ∷ []) (spare_under m bound s l frame rest f i ops x spares b is_first z, tt))
          (release_effect d (loaded_from b spare) number told shapes (filled l.memory q w) (ValueOf z)) refl refl refl
          (subst (λ st. LowGoes m bound last st) at_end LowGoes.there)))))
          (length-set x.low.values (number spare).0 (Some (ValueOf z)))
          (shown_still m bound s l frame rest f i ops x spares b is_first z (item.Inst (stands_at f frame.trail) ∷ frame.trail) entries shown) memory_after
          (parts_still m bound s l frame rest f i ops x spares b is_first z (filled l.memory q w) (filling_keeps l.memory q w)) below
          (ap (numbers_for (filled l.memory q w)) (release_stored d (loaded_from b spare) number told shapes (filled l.memory q w) (ValueOf z) numbers_2 ∙ numbers_2_same) ∙ numbers_told)
