-- `load` and `load_borrow`: the lowered run loads, and retains what it loaded where the row makes its references anew.
use Rattle.sil_verifier_runs.specs.holder_model.LoweredRun.LowFrames.{put_all}
use Rattle.std.proofs.Common.{◌≡◌, ◌<◌, ℕ, suc, ◌+◌, List, [], ◌∷◌, map, length, arith, refl, sym, ap, ◌∙◌, subst, Bool, true, false, cond, Option, Some, Ok, ap₂, flat_map, option_to_list, set}
use Rattle.std.specs.Prelude.{is_some, slice_get}
use Rattle.std.specs.List.{list_any}
use Rattle.std.proofs.lemmas.Option.{same_Some}
use Rattle.instruction_table.specs.Forms.{roles_of}
use Rattle.instruction_table.specs.declared.op.Op.TheVariants as op
use Rattle.numbered_form.specs.Lists.{Each}
use Rattle.sil_ast.specs.declared.function.Function.{Function}
use Rattle.sil_ast.specs.declared.inst.Inst.{Inst}
use Rattle.sil_ast.specs.declared.inst.Qualifier.{Qualifier}
use Rattle.sil_ast.specs.declared.inst.Qualifier.TheVariants as word
use Rattle.sil_ast.specs.declared.module.Module.{Module}
use Rattle.sil_ast.specs.declared.operands.Operand.{Operand}
use Rattle.sil_ast.specs.declared.place.ObjectId.{ObjectId}
use Rattle.sil_ast.specs.declared.place.ValueId.{ValueId}
use Rattle.sil_cfg.specs.declared.item.Item.TheVariants as item
use Rattle.sil_cfg_items.specs.Items.{item_defined}
use Rattle.sil_cfg_items.specs.Roles.{conventions_in, roles_for, taken_by, taken_each}
use Rattle.sil_types_declarations.specs.TypeDefinitions.Declarations.{declarations_of}
use Rattle.holder_model_values.specs.RunValues.Memory.{Memory, is_dead}
use Rattle.holder_model_values.specs.RunValues.Places.{Place, cells_at, emptied, is_there_at, value_at}
use Rattle.holder_model_values.specs.RunValues.Values.{Value, references_of}
use Rattle.sil_verifier_runs.specs.holder_model.Data.{AddressOf, Datum, ValueOf}
use Rattle.sil_verifier_runs.specs.holder_model.Effects.{Change, Makes, effect_of, unchanged, with_some}
use Rattle.sil_verifier_runs.specs.holder_model.Frames.{Entry, Frame, Operands, results_put}
use Rattle.sil_verifier_runs.specs.holder_model.HolderStates.{HolderState}
use Rattle.sil_verifier_runs.specs.holder_model.MemoryEffects.{copies_with, takes}
use Rattle.sil_verifier_runs.specs.holder_model.ModuleFacts.{facts_of}
use Rattle.sil_verifier_runs.specs.holder_model.ModuleShapes.{shapes_in, shapes_of}
use Rattle.sil_verifier_runs.specs.holder_model.Outcomes.{Numbers}
use Rattle.sil_verifier_runs.specs.holder_model.Standing.{stands_at}
use Rattle.sil_verifier_runs.specs.holder_model.States.{Task}
use Rattle.sil_verifier_runs.specs.holder_model.declared.row_effect.RowEffect.TheVariants as row
use Rattle.memory_rules_accesses.specs.declared.access.Operation.{Operation}
use Rattle.sil_verifier_runs.specs.holder_model.LoweredRun.LowEffects.{low_effect, stored_behind, stored_by}
use Rattle.sil_verifier_runs.specs.holder_model.LoweredRun.LowFrames as low_frames
use Rattle.sil_verifier_runs.specs.holder_model.LoweredRun.LowStepParts.{LowState, numbers_for, taken_value}
use Rattle.sil_verifier_runs.specs.holder_model.LoweredRun.Stored.{each_changed, one_more}
use Rattle.sil_verifier_runs.specs.ownership_kinds_origins.Renamings.{renames}
use Rattle.ownership_lowering_laws.specs.ownership_lowering_model.LoweredBlocks.{value_with}
use Rattle.ownership_lowering_laws.specs.ownership_lowering_model.LoweredInsts.{becomes_by, loads_by, lowering_of, plain_load, retains_loaded}
use Rattle.ownership_lowering_laws.specs.ownership_lowering_model.NewInsts.{loaded_from, retain}
use Rattle.ownership_lowering_laws.specs.ownership_lowering_model.Numbers.{renumbered_inst}
use Rattle.ownership_lowering_laws.specs.ownership_lowering_model.declared.lowering.Lowering.TheVariants as lowering
use Rattle.sil_verifier_runs.specs.holder_model_laws.HolderLaws.inner.Steps.Ways as holder
use Rattle.ownership_lowering_runs.specs.StoredRuns.inner.Lowering.{IsOwnName}
use Rattle.ownership_lowering_runs.specs.StoredRuns.inner.Memories.{IsMemoryFor, MayBeTaken}
use Rattle.ownership_lowering_runs.specs.StoredRuns.inner.PlaceRows.{GoesAlong, LowGoes, StandsAt, stored_for}
use Rattle.ownership_lowering_runs.proofs.StoredRuns.MemoriesFor.{place_read, place_taken, place_there}
use Rattle.ownership_lowering_runs.proofs.StoredRuns.NamedSteps.{retain_effect, retain_stored, retain_takes}
use Rattle.ownership_lowering_runs.proofs.StoredRuns.RowSteps.{numbers_in_both}
use Rattle.ownership_lowering_runs.proofs.StoredRuns.RowsBehind.{PutsIn, accessed_so, begin, begins, behind_all, end, from, low_shapes, low_told, lowered_to, made, num, one_step, puts_in}
use Rattle.ownership_lowering_runs.proofs.StoredRuns.RowsBehind.{same_numbers, stands, waits}
use Rattle.ownership_lowering_runs.proofs.StoredRuns.SameRows.{none_dead}
use Rattle.ownership_lowering_runs.proofs.StoredRuns.StandsThere.{PlaceUnder, facts, one_place}
use Rattle.ownership_lowering_runs.proofs.StoredRuns.ValuesFor.{read_so, value_set}

-- the operand of a load
pub load_takes : (i : Inst) (o : Operand) → i.operands ≡ o ∷ [] → map taken_value (taken_by (plain_load i)) ≡ o.value ∷ []
load_takes i o one = ap (λ os. map taken_value (taken_each os (roles_for (roles_of op.Load) (conventions_in i) (length os)))) one

module _ (m : Module) (bound : ℕ) (s : HolderState) (l : LowState) (frame : Frame) (rest : List (Task Frame)) (f : Function) (i : Inst) (ops : Operands)
    (x : StandsAt m s l frame rest f i ops) where
  -- ---- what a place holds is read in the lowered run

  module _ (v : ValueId) (y : Place) (u : PlaceUnder m s l frame rest f i ops x v y) where
    abbrev pub q : Place
    q = u.place

    pub there_below : is_there_at s.memory y ≡ true → is_there_at l.memory q ≡ true
    there_below h = ap (is_there_at l.memory) u.same ∙ place_there s.memory l.memory x.memory y h

    pub read_below : (w : Value) → value_at s.memory y ≡ Some w → value_at l.memory q ≡ Some w
    read_below w e = ap (value_at l.memory) u.same ∙ place_read s.memory l.memory x.memory y w e

    -- a plain load of it
    pub load_effect : (j : Inst) (w : Value) → j.op ≡ op.Load → j.qualifier ≡ word.Plain → is_there_at s.memory y ≡ true → value_at s.memory y ≡ Some w
        → low_effect (declarations_of m) (low_told m bound s l frame rest f i ops x) (low_shapes m bound s l frame rest f i ops x) l.memory j (AddressOf q ∷ [])
        ≡ Makes (record (unchanged l.memory) { results = ValueOf w ∷ [] })
    load_effect j w is plain there full =
        subst (λ (k : Inst). low_effect (declarations_of m) (low_told m bound s l frame rest f i ops x) (low_shapes m bound s l frame rest f i ops x) l.memory k (AddressOf q ∷ [])
        ≡ Makes (record (unchanged l.memory) { results = ValueOf w ∷ [] })) (ap₂ (λ o c. record j { op = o; qualifier = c }) (sym is) (sym plain))
        (accessed_so (declarations_of m) (low_told m bound s l frame rest f i ops x) (low_shapes m bound s l frame rest f i ops x) l.memory
        (record j { op = op.Load; qualifier = word.Plain }) q [] true
        (with_some (λ z. Makes (record (unchanged l.memory) { results = ValueOf z ∷ [] })) (value_at l.memory q)) (there_below there) refl u.alive
        (ap is_some (read_below w full))
        ∙ ap (with_some (λ z. Makes (record (unchanged l.memory) { results = ValueOf z ∷ [] }))) (read_below w full))

  -- ---- the rows

  module _ (o : Operand) (y : Place) (r : ValueId) (one : i.operands ≡ o ∷ []) (given : ops.given ≡ AddressOf y ∷ []) (result : i.results ≡ r ∷ [])
      (row_is : effect_of i.op ≡ row.LoadsValue) (loads : lowering_of i.op ≡ lowering.Loads) (keeps : renames i.op ≡ false)
      (done : Operation) (w : Value) (there : is_there_at s.memory y ≡ true) (full : value_at s.memory y ≡ Some w)
      (may : takes done ≡ true → Each MayBeTaken (cells_at s.memory y)) where
    abbrev after : Memory
    after = cond (takes done) (emptied s.memory y) s.memory

    abbrev pub loaded : Change
    loaded = record (unchanged after) { results = ValueOf w ∷ []; retained = cond (copies_with i.qualifier) (references_of w) [] }

    memory_after : IsMemoryFor after l.memory
    memory_after = by (takes done) refl
      where
        by : (b : Bool) → takes done ≡ b → IsMemoryFor (cond b (emptied s.memory y) s.memory) l.memory
        by true e = place_taken s.memory l.memory x.memory y (may e)
        by false e = x.memory

    u : PlaceUnder m s l frame rest f i ops x o.value y
    u = one_place m s l frame rest f i ops x o y one given

    abbrev spare : ValueId
    spare = value_with (lowered_to m bound s l frame rest f i ops x).spare

    becomes_so : made m bound s l frame rest f i ops x ≡ loads_by (declarations_of m) spare i.qualifier i
    becomes_so = ap (λ z. becomes_by (declarations_of m) spare z i) loads

    module _ (entries : List Entry)
        (put : results_put (facts m s l frame rest f i ops x) (item_defined f (item.Inst (stands_at f frame.trail))) (ValueOf w ∷ []) ops.left ≡ Ok entries) where
      puts : PutsIn m bound s l frame rest f i ops x (r ∷ []) (ValueOf w ∷ []) entries
      puts = puts_in m bound s l frame rest f i ops x (r ∷ []) (ValueOf w ∷ []) entries result keeps put

      abbrev at_state : ℕ → List (Option Datum) → List Numbers → ℕ → LowState
      at_state n values numbers retains = waits m bound s l frame rest f i ops x [] n values x.low.slots l.memory numbers retains

      abbrev first : ℕ
      first = begin m bound s l frame rest f i ops x

      load_first : slice_get (made m bound s l frame rest f i ops x) 0 ≡ Some (plain_load i)
      load_first = ap (λ is. slice_get is 0) becomes_so ∙ by i.qualifier
        where
          by : (c : Qualifier) → slice_get (loads_by (declarations_of m) spare c i) 0 ≡ Some (plain_load i)
          by word.Plain = refl
          by word.Copy = refl
          by word.Take = refl
          by word.Trivial = refl
          by word.Init = refl
          by word.Assign = refl

      -- the load
      loads_it : (last : LowState) → LowGoes m bound last (at_state (suc first) puts.values (numbers_for l.memory l.numbers) (l.retains + 0)) → LowGoes m bound last l
      loads_it last on =
          begins m bound s l frame rest f i ops x last
          (one_step m bound s l frame rest f i ops x first x.low.values x.low.slots l.memory l.numbers l.retains (plain_load i) (o.value ∷ []) (AddressOf (u.place) ∷ [])
          (record (unchanged l.memory) { results = ValueOf w ∷ [] }) x.low.slots puts.values last
          (stands m bound s l frame rest f i ops x 0 first (plain_load i) load_first (omega arith))
          (load_takes i o one) (read_so x.low.values (num m bound s l frame rest f i ops x o.value ∷ []) (AddressOf u.place ∷ []) (u.under, tt))
          (load_effect o.value y u (renumbered_inst (num m bound s l frame rest f i ops x) (plain_load i)) w refl refl there full) refl
          (ap (λ rs. put_all (map (num m bound s l frame rest f i ops x) rs) (ValueOf w ∷ []) x.low.values) result ∙ puts.put) refl on)

      -- ---- behind it

      abbrev numbers_1 : List Numbers
      numbers_1 = numbers_for l.memory l.numbers

      stored_row : stored_behind (declarations_of m) (shapes_of m) (shapes_in (shapes_of m) frame.function) s.memory i ops.given l.numbers ≡ l.numbers
      stored_row = ap (λ z. stored_by (declarations_of m) (shapes_of m) (shapes_in (shapes_of m) frame.function) s.memory i z ops.given l.numbers) row_is

      numbers_told : (os : List ObjectId) → loaded.retained ≡ os → numbers_for l.memory (each_changed one_more os l.numbers) ≡ stored_for m s frame i ops.given loaded l.numbers
      numbers_told os e =
          numbers_in_both after l.memory memory_after (each_changed one_more os l.numbers)
          ∙ ap (λ ps. numbers_for after (each_changed one_more ps l.numbers)) (sym e)
          ∙ ap (λ st. numbers_for after (each_changed one_more loaded.retained st)) (sym stored_row)

      abbrev Along : Type 0
      Along = GoesAlong m bound l
          (holder.moved m (facts_of m) bound s rest (from m bound s l frame rest f i ops x) (item.Inst (stands_at f frame.trail)) loaded x.low.slots entries)
          (stored_for m s frame i ops.given loaded l.numbers)

      -- as many instructions as these
      end_is : (n : ℕ) → length (made m bound s l frame rest f i ops x) ≡ n → end m bound s l frame rest f i ops x ≡ first + n
      end_is n e = (lowered_to m bound s l frame rest f i ops x).next ∙ ap (λ k. first + k) e

      behind_load : (numbers : List Numbers) → LowGoes m bound (at_state (end m bound s l frame rest f i ops x) puts.values numbers (l.retains + length loaded.retained)) l
          → numbers ≡ stored_for m s frame i ops.given loaded l.numbers → Along
      behind_load numbers goes told =
          behind_all m bound s l frame rest f i ops x loaded x.low.slots entries puts.values l.memory numbers (stored_for m s frame i ops.given loaded l.numbers)
          goes puts.size puts.shown memory_after puts.parts x.full.1 told

      -- nothing else becomes of it
      load_alone : copies_with i.qualifier ≡ false → length (made m bound s l frame rest f i ops x) ≡ 1 → Along
      load_alone no_copy alone =
          let none : loaded.retained ≡ [] = ap (λ b. cond b (references_of w) []) no_copy in
          let at_end : at_state (end m bound s l frame rest f i ops x) puts.values numbers_1 (l.retains + length loaded.retained)
          ≡ at_state (suc first) puts.values numbers_1 (l.retains + 0) =
          ap₂ (λ n os. at_state n puts.values numbers_1 (l.retains + length os)) (end_is 1 alone ∙ omega arith) none in
          behind_load numbers_1
          (loads_it (at_state (end m bound s l frame rest f i ops x) puts.values numbers_1 (l.retains + length loaded.retained))
          (subst (λ st. LowGoes m bound (at_state (end m bound s l frame rest f i ops x) puts.values numbers_1 (l.retains + length loaded.retained)) st) at_end LowGoes.there))
          (numbers_told [] none)

      -- its references are made anew
      abbrev name : Operand
      name = loaded_from o r

      loaded_there : low_frames.value_at puts.values (num m bound s l frame rest f i ops x r) ≡ Some (ValueOf w)
      loaded_there =
          let mine = subst (Each (IsOwnName f)) result (x.lowers.results (stands_at f frame.trail) i x.here keeps) in
          ap (λ vs. low_frames.value_at vs (num m bound s l frame rest f i ops x r))
          (sym (same_Some (set x.low.values (num m bound s l frame rest f i ops x r).0 (Some (ValueOf w))) puts.values puts.put))
          ∙ value_set x.low.values (num m bound s l frame rest f i ops x r) (ValueOf w)
          (subst (λ n. (num m bound s l frame rest f i ops x r).0 < n) (sym x.frames.size) (x.lowers.named.few r mine.0.0))

      load_copied : i.qualifier ≡ word.Copy → list_any (is_dead s.memory) loaded.retained ≡ false → Along
      load_copied copy alive =
          let refs : loaded.retained ≡ references_of w = ap (λ c. cond (copies_with c) (references_of w) []) copy in
          let all : made m bound s l frame rest f i ops x ≡ plain_load i ∷ retain (declarations_of m) name ∷ [] =
          becomes_so ∙ ap (λ c. loads_by (declarations_of m) spare c i) copy
          ∙ ap₂ (λ rs os. plain_load i ∷ flat_map (retains_loaded (declarations_of m) spare rs) (option_to_list (slice_get os 0))) result one in
          let last : LowState = at_state (end m bound s l frame rest f i ops x) puts.values (numbers_for l.memory (each_changed one_more (references_of w) numbers_1))
          (l.retains + length loaded.retained) in
          let at_end : last ≡ at_state (suc (suc first)) puts.values (numbers_for l.memory (each_changed one_more (references_of w) numbers_1)) (l.retains + 0 + length (references_of w)) =
          ap₂ (λ n k. at_state n puts.values (numbers_for l.memory (each_changed one_more (references_of w) numbers_1)) k)
          (end_is 2 (ap length all) ∙ omega arith) (ap (λ os. l.retains + length os) refs ∙ omega arith) in
          behind_load (numbers_for l.memory (each_changed one_more (references_of w) numbers_1))
          (loads_it last
          (one_step m bound s l frame rest f i ops x (suc first) puts.values x.low.slots l.memory numbers_1 (l.retains + 0) (retain (declarations_of m) name) (r ∷ []) (ValueOf w ∷ [])
          (record (unchanged l.memory) { retained = references_of w }) x.low.slots puts.values last
          (stands m bound s l frame rest f i ops x 1 (suc first) (retain (declarations_of m) name) (ap (λ is. slice_get is 1) all) (omega arith))
          (retain_takes (declarations_of m) name)
          (read_so puts.values (num m bound s l frame rest f i ops x r ∷ []) (ValueOf w ∷ []) (loaded_there, tt))
          (retain_effect (declarations_of m) name (num m bound s l frame rest f i ops x) (low_told m bound s l frame rest f i ops x) (low_shapes m bound s l frame rest f i ops x) l.memory (ValueOf w))
          refl refl (none_dead s.memory l.memory x.memory (references_of w) (subst (λ os. list_any (is_dead s.memory) os ≡ false) refs alive))
          (subst (λ st. LowGoes m bound last st)
          (at_end ∙ ap (λ ns. at_state (suc (suc first)) puts.values (numbers_for l.memory (each_changed one_more (references_of w) ns)) (l.retains + 0 + length (references_of w)))
          (sym (retain_stored (declarations_of m) name (num m bound s l frame rest f i ops x) (low_told m bound s l frame rest f i ops x) (low_shapes m bound s l frame rest f i ops x)
          l.memory (ValueOf w) numbers_1))) LowGoes.there)))
          (ap (λ ns. numbers_for l.memory (each_changed one_more (references_of w) ns)) (same_numbers m bound s l frame rest f i ops x) ∙ numbers_told (references_of w) refs)

      pub load_along : list_any (is_dead s.memory) loaded.retained ≡ false → Along
      load_along alive = by i.qualifier refl
        where
          alone : (c : Qualifier) → i.qualifier ≡ c → copies_with c ≡ false → length (loads_by (declarations_of m) spare c i) ≡ 1 → Along
          alone c e none size = load_alone (ap copies_with e ∙ none) (ap length becomes_so ∙ ap (λ c. length (loads_by (declarations_of m) spare c i)) e ∙ size)

          by : (c : Qualifier) → i.qualifier ≡ c → Along
          by word.Plain e = alone word.Plain e refl refl
          by word.Copy e = load_copied e alive
          by word.Take e = alone word.Take e refl refl
          by word.Trivial e = alone word.Trivial e refl refl
          by word.Init e = alone word.Init e refl refl
          by word.Assign e = alone word.Assign e refl refl
