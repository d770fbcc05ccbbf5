-- Rows at places that are lowered to themselves: loads and stores of names, storage that is destroyed, slots that go, and addresses of members.
use Rattle.ownership_lowering_runs.specs.StoredRuns.inner.RowsRight.{is_place_row}
use Rattle.sil_ast.specs.declared.decl.Storage.TheVariants as storage
use Rattle.sil_verifier_runs.specs.holder_model.declared.trap.Trap.TheVariants as trap
use Rattle.sil_verifier_runs.specs.holder_model.MemoryEffects.{two, value_and_place, takes, references_at, all_live, loaded_name, named_again}
use Rattle.sil_verifier_runs.specs.holder_model.LoweredRun.Stored.{named, unnamed}
use Rattle.sil_verifier_runs.specs.sil_verifier_trails.AcceptedTrails.inner.Defined.{makes}
use Rattle.sil_ast.specs.declared.decl.Storage.{Storage}
use Rattle.holder_model_values.specs.declared.run_values.phase.Phase.{Phase}
use Rattle.ownership_lowering_runs.proofs.StoredRuns.Along.PlainAlong.{plain_along}
use Rattle.std.proofs.Common.{◌≡◌, ℕ, List, [], ◌∷◌, refl, sym, ap, ◌∙◌, subst, Bool, true, false, cond, Option, Some, None, Ok, ap₂, not, ◌||◌, ◌&&◌}
use Rattle.std.specs.Prelude.{◌||◌, not, find, is_some}
use Rattle.std.specs.List.{list_any}
use Rattle.std.proofs.lemmas.Bool.{and_parts}
use Rattle.sil_ast.specs.declared.inst.Inst.{Inst}
use Rattle.sil_ast.specs.declared.place.ObjectId.{ObjectId}
use Rattle.sil_ast.specs.declared.place.ValueId.{ValueId}
use Rattle.sil_types_declarations.specs.TypeDefinitions.Declarations.{Declarations, declarations_of}
use Rattle.holder_model_values.specs.declared.run_values.phase.Phase.TheVariants.{Live, Deiniting, Dead}
use Rattle.holder_model_values.specs.RunValues.Memory.{Memory, is_dead, is_live, is_live_phase, is_dead_phase, phase_of}
use Rattle.holder_model_values.specs.RunValues.Places.{Place, emptied, filled, is_there_at, removed, value_at, cells_at}
use Rattle.holder_model_values.specs.RunValues.Shapes.{Shape, storage_in}
use Rattle.holder_model_values.specs.RunValues.Values as value
use Rattle.holder_model_values.specs.RunValues.Values.{Value, references_of}
use Rattle.sil_verifier_runs.specs.holder_model.Data.{AddressOf, Datum, ValueOf}
use Rattle.sil_verifier_runs.specs.holder_model.Effects.{Change, Effect, Makes, effect_by, gives, gives_value, part_number}
use Rattle.sil_verifier_runs.specs.holder_model.Effects.{unchanged, with_some, effect_of, Traps, names_member, SameSlots, ClosesSlot}
use Rattle.sil_verifier_runs.specs.holder_model.Faults.{HolderFault}
use Rattle.sil_verifier_runs.specs.holder_model.ModuleShapes.{ModuleShapes, shapes_in, shapes_of}
use Rattle.sil_verifier_runs.specs.holder_model.declared.row_effect.RowEffect.{RowEffect}
use Rattle.sil_verifier_runs.specs.holder_model.declared.row_effect.RowEffect.TheVariants as row
use Rattle.sil_verifier_runs.specs.holder_model.declared.lowered_run.low_fault.LowFault.{LowFault}
use Rattle.sil_verifier_runs.specs.holder_model.LoweredRun.LowEffects as low_effects
use Rattle.ownership_lowering_laws.specs.ownership_lowering_model.Numbers.{renumbered_inst}
use Rattle.ownership_lowering_runs.specs.StoredRuns.inner.EffectsFor.{IsChangeFor}
use Rattle.ownership_lowering_runs.specs.StoredRuns.inner.Memories.{IsMemoryFor}
use Rattle.ownership_lowering_runs.proofs.StoredRuns.MemoriesFor.{place_filled, place_for, live_for, place_emptied, place_removed}
use Rattle.ownership_lowering_runs.specs.StoredRuns.inner.Frames.{HasFullParts, AreGivenPartsFull, IsNoAddress}
use Rattle.numbered_form.specs.Lists.{Each}
use Rattle.sil_ast.specs.declared.function.Function.{Function}
use Rattle.sil_ast.specs.declared.module.Module.{Module}
use Rattle.sil_ast.specs.declared.operands.Operand.{Operand}
use Rattle.sil_cfg.specs.declared.item.Item.TheVariants as item
use Rattle.sil_cfg_items.specs.Items.{item_defined}
use Rattle.sil_verifier_runs.specs.holder_model.Frames.{Entry, Frame, Operands, results_put}
use Rattle.sil_verifier_runs.specs.holder_model.HolderStates.{HolderState}
use Rattle.sil_verifier_runs.specs.holder_model.ModuleFacts.{facts_of}
use Rattle.sil_verifier_runs.specs.holder_model.Outcomes.{Numbers}
use Rattle.sil_verifier_runs.specs.holder_model.Standing.{stands_at}
use Rattle.sil_verifier_runs.specs.holder_model.States.{Task}
use Rattle.memory_rules_accesses.specs.declared.access.Operation.{Operation}
use Rattle.sil_verifier_runs.specs.holder_model.LoweredRun.LowEffects.{low_effect, stored_behind, stored_by, accessed, is_first_write, stored_at, value_stored, taken_at}
use Rattle.sil_verifier_runs.specs.holder_model.LoweredRun.LowStepParts.{LowState}
use Rattle.sil_verifier_runs.specs.ownership_kinds_origins.Renamings.{renames}
use Rattle.sil_verifier_runs.specs.holder_model_laws.HolderLaws.inner.Steps.Ways as holder
use Rattle.ownership_lowering_runs.specs.StoredRuns.inner.PlaceRows.{GoesAlong, StandsAt, stored_for}
use Rattle.ownership_lowering_runs.proofs.StoredRuns.RowSteps.{parts_kept}
use Rattle.ownership_lowering_runs.proofs.StoredRuns.RowsBehind.{accessed_so, from, low_shapes, low_told, made, num}
use Rattle.ownership_lowering_runs.proofs.StoredRuns.StandsThere.{PlaceUnder, ValueUnder, facts, given_parts, one_place, value_and_place_under, both_read_low, exact_read, place_read_low}
use Rattle.holder_model_values.specs.RunValues.Cells.{in_cells}
use Rattle.ownership_lowering_runs.proofs.StoredRuns.FullKept.{filling_keeps}
use Rattle.ownership_lowering_runs.proofs.StoredRuns.LoadSteps.{read_below, there_below}
use Rattle.ownership_lowering_runs.proofs.StoredRuns.StrongCells.{unnamed_same}
use Rattle.sil_verifier_runs.specs.holder_model.StepParts as parts
use Rattle.sil_verifier_runs.specs.holder_model.MemoryEffects as holder_effects
use Rattle.ownership_lowering_runs.proofs.StoredRuns.Along.StaysAlong.{low_data, stays_along}
use Rattle.memory_rules_accesses.specs.Operations.{access_kind_of, operation_by}

module _ (m : Module) (bound : ℕ) (s : HolderState) (l : LowState) (frame : Frame) (rest : List (Task Frame)) (f : Function) (i : Inst) (ops : Operands)
    (x : StandsAt m s l frame rest f i ops) (alone : made m bound s l frame rest f i ops x ≡ i ∷ []) (keeps : renames i.op ≡ false) where
  abbrev d : Declarations
  d = declarations_of m

  abbrev told : ModuleShapes
  told = low_told m bound s l frame rest f i ops x

  abbrev shapes : List Shape
  shapes = low_shapes m bound s l frame rest f i ops x

  abbrev number : ValueId → ValueId
  number v = num m bound s l frame rest f i ops x v

  abbrev inst : Inst
  inst = renumbered_inst number i

  abbrev read_low : List Datum
  read_low = low_data m bound s l frame rest f i ops x alone keeps

  abbrev held_told : ModuleShapes
  held_told = shapes_of m

  abbrev held_shapes : List Shape
  held_shapes = shapes_in (shapes_of m) frame.function

  abbrev Goal : Change → List Place → List Entry → Type 0
  Goal c slots entries =
      GoesAlong m bound l
      (holder.moved m (facts_of m) bound s rest (from m bound s l frame rest f i ops x) (item.Inst (stands_at f frame.trail)) c slots entries)
      (stored_for m s frame i ops.given c l.numbers)

  abbrev Put : Change → List Entry → Type 0
  Put c entries = results_put (facts m s l frame rest f i ops x) (item_defined f (item.Inst (stands_at f frame.trail))) c.results ops.left ≡ Ok entries

  -- parts that frames were given stay full in another memory
  abbrev pub PartsStay : Memory → Type 0
  PartsStay memory = AreGivenPartsFull d f x.low.values memory × Each (HasFullParts m memory) x.lrest

  -- the effect of a row on the operands that are read
  by_row : (r : RowEffect) (ys : List Datum) (e : Effect LowFault) → effect_of i.op ≡ r → read_low ≡ ys
      → low_effects.unless_dead d told shapes l.memory inst (low_effects.operated_on d told shapes l.memory inst r ys)
      (effect_by d told shapes l.memory inst (low_effects.at_places d told shapes l.memory inst) r ys) ≡ e
      → low_effect d told shapes l.memory inst read_low ≡ e
  by_row r ys e row_is read h =
      ap (low_effect d told shapes l.memory inst) read
      ∙ ap (λ c. low_effects.unless_dead d told shapes l.memory inst (low_effects.operated_on d told shapes l.memory inst c ys)
      (effect_by d told shapes l.memory inst (low_effects.at_places d told shapes l.memory inst) c ys)) row_is
      ∙ h

  stored_row : (told' : ModuleShapes) (shapes' : List Shape) (memory : Memory) (j : Inst) (r : RowEffect) (xs ys : List Datum) (ns : List Numbers) → effect_of j.op ≡ r → xs ≡ ys
      → stored_behind d told' shapes' memory j xs ns ≡ stored_by d told' shapes' memory j r ys ns
  stored_row told' shapes' memory j r xs ys ns e h =
      ap (λ zs. stored_behind d told' shapes' memory j zs ns) h ∙ ap (λ c. stored_by d told' shapes' memory j c ys ns) e

  -- ---- rows whose operands tell the same

  -- no operand is an address
  pub exact_along : is_place_row (effect_of i.op) ≡ false → Each IsNoAddress ops.given → (c : Change)
      → holder_effects.effect d held_told held_shapes s.memory i ops.given ≡ Makes c → list_any (is_dead s.memory) c.retained ≡ false → (slots : List Place)
      → parts.slots_behind c.slots frame.slots ≡ Ok slots → (entries : List Entry) → Put c entries → Goal c slots entries
  exact_along plain none c is alive slots left entries put =
      plain_along m bound s l frame rest f i ops x alone keeps plain
      (ap (low_effect d told shapes l.memory inst) (exact_read m s l frame rest f i ops x none)) c is alive slots left entries put

  -- `debug_value`, and instructions that are only looked at
  pub looks_along : effect_of i.op ≡ row.NoEffect → (c : Change)
      → holder_effects.effect d held_told held_shapes s.memory i ops.given ≡ Makes c → list_any (is_dead s.memory) c.retained ≡ false → (slots : List Place)
      → parts.slots_behind c.slots frame.slots ≡ Ok slots → (entries : List Entry) → Put c entries → Goal c slots entries
  looks_along row_is c is alive slots left entries put =
      plain_along m bound s l frame rest f i ops x alone keeps (ap is_place_row row_is)
      (by_row row.NoEffect read_low (gives l.memory []) row_is refl refl
      ∙ sym (ap (λ r. low_effects.unless_dead d told shapes l.memory inst (low_effects.operated_on d told shapes l.memory inst r ops.given)
      (effect_by d told shapes l.memory inst (low_effects.at_places d told shapes l.memory inst) r ops.given)) row_is)) c is alive slots left entries put

  module _ (o : Operand) (y : Place) (one : i.operands ≡ o ∷ []) (given : ops.given ≡ AddressOf y ∷ []) where
    abbrev pub u : PlaceUnder m s l frame rest f i ops x o.value y
    u = one_place m s l frame rest f i ops x o y one given

    abbrev q : Place
    q = u.place

    reads_it : read_low ≡ AddressOf q ∷ []
    reads_it = place_read_low m s l frame rest f i ops x o y one given

    -- `struct_element_addr`, `tuple_element_addr`
    pub member_along : effect_of i.op ≡ row.AddressesMember → (c : Change)
        → holder_effects.effect d held_told held_shapes s.memory i ops.given ≡ Makes c → list_any (is_dead s.memory) c.retained ≡ false → (slots : List Place)
        → parts.slots_behind c.slots frame.slots ≡ Ok slots → (entries : List Entry) → Put c entries → Goal c slots entries
    member_along row_is c is alive slots left entries put =
        plain_along m bound s l frame rest f i ops x alone keeps (ap is_place_row row_is)
        (by_row row.AddressesMember (AddressOf q ∷ []) (names_member d told shapes l.memory inst (part_number d inst) y) row_is reads_it same
        ∙ sym (ap (low_effect d told shapes l.memory inst) given
        ∙ ap (λ r. low_effects.unless_dead d told shapes l.memory inst (low_effects.operated_on d told shapes l.memory inst r (AddressOf y ∷ []))
        (effect_by d told shapes l.memory inst (low_effects.at_places d told shapes l.memory inst) r (AddressOf y ∷ []))) row_is)) c is alive slots left entries put
      where
        same : ◌≡◌ {A = Effect LowFault} (names_member d told shapes l.memory inst (part_number d inst) q) (names_member d told shapes l.memory inst (part_number d inst) y)
        same = ap (names_member d told shapes l.memory inst (part_number d inst)) u.same

    -- ---- names

    module _ (done : Operation) (is_done : operation_by (access_kind_of i.op) i.qualifier ≡ Some done) (there : is_there_at s.memory y ≡ true) where
      abbrev pub after : Memory → Place → Memory
      after memory p = cond (takes done) (emptied memory p) memory

      memory_after : IsMemoryFor (after s.memory y) (after l.memory q)
      memory_after = by (takes done)
        where
          by : (b : Bool) → IsMemoryFor (cond b (emptied s.memory y) s.memory) (cond b (emptied l.memory q) l.memory)
          by true = subst (λ (z : Place). IsMemoryFor (emptied s.memory y) (emptied l.memory z)) (sym u.same) (place_emptied s.memory l.memory x.memory y)
          by false = x.memory

      unnamed_both : (ns : List Numbers) → unnamed (cells_at l.memory q) ns ≡ unnamed (cells_at s.memory y) ns
      unnamed_both ns =
          ap (λ (z : Place). unnamed (cells_at l.memory z) ns) u.same ∙ unnamed_same (cells_at s.memory y) (cells_at l.memory y) ns (place_for s.memory l.memory x.memory y)

      taken_both : (ns : List Numbers) → taken_at d told shapes l.memory inst done q ns ≡ taken_at d held_told held_shapes s.memory i done y ns
      taken_both ns = ap (λ us. cond (takes done) us ns) (unnamed_both ns)

      names_so : (r : RowEffect) → effect_of i.op ≡ r
          → ((told' : ModuleShapes) (shapes' : List Shape) (memory : Memory) (j : Inst) (p : Place) → operation_by (access_kind_of j.op) j.qualifier ≡ Some done
          → stored_by d told' shapes' memory j r (AddressOf p ∷ []) l.numbers ≡ taken_at d told' shapes' memory j done p l.numbers)
          → stored_behind d told shapes l.memory inst read_low l.numbers ≡ stored_behind d held_told held_shapes s.memory i ops.given l.numbers
      names_so r row_is h =
          stored_row told shapes l.memory inst r read_low (AddressOf q ∷ []) l.numbers row_is reads_it
          ∙ h told shapes l.memory inst q is_done ∙ taken_both l.numbers ∙ sym (h held_told held_shapes s.memory i y is_done)
          ∙ sym (stored_row held_told held_shapes s.memory i r ops.given (AddressOf y ∷ []) l.numbers row_is given)

      -- `destroy_addr` at storage
      pub storage_along : effect_of i.op ≡ row.DestroysPlace → (z : Value) → value_at s.memory y ≡ Some z → references_at s.memory y ≡ [] → PartsStay (after l.memory q)
          → (entries : List Entry) → Put (record (unchanged (after s.memory y)) { dropped = references_at s.memory y }) entries
          → Goal (record (unchanged (after s.memory y)) { dropped = references_at s.memory y }) frame.slots entries
      storage_along row_is z held empty stay entries put =
          stays_along m bound s l frame rest f i ops x alone keeps (record (unchanged (after s.memory y)) { dropped = references_at s.memory y }) (unchanged (after l.memory q))
          (record { results = refl; dropped = sym empty; retained = refl; slots = refl; memory = memory_after })
          (by_row row.DestroysPlace (AddressOf q ∷ []) (Makes (unchanged (after l.memory q))) row_is reads_it
          (ap (λ c. with_some (λ c. with_some (low_effects.destroys_by d told shapes l.memory inst c) (Some q)) c) is_done
          ∙ accessed_so d told shapes l.memory inst q [] true (Makes (unchanged (after l.memory q))) (there_below m bound s l frame rest f i ops x o.value y u there) refl u.alive
          (ap is_some (read_below m bound s l frame rest f i ops x o.value y u z held)))) refl frame.slots refl entries put
          (names_so row.DestroysPlace row_is (λ told' shapes' memory j p e. ap (λ c. low_effects.place_taken d told' shapes' memory j c (Some p) l.numbers) e)) stay.0 stay.1

      -- loads of names
      abbrev pub held_after : Memory
      held_after = after s.memory y

      abbrev pub low_after : Memory
      low_after = after l.memory q

      made_same : (a c : Change) → ◌≡◌ {A = Effect HolderFault} (Makes a) (Makes c) → a ≡ c
      made_same a c e = cc

      pub live_same : (os : List ObjectId) → all_live l.memory os ≡ all_live s.memory os
      live_same [] = refl
      live_same (a ∷ os) = ap₂ (λ b c. b && c) (live_for s.memory l.memory x.memory a) (live_same os)

      live_alive : (os : List ObjectId) → all_live s.memory os ≡ true → list_any (is_dead s.memory) os ≡ false
      live_alive [] e = refl
      live_alive (a ∷ os) e =
          let both = and_parts (is_live s.memory a) (all_live s.memory os) e in
          ap₂ (λ b c. b || c) (by (phase_of s.memory a) both.0) (live_alive os both.1)
        where
          by : (phase : Phase) → is_live_phase phase ≡ true → is_dead_phase phase ≡ false
          by Live h = refl
          by Deiniting h = refl
          by Dead h = absurd (cc)

      -- what is loaded in both runs
      record NamedSo (how : Option Storage) (z : Value) (c : Change) : Type 0 where
        low : Change
        low_is : ◌≡◌ {A = Effect LowFault} (loaded_name how l.memory low_after z) (Makes low)
        so : IsChangeFor c low
        memory_is : low.memory ≡ low_after
        same_slots : c.slots ≡ SameSlots
        alive : list_any (is_dead s.memory) c.retained ≡ false

      again_so : (how : Option Storage) (z : Value) (c : Change) (other : Effect LowFault) → all_live s.memory (references_of z) ≡ true
          → ◌≡◌ {A = Effect LowFault} (loaded_name how l.memory low_after z) (cond (all_live l.memory (references_of z)) (named_again low_after z) other)
          → ◌≡◌ {A = Effect HolderFault} (named_again held_after z) (Makes c) → NamedSo how z c
      again_so how z c other live is e =
          subst (NamedSo how z) (made_same _ c e) (record {
            low = record (unchanged low_after) { results = ValueOf z ∷ []; retained = references_of z };
            low_is = is ∙ ap (λ b. cond b (named_again low_after z) other) (live_same (references_of z) ∙ live);
            so = record { results = refl; dropped = refl; retained = refl; slots = refl; memory = memory_after };
            memory_is = refl;
            same_slots = refl;
            alive = live_alive (references_of z) live;
          })

      named_so : (how : Option Storage) (z : Value) (c : Change) → ◌≡◌ {A = Effect HolderFault} (loaded_name how s.memory held_after z) (Makes c) → NamedSo how z c
      named_so None z c e = absurd (cc)
      named_so (Some storage.Strong) z c e = absurd (cc)
      named_so (Some storage.Weak) z c e = by (all_live s.memory (references_of z)) refl e
        where
          by : (b : Bool) → all_live s.memory (references_of z) ≡ b → ◌≡◌ {A = Effect HolderFault} (cond b (named_again held_after z) (gives_value held_after (value.Case 0))) (Makes c)
              → NamedSo (Some storage.Weak) z c
          by true live g = again_so (Some storage.Weak) z c (gives_value low_after (value.Case 0)) live refl g
          by false dead g =
              subst (NamedSo (Some storage.Weak) z) (made_same _ c g) (record {
                low = record (unchanged low_after) { results = ValueOf (value.Case 0) ∷ [] };
                low_is = ap (λ b. cond b (named_again low_after z) (gives_value low_after (value.Case 0))) (live_same (references_of z) ∙ dead);
                so = record { results = refl; dropped = refl; retained = refl; slots = refl; memory = memory_after };
                memory_is = refl;
                same_slots = refl;
                alive = refl;
              })
      named_so (Some storage.Unowned) z c e = by (all_live s.memory (references_of z)) refl e
        where
          by : (b : Bool) → all_live s.memory (references_of z) ≡ b → ◌≡◌ {A = Effect HolderFault} (cond b (named_again held_after z) (Traps trap.Unowned)) (Makes c)
              → NamedSo (Some storage.Unowned) z c
          by true live g = again_so (Some storage.Unowned) z c (Traps trap.Unowned) live refl g
          by false dead g = absurd (cc)

      pub low_loads : (z : Value) (e : Effect LowFault) → effect_of i.op ≡ row.LoadsName → value_at s.memory y ≡ Some z → loaded_name (storage_in y.shape) l.memory low_after z ≡ e
          → low_effect d told shapes l.memory inst read_low ≡ e
      low_loads z e row_is held h =
          by_row row.LoadsName (AddressOf q ∷ []) e row_is reads_it
          (ap (λ c. with_some (λ c. with_some (low_effects.names_by d told shapes l.memory inst c) (Some q)) c) is_done
          ∙ accessed_so d told shapes l.memory inst q [] true (with_some (loaded_name (storage_in q.shape) l.memory low_after) (value_at l.memory q))
          (there_below m bound s l frame rest f i ops x o.value y u there) refl u.alive
          (ap is_some (read_below m bound s l frame rest f i ops x o.value y u z held))
          ∙ ap (with_some (loaded_name (storage_in q.shape) l.memory low_after)) (read_below m bound s l frame rest f i ops x o.value y u z held)
          ∙ ap (λ (a : Place). loaded_name (storage_in a.shape) l.memory low_after z) u.same ∙ h)

      -- `load_weak`, `load_unowned`
      pub name_along : effect_of i.op ≡ row.LoadsName → (z : Value) → value_at s.memory y ≡ Some z → PartsStay (after l.memory q)
          → (c : Change) → ◌≡◌ {A = Effect HolderFault} (loaded_name (storage_in y.shape) s.memory (after s.memory y) z) (Makes c)
          → (entries : List Entry) → Put c entries → Goal c frame.slots entries
      name_along row_is z held stay c e entries put =
          let n = named_so (storage_in y.shape) z c e in
          stays_along m bound s l frame rest f i ops x alone keeps c n.low n.so (low_loads z (Makes n.low) row_is held n.low_is) n.alive frame.slots
          (ap (λ a. parts.slots_behind a frame.slots) n.same_slots) entries put
          (names_so row.LoadsName row_is (λ told' shapes' memory j p e. ap (λ c. low_effects.place_taken d told' shapes' memory j c (Some p) l.numbers) e))
          (subst (λ memory. AreGivenPartsFull d f x.low.values memory) (sym n.memory_is) stay.0)
          (subst (λ memory. Each (HasFullParts m memory) x.lrest) (sym n.memory_is) stay.1)

    -- ---- `dealloc_stack`

    pub slot_along : effect_of i.op ≡ row.RemovesSlot → makes f o.value item.Entry ≡ false → is_there_at s.memory y ≡ true → PartsStay (removed l.memory y)
        → (slots : List Place) → parts.slots_behind (ClosesSlot y) frame.slots ≡ Ok slots → (entries : List Entry)
        → Put (record (unchanged (removed s.memory y)) { slots = ClosesSlot y }) entries
        → Goal (record (unchanged (removed s.memory y)) { slots = ClosesSlot y }) slots entries
    slot_along row_is own_slot there stay slots left entries put =
        let is : q ≡ y = u.exact own_slot in
        stays_along m bound s l frame rest f i ops x alone keeps (record (unchanged (removed s.memory y)) { slots = ClosesSlot y })
        (record (unchanged (removed l.memory y)) { slots = ClosesSlot y })
        (record { results = refl; dropped = refl; retained = refl; slots = refl; memory = place_removed s.memory l.memory x.memory y })
        (by_row row.RemovesSlot (AddressOf y ∷ []) (Makes (record (unchanged (removed l.memory y)) { slots = ClosesSlot y })) row_is (reads_it ∙ ap (λ (z : Place). AddressOf z ∷ []) is) refl)
        refl slots left entries put
        (stored_row told shapes l.memory inst row.RemovesSlot read_low read_low l.numbers row_is refl
        ∙ sym (stored_row held_told held_shapes s.memory i row.RemovesSlot ops.given ops.given l.numbers row_is refl)) stay.0 stay.1

  -- ---- stores of names

  module _ (a b : Operand) (w : Value) (y : Place) (both : i.operands ≡ a ∷ b ∷ []) (given : ops.given ≡ ValueOf w ∷ AddressOf y ∷ []) where
    abbrev under : ValueUnder m s l frame rest f i ops x a.value w × PlaceUnder m s l frame rest f i ops x b.value y
    under = value_and_place_under m s l frame rest f i ops x a b w y both given

    abbrev r : Place
    r = under.1.place

    -- `store_weak`, `store_unowned`
    pub stored_along : effect_of i.op ≡ row.StoresValue → (done : Operation) → operation_by (access_kind_of i.op) i.qualifier ≡ Some done → is_there_at s.memory y ≡ true
        → is_some (storage_in y.shape) ≡ true → (is_first_write done ≡ false → is_some (value_at s.memory y) ≡ true) → references_at s.memory y ≡ []
        → (entries : List Entry) → Put (record (unchanged (filled s.memory y w)) { dropped = references_at s.memory y }) entries
        → Goal (record (unchanged (filled s.memory y w)) { dropped = references_at s.memory y }) frame.slots entries
    stored_along row_is done is_done there storage held empty entries put =
        stays_along m bound s l frame rest f i ops x alone keeps (record (unchanged (filled s.memory y w)) { dropped = references_at s.memory y }) (unchanged (filled l.memory r w))
        (record { results = refl; dropped = sym empty; retained = refl; slots = refl; memory = memory_filled })
        (by_row row.StoresValue (ValueOf w ∷ AddressOf r ∷ []) (Makes (unchanged (filled l.memory r w))) row_is (both_read_low m s l frame rest f i ops x a b w y both given ∙ same_data) low_does)
        refl frame.slots refl entries put names
        (λ v p arg at part. filling_keeps l.memory r w p (given_parts m s l frame rest f i ops x v p arg at part)) (parts_kept m l.memory (filled l.memory r w)
        (filling_keeps l.memory r w) x.lrest x.full.1)
      where
        same_data : ValueOf w ∷ AddressOf (value_and_place_under m s l frame rest f i ops x a b w y both given).1.place ∷ [] ≡ ValueOf w ∷ AddressOf r ∷ []
        same_data = refl

        memory_filled : IsMemoryFor (filled s.memory y w) (filled l.memory r w)
        memory_filled =
            subst (λ (z : Place). IsMemoryFor (filled s.memory y w) (filled l.memory z w)) (sym under.1.same) (place_filled s.memory l.memory x.memory y w)

        full_below : is_some (value_at s.memory y) ≡ true → is_some (value_at l.memory r) ≡ true
        full_below h = by (value_at s.memory y) refl h
          where
            by : (o : Option Value) → value_at s.memory y ≡ o → is_some o ≡ true → is_some (value_at l.memory r) ≡ true
            by None e g = absurd (cc)
            by (Some z) e g = ap is_some (read_below m bound s l frame rest f i ops x b.value y under.1 z e)

        ok : (c : Bool) → is_first_write done ≡ c → (not (not c) || is_some (value_at l.memory r)) ≡ true
        ok true e = refl
        ok false e = full_below (held e)

        names_alive : (c : Bool) → find (is_dead l.memory) (cond c (references_of w) []) ≡ None
        names_alive true = under.0.alive
        names_alive false = refl

        storage_below : is_some (storage_in r.shape) ≡ true
        storage_below = ap (λ (z : Place). is_some (storage_in z.shape)) under.1.same ∙ storage

        low_does : low_effects.unless_dead d told shapes l.memory inst (low_effects.operated_on d told shapes l.memory inst row.StoresValue (ValueOf w ∷ AddressOf r ∷ []))
            (effect_by d told shapes l.memory inst (low_effects.at_places d told shapes l.memory inst) row.StoresValue (ValueOf w ∷ AddressOf r ∷ []))
            ≡ Makes (unchanged (filled l.memory r w))
        low_does =
            ap (λ c. with_some (λ o. two (value_and_place (low_effects.stores_by d told shapes l.memory inst o)) (ValueOf w ∷ AddressOf r ∷ [])) c) is_done
            ∙ ap (λ c. accessed d told shapes l.memory inst r (cond c (references_of w) []) (cond c (not (is_first_write done)) r.is_part) (Makes (unchanged (filled l.memory r w)))) storage_below
            ∙ accessed_so d told shapes l.memory inst r (references_of w) (not (is_first_write done)) (Makes (unchanged (filled l.memory r w)))
            (there_below m bound s l frame rest f i ops x b.value y under.1 there) under.0.alive under.1.alive (ok (is_first_write done) refl)

        stored_both : (ns : List Numbers) → stored_at d told shapes l.memory inst done w r ns ≡ stored_at d held_told held_shapes s.memory i done w y ns
        stored_both ns =
            ap (λ (z : Place). named ((in_cells z.shape).cells w) (cond (is_first_write done) ns (unnamed (cells_at l.memory z) ns))) under.1.same
            ∙ ap (λ us. named ((in_cells y.shape).cells w) (cond (is_first_write done) ns us))
            (unnamed_same (cells_at s.memory y) (cells_at l.memory y) ns (place_for s.memory l.memory x.memory y))

        names : stored_behind d told shapes l.memory inst read_low l.numbers ≡ stored_behind d held_told held_shapes s.memory i ops.given l.numbers
        names =
            stored_row told shapes l.memory inst row.StoresValue read_low (ValueOf w ∷ AddressOf r ∷ []) l.numbers row_is (both_read_low m s l frame rest f i ops x a b w y both given ∙ same_data)
            ∙ ap (λ c. value_stored d told shapes l.memory inst c (Some w) (Some r) l.numbers) is_done ∙ stored_both l.numbers
            ∙ sym (ap (λ c. value_stored d held_told held_shapes s.memory i c (Some w) (Some y) l.numbers) is_done)
            ∙ sym (stored_row held_told held_shapes s.memory i row.StoresValue ops.given (ValueOf w ∷ AddressOf y ∷ []) l.numbers row_is given)
