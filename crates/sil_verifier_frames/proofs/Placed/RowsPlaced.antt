-- The tasks behind an instruction's change: what the frame holds there, by what its row does.
use Rattle.std.proofs.Common.{◌≡◌, ◌<◌, ⊎_elim, ℕ, List, [], ◌∷◌, ◌++◌, append-nil, length, true, false, Contains, Option, Some, Ok, refl, sym, ap, ◌∙◌, subst, slice_get}
use Rattle.std.proofs.lemmas.List.Elements.{Contains-push}
use Rattle.holder_model_laws.specs.holder_model.Data.{AddressOf, Datum, ValueOf}
use Rattle.holder_model_laws.specs.holder_model.Effects.{Change, SameSlots, effect_of}
use Rattle.holder_model_laws.specs.holder_model.Frames.{Entry, Frame, results_put}
use Rattle.holder_model_laws.specs.holder_model.MemoryEffects.{operation_done}
use Rattle.holder_model_laws.specs.holder_model.ModuleShapes.{ModuleShapes}
use Rattle.holder_model_laws.specs.holder_model.StepParts.{slots_behind}
use Rattle.holder_model_laws.specs.holder_model.States.{Runs, Task, dropping}
use Rattle.holder_model_laws.specs.holder_model.declared.row_effect.RowEffect.TheVariants as row
use Rattle.holder_model_laws.specs.memory_rules_accesses.Operations.{access_kind_of, deallocates, operations_of}
use Rattle.holder_model_laws.specs.memory_rules_accesses.Sources.{is_trivial_at, sources_of}
use Rattle.holder_model_laws.specs.memory_rules_accesses.declared.access.Operation.{Operation}
use Rattle.holder_model_laws.specs.memory_rules_accesses.declared.access.Operation.TheVariants.{Take}
use Rattle.holder_model_laws.specs.memory_rules_parts.Parts.{whole_cell}
use Rattle.sil_verifier_trails.specs.RunTrails.inner.RunTrails.{GoesOn, IsRunTrail}
use Rattle.sil_verifier_trails.specs.AcceptedPlaces.inner.Cells.{touches}
use Rattle.sil_verifier_trails.specs.AcceptedPlaces.inner.Located.{IsAddress}
use Rattle.sil_verifier_trails.specs.AcceptedPlaces.inner.Stacks.{keeps_slots, keeps_slots_by}
use Rattle.sil_verifier_trails.specs.sil_verifier_values.inner.Known.{IsAcceptedBody}
use Rattle.sil_cfg_items.specs.Items.{item_defined, item_taken, taken_in}
use Rattle.sil_cfg_items.specs.Parts.{inst_at}
use Rattle.sil_cfg_items.specs.Roles.{taken_by}
use Rattle.numbered_form.specs.Lists.{Each}
use Rattle.holder_model_laws.specs.ownership_kinds_chains.declared.ownership_chains.facts.Facts.{Facts}
use Rattle.holder_model_values.specs.RunValues.inner.Fits.{fits}
use Rattle.holder_model_values.specs.RunValues.Memory.{Memory}
use Rattle.holder_model_values.specs.RunValues.Places.{Place, emptied, filled}
use Rattle.holder_model_values.specs.RunValues.Shapes.{Shape}
use Rattle.holder_model_values.specs.RunValues.Trivial.{is_trivial}
use Rattle.holder_model_values.specs.RunValues.Values.{Value}
use Rattle.sil_ast.specs.declared.function.Function.{Function}
use Rattle.sil_ast.specs.declared.inst.Inst.{Inst}
use Rattle.sil_ast.specs.declared.module.Module.{Module}
use Rattle.sil_ast.specs.declared.place.PointId.{PointId}
use Rattle.sil_ast.specs.declared.place.ValueId.{ValueId}
use Rattle.sil_cfg.specs.declared.item.Item.{Item}
use Rattle.sil_cfg.specs.declared.item.Item.TheVariants as item
use Rattle.sil_types_declarations.specs.TypeDefinitions.Declarations.{Declarations, declarations_of}
use Rattle.sil_verifier_frames.specs.inner.Placed.FramePlaces.{HoldsPlaces, Names}
use Rattle.sil_verifier_frames.specs.inner.Placed.PartsNamed.{AreNewNamed}
use Rattle.sil_verifier_frames.specs.inner.Placed.PlaceStates.{BelowPlaced, TasksPlaced}
use Rattle.sil_verifier_frames.specs.inner.Placed.Roots.{IsThere}
use Rattle.sil_verifier_frames.specs.inner.Placed.TakenPlaces.{AreNamedBy}
use Rattle.sil_verifier_frames.specs.inner.Placed.TrailLaws.{TrailLaws}
use Rattle.sil_verifier_frames.proofs.Placed.Contents.{nothing_touched}
use Rattle.sil_verifier_frames.proofs.Placed.EffectsAt.{IsDoneBy, Leaves, is_at_place}
use Rattle.sil_verifier_frames.proofs.Placed.EntriesKept.{ok_once}
use Rattle.sil_verifier_frames.proofs.Placed.Locating.{IsOperandAt, operand_at}
use Rattle.sil_verifier_frames.proofs.Placed.Moving.{DoesAt, HoldsBehind, empties_behind, fills_behind, looks_behind, moved, still_behind}
use Rattle.sil_verifier_frames.proofs.Placed.Operating.{Fills, Looks}
use Rattle.sil_verifier_frames.proofs.Placed.PlaceRows.{DoesOne, does_first, does_second, looked_after, place_kept, place_slots, reading_done, reads_one, storing_done, taken_after}
use Rattle.sil_verifier_frames.proofs.Placed.Quiet.{PutsResults}
use Rattle.sil_verifier_frames.proofs.Placed.RowChanges.{StaysStill}
use Rattle.sil_verifier_frames.proofs.Placed.RowsAt.{is_store, not_removed}

module _ (laws : TrailLaws) (m : Module) (number : ℕ) (f : Function) (body : IsAcceptedBody m number f) (facts : ValueId → Option Facts)
    (memory : Memory) (frame : Frame) (rest : List (Task Frame)) (point : PointId) (x : Inst) (xs : List Datum) where
  -- the frame, behind the operands that ended, stands before the instruction, with these operands
  pub record StandsBefore : Type 0 where
    pub is : slice_get m.functions frame.function.0 ≡ Some f
    pub inst : inst_at f point ≡ Some x
    pub holds : HoldsPlaces m memory f frame rest
    pub none_lent : frame.lent ≡ []
    pub goes : GoesOn frame.trail
    pub trail : IsRunTrail f (item.Inst point ∷ frame.trail)
    pub below : BelowPlaced m memory frame rest
    pub address : (v : ValueId) (p : Place) → Names frame.entries v p → IsAddress (declarations_of m) f v
    pub named : AreNamedBy frame.entries (taken_by x) xs
    pub fit : effect_of x.op ≡ row.StoresValue → (y : Value) (q : Place) → xs ≡ ValueOf y ∷ AddressOf q ∷ [] → fits q.shape y ≡ true
    pub room : Each (λ (v : ValueId). v.0 < length frame.entries) (item_defined f (item.Inst point))
    pub made : effect_of x.op ≡ row.MakesSlot → (v : ValueId) → item_defined f (item.Inst point) ≡ v ∷ [] → IsAddress (declarations_of m) f v
    pub shaped : (t : List Item) (v : ValueId) → IsThere (declarations_of m) f t v → (p : Place) → Names frame.entries v p
        → is_trivial p.shape ≡ is_trivial_at (sources_of (declarations_of m) f) v

  -- and goes on behind it with a change
  pub record GoesWith (c : Change) (slots : List Place) (entries : List Entry) : Type 0 where
    pub slots_are : slots_behind c.slots frame.slots ≡ Ok slots
    pub put : results_put facts (item_defined f (item.Inst point)) c.results frame.entries ≡ Ok entries
    pub news : AreNewNamed (sources_of (declarations_of m) f) f frame.trail (item.Inst point) frame.entries entries

  abbrev pub next_frame : List Place → List Entry → Frame
  next_frame slots entries = record frame { trail = item.Inst point ∷ frame.trail; entries = entries; slots = slots; lent = [] }

  abbrev pub ArePlaced : Change → List Place → List Entry → Type 0
  ArePlaced c slots entries = TasksPlaced m c.memory (dropping c.dropped (Runs (next_frame slots entries) ∷ rest))

  pub taken_is : inst_at f point ≡ Some x → item_taken f (item.Inst point) ≡ taken_by x
  taken_is inst = ap (λ o. taken_in o ++ []) inst ∙ append-nil (taken_by x)

  -- the operand whose place the row does something at
  pub does_one : StandsBefore → (d : Declarations) (shapes : ModuleShapes) (values : List Shape) (o : Operation) (p : Place) → operation_done d shapes values memory x ≡ Some o
      → (after : Memory) → IsDoneBy d shapes values memory x (effect_of x.op) xs o p after → DoesOne x frame.entries o p
  does_one s d shapes values o p done _ (IsDoneBy.reads reading given) =
      does_first x frame.entries p o (reads_one (effect_of x.op) reading) done (subst (AreNamedBy frame.entries (taken_by x)) given s.named)
  does_one s d shapes values o p done _ (IsDoneBy.writes y stores given) =
      does_second x frame.entries p o (ap is_store stores) done (ValueOf y) (subst (AreNamedBy frame.entries (taken_by x)) given s.named)

  pub operand_among : StandsBefore → (o : Operation) (p : Place) (one : DoesOne x frame.entries o p) → Contains (item_taken f (item.Inst point)) one.taken
  operand_among s o p one = subst (λ ts. Contains ts one.taken) (sym (taken_is s.inst ∙ one.operands)) (Contains-push one.front one.taken)

  module _ (s : StandsBefore) (c : Change) (slots : List Place) (entries : List Entry) (g : GoesWith c slots entries) where
    pub puts : (after : Memory) → PutsResults laws m number f body facts memory after frame rest (item.Inst point) c.results entries
    puts after = record { holds = s.holds; goes = s.goes; trail = s.trail; put = g.put }

    same_slots : c.slots ≡ SameSlots → slots ≡ frame.slots
    same_slots same = sym (ok_once frame.slots slots (sym (ap (λ k. slots_behind k frame.slots) same) ∙ g.slots_are))

    -- the memory is so
    placed_in : (after : Memory) → Leaves after c → HoldsBehind laws m number f body facts memory after frame rest (item.Inst point) c.results entries → ArePlaced c slots entries
    placed_in after leaves h =
        subst (λ k. TasksPlaced m k (dropping c.dropped (Runs (next_frame slots entries) ∷ rest))) (sym leaves.1)
        (moved laws m number f body facts memory after frame rest (item.Inst point) c.results entries (puts after) h s.is s.below slots (same_slots leaves.0) c.dropped)

    -- nothing is done at a place on the stack
    pub still_placed : operations_of x ≡ [] → deallocates x ≡ false → keeps_slots_by (access_kind_of x.op) ≡ true → StaysStill memory c → ArePlaced c slots entries
    still_placed none kept keeps same = placed_in c.memory (same.0, refl)
        (still_behind laws m number f body facts memory c.memory frame rest (item.Inst point) c.results entries (puts c.memory) s.none_lent same.1
        (laws.slots_kept m number f body frame.trail (item.Inst point) (ap keeps_slots s.inst ∙ keeps))
        (λ v there. ap (touches (sources_of (declarations_of m) f) (whole_cell v)) s.inst ∙ nothing_touched laws m number f body x none kept (whole_cell v)) g.news)

    -- ---- at a place

    module _ (o : Operation) (p : Place) (at : is_at_place (effect_of x.op) ≡ true) (one : DoesOne x frame.entries o p) where
      does : (after : Memory) → DoesAt laws m number f body facts memory frame rest point x c.results entries one.taken.value o p after
      does after = record {
        puts = puts after;
        none_lent = s.none_lent;
        inst = s.inst;
        does = record { operations = one.operations; kept = not_removed x (place_kept (effect_of x.op) at) };
        operand = here;
        slots = ap keeps_slots s.inst ∙ place_slots x.op at;
        names = one.names;
        news = g.news;
        inner = λ field home.
            s.holds.fields one.taken.value here.location here.is field.of field.place field.trivial field.source p one.names home;
      }
        where
          here : IsOperandAt laws m number f body frame.trail one.taken.value
          here = operand_at laws m number f body frame.trail (item.Inst point) s.trail one.taken (operand_among s o p one) (s.address one.taken.value p one.names)

      looks : Looks o → HoldsBehind laws m number f body facts memory memory frame rest (item.Inst point) c.results entries
      looks how = looks_behind laws m number f body facts memory frame rest point x c.results entries one.taken.value o p (does memory) how

      fills : (y : Value) → Fills o → fits p.shape y ≡ true
          → HoldsBehind laws m number f body facts memory (filled memory p y) frame rest (item.Inst point) c.results entries
      fills y how fit = fills_behind laws m number f body facts memory frame rest point x c.results entries one.taken.value o p y (does (filled memory p y)) how fit

      empties : o ≡ Take → HoldsBehind laws m number f body facts memory (emptied memory p) frame rest (item.Inst point) c.results entries
      empties how = empties_behind laws m number f body facts memory frame rest point x c.results entries one.taken.value o p (does (emptied memory p)) how

    module _ (d : Declarations) (shapes : ModuleShapes) (values : List Shape) (at : is_at_place (effect_of x.op) ≡ true) (o : Operation) (p : Place)
        (done : operation_done d shapes values memory x ≡ Some o) where
      -- by what the row does there
      pub place_placed : (after : Memory) → IsDoneBy d shapes values memory x (effect_of x.op) xs o p after → Leaves after c → ArePlaced c slots entries
      place_placed _ (IsDoneBy.reads reading given) leaves =
          let one = does_one s d shapes values o p done _ (IsDoneBy.reads reading given) in
          ⊎_elim
          (λ (how : Looks o). placed_in memory (leaves.0, leaves.1 ∙ looked_after o how memory p) (looks o p at one how))
          (λ (how : o ≡ Take). placed_in (emptied memory p) (leaves.0, leaves.1 ∙ taken_after o how memory p) (empties o p at one how))
          (reading_done x.op x.qualifier o reading done)
      place_placed _ (IsDoneBy.writes y stores given) leaves =
          let one = does_one s d shapes values o p done _ (IsDoneBy.writes y stores given) in
          placed_in (filled memory p y) leaves (fills o p at one y (storing_done x.op x.qualifier o (ap is_store stores) done) (s.fit stores y p given))
