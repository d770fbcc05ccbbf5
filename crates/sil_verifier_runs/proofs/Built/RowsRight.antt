-- An instruction that leaves a change, by its row: the frame's objects are right behind it, and so are those below.
use Rattle.std.proofs.Common.{◌≡◌, List, [], ◌∷◌, refl, sym, ap, ◌∙◌, Bool, true, false, ◌&&◌, Some, Ok, Err}
use Rattle.std.specs.Prelude.{cond}
use Rattle.std.specs.declared.result.Result.{Result}
use Rattle.std.proofs.lemmas.Bool.{false≢true}
use Rattle.sil_verifier_frames.specs.holder_model.Effects as effects
use Rattle.sil_verifier_frames.specs.holder_model.Effects.{Change, ClosesSlot, effect_of}
use Rattle.sil_verifier_frames.specs.holder_model.Faults.{HolderFault, NotLastSlot}
use Rattle.sil_verifier_frames.specs.holder_model.Frames.{Entry, Frame, Operands, results_put}
use Rattle.sil_verifier_frames.specs.holder_model.MemoryEffects.{effect}
use Rattle.sil_verifier_frames.specs.holder_model.ModuleShapes.{shapes_in, shapes_of}
use Rattle.sil_verifier_frames.specs.holder_model.StepParts.{slots_behind}
use Rattle.sil_verifier_frames.specs.holder_model.Standing.{is_slot, on_stack}
use Rattle.sil_verifier_frames.specs.holder_model.States.{Runs, Task, dropping}
use Rattle.sil_verifier_frames.specs.holder_model.declared.row_effect.RowEffect.{RowEffect}
use Rattle.sil_verifier_frames.specs.holder_model.declared.row_effect.RowEffect.TheVariants as row
use Rattle.sil_verifier_frames.specs.ownership_kinds_origins.Facts.{facts_in}
use Rattle.sil_verifier_frames.specs.holder_model_laws.HolderLaws.inner.Held.Items.{frame_behind}
use Rattle.sil_verifier_frames.specs.holder_model_laws.HolderLaws.inner.Held.ObjectStates.{TasksBuild}
use Rattle.sil_cfg_items.specs.Items.{item_defined}
use Rattle.sil_cfg_items.specs.Parts.{inst_at}
use Rattle.holder_model_values.specs.RunValues.Memory.{Memory}
use Rattle.holder_model_values.specs.RunValues.Places.{Home, Inside, OnStack, Place}
use Rattle.holder_model_values.specs.RunValues.Shapes.{Shape}
use Rattle.sil_ast.specs.declared.function.Function.{Function}
use Rattle.sil_ast.specs.declared.inst.Inst.{Inst}
use Rattle.sil_ast.specs.declared.module.Module.{Module}
use Rattle.sil_ast.specs.declared.place.PointId.{PointId}
use Rattle.sil_cfg.specs.declared.item.Item.TheVariants as item
use Rattle.sil_types_declarations.specs.TypeDefinitions.Declarations.{declarations_of}
use Rattle.sil_verifier_frames.specs.holder_model_laws.HolderLaws.inner.Whole.Whole.{IsWholeMemory}
use Rattle.sil_verifier_runs.specs.inner.Built.Said.{said}
use Rattle.sil_verifier_runs.proofs.Built.HandedRows as handed
use Rattle.sil_verifier_runs.proofs.Built.HandedRows.{field_quietly, gives_quietly, handing_row, member_quietly}
use Rattle.sil_verifier_runs.proofs.Built.ItemsDone.{quietly_right}
use Rattle.sil_verifier_runs.proofs.Built.Makings.{made_right}
use Rattle.sil_verifier_runs.proofs.Built.OperandPlaces.{OthersOnStack}
use Rattle.sil_verifier_runs.proofs.Built.PlaceForms.{is_handing}
use Rattle.sil_verifier_runs.proofs.Built.StillRows as still
use Rattle.sil_verifier_runs.proofs.Built.StillRows.{is_special, still_quietly, still_row}
use Rattle.sil_verifier_runs.proofs.Built.StoreRows.{stored_right}
use Rattle.sil_verifier_runs.proofs.Built.WholeOperands.{Ready}

-- a slot that goes is on the stack
closed_home : (q : Place) (slots behind : List Place) → slots_behind (ClosesSlot q) slots ≡ Ok behind → q.home ≡ OnStack
closed_home q [] behind e = absurd (cc)
closed_home q (slot ∷ slots) behind e = at (is_slot q slot) refl e
  where
    home_is : (h : Home) (b : Bool) → (on_stack h && b) ≡ true → h ≡ OnStack
    home_is OnStack b so = refl
    home_is (Inside o) b so = absurd (false≢true so)

    at : (b : Bool) → is_slot q slot ≡ b → ◌≡◌ {A = Result (List Place) HolderFault} (cond b (Ok slots) (Err NotLastSlot)) (Ok behind) → q.home ≡ OnStack
    at true so e = home_is q.home _ so
    at false so e = absurd (cc)

module _ (m : Module) (memory : Memory) (rest : List (Task Frame)) (frame : Frame) (f : Function) (p : PointId)
    (ops : Operands) (ready : Ready m memory rest frame f (item.Inst p) ops) (x : Inst) (is : inst_at f p ≡ Some x) (others : OthersOnStack m frame f p)
    (c : Change) (made : effect (declarations_of m) (shapes_of m) (shapes_in (shapes_of m) frame.function) memory x ops.given ≡ effects.Makes c)
    (old slots : List Place) (closes : slots_behind c.slots old ≡ Ok slots) (behind : List Entry)
    (put : results_put (facts_in (declarations_of m) f) (item_defined f (item.Inst p)) c.results ops.left ≡ Ok behind) where
  abbrev values : List Shape
  values = shapes_in (shapes_of m) frame.function

  abbrev Leads : Type 0
  Leads = IsWholeMemory c.memory × TasksBuild m (said m) c.memory (dropping c.dropped (Runs (frame_behind frame (item.Inst p) behind slots) ∷ rest))

  -- what is handed on, or named
  hands_on : (e : RowEffect) → is_handing e ≡ true → effect_of x.op ≡ e → Leads
  hands_on row.GivesOperand h e =
      quietly_right m memory rest frame f (item.Inst p) ops.left ready.doing
      (handed.makes_none m memory rest frame f p ops ready x is (handing_row x.op (ap is_handing e)))
      (handed.writes_none m memory rest frame f p ops ready x is (handing_row x.op (ap is_handing e))) c
      (gives_quietly m memory rest frame f p ops ready x is c values made e) (facts_in (declarations_of m) f) behind slots put
  hands_on row.AddressesMember h e =
      quietly_right m memory rest frame f (item.Inst p) ops.left ready.doing
      (handed.makes_none m memory rest frame f p ops ready x is (handing_row x.op (ap is_handing e)))
      (handed.writes_none m memory rest frame f p ops ready x is (handing_row x.op (ap is_handing e))) c
      (member_quietly m memory rest frame f p ops ready x is c values made e) (facts_in (declarations_of m) f) behind slots put
  hands_on row.AddressesField h e =
      quietly_right m memory rest frame f (item.Inst p) ops.left ready.doing
      (handed.makes_none m memory rest frame f p ops ready x is (handing_row x.op (ap is_handing e)))
      (handed.writes_none m memory rest frame f p ops ready x is (handing_row x.op (ap is_handing e))) c
      (field_quietly m memory rest frame f p ops ready x is c values made e) (facts_in (declarations_of m) f) behind slots put
  hands_on _ h e = absurd (false≢true h)

  special : (e : RowEffect) → is_special e ≡ true → effect_of x.op ≡ e → Leads
  special row.MakesObject h e = made_right m memory rest frame f p ops ready x is c made e behind slots put
  special row.StoresValue h e = stored_right m memory rest frame f p ops ready x is others c values made e (facts_in (declarations_of m) f) behind slots put
  special row.GivesOperand h e = hands_on row.GivesOperand refl e
  special row.AddressesMember h e = hands_on row.AddressesMember refl e
  special row.AddressesField h e = hands_on row.AddressesField refl e
  special _ h e = absurd (false≢true h)

  usual : is_special (effect_of x.op) ≡ false → Leads
  usual none =
      quietly_right m memory rest frame f (item.Inst p) ops.left ready.doing
      (still.makes_none m memory rest frame f p ops ready x is others (shapes_of m) values (still_row x.op none) none)
      (still.writes_none m memory rest frame f p ops ready x is others (shapes_of m) values (still_row x.op none) none) c
      (still_quietly m memory rest frame f p ops ready x is others (shapes_of m) values (still_row x.op none) none c made
      (λ q so. closed_home q old slots (ap (λ k. slots_behind k old) (sym so) ∙ closes)))
      (facts_in (declarations_of m) f) behind slots put

  pub row_right : Leads
  row_right = at (is_special (effect_of x.op)) refl
    where
      at : (b : Bool) → is_special (effect_of x.op) ≡ b → Leads
      at true so = special (effect_of x.op) so refl
      at false so = usual so
