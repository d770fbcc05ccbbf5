-- An instruction that isn't a call of a function with a body: the frame behind it holds its places, and it meets no fault of places.
use Rattle.std.proofs.Common.{◌≡◌, ℕ, ℤ, List, [], ◌∷◌, ◌++◌, drop, Contains, Option, Some, None, refl, sym, ap, ◌∙◌, subst, slice_get}
use Rattle.std.specs.Prelude.{option_and_then}
use Rattle.std.proofs.lemmas.List.Elements.{Contains-push}
use Rattle.holder_model_laws.specs.holder_model.Calling.{lent_places, lent_with}
use Rattle.holder_model_laws.specs.holder_model.Data.{AddressOf, Datum, FunctionOf, ValueOf, all_of, values_of, with_first}
use Rattle.holder_model_laws.specs.holder_model.Effects.{Calls, Change, Makes, effect_of, unchanged}
use Rattle.holder_model_laws.specs.holder_model.Frames.{Entry, Frame, Operands}
use Rattle.holder_model_laws.specs.holder_model.HolderStates.{HolderNext, HolderState}
use Rattle.holder_model_laws.specs.holder_model.ModuleFacts.{facts_of, facts_told}
use Rattle.holder_model_laws.specs.holder_model.ModuleShapes.{shapes_in, shapes_of}
use Rattle.holder_model_laws.specs.holder_model.Standing.{stands_at}
use Rattle.holder_model_laws.specs.holder_model.States.{Task}
use Rattle.holder_model_laws.specs.holder_model.Steps.{numbers_of}
use Rattle.holder_model_laws.specs.holder_model.declared.event.Event.{Event}
use Rattle.holder_model_laws.specs.holder_model.declared.row_effect.RowEffect.TheVariants as row
use Rattle.holder_model_laws.specs.memory_rules_accesses.Operations.{operated, operations_of}
use Rattle.holder_model_laws.specs.memory_rules_accesses.declared.access.Operated.{Operated}
use Rattle.sil_verifier_trails.specs.sil_verifier_values.inner.Known.{IsAcceptedBody}
use Rattle.argument_conventions.specs.declared.row.AddressRow.{AddressRow}
use Rattle.holder_model_laws.specs.HolderLaws.inner.Steps.Ways.{GoesBehind, left_with, turned}
use Rattle.holder_model_laws.proofs.HolderLaws.Steps.WhichFaults.{results_err}
use Rattle.sil_cfg_items.specs.Items.{item_defined, item_taken}
use Rattle.sil_cfg_items.specs.declared.taken.Taken.{Taken}
use Rattle.holder_model_laws.specs.ownership_kinds_chains.declared.ownership_chains.facts.Facts.{Facts}
use Rattle.holder_model_values.specs.RunValues.Shapes.{Shape}
use Rattle.holder_model_values.specs.RunValues.Values as value
use Rattle.holder_model_values.specs.RunValues.Values.{Value, integer_of}
use Rattle.sil_ast.specs.declared.function.Function.{Function}
use Rattle.sil_ast.specs.declared.inst.Inst.{Inst}
use Rattle.sil_ast.specs.declared.module.Module.{Module}
use Rattle.sil_ast.specs.declared.place.FuncId.{FuncId}
use Rattle.sil_ast.specs.declared.place.PointId.{PointId}
use Rattle.sil_ast.specs.declared.place.ValueId.{ValueId}
use Rattle.sil_cfg.specs.declared.item.Item.TheVariants as item
use Rattle.sil_types_declarations.specs.TypeDefinitions.Declarations.{declarations_of}
use Rattle.sil_verifier_frames.specs.inner.Placed.Items.{AreFieldsFound, AreItemsPlaced, IsItemPlaced, PlacedNext, StandsAtItem, effect_here}
use Rattle.sil_verifier_frames.specs.inner.Placed.PlaceStates.{AreLentBy}
use Rattle.sil_verifier_frames.specs.inner.Placed.TrailLaws.{TrailLaws}
use Rattle.sil_verifier_frames.proofs.Placed.AtItem.{accepted, call_news, goes_with, named_before, reads, stands}
use Rattle.sil_verifier_frames.proofs.Placed.ChangesPlaced.{FieldsFound, change_placed, never_faults, slot_right}
use Rattle.sil_verifier_frames.proofs.Placed.FirstFrames.{TypingLaws}
use Rattle.sil_verifier_frames.proofs.Placed.OtherFaults.{result_fault}
use Rattle.sil_verifier_frames.proofs.Placed.RowCalls.{calls_by_row}
use Rattle.sil_verifier_frames.proofs.Placed.RowChanges.{is_still, still_slots}
use Rattle.sil_verifier_frames.proofs.Placed.RowsAt.{is_removal, not_removed}
use Rattle.sil_verifier_frames.proofs.Placed.RowsPlaced.{StandsBefore, still_placed}

-- ---- operands that are values

-- lend nothing
values_lend : (ts : List Taken) (xs : List Datum) (vs : List Value) → values_of xs ≡ Some vs → lent_places ts xs ≡ []
values_lend [] xs vs e = refl
values_lend (t ∷ ts) [] vs e = refl
values_lend (t ∷ ts) (AddressOf p ∷ xs) vs e = absurd (cc)
values_lend (t ∷ ts) (FunctionOf g ∷ xs) vs e = absurd (cc)
values_lend (t ∷ ts) (ValueOf v ∷ xs) vs e =
    ap (λ ls. lent_with t.handed None ++ ls) (rest (values_of xs) e (λ ws is. values_lend ts xs ws is)) ∙ none t.handed
  where
    rest : (o : Option (List Value)) → with_first (Some v) o ≡ Some vs → ((ws : List Value) → o ≡ Some ws → lent_places ts xs ≡ []) → lent_places ts xs ≡ []
    rest None h others = absurd (cc)
    rest (Some ws) h others = others ws refl

    none : (r : Option AddressRow) → lent_with r None ++ [] ≡ []
    none None = refl
    none (Some r) = refl

some_values : (o : Option (List Value)) (numbers : List ℤ) → option_and_then (all_of integer_of) o ≡ Some numbers → (vs : List Value) × (o ≡ Some vs)
some_values None numbers e = absurd (cc)
some_values (Some vs) numbers e = (vs, refl)

none_lent_by : (entries : List Entry) (os : List Operated) → AreLentBy entries os [] → os ≡ []
none_lent_by entries [] h = refl
none_lent_by entries (o ∷ os) h = absurd h

module _ (laws : TrailLaws) (typing : TypingLaws) (m : Module) (bound : ℕ) (s : HolderState) (frame : Frame) (rest : List (Task Frame)) (f : Function) (i : Inst)
    (ops : Operands) (at : StandsAtItem m bound s frame rest f i ops) where
  -- the frame behind the operands that end, and what it goes on with
  abbrev held : Frame
  held = left_with m (facts_of m) bound frame ops

  abbrev number : ℕ
  number = frame.function.0

  abbrev p : PointId
  p = stands_at f frame.trail

  abbrev told : ValueId → Option Facts
  told = facts_told (facts_of m) frame.function

  abbrev shapes : List Shape
  shapes = shapes_in (shapes_of m) frame.function

  abbrev own : IsAcceptedBody m frame.function.0 f
  own = accepted laws typing m bound s frame rest f i ops at

  abbrev before : StandsBefore laws m frame.function.0 f (accepted laws typing m bound s frame rest f i ops at) (facts_told (facts_of m) frame.function) s.memory
      (left_with m (facts_of m) bound frame ops) rest (stands_at f frame.trail) i ops.given
  before = stands laws typing m bound s frame rest f i ops at

  -- ---- a change

  makes_placed : (c : Change) (next : HolderNext) → effect_here m bound s frame rest f i ops ≡ Makes c
      → GoesBehind m (facts_of m) bound s rest held f (item.Inst p) c next → PlacedNext (AreFieldsFound m bound s) m next
  makes_placed c _ e (GoesBehind.goes slots entries is put) =
      change_placed (declarations_of m) (shapes_of m) shapes s.memory i ops.given laws m number f own told held rest p before c e slots entries
      (goes_with laws typing m bound s frame rest f i ops at c e slots entries is put)
  makes_placed c _ e (GoesBehind.wrong_slot x wrong) =
      absurd (slot_right (declarations_of m) (shapes_of m) shapes s.memory i ops.given laws m number f own told held rest p before c e x wrong)
  makes_placed c _ e (GoesBehind.wrong_result slots x is put) = λ found. result_fault x (results_err told (item_defined f (item.Inst p)) c.results ops.left x put)

  -- ---- a function without a body is called

  module _ (g : FuncId) (args : List Datum) (e : effect_here m bound s frame rest f i ops ≡ Calls g args) where
    call : effect_of i.op ≡ row.CallsFunction
    call = calls_by_row (declarations_of m) (shapes_of m) shapes s.memory i ops.given g args e

    -- as all its operands are numbers it does nothing at places
    nothing_done : (callee : Function) → slice_get m.functions g.0 ≡ Some callee → (numbers : List ℤ) → numbers_of m (facts_of m) bound args ≡ Some numbers → operations_of i ≡ []
    nothing_done callee there numbers is =
        let vs = some_values (values_of args) numbers is in
        let over = typing.calls m number f at.typed.world told s.memory frame.entries p ops (reads laws typing m bound s frame rest f i ops at) i at.stands (shapes_of m) shapes
        g args callee e there in
        none_lent_by ops.left (operations_of i) (subst (AreLentBy ops.left (operations_of i)) (values_lend (drop 1 (item_taken f (item.Inst p))) args vs.0 vs.1) over.lent)

    abbrev change : Change
    change = record (unchanged s.memory) { results = ValueOf (value.Group value.NoValue) ∷ [] }

    out_placed : (callee : Function) (numbers : List ℤ) (events : List Event) (next : HolderNext) → slice_get m.functions g.0 ≡ Some callee
        → numbers_of m (facts_of m) bound args ≡ Some numbers
        → GoesBehind m (facts_of m) bound (record (turned s) { events = events }) rest held f (item.Inst p) change next
        → PlacedNext (AreFieldsFound m bound s) m next
    out_placed callee numbers events _ there is (GoesBehind.goes slots entries slots_are put) =
        still_placed laws m number f own told s.memory held rest p i ops.given before change slots entries
        (record { slots_are = slots_are; put = put; news = call_news laws typing m bound s frame rest f i ops at call entries })
        (nothing_done callee there numbers is) (not_removed i (ap is_removal call)) (still_slots i.op (ap is_still call)) (refl, refl)
    out_placed callee numbers events _ there is (GoesBehind.wrong_slot x wrong) = absurd (cc)
    out_placed callee numbers events _ there is (GoesBehind.wrong_result slots x slots_are put) =
        λ found. result_fault x (results_err told (item_defined f (item.Inst p)) change.results ops.left x put)

  -- ---- a fault

  fields_found : AreFieldsFound m bound s → FieldsFound (declarations_of m) (shapes_of m) shapes s.memory i ops.given laws m number f own told held rest p before
  fields_found found o q one operand field =
      found frame rest f i ops at.first at.is at.stands at.found (operated one.taken.value o)
      (subst (λ os. Contains os (operated one.taken.value o)) (sym one.operations) (Contains-push [] (operated one.taken.value o)))
      operand.location operand.is field.of field.place field.trivial field.source q
      (named_before laws typing m bound s frame rest f i ops at one.taken.value q one.names)

  item_placed : IsItemPlaced m bound s frame rest f i ops
  item_placed = record {
    makes = makes_placed;
    calls_out = λ g args callee numbers events next e there bodiless is way. out_placed g args e callee numbers events next there is way;
    faults = λ x e found.
        absurd (never_faults (declarations_of m) (shapes_of m) shapes s.memory i ops.given laws m number f own told held rest p before (fields_found found) x e);
  }

pub items_placed : TrailLaws → TypingLaws → AreItemsPlaced
items_placed laws typing m bound s frame rest f i ops at = item_placed laws typing m bound s frame rest f i ops at
