-- A frame that stands at an instruction whose operands are found: behind those that end it holds its places, and all that typing says of the instruction is there.
use Rattle.std.proofs.Common.{◌≡◌, ℕ, List, [], ◌∷◌, map, length, ◌<◌, Option, Ok, refl, sym, ap, ◌∙◌, subst}
use Rattle.std.proofs.lemmas.Option.{same_Some}
use Rattle.holder_model_laws.specs.holder_model.Data.{AddressOf, Datum}
use Rattle.holder_model_laws.specs.holder_model.Effects as effects
use Rattle.holder_model_laws.specs.holder_model.Effects.{Change, Makes, effect_by, effect_of}
use Rattle.holder_model_laws.specs.holder_model.Faults.{HolderFault}
use Rattle.holder_model_laws.specs.holder_model.Frames.{Entry, Frame, Operands, results_put}
use Rattle.holder_model_laws.specs.holder_model.HolderStates.{HolderState}
use Rattle.holder_model_laws.specs.holder_model.MemoryEffects.{at_places}
use Rattle.holder_model_laws.specs.holder_model.ModuleFacts.{facts_of, facts_told}
use Rattle.holder_model_laws.specs.holder_model.ModuleShapes.{shapes_in, shapes_of}
use Rattle.holder_model_laws.specs.holder_model.Standing.{stands_at}
use Rattle.holder_model_laws.specs.holder_model.StepParts.{slots_behind}
use Rattle.holder_model_laws.specs.holder_model.States.{Runs, Task}
use Rattle.holder_model_laws.specs.holder_model.declared.row_effect.RowEffect.TheVariants as row
use Rattle.holder_model_laws.specs.memory_rules_accesses.Sources.{sources_of}
use Rattle.sil_verifier_trails.specs.RunTrails.inner.RunTrails.{IsRunTrail}
use Rattle.sil_verifier_trails.specs.AcceptedPlaces.inner.Located.{IsAddress}
use Rattle.sil_verifier_trails.specs.sil_verifier_values.inner.Known.{IsAcceptedBody}
use Rattle.sil_verifier_trails.specs.holder_model_typing.OwnedRunTyping.inner.OwnedTyped.{OwnedFunction, OwnedInst}
use Rattle.holder_model_laws.specs.holder_model.RunTyping.EndForms.{value_in}
use Rattle.holder_model_laws.specs.holder_model.RunTyping.Forms.{Form, OfPlace, form_of, forms_of}
use Rattle.sil_verifier_trails.proofs.RunTrails.WalkEdges.{are_next}
use Rattle.holder_model_laws.specs.HolderLaws.inner.Steps.Ways.{left_with}
use Rattle.sil_cfg_items.specs.Items.{item_defined, item_taken}
use Rattle.numbered_form.specs.Lists.{Each}
use Rattle.holder_model_laws.specs.ownership_kinds_chains.declared.ownership_chains.facts.Facts.{Facts}
use Rattle.holder_model_values.specs.RunValues.Places.{Place}
use Rattle.holder_model_values.specs.RunValues.Shapes.{Shape}
use Rattle.sil_ast.specs.declared.function.Function.{Function}
use Rattle.sil_ast.specs.declared.inst.Inst.{Inst}
use Rattle.sil_ast.specs.declared.module.Module.{Module}
use Rattle.sil_ast.specs.declared.place.PointId.{PointId}
use Rattle.sil_ast.specs.declared.place.ValueId.{ValueId}
use Rattle.sil_cfg.specs.declared.item.Item.TheVariants as item
use Rattle.sil_types_declarations.specs.TypeDefinitions.Declarations.{declarations_of}
use Rattle.sil_verifier_frames.specs.inner.Typed.TypedStates.{FrameIs, TasksAre}
use Rattle.sil_verifier_frames.proofs.Typed.Data.{DataAre}
use Rattle.sil_verifier_frames.proofs.Typed.Effects.{Changed, EffectFits}
use Rattle.sil_verifier_frames.proofs.Typed.Entries.{FitEach, fit_data, operands_fit}
use Rattle.sil_verifier_frames.proofs.Typed.GoesOn.{typed_module}
use Rattle.sil_verifier_frames.proofs.Typed.Operands.{operands_read}
use Rattle.sil_verifier_frames.proofs.Typed.Performs.{defines_results}
use Rattle.sil_verifier_frames.proofs.Typed.RowForms.{row_fits}
use Rattle.sil_verifier_frames.proofs.Typed.ShapesTold.{result_told}
use Rattle.sil_verifier_trails.specs.holder_model_typing.TypedMemory.inner.Worlds.{World}
use Rattle.sil_verifier_frames.specs.inner.Placed.FramePlaces.{HoldsPlaces, Names}
use Rattle.sil_verifier_frames.specs.inner.Placed.Items.{StandsAtItem, effect_here}
use Rattle.sil_verifier_frames.specs.inner.Placed.PartsNamed.{AreNewNamed}
use Rattle.sil_verifier_frames.specs.inner.Placed.PlaceStates.{TasksPlaced}
use Rattle.sil_verifier_frames.specs.inner.Placed.Premises.{ReadsOperands}
use Rattle.sil_verifier_frames.specs.inner.Placed.TakenPlaces.{AreNamedBy}
use Rattle.sil_verifier_frames.specs.inner.Placed.TrailLaws.{TrailLaws}
use Rattle.sil_verifier_frames.proofs.Placed.EntriesKept.{left_was}
use Rattle.sil_verifier_frames.proofs.Placed.FirstFrames.{IsFirst, TypingLaws, body, left_first}
use Rattle.sil_verifier_frames.proofs.Placed.PlainAddresses.{address_form, named_address}
use Rattle.sil_verifier_frames.proofs.Placed.RowsPlaced.{GoesWith, StandsBefore, taken_is}

-- the form of what is put as an address
place_form : (m : Module) (w : World) {forms : List Form} {xs : List Datum} → DataAre m w forms xs → (form : Form) (p : Place) → forms ≡ form ∷ [] → xs ≡ AddressOf p ∷ []
    → form ≡ OfPlace p.shape
place_form m w DataAre.none form p e given = absurd (cc)
place_form m w (DataAre.more first x forms xs is rest) form p e given =
    let one : first ≡ form = cc in
    let at : x ≡ AddressOf p = cc in
    sym one ∙ address_form m w first x p is at

module _ (laws : TrailLaws) (typing : TypingLaws) (m : Module) (bound : ℕ) (s : HolderState) (frame : Frame) (rest : List (Task Frame)) (f : Function) (i : Inst)
    (ops : Operands) (at : StandsAtItem m bound s frame rest f i ops) where
  abbrev number : ℕ
  number = frame.function.0

  abbrev point : PointId
  point = stands_at f frame.trail

  abbrev facts : ValueId → Option Facts
  facts = facts_told (facts_of m) frame.function

  abbrev values : List Shape
  values = shapes_in (shapes_of m) frame.function

  abbrev left : Frame
  left = left_with m (facts_of m) bound frame ops

  abbrev w : World
  w = at.typed.world

  -- ---- the frame

  are_typed : TasksAre m at.typed.world (Runs frame ∷ rest)
  are_typed = subst (TasksAre m at.typed.world) at.first at.typed.tasks

  are_placed : TasksPlaced m s.memory (Runs frame ∷ rest)
  are_placed = subst (TasksPlaced m s.memory) at.first at.placed

  first : IsFirst m at.typed.world s.memory frame rest f
  first = record {
    typed = subst (λ g. FrameIs m at.typed.world g frame) (same_Some are_typed.0.0 f (sym are_typed.0.1.is ∙ at.is)) are_typed.0.1;
    holds = subst (λ g. HoldsPlaces m s.memory g frame rest) (same_Some are_placed.0.f f (sym are_placed.0.is ∙ at.is)) are_placed.0.holds;
    none_lent = are_placed.0.none_lent;
    below = are_placed.1;
  }

  pub accepted : IsAcceptedBody m frame.function.0 f
  accepted = body laws typing m at.verified at.typed.world s.memory frame rest f first

  pub trail : IsRunTrail f (item.Inst (stands_at f frame.trail) ∷ frame.trail)
  trail = (are_next f frame.trail (item.Inst point) first.typed.goes (refl, i, at.stands), first.typed.trail)

  -- ---- behind the operands that end

  pub reads : ReadsOperands m frame.function.0 f at.typed.world (facts_told (facts_of m) frame.function) s.memory frame.entries (item.Inst (stands_at f frame.trail)) ops
  reads = record { body = accepted; typed = first.typed.entries; read = at.found }

  behind : IsFirst m at.typed.world s.memory (record frame { entries = ops.left }) rest f
  behind = left_first laws typing m at.verified at.typed.world s.memory frame rest f first facts (item.Inst point) ops reads

  -- what is named behind them was named before
  pub named_before : (v : ValueId) (p : Place) → Names ops.left v p → Names frame.entries v p
  named_before v p names = left_was facts (item_taken f (item.Inst point)) frame.entries ops.left
      (operands_read facts s.memory (item_taken f (item.Inst point)) frame.entries ops at.found).left v (AddressOf p) names

  -- ---- results

  function : OwnedFunction m f
  function = (typed_module m at.verified).functions number f at.is

  inst : OwnedInst m f point i
  inst = function.insts point i at.stands

  taken : FitEach m w f (map value_in i.operands) ops.given
  taken = subst (λ vs. FitEach m w f vs ops.given) inst.takes
      (operands_fit m w f facts s.memory (item_taken f (item.Inst point)) frame.entries ops first.typed.entries (function.items (item.Inst point)).taken at.found).0

  room : Each (λ (v : ValueId). v.0 < length ops.left) (item_defined f (item.Inst point))
  room = subst (λ n. Each (λ (v : ValueId). v.0 < n) (item_defined f (item.Inst point))) (sym behind.typed.entries.size) (function.items (item.Inst point)).defined

  changed : (e : effects.Effect HolderFault) → EffectFits m w i.op ops.given (forms_of (declarations_of m) f i.results) e → (c : Change) → e ≡ Makes c
      → Changed m w (forms_of (declarations_of m) f i.results) c
  changed _ (EffectFits.makes b fits keeps) c e = let same : b ≡ c = cc in subst (Changed m w (forms_of (declarations_of m) f i.results)) same fits
  changed _ (EffectFits.calls g args callee there bodied typed_as form owned) c e = absurd (cc)
  changed _ (EffectFits.calls_out g args callee ns there bodiless numbers form) c e = absurd (cc)
  changed _ (EffectFits.traps t) c e = absurd (cc)
  changed _ (EffectFits.faults x other) c e = absurd (cc)

  pub change_typed : (c : Change) → effect_here m bound s frame rest f i ops ≡ Makes c → Changed m w (forms_of (declarations_of m) f i.results) c
  change_typed c e = changed (effect_here m bound s frame rest f i ops)
      (row_fits (record { w = w; of = at.typed.of; memory = s.memory; typed = at.typed.memory; values = values; i = i }) (typed_module m at.verified).classes inst.row
      (fit_data m w f taken) (result_told m frame.function f at.is s.memory i)) c e

  -- the result of an allocation is an address
  slot_made : effect_of i.op ≡ row.MakesSlot → (v : ValueId) → item_defined f (item.Inst point) ≡ v ∷ [] → IsAddress (declarations_of m) f v
  slot_made is v one =
      let c = change_typed _ (ap (λ r. effect_by (declarations_of m) (shapes_of m) values s.memory i (at_places (declarations_of m) (shapes_of m) values s.memory i) r ops.given) is) in
      record {
        shape = effects.result_shape (declarations_of m) (shapes_of m) values s.memory i;
        is = place_form m c.later c.results (form_of (declarations_of m) f v) (effects.new_slot (declarations_of m) (shapes_of m) values s.memory i)
            (ap (forms_of (declarations_of m) f) (sym (defines_results f point i at.stands) ∙ one)) refl;
      }

  -- ---- before the instruction

  pub stands : StandsBefore laws m frame.function.0 f accepted (facts_told (facts_of m) frame.function) s.memory (left_with m (facts_of m) bound frame ops) rest
      (stands_at f frame.trail) i ops.given
  stands = record {
    is = at.is;
    inst = at.stands;
    holds = behind.holds;
    none_lent = first.none_lent;
    goes = first.typed.goes;
    trail = trail;
    below = behind.below;
    address = named_address m w number f accepted ops.left behind.typed.entries;
    named = subst (λ ts. AreNamedBy ops.left ts ops.given) (taken_is laws m number f accepted facts s.memory left rest point i ops.given at.stands)
        (typing.named m number f w facts s.memory frame.entries (item.Inst point) ops reads);
    fit = λ is. typing.stores m number f w facts s.memory frame.entries point ops reads i at.stands is;
    room = room;
    made = slot_made;
    shaped = typing.shaped m number f w ops.left accepted behind.typed.entries;
  }

  -- it goes on with what it leaves
  pub goes_with : (c : Change) → effect_here m bound s frame rest f i ops ≡ Makes c → (slots : List Place) (entries : List Entry) → slots_behind c.slots frame.slots ≡ Ok slots
      → results_put (facts_told (facts_of m) frame.function) (item_defined f (item.Inst (stands_at f frame.trail))) c.results ops.left ≡ Ok entries
      → GoesWith laws m frame.function.0 f accepted (facts_told (facts_of m) frame.function) s.memory (left_with m (facts_of m) bound frame ops) rest (stands_at f frame.trail) i
      ops.given c slots entries
  goes_with c e slots entries slots_are put = record {
    slots_are = slots_are;
    put = put;
    news = typing.changes m number f w facts s.memory frame.entries point ops reads i at.stands frame.trail trail
        (record { parts = behind.holds.parts; fields = behind.holds.fields }) (shapes_of m) values c entries e put;
  }

  -- or with the result of a call
  pub call_news : effect_of i.op ≡ row.CallsFunction → (entries : List Entry)
      → AreNewNamed (sources_of (declarations_of m) f) f frame.trail (item.Inst (stands_at f frame.trail)) ops.left entries
  call_news is entries = typing.calls_named m number f accepted frame.trail point i at.stands is ops.left entries
