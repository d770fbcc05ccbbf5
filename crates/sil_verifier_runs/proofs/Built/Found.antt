-- The fields at which a frame's instruction does something are there, and as its operations ask.
use Rattle.std.proofs.Common.{◌≡◌, ℕ, List, ◌∷◌, sym, ◌∙◌, subst, Bool, false, Some, Ok}
use Rattle.std.specs.Prelude.{Contains, slice_get}
use Rattle.std.proofs.lemmas.List.Elements.{Contains-append_left}
use Rattle.std.proofs.lemmas.Option.{same_Some}
use Rattle.sil_verifier_frames.specs.sil_verifier_accepted.AcceptedModules.inner.Checked.{IsVerified}
use Rattle.sil_verifier_frames.specs.holder_model.Data.{AddressOf}
use Rattle.sil_verifier_frames.specs.holder_model.Frames.{Frame, Operands}
use Rattle.sil_verifier_frames.specs.holder_model.HolderStates.{HolderState}
use Rattle.sil_verifier_frames.specs.holder_model.ModuleFacts.{facts_of, facts_told}
use Rattle.sil_verifier_frames.specs.holder_model.ModuleShapes.{shapes_of}
use Rattle.sil_verifier_frames.specs.holder_model.Standing.{stands_at}
use Rattle.sil_verifier_frames.specs.holder_model.States.{Runs, Task}
use Rattle.sil_verifier_frames.specs.memory_rules_accesses.Locations.{location_of}
use Rattle.sil_verifier_frames.specs.memory_rules_accesses.Operations.{operations_of}
use Rattle.sil_verifier_frames.specs.memory_rules_accesses.Sources.{source_at, sources_of}
use Rattle.sil_verifier_frames.specs.memory_rules_accesses.declared.access.Operated.{Operated}
use Rattle.sil_verifier_frames.specs.memory_rules_accesses.declared.location.Location.{Location}
use Rattle.sil_verifier_frames.specs.memory_rules_accesses.declared.source.Source.TheVariants as source
use Rattle.sil_verifier_frames.specs.sil_verifier_trails.RunTrails.inner.RunTrails.{IsRunTrail}
use Rattle.sil_verifier_frames.proofs.sil_verifier_trails.RunTrails.WalkEdges.{are_next}
use Rattle.sil_verifier_frames.specs.sil_verifier_values.inner.Known.{IsAcceptedBody}
use Rattle.sil_verifier_frames.specs.holder_model_laws.HolderLaws.inner.Built.Building.{IsFieldAddress}
use Rattle.sil_verifier_frames.specs.holder_model_laws.HolderLaws.inner.Built.FrameObjects.{HoldsObjects, Names}
use Rattle.sil_verifier_frames.proofs.holder_model_laws.HolderLaws.Built.Asked.{fields_asked}
use Rattle.sil_verifier_frames.specs.holder_model_laws.HolderLaws.inner.Held.ObjectStates.{AreObjectsRight, TasksBuild}
use Rattle.sil_cfg_items.specs.Items.{item_taken, taken_along_in, taken_in}
use Rattle.sil_cfg_items.specs.Parts.{inst_at, item_edge, item_inst}
use Rattle.sil_cfg_items.specs.declared.taken.Taken.{Taken}
use Rattle.holder_model_values.specs.RunValues.Memory.{is_dead}
use Rattle.holder_model_values.specs.RunValues.Places.{Inside, Place}
use Rattle.sil_ast.specs.declared.function.Function.{Function}
use Rattle.sil_ast.specs.declared.inst.Inst.{Inst}
use Rattle.sil_ast.specs.declared.module.Module.{Module}
use Rattle.sil_ast.specs.declared.place.ObjectId.{ObjectId}
use Rattle.sil_ast.specs.declared.place.PointId.{PointId}
use Rattle.sil_ast.specs.declared.place.ValueId.{ValueId}
use Rattle.sil_cfg.specs.declared.item.Item.TheVariants as item
use Rattle.sil_verifier_frames.proofs.Tracked.NextItems.{inst_comes}
use Rattle.sil_types_declarations.specs.TypeDefinitions.Declarations.{declarations_of}
use Rattle.sil_verifier_frames.specs.holder_model_laws.HolderLaws.inner.Steps.Ways.{operands_in}
use Rattle.sil_verifier_frames.specs.inner.Typed.TypedStates.{FrameIs, IsTypedState, TasksAre}
use Rattle.sil_verifier_frames.proofs.Typed.GoesOn.{accepted_body}
use Rattle.sil_verifier_runs.specs.inner.Built.Found.{FindFields, IsFoundSo}
use Rattle.sil_verifier_runs.specs.inner.Built.Said.{said}
use Rattle.sil_verifier_runs.proofs.Built.Operands.{fields_right, operand_of_operation}
use Rattle.sil_verifier_runs.proofs.Built.Reading.{named_place, operand_alive, place_inside}

module _ (m : Module) (s : HolderState) (verified : IsVerified m) (typed : IsTypedState m s) (right : AreObjectsRight m (said m) s)
    (frame : Frame) (rest : List (Task Frame)) (f : Function) (first : s.tasks ≡ Runs frame ∷ rest) (is : slice_get m.functions frame.function.0 ≡ Some f) where
  -- ---- the first frame

  pub frame_is : FrameIs m typed.world f frame
  frame_is =
      let own = (subst (TasksAre m typed.world) first typed.tasks).0 in
      subst (λ g. FrameIs m typed.world g frame) (same_Some own.0 f (sym own.1.is ∙ is)) own.1

  pub body : IsAcceptedBody m frame.function.0 f
  body = accepted_body m verified frame.function f is frame_is.bodied

  pub frame_holds : HoldsObjects (shapes_of m) (sources_of (declarations_of m) f) (said m f frame.trail) s.memory frame.entries
  frame_holds =
      let own = (subst (TasksBuild m (said m) s.memory) first right.tasks).0 in
      subst (λ g. HoldsObjects (shapes_of m) (sources_of (declarations_of m) g) (said m g frame.trail) s.memory frame.entries) (same_Some own.f f (sym own.is ∙ is)) own.holds

  -- ---- its instruction

  module _ (bound : ℕ) (i : Inst) (stands : inst_at f (stands_at f frame.trail) ≡ Some i) where
    abbrev point : PointId
    point = stands_at f frame.trail

    pub next_trail : IsRunTrail f (item.Inst point ∷ frame.trail)
    next_trail = (are_next f frame.trail (item.Inst point) frame_is.goes (inst_comes f point i stands), frame_is.trail)

    module _ (ops : Operands) (read : operands_in m (facts_of m) bound s frame f (item.Inst point) ≡ Ok ops) (o : Operated) (among : Contains (operations_of i) o) where
      taken : (y : Taken) × Contains (item_taken f (item.Inst point)) y × (o.address ≡ y.value)
      taken =
          let y = operand_of_operation i o among in (
            y.0,
            Contains-append_left (taken_in (item_inst f (item.Inst point))) (taken_along_in (item_edge f (item.Inst point))) y.0
                (subst (λ x. Contains (taken_in x) y.0) (sym stands) y.1),
            y.2,
          )

      alive : (p : Place) → Names frame.entries o.address (AddressOf p) → (object : ObjectId) → p.home ≡ Inside object → is_dead s.memory object ≡ false
      alive p names object home =
          operand_alive (facts_told (facts_of m) frame.function) s.memory frame.entries (item_taken f (item.Inst point)) ops read taken.0 taken.1 p
          (subst (λ v. Names frame.entries v (AddressOf p)) taken.2 names) object home

      found : (l : Location) → location_of (sources_of (declarations_of m) f) o.address ≡ Some l → (of : ValueId) (k : ℕ) (trivial : Bool)
          → source_at (sources_of (declarations_of m) f) l.root ≡ source.Field of k trivial → (p : Place) → Names frame.entries o.address (AddressOf p)
          → IsFoundSo s.memory p o.operation
      found l at of k trivial root p names =
          let address : IsFieldAddress (sources_of (declarations_of m) f) o.address l of k = record { at = at; trivial = trivial; is = root } in
          fields_asked (shapes_of m) (sources_of (declarations_of m) f) (said m f frame.trail) s.memory frame.entries frame_holds right.memory o.address l of k address p names
          (place_inside m typed.world s.memory typed.memory p (named_place m typed.world f frame.entries frame_is.entries o.address p names).0 (alive p names)) o.operation
          (fields_right m frame.function.0 f body frame.trail point next_trail o l (record { inst = i; is = stands; among = among; at = at }) of k address)

pub find_fields : FindFields
find_fields m bound s verified typed right frame rest f i ops first is stands read o among l at of k trivial root p names =
    found m s verified typed right frame rest f first is bound i stands ops read o among l at of k trivial root p names
