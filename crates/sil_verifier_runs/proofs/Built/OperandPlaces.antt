-- The places of an instruction's operands: each has its cells, and is on the stack but where it is a field of an object or lies in one.
use Rattle.std.proofs.Common.{◌≡◌, List, sym, ap, ◌∙◌, true, false, Some}
use Rattle.std.specs.Prelude.{Contains}
use Rattle.std.proofs.lemmas.Bool.{or_parts}
use Rattle.sil_verifier_frames.specs.holder_model.Data.{AddressOf, home_references, references_in}
use Rattle.sil_verifier_frames.specs.holder_model.Frames.{Frame, Operands, any_dead}
use Rattle.sil_verifier_frames.specs.holder_model.States.{Task}
use Rattle.sil_verifier_frames.specs.memory_rules_accesses.Locations.{location_of}
use Rattle.sil_verifier_frames.specs.memory_rules_accesses.Operations.{operated, operations_of}
use Rattle.sil_verifier_frames.specs.memory_rules_accesses.Rows.{has_operation, is_part}
use Rattle.sil_verifier_frames.specs.memory_rules_accesses.Sources.{source_at, sources_of}
use Rattle.sil_verifier_frames.specs.memory_rules_accesses.declared.access.Operated.{Operated}
use Rattle.sil_verifier_frames.specs.memory_rules_accesses.declared.access.Operation.TheVariants as operation
use Rattle.sil_verifier_frames.specs.memory_rules_accesses.declared.location.Location.{Location}
use Rattle.sil_verifier_frames.proofs.sil_verifier_trails.AcceptedPlaces.ItemStacks.{accepted_in}
use Rattle.sil_verifier_frames.proofs.sil_verifier_trails.AcceptedPlaces.OperationsRight.{rows_right}
use Rattle.sil_verifier_frames.proofs.sil_verifier_trails.AcceptedPlaces.RootsMade.{operands_located}
use Rattle.sil_verifier_frames.specs.sil_verifier_trails.AcceptedPlaces.inner.Located.{IsLocated}
use Rattle.argument_conventions.specs.declared.row.AddressRow.{AddressRow}
use Rattle.sil_verifier_frames.specs.holder_model_laws.HolderLaws.inner.Built.FrameObjects.{Names}
use Rattle.sil_cfg_items.specs.Items.{item_taken}
use Rattle.sil_cfg_items.specs.Parts.{inst_at}
use Rattle.sil_cfg_items.specs.declared.taken.Taken.{Taken}
use Rattle.sil_verifier_frames.specs.holder_model_laws.HolderLaws.inner.Cells.Cells.{IsInside}
use Rattle.holder_model_values.specs.RunValues.Memory.{Memory, is_dead}
use Rattle.holder_model_values.specs.RunValues.Places.{OnStack, Place}
use Rattle.sil_ast.specs.declared.function.Function.{Function}
use Rattle.sil_ast.specs.declared.inst.Inst.{Inst}
use Rattle.sil_ast.specs.declared.module.Module.{Module}
use Rattle.sil_ast.specs.declared.place.PointId.{PointId}
use Rattle.sil_ast.specs.declared.place.ValueId.{ValueId}
use Rattle.sil_cfg.specs.declared.item.Item.TheVariants as item
use Rattle.sil_types_declarations.specs.TypeDefinitions.Declarations.{declarations_of}
use Rattle.sil_verifier_runs.proofs.Built.Filling.{handed_elsewhere, is_field, taken_elsewhere}
use Rattle.sil_verifier_runs.proofs.Built.Reading.{named_place, place_inside}
use Rattle.sil_verifier_runs.proofs.Built.WholeOperands.{Ready}

-- what the instruction takes by an address that isn't one of a field, nor of what lies in one, is on the stack
abbrev pub OthersOnStack : Module → Frame → Function → PointId → Type 0
OthersOnStack m frame f p = (y : Taken) → Contains (item_taken f (item.Inst p)) y → (l : Location) → location_of (sources_of (declarations_of m) f) y.value ≡ Some l
    → is_field (source_at (sources_of (declarations_of m) f) l.root) ≡ false → (q : Place) → Names frame.entries y.value (AddressOf q) → q.home ≡ OnStack

module _ (m : Module) (memory : Memory) (rest : List (Task Frame)) (frame : Frame) (f : Function) (p : PointId) (ops : Operands)
    (ready : Ready m memory rest frame f (item.Inst p) ops) where
  -- ---- cells

  pub inside : (v : ValueId) (q : Place) → Names frame.entries v (AddressOf q) → any_dead memory (references_in (AddressOf q)) ≡ false → IsInside memory q
  inside v q names living =
      place_inside m ready.w memory ready.typed q (named_place m ready.w f frame.entries ready.entries v q names).0
      (λ o home. (or_parts (is_dead memory o) false (sym (ap (λ h. any_dead memory (home_references h)) home) ∙ living)).0)

  -- ---- locations

  pub located : (y : Taken) → Contains (item_taken f (item.Inst p)) y → (q : Place) → Names frame.entries y.value (AddressOf q)
      → IsLocated (declarations_of m) f frame.trail y.value
  located y c q names =
      operands_located m frame.function.0 f ready.doing.body frame.trail (item.Inst p) ready.doing.trail y c
      (record { shape = q.shape; is = (named_place m ready.w f frame.entries ready.entries y.value q names).1 })

  module _ (x : Inst) (is : inst_at f p ≡ Some x) (others : OthersOnStack m frame f p) where
    row_has : (o : Operated) → Contains (operations_of x) o → (l : Location) → location_of (sources_of (declarations_of m) f) o.address ≡ Some l
        → has_operation (sources_of (declarations_of m) f) l o.operation ≡ true
    row_has o c l at = rows_right (declarations_of m) f (accepted_in m frame.function.0 f ready.doing.body) (item.Inst p) x is o c l at

    -- what is taken is on the stack
    pub taken_on_stack : (y : Taken) → Contains (item_taken f (item.Inst p)) y → (q : Place) → Names frame.entries y.value (AddressOf q)
        → Contains (operations_of x) (operated y.value operation.Take) → q.home ≡ OnStack
    taken_on_stack y c q names does =
        let l = located y c q names in
        others y c l.location l.is
        (taken_elsewhere (sources_of (declarations_of m) f) (source_at (sources_of (declarations_of m) f) l.location.root) (is_part l.location)
        (row_has (operated y.value operation.Take) does l.location l.is)) q names

    -- and so is what is handed over
    pub handed_on_stack : (y : Taken) → Contains (item_taken f (item.Inst p)) y → (q : Place) → Names frame.entries y.value (AddressOf q)
        → (row : AddressRow) → Contains (operations_of x) (operated y.value (operation.Handed row)) → q.home ≡ OnStack
    handed_on_stack y c q names row does =
        let l = located y c q names in
        others y c l.location l.is
        (handed_elsewhere (sources_of (declarations_of m) f) (source_at (sources_of (declarations_of m) f) l.location.root) (is_part l.location) row
        (row_has (operated y.value (operation.Handed row)) does l.location l.is)) q names
