-- An object that is being built isn't whole.
use Rattle.std.proofs.Common.{◌≡◌, ◌+◌, List, length, true, not, sym, ◌∙◌, subst, arith}
use Rattle.std.specs.Prelude.{slice_get}
use Rattle.std.proofs.lemmas.Option.{same_Some}
use Rattle.holder_model.specs.Frames.{Entry}
use Rattle.holder_model.specs.ModuleShapes.{ModuleShapes}
use Rattle.memory_rules_parts.specs.memory_rules_accesses.declared.source.Source.{Source}
use Rattle.memory_rules_parts.specs.memory_rules_accesses.declared.source.Source.TheVariants as source
use Rattle.holder_model_laws.specs.HolderLaws.inner.Cells.Cells.{IsCell}
use Rattle.holder_model_laws.proofs.HolderLaws.Cells.Lists.{element}
use Rattle.holder_model_laws.proofs.HolderLaws.Cells.PlaceCells.{cell_number}
use Rattle.holder_model.specs.holder_model_values.RunValues.Memory.{Memory, object_at}
use Rattle.holder_model.specs.holder_model_values.RunValues.Places.{Place}
use Rattle.sil_ast.specs.declared.place.ObjectId.{ObjectId}
use Rattle.sil_ast.specs.declared.place.ValueId.{ValueId}
use Rattle.holder_model.proofs.holder_model_values.ValueParts.Cells as shapes_of_cells
use Rattle.holder_model_laws.specs.HolderLaws.inner.Whole.Whole.{IsWhole}
use Rattle.holder_model_laws.specs.HolderLaws.inner.Built.Building.{IsUnfinished, Progress}
use Rattle.holder_model_laws.specs.HolderLaws.inner.Built.FrameObjects.{Holds, HoldsObjects, fields_of_object, place_of_field}

pub unfinished_not_whole : (shapes : ModuleShapes) (sources : List Source) (said : Progress) (memory : Memory) (entries : List Entry)
    → HoldsObjects shapes sources said memory entries → (object : ValueId) (o : ObjectId) → IsUnfinished sources said object → Holds entries object o
    → IsWhole memory o → ⊥
unfinished_not_whole shapes sources said memory entries h object o un holds whole =
    let b = h.built object o un holds in
    let same : source.Object un.of.fields ≡ source.Object (length (fields_of_object shapes (object_at memory o))) = sym un.of.is ∙ b.1.count in
    let count : un.of.fields ≡ length (fields_of_object shapes (object_at memory o)) = cc in
    let lt = un.of.within in
    let s = element (fields_of_object shapes (object_at memory o)) un.field (omega (arith, lt, count)) in
    let f = b.1.fields un.field s.0 s.1 in
    let so : f.unwritten ≡ true = same_Some f.unwritten true (sym f.is ∙ un.unwritten) in
    let q : Place = place_of_field shapes o (object_at memory o) un.field s.0 in
    let cell = f.cells (q.first + 0) (cell_number q 0 (shapes_of_cells.has_cell s.0)) in
    whole.written (q.first + 0) (subst (λ u. IsCell (not u) (slice_get (object_at memory o).cells (q.first + 0))) so cell)
