-- Memory with a new object or a new slot, or with an object in another phase, is typed.
use Rattle.std.proofs.Common.{◌≡◌, ◌++◌, [], ◌∷◌, true, false, length, map, sum, refl, sym, ap, ◌∙◌, subst, arith}
use Rattle.std.specs.Prelude.{slice_get}
use Rattle.std.specs.List.{AllZip, flat_map}
use Rattle.std.proofs.lemmas.Bool.{false≢true}
use Rattle.std.proofs.lemmas.List.{append-nil, length-append, take_at}
use Rattle.std.proofs.lemmas.List.Concat.{flat_map-append}
use Rattle.std.proofs.lemmas.Slice.Zip.{AllZip-long, all_zipped_more}
use Rattle.sil_ast.specs.declared.module.Module.{Module}
use Rattle.sil_ast.specs.declared.place.ObjectId.{ObjectId}
use Rattle.sil_cfg.proofs.Gets.{last_get}
use Rattle.numbered_form.specs.Names.{Name}
use Rattle.holder_model.specs.sil_types_declarations.TypeDefinitions.Declarations.{declarations_of, is_class}
use Rattle.holder_model.specs.holder_model_values.declared.run_values.phase.Phase.TheVariants.{Deiniting, Live}
use Rattle.holder_model.specs.holder_model_values.RunValues.Cells.{Empty, cell_count}
use Rattle.holder_model.specs.holder_model_values.RunValues.Memory.{Memory, Object, is_dead, new_object, object_at, with_object}
use Rattle.holder_model.specs.holder_model_values.RunValues.Places.{OnStack, empty_fields, empty_slot, offset}
use Rattle.holder_model.specs.holder_model_values.RunValues.Shapes.{Shape}
use Rattle.holder_model.specs.holder_model_values.ValueParts.inner.Paths.{here}
use Rattle.holder_model.specs.Dropping.{ended, in_phase}
use Rattle.holder_model.specs.RunTyping.Classes.{ClassesAreSound}
use Rattle.holder_model_typing.specs.TypedMemory.inner.Laws.{with_class, with_slot}
use Rattle.holder_model_typing.specs.TypedMemory.inner.Worlds.{CellIs, CellsAre, Grows, IsWorldOf, MemoryIs, ObjectIs, PlaceIs, World, cell_shapes, fields_of_class, names}
use Rattle.holder_model_typing.proofs.TypedMemory.CellShapes.{shape_count, shapes_count}
use Rattle.holder_model_typing.proofs.TypedMemory.Growth.{cells_grow, objects_grow}
use Rattle.holder_model_typing.proofs.TypedMemory.Homes.{object_is, object_put}
use Rattle.holder_model_typing.proofs.TypedMemory.Naming.{each_more, is_named}
use Rattle.holder_model_typing.proofs.TypedMemory.Zips.{zip_append, zip_replicate}

pub class_is_more : (w : World) (class : Name) → Grows w (with_class w class)
class_is_more w class = record { new_classes = class ∷ []; classes = refl; new_slots = []; slots = sym (append-nil w.slots) }

pub slot_is_more : (w : World) (s : Shape) → Grows w (with_slot w s)
slot_is_more w s = record { new_classes = []; classes = sym (append-nil w.classes); new_slots = s ∷ []; slots = refl }

module _ (m : Module) (w : World) where
  -- a class that is declared may be made
  pub class_of_world : (class : Name) → IsWorldOf m w → is_class (declarations_of m) class ≡ true → IsWorldOf m (with_class w class)
  class_of_world class of is = each_more (λ c. is_class (declarations_of m) c ≡ true) w.classes class of is

  module _ (memory : Memory) (typed : MemoryIs m w memory) where
    -- objects

    module _ (class : Name) where
      abbrev new : Object
      new = record { class = class; phase = Live; cells = empty_fields (fields_of_class m w class) }

      new_is : ObjectIs m (with_class w class) class new
      new_is = record {
        is = refl;
        cells = λ alive. zip_replicate (CellIs m (with_class w class)) (flat_map cell_shapes (fields_of_class m w class)) (sum (map cell_count (fields_of_class m w class))) Empty
            (shapes_count (fields_of_class m w class)) (λ s. CellIs.empty);
        ended = λ dead. absurd (false≢true dead);
      }

      pub object_made : MemoryIs m (with_class w class) (record memory { objects = memory.objects ++ new ∷ [] })
      object_made = record {
        stack = cells_grow m w (with_class w class) (class_is_more w class) (flat_map cell_shapes w.slots) memory.stack typed.stack;
        objects = all_zipped_more (ObjectIs m (with_class w class)) w.classes memory.objects class new
            (objects_grow m w (with_class w class) (class_is_more w class) w.classes memory.objects typed.objects) new_is;
      }

      pub new_is_named : ClassesAreSound m → names m (with_class w class) class (new_object memory) ≡ true
      new_is_named sound =
          is_named m (with_class w class) class class (new_object memory)
          (ap (slice_get (w.classes ++ class ∷ [])) (AllZip-long (ObjectIs m w) w.classes memory.objects typed.objects) ∙ last_get w.classes class) (sound.itself class)

    -- slots

    module _ (s : Shape) where
      one_shape : length (flat_map cell_shapes (s ∷ [])) ≡ cell_count s
      one_shape = length-append (cell_shapes s) [] ∙ omega (arith, shape_count s)

      slot_cells : CellsAre m (with_slot w s) (w.slots ++ s ∷ []) (memory.stack ++ empty_slot s)
      slot_cells =
          subst (λ ss. AllZip (CellIs m (with_slot w s)) ss (memory.stack ++ empty_slot s)) (sym (flat_map-append cell_shapes w.slots (s ∷ [])))
          (zip_append (CellIs m (with_slot w s)) (flat_map cell_shapes w.slots) (flat_map cell_shapes (s ∷ [])) memory.stack (empty_slot s)
          (cells_grow m w (with_slot w s) (slot_is_more w s) (flat_map cell_shapes w.slots) memory.stack typed.stack)
          (zip_replicate (CellIs m (with_slot w s)) (flat_map cell_shapes (s ∷ [])) (cell_count s) Empty one_shape (λ t. CellIs.empty)))

      pub slot_made : MemoryIs m (with_slot w s) (record memory { stack = memory.stack ++ empty_slot s })
      slot_made = record { stack = slot_cells; objects = objects_grow m w (with_slot w s) (slot_is_more w s) w.classes memory.objects typed.objects }

      first_cell : length memory.stack ≡ offset (w.slots ++ s ∷ []) (length w.slots)
      first_cell =
          AllZip-long (CellIs m w) (flat_map cell_shapes w.slots) memory.stack typed.stack ∙ shapes_count w.slots
          ∙ ap (λ ss. sum (map cell_count ss)) (sym (take_at w.slots (s ∷ []) (length w.slots) refl))

      pub new_slot_is : PlaceIs m (with_slot w s) (record { home = OnStack; first = length memory.stack; shape = s; is_part = false })
      new_slot_is = PlaceIs.on_stack refl (record {
        number = length w.slots;
        whole = s;
        there = last_get w.slots s;
        path = [];
        part = here;
        first = omega (arith, first_cell);
      })

    -- phases

    pub phase_changed : (o : ObjectId) → is_dead memory o ≡ false → MemoryIs m w (in_phase Deiniting memory o)
    phase_changed o alive = object_put m w memory typed o (record (object_at memory o) { phase = Deiniting })
        (λ class e. let is = object_is m w memory typed o class e in record { is = is.is; cells = λ still. is.cells alive; ended = λ dead. absurd (false≢true dead) })

    pub object_ended : (o : ObjectId) → MemoryIs m w (with_object memory o (ended (object_at memory o)))
    object_ended o = object_put m w memory typed o (ended (object_at memory o))
        (λ class e. let is = object_is m w memory typed o class e in record { is = is.is; cells = λ alive. absurd (false≢true (sym alive)); ended = λ dead. refl })
