-- What is typed in a world is typed in a later one.
use Rattle.std.proofs.Common.{◌≡◌, ◌≤◌, ◌+◌, ◌++◌, ℕ, List, [], Some, true, length, map, sum, sym, ap, ◌∙◌, subst, arith}
use Rattle.std.specs.Prelude.{slice_get}
use Rattle.std.specs.List.{AllZip, flat_map}
use Rattle.std.proofs.lemmas.List.{append-nil, take-append-le}
use Rattle.std.proofs.lemmas.Option.{slice_get_within}
use Rattle.sil_ast.specs.declared.module.Module.{Module}
use Rattle.sil_ast.specs.declared.place.ObjectId.{ObjectId}
use Rattle.sil_cfg.proofs.Gets.{kept_get}
use Rattle.numbered_form.specs.Names.{Name}
use Rattle.holder_model.specs.holder_model_values.RunValues.Cells.{Cell, cell_count}
use Rattle.holder_model.specs.holder_model_values.RunValues.Memory.{Object}
use Rattle.holder_model.specs.holder_model_values.RunValues.Places.{Place, offset}
use Rattle.holder_model.specs.holder_model_values.RunValues.Shapes.{Shape}
use Rattle.holder_model.specs.holder_model_values.RunValues.Values.{Value}
use Rattle.holder_model.specs.holder_model_values.ValueParts.inner.Paths.{cells_before}
use Rattle.holder_model.proofs.holder_model_values.ValueParts.Suiting.{suits_wider}
use Rattle.holder_model.specs.Data.{Datum}
use Rattle.holder_model.specs.RunTyping.Forms.{Form}
use Rattle.holder_model_typing.specs.TypedMemory.inner.Worlds.{CellIs, DatumIs, Grows, IsIn, ObjectIs, PlaceIs, Suits, World, cell_shapes, fields_of_class, names}
use Rattle.holder_model_typing.proofs.TypedMemory.Naming.{is_named, named_by}
use Rattle.holder_model_typing.proofs.TypedMemory.Zips.{zip_follows}

-- more behind changes no offset

pub offset_front : (ss more : List Shape) (k : ℕ) → k ≤ length ss → offset (ss ++ more) k ≡ offset ss k
offset_front ss more k le = ap (λ ts. sum (map cell_count ts)) (take-append-le k ss more le)

pub in_front : (ss more : List Shape) (p : Place) → IsIn ss p → IsIn (ss ++ more) p
in_front ss more p at =
    let within = slice_get_within ss at.number at.whole at.there in
    record {
      number = at.number;
      whole = at.whole;
      there = kept_get ss more at.number at.whole at.there;
      path = at.path;
      part = at.part;
      first = at.first ∙ ap (λ n. n + cells_before at.whole at.path) (sym (offset_front ss more at.number (omega (arith, within))));
    }

-- a world is no less than itself, and what is more than more is more

pub grows_none : (w : World) → Grows w w
grows_none w = record { new_classes = []; classes = sym (append-nil w.classes); new_slots = []; slots = sym (append-nil w.slots) }

module _ (m : Module) (w v : World) (grows : Grows w v) where
  pub class_grows : (k : ℕ) (class : Name) → slice_get w.classes k ≡ Some class → slice_get v.classes k ≡ Some class
  class_grows k class e = ap (λ cs. slice_get cs k) grows.classes ∙ kept_get w.classes grows.new_classes k class e

  pub names_grow : (class : Name) (o : ObjectId) → names m w class o ≡ true → names m v class o ≡ true
  names_grow class o h =
      let by = named_by m w class o h in
      is_named m v class by.own o (class_grows o.0 by.own by.there) by.is

  pub suits_grow : (s : Shape) (x : Value) → Suits m w s x → Suits m v s x
  suits_grow s x h = suits_wider (names m w) (names m v) names_grow s x h

  cell_grows : (s : Shape) (c : Cell) → CellIs m w s c → CellIs m v s c
  cell_grows s _ CellIs.gone = CellIs.gone
  cell_grows s _ CellIs.empty = CellIs.empty
  cell_grows s _ (CellIs.keeps x h) = CellIs.keeps x (suits_grow s x h)

  pub cells_grow : (ss : List Shape) (cells : List Cell) → AllZip (CellIs m w) ss cells → AllZip (CellIs m v) ss cells
  cells_grow = zip_follows (CellIs m w) (CellIs m v) cell_grows

  object_grows : (class : Name) (x : Object) → ObjectIs m w class x → ObjectIs m v class x
  object_grows class x is = record { is = is.is; cells = λ alive. cells_grow (flat_map cell_shapes (fields_of_class m w class)) x.cells (is.cells alive); ended = is.ended }

  pub objects_grow : (classes : List Name) (objects : List Object) → AllZip (ObjectIs m w) classes objects → AllZip (ObjectIs m v) classes objects
  objects_grow = zip_follows (ObjectIs m w) (ObjectIs m v) object_grows

  pub place_grows : (p : Place) → PlaceIs m w p → PlaceIs m v p
  place_grows p (PlaceIs.on_stack home at) = PlaceIs.on_stack home (subst (λ ss. IsIn ss p) (sym grows.slots) (in_front w.slots grows.new_slots p at))
  place_grows p (PlaceIs.inside o class home there at) = PlaceIs.inside o class home (class_grows o.0 class there) at

  pub datum_grows : (form : Form) (x : Datum) → DatumIs m w form x → DatumIs m v form x
  datum_grows _ _ (DatumIs.value s x h) = DatumIs.value s x (suits_grow s x h)
  datum_grows _ _ (DatumIs.place p at) = DatumIs.place p (place_grows p at)
  datum_grows _ _ (DatumIs.function g) = DatumIs.function g
