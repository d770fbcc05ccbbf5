-- The class that a module made ready has at the place of a class among the declarations.
use Rattle.std.proofs.Common.{◌≡◌, ◌∙◌, ℕ, List, Bool, Option, Some, None, map, refl, sym, ap}
use Rattle.std.specs.Prelude.{option_map, slice_get, unwrap_or}
use Rattle.std.proofs.lemmas.Option.{none-some, same_Some, slice_get-map}
use Rattle.count_heap.specs.HeapModel.HeapViews.{HeapView, class_in}
use Rattle.count_machine_model.specs.holder_model.Dropping.{deinits_of}
use Rattle.count_machine_model.specs.MachineSteps.Steps.{class_of, no_class}
use Rattle.numbered_form.specs.Names.{Name}
use Rattle.count_machine_model.specs.ReadyCode.ReadyModules.{IsReadyModule, Reaches, ready_class, storage_of}
use Rattle.count_machine_model.specs.declared.ready_code.function.ReadyClass.{ReadyClass}
use Rattle.count_machine_model.specs.declared.ready_code.function.ReadyModule.{ReadyModule}
use Rattle.sil_ast.specs.declared.decl.Decl.{Decl}
use Rattle.sil_ast.specs.declared.decl.Decl.TheVariants.{Class, Enum, Struct}
use Rattle.sil_ast.specs.declared.module.Module.{Module}
use Rattle.sil_ast.specs.declared.place.FuncId.{FuncId}
use Rattle.sil_ast.specs.declared.place.ObjectId.{ObjectId}
use Rattle.sil_types_declarations.specs.TypeDefinitions.Declarations.{Declarations, declarations_of}
use Rattle.sil_types_declarations.specs.TypeDefinitions.Lookups.{class_at, class_named, fields_of}

abbrev pub named_class : Declarations → Name → ReadyClass
named_class d name = record { deinits = deinits_of d name; fields = map storage_of (fields_of d name) }

class_made : (d : Declarations) (x : Option Decl) (name : Name) → class_named x ≡ Some name → option_map (ready_class d) x ≡ Some (named_class d name)
class_made d None name e = absurd (none-some name e)
class_made d (Some (Struct n fields)) name e = absurd (none-some name e)
class_made d (Some (Enum n cases)) name e = absurd (none-some name e)
class_made d (Some (Class n superclass fields)) name e = ap (λ z. Some (named_class d z)) (same_Some n name e)

pub class_is_named : (m : Module) {reached : List Bool} (ready : ReadyModule) (h : HeapView) (o : ObjectId) (name : Name) → IsReadyModule m reached ready
    → class_at (declarations_of m) (class_in h o) ≡ Some name → class_of ready h o ≡ named_class (declarations_of m) name
class_is_named m ready h o name is_ready e =
    ap (λ c. unwrap_or c no_class)
    (ap (λ cs. slice_get cs (class_in h o)) is_ready.classes ∙ slice_get-map (ready_class (declarations_of m)) m.decls (class_in h o)
    ∙ class_made (declarations_of m) (slice_get m.decls (class_in h o)) name e)

-- a deinitialiser of an object's class is a function that the run can come to
pub deinit_reached : (m : Module) {reached : List Bool} (ready : ReadyModule) (h : HeapView) (o : ObjectId) → IsReadyModule m reached ready
    → (k : ℕ) (g : FuncId) → slice_get (class_of ready h o).deinits k ≡ Some g → Reaches reached g
deinit_reached m {reached} ready h o is_ready k g there = at (slice_get ready.classes (class_in h o)) refl
  where
    at : (x : Option ReadyClass) → slice_get ready.classes (class_in h o) ≡ x → Reaches reached g
    at None e = absurd (none-some g (ap (λ c. slice_get (unwrap_or c no_class).deinits k) (sym e) ∙ there))
    at (Some class) e =
        is_ready.closed.deinits (class_in h o) class (ap (λ cs. slice_get cs (class_in h o)) (sym is_ready.classes) ∙ e) k g
        (ap (λ c. slice_get (unwrap_or c no_class).deinits k) (sym e) ∙ there)
