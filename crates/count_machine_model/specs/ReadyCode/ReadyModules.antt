-- Blocks, functions, classes and modules, made ready to run.
use Rattle.std.specs.Prelude.{◌≡◌, ℕ, List, [], ◌∷◌, Bool, true, Option, Some, None, map, slice_get}
use Rattle.holder_model.specs.Calling.{value_count}
use Rattle.holder_model.specs.Dropping.{deinits_of}
use Rattle.holder_model.specs.sil_cfg_items.Items.{item_defined}
use Rattle.sil_ast.specs.declared.decl.Decl.{Decl}
use Rattle.sil_ast.specs.declared.decl.Decl.TheVariants.{Class, Enum, Struct}
use Rattle.sil_ast.specs.declared.decl.Field.{Field}
use Rattle.sil_ast.specs.declared.decl.Storage.{Storage}
use Rattle.sil_ast.specs.declared.function.Block.{Block}
use Rattle.sil_ast.specs.declared.function.Function.{Function}
use Rattle.sil_ast.specs.declared.module.Module.{Module}
use Rattle.sil_ast.specs.declared.place.FuncId.{FuncId}
use Rattle.sil_ast.specs.declared.place.ValueId.{ValueId}
use Rattle.sil_cfg.specs.declared.item.Item.TheVariants as item
use Rattle.holder_model.specs.sil_types_declarations.TypeDefinitions.Declarations.{Declarations, declarations_of}
use Rattle.holder_model.specs.sil_types_declarations.TypeDefinitions.Lookups.{fields_of}
use Rattle.holder_model.specs.RunTyping.Forms.{Form, OfFunction, OfNothing, OfPlace, OfValue, form_of}
use Rattle.count_machine_model.specs.declared.ready_code.block.ReadyBlock.{ReadyBlock}
use Rattle.count_machine_model.specs.declared.ready_code.function.ReadyClass.{ReadyClass}
use Rattle.count_machine_model.specs.declared.ready_code.function.ReadyFunction.{ReadyFunction}
use Rattle.count_machine_model.specs.declared.ready_code.function.ReadyModule.{ReadyModule}
use Rattle.count_machine_model.specs.declared.ready_code.local.Local.{Local}
use Rattle.count_machine_model.specs.ReadyCode.Layout.{addresses_before, leaves_before, local}
use Rattle.count_machine_model.specs.ReadyCode.Matched.{Matched}
use Rattle.count_machine_model.specs.ReadyCode.ReadyEnds.{IsReadyEnd}
use Rattle.count_machine_model.specs.ReadyCode.ReadyOps.{IsReadyOp}

pub record IsReadyBlock (m : Module) (f : Function) (b : Block) (ready : ReadyBlock) : Type 0 where
  pub ops : Matched (IsReadyOp m f) b.insts ready.ops
  pub end : IsReadyEnd (declarations_of m) f b.terminator ready.end

abbrev pub where_value : Form → Local → Option Local
where_value (OfValue s) l = Some l
where_value (OfPlace s) l = None
where_value (OfFunction g) l = None
where_value OfNothing l = None

abbrev pub first_local : Declarations → Function → List ValueId → Option Local
first_local d f [] = None
first_local d f (v ∷ vs) = where_value (form_of d f v) (local d f v)

pub record IsReadyFunction (m : Module) (f : Function) (ready : ReadyFunction) : Type 0 where
  pub values : ready.values ≡ value_count f
  pub leaves : ready.leaves ≡ leaves_before (declarations_of m) f (value_count f)
  pub addresses : ready.addresses ≡ addresses_before (declarations_of m) f (value_count f)
  pub first_argument : ready.first_argument ≡ first_local (declarations_of m) f (item_defined f item.Entry)
  pub blocks : Matched (IsReadyBlock m f) f.blocks ready.blocks

abbrev pub storage_of : Field → Storage
storage_of f = f.storage

abbrev pub ready_class : Declarations → Decl → ReadyClass
ready_class d (Struct name fields) = record { deinits = []; fields = [] }
ready_class d (Enum name cases) = record { deinits = []; fields = [] }
ready_class d (Class name superclass fields) = record { deinits = deinits_of d name; fields = map storage_of (fields_of d name) }

-- the functions that a run can come to, by their numbers
abbrev pub Reaches : List Bool → FuncId → Type 0
Reaches reached g = slice_get reached g.0 ≡ Some true

-- all functions that a reached one names are reached, and so are all deinitialisers of classes
pub record IsClosed (m : Module) (reached : List Bool) : Type 0 where
  pub calls : (g : FuncId) (f : Function) → Reaches reached g → slice_get m.functions g.0 ≡ Some f
      → (v : ValueId) (h : FuncId) → form_of (declarations_of m) f v ≡ OfFunction h → Reaches reached h
  pub deinits : (k : ℕ) (class : ReadyClass) → slice_get (map (ready_class (declarations_of m)) m.decls) k ≡ Some class
      → (j : ℕ) (h : FuncId) → slice_get class.deinits j ≡ Some h → Reaches reached h

-- each reached function has its code; what stands in the places of the others no run looks at
pub record IsReadyModule (m : Module) (reached : List Bool) (ready : ReadyModule) : Type 0 where
  pub closed : IsClosed m reached
  pub functions : (g : FuncId) (f : Function) → Reaches reached g → slice_get m.functions g.0 ≡ Some f
      → (code : ReadyFunction) × (slice_get ready.functions g.0 ≡ Some code) × IsReadyFunction m f code
  pub classes : ready.classes ≡ map (ready_class (declarations_of m)) m.decls
