-- What lowering keeps of a function with a body, in the words of runs. All of it follows from acceptance.
use Rattle.std.specs.Prelude.{◌≡◌, ◌⊎◌, ℕ, [], ◌∷◌, false, true, length, map, Some}
use Rattle.instruction_table.specs.Forms.{ending_of}
use Rattle.instruction_table.specs.declared.entries.Ending.TheVariants as ending
use Rattle.sil_ast.specs.Blocks.{args_of}
use Rattle.sil_ast.specs.declared.function.Form.TheVariants as form
use Rattle.sil_ast.specs.declared.function.Function.{Function}
use Rattle.sil_ast.specs.declared.inst.Edge.{Edge}
use Rattle.sil_ast.specs.declared.inst.Inst.{Inst}
use Rattle.sil_ast.specs.declared.module.Module.{Module}
use Rattle.sil_ast.specs.declared.operands.Operand.{Operand}
use Rattle.sil_ast.specs.declared.place.EdgeId.{EdgeId}
use Rattle.sil_ast.specs.declared.place.FuncId.{FuncId}
use Rattle.sil_ast.specs.declared.place.PointId.{PointId}
use Rattle.sil_ast.specs.declared.place.ValueId.{ValueId}
use Rattle.sil_cfg.specs.Items.{IsItem}
use Rattle.sil_cfg.specs.declared.item.Item.{Item}
use Rattle.sil_cfg.specs.declared.item.Item.TheVariants as item
use Rattle.numbered_form.specs.Lists.{Each}
use Rattle.sil_cfg_items.specs.Items.{item_defined, item_taken}
use Rattle.sil_cfg_items.specs.Parts.{edge_at, inst_at, terminator_of}
use Rattle.sil_cfg_items.specs.declared.taken.Taken.{Taken}
use Rattle.sil_types_declarations.specs.TypeDefinitions.Declarations.{Declarations, declarations_of}
use Rattle.numbered_form.specs.ValueTables.FirstValue.{first_value}
use Rattle.sil_verifier_runs.specs.sil_verifier_trails.AcceptedTrails.inner.Defined.{makes}
use Rattle.sil_verifier_runs.specs.holder_model.Edges.{is_default}
use Rattle.sil_verifier_runs.specs.holder_model.ModuleShapes.{shape_at, shapes_in, shapes_of}
use Rattle.sil_verifier_runs.specs.ownership_kinds_origins.Renamings.{renames, renamings_of}
use Rattle.ownership_lowering_laws.specs.ownership_lowering_model.LoweredModules.{lowered, lowered_body}
use Rattle.ownership_lowering_laws.specs.ownership_lowering_model.Names.{stands_for}
use Rattle.ownership_lowering_runs.specs.StoredRuns.inner.Names.{AreNamed, AreOperandsCurrent, IsOld, lowered_number}

abbrev pub IsTakenOld : Function → Taken → Type 0
IsTakenOld f t = IsOld f t.value

-- the value has a name of its own
abbrev pub IsOwnName : Function → ValueId → Type 0
IsOwnName f v = IsOld f v × (stands_for (renamings_of f) v ≡ v)

-- the value is another name for this one
abbrev pub IsOtherName : Declarations → Function → ValueId → ValueId → Type 0
IsOtherName d f w v = IsOld f v × (lowered_number d f v ≡ lowered_number d f w)

-- where an edge leads in the lowered function
pub data IsEdgeLowered (d : Declarations) (f : Function) (e : EdgeId) (y : Edge) : Type 0 where
  -- the arguments of its block have names of their own, and stay
  keeps : length (args_of (lowered_body d f) y.block.0) ≡ length (args_of f y.block.0)
      → item_defined (lowered_body d f) (item.Edge e) ≡ map (lowered_number d f) (item_defined f (item.Edge e))
      → Each (IsOwnName f) (item_defined f (item.Edge e)) → IsEdgeLowered d f e y
  -- the argument of a default's block is another name for what is switched, and goes
  names : (t : Inst) (w : ValueId) → terminator_of f e.block.0 ≡ Some t → ending_of t.op ≡ ending.Cases → first_value t ≡ Some w → is_default y ≡ true
      → args_of (lowered_body d f) y.block.0 ≡ [] → item_defined (lowered_body d f) (item.Edge e) ≡ []
      → Each (IsOtherName d f w) (item_defined f (item.Edge e)) → IsEdgeLowered d f e y

pub record LowersSo (m : Module) (g : FuncId) (f : Function) : Type 0 where
  pub form : f.form ≡ form.Ossa
  pub named : AreNamed (declarations_of m) f
  pub current : AreOperandsCurrent (declarations_of m) f
  pub taken : (i : Item) → IsItem f i → Each (IsTakenOld f) (item_taken f i)
  -- the results of an instruction whose row doesn't say otherwise have names of their own
  pub results : (p : PointId) (i : Inst) → inst_at f p ≡ Some i → renames i.op ≡ false → Each (IsOwnName f) i.results
  -- where it says so, they are other names for the operand
  pub renamed : (p : PointId) (i : Inst) (o : Operand) → inst_at f p ≡ Some i → renames i.op ≡ true → i.operands ≡ o ∷ []
      → Each (IsOtherName (declarations_of m) f o.value) i.results
  -- the arguments of the entry have names of their own, and no other item makes them
  pub given : (v : ValueId) → makes f v item.Entry ≡ true → IsOwnName f v
  pub given_once : (v : ValueId) (i : Item) → makes f v item.Entry ≡ true → makes f v i ≡ true → i ≡ item.Entry
  pub entry : item_defined (lowered_body (declarations_of m) f) item.Entry ≡ map (lowered_number (declarations_of m) f) (item_defined f item.Entry)
  pub edges : (e : EdgeId) (y : Edge) → edge_at f e ≡ Some y → IsEdgeLowered (declarations_of m) f e y
  -- a terminator that chooses has one operand
  pub chosen : (b : ℕ) (t : Inst) → terminator_of f b ≡ Some t → (ending_of t.op ≡ ending.TwoBranches) ⊎ (ending_of t.op ≡ ending.Cases)
      → (o : Operand) × (t.operands ≡ o ∷ [])
  -- a value's shape is that of its lowered number
  pub shapes : (v : ValueId) → IsOld f v
      → shape_at (shapes_in (shapes_of (lowered m)) g) (lowered_number (declarations_of m) f v) ≡ shape_at (shapes_in (shapes_of m) g) v
