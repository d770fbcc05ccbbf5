-- What is known of a function while it is made ready.
use Rattle.std.specs.Prelude.{◌≡◌, ℕ, List, Bool, true, Some, slice_get}
use Rattle.sil_ast.specs.declared.function.Block.{Block}
use Rattle.sil_ast.specs.declared.function.Function.{Function}
use Rattle.sil_ast.specs.declared.inst.Inst.{Inst}
use Rattle.sil_ast.specs.declared.place.FuncId.{FuncId}
use Rattle.sil_ast.specs.declared.place.ValueId.{ValueId}
use Rattle.holder_model.specs.Effects.{effect_of}
use Rattle.instruction_table.specs.Forms.{ending_of}
use Rattle.numbered_form.specs.Lists.{Each}
use Rattle.holder_model.specs.declared.row_effect.RowEffect.{RowEffect}
use Rattle.instruction_table.specs.declared.entries.Ending.{Ending}
use Rattle.sil_types_declarations.specs.TypeDefinitions.Declarations.{Declarations, declarations_of}
use Rattle.holder_model.specs.RunTyping.Runnable.{IsRunnable}
use Rattle.count_machine_model.specs.ReadyCode.Layout as layout
use Rattle.count_machine_model.specs.ReadyCode.ReadyEnds as ends
use Rattle.count_machine_model.specs.ReadyCode.ReadyModules.{IsClosed}
use Rattle.count_machine_model.specs.ReadyCode.ReadyOps as ops
use Rattle.count_machine_model.specs.declared.ready_code.block.ReadyEnd.{ReadyEnd}
use Rattle.count_machine_model.specs.declared.ready_code.local.Local.{Local}
use Rattle.count_machine_model.specs.declared.ready_code.local.LocalAddress.{LocalAddress}
use Rattle.count_machine_model.specs.declared.ready_code.op.ReadyOp.{ReadyOp}
use Rattle.count_machine_layouts.specs.FrameLayouts.inner.Laid.{AreLaid}
use Rattle.count_machine_layouts.specs.FrameLayouts.inner.Layouts.{layout_of}
use Rattle.count_machine_ready.specs.declared.body.Body.{Body}
use Rattle.count_machine_ready.specs.inner.Ends as end_parts
use Rattle.count_machine_ready.specs.inner.Parts.{CallsThis}
use Rattle.count_machine_ready.specs.inner.Rows as rows

-- the module is runnable, the table is the module's, the function is a reached one of it, and the layouts are those of the reached ones
pub record IsBody (b : Body) : Type 0 where
  pub runnable : IsRunnable b.m.now
  pub table : b.table.now ≡ declarations_of b.m.now
  pub reached : List Bool
  pub closed : IsClosed b.m.now reached
  pub layouts : AreLaid b.m.now reached b.layouts.now
  pub number : ℕ
  pub own : slice_get reached number ≡ Some true
  pub there : slice_get b.m.now.functions number ≡ Some b.function.now
  pub layout : b.layout.now ≡ layout_of (declarations_of b.m.now) b.function.now

module _ (b : Body) where
  abbrev pub declared : Declarations
  declared = declarations_of b.m.now

  abbrev pub local : ValueId → Local
  local v = layout.local declared b.function.now v

  abbrev pub local_address : ValueId → LocalAddress
  local_address v = layout.local_address declared b.function.now v

  -- the instruction's row does this, and it has what such a row has
  abbrev pub HasRow : Inst → RowEffect → Type 0
  HasRow i effect = rows.HasRow b.m.now b.function.now i effect

  -- the terminator's row ends so, and it has what such a row has
  abbrev pub HasEnd : Inst → Ending → Type 0
  HasEnd i ending = end_parts.HasEnd declared b.function.now i ending

  abbrev pub HasOwnRow : Inst → Type 0
  HasOwnRow i = HasRow i (effect_of i.op)

  abbrev pub HasOwnEnd : Inst → Type 0
  HasOwnEnd i = HasEnd i (ending_of i.op)

  -- the instructions of the block have what their rows have
  pub record HasRows (block : Block) : Type 0 where
    pub insts : Each HasOwnRow block.insts
    pub end : HasOwnEnd block.terminator

  -- the instruction calls this function, which is there
  abbrev pub Calls : Inst → FuncId → Function → Type 0
  Calls i g callee = CallsThis declared b.function.now i b.m.now.functions g callee

  abbrev pub IsReadyOp : Inst → ReadyOp → Type 0
  IsReadyOp i op = ops.IsReadyOp b.m.now b.function.now i op

  abbrev pub IsReadyEnd : Inst → ReadyEnd → Type 0
  IsReadyEnd i end = ends.IsReadyEnd declared b.function.now i end
