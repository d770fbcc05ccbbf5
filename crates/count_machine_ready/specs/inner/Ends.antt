-- What a terminator of lowered code has, by its row.
use Rattle.std.specs.Prelude.{◌≡◌, ℕ, true, Some, slice_get}
use Rattle.instruction_table.specs.Forms.{ending_of}
use Rattle.instruction_table.specs.declared.entries.Ending.{Ending}
use Rattle.instruction_table.specs.declared.entries.Ending.TheVariants as ending
use Rattle.holder_model.specs.RunTyping.Forms.{OfValue, form_of}
use Rattle.holder_model_values.specs.RunValues.Shapes.{shape_of}
use Rattle.sil_ast.specs.declared.function.Function.{Function}
use Rattle.sil_ast.specs.declared.inst.Edge.{Edge}
use Rattle.sil_ast.specs.declared.inst.Inst.{Inst}
use Rattle.sil_ast.specs.declared.type_name.TypeName.{TypeName}
use Rattle.sil_types.specs.Typing.RowTypes.{written}
use Rattle.sil_types.specs.Typing.Shapes.{is_enum}
use Rattle.sil_types_declarations.specs.TypeDefinitions.Declarations.{Declarations}
use Rattle.count_machine_ready.specs.inner.Cases.{HaveEdges}
use Rattle.count_machine_ready.specs.inner.Parts.{TakesOne}

pub record HasEdge (i : Inst) (k : ℕ) : Type 0 where
  pub edge : Edge
  pub there : slice_get i.edges k ≡ Some edge

pub record Branches (i : Inst) : Type 0 where
  pub takes : TakesOne i
  pub set : HasEdge i 0
  pub clear : HasEdge i 1

module _ (d : Declarations) (f : Function) (i : Inst) where
  pub record Switches : Type 0 where
    pub takes : TakesOne i
    pub ty : TypeName
    pub of : written 0 i ≡ Some ty
    pub form : form_of d f takes.operand ≡ OfValue (shape_of d ty)
    pub kind : is_enum d ty ≡ true
    pub edges : HaveEdges (shape_of d ty) i.edges

  abbrev pub Parts : Ending → Type 0
  Parts ending.Inside = ⊥
  Parts ending.OneBranch = HasEdge i 0
  Parts ending.TwoBranches = Branches i
  Parts ending.Cases = Switches
  Parts ending.Return = TakesOne i
  Parts ending.Unreachable = Unit {0}

  pub record HasEnd (ending : Ending) : Type 0 where
    pub ends : ending_of i.op ≡ ending
    pub has : Parts ending
