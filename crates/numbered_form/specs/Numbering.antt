-- Values are numbered in order of definition, and each number that is used stands for something.
use Rattle.std.specs.Prelude.{◌≡◌, ◌==◌, ◌<◌, ◌+◌, ℕ, Bool, List, [], ◌∷◌, ◌++◌, ⊤, length, map, IfSome}
use Rattle.std.specs.List.{flat_map}
use Rattle.sil_ast.specs.declared.function.Block.{Block}
use Rattle.sil_ast.specs.declared.function.BlockArg.{BlockArg}
use Rattle.sil_ast.specs.declared.function.Function.{Function}
use Rattle.sil_ast.specs.declared.inst.Edge.{Edge}
use Rattle.sil_ast.specs.declared.inst.Inst.{Inst}
use Rattle.sil_ast.specs.declared.module.Module.{Module}
use Rattle.sil_ast.specs.declared.operands.Operand.{Operand}
use Rattle.sil_ast.specs.declared.place.ValueId.{ValueId}
use Rattle.sil_ast.specs.declared.vtable.Vtable.{Vtable}
use Rattle.numbered_form.specs.Lists.{Each}
use Rattle.numbered_form.specs.Insts.{insts_of, EachInBlock}

abbrev pub is_value : ValueId → ValueId → Bool
is_value v w = v.0 == w.0

abbrev pub results_of : Inst → List ValueId
results_of i = i.results

abbrev pub value_of : BlockArg → ValueId
value_of a = a.value

-- the values that a block defines: its arguments, then the results of its instructions
abbrev pub defined_in : Block → List ValueId
defined_in b = map value_of b.args ++ flat_map results_of (insts_of b)

-- the values of a function with these blocks, in order of definition
abbrev pub values_of : List Block → List ValueId
values_of blocks = flat_map defined_in blocks

-- the numbers go up by one, from n
abbrev pub AreCountedFrom : ℕ → List ValueId → Type 0
AreCountedFrom n [] = ⊤
AreCountedFrom n (v ∷ vs) = (v.0 ≡ n) × AreCountedFrom (n + 1) vs

-- the operand is one of this many values
abbrev pub IsValueBelow : ℕ → Operand → Type 0
IsValueBelow values o = o.value.0 < values

-- the edge goes to one of this many blocks, with some of this many values
pub record IsEdgeInRange (values blocks : ℕ) (e : Edge) : Type 0 where
  pub block : e.block.0 < blocks
  pub args : Each (IsValueBelow values) e.args

-- the instruction uses values, blocks and functions that are there, of this many each
pub record IsInstInRange (values blocks functions : ℕ) (i : Inst) : Type 0 where
  pub operands : Each (IsValueBelow values) i.operands
  pub edges : Each (IsEdgeInRange values blocks) i.edges
  pub function : IfSome i.function (λ f. f.0 < functions)

-- in a module of this many functions, the function's values are numbered, and what it uses is there
pub record IsFunctionNumbered (functions : ℕ) (f : Function) : Type 0 where
  pub values : AreCountedFrom 0 (values_of f.blocks)
  pub used : Each (EachInBlock (IsInstInRange (length (values_of f.blocks)) (length f.blocks) functions)) f.blocks

abbrev pub IsVtableInRange : ℕ → Vtable → Type 0
IsVtableInRange functions v = IfSome v.entry (λ e. e.function.0 < functions)

pub record AreNumbered (m : Module) : Type 0 where
  pub functions : Each (IsFunctionNumbered (length m.functions)) m.functions
  pub vtables : Each (IsVtableInRange (length m.functions)) m.vtables
