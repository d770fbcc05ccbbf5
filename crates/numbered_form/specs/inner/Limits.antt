-- The limits on reading. Those of names are in `Names`, and those of types in `Types`.
use Rattle.std.specs.Prelude.{◌+◌, ◌≤◌, ℕ, List, Bool, true, false, length, IfSome}
use Rattle.std.specs.List.{count_by}
use Rattle.instruction_table.specs.Forms.{extra_value_of}
use Rattle.sil_ast.specs.declared.decl.Decl.{Decl}
use Rattle.instruction_table.specs.declared.entries.ExtraValue.{ExtraValue}
use Rattle.instruction_table.specs.declared.entries.ExtraValue.TheVariants as extra
use Rattle.sil_ast.specs.declared.function.Block.{Block}
use Rattle.sil_ast.specs.declared.function.Function.{Function}
use Rattle.sil_ast.specs.declared.inst.Edge.{Edge}
use Rattle.sil_ast.specs.declared.inst.Inst.{Inst}
use Rattle.sil_ast.specs.declared.inst.Qualifier.{Qualifier}
use Rattle.sil_ast.specs.declared.inst.Qualifier.TheVariants as qualifier
use Rattle.sil_ast.specs.declared.module.Module.{Module}
use Rattle.instruction_table.specs.declared.op.Op.{Op}
use Rattle.sil_ast.specs.declared.signature.Signature.{Signature}
use Rattle.sil_rules.specs.declared.limits.TheConstants.{ARGUMENTS, BLOCKS, DECLARATIONS, FUNCTIONS, INSTRUCTIONS, MEMBERS, VALUES}
use Rattle.numbered_form.specs.Lists.{Each}
use Rattle.numbered_form.specs.Insts.{insts_in, EachInBlock}
use Rattle.numbered_form.specs.Numbering.{values_of}
use Rattle.numbered_form.specs.Names.{member_names}

pub record IsSignatureInLimits (s : Signature) : Type 0 where
  pub params : length s.params ≤ ARGUMENTS
  pub results : length s.results ≤ ARGUMENTS

abbrev pub IsEdgeInLimits : Edge → Type 0
IsEdgeInLimits e = length e.args ≤ ARGUMENTS

pub record IsInstInLimits (i : Inst) : Type 0 where
  pub operands : length i.operands ≤ ARGUMENTS
  pub results : length i.results ≤ ARGUMENTS
  pub signature : IfSome i.signature IsSignatureInLimits
  pub edges : Each IsEdgeInLimits i.edges

pub record IsBlockInLimits (b : Block) : Type 0 where
  pub args : length b.args ≤ ARGUMENTS
  pub insts : EachInBlock IsInstInLimits b

abbrev pub is_assign : Qualifier → Bool
is_assign qualifier.Assign = true
is_assign _ = false

abbrev pub takes_value_by : ExtraValue → Qualifier → Bool
takes_value_by extra.Never q = false
takes_value_by extra.WhereAssigned q = is_assign q
takes_value_by extra.Always q = true

-- lowering the instruction takes one more value, for what was stored before
abbrev pub takes_value : Op → Qualifier → Bool
takes_value o q = takes_value_by (extra_value_of o) q

abbrev pub inst_takes_value : Inst → Bool
inst_takes_value i = takes_value i.op i.qualifier

-- the values of a function: those that its blocks define, and one for each `store [assign]` and `destroy_addr`
abbrev pub value_count : List Block → ℕ
value_count blocks = length (values_of blocks) + count_by inst_takes_value (insts_in blocks)

pub record IsFunctionInLimits (f : Function) : Type 0 where
  pub attributes : length f.attributes ≤ ARGUMENTS
  pub signature : IsSignatureInLimits f.signature
  pub blocks : length f.blocks ≤ BLOCKS
  pub insts : length (insts_in f.blocks) ≤ INSTRUCTIONS
  pub values : value_count f.blocks ≤ VALUES
  pub each : Each IsBlockInLimits f.blocks

abbrev pub IsDeclInLimits : Decl → Type 0
IsDeclInLimits d = length (member_names d) ≤ MEMBERS

pub record AreLimitsKept (m : Module) : Type 0 where
  pub declarations : length m.decls ≤ DECLARATIONS
  pub members : Each IsDeclInLimits m.decls
  pub functions : length m.functions ≤ FUNCTIONS
  pub each : Each IsFunctionInLimits m.functions
