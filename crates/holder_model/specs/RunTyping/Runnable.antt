-- The modules that a run of lowered code may be asked for: typed, in lowered form, and in numbered form but for the limit on instructions.
use Rattle.std.specs.Prelude.{◌≡◌, ◌<◌, ◌≤◌, ◌^◌, length}
use Rattle.sil_ast.specs.declared.function.Block.{Block}
use Rattle.sil_ast.specs.declared.function.Form.TheVariants.{Ossa}
use Rattle.sil_ast.specs.declared.function.Function.{Function}
use Rattle.sil_ast.specs.declared.module.Module.{Module}
use Rattle.ownership_kinds_origins.specs.sil_rules.declared.limits.TheConstants.{ARGUMENTS, BLOCKS, DECLARATIONS, FUNCTIONS, VALUES}
use Rattle.ownership_kinds_origins.specs.numbered_form.Insts.{insts_of}
use Rattle.ownership_kinds_origins.specs.numbered_form.Lists.{Each}
use Rattle.ownership_kinds_origins.specs.numbered_form.Names.{AreNamesOnce, AreNamesSpelled}
use Rattle.ownership_kinds_origins.specs.numbered_form.Numbering.{AreNumbered}
use Rattle.ownership_kinds_origins.specs.numbered_form.inner.Fields.{AreStructFieldsStrong}
use Rattle.ownership_kinds_origins.specs.numbered_form.inner.Functions.{AreFunctionsFormed}
use Rattle.ownership_kinds_origins.specs.numbered_form.inner.Limits.{IsBlockInLimits, IsDeclInLimits, IsSignatureInLimits, value_count}
use Rattle.ownership_kinds_origins.specs.numbered_form.inner.Literals.{AreLiteralsInRange}
use Rattle.ownership_kinds_origins.specs.numbered_form.inner.Parts.{HaveTheirParts}
use Rattle.ownership_kinds_origins.specs.numbered_form.inner.Types.{AreTypesWritten}
use Rattle.holder_model_values.specs.sil_types_declarations.TypeDefinitions.Rules.{Declared, InLimits}
use Rattle.ownership_kinds_origins.specs.sil_types.Typing.Typed.{Typed}

-- fewer than 2^32 instructions in a block, its terminator counted
abbrev pub IsShort : Block → Type 0
IsShort b = length (insts_of b) < 2 ^ 32

-- the limits on reading, but for that on instructions
pub record IsBodyInLimits (f : Function) : Type 0 where
  pub attributes : length f.attributes ≤ ARGUMENTS
  pub signature : IsSignatureInLimits f.signature
  pub blocks : length f.blocks ≤ BLOCKS
  pub values : value_count f.blocks ≤ VALUES
  pub each : Each IsBlockInLimits f.blocks
  pub short : Each IsShort f.blocks

pub record AreBodiesInLimits (m : Module) : Type 0 where
  pub declarations : length m.decls ≤ DECLARATIONS
  pub members : Each IsDeclInLimits m.decls
  pub functions : length m.functions ≤ FUNCTIONS
  pub each : Each IsBodyInLimits m.functions

-- numbered form, but for the limit on instructions
pub record IsNearlyNumbered (m : Module) : Type 0 where
  pub numbering : AreNumbered m
  pub parts : HaveTheirParts m
  pub literals : AreLiteralsInRange m
  pub fields : AreStructFieldsStrong m
  pub names : AreNamesSpelled m
  pub once : AreNamesOnce m
  pub types : AreTypesWritten m
  pub functions : AreFunctionsFormed m
  pub limits : AreBodiesInLimits m

-- no function is in ownership form
abbrev pub IsNotOwned : Function → Type 0
IsNotOwned f = f.form ≡ Ossa → ⊥

pub record IsRunnable (m : Module) : Type 0 where
  pub numbered : IsNearlyNumbered m
  pub declared : Declared m
  pub limits : InLimits m
  pub typed : Typed m
  pub lowered : Each IsNotOwned m.functions
