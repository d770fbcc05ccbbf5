-- What the tables by value say of the results of an instruction, and of the arguments of a block.
use Rattle.std.specs.Prelude.{◌≡◌, ℕ, zero, suc, Some, None, slice_get, unwrap_or}
use Rattle.argument_conventions.specs.Arguments.{arguments_of}
use Rattle.instruction_table.specs.Forms.{result_kind_of}
use Rattle.holder_model_typing.specs.memory_rules_accesses.Sources.{argument_source_or, result_source, source_at, sources_of}
use Rattle.holder_model_typing.specs.memory_rules_accesses.declared.source.Source.{Source}
use Rattle.holder_model_typing.specs.memory_rules_accesses.declared.source.Source.TheVariants.{Other}
use Rattle.holder_model_typing.specs.ownership_kinds_chains.OwnershipChains.Chains.{operands_at}
use Rattle.holder_model_typing.specs.ownership_kinds_chains.OwnershipChains.Facts.{origin_at}
use Rattle.holder_model_typing.specs.ownership_kinds_chains.declared.ownership_chains.definition.Definition.{Definition}
use Rattle.holder_model_typing.specs.ownership_kinds_origins.Origins.{arg_definition, definitions_of, is_zero, result_definition}
use Rattle.holder_model_typing.specs.ownership_kinds_origins.Switched.{switch_to}
use Rattle.numbered_form.specs.PointChecks.Points.{IsAt}
use Rattle.sil_ast.specs.Blocks.{args_of}
use Rattle.sil_ast.specs.declared.function.BlockArg.{BlockArg}
use Rattle.sil_ast.specs.declared.function.Function.{Function}
use Rattle.sil_ast.specs.declared.inst.Inst.{Inst}
use Rattle.sil_ast.specs.declared.place.ValueId.{ValueId}
use Rattle.holder_model_typing.specs.sil_types.Typing.RowTypes.{made_types}
use Rattle.holder_model_typing.specs.sil_types.Typing.Values.{function_at, result_functions, value_functions}
use Rattle.holder_model_typing.specs.sil_types_declarations.TypeDefinitions.Declarations.{Declarations}
use Rattle.numbered_form.specs.ValueTables.Borrows.{borrow_by, borrow_in, borrows_of}
use Rattle.numbered_form.specs.declared.value_tables.borrows.Borrow.TheVariants.{NoBorrow}
use Rattle.sil_verifier_values.specs.inner.Known.{InAccepted, type_in}

-- how the value comes by its kind and its bases
pub record IsDefinedBy (d : Declarations) (f : Function) (v : ValueId) (x : Definition) : Type 0 where
  pub origin : origin_at (definitions_of d f) v ≡ x.origin
  pub operands : operands_at (definitions_of d f) v ≡ x.operands

-- the k-th result of an instruction
pub record IsResult (d : Declarations) (f : Function) (i : Inst) (k : ℕ) (v : ValueId) : Type 0 where
  pub defined : IsDefinedBy d f v (result_definition d i k)
  pub borrow : borrow_in (borrows_of f) v.0 ≡ borrow_by (result_kind_of i.op) i
  pub source : source_at (sources_of d f) v ≡ result_source d i
  pub typed : type_in d f v ≡ slice_get (made_types d i) k
  pub stands_for : function_at (value_functions f) v.0 ≡ unwrap_or (slice_get (result_functions i) k) None

-- what the k-th argument of the n-th block is to memory
abbrev pub source_of_argument : Declarations → Function → ℕ → ℕ → Source
source_of_argument d f zero k = argument_source_or d (slice_get (arguments_of f.signature) k)
source_of_argument d f (suc n) k = Other

-- the k-th argument of the n-th block
pub record IsArgument (d : Declarations) (f : Function) (n k : ℕ) (a : BlockArg) : Type 0 where
  pub defined : IsDefinedBy d f a.value (arg_definition d (is_zero n) (switch_to f n) a)
  pub borrow : borrow_in (borrows_of f) a.value.0 ≡ NoBorrow
  pub source : source_at (sources_of d f) a.value ≡ source_of_argument d f n k
  pub typed : type_in d f a.value ≡ Some a.ty
  pub stands_for : function_at (value_functions f) a.value.0 ≡ None

-- each result has the rows of its instruction
abbrev pub AreResultRows : Type 0
AreResultRows = InAccepted (λ d f. (block index k : ℕ) (i : Inst) (v : ValueId) → IsAt f block index i → slice_get i.results k ≡ Some v → IsResult d f i k v)

-- each argument has the rows of its block
abbrev pub AreArgumentRows : Type 0
AreArgumentRows = InAccepted (λ d f. (b k : ℕ) (a : BlockArg) → slice_get (args_of f b) k ≡ Some a → IsArgument d f b k a)
