-- The arguments of a function, be they those of its entry or of a call: the places of its `@out` results, and then its parameters.
use Rattle.std.specs.Prelude.{List, [], ◌∷◌, ◌++◌, cond, filter, map, not, Bool}
use Rattle.std.specs.List.{flat_map}
use Rattle.sil_ast.specs.declared.signature.Given.{Given}
use Rattle.sil_ast.specs.declared.signature.Param.{Param}
use Rattle.sil_ast.specs.declared.signature.Passing.{Passing}
use Rattle.sil_ast.specs.declared.signature.Passing.TheVariants as passing
use Rattle.sil_ast.specs.declared.signature.Signature.{Signature}
use Rattle.sil_ast.specs.declared.type_name.TypeName.{TypeName}
use Rattle.sil_ast.specs.declared.type_name.TypeName.TheVariants as type
use Rattle.argument_conventions.specs.declared.arguments.FunctionArgument.{FunctionArgument}
use Rattle.argument_conventions.specs.declared.convention.AddressConvention.TheVariants.{Inout, In, InGuaranteed, Out}
use Rattle.argument_conventions.specs.declared.convention.ArgumentConvention.{ArgumentConvention}
use Rattle.argument_conventions.specs.declared.convention.ArgumentConvention.TheVariants.{Plain, Owned, Guaranteed, Address}

-- one argument: how it is handed over, and the type of its value, or of what is at its address
pub record Told : Type 0 where
  pub convention : ArgumentConvention
  pub ty : TypeName

-- an argument as it is told of in a contract
abbrev pub as_told : FunctionArgument → Told
as_told a = record { convention = a.convention; ty = a.ty.now }

abbrev pub convention_of : Passing → ArgumentConvention
convention_of passing.Plain = Plain
convention_of passing.Owned = Owned
convention_of passing.Guaranteed = Guaranteed
convention_of passing.Inout = Address Inout
convention_of passing.In = Address In
convention_of passing.InGuaranteed = Address InGuaranteed

abbrev pub param_argument : Param → Told
param_argument p = record { convention = convention_of p.passing; ty = p.ty }

abbrev pub out_place : Given → Told
out_place r = record { convention = Address Out; ty = r.ty }

abbrev pub out_argument : Given → List Told
out_argument r = cond r.out (out_place r ∷ []) []

abbrev pub arguments_of : Signature → List Told
arguments_of s = flat_map out_argument s.results ++ map param_argument s.params

abbrev pub conventions_of : Signature → List ArgumentConvention
conventions_of s = map (λ a. a.convention) (arguments_of s)

abbrev pub handed_type : ArgumentConvention → TypeName → TypeName
handed_type Plain t = t
handed_type Owned t = t
handed_type Guaranteed t = t
handed_type (Address c) t = type.Address t

-- the type of the argument itself
abbrev pub argument_type : Told → TypeName
argument_type a = handed_type a.convention a.ty

abbrev pub is_direct : Given → Bool
is_direct r = not r.out

-- the results that a `return` gives
abbrev pub direct_results : List Given → List Given
direct_results results = filter is_direct results
