-- A module whose functions were lowered where they stand is the lowered one.
use Rattle.std.proofs.Common.{◌≡◌, ◌∙◌, List, ap, ap₂, length, map}
use Rattle.std.specs.List.{refill}
use Rattle.std.proofs.lemmas.List.{length-map}
use Rattle.sil_ast.proofs.Refilled.{refilled}
use Rattle.sil_ast.specs.declared.function.Function.{Function}
use Rattle.sil_ast.specs.declared.module.Module.{Module}
use Rattle.ownership_lowering_laws.specs.ownership_lowering_model.LoweredModules.{lowered, lowered_function}
use Rattle.sil_types_declarations.specs.TypeDefinitions.Declarations.{Declarations, declarations_of}

abbrev with_functions : Module → List Function → Module
with_functions m functions = record m { functions = functions }

-- the module after others were written over its functions
abbrev pub written_over : Module → List Function → Module
written_over m functions = with_functions m (refill (length m.functions) m.functions functions)

pub lowered_there : (m : Module) (d : Declarations) (lent made : List Function) → d ≡ declarations_of m → lent ≡ m.functions
    → made ≡ map (lowered_function d) lent → written_over m made ≡ lowered m
lowered_there m d lent made own is done =
    let all : List Function = map (lowered_function (declarations_of m)) m.functions in
    ap (written_over m) (done ∙ ap₂ (λ e fs. map (lowered_function e) fs) own is)
    ∙ ap (with_functions m) (refilled m.functions all (length-map m.functions (lowered_function (declarations_of m))))
