-- What is handed over along edges and to callees: what the operands hold that end is what the arguments hold that begin.
use Rattle.std.specs.Prelude.{◌≡◌, List, Some, map}
use Rattle.std.specs.List.{AllZip}
use Rattle.argument_conventions.specs.Arguments.{Told}
use Rattle.numbered_form.specs.Lists.{Each}
use Rattle.sil_ast.specs.declared.function.BlockArg.{BlockArg}
use Rattle.sil_ast.specs.declared.function.Function.{Function}
use Rattle.sil_ast.specs.declared.module.Module.{Module}
use Rattle.sil_ast.specs.declared.operands.Operand.{Operand}
use Rattle.sil_ast.specs.declared.place.FuncId.{FuncId}
use Rattle.sil_ast.specs.declared.place.ObjectId.{ObjectId}
use Rattle.std.specs.Prelude.{ℕ}
use Rattle.sil_cfg_items.specs.Items.{arg_value}
use Rattle.sil_cfg_items.specs.Roles.{by_convention, taken_each}
use Rattle.sil_types_declarations.specs.TypeDefinitions.Declarations.{Declarations, declarations_of}
use Rattle.sil_verifier_runs.specs.ownership_kinds_origins.Facts.{facts_in}
use Rattle.sil_verifier_runs.specs.sil_verifier_values.inner.Handed.{IsHanded, IsToldOf}
use Rattle.sil_verifier_runs.specs.sil_verifier_values.inner.Known.{IsAcceptedBody, type_in}
use Rattle.sil_verifier_runs.specs.holder_model.RunTyping.EndForms.{value_in}
use Rattle.sil_verifier_runs.specs.holder_model.Calling.{as_argument}
use Rattle.sil_verifier_runs.specs.holder_model.Data.{Datum}
use Rattle.sil_verifier_runs.specs.holder_model.Frames.{Entry}
use Rattle.sil_verifier_runs.specs.holder_model.Holders.{of_references}
use Rattle.sil_verifier_runs.specs.holder_model_laws.HolderLaws.inner.Counts.Taking.{references_begun, references_ended}
use Rattle.ownership_lowering_laws.specs.holder_model_typing.TypedMemory.inner.Worlds.{World}
use Rattle.sil_verifier_runs.proofs.sil_verifier_frames.Typed.Entries.{FitEach}
use Rattle.ownership_lowering_runs.proofs.OwnedCounts.Taken.{IsTakenAs}

abbrev pub HasItsType : Declarations → Function → BlockArg → Type 0
HasItsType d f a = type_in d f a.value ≡ Some a.ty

-- to a callee, by its signature
abbrev pub AreArgumentsHanded : Type 0
AreArgumentsHanded = (m : Module) (g h : FuncId) (f callee : Function) → IsAcceptedBody m h.0 callee → (w : World) (entries : List Entry)
    (tolds : List Told) (os : List Operand) (args : List BlockArg) (xs : List Datum)
    → AllZip (IsHanded (declarations_of m) f) tolds os → AllZip (IsToldOf (declarations_of m) callee) tolds args → Each (HasItsType (declarations_of m) callee) args
    → AllZip (IsTakenAs (facts_in (declarations_of m) f) entries) (taken_each os (map by_convention (map (λ (a : Told). a.convention) tolds))) xs
    → FitEach m w f (map value_in os) xs
    → (weight : ObjectId → ℕ)
    → of_references weight (references_ended (facts_in (declarations_of m) f) entries (taken_each os (map by_convention (map (λ (a : Told). a.convention) tolds))))
    ≡ of_references weight (references_begun (facts_in (declarations_of m) callee) (map arg_value args) (map as_argument xs))
