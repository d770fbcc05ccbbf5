-- A function of a runnable module has no more values than the limit.
use Rattle.std.proofs.Common.{◌≡◌, ℕ, suc, ◌≤◌, List, [], ◌∷◌, length, refl, ap, arith, Some, None}
use Rattle.std.specs.Prelude.{slice_get}
use Rattle.std.proofs.lemmas.List.{length-replicate}
use Rattle.holder_model_typing.specs.holder_model.Calling.{value_count}
use Rattle.numbered_form.specs.Numbering.{values_of}
use Rattle.holder_model_typing.specs.holder_model.RunTyping.Runnable.{IsBodyInLimits, IsRunnable}
use Rattle.sil_ast.specs.declared.function.BlockArg.{BlockArg}
use Rattle.sil_ast.specs.declared.function.Function.{Function}
use Rattle.sil_ast.specs.declared.inst.Inst.{Inst}
use Rattle.sil_ast.specs.declared.module.Module.{Module}
use Rattle.sil_ast.specs.declared.place.ValueId.{ValueId}
use Rattle.sil_rules.specs.declared.limits.TheConstants.{VALUES}
use Rattle.sil_types.specs.Typing.Values.{arg_functions, functions_by, result_functions}
use Rattle.holder_model_typing.proofs.RunTypingLaws.Rows.Finding.{each_at}
use Rattle.numbered_form.proofs.ValueTables.Rows.{rows_count}

arg_count : (n : ℕ) (xs : List BlockArg) → length (arg_functions n xs) ≡ length xs
arg_count n xs = length-replicate (length xs) None

result_count : (i : Inst) → length (result_functions i) ≡ length i.results
result_count i = at i.results
  where
    at : (vs : List ValueId) → length (functions_by i.function vs) ≡ length vs
    at [] = refl
    at (v ∷ vs) = ap (λ n. suc n) (length-replicate (length vs) None)

-- as many as its blocks define
pub values_counted : (f : Function) → value_count f ≡ length (values_of f.blocks)
values_counted f = rows_count arg_functions result_functions arg_count result_count 0 f.blocks

pub few_values : (m : Module) → IsRunnable m → (n : ℕ) (f : Function) → slice_get m.functions n ≡ Some f → value_count f ≤ VALUES
few_values m r n f there =
    let count = values_counted f in
    let within = (each_at IsBodyInLimits m.functions n f r.numbered.limits.each there).values in
    omega (arith, count, within)
