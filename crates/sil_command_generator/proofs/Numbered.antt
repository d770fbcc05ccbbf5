-- The generated module is in numbered form.
use Rattle.std.proofs.Common.{◌≡◌, ◌∙◌, ℕ, zero, suc, ◌+◌, ◌<◌, ◌≤◌, List, [], ◌∷◌, ◌++◌, length, map, true, refl, ap, arith, leb-true, length-append}
use Rattle.std.specs.List.{range_with_len}
use Rattle.std.proofs.lemmas.List.FromFn.{length-map-range_with_len}
use Rattle.numbered_form.specs.Lists.{Each}
use Rattle.numbered_form.specs.Names.{AreNamesOnce, AreNamesSpelled, decl_name, member_names}
use Rattle.numbered_form.specs.inner.Limits.{AreLimitsKept}
use Rattle.numbered_form.specs.inner.NumberedForm.{IsNumbered}
use Rattle.numbered_form.specs.inner.Types.{AreTypesWritten}
use Rattle.sil_ast.specs.Imports.{reserved}
use Rattle.sil_ast.specs.declared.function.Function.{Function}
use Rattle.sil_rules.specs.declared.limits.TheConstants.{DECLARATIONS, MEMBERS}
use Rattle.sil_command_generator.specs.GeneratedModules.{both_imports, functions_of, generated_module, main, node_class}
use Rattle.sil_command_generator.specs.WorkFunctions.{int, list, work}
use Rattle.sil_command_generator.specs.inner.Laws.{AreGeneratedNumbered}
use Rattle.sil_command_generator.proofs.InstTests.{is_plain, plain}
use Rattle.sil_command_generator.proofs.NumberedMain.{main_formed, main_insts_spelled, main_limits, main_literals, main_numbered, main_parts, main_types}
use Rattle.sil_command_generator.proofs.NumberedWork.{work_formed, work_insts_spelled, work_limits, work_literals, work_numbered, work_parts, work_types}
use Rattle.sil_command_generator.proofs.OnceNames.{functions_once, main_spelled, once_by_marks, work_spelled}
use Rattle.sil_command_generator.proofs.WrittenTypes.{opened}

work_each : (P : Function → Type 0) (a n : ℕ) (rest : List Function) → ((k : ℕ) → k < a + n → P (work k)) → Each P rest
    → Each P (map work (range_with_len a n) ++ rest)
work_each P a zero rest each behind = behind
work_each P a (suc n) rest each behind = (each a (omega arith), work_each P (a + 1) n rest (λ k within. each k (omega (arith, within))) behind)

-- what holds of the functions that do the work, and of `@main`, holds of each function
functions_each : (P : Function → Type 0) (n : ℕ) → ((k : ℕ) → k < n → P (work k)) → P (main n) → Each P (functions_of n)
functions_each P n each last = work_each P 0 n (main n ∷ []) (λ k within. each k (omega (arith, within))) (last, tt)

functions_count : (n : ℕ) → length (functions_of n) ≡ n + 1
functions_count n =
    length-append (map work (range_with_len 0 n)) (main n ∷ []) ∙ ap (λ k. k + 1) (length-map-range_with_len work 0 n)

int_plain : plain int ≡ true
int_plain = simp (opened) refl

list_plain : plain list ≡ true
list_plain = simp (opened) refl

module _ (n : ℕ) (within : n ≤ 500) where
  more : n < length (functions_of n)
  more = omega (arith, functions_count n)

  names_spelled : AreNamesSpelled (generated_module n)
  names_spelled = record {
    declarations = (record { name = refl; superclass = tt; members = (refl, (refl, tt)) }, tt);
    functions = functions_each _ n (λ k low. work_spelled k (omega (arith, low, within))) (main_spelled n);
    vtables = tt;
    insts = functions_each _ n (λ k low. work_insts_spelled k) (main_insts_spelled n);
  }

  names_once : AreNamesOnce (generated_module n)
  names_once = record {
    declarations = once_by_marks (reserved both_imports ++ map decl_name (node_class ∷ [])) refl;
    members = (once_by_marks (member_names node_class) refl, tt);
    functions = functions_once n within;
    vtables = tt;
  }

  types_written : AreTypesWritten (generated_module n)
  types_written = record {
    declarations = ((is_plain int int_plain, (is_plain list list_plain, tt)), tt);
    functions = functions_each _ n (λ k low. work_types k) (main_types n);
  }

  limits_kept : AreLimitsKept (generated_module n)
  limits_kept = record {
    declarations = leb-true 1 DECLARATIONS refl;
    members = (leb-true (length (member_names node_class)) MEMBERS refl, tt);
    functions = omega (arith, functions_count n, within);
    each = functions_each _ n (λ k low. work_limits k) (main_limits n within);
  }

  numbered : IsNumbered (generated_module n)
  numbered = record {
    numbering = record { functions = functions_each _ n (λ k low. work_numbered (length (functions_of n)) k) (main_numbered n (length (functions_of n)) more); vtables = tt };
    parts = functions_each _ n (λ k low. work_parts k) (main_parts n);
    literals = functions_each _ n (λ k low. work_literals k) (main_literals n);
    fields = (tt, tt);
    names = names_spelled;
    once = names_once;
    types = types_written;
    functions = functions_each _ n (λ k low. work_formed k) (main_formed n);
    limits = limits_kept;
  }

pub generated_numbered : AreGeneratedNumbered
generated_numbered = numbered
