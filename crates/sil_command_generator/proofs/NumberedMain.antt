-- `@main` is in numbered form: two values for each call, and one more.
use Rattle.std.proofs.Common.{◌≡◌, ◌∙◌, ℕ, zero, suc, ◌+◌, ◌*◌, ◌<◌, ◌≤◌, List, [], ◌∷◌, ◌++◌, length, Bool, cond, fold, IsTrue, refl, sym, subst, arith, leb-true}
use Rattle.std.specs.List.{flat_map, list_all, range_with_len}
use Rattle.instruction_table.specs.Forms.{has_one_result}
use Rattle.numbered_form.specs.Insts.{EachInFunction}
use Rattle.numbered_form.specs.Lists.{Each}
use Rattle.numbered_form.specs.Names.{IsInstSpelled}
use Rattle.numbered_form.specs.Numbering.{AreCountedFrom, IsFunctionNumbered, IsInstInRange, results_of, values_of}
use Rattle.numbered_form.specs.inner.Functions.{IsFormed}
use Rattle.numbered_form.specs.inner.Limits.{IsFunctionInLimits, IsInstInLimits, inst_takes_value, value_count}
use Rattle.numbered_form.specs.inner.Literals.{HasLiterals}
use Rattle.numbered_form.specs.inner.Parts.{FunctionHasParts, IsInside}
use Rattle.numbered_form.specs.inner.Types.{HasFunctionTypes, HasInstTypes}
use Rattle.sil_ast.specs.declared.inst.Inst.{Inst}
use Rattle.sil_rules.specs.declared.limits.TheConstants.{ARGUMENTS, BLOCKS}
use Rattle.sil_command_generator.specs.GeneratedModules.{call_of, main}
use Rattle.sil_command_generator.specs.WorkFunctions.{empty_tuple, return_of}
use Rattle.sil_command_generator.proofs.InstTests.{has_limits, has_literals, has_types, inside, is_inside, is_spelled, is_terminating, limited, spelled, terminates, with_literals, with_types}
use Rattle.sil_command_generator.proofs.Tests.{each_by}
use Rattle.sil_command_generator.proofs.WrittenTypes.{opened}

-- ---- what holds of each instruction

calls_each : (P : Inst → Type 0) (a n : ℕ) (rest : List Inst) → ((k : ℕ) → k < a + n → Each P (call_of k)) → Each P rest
    → Each P (flat_map call_of (range_with_len a n) ++ rest)
calls_each P a zero rest each behind = behind
calls_each P a (suc n) rest each behind =
    let first = each a (omega arith) in
    (first.0, (first.1.0, calls_each P (a + 1) n rest (λ k within. each k (omega (arith, within))) behind))

module _ (P : Inst → Type 0) (n : ℕ) (each : (k : ℕ) → k < n → Each P (call_of k)) (tuple : P (empty_tuple (2 * n))) where
  insts_each : Each P (flat_map call_of (range_with_len 0 n) ++ empty_tuple (2 * n) ∷ [])
  insts_each = calls_each P 0 n (empty_tuple (2 * n) ∷ []) (λ k within. each k (omega (arith, within))) (tuple, tt)

  main_each : P (return_of (2 * n)) → EachInFunction P (main n)
  main_each behind = ((insts_each, behind), tt)

module _ (P : Inst → Type 0) (test : Inst → Bool) (sound : (i : Inst) → IsTrue (test i) → P i) (n : ℕ)
    (of_calls : (k : ℕ) → IsTrue (list_all test (call_of k))) (of_tuple : IsTrue (test (empty_tuple (2 * n)))) (of_return : IsTrue (test (return_of (2 * n)))) where
  main_by : EachInFunction P (main n)
  main_by = main_each P n (λ k within. each_by P test sound (call_of k) (of_calls k)) (sound (empty_tuple (2 * n)) of_tuple) (sound (return_of (2 * n)) of_return)

pub main_literals : (n : ℕ) → EachInFunction HasLiterals (main n)
main_literals n = main_by HasLiterals with_literals has_literals n (λ k. refl) refl refl

pub main_insts_spelled : (n : ℕ) → EachInFunction IsInstSpelled (main n)
main_insts_spelled n = main_by IsInstSpelled spelled is_spelled n (λ k. refl) refl refl

return_typed : (n : ℕ) → IsTrue (with_types (return_of n))
return_typed n = simp (opened) refl

main_inst_types : (n : ℕ) → EachInFunction HasInstTypes (main n)
main_inst_types n = main_by HasInstTypes with_types has_types n (λ k. refl) refl (return_typed (2 * n))

pub main_types : (n : ℕ) → HasFunctionTypes (main n)
main_types n = record {
  signature = record { params = tt; results = tt };
  blocks = (record { args = tt; insts = (main_inst_types n).0 }, tt);
}

main_inst_limits : (n : ℕ) → EachInFunction IsInstInLimits (main n)
main_inst_limits n = main_by IsInstInLimits limited has_limits n (λ k. refl) refl refl

calls_inside : (k : ℕ) → IsTrue (list_all inside (call_of k))
unfolding has_one_result
calls_inside k = refl

tuple_inside : (n : ℕ) → IsTrue (inside (empty_tuple n))
unfolding has_one_result
tuple_inside n = refl

return_terminates : (n : ℕ) → IsTrue (terminates (return_of n))
unfolding has_one_result
return_terminates n = refl

pub main_parts : (n : ℕ) → FunctionHasParts (main n)
main_parts n = (
  record {
    insts = insts_each IsInside n (λ k within. each_by IsInside inside is_inside (call_of k) (calls_inside k)) (is_inside (empty_tuple (2 * n)) (tuple_inside (2 * n)));
    terminator = is_terminating (return_of (2 * n)) (return_terminates (2 * n));
  },
  tt,
)

pub main_formed : (n : ℕ) → IsFormed (main n)
main_formed n = record { attributes = tt; external = (λ e. absurd (cc), λ e. absurd (cc)) }

-- ---- its values

-- the calls from the a-th on, and what ends the function
abbrev insts_from : ℕ → ℕ → ℕ → List Inst
insts_from a n t = (flat_map call_of (range_with_len a n) ++ empty_tuple t ∷ []) ++ return_of t ∷ []

counted_from : (a n t m : ℕ) → m ≡ 2 * a → t ≡ 2 * (a + n) → AreCountedFrom m (flat_map results_of (insts_from a n t) ++ [])
counted_from a zero t m first last = (omega (arith, first, last), tt)
counted_from a (suc n) t m first last =
    (omega (arith, first), (omega (arith, first), counted_from (a + 1) n t (m + 1 + 1) (omega (arith, first)) (omega (arith, last))))

values_from : (a n t : ℕ) → length (flat_map results_of (insts_from a n t) ++ []) ≡ 2 * n + 1
values_from a zero t = omega arith
values_from a (suc n) t = omega (arith, values_from (a + 1) n t)

pub main_values : (n : ℕ) → length (values_of (main n).blocks) ≡ 2 * n + 1
main_values n = values_from 0 n (2 * n)

main_counted : (n : ℕ) → AreCountedFrom 0 (values_of (main n).blocks)
main_counted n = counted_from 0 n (2 * n) 0 (omega arith) (omega arith)

range_of_insts : (n functions : ℕ) → n < functions → EachInFunction (IsInstInRange (2 * n + 1) 1 functions) (main n)
range_of_insts n functions more =
    main_each (IsInstInRange (2 * n + 1) 1 functions) n
    (λ k within. (
      record { operands = tt; edges = tt; function = omega (arith, within, more) },
      (record { operands = (omega (arith, within), tt); edges = tt; function = tt }, tt),
    ))
    (record { operands = tt; edges = tt; function = tt }) (record { operands = (omega arith, tt); edges = tt; function = tt })

pub main_numbered : (n functions : ℕ) → n < functions → IsFunctionNumbered functions (main n)
main_numbered n functions more = record {
  values = main_counted n;
  used = subst (λ values. EachInFunction (IsInstInRange values 1 functions) (main n)) (sym (main_values n)) (range_of_insts n functions more);
}

-- ---- its limits

insts_count : (a n t : ℕ) → length (insts_from a n t ++ []) ≡ 2 * n + 2
insts_count a zero t = omega arith
insts_count a (suc n) t = omega (arith, insts_count (a + 1) n t)

-- none of its instructions takes one more value
abbrev takes : ℕ → Inst → ℕ
takes count i = count + cond (inst_takes_value i) 1 0

none_takes : (a n t count : ℕ) → fold takes count (insts_from a n t ++ []) ≡ count
none_takes a zero t count = omega arith
none_takes a (suc n) t count = let same : count + 0 + 0 ≡ count = omega arith in none_takes (a + 1) n t (count + 0 + 0) ∙ same

values_counted : (n : ℕ) → value_count (main n).blocks ≡ 2 * n + 1
values_counted n = omega (arith, main_values n, none_takes 0 n (2 * n) 0)

pub main_limits : (n : ℕ) → n ≤ 500 → IsFunctionInLimits (main n)
main_limits n within = record {
  attributes = leb-true 0 ARGUMENTS refl;
  signature = record { params = leb-true 0 ARGUMENTS refl; results = leb-true 0 ARGUMENTS refl };
  blocks = leb-true 1 BLOCKS refl;
  insts = omega (arith, insts_count 0 n (2 * n), within);
  values = omega (arith, values_counted n, within);
  each = (record { args = leb-true 0 ARGUMENTS refl; insts = (main_inst_limits n).0 }, tt);
}
