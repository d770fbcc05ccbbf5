-- A module in numbered form has few copies.
use Rattle.std.proofs.Common.{◌≡◌, ◌≤◌, ◌<◌, ◌*◌, List, [], ◌∷◌, length, arith, length-append}
use Rattle.std.specs.Prelude.{◌^◌}
use Rattle.std.specs.List.{sum_by}
use Rattle.std.proofs.lemmas.List.Concat.{length-flat_map}
use Rattle.std.proofs.lemmas.List.Sums.{count_by-le-length, sum_by-cons, sum_by-le-sum_by}
use Rattle.numbered_form.specs.Insts.{insts_in, insts_of}
use Rattle.numbered_form.specs.Lists.{Each}
use Rattle.numbered_form.specs.inner.Limits.{IsFunctionInLimits}
use Rattle.numbered_form.specs.inner.NumberedForm.{IsNumbered}
use Rattle.sil_ast.specs.declared.function.Block.{Block}
use Rattle.sil_ast.specs.declared.function.Function.{Function}
use Rattle.sil_ast.specs.declared.module.Module.{Module}
use Rattle.module_runner.specs.copy_pairing_model.Counts.{copies, copies_of, copies_of_block, copies_of_function}

few_in_block : (b : Block) → copies_of_block b ≤ length (insts_of b)
few_in_block b = omega (arith, count_by-le-length copies b.insts, length-append b.insts (b.terminator ∷ []))

few_in_function : (f : Function) → copies_of_function f ≤ length (insts_in f.blocks)
few_in_function f =
    omega (arith, sum_by-le-sum_by copies_of_block (λ b. length (insts_of b)) f.blocks few_in_block, length-flat_map insts_of f.blocks)

few_in_functions : (fs : List Function) → Each IsFunctionInLimits fs → sum_by copies_of_function fs ≤ length fs * 4096
few_in_functions [] limits = omega arith
few_in_functions (f ∷ fs) limits =
    let insts : length (insts_in f.blocks) ≤ 4096 = limits.0.insts in
    omega (arith, sum_by-cons copies_of_function f fs, few_in_function f, insts, few_in_functions fs limits.1)

pub few_copies : (m : Module) → IsNumbered m → copies_of m < 2 ^ 64
few_copies m numbered =
    let functions : length m.functions ≤ 1024 = numbered.limits.functions in
    omega (arith, functions, few_in_functions m.functions numbered.limits.each)
