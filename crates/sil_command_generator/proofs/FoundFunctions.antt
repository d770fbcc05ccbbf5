-- Each function that does the work is found by its number.
use Rattle.std.proofs.Common.{◌≡◌, ◌∙◌, ◌<◌, ℕ, ◌+◌, zero, suc, List, [], ◌∷◌, ◌++◌, map, ap, arith, Some, slice_get}
use Rattle.std.specs.List.{range_with_len}
use Rattle.sil_ast.specs.declared.function.Function.{Function}
use Rattle.sil_command_generator.specs.GeneratedModules.{functions_of, main}
use Rattle.sil_command_generator.specs.WorkFunctions.{work}

found_from : (a n k : ℕ) (rest : List Function) → k < n → slice_get (map work (range_with_len a n) ++ rest) k ≡ Some (work (a + k))
found_from a zero k rest within = absurd (omega (arith, within))
found_from a (suc n) zero rest within = let same : a ≡ a + 0 = omega arith in ap (λ j. Some (work j)) same
found_from a (suc n) (suc k) rest within =
    let same : (a + 1) + k ≡ a + suc k = omega arith in
    found_from (a + 1) n k rest (omega (arith, within)) ∙ ap (λ j. Some (work j)) same

pub found : (n k : ℕ) → k < n → slice_get (functions_of n) k ≡ Some (work k)
found n k within = let same : 0 + k ≡ k = omega arith in found_from 0 n k (main n ∷ []) within ∙ ap (λ j. Some (work j)) same
