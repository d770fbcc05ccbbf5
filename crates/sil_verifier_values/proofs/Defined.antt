-- Each value of an accepted function is a result of an instruction or an argument of a block.
use Rattle.std.proofs.Common.{◌≡◌, ℕ, ap, ◌∙◌, subst, Some}
use Rattle.std.specs.Prelude.{slice_get}
use Rattle.sil_verifier_accepted.specs.ownership_kinds.Statics.{IsDefinedAt}
use Rattle.sil_verifier_accepted.specs.ownership_kinds.Statics.IsDefinedAt.{argument, result}
use Rattle.numbered_form.specs.PointChecks.Points.{IsAt}
use Rattle.sil_ast.specs.Blocks.{args_in, args_of}
use Rattle.sil_ast.specs.declared.function.BlockArg.{BlockArg}
use Rattle.sil_ast.specs.declared.function.Function.{Function}
use Rattle.sil_ast.specs.declared.inst.Inst.{Inst}
use Rattle.sil_ast.specs.declared.module.Module.{Module}
use Rattle.sil_ast.specs.declared.place.ValueId.{ValueId}
use Rattle.sil_verifier_accepted.proofs.ownership_kinds.Defined.{defined_somewhere}
use Rattle.sil_verifier_values.specs.inner.Known.{IsAcceptedBody, IsValue}
use Rattle.sil_verifier_values.proofs.Accepted.{counted}
use Rattle.sil_verifier_values.proofs.Counted.{stands}

pub data IsDefined (f : Function) : ValueId → Type 0 where
  a_result : (block index k : ℕ) (i : Inst) (v : ValueId) → IsAt f block index i → slice_get i.results k ≡ Some v → IsDefined f v
  an_argument : (b k : ℕ) (a : BlockArg) → slice_get (args_of f b) k ≡ Some a → IsDefined f a.value

pub defined_so : (m : Module) (n : ℕ) (f : Function) (v : ValueId) → IsAcceptedBody m n f → IsValue f v → IsDefined f v
defined_so m n f v a lt = let point = defined_somewhere v f (counted m n f a) lt in by point.0 point.1 point.2
  where
    by : (b k : ℕ) → IsDefinedAt f v b k → IsDefined f v
    by _ _ (result b k i at c) = let place = stands i.results v c in a_result b k place.0 i v at place.1
    by _ _ (argument b block x is c e) =
        let place = stands block.args x c in
        subst (IsDefined f) e (an_argument b place.0 x (ap (λ o. slice_get (args_in o) place.0) is ∙ place.1))
