-- How many `@out` results there are.
use Rattle.std.proofs.Common.{◌≡◌, suc, ◌+◌, List, [], ◌∷◌, ◌++◌, length, refl, arith, Bool, true, false}
use Rattle.std.specs.Prelude.{cond, filter, not}
use Rattle.std.specs.List.{flat_map}
use Rattle.sil_ast.specs.declared.signature.Given.{Given}
use Rattle.argument_conventions.specs.Arguments.{Told, is_direct, out_argument, out_place}

one_more : (r : Given) (b : Bool) (outs : List Told) (direct rs : List Given) → length outs + length direct ≡ length rs →
    length (cond b (out_place r ∷ []) [] ++ outs) + length (cond (not b) (r ∷ direct) direct) ≡ suc (length rs)
one_more r true outs direct rs e = omega arith
one_more r false outs direct rs e = omega arith

-- each result is direct or one of them
pub outs_and_direct : (rs : List Given) → length (flat_map out_argument rs) + length (filter is_direct rs) ≡ length rs
outs_and_direct [] = refl
outs_and_direct (r ∷ rs) = one_more r r.out (flat_map out_argument rs) (filter is_direct rs) rs (outs_and_direct rs)
