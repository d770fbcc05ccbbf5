-- The blocks of a function of a numbered module are short.
use Rattle.std.proofs.Common.{ℕ, zero, suc, ◌<◌, ◌≤◌, ◌^◌, List, [], ◌∷◌, length, arith, length-append, get_or, sym, subst, inl, inr}
use Rattle.sil_ast.specs.declared.function.Block.{Block}
use Rattle.sil_ast.specs.declared.function.Function.{Function}
use Rattle.numbered_form.specs.Insts.{insts_in, insts_of}
use Rattle.numbered_form.specs.inner.Limits.{IsFunctionInLimits}
use Rattle.numbered_form.specs.Lists.{Each}
use Rattle.numbered_form.specs.PointChecks.inner.Numbered.{IsOfNumberedModule}
use Rattle.numbered_form.proofs.PointChecks.Among.{Among, among_contained}

each_among : {A : Type 0} (P : A → Type 0) (xs : List A) (x : A) → Each P xs → Among x xs → P x
each_among P [] x h a = absurd a
each_among P (y ∷ xs) x h (inl e) = subst P (sym e) h.0
each_among P (y ∷ xs) x h (inr a) = each_among P xs x h.1 a

block_among : (bs : List Block) (k : ℕ) (d : Block) → k < length bs → length (get_or bs k d).insts ≤ length (insts_in bs)
block_among [] k d lt = absurd (omega arith)
block_among (b ∷ bs) zero d lt = omega (arith, length-append (insts_of b) (insts_in bs), length-append b.insts (b.terminator ∷ []))
block_among (b ∷ bs) (suc k) d lt = omega (arith, block_among bs k d (omega arith), length-append (insts_of b) (insts_in bs))

pub are_short : (f : Function) → IsOfNumberedModule f → (k : ℕ) (d : Block) → k < length f.blocks → length (get_or f.blocks k d).insts < 2 ^ 32
are_short f m k d lt =
    let limits : IsFunctionInLimits f = each_among IsFunctionInLimits m.0.functions f m.1.limits.each (among_contained f m.0.functions m.2) in
    omega (arith, limits.insts, block_among f.blocks k d lt)
