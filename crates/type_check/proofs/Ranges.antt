-- In a module in numbered form, blocks and instructions can be counted, and edges go to blocks.
use Rattle.std.proofs.Common.{◌≡◌, ℕ, ◌+◌, ◌<◌, ◌≤◌, ◌^◌, List, [], ◌∷◌, ◌++◌, length, length-append, arith}
use Rattle.sil_ast.specs.declared.function.Block.{Block}
use Rattle.sil_ast.specs.declared.function.Function.{Function}
use Rattle.sil_ast.specs.declared.inst.Inst.{Inst}
use Rattle.sil_ast.specs.declared.module.Module.{Module}
use Rattle.numbered_form.specs.Insts.{insts_of, insts_in, EachInBlock}
use Rattle.numbered_form.specs.inner.Limits.{IsFunctionInLimits}
use Rattle.numbered_form.specs.Lists.{Each}
use Rattle.numbered_form.specs.inner.NumberedForm.{IsNumbered}
use Rattle.numbered_form.specs.Numbering.{IsFunctionNumbered, IsInstInRange, values_of}
use Rattle.sil_rules.specs.declared.limits.TheConstants.{INSTRUCTIONS}
use Rattle.type_check.specs.inner.Body.{AreEdgesInRange, HasBodyInRange, IsBlockInRange}

each_of : {A : Type 0} (P Q : A → Type 0) → ((x : A) → P x → Q x) → (xs : List A) → Each P xs → Each Q xs
each_of P Q to [] h = tt
each_of P Q to (x ∷ xs) h = (to x h.0, each_of P Q to xs h.1)

each_of_two : {A : Type 0} (P Q R : A → Type 0) → ((x : A) → P x → Q x → R x) → (xs : List A) → Each P xs → Each Q xs → Each R xs
each_of_two P Q R to [] h g = tt
each_of_two P Q R to (x ∷ xs) h g = (to x h.0 g.0, each_of_two P Q R to xs h.1 g.1)

-- each block has no more instructions than all blocks together
short : (n : ℕ) (blocks : List Block) → length (insts_in blocks) ≤ n → Each (λ b. length b.insts ≤ n) blocks
short n [] le = tt
short n (b ∷ bs) le =
    let all = length-append (insts_of b) (insts_in bs) in
    let own = length-append b.insts (b.terminator ∷ []) in
    (omega (arith, le, all, own), short n bs (omega (arith, le, all, own)))

module _ (functions : ℕ) (f : Function) where
  abbrev InRange : Inst → Type 0
  InRange = IsInstInRange (length (values_of f.blocks)) (length f.blocks) functions

  block_in_range : (b : Block) → EachInBlock InRange b → length b.insts ≤ INSTRUCTIONS → IsBlockInRange f b
  block_in_range b inside le = record { edges = (each_of InRange (AreEdgesInRange f) (λ i h. h.edges) b.insts inside.0, inside.1.edges); size = omega (arith, le) }

  body_in_range : IsFunctionNumbered functions f → IsFunctionInLimits f → HasBodyInRange f
  body_in_range numbered limits = record {
    blocks = each_of_two (EachInBlock InRange) (λ b. length b.insts ≤ INSTRUCTIONS) (IsBlockInRange f) block_in_range f.blocks numbered.used (short INSTRUCTIONS f.blocks limits.insts);
    size = let le = limits.blocks in omega (arith, le);
  }

-- so it is in each function
pub bodies_in_range : (m : Module) → IsNumbered m → Each HasBodyInRange m.functions
bodies_in_range m numbered =
    each_of_two (IsFunctionNumbered (length m.functions)) IsFunctionInLimits HasBodyInRange (body_in_range (length m.functions)) m.functions numbered.numbering.functions numbered.limits.each
