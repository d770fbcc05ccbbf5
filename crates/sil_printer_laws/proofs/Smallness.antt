-- The numbers of values and blocks of a module in numbered form are small.
use Rattle.std.proofs.Common.{ℕ, ◌+◌, ◌≤◌, List, [], ◌∷◌, length, arith, flat_map}
use Rattle.sil_ast.specs.declared.inst.Edge.{Edge}
use Rattle.sil_ast.specs.declared.operands.Operand.{Operand}
use Rattle.sil_ast.specs.declared.place.ValueId.{ValueId}
use Rattle.numbered_form.specs.Lists.{Each}
use Rattle.numbered_form.specs.Numbering.{AreCountedFrom, IsEdgeInRange, IsValueBelow}
use Rattle.sil_grammar.proofs.NumberedReadingLaws.UsedLemmas.{Each-split}
use Rattle.sil_printer_laws.proofs.Printable.{IsSmallEdge, IsSmallOperand, IsSmallValue}

-- what holds of all that some items have holds of what each has
pub Each-inside : {A B : Type 0} (f : A → List B) (P : B → Type 0) (xs : List A) → Each P (flat_map f xs) → Each (λ x. Each P (f x)) xs
Each-inside f P [] e = tt
Each-inside f P (x ∷ xs) e = let split = Each-split P (f x) (flat_map f xs) e in (split.0, Each-inside f P xs split.1)

-- numbers that are counted up from one are below where the count ends
pub counted_small : (n : ℕ) (vs : List ValueId) → AreCountedFrom n vs → n + length vs ≤ 1024 → Each IsSmallValue vs
counted_small n [] counted few = tt
counted_small n (v ∷ vs) counted few = (omega (arith, counted.0), counted_small (n + 1) vs counted.1 (omega arith))

pub operands_small : (values : ℕ) (os : List Operand) → values ≤ 1024 → Each (IsValueBelow values) os → Each IsSmallOperand os
operands_small values [] few below = tt
operands_small values (o ∷ os) few below = (omega (arith, below.0), operands_small values os few below.1)

pub edges_small : (values blocks : ℕ) (es : List Edge) → values ≤ 1024 → blocks ≤ 512 → Each (IsEdgeInRange values blocks) es → Each IsSmallEdge es
edges_small values blocks [] few_values few_blocks inside = tt
edges_small values blocks (e ∷ es) few_values few_blocks inside =
    (record { block = omega (arith, inside.0.block); args = operands_small values e.args few_values inside.0.args }, edges_small values blocks es few_values few_blocks inside.1)
