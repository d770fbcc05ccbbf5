-- The edges of a switch under other numbers: the same one is chosen.
use Rattle.std.proofs.Common.{◌≡◌, ◌+◌, List, [], ◌∷◌, map, refl, ap₂, Bool, cond, Option, Some, None}
use Rattle.std.specs.Prelude.{nat_lt, not, option_and_then, position}
use Rattle.std.specs.List.{position_or_len}
use Rattle.std.specs.Option.{option_or}
use Rattle.std.proofs.lemmas.List.{length-map}
use Rattle.sil_ast.specs.declared.inst.Edge.{Edge}
use Rattle.sil_ast.specs.declared.place.ValueId.{ValueId}
use Rattle.holder_model_values.specs.RunValues.Shapes.{Shape}
use Rattle.holder_model_values.specs.RunValues.Values.{ChosenCase, Value, case_of}
use Rattle.sil_verifier_runs.specs.holder_model.Edges.{case_edge, edge_for, is_default, is_for}
use Rattle.ownership_lowering_laws.specs.ownership_lowering_model.Numbers.{renumbered_edge}

place_mapped : {A B : Type 0} (p : B → Bool) (q : A → Bool) (g : A → B) → ((x : A) → p (g x) ≡ q x) → (xs : List A) → position_or_len p (map g xs) ≡ position_or_len q xs
place_mapped p q g h [] = refl
place_mapped p q g h (x ∷ xs) = ap₂ (λ b n. cond (not b) (1 + n) 0) (h x) (place_mapped p q g h xs)

position_mapped : {A B : Type 0} (p : B → Bool) (q : A → Bool) (g : A → B) → ((x : A) → p (g x) ≡ q x) → (xs : List A) → position p (map g xs) ≡ position q xs
position_mapped p q g h xs = ap₂ (λ k n. cond (nat_lt k n) (Some k) None) (place_mapped p q g h xs) (length-map xs g)

pub same_edge : (number : ValueId → ValueId) (s : Shape) (es : List Edge) (v : Value) → case_edge s (map (renumbered_edge number) es) v ≡ case_edge s es v
same_edge number s es v = at (case_of v)
  where
    at : (o : Option ChosenCase) → option_and_then (λ (c : ChosenCase). edge_for s (map (renumbered_edge number) es) c.index) o ≡ option_and_then (λ (c : ChosenCase). edge_for s es c.index) o
    at None = refl
    at (Some c) =
        ap₂ option_or (position_mapped (is_for s c.index) (is_for s c.index) (renumbered_edge number) (λ e. refl) es)
        (position_mapped is_default is_default (renumbered_edge number) (λ e. refl) es)
