use Rattle.std.proofs.Common.{◌≡◌, refl}
use Rattle.std.specs.Prelude.{Option, Some, None}
use Rattle.sil_grammar_shape.proofs.ParseTableLemmas.{empty_table}
use Rattle.sil_grammar_shape.proofs.parse_table.ParseTable.new.Goals as goal

-- only nothing is a clone of nothing
clone-none : {A : Type 0} (C : Option A → Type 0) → ((x : A) → C (Some x) → ⊥) → (y : Option A) → C y → y ≡ None
clone-none C none None e = refl
clone-none C none (Some x) e = absurd (none x e)

pub invariant_of-result-clause-right : goal.invariant_of-result-clause-right
invariant_of-result-clause-right c = empty_table _ (c.in_ok-known.ensures.items_if_clones_equal (clone-none _ (λ x h. h)))

pub returns : goal.returns
returns c = c.in_ok-known.ensures.items_if_clones_equal (clone-none _ (λ x h. h))
