-- The leaves of a part among those of a value: they are read, and others take their place.
use Rattle.std.proofs.Common.{◌≡◌, ℕ, List, Some, true, length, take, drop, sym, ap, ◌∙◌}
use Rattle.holder_model_values.specs.RunValues.Leaves.{leaves_of}
use Rattle.holder_model_values.specs.RunValues.Shapes.{Shape}
use Rattle.holder_model_values.specs.RunValues.Values.{Value}
use Rattle.holder_model_values.specs.ValueParts.inner.LeafLists.{spliced}
use Rattle.holder_model_values.specs.ValueParts.inner.Paths.{IsPart, leaf_count, leaves_before, part_at, with_part_at}
use Rattle.holder_model_values.specs.ValueParts.inner.Suits.{ClassTest, suits}
use Rattle.holder_model_values.proofs.ValueParts.Frames.{Frame, part_frame}
use Rattle.holder_model_values.proofs.ValueParts.Leaves.{leaves_length}
use Rattle.holder_model_values.proofs.ValueParts.Parts.{has_part, part_suits, with_same_part}
use Rattle.holder_model_values.proofs.ValueParts.SideBySide.{leaves_laid}
use Rattle.holder_model_values.proofs.ValueParts.Splices.{read_middle, spliced_middle}
use Rattle.holder_model_values.proofs.ValueParts.Suiting.{suits_fits}

module _ (test : ClassTest) where
  pub suits_leaves_length : (s : Shape) (v : Value) → suits test s v ≡ true → length (leaves_of s v) ≡ leaf_count s
  suits_leaves_length s v h = leaves_length s v (suits_fits test s v h)

  frame : {s u : Shape} {path : List ℕ} → IsPart s path u → (v : Value) → suits test s v ≡ true → Frame leaves_of (leaves_before s path) u (λ x. leaves_of s (with_part_at v path x))
  frame = part_frame leaves_of leaf_count test suits_leaves_length leaves_laid

  pub leaves_read : {s u : Shape} {path : List ℕ} → IsPart s path u → (v w : Value) → suits test s v ≡ true → part_at v path ≡ Some w
      → take (leaf_count u) (drop (leaves_before s path) (leaves_of s v)) ≡ leaves_of u w
  leaves_read {s = s} {u = u} {path = path} part v w h is =
      let around = frame part v h in
      let mine = suits_leaves_length u w (part_suits test part v w h is) in
      ap (λ x. take (leaf_count u) (drop (leaves_before s path) (leaves_of s x))) (sym (with_same_part path v w is))
      ∙ ap (λ ls. take (leaf_count u) (drop (leaves_before s path) ls)) (around.splits w)
      ∙ read_middle around.before (leaves_of u w) around.behind (leaves_before s path) (leaf_count u) around.count mine

  pub leaves_written : {s u : Shape} {path : List ℕ} → IsPart s path u → (v w : Value) → suits test s v ≡ true → suits test u w ≡ true
      → spliced (leaves_of s v) (leaves_before s path) (leaves_of u w) ≡ leaves_of s (with_part_at v path w)
  leaves_written {s = s} {u = u} {path = path} part v w h good =
      let around = frame part v h in
      let old = has_part test part v h in
      let same : length (leaves_of u w) ≡ length (leaves_of u old.0) = suits_leaves_length u w good ∙ sym (suits_leaves_length u old.0 old.2) in
      ap (λ x. spliced (leaves_of s x) (leaves_before s path) (leaves_of u w)) (sym (with_same_part path v old.0 old.1))
      ∙ ap (λ ls. spliced ls (leaves_before s path) (leaves_of u w)) (around.splits old.0)
      ∙ spliced_middle around.before (leaves_of u old.0) around.behind (leaves_of u w) (leaves_before s path) around.count same
      ∙ sym (around.splits w)
