-- Leaves laid over some of a slot's: they stand in its stretch, and nowhere else.
use Rattle.std.proofs.Common.{◌≡◌, ◌≤◌, ◌+◌, ◌++◌, ◌⊎◌, inl, inr, ℕ, List, length, take, drop, sym, ap, ◌∙◌, arith}
use Rattle.std.proofs.lemmas.List.{length-drop, length-take-le, take-append-drop}
use Rattle.count_machine_model.specs.MachineSteps.Operands.{laid_over}
use Rattle.holder_model_values.specs.declared.run_values.leaf.Leaf.{Leaf}
use Rattle.holder_model_values.specs.ValueParts.inner.LeafLists.{spliced}
use Rattle.holder_model_values.proofs.ValueParts.Splices.{read_middle, spliced_length, spliced_within}
use Rattle.count_machine_laws.proofs.LayoutsLists.{laid, laid_apart, laid_length}
use Rattle.count_machine_laws.proofs.WritingSlots.{LeavesElsewhere}

in_three : (xs : List Leaf) (i n : ℕ) → take i xs ++ (take n (drop i xs) ++ drop n (drop i xs)) ≡ xs
in_three xs i n = ap (λ ls. take i xs ++ ls) (take-append-drop n (drop i xs)) ∙ take-append-drop i xs

module _ (leaves new : List Leaf) (from size at : ℕ) (fits : at + length new ≤ size) (within : from + size ≤ length leaves) where
  abbrev leaves' : List Leaf
  leaves' = laid_over (from + at) new leaves

  pub laid_elsewhere : LeavesElsewhere leaves leaves' from size
  laid_elsewhere = record { count = laid_length (from + at) new leaves (omega (arith, fits, within)); apart = away }
    where
      away : (i n : ℕ) → (i + n ≤ from) ⊎ (from + size ≤ i) → take n (drop i leaves') ≡ take n (drop i leaves)
      away i n (inl below) = laid_apart (from + at) new leaves (omega (arith, fits, within)) i n (inl (omega (arith, below)))
      away i n (inr above) = laid_apart (from + at) new leaves (omega (arith, fits, within)) i n (inr (inl (omega (arith, above, fits))))

  abbrev mid : List Leaf
  mid = take size (drop from leaves)

  abbrev front : List Leaf
  front = take from leaves

  abbrev back : List Leaf
  back = drop size (drop from leaves)

  front_length : length front ≡ from
  front_length = length-take-le from leaves (omega (arith, within))

  mid_length : length mid ≡ size
  mid_length = length-take-le size (drop from leaves) (omega (arith, within, length-drop from leaves))

  pub laid_in_stretch : take size (drop from leaves') ≡ spliced mid at new
  laid_in_stretch =
      let written : leaves' ≡ front ++ (spliced mid at new ++ back) =
      laid (from + at) new leaves (omega (arith, fits, within))
      ∙ ap (λ ls. spliced ls (from + at) new) (sym (in_three leaves from size))
      ∙ ap (λ i. spliced (front ++ (mid ++ back)) i new) (omega (arith, front_length))
      ∙ spliced_within front mid back at new (omega (arith, fits, mid_length)) in
      ap (λ ls. take size (drop from ls)) written
      ∙ read_middle front (spliced mid at new) back from size front_length (spliced_length mid at new (omega (arith, fits, mid_length)) ∙ mid_length)
