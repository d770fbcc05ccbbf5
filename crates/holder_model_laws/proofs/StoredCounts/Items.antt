-- Stored numbers behind an item.
use Rattle.std.proofs.Common.{◌≡◌, ◌⊎◌, inl, inr, ℕ, suc, ◌+◌, ◌<◌, List, [], ◌∷◌, ◌++◌, length, arith, refl, sym, ap, ◌∙◌, subst, true, false, cond, eq-eqb}
use Rattle.std.specs.Prelude.{◌==◌}
use Rattle.std.proofs.lemmas.Bool.{cases_Bool, eqb-true}
use Rattle.numbered_form.specs.Lists.{Each}
use Rattle.sil_ast.specs.declared.module.Module.{Module}
use Rattle.sil_ast.specs.declared.place.ObjectId.{ObjectId}
use Rattle.holder_model.specs.holder_model_values.RunValues.Memory.{Memory, new_object}
use Rattle.holder_model.specs.HolderStates.{HolderState, strong_holders}
use Rattle.holder_model.specs.Holders.{of_references, one_object}
use Rattle.holder_model.specs.ModuleFacts.{ModuleFacts}
use Rattle.holder_model.specs.Outcomes.{Numbers}
use Rattle.holder_model.specs.LoweredRun.LowStepParts.{numbers_for}
use Rattle.holder_model.specs.LoweredRun.Stored.{each_changed, new_numbers, numbers_of, one_more}
use Rattle.holder_model_laws.specs.HolderLaws.inner.Steps.Ways.{left_with, moved}
use Rattle.holder_model_laws.proofs.HolderLaws.Counts.Moves.{items_counted}
use Rattle.holder_model_laws.specs.StoredCounts.inner.Items.{AreItemsStored, AreMade}
use Rattle.holder_model_laws.specs.StoredCounts.inner.Numbers.{holders_of}
use Rattle.holder_model_laws.proofs.StoredCounts.StoredCounts.{each_at, each_length, more_strong_by, new_at, references_more, strong_more}
use Rattle.holder_model_laws.proofs.StoredCounts.Turns.{same_numbers}

length_more : (xs : List Numbers) (x : Numbers) → length (xs ++ x ∷ []) ≡ suc (length xs)
length_more [] x = refl
length_more (y ∷ xs) x = ap suc (length_more xs x)

-- the numbers of what is made anew are put behind the others
pub record MakesNumbers (later : Memory) (made : List ObjectId) (xs : List Numbers) : Type 0 where
  pub size : length (numbers_for later xs) ≡ length later.objects
  pub each : (o : ObjectId) → numbers_of (numbers_for later xs) o ≡ more_strong_by (of_references (one_object o) made) (numbers_of xs o)

pub made_numbers : (m later : Memory) (made : List ObjectId) → AreMade m later made → (xs : List Numbers) → length xs ≡ length m.objects → MakesNumbers later made xs
made_numbers m later _ (AreMade.none e) xs size =
    let same : numbers_for later xs ≡ xs = ap (λ b. cond b xs (xs ++ new_numbers ∷ [])) (eq-eqb (length xs) (length later.objects) (size ∙ sym e)) in
    record { size = ap length same ∙ size ∙ sym e; each = λ o. ap (λ ns. numbers_of ns o) same ∙ strong_more.none (numbers_of xs o) }
made_numbers m later _ (AreMade.one e) xs size = at (cases_Bool (length xs == length later.objects))
  where
    at : ((length xs == length later.objects) ≡ true) ⊎ ((length xs == length later.objects) ≡ false) → MakesNumbers later (new_object m ∷ []) xs
    at (inl same) = let n = eqb-true (length xs) (length later.objects) same in absurd (omega (arith, n, e, size))
    at (inr other) =
        let more : numbers_for later xs ≡ xs ++ new_numbers ∷ [] = ap (λ b. cond b xs (xs ++ new_numbers ∷ [])) other in
        record {
          size = ap length more ∙ length_more xs new_numbers ∙ ap suc size ∙ sym e;
          each = λ o. ap (λ ns. numbers_of ns o) more ∙ new_at xs (new_object m) o (sym size) ∙ ap (λ k. more_strong_by k (numbers_of xs o)) (alone o);
        }
      where
        alone : (o : ObjectId) → one_object o (new_object m) ≡ of_references (one_object o) (new_object m ∷ [])
        alone o = let more = references_more (one_object o) (new_object m) [] in omega (arith, more)

module _ (m : Module) (told : ModuleFacts) (bound : ℕ) where
  pub items_stored : AreItemsStored m told bound
  items_stored s rest frame f i ops c made slots entries stored behind h counts = record { size = numbers.size; each = each }
    where
      next : HolderState
      next = moved m told bound s rest (left_with m told bound frame ops) i c slots entries

      xs : List Numbers
      xs = each_changed one_more c.retained behind

      xs_size : length xs ≡ length s.memory.objects
      xs_size = each_length one_more more_strong_by strong_more c.retained behind ∙ h.named.size ∙ counts.size

      numbers : MakesNumbers c.memory made xs
      numbers = made_numbers s.memory c.memory made h.are_made xs xs_size

      each : (o : ObjectId) → numbers_of (numbers_for c.memory xs) o ≡ holders_of next o
      each o =
          numbers.each o
          ∙ ap (more_strong_by (of_references (one_object o) made))
          (each_at one_more more_strong_by strong_more c.retained behind (subst (λ n. Each (λ (q : ObjectId). q.0 < n) c.retained) (sym h.named.size) h.retained) o)
          ∙ same_numbers _ (holders_of next o) strong
          (h.named.unowned o (ap (λ (n : Numbers). n.unowned) (counts.each o))) (h.named.weak o (ap (λ (n : Numbers). n.weak) (counts.each o)))
        where
          strong : (numbers_of behind o).strong + of_references (one_object o) c.retained + of_references (one_object o) made ≡ strong_holders next o
          strong =
              let before = h.named.strong o in
              let count : (numbers_of stored o).strong ≡ strong_holders s o = ap (λ (n : Numbers). n.strong) (counts.each o) in
              let item = items_counted m told bound (one_object o) s rest frame f i ops c made slots entries h.at h.taken h.put h.each (h.balanced o) in
              omega (arith, before, count, item)
