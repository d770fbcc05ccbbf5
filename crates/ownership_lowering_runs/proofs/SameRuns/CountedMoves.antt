-- Counts behind an item that makes no references, drops none and leaves memory as it is.
use Rattle.std.proofs.Common.{◌≡◌, ℕ, ◌+◌, List, [], ◌∷◌, length, arith, refl, sym, false, Ok}
use Rattle.std.specs.List.{list_any}
use Rattle.std.proofs.lemmas.Bool.{false≢true}
use Rattle.numbered_form.specs.Lists.{Each}
use Rattle.sil_ast.specs.declared.function.Function.{Function}
use Rattle.sil_ast.specs.declared.module.Module.{Module}
use Rattle.sil_ast.specs.declared.place.ObjectId.{ObjectId}
use Rattle.sil_cfg.specs.declared.item.Item.{Item}
use Rattle.sil_cfg_items.specs.Items.{item_defined, item_taken}
use Rattle.holder_model_values.specs.RunValues.Places.{Place}
use Rattle.sil_verifier_runs.specs.holder_model.Data.{Datum}
use Rattle.sil_verifier_runs.specs.holder_model.Effects.{Change, unchanged}
use Rattle.sil_verifier_runs.specs.holder_model.Frames.{Entry, Frame, Gone, Held, Lent, Operands, Plain, is_held, results_put}
use Rattle.sil_verifier_runs.specs.holder_model.HolderStates.{HolderState, in_entry, in_state}
use Rattle.sil_verifier_runs.specs.holder_model.Holders.{of_references, one_object}
use Rattle.sil_verifier_runs.specs.holder_model.ModuleFacts.{facts_of, facts_told}
use Rattle.sil_verifier_runs.specs.holder_model.Outcomes.{Numbers}
use Rattle.sil_verifier_runs.specs.holder_model.States.{Runs, Task}
use Rattle.sil_verifier_runs.specs.holder_model_laws.HolderLaws.inner.Counts.Taking.{IsBelow, in_entries, references_begun, references_ended}
use Rattle.sil_verifier_runs.proofs.holder_model_laws.HolderLaws.Counts.Moves.{items_counted}
use Rattle.sil_verifier_runs.proofs.holder_model_laws.HolderLaws.Counts.Sums.{total_cons}
use Rattle.sil_verifier_runs.specs.holder_model_laws.HolderLaws.inner.Steps.Ways.{left_with, moved, operands_in}
use Rattle.sil_verifier_runs.specs.holder_model_laws.StoredCounts.inner.Numbers.{AreCounts}
use Rattle.sil_verifier_runs.proofs.holder_model_laws.StoredCounts.Turns.{kept_stored}

-- entries of which none is held hold nothing
pub none_held : (weight : ObjectId → ℕ) (entries : List Entry) → list_any is_held entries ≡ false → in_entries weight entries ≡ 0
none_held weight [] e = refl
none_held weight (x ∷ entries) e = at x e (total_cons (in_entry weight) x entries) (λ h. none_held weight entries h)
  where
    at : (x : Entry) → list_any is_held (x ∷ entries) ≡ false → in_entries weight (x ∷ entries) ≡ in_entry weight x + in_entries weight entries
        → (list_any is_held entries ≡ false → in_entries weight entries ≡ 0) → in_entries weight (x ∷ entries) ≡ 0
    at Gone e both rest = let r = rest e in omega (arith, both, r)
    at (Held y) e both rest = absurd (false≢true (sym e))
    at (Lent y) e both rest = let r = rest e in omega (arith, both, r)
    at (Plain y) e both rest = let r = rest e in omega (arith, both, r)

module _ (m : Module) (bound : ℕ) (s : HolderState) (rest : List (Task Frame)) (frame : Frame) (f : Function) (i : Item) (ops : Operands) (rs : List Datum)
    (slots : List Place) (entries : List Entry) (stored : List Numbers) where
  abbrev c : Change
  c = record (unchanged s.memory) { results = rs }

  -- results hold what the operands held that ended
  pub moved_counted : s.tasks ≡ Runs frame ∷ rest → operands_in m (facts_of m) bound s frame f i ≡ Ok ops
      → results_put (facts_told (facts_of m) frame.function) (item_defined f i) rs ops.left ≡ Ok entries → Each (IsBelow (length ops.left)) (item_defined f i)
      → ((weight : ObjectId → ℕ) → of_references weight (references_begun (facts_told (facts_of m) frame.function) (item_defined f i) rs)
      ≡ of_references weight (references_ended (facts_told (facts_of m) frame.function) frame.entries (item_taken f i)))
      → AreCounts s stored → AreCounts (moved m (facts_of m) bound s rest (left_with m (facts_of m) bound frame ops) i c slots entries) stored
  moved_counted at found put each same counts =
      kept_stored s (moved m (facts_of m) bound s rest (left_with m (facts_of m) bound frame ops) i c slots entries) stored
      (record { size = refl; strongly = strongly; named = λ how o. refl }) counts
    where
      strongly : (o : ObjectId) → in_state (one_object o) (moved m (facts_of m) bound s rest (left_with m (facts_of m) bound frame ops) i c slots entries) ≡ in_state (one_object o) s
      strongly o =
          let balance = same (one_object o) in
          let h = items_counted m (facts_of m) bound (one_object o) s rest frame f i ops c [] slots entries at found put each (record { balance = omega (arith, balance) }) in
          omega (arith, h)
