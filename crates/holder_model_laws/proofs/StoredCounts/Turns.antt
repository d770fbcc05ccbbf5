-- Stored numbers at the end of a deinitialisation, and where no count changes.
use Rattle.std.proofs.Common.{◌≡◌, ℕ, ◌+◌, ◌-◌, List, length-set, arith, refl, sym, ap, ◌∙◌}
use Rattle.sil_ast.specs.declared.decl.Storage.{Storage}
use Rattle.sil_ast.specs.declared.decl.Storage.TheVariants as storage
use Rattle.sil_ast.specs.declared.module.Module.{Module}
use Rattle.sil_ast.specs.declared.place.ObjectId.{ObjectId}
use Rattle.holder_model.specs.holder_model_values.RunValues.Cells.{Cell}
use Rattle.holder_model.specs.holder_model_values.RunValues.Memory.{object_at}
use Rattle.holder_model.specs.HolderStates.{strong_holders}
use Rattle.holder_model.specs.Holders.{in_cells, in_memory, one_object, unowned_holders, weak_holders}
use Rattle.holder_model.specs.ModuleFacts.{ModuleFacts}
use Rattle.holder_model.specs.Outcomes.{Numbers}
use Rattle.holder_model_laws.specs.HolderLaws.inner.Steps.Ways.{finished}
use Rattle.holder_model_laws.proofs.HolderLaws.Counts.Moves.{finishes_counted}
use Rattle.holder_model_laws.proofs.HolderLaws.Counts.Places.{deaths_counted}
use Rattle.holder_model_laws.specs.StoredCounts.inner.Numbers.{holders_of}
use Rattle.holder_model_laws.specs.StoredCounts.inner.Turns.{AreDeathsStored, AreKeptStored, AreTasksStored}
use Rattle.holder_model_laws.proofs.StoredCounts.StoredCounts.{less_unowned_by, less_weak_by, unnamed_at, unnamed_length}

-- numbers are the same where each is
pub same_numbers : (a b : Numbers) → a.strong ≡ b.strong → a.unowned ≡ b.unowned → a.weak ≡ b.weak → a ≡ b
same_numbers a b strong unowned weak =
    ap (λ n. record { strong = n; unowned = a.unowned; weak = a.weak }) strong
    ∙ ap (λ n. record { strong = b.strong; unowned = n; weak = a.weak }) unowned
    ∙ ap (λ n. record { strong = b.strong; unowned = b.unowned; weak = n }) weak

-- ---- what changes no count

pub kept_stored : AreKeptStored
kept_stored s next stored same counts = record {
  size = counts.size ∙ sym same.size;
  each = λ o. counts.each o ∙ sym (same_numbers (holders_of next o) (holders_of s o) (same.strongly o) (same.named storage.Unowned o) (same.named storage.Weak o));
}

pub tasks_stored : AreTasksStored
tasks_stored s tasks stored same counts =
    kept_stored s (record s { tasks = tasks }) stored (record {
      size = refl;
      strongly = λ o. ap (λ n. n + in_memory (one_object o) storage.Strong s.memory) (same o);
      named = λ how o. refl;
    }) counts

-- ---- deinitialisations

module _ (m : Module) (told : ModuleFacts) (bound : ℕ) where
  pub deaths_stored : AreDeathsStored m told bound
  deaths_stored s o stored alive named counts = record {
    size = unnamed_length stored cells ∙ counts.size ∙ sym (length-set s.memory.objects o.0 _);
    each = λ p.
        unnamed_at stored cells named p
        ∙ ap (λ n. less_weak_by (in_cells (one_object p) storage.Weak cells) (less_unowned_by (in_cells (one_object p) storage.Unowned cells) n)) (counts.each p)
        ∙ same_numbers
        (record {
          strong = strong_holders s p;
          unowned = unowned_holders s.memory p - in_cells
              (one_object p) storage.Unowned cells;
          weak = weak_holders s.memory p - in_cells (one_object p) storage.Weak cells;
        })
        (holders_of (finished m told bound s o) p) (sym (finishes_counted m told bound (one_object p) s o alive)) (less storage.Unowned p) (less storage.Weak p);
  }
    where
      cells : List Cell
      cells = (object_at s.memory o).cells

      less : (how : Storage) (p : ObjectId) → in_memory (one_object p) how s.memory - in_cells (one_object p) how cells ≡ in_memory (one_object p) how (finished m told bound s o).memory
      less how p = let a = deaths_counted (one_object p) how s.memory o alive in omega (arith, a)
