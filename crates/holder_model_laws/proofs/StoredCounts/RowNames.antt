-- Stored numbers of what weak and unowned storage names, behind cells that are put.
use Rattle.std.proofs.Common.{◌≡◌, ◌+◌, ◌-◌, ◌<◌, ◌≤◌, List, [], ◌∷◌, length, length-set, arith, refl, sym, ap, ◌∙◌, subst, Bool, true, false, cond}
use Rattle.numbered_form.specs.Lists.{Each}
use Rattle.sil_ast.specs.declared.decl.Storage.{Storage}
use Rattle.sil_ast.specs.declared.decl.Storage.TheVariants as storage
use Rattle.sil_ast.specs.declared.place.ObjectId.{ObjectId}
use Rattle.holder_model.specs.holder_model_values.RunValues.Cells.{Cell, Empty, Gone, Keeps}
use Rattle.holder_model.specs.holder_model_values.RunValues.Cells as cells
use Rattle.holder_model.specs.holder_model_values.RunValues.Memory.{Memory}
use Rattle.holder_model.specs.holder_model_values.RunValues.Places.{Home, Inside, OnStack, Place, cells_at, emptied, filled, with_home_cells}
use Rattle.holder_model.specs.holder_model_values.RunValues.Values.{Value}
use Rattle.memory_rules_parts.specs.memory_rules_accesses.declared.access.Operation.{Operation}
use Rattle.holder_model.specs.Holders.{in_cell, in_cells, in_memory, one_object}
use Rattle.holder_model.specs.Outcomes.{Numbers}
use Rattle.holder_model.specs.LoweredRun.LowEffects.{is_first_write}
use Rattle.holder_model.specs.LoweredRun.Stored.{named, unnamed, unowned_named, weakly_named}
use Rattle.holder_model_laws.specs.HolderLaws.inner.Counts.Keeping.{KeepsStrongly}
use Rattle.holder_model_laws.proofs.HolderLaws.Counts.Most.{at_place_most}
use Rattle.holder_model_laws.proofs.HolderLaws.Counts.Places.{emptied_counted, places_counted}
use Rattle.holder_model_laws.proofs.HolderLaws.Counts.Sums.{total_cons}
use Rattle.holder_model_laws.specs.StoredCounts.inner.Items.{AreNamesBehind}
use Rattle.holder_model_laws.specs.StoredCounts.inner.Numbers.{AreNamesStored}
use Rattle.holder_model_laws.specs.StoredCounts.inner.Rows.{IsTaken, IsWritten, KeepNone}
use Rattle.holder_model_laws.proofs.StoredCounts.StoredCounts.{named_at, named_length, unnamed_at, unnamed_length}

-- as many objects where cells are put
pub same_objects : (m : Memory) (home : Home) (kept : List Cell) → length (with_home_cells m home kept).objects ≡ length m.objects
same_objects m OnStack kept = refl
same_objects m (Inside o) kept = length-set m.objects o.0 _

-- cells that keep all strongly keep nothing in another way
pub strong_none : (how : Storage) → (how ≡ storage.Strong → ⊥) → (kept : List Cell) → Each KeepsStrongly kept → KeepNone how kept
strong_none how other [] h weight = refl
strong_none how other (c ∷ kept) h weight =
    let rest = strong_none how other kept h.1 weight in
    let whole : in_cells weight how (c ∷ kept) ≡ in_cell weight how c + in_cells weight how kept = total_cons (in_cell weight how) c kept in
    let first : in_cell weight how c ≡ 0 = one how other c h.0 in
    omega (arith, rest, whole, first)
  where
    by : (how : Storage) → (how ≡ storage.Strong → ⊥) → (x : Value) → in_cell weight how (Keeps storage.Strong x) ≡ 0
    by storage.Strong other x = absurd (other refl)
    by storage.Weak other x = refl
    by storage.Unowned other x = refl

    one : (how : Storage) → (how ≡ storage.Strong → ⊥) → (c : Cell) → KeepsStrongly c → in_cell weight how c ≡ 0
    one how other Gone h = refl
    one how other Empty h = refl
    one how other (Keeps s x) h = ap (λ s. in_cell weight how (Keeps s x)) h ∙ by how other x

module _ (m : Memory) (stored : List Numbers) where
  -- numbers stay where memory names the same
  pub names_stay : (later : Memory) → ((how : Storage) → (how ≡ storage.Strong → ⊥) → (o : ObjectId) → in_memory (one_object o) how later ≡ in_memory (one_object o) how m)
      → AreNamesBehind m later stored stored
  names_stay later same = record {
    size = refl;
    strong = λ o. refl;
    weak = λ o e. e ∙ sym (same storage.Weak (λ q. cc) o);
    unowned = λ o e. e ∙ sym (same storage.Unowned (λ q. cc) o);
  }

  -- a place that is emptied names nothing more
  pub taken_names : (p : Place) → IsTaken m stored p → AreNamesBehind m (emptied m p) stored (unnamed (cells_at m p) stored)
  taken_names p h = record {
    size = unnamed_length stored (cells_at m p);
    strong = λ o. ap (λ (n : Numbers). n.strong) (unnamed_at stored (cells_at m p) h.named o);
    weak = λ o e. ap (λ (n : Numbers). n.weak) (unnamed_at stored (cells_at m p) h.named o) ∙ ap (λ n. n - in_cells (one_object o) storage.Weak (cells_at m p)) e ∙ less storage.Weak o;
    unowned = λ o e. ap (λ (n : Numbers). n.unowned) (unnamed_at stored (cells_at m p) h.named o) ∙ ap (λ n. n - in_cells (one_object o) storage.Unowned (cells_at m p)) e ∙ less storage.Unowned o;
  }
    where
      less : (how : Storage) (o : ObjectId) → in_memory (one_object o) how m - in_cells (one_object o) how (cells_at m p) ≡ in_memory (one_object o) how (emptied m p)
      less how o = let a = (emptied_counted (one_object o) how m p h.within).0 in omega (arith, a)

  module _ (o : Operation) (x : Value) (p : Place) (h : IsWritten m stored o x p) where
    abbrev new : List Cell
    new = (cells.in_cells p.shape).cells x

    put : (how : Storage) (q : ObjectId) → in_memory (one_object q) how (filled m p x) + in_cells (one_object q) how (cells_at m p) ≡ in_memory (one_object q) how m + in_cells (one_object q) how new
    put how q = places_counted (one_object q) how m p new h.within h.as_many

    most : (how : Storage) (q : ObjectId) → in_cells (one_object q) how (cells_at m p) ≤ in_memory (one_object q) how m
    most how q = at_place_most (one_object q) how m p h.within.alive

    -- for the first time
    first_names : is_first_write o ≡ true → AreNamesBehind m (filled m p x) stored (named new stored)
    first_names first = record {
      size = named_length stored new;
      strong = λ q. ap (λ (n : Numbers). n.strong) (named_at stored new h.names q);
      weak = λ q e. ap (λ (n : Numbers). n.weak) (named_at stored new h.names q) ∙ ap (λ n. n + in_cells (one_object q) storage.Weak new) e
          ∙ (let a = put storage.Weak q in let b = (h.first first).0 (one_object q) in omega (arith, a, b));
      unowned = λ q e. ap (λ (n : Numbers). n.unowned) (named_at stored new h.names q) ∙ ap (λ n. n + in_cells (one_object q) storage.Unowned new) e
          ∙ (let a = put storage.Unowned q in let b = (h.first first).1 (one_object q) in omega (arith, a, b));
    }

    abbrev without : List Numbers
    without = unnamed (cells_at m p) stored

    still_stored : AreNamesStored without new
    still_stored = record {
      weakly = subst (λ n. Each (λ (q : ObjectId). q.0 < n) (weakly_named new)) (sym (unnamed_length stored (cells_at m p))) h.names.weakly;
      unowned = subst (λ n. Each (λ (q : ObjectId). q.0 < n) (unowned_named new)) (sym (unnamed_length stored (cells_at m p))) h.names.unowned;
    }

    -- once more
    again_names : AreNamesBehind m (filled m p x) stored (named new without)
    again_names = record {
      size = named_length without new ∙ unnamed_length stored (cells_at m p);
      strong = λ q. ap (λ (n : Numbers). n.strong) (named_at without new still_stored q) ∙ ap (λ (n : Numbers). n.strong) (unnamed_at stored (cells_at m p) h.named q);
      weak = λ q e. ap (λ (n : Numbers). n.weak) (named_at without new still_stored q)
          ∙ ap (λ (n : Numbers). n.weak + in_cells (one_object q) storage.Weak new) (unnamed_at stored (cells_at m p) h.named q)
          ∙ ap (λ n. n - in_cells (one_object q) storage.Weak (cells_at m p) + in_cells (one_object q) storage.Weak new) e
          ∙ (let a = put storage.Weak q in let b = most storage.Weak q in omega (arith, a, b));
      unowned = λ q e. ap (λ (n : Numbers). n.unowned) (named_at without new still_stored q)
          ∙ ap (λ (n : Numbers). n.unowned + in_cells (one_object q) storage.Unowned new) (unnamed_at stored (cells_at m p) h.named q)
          ∙ ap (λ n. n - in_cells (one_object q) storage.Unowned (cells_at m p) + in_cells (one_object q) storage.Unowned new) e
          ∙ (let a = put storage.Unowned q in let b = most storage.Unowned q in omega (arith, a, b));
    }

    pub written_names : AreNamesBehind m (filled m p x) stored (named new (cond (is_first_write o) stored without))
    written_names = at (is_first_write o) refl
      where
        at : (b : Bool) → is_first_write o ≡ b → AreNamesBehind m (filled m p x) stored (named new (cond b stored without))
        at true first = first_names first
        at false other = again_names
