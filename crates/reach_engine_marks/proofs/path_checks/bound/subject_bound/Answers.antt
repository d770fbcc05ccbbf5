use Rattle.std.proofs.Common.{◌≡◌, ◌≢◌, ◌+◌, ◌<◌, ◌≤◌, ℕ, List, length, sym, subst, All, ◌⊎◌, inl, inr, arith}
use Rattle.std.proofs.lemmas.Bool.{cases_eq, cases_lt}
use Rattle.std.proofs.lemmas.List.Elements.{All-weaker, All-nil}
use Rattle.number_tables.specs.PathLists.inner.Lists.{list_at}
use Rattle.number_tables.proofs.PathLists.Items.{list_past}
use Rattle.reach_engine_marks.specs.declared.path_checks.entry.Entry.{Entry}
use Rattle.reach_engine_marks.proofs.path_checks.bound.subject_bound.Goals as goal

higher : (a b : ℕ) (entries : List Entry) → a ≤ b → All (λ (e : Entry). e.subject < a) entries → All (λ (e : Entry). e.subject < b) entries
higher a b entries le h = All-weaker (λ (e : Entry). e.subject < a) (λ (e : Entry). e.subject < b) (λ e lt. omega arith) entries h

pub loop-item-preserved : goal.loop-item-preserved
loop-item-preserved c = record { least = omega arith; fits = c.bound_over-bound.ensures.fits; above = λ i lt. at i lt (cases_eq i c.loop-item.item) }
  where
    here : list_at c.args.entries.now c.loop-item.item ≡ c.at.result.now
    here = sym c.at.ensures

    at : (i : ℕ) → i < c.loop-item.item + 1 → (i ≡ c.loop-item.item) ⊎ (i ≢ c.loop-item.item) → All (λ (e : Entry). e.subject < c.bound_over-bound.result) (list_at c.args.entries.now i)
    at i lt (inl e) =
        let P : List Entry → Type 0 = λ v. All (λ (x : Entry). x.subject < c.bound_over-bound.result) v in
        let Q : ℕ → Type 0 = λ n. All (λ (x : Entry). x.subject < c.bound_over-bound.result) (list_at c.args.entries.now n) in
        subst Q (sym e) (subst P (sym here) c.bound_over-bound.ensures.above)
    at i lt (inr n) = higher c.loop-item.bound c.bound_over-bound.result (list_at c.args.entries.now i) c.bound_over-bound.ensures.kept (c.loop-item.invariant.above i (omega arith))

pub returns-clause-above : goal.returns-clause-above
returns-clause-above c = λ i. at i (cases_lt i (length c.args.entries.now))
  where
    at : (i : ℕ) → (i < length c.args.entries.now) ⊎ (length c.args.entries.now ≤ i) → All (λ (e : Entry). e.subject < c.loop-item.bound) (list_at c.args.entries.now i)
    at i (inl lt) = c.loop-item.invariant.above i (omega arith)
    at i (inr le) =
        let P : List Entry → Type 0 = λ v. All (λ (x : Entry). x.subject < c.loop-item.bound) v in
        subst P (sym (list_past c.args.entries.now i le)) (All-nil (λ (x : Entry). x.subject < c.loop-item.bound))
