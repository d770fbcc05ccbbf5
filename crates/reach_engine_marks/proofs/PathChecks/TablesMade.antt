-- What a table says of each item, where one item more is told of.
use Rattle.std.proofs.Common.{◌≡◌, ◌≢◌, ◌+◌, ◌<◌, ℕ, List, [], ◌∷◌, ◌++◌, length, sym, ap, ap₂, ◌∙◌, ◌⊎◌, inl, inr, Some, arith}
use Rattle.std.proofs.lemmas.Bool.{cases_eq}
use Rattle.std.proofs.lemmas.Option.{same_Some}
use Rattle.sil_cfg.specs.declared.item.Item.{Item}
use Rattle.sil_cfg.specs.Layout.{Layout, item_at}
use Rattle.number_tables.specs.PathLists.inner.Lists.{list_at}
use Rattle.number_tables.proofs.PathLists.Items.{list_kept, list_last}
use Rattle.reach_engine_marks.specs.declared.path_checks.entry.Entry as entry

pub one_more : (g : Layout) (entries : ℕ → Item → List entry.Entry) (all : List (List entry.Entry)) (n : ℕ) (here : Item) → length all ≡ n → item_at g n ≡ Some here →
    ((k : ℕ) (item : Item) → k < n → item_at g k ≡ Some item → list_at all k ≡ entries k item) →
    (k : ℕ) (item : Item) → k < n + 1 → item_at g k ≡ Some item → list_at (all ++ entries n here ∷ []) k ≡ entries k item
one_more g entries all n here size is h k item lt e = at (cases_eq k n)
  where
    at : (k ≡ n) ⊎ (k ≢ n) → list_at (all ++ entries n here ∷ []) k ≡ entries k item
    at (inl same) =
        list_last all (entries n here) k (same ∙ sym size)
        ∙ ap₂ (λ (i : ℕ) (x : Item). entries i x) (sym same) (same_Some here item (sym is ∙ ap (item_at g) (sym same) ∙ e))
    at (inr ne) = list_kept all (entries n here) k (omega arith) ∙ h k item (omega arith) e
