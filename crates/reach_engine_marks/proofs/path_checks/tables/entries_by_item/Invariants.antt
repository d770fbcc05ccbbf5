use Rattle.std.proofs.Common.{◌≡◌, ℕ, ◌<◌, length, Some}
use Rattle.number_tables.specs.PathLists.inner.Lists.{list_at}
use Rattle.sil_cfg.specs.Layout.{item_at}
use Rattle.sil_cfg.specs.declared.item.Item.{Item}
use Rattle.reach_engine_marks.proofs.path_checks.tables.entries_by_item.Given as goal

abbrev pub invariant-loop-i : goal.invariant-loop-i
invariant-loop-i g l = record {
  size : length l.all ≡ l.i;
  entries : (n : ℕ) (item : Item) → n < l.i → item_at l.g n ≡ Some item → list_at l.all n ≡ g.T.ItemTable.entries_at l.table n item;
}
