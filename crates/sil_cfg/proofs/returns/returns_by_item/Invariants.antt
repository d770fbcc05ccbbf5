use Rattle.std.proofs.Common.{◌≡◌, ℕ, ◌<◌, length, Some, false}
use Rattle.std.specs.Prelude.{slice_index_or}
use Rattle.sil_cfg.specs.Layout.{item_at}
use Rattle.sil_cfg.specs.declared.item.Item.{Item}
use Rattle.sil_cfg.specs.Returns.{is_return}
use Rattle.sil_cfg.proofs.returns.returns_by_item.Given as goal

abbrev pub invariant-loop-i : goal.invariant-loop-i
invariant-loop-i l = record {
  size : length l.returns.items ≡ l.i;
  returns : (n : ℕ) (item : Item) → n < l.i → item_at l.g n ≡ Some item → slice_index_or l.returns.items n false ≡ is_return l.f item;
}
