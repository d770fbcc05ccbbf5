-- What is asked of the walks of a function.
use Rattle.std.specs.Prelude.{◌≡◌, List, true, Option}
use Rattle.sil_ast.specs.declared.function.Function.{Function}
use Rattle.sil_ast.specs.declared.place.ValueId.{ValueId}
use Rattle.ownership_kinds_chains.specs.OwnershipChains.Facts.{has}
use Rattle.ownership_kinds_chains.specs.declared.ownership_chains.facts.Facts.{Facts}
use Rattle.ownership_kinds_chains.specs.declared.ownership_marks.mark.MarkSort.{MarkSort}
use Rattle.copy_pairing_model.specs.Removable.{IsFreeAt}

-- on no walk is one of `held` held where one of `values` has a mark of this sort
abbrev pub AreFreeAt : (ValueId → Option Facts) → Function → MarkSort → List ValueId → List ValueId → Type 0
AreFreeAt facts f sort values held = (h : ValueId) → has held h.0 ≡ true → IsFreeAt facts f sort values h
